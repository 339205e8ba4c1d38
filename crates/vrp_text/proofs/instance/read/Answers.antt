use Rattle.vrp_text.specs.Inner.InMemory.{complete_in}
use Rattle.vrp_text.proofs.InstanceLemmas.{if_meant, if_refused}
use Rattle.vrp_text.proofs.instance.read.Goals as goal

pub returns-clause-meant : goal.returns-clause-meant
returns-clause-meant c =
    if_meant c.args.bytes.now c.args.chosen (complete_in c.in_ok-complete.complete) c.instance_of.result c.in_ok-complete.ensures.read c.instance_of.ensures.sound c.instance_of.ensures.meant

pub returns-clause-refused : goal.returns-clause-refused
returns-clause-refused c =
    if_refused c.args.bytes.now c.args.chosen (complete_in c.in_ok-complete.complete) c.instance_of.result c.in_ok-complete.ensures.read c.instance_of.ensures.refused
