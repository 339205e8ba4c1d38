use Rattle.std.proofs.Common.{◌≡◌, Some, pos, get_or, to_z, of_z, w64, rules}
use Rattle.vrp_text.specs.Complete.{no_node}
use Rattle.vrp_text.proofs.NodeLemmas.{depot_refused, depots_all, depots_push, depots_start}
use Rattle.vrp_text.proofs.nodes.depots_of.Goals as goal

pub loop-number-init : goal.loop-number-init
loop-number-init c = depots_start c.args.nodes c.args.numbers.now _ c.in_ok-depots.ensures.items

pub returns-in_err-depot_of-clause-refused : goal.returns-in_err-depot_of-clause-refused
returns-in_err-depot_of-clause-refused c =
    let number = get_or c.args.numbers.now c.loop-number.number-index (pos 0) in
    let same : number ≡ to_z w64 (of_z w64 number) = search rules in
    let bad : no_node c.args.nodes c.args.numbers.now ≡ Some (to_z w64 (of_z w64 number)) = depot_refused c.args.nodes c.args.numbers.now c.loop-number.depots.items c.loop-number.number-index _ c.loop-number-test.true same c.loop-number.invariant c.in_err-depot_of.ensures.no_node in
    search rules

pub loop-number-preserved : goal.loop-number-preserved
loop-number-preserved c =
    let number = get_or c.args.numbers.now c.loop-number.number-index (pos 0) in
    let same : number ≡ to_z w64 (of_z w64 number) = search rules in
    depots_push c.args.nodes c.args.numbers.now c.loop-number.depots.items c.push.new.self.items c.loop-number.number-index _ c.in_ok-depot_of.field-0 c.loop-number-test.true same c.loop-number.invariant c.in_ok-depot_of.ensures.node c.in_ok-depot_of.ensures.value c.in_ok-depot_of.ensures.within c.in_ok-push.ensures.items

pub returns-clause-sound : goal.returns-clause-sound
returns-clause-sound c =
    (depots_all c.args.nodes c.args.numbers.now c.loop-number.depots.items c.loop-number.number-index c.loop-number-test.false c.loop-number.invariant).0

pub returns-clause-value : goal.returns-clause-value
returns-clause-value c =
    (depots_all c.args.nodes c.args.numbers.now c.loop-number.depots.items c.loop-number.number-index c.loop-number-test.false c.loop-number.invariant).1
