use Rattle.std.proofs.Common.{◌==◌, not, rules}
use Rattle.std.specs.Prelude.{codes}
use Rattle.std.proofs.lemmas.Iterator.Consumers.{YieldsList-at}
use Rattle.std.proofs.lemmas.Iterator.Search.{YieldsList-from_take_while, find_from_yields_List}
use Rattle.std.proofs.lemmas.Iterator.Splits.{YieldsList-from_slice_split}
use borrow.Author.Tests.{tests}
use Rattle.vrp_plan_text.specs.Name.{has_keyword}
use Rattle.vrp_plan_text.proofs.writing.name.name_line.Goals as goal

pub returns : goal.returns
returns c =
    find_from_yields_List (has_keyword (codes "NAME")) _ _ _ c.find.ensures.ran
    (YieldsList-from_take_while _ (λ line. not (has_keyword (codes "EOF") line))
    (YieldsList-at c.take_while.ensures.source (YieldsList-from_slice_split _ (λ byte. byte == 10) c.args.bytes.now c.split.ensures.rest c.split.ensures.done c.split.ensures.closure (λ x b q k. search (rules, tests))))
    c.take_while.ensures.closure c.take_while.ensures.done (λ x b q k. search (rules, tests)))
    (λ x b q k. search (rules, tests))
