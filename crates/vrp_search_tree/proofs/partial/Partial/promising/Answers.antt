use Rattle.std.proofs.Common.{◌∙◌, [], ◌∷◌, ◌++◌, inl, inr, true≢false, sym, subst, arith}
use Rattle.std.proofs.lemmas.Grind.{common_steps}
use Rattle.std.proofs.lemmas.Int.{ints}
use Rattle.vrp_search_tree.specs.Low.{IsLow}
use Rattle.vrp_search_tree.proofs.LowBounds.{NoneUnder, covered_more, none_if_no_completion, none_if_costlier, none_left, none_under}
use Rattle.vrp_search_tree.proofs.Promising.{no_completion_of_no_use, costly_of_no_use, may_be_of_use, none_of_no_use}
use Rattle.vrp_search_tree.proofs.partial.Partial.promising.Goals.{else-low-incumbent-via-then-low-incumbent+else-low-own_best, else-low-incumbent-via-else-low-incumbent}
use Rattle.vrp_search_tree.proofs.partial.Partial.promising.Goals as goal

pub returns-then-child_has_no_completion-clause-of_use : goal.returns-then-child_has_no_completion-clause-of_use
returns-then-child_has_no_completion-clause-of_use c = λ w lawful begins.
    absurd (c.prefixes_without_completion.ensures c.args.self.now.problem (c.args.self.now.word ++ c.args.symbol ∷ []) w c.child_has_no_completion.ensures.problem (c.child_has_no_completion.ensures.no_completion.0 c.if-child_has_no_completion.true) lawful begins)

pub returns-in_default-clause-of_use : goal.returns-in_default-clause-of_use
returns-in_default-clause-of_use c =
    let p = c.args.self.now.problem in
    let among = c.args.tables.now.among in
    let word = c.args.self.now.word ++ c.args.symbol ∷ [] in
    let covered = covered_more p among c.args.self.now.word (c.args.symbol ∷ []) c.requires.covered in
    let none = none_under c.bounds_hold.ensures p among word c.child_low.result c.child_has_no_completion.ensures.problem covered c.child_low.ensures in
    none_if_no_completion p word c.args.incumbent c.args.own_best (none_left p word c.child_low.result none c.in_default.not-Some)

pub returns-else-low-incumbent-clause-of_use : goal.returns-else-low-incumbent-clause-of_use
returns-else-low-incumbent-clause-of_use c =
    let p = c.args.self.now.problem in
    let among = c.args.tables.now.among in
    let word = c.args.self.now.word ++ c.args.symbol ∷ [] in
    let covered = covered_more p among c.args.self.now.word (c.args.symbol ∷ []) c.requires.covered in
    let none = none_under c.bounds_hold.ensures p among word c.child_low.result c.child_has_no_completion.ensures.problem covered c.child_low.ensures in
    none_if_costlier p word c.in-Some.low c.args.incumbent c.args.own_best (subst (NoneUnder p word) c.in-Some.is none) (elim c.else-low-incumbent.branch [
      | else-low-incumbent-via-then-low-incumbent+else-low-own_best w ↦ inr (omega (arith, w.if-low-own_best.false))
      | else-low-incumbent-via-else-low-incumbent w ↦ inl (omega (arith, w.if-low-incumbent.false))
    ])

pub returns-then-child_has_no_completion-clause-exact : goal.returns-then-child_has_no_completion-clause-exact
returns-then-child_has_no_completion-clause-exact c =
    no_completion_of_no_use c.args.self.now.problem c.args.tables.now.among (c.args.self.now.word ++ c.args.symbol ∷ []) c.args.incumbent c.args.own_best (c.child_has_no_completion.ensures.no_completion.0 c.if-child_has_no_completion.true)

pub returns-in_default-clause-exact : goal.returns-in_default-clause-exact
returns-in_default-clause-exact c =
    none_of_no_use c.args.self.now.problem c.args.tables.now.among (c.args.self.now.word ++ c.args.symbol ∷ []) c.child_low.result c.args.incumbent c.args.own_best c.child_has_no_completion.ensures.problem c.child_low.ensures c.in_default.not-Some

pub returns-else-low-incumbent-clause-exact : goal.returns-else-low-incumbent-clause-exact
returns-else-low-incumbent-clause-exact c =
    let p = c.args.self.now.problem in
    let among = c.args.tables.now.among in
    let word = c.args.self.now.word ++ c.args.symbol ∷ [] in
    costly_of_no_use p among word c.in-Some.low c.args.incumbent c.args.own_best c.child_has_no_completion.ensures.problem (subst (IsLow p among word) c.in-Some.is c.child_low.ensures) (elim c.else-low-incumbent.branch [
      | else-low-incumbent-via-then-low-incumbent+else-low-own_best w ↦ inr (omega (arith, w.if-low-own_best.false))
      | else-low-incumbent-via-else-low-incumbent w ↦ inl (omega (arith, w.if-low-incumbent.false))
    ])

pub returns-then-low-own_best-clause-exact : goal.returns-then-low-own_best-clause-exact
returns-then-low-own_best-clause-exact c =
    let p = c.args.self.now.problem in
    let among = c.args.tables.now.among in
    let word = c.args.self.now.word ++ c.args.symbol ∷ [] in
    may_be_of_use p among word c.in-Some.low c.args.incumbent c.args.own_best (λ no_completion. absurd (true≢false (sym (c.child_has_no_completion.ensures.no_completion.1 no_completion) ∙ c.if-child_has_no_completion.false))) (subst (IsLow p among word) c.in-Some.is c.child_low.ensures) (omega (arith, c.if-low-incumbent.true)) (omega (arith, c.if-low-own_best.true))

pub tally_after-tally-requires : goal.tally_after-tally-requires
tally_after-tally-requires c = c.requires.child

pub child_has_no_completion-requires : goal.child_has_no_completion-requires
child_has_no_completion-requires c = c.tally_after-tally.ensures.tally

pub child_low-requires-clause-tables : goal.child_low-requires-clause-tables
child_low-requires-clause-tables c = c.requires.tables

pub child_low-requires-clause-covered : goal.child_low-requires-clause-covered
child_low-requires-clause-covered c = c.requires.covered

pub child_low-requires-clause-child : goal.child_low-requires-clause-child
child_low-requires-clause-child c = c.requires.child

pub child_low-requires-clause-tally : goal.child_low-requires-clause-tally
child_low-requires-clause-tally c = c.tally_after-tally.ensures.tally

pub returns-then-low-own_best-clause-of_use : goal.returns-then-low-own_best-clause-of_use
returns-then-low-own_best-clause-of_use c = grind (ints, arith, common_steps)
