use Rattle.std.proofs.Common.{◌≡◌, ◌∙◌, ℕ, List, sym, subst, ap, arith}
use Rattle.vrp_model.specs.Problem.{IsProblem, Problem}
use Rattle.vrp_model.specs.Word.{IsPrefix}
use Rattle.vrp_search_tree.specs.Partial.{PartialPlan}
use Rattle.vrp_search_tree.specs.Low.{AreCovered, IsLow}
use Rattle.vrp_search_tree.proofs.LowBounds.{NoneUnder, none_left, none_under}
use Rattle.vrp_search_tree.proofs.piece_search.depth_first.open_root.Goals as goal

pub low-requires-clause-covered : goal.low-requires-clause-covered
low-requires-clause-covered g c =
    let word : c.args.piece.now.word ≡ c.in_ok-partial.partial.word = sym (ap (λ (v : PartialPlan). v.word) c.in_ok-partial.ensures ∙ c.word.ensures) in
    let problem : c.args.instance.now ≡ c.in_ok-partial.partial.problem = sym (ap (λ (v : PartialPlan). v.problem) c.in_ok-partial.ensures) in
    subst (λ (q : Problem). AreCovered q c.args.tables.now.among c.in_ok-partial.partial.word) problem (subst (AreCovered c.args.instance.now c.args.tables.now.among) word c.requires.covered)

pub returns-in_default-clause-none : goal.returns-in_default-clause-none
returns-in_default-clause-none g c =
    let p = c.args.instance.now in
    let root = c.args.piece.now.word in
    let among = c.args.tables.now.among in
    let problem : c.in_ok-partial.partial.problem ≡ p = ap (λ (v : PartialPlan). v.problem) c.in_ok-partial.ensures in
    let word : c.in_ok-partial.partial.word ≡ root = ap (λ (v : PartialPlan). v.word) c.in_ok-partial.ensures ∙ c.word.ensures in
    let is_low = subst (λ (w : List ℕ). IsLow p among w c.low.result) word (subst (λ (q : Problem). IsLow q among c.in_ok-partial.partial.word c.low.result) problem c.low.ensures.low) in
    let none = none_under c.bounds_hold.ensures p among root c.low.result (subst IsProblem problem c.low.ensures.problem) c.requires.covered is_low in
    λ w lawful begins. absurd (none_left p root c.low.result none c.in_default.not-Some w lawful begins)

pub returns-then-least-low-clause-none : goal.returns-then-least-low-clause-none
returns-then-least-low-clause-none g c =
    let p = c.args.instance.now in
    let root = c.args.piece.now.word in
    let among = c.args.tables.now.among in
    let problem : c.in_ok-partial.partial.problem ≡ p = ap (λ (v : PartialPlan). v.problem) c.in_ok-partial.ensures in
    let word : c.in_ok-partial.partial.word ≡ root = ap (λ (v : PartialPlan). v.word) c.in_ok-partial.ensures ∙ c.word.ensures in
    let is_low = subst (λ (w : List ℕ). IsLow p among w c.low.result) word (subst (λ (q : Problem). IsLow q among c.in_ok-partial.partial.word c.low.result) problem c.low.ensures.low) in
    let none = none_under c.bounds_hold.ensures p among root c.low.result (subst IsProblem problem c.low.ensures.problem) c.requires.covered is_low in
    let cheapest = subst (NoneUnder p root) c.in-Some.is none in
    λ w lawful begins. omega (arith, c.least.ensures.answered, c.if-least-low.true, cheapest w lawful begins)

pub returns-clause-none_cheaper : goal.returns-clause-none_cheaper
returns-clause-none_cheaper g c =
    let p = c.args.instance.now in
    let root = c.args.piece.now.word in
    let among = c.args.tables.now.among in
    let problem : c.in_ok-partial.partial.problem ≡ p = ap (λ (v : PartialPlan). v.problem) c.in_ok-partial.ensures in
    let word : c.in_ok-partial.partial.word ≡ root = ap (λ (v : PartialPlan). v.word) c.in_ok-partial.ensures ∙ c.word.ensures in
    let is_low = subst (λ (w : List ℕ). IsLow p among w c.low.result) word (subst (λ (q : Problem). IsLow q among c.in_ok-partial.partial.word c.low.result) problem c.low.ensures.low) in
    let none = none_under c.bounds_hold.ensures p among root c.low.result (subst IsProblem problem c.low.ensures.problem) c.requires.covered is_low in
    subst (NoneUnder p root) c.in-Some.is none

pub at_prefix-requires : goal.at_prefix-requires
at_prefix-requires g c = subst (IsPrefix c.args.instance.now) (sym c.word.ensures) c.requires.piece

pub returns-in_err-partial-clause-serves : goal.returns-in_err-partial-clause-serves
returns-in_err-partial-clause-serves g c = c.requires.board

pub returns-in_err-partial-clause-keeps : goal.returns-in_err-partial-clause-keeps
returns-in_err-partial-clause-keeps g c = λ earlier kept. kept

pub returns-in_err-partial-clause-falls : goal.returns-in_err-partial-clause-falls
returns-in_err-partial-clause-falls g c = omega arith

pub returns-then-has_no_completion-clause-serves : goal.returns-then-has_no_completion-clause-serves
returns-then-has_no_completion-clause-serves g c = c.requires.board

pub returns-then-has_no_completion-clause-keeps : goal.returns-then-has_no_completion-clause-keeps
returns-then-has_no_completion-clause-keeps g c = λ earlier kept. kept

pub returns-then-has_no_completion-clause-falls : goal.returns-then-has_no_completion-clause-falls
returns-then-has_no_completion-clause-falls g c = omega arith

pub returns-then-has_no_completion-clause-at : goal.returns-then-has_no_completion-clause-at
returns-then-has_no_completion-clause-at g c = tt

pub returns-then-has_no_completion-clause-low : goal.returns-then-has_no_completion-clause-low
returns-then-has_no_completion-clause-low g c = tt

pub returns-then-has_no_completion-clause-none_cheaper : goal.returns-then-has_no_completion-clause-none_cheaper
returns-then-has_no_completion-clause-none_cheaper g c = tt

pub low-requires-clause-tables : goal.low-requires-clause-tables
low-requires-clause-tables g c = c.requires.tables ∙ sym (ap (λ (v : PartialPlan). v.problem) c.in_ok-partial.ensures)

pub returns-in_default-clause-serves : goal.returns-in_default-clause-serves
returns-in_default-clause-serves g c = c.requires.board

pub returns-in_default-clause-keeps : goal.returns-in_default-clause-keeps
returns-in_default-clause-keeps g c = λ earlier kept. kept

pub returns-in_default-clause-falls : goal.returns-in_default-clause-falls
returns-in_default-clause-falls g c = omega arith

pub returns-in_default-clause-at : goal.returns-in_default-clause-at
returns-in_default-clause-at g c = tt

pub returns-in_default-clause-low : goal.returns-in_default-clause-low
returns-in_default-clause-low g c = tt

pub returns-in_default-clause-none_cheaper : goal.returns-in_default-clause-none_cheaper
returns-in_default-clause-none_cheaper g c = tt

pub returns-then-least-low-clause-serves : goal.returns-then-least-low-clause-serves
returns-then-least-low-clause-serves g c = c.least.ensures.serves c.args.instance.now c.requires.board

pub returns-then-least-low-clause-keeps : goal.returns-then-least-low-clause-keeps
returns-then-least-low-clause-keeps g c = c.least.ensures.keeps

pub returns-then-least-low-clause-falls : goal.returns-then-least-low-clause-falls
returns-then-least-low-clause-falls g c = c.least.ensures.falls

pub returns-then-least-low-clause-at : goal.returns-then-least-low-clause-at
returns-then-least-low-clause-at g c = tt

pub returns-then-least-low-clause-low : goal.returns-then-least-low-clause-low
returns-then-least-low-clause-low g c = tt

pub returns-then-least-low-clause-none_cheaper : goal.returns-then-least-low-clause-none_cheaper
returns-then-least-low-clause-none_cheaper g c = tt

pub returns-clause-serves : goal.returns-clause-serves
returns-clause-serves g c = c.least.ensures.serves c.args.instance.now c.requires.board

pub returns-clause-keeps : goal.returns-clause-keeps
returns-clause-keeps g c = c.least.ensures.keeps

pub returns-clause-falls : goal.returns-clause-falls
returns-clause-falls g c = c.least.ensures.falls

pub returns-clause-none : goal.returns-clause-none
returns-clause-none g c = tt

pub returns-clause-at : goal.returns-clause-at
returns-clause-at g c = subst (λ (w : List ℕ). c.in_ok-partial.partial ≡ record { problem = c.args.instance.now; word = w }) c.word.ensures c.in_ok-partial.ensures

pub returns-clause-low : goal.returns-clause-low
returns-clause-low g c =
    let p = c.args.instance.now in
    let root = c.args.piece.now.word in
    let among = c.args.tables.now.among in
    let problem : c.in_ok-partial.partial.problem ≡ p = ap (λ (v : PartialPlan). v.problem) c.in_ok-partial.ensures in
    let word : c.in_ok-partial.partial.word ≡ root = ap (λ (v : PartialPlan). v.word) c.in_ok-partial.ensures ∙ c.word.ensures in
    let is_low = subst (λ (w : List ℕ). IsLow p among w c.low.result) word (subst (λ (q : Problem). IsLow q among c.in_ok-partial.partial.word c.low.result) problem c.low.ensures.low) in
    subst (IsLow p among root) c.in-Some.is is_low
