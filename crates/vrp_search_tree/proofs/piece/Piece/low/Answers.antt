use Rattle.std.proofs.Common.{◌≡◌, ◌∙◌, ℕ, List, sym, subst, ap}
use Rattle.vrp_model.specs.Problem.{IsProblem, Problem}
use Rattle.vrp_search_tree.specs.Partial.{PartialPlan}
use Rattle.vrp_search_tree.specs.Low.{AreCovered, IsLow}
use Rattle.vrp_search_tree.proofs.LowBounds.{NoneUnder, none_under}
use Rattle.vrp_search_tree.proofs.piece.Piece.low.Goals as goal

pub low-requires-clause-covered : goal.low-requires-clause-covered
low-requires-clause-covered c =
    let partial = c.in_ok-partial.partial in
    let word : c.args.self.now.word ≡ partial.word = sym (ap (λ (v : PartialPlan). v.word) c.in_ok-partial.ensures ∙ c.word.ensures) in
    let problem : c.args.instance.now ≡ partial.problem = sym (ap (λ (v : PartialPlan). v.problem) c.in_ok-partial.ensures) in
    subst (λ (q : Problem). AreCovered q c.args.tables.now.among partial.word) problem (subst (AreCovered c.args.instance.now c.args.tables.now.among) word c.requires.covered)

pub returns-clause-none_cheaper : goal.returns-clause-none_cheaper
returns-clause-none_cheaper c = λ low is.
    let p = c.args.instance.now in
    let among = c.args.tables.now.among in
    let partial = c.in_ok-partial.partial in
    let word : partial.word ≡ c.args.self.now.word = ap (λ (v : PartialPlan). v.word) c.in_ok-partial.ensures ∙ c.word.ensures in
    let problem : partial.problem ≡ p = ap (λ (v : PartialPlan). v.problem) c.in_ok-partial.ensures in
    let is_low = subst (λ (w : List ℕ). IsLow p among w c.low.result) word (subst (λ (q : Problem). IsLow q among partial.word c.low.result) problem c.low.ensures.low) in
    let none = none_under c.bounds_hold.ensures p among c.args.self.now.word c.low.result (subst IsProblem problem c.low.ensures.problem) c.requires.covered is_low in
    subst (NoneUnder p c.args.self.now.word) is none
