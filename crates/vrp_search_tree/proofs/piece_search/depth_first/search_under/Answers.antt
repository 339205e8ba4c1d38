use Rattle.std.proofs.Common.{◌≡◌, ◌-◌, ◌*◌, ◌≢◌, ◌⊎◌, IsTrue, ◌∙◌, ℕ, ◌+◌, ◌≤◌, ◌<◌, List, [], ◌∷◌, ◌++◌, length, length-append, refl, sym, subst, ap, arith}
use Rattle.vrp_model.specs.Problem.{Problem}
use Rattle.vrp_model.specs.declared.limits.TheConstants.{NO_COST}
use Rattle.vrp_model.specs.Word.{TreeHasAtLeast, word_cost}
use Rattle.vrp_search_tree.specs.Child.{IsNextChild, NoChildFrom}
use Rattle.vrp_search_tree.specs.Inner.LastOffer.{IsLastOffer}
use Rattle.vrp_search_tree.specs.Low.{AreCovered}
use Rattle.vrp_search_tree.specs.Pruned.{NoneOfUse}
use Rattle.vrp_search_tree.proofs.LowBounds.{covered_under}
use Rattle.vrp_search_tree.specs.Partial.{PartialPlan}
use Rattle.vrp_search_tree.specs.Search.{IsFinished}
use Rattle.vrp_search_tree.proofs.SearchProgress.{Progress, descended, ends_at_last, no_use, opened, pruned, returned, unfinished}
use Rattle.vrp_search_tree.proofs.piece_search.depth_first.search_under.Goals as goal

-- one more is spent, and the word has at most one symbol more
spent_more : (budget old new a b : ℕ) → new ≡ old + 1 → new ≤ budget → b ≤ a + 1 → 2 * (budget - new) + b < 2 * (budget - old) + a
spent_more budget old new a b is within longer = omega (arith, is, within, longer)

-- what is still to spend is the same, and the word has a symbol fewer
one_fewer : (more : ℕ) (word popped : List ℕ) (last : ℕ) → word ≡ popped ++ last ∷ [] → more + length popped < more + length word
one_fewer more word popped last is = omega (arith, ap length is, length-append popped (last ∷ []))

pub loop-spending-init : goal.loop-spending-init
loop-spending-init g c =
    let p = c.args.partial.now.problem in
    let root = c.args.partial.now.word in
    let floor = g.B.Board.floor c.offer_complete.new.board in
    let kept = subst (λ f. IsLastOffer p root floor f c.offer_complete.new.self.plan) c.nothing-found.ensures c.in_ok-offer_complete.ensures.kept in
    let progress = opened p root floor c.offer_complete.new.self.plan c.depth-root.ensures.prefix
    (λ w lawful.
    let plan = c.words_are_plans.ensures p w lawful in
    omega (arith, c.plans_cost_less.ensures p plan.0 c.depth-root.ensures.problem plan.2, plan.5)) kept in
    record {
      problem = refl;
      progress = subst (λ n. Progress p root root 0 n floor c.offer_complete.new.self.plan) (sym c.first-spending.ensures.spent) progress;
      serves = c.offer_complete.ensures.serves;
      keeps = c.offer_complete.ensures.keeps;
      falls = c.offer_complete.ensures.falls;
      some = omega (arith, c.first-spending.ensures.spent);
      budget = c.first-spending.ensures.budget;
      within = omega (arith, c.first-spending.ensures.spent, c.requires.budget);
    }

pub returns-in-Some-clause-ended : goal.returns-in-Some-clause-ended
returns-in-Some-clause-ended g c = λ among is_low.
    let p = c.args.partial.now.problem in
    let root = c.args.partial.now.word in
    let child = subst (λ (q : Problem). IsNextChild q c.loop-spending.partial.word c.loop-spending.next c.in-Some.field-0) c.loop-spending.invariant.problem c.in-Some.ensures.next in
    let tree = unfinished p root c.loop-spending.partial.word c.loop-spending.next c.in-Some.field-0 c.loop-spending.spending.spent (g.B.Board.floor c.loop-spending.board) c.loop-spending.found.plan c.loop-spending.invariant.progress child in
    record {
      within = omega (arith, c.is_over.ensures.spent, c.loop-spending.invariant.within);
      all_spent = subst (λ n. (c.is_over.new.self.spent ≡ n) ⊎ IsTrue (g.B.Board.may_stop c.loop-spending.board)) (c.is_over.ensures.budget ∙ c.loop-spending.invariant.budget) (c.is_over.ensures.over c.if-is_over.true);
      tree = subst (λ n. TreeHasAtLeast p root (n + 1)) (sym c.is_over.ensures.spent) tree;
      is_low = is_low;
      none_cheaper = c.requires.low;
    }

pub promising-requires-clause-covered : goal.promising-requires-clause-covered
promising-requires-clause-covered g c =
    let among = c.args.tables.now.among in
    let root = c.args.partial.now.word in
    covered_under c.loop-spending.partial.problem among root c.loop-spending.partial.word (subst (λ (q : Problem). AreCovered q among root) (sym c.loop-spending.invariant.problem) c.requires.covered) c.loop-spending.invariant.progress.under

pub offer_complete-requires-in-Some-promising : goal.offer_complete-requires-in-Some-promising
offer_complete-requires-in-Some-promising g c =
    let problem : c.push_counted.new.self.problem ≡ c.args.partial.now.problem = ap (λ (v : PartialPlan). v.problem) c.push_counted.ensures ∙ c.loop-spending.invariant.problem in
    subst (λ (q : Problem). g.B.Board.serves c.least-incumbent.new.self q) (sym problem) (c.least-incumbent.ensures.serves c.args.partial.now.problem c.loop-spending.invariant.serves)

pub returns-in_err-offer_complete-in-Some-2-clause-keeps : goal.returns-in_err-offer_complete-in-Some-2-clause-keeps
returns-in_err-offer_complete-in-Some-2-clause-keeps g c = λ earlier kept. c.offer_complete-in-Some-promising.ensures.keeps earlier (c.least-incumbent.ensures.keeps earlier (c.loop-spending.invariant.keeps earlier kept))

pub loop-spending-preserved-in-Some-promising : goal.loop-spending-preserved-in-Some-promising
loop-spending-preserved-in-Some-promising g c =
    let p = c.args.partial.now.problem in
    let root = c.args.partial.now.word in
    let word = c.loop-spending.partial.word in
    let k = c.in-Some.field-0 in
    let old = g.B.Board.floor c.loop-spending.board in
    let floor = g.B.Board.floor c.offer_complete-in-Some-promising.new.board in
    let last_offer = c.loop-spending.found.plan in
    let new = c.offer_complete-in-Some-promising.new.self.plan in
    let child = subst (λ (q : Problem). IsNextChild q word c.loop-spending.next k) c.loop-spending.invariant.problem c.in-Some.ensures.next in
    let problem : c.push_counted.new.self.problem ≡ p = ap (λ (v : PartialPlan). v.problem) c.push_counted.ensures ∙ c.loop-spending.invariant.problem in
    let longer : c.push_counted.new.self.word ≡ word ++ k ∷ [] = ap (λ (v : PartialPlan). v.word) c.push_counted.ensures in
    let falls : floor ≤ old = omega (arith, c.offer_complete-in-Some-promising.ensures.falls, c.least-incumbent.ensures.falls) in
    let kept = subst (λ (w : List ℕ). IsLastOffer p w floor last_offer new) longer (subst (λ (q : Problem). IsLastOffer q c.push_counted.new.self.word floor last_offer new) problem c.in_ok-offer_complete-in-Some-2.ensures.kept) in
    let spent = c.look.ensures.spent ∙ ap (λ n. n + 1) c.is_over.ensures.spent in
    let progress = descended p root word c.loop-spending.next k c.loop-spending.spending.spent old floor last_offer new c.loop-spending.invariant.progress child falls
    (λ w lawful.
    let plan = c.words_are_plans.ensures p w lawful in
    omega (arith, c.plans_cost_less.ensures p plan.0 c.depth-root.ensures.problem plan.2, plan.5)) kept in
    record {
      problem = problem;
      progress = subst (λ (w : List ℕ). Progress p root w 0 c.look.new.self.spent floor new) (sym longer)
          (subst (λ n. Progress p root (word ++ k ∷ []) 0 n floor new) (sym spent) progress);
      serves = subst (λ (q : Problem). g.B.Board.serves c.offer_complete-in-Some-promising.new.board q) problem c.offer_complete-in-Some-promising.ensures.serves;
      keeps = λ earlier kept. c.offer_complete-in-Some-promising.ensures.keeps earlier (c.least-incumbent.ensures.keeps earlier (c.loop-spending.invariant.keeps earlier kept));
      falls = omega (arith, falls, c.loop-spending.invariant.falls);
      some = omega (arith, spent);
      budget = c.look.ensures.budget ∙ c.is_over.ensures.budget ∙ c.loop-spending.invariant.budget;
      within = omega (arith, spent, c.is_over.ensures.more c.if-is_over.false, c.is_over.ensures.spent, c.is_over.new.self.until, c.is_over.new.self.within, c.is_over.ensures.budget, c.loop-spending.invariant.budget);
    }

pub loop-spending-preserved-in_default : goal.loop-spending-preserved-in_default
loop-spending-preserved-in_default g c =
    let p = c.args.partial.now.problem in
    let root = c.args.partial.now.word in
    let word = c.loop-spending.partial.word in
    let k = c.in-Some.field-0 in
    let old = g.B.Board.floor c.loop-spending.board in
    let floor = g.B.Board.floor c.least-incumbent.new.self in
    let last_offer = c.loop-spending.found.plan in
    let child = subst (λ (q : Problem). IsNextChild q word c.loop-spending.next k) c.loop-spending.invariant.problem c.in-Some.ensures.next in
    let none : NoneOfUse p (word ++ k ∷ []) c.least-incumbent.result c.cost.result = subst (λ (q : Problem). NoneOfUse q (word ++ k ∷ []) c.least-incumbent.result c.cost.result) c.loop-spending.invariant.problem c.in_default.ensures.of_use in
    let spent = c.look.ensures.spent ∙ ap (λ n. n + 1) c.is_over.ensures.spent in
    let progress = pruned p root word c.loop-spending.next k c.loop-spending.spending.spent old floor last_offer c.loop-spending.invariant.progress child c.least-incumbent.ensures.falls
    (λ w lawful from begins.
    let plan = c.words_are_plans.ensures p w lawful in
    let small : word_cost p w < NO_COST = omega (arith, c.plans_cost_less.ensures p plan.0 c.depth-root.ensures.problem plan.2, plan.5) in
    no_use p (word ++ c.loop-spending.next ∷ []) floor c.least-incumbent.result c.cost.result last_offer w c.least-incumbent.ensures.answered c.cost.ensures small c.loop-spending.invariant.progress.behind from (none w lawful begins)) in
    record {
      problem = c.loop-spending.invariant.problem;
      progress = subst (λ n. Progress p root word (k + 1) n floor last_offer) (sym spent) progress;
      serves = c.least-incumbent.ensures.serves p c.loop-spending.invariant.serves;
      keeps = λ earlier kept. c.least-incumbent.ensures.keeps earlier (c.loop-spending.invariant.keeps earlier kept);
      falls = omega (arith, c.least-incumbent.ensures.falls, c.loop-spending.invariant.falls);
      some = omega (arith, spent);
      budget = c.look.ensures.budget ∙ c.is_over.ensures.budget ∙ c.loop-spending.invariant.budget;
      within = omega (arith, spent, c.is_over.ensures.more c.if-is_over.false, c.is_over.ensures.spent, c.is_over.new.self.until, c.is_over.new.self.within, c.is_over.ensures.budget, c.loop-spending.invariant.budget);
    }

pub returns-in-None-clause-ended : goal.returns-in-None-clause-ended
returns-in-None-clause-ended g c = λ among is_low.
    let p = c.args.partial.now.problem in
    let root = c.args.partial.now.word in
    let word = c.loop-spending.partial.word in
    let none = subst (λ (q : Problem). NoChildFrom q word c.loop-spending.next) c.loop-spending.invariant.problem c.in-None.ensures.next in
    let as_long : length word ≡ length root = sym c.depth.ensures.value ∙ c.if-depth-root.true ∙ c.depth-root.ensures.value in
    subst (IsFinished p root c.args.budget (g.B.Board.floor c.loop-spending.board) c.loop-spending.spending.spent) (sym c.into_plan-first.ensures)
    (ends_at_last p root word c.loop-spending.next c.loop-spending.spending.spent (g.B.Board.floor c.loop-spending.board) c.args.budget c.loop-spending.found.plan c.loop-spending.invariant.progress none as_long c.loop-spending.invariant.some c.loop-spending.invariant.within)

pub pop-next-requires : goal.pop-next-requires
pop-next-requires g c =
    let word = c.loop-spending.partial.word in
    let root = c.args.partial.now.word in
    let under = c.loop-spending.invariant.progress.under in
    let differs : length word ≢ length root = λ same. c.if-depth-root.false (c.depth.ensures.value ∙ same ∙ sym c.depth-root.ensures.value) in
    omega (arith, differs, ap length under.1, length-append root under.0)

pub loop-spending-preserved : goal.loop-spending-preserved
loop-spending-preserved g c =
    let p = c.args.partial.now.problem in
    let root = c.args.partial.now.word in
    let floor = g.B.Board.floor c.loop-spending.board in
    let last_offer = c.loop-spending.found.plan in
    let none = subst (λ (q : Problem). NoChildFrom q c.loop-spending.partial.word c.loop-spending.next) c.loop-spending.invariant.problem c.in-None.ensures.next in
    let popped = c.pop-next.new.self.word in
    let last = c.pop-next.result in
    let word = c.pop-next.ensures.word in
    let differs : length c.loop-spending.partial.word ≢ length root = λ same. c.if-depth-root.false (c.depth.ensures.value ∙ same ∙ sym c.depth-root.ensures.value) in
    let under = c.loop-spending.invariant.progress.under in
    let longer : length root ≤ length popped = omega (arith, differs, ap length under.1, length-append root under.0, ap length word, length-append popped (last ∷ [])) in
    let progress = returned p root popped last c.loop-spending.next c.loop-spending.spending.spent floor last_offer
    (subst (λ (w : List ℕ). Progress p root w c.loop-spending.next c.loop-spending.spending.spent floor last_offer) word c.loop-spending.invariant.progress)
    (subst (λ (w : List ℕ). NoChildFrom p w c.loop-spending.next) word none) longer in
    record {
      problem = c.pop-next.ensures.problem ∙ c.loop-spending.invariant.problem;
      progress = progress;
      serves = c.loop-spending.invariant.serves;
      keeps = c.loop-spending.invariant.keeps;
      falls = c.loop-spending.invariant.falls;
      some = c.loop-spending.invariant.some;
      budget = c.loop-spending.invariant.budget;
      within = c.loop-spending.invariant.within;
    }

pub loop-spending-smaller-in-Some-promising : goal.loop-spending-smaller-in-Some-promising
loop-spending-smaller-in-Some-promising g c =
    let word = c.loop-spending.partial.word in
    let k = c.in-Some.field-0 in
    let longer : c.push_counted.new.self.word ≡ word ++ k ∷ [] = ap (λ (v : PartialPlan). v.word) c.push_counted.ensures in
    spent_more c.args.budget c.loop-spending.spending.spent c.look.new.self.spent (length word) (length c.push_counted.new.self.word) (c.look.ensures.spent ∙ ap (λ n. n + 1) c.is_over.ensures.spent) (omega (arith, c.look.ensures.spent, c.is_over.ensures.more c.if-is_over.false, c.is_over.new.self.until, c.is_over.new.self.within, c.is_over.ensures.budget, c.loop-spending.invariant.budget)) (omega (arith, ap length longer, length-append word (k ∷ [])))

pub loop-spending-smaller-in_default : goal.loop-spending-smaller-in_default
loop-spending-smaller-in_default g c =
    let long = length c.loop-spending.partial.word in
    spent_more c.args.budget c.loop-spending.spending.spent c.look.new.self.spent long long (c.look.ensures.spent ∙ ap (λ n. n + 1) c.is_over.ensures.spent) (omega (arith, c.look.ensures.spent, c.is_over.ensures.more c.if-is_over.false, c.is_over.new.self.until, c.is_over.new.self.within, c.is_over.ensures.budget, c.loop-spending.invariant.budget)) (omega arith)

pub loop-spending-smaller : goal.loop-spending-smaller
loop-spending-smaller g c =
    one_fewer (2 * (c.args.budget - c.loop-spending.spending.spent)) c.loop-spending.partial.word c.pop-next.new.self.word c.pop-next.result c.pop-next.ensures.word

pub returns-in-Some-clause-serves : goal.returns-in-Some-clause-serves
returns-in-Some-clause-serves g c = c.loop-spending.invariant.serves

pub returns-in-Some-clause-keeps : goal.returns-in-Some-clause-keeps
returns-in-Some-clause-keeps g c = c.loop-spending.invariant.keeps

pub returns-in-Some-clause-falls : goal.returns-in-Some-clause-falls
returns-in-Some-clause-falls g c = c.loop-spending.invariant.falls

pub returns-in-None-clause-serves : goal.returns-in-None-clause-serves
returns-in-None-clause-serves g c = c.loop-spending.invariant.serves

pub returns-in-None-clause-keeps : goal.returns-in-None-clause-keeps
returns-in-None-clause-keeps g c = c.loop-spending.invariant.keeps

pub returns-in-None-clause-falls : goal.returns-in-None-clause-falls
returns-in-None-clause-falls g c = c.loop-spending.invariant.falls

pub returns-in_err-offer_complete-clause-serves : goal.returns-in_err-offer_complete-clause-serves
returns-in_err-offer_complete-clause-serves g c = c.offer_complete.ensures.serves

pub returns-in_err-offer_complete-clause-keeps : goal.returns-in_err-offer_complete-clause-keeps
returns-in_err-offer_complete-clause-keeps g c = c.offer_complete.ensures.keeps

pub returns-in_err-offer_complete-clause-falls : goal.returns-in_err-offer_complete-clause-falls
returns-in_err-offer_complete-clause-falls g c = c.offer_complete.ensures.falls

pub returns-in_err-offer_complete-in-Some-2-clause-serves : goal.returns-in_err-offer_complete-in-Some-2-clause-serves
returns-in_err-offer_complete-in-Some-2-clause-serves g c =
    let problem : c.push_counted.new.self.problem ≡ c.args.partial.now.problem = ap (λ (v : PartialPlan). v.problem) c.push_counted.ensures ∙ c.loop-spending.invariant.problem in
    subst (λ (q : Problem). g.B.Board.serves c.offer_complete-in-Some-promising.new.board q) problem c.offer_complete-in-Some-promising.ensures.serves

pub returns-in_err-offer_complete-in-Some-2-clause-falls : goal.returns-in_err-offer_complete-in-Some-2-clause-falls
returns-in_err-offer_complete-in-Some-2-clause-falls g c = omega (arith, c.offer_complete-in-Some-promising.ensures.falls, c.least-incumbent.ensures.falls, c.loop-spending.invariant.falls)

pub offer_complete-requires : goal.offer_complete-requires
offer_complete-requires g c = c.requires.board
