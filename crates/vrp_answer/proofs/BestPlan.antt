-- The best plan of all that were offered: what is not before it, and what becomes of that as it changes.
use Rattle.std.proofs.Common.{◌≡◌, ◌∙◌, ℕ, ◌≤◌, ◌<◌, ◌⊎◌, inl, inr, Option, Some, None, List, refl, sym, ap, subst, arith}
use Rattle.std.specs.Option.{ForSome}
use Rattle.std.specs.Prelude.{◌↔◌, Bool, IsTrue, false, if◌then◌else◌, true}
use Rattle.std.proofs.lemmas.Bool.{cases_Bool, cases_lt}
use Rattle.vrp_model.specs.Cheapest.{cost_of}
use Rattle.vrp_model.specs.Order.{ComesBefore, IsBefore, IsEarlier}
use Rattle.vrp_model.specs.Problem.{IsProblem, Problem}
use Rattle.vrp_model.specs.Route.{IsLawful, IsPlanOf, PricedPlan, plan_cost}
use Rattle.vrp_model.specs.Word.{word_cost, word_of}
use Rattle.vrp_model.specs.declared.limits.TheConstants.{NO_COST}
use Rattle.vrp_model.proofs.Ordered.{before_irreflexive, before_total, before_transitive, earlier_total, earlier_transitive}
use Rattle.vrp_search_tree.specs.Search.{IsNotBefore, NoneBeforeUnder}
use Rattle.vrp_answer.specs.Inner.Conclusion.{IsNoLater, IsOfferedTo}

-- the plan, if there is one
abbrev pub some_of : PricedPlan → Option PricedPlan → PricedPlan
some_of other None = other
some_of other (Some found) = found

-- ---- a plan that is no later than another

pub no_later_itself : (kept : Option PricedPlan) → IsNoLater kept kept
no_later_itself kept = λ plan is. (plan, is, before_irreflexive plan.cost (word_of plan.routes))

pub no_later_than_none : (new : Option PricedPlan) → IsNoLater new None
no_later_than_none new = λ plan is. absurd (let never : None ≡ Some plan = is in cc)

-- what comes before a plan that is no later than another comes before that one too
before_later : (cost : ℕ) (word : List ℕ) (kept plan : PricedPlan) → (IsBefore plan kept → ⊥) → ComesBefore cost word kept.cost (word_of kept.routes) → ComesBefore cost word plan.cost (word_of plan.routes)
before_later cost word kept plan later before = elim (before_total kept.cost (word_of kept.routes) plan.cost (word_of plan.routes)) [
  | inl less ↦ before_transitive cost word kept.cost (word_of kept.routes) plan.cost (word_of plan.routes) before less
  | inr (inl same) ↦ rw (sym same.0, sym same.1) before
  | inr (inr more) ↦ absurd (later more)
]

-- what a plan is before, each that is no later than it is before
no_later_before : (kept plan first : PricedPlan) → (IsBefore plan kept → ⊥) → IsBefore plan first → IsBefore kept first
no_later_before kept plan first later before = elim (before_total kept.cost (word_of kept.routes) plan.cost (word_of plan.routes)) [
  | inl less ↦ before_transitive kept.cost (word_of kept.routes) plan.cost (word_of plan.routes) first.cost (word_of first.routes) less before
  | inr (inl same) ↦ rw (same.0, same.1) before
  | inr (inr more) ↦ absurd (later more)
]

pub no_later_transitive : (new kept old : Option PricedPlan) → IsNoLater new kept → IsNoLater kept old → IsNoLater new old
no_later_transitive new kept old later before = λ plan is.
    let (middle, is_middle, not_before) = before plan is in
    let (first, is_first, not_after) = later middle is_middle in
    (first, is_first, λ less. not_after (no_later_before middle plan first not_before less))

-- no feasible plan costs as much as none
abbrev pub PlansCostLess : Type 0
PlansCostLess = (p : Problem) (routes : List (List ℕ)) → IsProblem p → IsLawful p routes → plan_cost p routes < NO_COST

-- and so it costs no more
pub costs_no_more : PlansCostLess → (p : Problem) (new old : Option PricedPlan) → IsProblem p → ForSome new (IsPlanOf p) → IsNoLater new old → cost_of new ≤ cost_of old
costs_no_more less p None None problem plan_of later = omega arith
costs_no_more less p (Some kept) None problem plan_of later =
    let kept_of = plan_of kept refl in
    let small = less p kept.routes problem kept_of.lawful in
    omega (arith, small, kept_of.priced)
costs_no_more less p new (Some plan) problem plan_of later =
    let (kept, is, not_before) = later plan refl in
    let cost : cost_of new ≡ kept.cost = ap cost_of is in
    elim (cases_lt plan.cost kept.cost) [
      | inl cheaper ↦ absurd (not_before (inl cheaper))
      | inr no_less ↦ omega (arith, cost, no_less)
    ]

-- ---- what is not before it

still_not : (p : Problem) (floor lower : ℕ) (old new : Option PricedPlan) (word : List ℕ) → lower ≤ floor → IsNoLater new old → IsNotBefore p floor old word → IsNotBefore p lower new word
still_not p floor lower old new word falls later (inl above) = inl (omega (arith, falls, above))
still_not p floor lower None new word falls later (inr never) = absurd never
still_not p floor lower (Some plan) None word falls later (inr behind) = let (kept, is, not_before) = later plan refl in absurd (let never : None ≡ Some kept = is in cc)
still_not p floor lower (Some plan) (Some best) word falls later (inr behind) =
    let (kept, is, not_before) = later plan refl in
    let same : best ≡ kept = ap (λ (found : Option PricedPlan). some_of best found) is in
    inr (λ before. behind (before_later (word_cost p word) word kept plan not_before (rw (sym same) before)))

pub still_none : (p : Problem) (prefix : List ℕ) (floor lower : ℕ) (old new : Option PricedPlan) → lower ≤ floor → IsNoLater new old → NoneBeforeUnder p prefix floor old → NoneBeforeUnder p prefix lower new
still_none p prefix floor lower old new falls later none = λ word lawful begins. still_not p floor lower old new word falls later (none word lawful begins)

-- where the best plan costs no more than the floor, a word costs no less than it
pub costs_no_less : (p : Problem) (floor : ℕ) (best : Option PricedPlan) (word : List ℕ) → cost_of best ≤ floor → IsNotBefore p floor best word → cost_of best ≤ word_cost p word
costs_no_less p floor best word falls (inl above) = omega (arith, falls, above)
costs_no_less p floor None word falls (inr never) = absurd never
costs_no_less p floor (Some plan) word falls (inr behind) = elim (cases_lt (word_cost p word) plan.cost) [
  | inl cheaper ↦ absurd (behind (inl cheaper))
  | inr no_less ↦ no_less
]

-- and is not before it
pub not_before_plan : (p : Problem) (floor : ℕ) (plan : PricedPlan) (word : List ℕ) → plan.cost ≤ floor → IsNotBefore p floor (Some plan) word → ComesBefore (word_cost p word) word plan.cost (word_of plan.routes) → ⊥
not_before_plan p floor plan word falls (inl above) (inl cheaper) = omega (arith, falls, above, cheaper)
not_before_plan p floor plan word falls (inl above) (inr as_much) = omega (arith, falls, above, as_much.0)
not_before_plan p floor plan word falls (inr behind) before = behind before

-- a word of a plan's cost that is no later than the plan's own comes before what the plan is before
pub word_before : (other plan : PricedPlan) (cost : ℕ) (word : List ℕ) → cost ≡ other.cost → (IsEarlier (word_of other.routes) word → ⊥) → IsBefore other plan → ComesBefore cost word plan.cost (word_of plan.routes)
word_before other plan cost word price no_later (inl cheaper) = inl (omega (arith, price, cheaper))
word_before other plan cost word price no_later (inr as_much) = inr (
  price ∙ as_much.0,
  elim (earlier_total word (word_of other.routes)) [
    | inl less ↦ earlier_transitive word (word_of other.routes) (word_of plan.routes) less as_much.1
    | inr (inl same) ↦ rw same as_much.1
    | inr (inr more) ↦ absurd (no_later more)
  ],
)

-- and so a plan costs no more than none
pub at_most_none : PlansCostLess → (p : Problem) (best : Option PricedPlan) → IsProblem p → ForSome best (IsPlanOf p) → cost_of best ≤ NO_COST
at_most_none less p best problem plan_of = costs_no_more less p best None problem plan_of (no_later_than_none best)

-- ---- an offer

not_before_itself : (plan : PricedPlan) → IsBefore plan plan → ⊥
not_before_itself plan before = before_irreflexive plan.cost (word_of plan.routes) before

never_both : (plan other : PricedPlan) → IsBefore plan other → IsBefore other plan → ⊥
never_both plan other before after = not_before_itself plan (before_transitive plan.cost (word_of plan.routes) other.cost (word_of other.routes) plan.cost (word_of plan.routes) before after)

before_or_not : (plan other : PricedPlan) → IsBefore plan other ⊎ (IsBefore plan other → ⊥)
before_or_not plan other = elim (before_total plan.cost (word_of plan.routes) other.cost (word_of other.routes)) [
  | inl before ↦ inl before
  | inr (inl same) ↦ inr (λ before. before_irreflexive other.cost (word_of other.routes) (rw (same.0, same.1) at before))
  | inr (inr after) ↦ inr (λ before. never_both plan other before after)
]

-- what is kept is no later than this plan
no_later_than : (new : Option PricedPlan) (kept plan : PricedPlan) → new ≡ Some kept → (IsBefore plan kept → ⊥) → IsNoLater new (Some plan)
no_later_than new kept plan is not_before = λ other same. (let one : plan ≡ other = ap (some_of plan) same in (kept, is, subst (λ (q : PricedPlan). IsBefore q kept → ⊥) one not_before))

-- a book that was offered a plan
pub after_offer : (plan : PricedPlan) (old new : Option PricedPlan) (kept : Bool) → (IsTrue kept ↔ ForSome old (IsBefore plan)) → new ≡ (if kept then Some plan else old) → IsOfferedTo old (Some plan) new
after_offer plan None new kept answer is =
    let told : kept ≡ true = answer.1 (λ other same. absurd (let never : None ≡ Some other = same in cc)) in
    let now : new ≡ Some plan = is ∙ ap (λ (b : Bool). if b then Some plan else None) told in
    record { later = no_later_than_none new; no_later = no_later_than new plan plan now (not_before_itself plan); one_of = inr now }
after_offer plan (Some old) new kept answer is = elim (before_or_not plan old) [
  | inl before ↦
      let told : kept ≡ true = answer.1 (λ other same. (let one : old ≡ other = ap (some_of old) same in subst (IsBefore plan) one before)) in
      let now : new ≡ Some plan = is ∙ ap (λ (b : Bool). if b then Some plan else Some old) told in
      record { later = no_later_than new plan old now (never_both plan old before); no_later = no_later_than new plan plan now (not_before_itself plan); one_of = inr now }
  | inr not_before ↦
      let untold : kept ≡ false = elim (cases_Bool kept) [
        | inl told ↦ absurd (not_before (answer.0 told old refl))
        | inr is_false ↦ is_false
      ] in
      let now : new ≡ Some old = is ∙ ap (λ (b : Bool). if b then Some plan else Some old) untold in
      record { later = no_later_than new old old now (not_before_itself old); no_later = no_later_than new old plan now not_before; one_of = inl now }
]

pub nothing_offered : (kept : Option PricedPlan) → IsOfferedTo kept None kept
nothing_offered kept = record { later = no_later_itself kept; no_later = no_later_than_none kept; one_of = inl refl }

-- a book whose plan is feasible, and that was offered a feasible one, has a feasible one
pub still_lawful : (p : Problem) (old offered new : Option PricedPlan) → IsOfferedTo old offered new → ForSome old (IsPlanOf p) → ForSome offered (IsPlanOf p) → ForSome new (IsPlanOf p)
still_lawful p old offered new is kept also = elim is.one_of [
  | inl same ↦ subst (λ (found : Option PricedPlan). ForSome found (IsPlanOf p)) (sym same) kept
  | inr other ↦ subst (λ (found : Option PricedPlan). ForSome found (IsPlanOf p)) (sym other) also
]
