-- What is kept of a list of plans, and of one that is a plan longer.
use Rattle.std.proofs.Common.{◌≡◌, ℕ, zero, suc, List, [], ◌∷◌, ◌++◌, length, length-append, map, take, append_assoc, Bool, true, false, if◌then◌else◌, Option, Some, None, refl, sym, ap, subst, ◌∙◌, inl, inr, ◌⊎◌, arith}
use Rattle.std.specs.List.{All}
use Rattle.std.specs.Option.{ForSome, option_to_list}
use Rattle.std.specs.Prelude.{◌↔◌, IsTrue, slice_get}
use Rattle.std.proofs.lemmas.List.{map-append}
use Rattle.std.proofs.lemmas.List.Elements.{All-append, All-cons, All-head, All-nil, All-push, All-tail}
use Rattle.vrp_model.specs.Order.{ComesBefore, IsBefore}
use Rattle.vrp_model.specs.Route.{PricedPlan}
use Rattle.vrp_model.specs.Word.{word_of}
use Rattle.vrp_model.proofs.Ordered.{before_total, before_transitive}
use Rattle.vrp_sharing.specs.declared.entry.Entry.{Entry}
use Rattle.vrp_sharing.specs.History.{AreAnswers, IsFirstOf, IsKeptOf, plans_of}

-- what is before a plan is before all that are not
before_rest : (plan kept other : PricedPlan) → IsBefore plan kept → (IsBefore other kept → ⊥) → IsBefore plan other
before_rest plan kept other before none =
    elim (before_total kept.cost (word_of kept.routes) other.cost (word_of other.routes)) [
      | inl later ↦ before_transitive plan.cost (word_of plan.routes) kept.cost (word_of kept.routes) other.cost (word_of other.routes) before later
      | inr (inl (cost, word)) ↦ subst (λ (c : ℕ). ComesBefore plan.cost (word_of plan.routes) c (word_of other.routes)) cost (subst (λ (w : List ℕ). ComesBefore plan.cost (word_of plan.routes) kept.cost w) word before)
      | inr (inr earlier) ↦ absurd (none earlier)
    ]

-- what is before the first is before all
before_all : (plans : List PricedPlan) (kept plan : PricedPlan) → IsFirstOf plans kept → IsBefore plan kept → All (IsBefore plan) plans
before_all plans kept plan first before =
    subst (All (IsBefore plan)) (sym first.stands)
    (All-append (IsBefore plan) first.ahead (kept ∷ first.behind)
    (λ k d lt. before_transitive plan.cost (word_of plan.routes) kept.cost (word_of kept.routes) _ _ before (first.before_all k d lt))
    (All-cons (IsBefore plan) kept first.behind before (λ k d lt. before_rest plan kept _ before (first.none_before k d lt))))

at_seam : (P : PricedPlan → Type 0) (ahead behind : List PricedPlan) (plan : PricedPlan) → All P (ahead ++ plan ∷ behind) → P plan
at_seam P [] behind plan all = All-head P plan behind all
at_seam P (x ∷ ahead) behind plan all = at_seam P ahead behind plan (All-tail P x (ahead ++ plan ∷ behind) all)

-- a plan is before all exactly where it is before the one that is kept
before_kept : (plans : List PricedPlan) (kept : Option PricedPlan) (plan : PricedPlan) → IsKeptOf plans kept → (ForSome kept (IsBefore plan) → All (IsBefore plan) plans) × (All (IsBefore plan) plans → ForSome kept (IsBefore plan))
before_kept plans None plan is = ((λ _. subst (All (IsBefore plan)) (sym is) (All-nil (IsBefore plan))), (λ all first none. absurd (cc)))
before_kept plans (Some kept) plan is = (
  λ before. before_all plans kept plan is (before kept refl),
  λ all first same. subst (IsBefore plan) (cc) (at_seam (IsBefore plan) is.ahead is.behind kept (subst (All (IsBefore plan)) is.stands all)),
)

-- the same of a plan that is known
pub before_known : (found : Option PricedPlan) (plan kept : PricedPlan) (answer : Bool) → found ≡ Some kept → (IsTrue answer ↔ IsBefore plan kept) → (IsTrue answer ↔ ForSome found (IsBefore plan))
before_known found plan kept answer is told = (
  λ yes first at. let same : kept ≡ first = cc in subst (IsBefore plan) same (told.0 yes),
  λ before. told.1 (before kept is),
)

-- what is kept before any offer
kept_first : (plan : Option PricedPlan) → IsKeptOf (plans_of plan []) plan
kept_first None = refl
kept_first (Some plan) = record { ahead = []; behind = []; stands = refl; before_all = All-nil (IsBefore plan); none_before = All-nil (λ other. IsBefore other plan → ⊥) }

pub opened : (plan opening : Option PricedPlan) (entries : List Entry) → opening ≡ plan → entries ≡ [] → IsKeptOf (plans_of opening entries) plan × AreAnswers opening entries
opened plan opening entries same none = rw (same, none) (kept_first plan, λ place entry at. absurd (cc))

-- ---- one plan more

kept_more : (plans : List PricedPlan) (kept : Option PricedPlan) (plan : PricedPlan) (answer : Bool) → IsKeptOf plans kept → (IsTrue answer ↔ ForSome kept (IsBefore plan)) → IsKeptOf (plans ++ plan ∷ []) (if answer then Some plan else kept)
kept_more plans None plan true is told = record { ahead = []; behind = []; stands = ap (λ (xs : List PricedPlan). xs ++ plan ∷ []) is; before_all = All-nil (IsBefore plan); none_before = All-nil (λ other. IsBefore other plan → ⊥) }
kept_more plans None plan false is told = absurd (let never : false ≡ true = told.1 (λ first none. absurd (cc)) in cc)
kept_more plans (Some kept) plan true is told = record { ahead = plans; behind = []; stands = refl; before_all = before_all plans kept plan is (told.0 refl kept refl); none_before = All-nil (λ other. IsBefore other plan → ⊥) }
kept_more plans (Some kept) plan false is told = record {
  ahead = is.ahead;
  behind = is.behind ++ plan ∷ [];
  stands = ap (λ (xs : List PricedPlan). xs ++ plan ∷ []) is.stands ∙ append_assoc is.ahead (kept ∷ is.behind) (plan ∷ []);
  before_all = is.before_all;
  none_before = All-push (λ other. IsBefore other kept → ⊥) is.behind plan is.none_before (λ before. absurd (let never : false ≡ true = told.1 (λ first same. subst (IsBefore plan) (cc) before) in cc));
}

plans_more : (opening : Option PricedPlan) (entries : List Entry) (entry : Entry) → plans_of opening (entries ++ entry ∷ []) ≡ plans_of opening entries ++ entry.plan ∷ []
plans_more opening entries entry =
    ap (λ (xs : List PricedPlan). option_to_list opening ++ xs) (map-append (λ (e : Entry). e.plan) entries (entry ∷ [])) ∙ sym (append_assoc (option_to_list opening) (map (λ (e : Entry). e.plan) entries) (entry.plan ∷ []))

-- an entry of the longer list is one of the list, or the last
entry_cases : (entries : List Entry) (entry found : Entry) (place : ℕ) → slice_get (entries ++ entry ∷ []) place ≡ Some found
    → ((slice_get entries place ≡ Some found) × (take place (entries ++ entry ∷ []) ≡ take place entries)) ⊎ ((entry ≡ found) × (take place (entries ++ entry ∷ []) ≡ entries))
entry_cases [] entry found zero at = inr ((cc), refl)
entry_cases [] entry found (suc place) at = absurd (cc)
entry_cases (x ∷ entries) entry found zero at = inl (at, refl)
entry_cases (x ∷ entries) entry found (suc place) at =
    elim (entry_cases entries entry found place at) [
      | inl (there, same) ↦ inl (there, ap (λ (xs : List Entry). x ∷ xs) same)
      | inr (is, same) ↦ inr (is, ap (λ (xs : List Entry). x ∷ xs) same)
    ]

answers_more : (opening : Option PricedPlan) (entries : List Entry) (entry : Entry) → AreAnswers opening entries → (IsTrue entry.kept ↔ All (IsBefore entry.plan) (plans_of opening entries)) → AreAnswers opening (entries ++ entry ∷ [])
answers_more opening entries entry are told place found at =
    elim (entry_cases entries entry found place at) [
      | inl (there, same) ↦ rw same (are place found there)
      | inr (is, same) ↦ rw (same, ← is) told
    ]

-- the plan that is kept after one more offer, and the answers with it
pub offered_next : (opening plan next : Option PricedPlan) (entries after : List Entry) (entry : Entry) → IsKeptOf (plans_of opening entries) plan → AreAnswers opening entries
    → (IsTrue entry.kept ↔ ForSome plan (IsBefore entry.plan)) → next ≡ (if entry.kept then Some entry.plan else plan) → after ≡ entries ++ entry ∷ []
    → IsKeptOf (plans_of opening after) next × AreAnswers opening after
offered_next opening plan next entries after entry kept are told next_is after_is =
    let more : IsKeptOf (plans_of opening entries ++ entry.plan ∷ []) (if entry.kept then Some entry.plan else plan) = kept_more (plans_of opening entries) plan entry.plan entry.kept kept told in
    let both = before_kept (plans_of opening entries) plan entry.plan kept in
    rw (after_is, next_is) (
      subst (λ (plans : List PricedPlan). IsKeptOf plans (if entry.kept then Some entry.plan else plan)) (sym (plans_more opening entries entry)) more,
      answers_more opening entries entry are (λ yes. both.0 (told.0 yes), λ all. told.1 (both.1 all)),
    )

-- ---- just one is kept

same_first : (ahead behind others_ahead others_behind : List PricedPlan) (plan other : PricedPlan) → ahead ++ plan ∷ behind ≡ others_ahead ++ other ∷ others_behind
    → All (IsBefore plan) ahead → All (λ q. IsBefore q plan → ⊥) behind → All (IsBefore other) others_ahead → All (λ q. IsBefore q other → ⊥) others_behind → plan ≡ other
same_first [] behind [] others_behind plan other is before none also neither = cc
same_first [] behind (y ∷ others) others_behind plan other is before none also neither =
    let head : plan ≡ y = cc in
    let tail : behind ≡ others ++ other ∷ others_behind = cc in
    absurd (at_seam (λ q. IsBefore q plan → ⊥) others others_behind other (subst (All (λ q. IsBefore q plan → ⊥)) tail none) (subst (IsBefore other) (sym head) (All-head (IsBefore other) y others also)))
same_first (x ∷ ahead) behind [] others_behind plan other is before none also neither =
    let head : x ≡ other = cc in
    let tail : ahead ++ plan ∷ behind ≡ others_behind = cc in
    absurd (at_seam (λ q. IsBefore q other → ⊥) ahead behind plan (subst (All (λ q. IsBefore q other → ⊥)) (sym tail) neither) (subst (IsBefore plan) head (All-head (IsBefore plan) x ahead before)))
same_first (x ∷ ahead) behind (y ∷ others) others_behind plan other is before none also neither =
    let tail : ahead ++ plan ∷ behind ≡ others ++ other ∷ others_behind = cc in
    same_first ahead behind others others_behind plan other tail (All-tail (IsBefore plan) x ahead before) none (All-tail (IsBefore other) y others also) neither

none_stands : (plans ahead behind : List PricedPlan) (plan : PricedPlan) → plans ≡ [] → plans ≡ ahead ++ plan ∷ behind → ⊥
none_stands plans ahead behind plan none stands = omega (arith, ap length none, ap length stands, length-append ahead (plan ∷ behind))

pub kept_is_one : (plans : List PricedPlan) (kept other : Option PricedPlan) → IsKeptOf plans kept → IsKeptOf plans other → kept ≡ other
kept_is_one plans None None is also = refl
kept_is_one plans None (Some other) is also = absurd (none_stands plans also.ahead also.behind other is also.stands)
kept_is_one plans (Some kept) None is also = absurd (none_stands plans is.ahead is.behind kept also is.stands)
kept_is_one plans (Some kept) (Some other) is also = ap Some (same_first is.ahead is.behind also.ahead also.behind kept other (sym is.stands ∙ also.stands) is.before_all is.none_before also.before_all also.none_before)
