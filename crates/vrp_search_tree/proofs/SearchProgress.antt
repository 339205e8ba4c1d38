-- How far the search of a piece has come: the prefixes that it has looked at, and the words that it still has to come by.
use Rattle.std.proofs.Common.{◌≡◌, ◌≢◌, ℕ, ◌+◌, ◌≤◌, ◌<◌, ◌⊎◌, inl, inr, Option, None, Some, List, [], ◌∷◌, ◌++◌, length, length-append, get_or, refl, sym, ap, subst, ◌∙◌, append_assoc, append-nil, arith}
use Rattle.std.specs.List.{All, AllPairs}
use Rattle.std.proofs.lemmas.List.Elements.{All-cons, All-nil, All-append}
use Rattle.std.proofs.lemmas.List.Quantifiers.{all_pairs_push}
use Rattle.std.proofs.lemmas.Bool.{cases_lt}
use Rattle.std.specs.Option.{ForSome}
use Rattle.vrp_model.specs.Cheapest.{cost_of}
use Rattle.vrp_model.specs.Order.{IsEarlier}
use Rattle.vrp_model.specs.Problem.{Problem}
use Rattle.vrp_model.specs.declared.limits.TheConstants.{NO_COST}
use Rattle.vrp_model.specs.Route.{PricedPlan}
use Rattle.vrp_model.specs.Word.{BeginsWith, IsPrefix, IsLawfulWord, TreeHasAtLeast, word_cost, word_of}
use Rattle.vrp_model.proofs.PrefixesBefore.{prefixes_before}
use Rattle.vrp_model.proofs.Ordered.{earlier_irreflexive}
use Rattle.vrp_search_tree.specs.Child.{IsNextChild, NoChildFrom}
use Rattle.vrp_search_tree.specs.Inner.LastOffer.{IsFoundAt, IsLastOffer}
use Rattle.vrp_search_tree.specs.Search.{IsFinished, IsFoundUnder, IsNotBefore}
use Rattle.vrp_search_tree.proofs.WordOrder.{IsFrom, child_of_prefix, child_or_behind, from_itself, from_next, from_shorter, from_sibling, prefix_or_behind, none_earlier, not_from_longer, sibling_or_behind}

-- this many prefixes under the root, all of which come before the candidate
pub record Seen (p : Problem) (root candidate : List ℕ) (count : ℕ) : Type 0 where
  pub prefixes : List (List ℕ)
  pub distinct : AllPairs (λ a b. a ≢ b) prefixes
  pub each : All (λ w. IsPrefix p w × BeginsWith w root × (IsFrom candidate w → ⊥)) prefixes
  pub many : length prefixes ≡ count

none_seen : (p : Problem) (root candidate : List ℕ) → Seen p root candidate 0
none_seen p root candidate = record {
  prefixes = [];
  distinct = λ i j d lt within. absurd (omega (arith, within));
  each = All-nil (λ w. IsPrefix p w × BeginsWith w root × (IsFrom candidate w → ⊥));
  many = refl;
}

-- the candidate moves on
pub seen_later : (p : Problem) (root candidate later : List ℕ) (count : ℕ) → ((w : List ℕ) → IsFrom later w → IsFrom candidate w) → Seen p root candidate count → Seen p root later count
seen_later p root candidate later count moves seen = record {
  prefixes = seen.prefixes;
  distinct = seen.distinct;
  each = λ i d lt. (let one = seen.each i d lt in (one.0, one.1, λ from. one.2 (moves (get_or seen.prefixes i d) from)));
  many = seen.many;
}

-- the candidate is looked at
pub seen_more : (p : Problem) (root candidate later : List ℕ) (count : ℕ) → IsPrefix p candidate → BeginsWith candidate root → (IsFrom later candidate → ⊥)
    → ((w : List ℕ) → IsFrom later w → IsFrom candidate w) → Seen p root candidate count → Seen p root later (count + 1)
unfolding seen_later
seen_more p root candidate later count prefix begins behind moves seen =
    let old = seen_later p root candidate later count moves seen in
    record {
      prefixes = seen.prefixes ++ candidate ∷ [];
      distinct = all_pairs_push (λ a b. a ≢ b) seen.prefixes candidate seen.distinct
          (λ k d lt same. (seen.each k d lt).2 (subst (IsFrom candidate) (sym same) (from_itself candidate)));
      each = All-append (λ w. IsPrefix p w × BeginsWith w root × (IsFrom later w → ⊥)) seen.prefixes (candidate ∷ []) old.each
          (All-cons (λ w. IsPrefix p w × BeginsWith w root × (IsFrom later w → ⊥)) candidate [] (prefix, begins, behind) (All-nil (λ w. IsPrefix p w × BeginsWith w root × (IsFrom later w → ⊥))));
      many = omega (arith, seen.many, length-append seen.prefixes (candidate ∷ []));
    }

pub tree_of_seen : (p : Problem) (root candidate : List ℕ) (count : ℕ) → Seen p root candidate count → TreeHasAtLeast p root count
tree_of_seen p root candidate count seen = (seen.prefixes, seen.distinct, λ i d lt. (let one = seen.each i d lt in (one.0, one.1)), omega (arith, seen.many))

-- ---- progress

-- The words under the root that come from the candidate on are still to come. No other is of use beside what was found: each costs
-- more than the floor, or is not before the plan that was found last. That plan's word has been looked at.
pub record Progress (p : Problem) (root word : List ℕ) (next spent floor : ℕ) (last_offer : Option PricedPlan) : Type 0 where
  pub under : BeginsWith word root
  pub seen : Seen p root (word ++ next ∷ []) spent
  pub others : (w : List ℕ) → IsLawfulWord p w → BeginsWith w root → IsFrom (word ++ next ∷ []) w ⊎ IsNotBefore p floor last_offer w
  pub found : ForSome last_offer (IsFoundUnder p root)
  pub behind : ForSome last_offer (λ plan. IsFrom (word ++ next ∷ []) (word_of plan.routes) → ⊥)
  pub offered : ForSome last_offer (λ plan. floor ≤ plan.cost)

itself : (word : List ℕ) → BeginsWith word word
itself word = ([], sym (append-nil word))

pub begins_more : (word root : List ℕ) (k : ℕ) → BeginsWith word root → BeginsWith (word ++ k ∷ []) root
begins_more word root k begins = (begins.0 ++ k ∷ [], ap (λ (xs : List ℕ). xs ++ k ∷ []) begins.1 ∙ append_assoc root begins.0 (k ∷ []))

-- ---- what is not before the plan that was found

-- the floor falls
floor_falls : (p : Problem) (floor lower : ℕ) (last_offer : Option PricedPlan) (w : List ℕ) → lower ≤ floor → IsNotBefore p floor last_offer w → IsNotBefore p lower last_offer w
floor_falls p floor lower last_offer w falls (inl above) = inl (omega (arith, falls, above))
floor_falls p floor lower last_offer w falls (inr behind) = inr behind

-- a cheaper plan is found
cheaper_found : (p : Problem) (floor lower : ℕ) (old : Option PricedPlan) (plan : PricedPlan) (w : List ℕ) → lower ≤ floor → ForSome old (λ before. plan.cost < before.cost) → IsNotBefore p floor old w → IsNotBefore p lower (Some plan) w
cheaper_found p floor lower old plan w falls less (inl above) = inl (omega (arith, falls, above))
cheaper_found p floor lower None plan w falls less (inr never) = absurd never
cheaper_found p floor lower (Some before) plan w falls less (inr behind) = inr (λ comes. elim comes [
  | inl cheaper ↦ behind (inl (omega (arith, cheaper, less before refl)))
  | inr as_much ↦ behind (inl (omega (arith, as_much.0, less before refl)))
])

-- the plan's own word is not before it
found_itself : (p : Problem) (floor : ℕ) (word : List ℕ) (plan : PricedPlan) → IsFoundAt p word plan → IsNotBefore p floor (Some plan) word
found_itself p floor word plan found = inr (λ comes. elim comes [
  | inl cheaper ↦ omega (arith, cheaper, found.priced)
  | inr as_much ↦ earlier_irreflexive word (subst (IsEarlier word) found.is_word as_much.1)
])

-- words from the candidate on that are of no use are not before the plan: its word was looked at before
pub no_use : (p : Problem) (candidate : List ℕ) (floor least own : ℕ) (last_offer : Option PricedPlan) (w : List ℕ) → floor ≤ least → own ≡ cost_of last_offer → word_cost p w < NO_COST → ForSome last_offer (λ plan. IsFrom candidate (word_of plan.routes) → ⊥)
    → IsFrom candidate w → (least < word_cost p w) ⊎ (own ≤ word_cost p w) → IsNotBefore p floor last_offer w
no_use p candidate floor least own last_offer w answered is small passed from (inl above) = inl (omega (arith, answered, above))
no_use p candidate floor least own None w answered is small passed from (inr no_less) = absurd (let most : own ≡ NO_COST = is in omega (arith, most, small, no_less))
no_use p candidate floor least own (Some plan) w answered is small passed from (inr no_less) = inr (λ comes.
    let cost : own ≡ plan.cost = is in
    elim comes [
      | inl cheaper ↦ omega (arith, cheaper, cost, no_less)
      | inr as_much ↦ none_earlier candidate w (word_of plan.routes) from (passed plan refl) as_much.1
    ])

-- ---- steps

found_under : (p : Problem) (root word : List ℕ) (plan : PricedPlan) → IsLawfulWord p word → BeginsWith word root → IsFoundAt p word plan → IsFoundUnder p root plan
found_under p root word plan lawful under found = record {
  plan_of = found.plan_of;
  word = subst (IsLawfulWord p) (sym found.is_word) lawful;
  under = subst (λ (w : List ℕ). BeginsWith w root) (sym found.is_word) under;
}

abbrev some_plan : PricedPlan → Option PricedPlan → PricedPlan
some_plan other None = other
some_plan other (Some plan) = plan

-- a plan is itself
one_plan : (plan other : PricedPlan) → Some plan ≡ Some other → plan ≡ other
one_plan plan other is = ap (some_plan plan) is

no_plan : (plan : PricedPlan) → None ≡ Some plan → ⊥
no_plan plan is = absurd (cc)

cost_is : (last_offer : Option PricedPlan) (plan : PricedPlan) → last_offer ≡ Some plan → cost_of last_offer ≡ plan.cost
cost_is last_offer plan is = ap cost_of is

-- each feasible word costs less than a plan that isn't there
abbrev pub AllCostLess : Problem → Type 0
AllCostLess p = (w : List ℕ) → IsLawfulWord p w → word_cost p w < NO_COST

pub opened : (p : Problem) (root : List ℕ) (floor : ℕ) (last_offer : Option PricedPlan) → IsPrefix p root → AllCostLess p → IsLastOffer p root floor None last_offer → Progress p root root 0 1 floor last_offer
opened p root floor last_offer prefix less kept = elim kept [
  | inl taken ↦ subst (Progress p root root 0 1 floor) (sym taken.is) (record {
    under = itself root;
    seen = once;
    others = λ w lawful begins. elim (here_or_behind w begins) [
      | inl same ↦ inr (subst (IsNotBefore p floor (Some taken.plan)) (sym same) (found_itself p floor root taken.plan taken.found_at))
      | inr behind ↦ inl behind
    ];
    found = λ plan is. subst (IsFoundUnder p root) (one_plan taken.plan plan is) (found_under p root root taken.plan taken.lawful (itself root) taken.found_at);
    behind = λ plan is from. not_from_longer root [] 0 (subst (IsFrom (root ++ 0 ∷ [])) (ap (λ (v : PricedPlan). word_of v.routes) (sym (one_plan taken.plan plan is)) ∙ taken.found_at.is_word) from);
    offered = λ plan is. subst (λ (v : PricedPlan). floor ≤ v.cost) (one_plan taken.plan plan is) taken.below;
  })
  | inr nothing ↦ subst (Progress p root root 0 1 floor) (sym nothing.1) (record {
    under = itself root;
    seen = once;
    others = λ w lawful begins. elim (here_or_behind w begins) [
      | inl same ↦ absurd (let small = less root (subst (IsLawfulWord p) same lawful) in
          let no_less : NO_COST ≤ word_cost p root = nothing.0 (subst (IsLawfulWord p) same lawful) in
          omega (arith, small, no_less))
      | inr behind ↦ inl behind
    ];
    found = λ plan is. absurd (no_plan plan is);
    behind = λ plan is. absurd (no_plan plan is);
    offered = λ plan is. absurd (no_plan plan is);
  })
]
  where
    once : Seen p root (root ++ 0 ∷ []) 1
    once = seen_more p root root (root ++ 0 ∷ []) 0 prefix (itself root) (not_from_longer root [] 0) (λ w from. from_shorter root (0 ∷ []) w from) (none_seen p root root)

    here_or_behind : (w : List ℕ) → BeginsWith w root → (w ≡ root) ⊎ IsFrom (root ++ 0 ∷ []) w
    here_or_behind w begins = prefix_or_behind root w (rw begins.1 (from_shorter root begins.0 (root ++ begins.0) (from_itself (root ++ begins.0))))

no_word_under : (p : Problem) (prefix word : List ℕ) (k : ℕ) → IsLawfulWord p word → BeginsWith word (prefix ++ k ∷ []) → IsPrefix p (prefix ++ k ∷ [])
no_word_under p prefix word k lawful begins = prefixes_before p (prefix ++ k ∷ []) begins.0 (subst (IsPrefix p) begins.1 lawful.prefix)

-- a word that comes from the candidate on comes from the next child on
from_child : (p : Problem) (word : List ℕ) (next k : ℕ) → IsNextChild p word next k → (w : List ℕ) → IsLawfulWord p w → IsFrom (word ++ next ∷ []) w → IsFrom (word ++ k ∷ []) w
from_child p word next k child w lawful from = elim (sibling_or_behind word next k w from) [
  | inl between ↦ absurd (child.first between.under.symbol between.under.within between.before (no_word_under p word w between.under.symbol lawful between.under.begins))
  | inr behind ↦ behind
]

not_behind : (prefix : List ℕ) (j : ℕ) → IsFrom (prefix ++ (j + 1) ∷ []) (prefix ++ j ∷ []) → ⊥
not_behind [] j (inl above) = omega (arith, above)
not_behind [] j (inr here) = omega (arith, here.0)
not_behind (i ∷ prefix) j (inl above) = omega (arith, above)
not_behind (i ∷ prefix) j (inr here) = not_behind prefix j here.1

-- a child that isn't gone below
pub pruned : (p : Problem) (root word : List ℕ) (next k spent floor lower : ℕ) (last_offer : Option PricedPlan) → Progress p root word next spent floor last_offer → IsNextChild p word next k → lower ≤ floor
    → ((w : List ℕ) → IsLawfulWord p w → IsFrom (word ++ next ∷ []) w → BeginsWith w (word ++ k ∷ []) → IsNotBefore p lower last_offer w)
    → Progress p root word (k + 1) (spent + 1) lower last_offer
pruned p root word next k spent floor lower last_offer progress child falls none =
    let to_child : (w : List ℕ) → IsFrom (word ++ k ∷ []) w → IsFrom (word ++ next ∷ []) w = λ w from. from_sibling word next k w child.within from in
    let to_next : (w : List ℕ) → IsFrom (word ++ (k + 1) ∷ []) w → IsFrom (word ++ next ∷ []) w = λ w from. to_child w (from_sibling word k (k + 1) w (omega arith) from) in
    let at_child = seen_later p root (word ++ next ∷ []) (word ++ k ∷ []) spent to_child progress.seen in
    record {
      under = progress.under;
      seen = seen_more p root (word ++ k ∷ []) (word ++ (k + 1) ∷ []) spent child.child (begins_more word root k progress.under)
          (λ from. not_behind word k from)
          (λ w from. from_sibling word k (k + 1) w (omega arith) from) at_child;
      others = λ w lawful begins. elim (progress.others w lawful begins) [
        | inl from ↦ elim (sibling_or_behind word k (k + 1) w (from_child p word next k child w lawful from)) [
          | inl between ↦ inr (let same : between.under.symbol ≡ k = omega (arith, between.under.within, between.before) in
              none w lawful from (subst (λ j. BeginsWith w (word ++ j ∷ [])) same between.under.begins))
          | inr behind ↦ inl behind
        ]
        | inr done ↦ inr (floor_falls p floor lower last_offer w falls done)
      ];
      found = progress.found;
      behind = λ plan is from. progress.behind plan is (to_next (word_of plan.routes) from);
      offered = λ plan is. omega (arith, falls, progress.offered plan is);
    }

-- a child that is gone below
pub descended : (p : Problem) (root word : List ℕ) (next k spent floor lower : ℕ) (last_offer new : Option PricedPlan) → Progress p root word next spent floor last_offer → IsNextChild p word next k → lower ≤ floor
    → AllCostLess p → IsLastOffer p (word ++ k ∷ []) lower last_offer new → Progress p root (word ++ k ∷ []) 0 (spent + 1) lower new
descended p root word next k spent floor lower last_offer new progress child falls less kept = elim kept [
  | inl taken ↦ subst (Progress p root (word ++ k ∷ []) 0 (spent + 1) lower) (sym taken.is) (record {
    under = under;
    seen = more;
    others = λ w lawful begins. elim (progress.others w lawful begins) [
      | inl from ↦ elim (prefix_or_behind (word ++ k ∷ []) w (from_child p word next k child w lawful from)) [
        | inl same ↦ inr (subst (IsNotBefore p lower (Some taken.plan)) (sym same) (found_itself p lower (word ++ k ∷ []) taken.plan taken.found_at))
        | inr behind ↦ inl behind
      ]
      | inr done ↦ inr (cheaper_found p floor lower last_offer taken.plan w falls (λ before is. omega (arith, taken.cheaper, cost_is last_offer before is)) done)
    ];
    found = λ plan is. subst (IsFoundUnder p root) (one_plan taken.plan plan is) (found_under p root (word ++ k ∷ []) taken.plan taken.lawful under taken.found_at);
    behind = λ plan is from. not_from_longer (word ++ k ∷ []) [] 0 (subst (IsFrom ((word ++ k ∷ []) ++ 0 ∷ [])) (ap (λ (v : PricedPlan). word_of v.routes) (sym (one_plan taken.plan plan is)) ∙ taken.found_at.is_word) from);
    offered = λ plan is. subst (λ (v : PricedPlan). lower ≤ v.cost) (one_plan taken.plan plan is) taken.below;
  })
  | inr nothing ↦ subst (Progress p root (word ++ k ∷ []) 0 (spent + 1) lower) (sym nothing.1) (record {
    under = under;
    seen = more;
    others = λ w lawful begins. elim (progress.others w lawful begins) [
      | inl from ↦ elim (prefix_or_behind (word ++ k ∷ []) w (from_child p word next k child w lawful from)) [
        | inl same ↦ inr (no_use p (word ++ next ∷ []) lower lower (cost_of last_offer) last_offer w (omega arith) refl (less w lawful) progress.behind from
            (inr (subst (λ (v : List ℕ). cost_of last_offer ≤ word_cost p v) (sym same) (nothing.0 (subst (IsLawfulWord p) same lawful)))))
        | inr behind ↦ inl behind
      ]
      | inr done ↦ inr (floor_falls p floor lower last_offer w falls done)
    ];
    found = progress.found;
    behind = λ plan is from. progress.behind plan is (to_child (word_of plan.routes) (from_shorter (word ++ k ∷ []) (0 ∷ []) (word_of plan.routes) from));
    offered = λ plan is. omega (arith, falls, progress.offered plan is);
  })
]
  where
    to_child : (w : List ℕ) → IsFrom (word ++ k ∷ []) w → IsFrom (word ++ next ∷ []) w
    to_child w from = from_sibling word next k w child.within from

    under : BeginsWith (word ++ k ∷ []) root
    under = begins_more word root k progress.under

    more : Seen p root ((word ++ k ∷ []) ++ 0 ∷ []) (spent + 1)
    more = seen_more p root (word ++ k ∷ []) ((word ++ k ∷ []) ++ 0 ∷ []) spent child.child under
        (not_from_longer (word ++ k ∷ []) [] 0)
        (λ w from. from_shorter (word ++ k ∷ []) (0 ∷ []) w from) (seen_later p root (word ++ next ∷ []) (word ++ k ∷ []) spent to_child progress.seen)

begins_less : (word rest root : List ℕ) (k : ℕ) → word ++ k ∷ [] ≡ root ++ rest → length root ≤ length word → BeginsWith word root
begins_less word rest [] k is le = (word, refl)
begins_less [] rest (i ∷ root) k is le = absurd (omega (arith, le))
begins_less (j ∷ word) rest (i ∷ root) k is le =
    let tail : word ++ k ∷ [] ≡ root ++ rest = cc in
    let head : j ≡ i = cc in
    let more = begins_less word rest root k tail (omega (arith, le)) in
    (more.0, let whole = more.1 in cc)

-- no child is left: back to the front that is one symbol shorter
pub returned : (p : Problem) (root word : List ℕ) (last next spent floor : ℕ) (last_offer : Option PricedPlan) → Progress p root (word ++ last ∷ []) next spent floor last_offer → NoChildFrom p (word ++ last ∷ []) next → length root ≤ length word
    → Progress p root word (last + 1) spent floor last_offer
returned p root word last next spent floor last_offer progress none longer =
    record {
      under = begins_less word progress.under.0 root last progress.under.1 longer;
      seen = seen_later p root ((word ++ last ∷ []) ++ next ∷ []) (word ++ (last + 1) ∷ []) spent (λ w from. from_next word last next w from) progress.seen;
      others = λ w lawful begins. elim (progress.others w lawful begins) [
        | inl from ↦ elim (child_or_behind word last next w from) [
          | inl under ↦ absurd (none under.symbol under.within (no_word_under p (word ++ last ∷ []) w under.symbol lawful under.begins))
          | inr behind ↦ inl behind
        ]
        | inr done ↦ inr done
      ];
      found = progress.found;
      behind = λ plan is from. progress.behind plan is (from_next word last next (word_of plan.routes) from);
      offered = progress.offered;
    }

same_as_root : (word root rest : List ℕ) → word ≡ root ++ rest → length word ≡ length root → word ≡ root
same_as_root word root [] is as_long = is ∙ append-nil root
same_as_root word root (k ∷ rest) is as_long = absurd (omega (arith, as_long, ap length is, length-append root (k ∷ rest)))

-- no child is left, and none of the root's
pub finished : (p : Problem) (root word : List ℕ) (next spent floor : ℕ) (last_offer : Option PricedPlan) → Progress p root word next spent floor last_offer → NoChildFrom p word next → length word ≡ length root
    → (w : List ℕ) → IsLawfulWord p w → BeginsWith w root → IsNotBefore p floor last_offer w
finished p root word next spent floor last_offer progress none as_long = λ w lawful begins.
    let same : word ≡ root = same_as_root word root progress.under.0 progress.under.1 as_long in
    elim (progress.others w lawful begins) [
      | inl from ↦
          let inside : IsFrom (root ++ next ∷ []) (root ++ begins.0) = subst (λ (r : List ℕ). IsFrom (r ++ next ∷ []) (root ++ begins.0)) same (subst (IsFrom (word ++ next ∷ [])) begins.1 from) in
          let under = child_of_prefix root begins.0 next inside in
          let begun : BeginsWith w (word ++ under.symbol ∷ []) = subst (λ (r : List ℕ). BeginsWith w (r ++ under.symbol ∷ [])) (sym same) (subst (λ (v : List ℕ). BeginsWith v (root ++ under.symbol ∷ [])) (sym begins.1) under.begins) in
          absurd (none under.symbol under.within (no_word_under p word w under.symbol lawful begun))
      | inr done ↦ done
    ]

-- what is not before the plan that was found costs no less than the floor
pub costs_floor : (p : Problem) (floor : ℕ) (last_offer : Option PricedPlan) (w : List ℕ) → ForSome last_offer (λ plan. floor ≤ plan.cost) → IsNotBefore p floor last_offer w → floor ≤ word_cost p w
costs_floor p floor last_offer w offered (inl above) = omega (arith, above)
costs_floor p floor None w offered (inr never) = absurd never
costs_floor p floor (Some plan) w offered (inr behind) = elim (cases_lt (word_cost p w) plan.cost) [
  | inl cheaper ↦ absurd (behind (inl cheaper))
  | inr no_less ↦ omega (arith, no_less, offered plan refl)
]

-- a child is left
pub unfinished : (p : Problem) (root word : List ℕ) (next k spent floor : ℕ) (last_offer : Option PricedPlan) → Progress p root word next spent floor last_offer → IsNextChild p word next k → TreeHasAtLeast p root (spent + 1)
unfinished p root word next k spent floor last_offer progress child =
    let to_child : (w : List ℕ) → IsFrom (word ++ k ∷ []) w → IsFrom (word ++ next ∷ []) w = λ w from. from_sibling word next k w child.within from in
    let at_child = seen_later p root (word ++ next ∷ []) (word ++ k ∷ []) spent to_child progress.seen in
    tree_of_seen p root (word ++ (k + 1) ∷ []) (spent + 1) (seen_more p root (word ++ k ∷ []) (word ++ (k + 1) ∷ []) spent child.child (begins_more word root k progress.under)
    (λ from. not_behind word k from)
    (λ w from. from_sibling word k (k + 1) w (omega arith) from) at_child)

-- the search of a piece that ends at the piece's own word: no word under it costs as little as the floor
pub ends_at_root : (p : Problem) (root : List ℕ) (budget floor : ℕ) → IsPrefix p root → 1 ≤ budget → ((w : List ℕ) → IsLawfulWord p w → BeginsWith w root → floor < word_cost p w) → IsFinished p root budget floor 1 None
ends_at_root p root budget floor prefix some above = record {
  some = omega arith;
  within = some;
  tree = tree_of_seen p root (root ++ 0 ∷ []) 1 (seen_more p root root (root ++ 0 ∷ []) 0 prefix (itself root) (not_from_longer root [] 0) (λ w from. from_shorter root (0 ∷ []) w from) (none_seen p root root));
  found = λ plan is. absurd (no_plan plan is);
  offered = λ plan is. absurd (no_plan plan is);
  none_before = λ w lawful begins. inl (above w lawful begins);
  none_cheaper = λ w lawful begins. omega (arith, above w lawful begins);
}

-- the search of a piece that has come by all words
pub ends_at_last : (p : Problem) (root word : List ℕ) (next spent floor budget : ℕ) (last_offer : Option PricedPlan) → Progress p root word next spent floor last_offer → NoChildFrom p word next → length word ≡ length root → 1 ≤ spent → spent ≤ budget
    → IsFinished p root budget floor spent last_offer
ends_at_last p root word next spent floor budget last_offer progress none as_long some within = record {
  some = some;
  within = within;
  tree = tree_of_seen p root (word ++ next ∷ []) spent progress.seen;
  found = progress.found;
  offered = progress.offered;
  none_before = finished p root word next spent floor last_offer progress none as_long;
  none_cheaper = λ w lawful begins. costs_floor p floor last_offer w progress.offered (finished p root word next spent floor last_offer progress none as_long w lawful begins);
}
