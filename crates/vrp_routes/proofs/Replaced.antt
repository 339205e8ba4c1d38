-- A route is replaced in place: a beginning by a rearrangement that ends at the same stop.
use Rattle.std.proofs.Common.{◌≡◌, ◌≢◌, ℕ, zero, suc, ◌+◌, ◌≤◌, List, [], ◌∷◌, ◌++◌, length, length-append, refl, sym, ap, subst, ◌∙◌, inl, inr, append_assoc, append-nil, arith}
use Rattle.std.specs.List.{All, Contains, concat, sum_by}
use Rattle.std.specs.List.Sorted.{IsPermutation}
use Rattle.std.proofs.lemmas.List.Elements.{All-append, All-cons, All-tail}
use Rattle.std.proofs.lemmas.List.Folds.{concat-append}
use Rattle.std.proofs.lemmas.List.Sorted.{IsPermutation-append_left, IsPermutation-append_right, IsPermutation-sym, IsPermutation-trans, length_permutation, sum_by-IsPermutation}
use Rattle.std.proofs.lemmas.List.Sums.{sum_by-append, sum_by-cons}
use Rattle.vrp_model.specs.Order.{ComesBefore, IsEarlier, IsCanonical}
use Rattle.vrp_model.specs.Problem.{HasTrucks, Problem, demand_of}
use Rattle.vrp_model.specs.Route.{IsLawful, PricedPlan, cost_along, load_of, plan_cost, route_cost}
use Rattle.vrp_model.specs.Word.{last_symbol, word_cost, word_of}
use Rattle.vrp_model.proofs.Ordered.{earlier_behind}
use Rattle.vrp_model.proofs.PlanWords.{cost_parts}
use Rattle.vrp_model.proofs.Words.{last_is, word_of-append}
use Rattle.vrp_routes.specs.Useful.{BeginsUseful, IsUsefulIn}
use Rattle.vrp_routes.specs.declared.plan_range.PlanRange.{PlanRange}

-- what stands before an element and behind it
pub record Split {X : Type 0} (xs : List X) (x : X) : Type 0 where
  pub before : List X
  pub after : List X
  pub is : xs ≡ before ++ x ∷ after

pub split_at : {X : Type 0} (xs : List X) (x : X) → Contains xs x → Split xs x
split_at [] x (k, lt, is) = absurd (omega (arith, lt))
split_at (y ∷ xs) x (zero, lt, is) = record { before = []; after = xs; is = ap (λ z. z ∷ xs) is }
split_at (y ∷ xs) x (suc k, lt, is) =
    let rest = split_at xs x (k, omega (arith, lt), is) in
    record { before = y ∷ rest.before; after = rest.after; is = ap (λ zs. y ∷ zs) rest.is }

pub first_part : {X : Type 0} (P : X → Type 0) (xs ys : List X) → All P (xs ++ ys) → All P xs
first_part P [] ys all = λ i d lt. absurd (omega (arith, lt))
first_part P (x ∷ xs) ys all = All-cons P x xs (all 0 x (omega arith)) (first_part P xs ys (All-tail P x (xs ++ ys) all))

pub second_part : {X : Type 0} (P : X → Type 0) (xs ys : List X) → All P (xs ++ ys) → All P ys
second_part P [] ys all = all
second_part P (x ∷ xs) ys all = second_part P xs ys (All-tail P x (xs ++ ys) all)

-- what holds of all routes holds of all once one that it holds of stands in the place of another
in_place : {X : Type 0} (P : X → Type 0) (before after : List X) (x y : X) → All P (before ++ x ∷ after) → P y → All P (before ++ y ∷ after)
in_place P before after x y all holds = All-append P before (y ∷ after) (first_part P before (x ∷ after) all) (All-cons P y after holds (All-tail P x after (second_part P before (x ∷ after) all)))

pub holds_of_middle : {X : Type 0} (P : X → Type 0) (before after : List X) (x : X) → All P (before ++ x ∷ after) → P x
holds_of_middle P before after x all = second_part P before (x ∷ after) all 0 x (omega arith)

pub sum_around : {X : Type 0} (f : X → ℕ) (before after : List X) (x : X) → sum_by f (before ++ x ∷ after) ≡ f x + sum_by f (before ++ after)
sum_around f before after x = omega (arith, sum_by-append f before (x ∷ after), sum_by-cons f x after, sum_by-append f before after)

-- of two words as long, where they differ decides, whatever follows
pub earlier_longer : (word other more rest : List ℕ) → length word ≡ length other → IsEarlier word other → IsEarlier (word ++ more) (other ++ rest)
earlier_longer [] [] more rest long earlier = absurd earlier
earlier_longer [] (k ∷ other) more rest long earlier = absurd (omega (arith, long))
earlier_longer (j ∷ word) [] more rest long earlier = absurd earlier
earlier_longer (j ∷ word) (k ∷ other) more rest long (inl less) = inl less
earlier_longer (j ∷ word) (k ∷ other) more rest long (inr (same, earlier)) = inr (same, earlier_longer word other more rest (omega (arith, long)) earlier)

-- a rearrangement of a beginning leaves all routes together a rearrangement
moved_in_place : (before after : List (List ℕ)) (stops others more : List ℕ) → IsPermutation stops others → IsPermutation (concat (before ++ (others ++ more) ∷ after)) (concat (before ++ (stops ++ more) ∷ after))
moved_in_place before after stops others more moved =
    let back = IsPermutation-sym stops others moved in
    let rest : IsPermutation ((others ++ more) ++ concat after) ((stops ++ more) ++ concat after) = IsPermutation-append_left (concat after) (others ++ more) (stops ++ more) (IsPermutation-append_left more others stops back) in
    let all = IsPermutation-append_right (concat before) ((others ++ more) ++ concat after) ((stops ++ more) ++ concat after) rest in
    rw (concat-append before ((others ++ more) ∷ after), concat-append before ((stops ++ more) ∷ after)) all

load_in_place : (p : Problem) (stops others more : List ℕ) → IsPermutation stops others → load_of p (others ++ more) ≡ load_of p (stops ++ more)
load_in_place p stops others more moved = omega (arith, sum_by-append (demand_of p) others more, sum_by-append (demand_of p) stops more, sum_by-IsPermutation (demand_of p) stops others moved)

some_stops : (xs ys : List ℕ) → length xs ≡ length ys → ys ≢ [] → xs ≢ []
some_stops xs [] same some none = some refl
some_stops [] (y ∷ ys) same some none = omega (arith, same)
some_stops (x ∷ xs) (y ∷ ys) same some none = cc

lawful_in_place : (p : Problem) (before after : List (List ℕ)) (stops others more : List ℕ) → IsPermutation stops others → IsLawful p (before ++ (stops ++ more) ∷ after) → IsLawful p (before ++ (others ++ more) ∷ after)
lawful_in_place p before after stops others more moved lawful =
    let long : length (others ++ more) ≡ length (stops ++ more) = omega (arith, length-append others more, length-append stops more, length_permutation stops others moved) in
    let some = holds_of_middle (λ r. r ≢ []) before after (stops ++ more) lawful.stops in
    let light = holds_of_middle (λ r. load_of p r ≤ p.capacity) before after (stops ++ more) lawful.fits in
    let many : length (before ++ (stops ++ more) ∷ after) ≡ length (before ++ (others ++ more) ∷ after) = omega (arith, length-append before ((stops ++ more) ∷ after), length-append before ((others ++ more) ∷ after)) in
    record {
      served = IsPermutation-trans _ _ _ (moved_in_place before after stops others more moved) lawful.served;
      stops = in_place (λ r. r ≢ []) before after (stops ++ more) (others ++ more) lawful.stops (some_stops (others ++ more) (stops ++ more) long some);
      fits = in_place (λ r. load_of p r ≤ p.capacity) before after (stops ++ more) (others ++ more) lawful.fits (omega (arith, light, load_in_place p stops others more moved));
      few = subst (HasTrucks p) many lawful.few;
    }

cost_behind : (p : Problem) (stops more : List ℕ) (at : ℕ) → at ≡ last_symbol stops → word_cost p (stops ++ more) ≡ word_cost p stops + cost_along p at more
cost_behind p stops more at is = cost_parts p 0 stops more ∙ ap (λ n. word_cost p stops + cost_along p n more) (sym (is ∙ last_is stops))

-- what is paid for a route that begins so
cost_of_beginning : (p : Problem) (stops others more : List ℕ) → last_symbol others ≡ last_symbol stops → route_cost p (others ++ more) + word_cost p stops ≡ route_cost p (stops ++ more) + word_cost p others
cost_of_beginning p stops others more ends =
    let one = ap (word_cost p) (append_assoc stops more (0 ∷ [])) ∙ cost_behind p stops (more ++ 0 ∷ []) (last_symbol stops) refl in
    let other = ap (word_cost p) (append_assoc others more (0 ∷ [])) ∙ cost_behind p others (more ++ 0 ∷ []) (last_symbol stops) (sym ends) in
    omega (arith, one, other)

word_in_place : (before after : List (List ℕ)) (stops others more : List ℕ) → length others ≡ length stops → IsEarlier others stops → IsEarlier (word_of (before ++ (others ++ more) ∷ after)) (word_of (before ++ (stops ++ more) ∷ after))
word_in_place before after stops others more long earlier =
    let rest = more ++ (0 ∷ []) ++ word_of after in
    let shape : (xs : List ℕ) → word_of (before ++ (xs ++ more) ∷ after) ≡ word_of before ++ (xs ++ rest) = λ xs. word_of-append before ((xs ++ more) ∷ after) ∙ ap (λ (ys : List ℕ). word_of before ++ ys) (simp append_assoc) in
    rw (shape others, shape stops) (earlier_behind (word_of before) (others ++ rest) (stops ++ rest) (earlier_longer others stops rest rest long earlier))

-- the plan with the rearrangement in the place of the beginning costs as much more or less as that does
no_better_in_place : (p : Problem) (plan : PricedPlan) (before after : List (List ℕ)) (stops others more : List ℕ) (old new : ℕ) → IsCanonical p plan → plan.routes ≡ before ++ (stops ++ more) ∷ after
    → IsPermutation stops others → route_cost p (others ++ more) + old ≡ route_cost p (stops ++ more) + new → ComesBefore new others old stops → ⊥
no_better_in_place p plan before after stops others more old new canonical is moved costs better =
    let routes = before ++ (others ++ more) ∷ after in
    let former = before ++ (stops ++ more) ∷ after in
    let other : PricedPlan = record { routes = routes; cost = plan_cost p routes } in
    let lawful = lawful_in_place p before after stops others more moved (subst (IsLawful p) is canonical.plan_of.lawful) in
    let price : plan.cost ≡ plan_cost p former = canonical.plan_of.priced ∙ ap (plan_cost p) is in
    let sums : plan_cost p routes + old ≡ plan_cost p former + new = omega (arith, sum_around (route_cost p) before after (others ++ more), sum_around (route_cost p) before after (stops ++ more), costs) in
    let none = canonical.none_before other (record { lawful = lawful; priced = refl }) in
    let go : ComesBefore new others old stops → ⊥ = elim [
      | inl less ↦ none (inl (omega (arith, price, sums, less)))
      | inr (same, earlier) ↦ none (inr (omega (arith, price, sums, same), subst (λ (rs : List (List ℕ)). IsEarlier (word_of routes) (word_of rs)) (sym is) (word_in_place before after stops others more (length_permutation stops others moved) earlier)))
    ] in
    go better

pub no_better_beginning : (p : Problem) (range : PlanRange) (stops others : List ℕ) → BeginsUseful p range stops
    → IsPermutation stops others → last_symbol others ≡ last_symbol stops → ComesBefore (word_cost p others) others (word_cost p stops) stops → ⊥
no_better_beginning p range stops others (more, useful) moved ends better =
    let split = split_at useful.plan.routes (stops ++ more) useful.among in
    no_better_in_place p useful.plan split.before split.after stops others more (word_cost p stops) (word_cost p others) useful.canonical split.is moved (cost_of_beginning p stops others more ends) better

pub no_better_route : (p : Problem) (range : PlanRange) (stops others : List ℕ) → IsUsefulIn p range stops → IsPermutation stops others → ComesBefore (route_cost p others) others (route_cost p stops) stops → ⊥
no_better_route p range stops others useful moved better =
    let split = split_at useful.plan.routes stops useful.among in
    let is : useful.plan.routes ≡ split.before ++ (stops ++ []) ∷ split.after = split.is ∙ ap (λ (xs : List ℕ). split.before ++ xs ∷ split.after) (sym (append-nil stops)) in
    let costs : route_cost p (others ++ []) + route_cost p stops ≡ route_cost p (stops ++ []) + route_cost p others = omega (arith, ap (route_cost p) (append-nil others), ap (route_cost p) (append-nil stops)) in
    no_better_in_place p useful.plan split.before split.after stops others [] (route_cost p stops) (route_cost p others) useful.canonical is moved costs better
