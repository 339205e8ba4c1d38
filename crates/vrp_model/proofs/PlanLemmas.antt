-- Routes in one list of stops, and the plan that sends one truck to each customer.
use Rattle.std.proofs.Common.{subst, ◌≡◌, ◌≢◌, ℕ, suc, ◌+◌, ◌≤◌, List, ◌∷◌, [], ◌++◌, length, length-append, append_assoc, append-nil, get_or, map, slice_range, sym, ◌∙◌, ap, refl, arith}
use Rattle.std.specs.List.{concat, range_with_len}
use Rattle.std.specs.List.Sorted.{IsStrictlyIncreasing}
use Rattle.std.proofs.lemmas.Grind.{common_steps, pieces}
use Rattle.std.proofs.lemmas.List.{length-map, map-append}
use Rattle.std.proofs.lemmas.List.Elements.{All-append, All-cons, All-map, All-nil}
use Rattle.std.proofs.lemmas.List.Sorted.{IsPermutation-refl}
use Rattle.std.proofs.lemmas.List.Sums.{sum_by_push}
use Rattle.vrp_model.proofs.Words.{word_of-append}
use Rattle.vrp_model.proofs.DistinctLists.{range_rises}
use Rattle.vrp_model.proofs.PlacesLemmas.{range_with_len_more}
use Rattle.vrp_model.specs.Problem.{HasTrucks, Problem, IsProblem, customers}
use Rattle.vrp_model.specs.Route.{IsLawful, load_of, plan_cost, route_cost}
use Rattle.vrp_model.specs.Inner.Stops.{routes_in, AreWithin, ArePlanStops, IsWithin}
use Rattle.vrp_model.specs.Word.{first_stops, word_of}
use Rattle.vrp_model.specs.declared.plan.Span.{Span}

-- a part of a list that ends before more is appended stays
slice_range-append : (stops more : List ℕ) (start end : ℕ) → start ≤ end → end ≤ length stops → slice_range (stops ++ more) start end ≡ slice_range stops start end
slice_range-append stops more start end rising bound = grind (arith, common_steps, pieces)

-- routes stay where stops are appended
routes_in-append : (stops more : List ℕ) (spans : List Span) → AreWithin stops spans → routes_in (stops ++ more) spans ≡ routes_in stops spans
routes_in-append stops more [] within = refl
routes_in-append stops more (span ∷ spans) within =
    let here = within 0 span (omega arith) in
    let first = slice_range-append stops more span.start span.end here.rising here.bound in
    let rest = routes_in-append stops more spans (λ k d inside. within (suc k) d (omega arith)) in
    cc

-- the appended stops are the new route
pub routes_in_push : (word route : List ℕ) (spans : List Span) (span : Span) → AreWithin word spans → span.start ≡ length word → span.end ≡ length word + length route
    → routes_in ((word ++ route) ++ 0 ∷ []) (spans ++ span ∷ []) ≡ routes_in word spans ++ route ∷ []
routes_in_push word route spans span within start end =
    let assoc : (word ++ route) ++ 0 ∷ [] ≡ word ++ (route ++ 0 ∷ []) = append_assoc word route (0 ∷ []) in
    let earlier : routes_in ((word ++ route) ++ 0 ∷ []) spans ≡ routes_in word spans = ap (λ (w : List ℕ). routes_in w spans) assoc ∙ routes_in-append word (route ++ 0 ∷ []) spans within in
    let long : length (word ++ route) ≡ length word + length route = length-append word route in
    let cut : slice_range ((word ++ route) ++ 0 ∷ []) span.start span.end ≡ slice_range (word ++ route) span.start span.end = slice_range-append (word ++ route) (0 ∷ []) span.start span.end (omega arith) (omega arith) in
    let new : slice_range (word ++ route) span.start span.end ≡ route = grind (arith, common_steps, pieces) in
    map-append _ spans (span ∷ []) ∙ cc

-- the word, and the spans within it, when a route is appended
pub ArePlanStops-push : (word route : List ℕ) (spans : List Span) (span : Span) → ArePlanStops word spans → IsStrictlyIncreasing (first_stops (routes_in word spans ++ route ∷ [])) → span.start ≡ length word → span.end ≡ length word + length route → ArePlanStops ((word ++ route) ++ 0 ∷ []) (spans ++ span ∷ [])
ArePlanStops-push word route spans span kept rising start end =
    let long : length ((word ++ route) ++ 0 ∷ []) ≡ length word + length route + 1 = length-append (word ++ route) (0 ∷ []) ∙ ap (λ n. n + 1) (length-append word route) in
    let routes = routes_in_push word route spans span kept.within start end in
    record {
      within = All-append (IsWithin ((word ++ route) ++ 0 ∷ [])) spans (span ∷ [])
          (λ k d lt. let here = kept.within k d lt in record { rising = here.rising; bound = omega (arith, here.bound, long) })
          (All-cons (IsWithin ((word ++ route) ++ 0 ∷ [])) span [] (record { rising = omega arith; bound = omega (arith, long) }) (All-nil (IsWithin ((word ++ route) ++ 0 ∷ []))));
      is_word =
          append_assoc word route (0 ∷ [])
          ∙ ap (λ (w : List ℕ). w ++ (route ++ 0 ∷ [])) kept.is_word
          ∙ ap (λ (w : List ℕ). word_of (routes_in word spans) ++ w) (sym (append-nil (route ++ 0 ∷ [])))
          ∙ sym (word_of-append (routes_in word spans) (route ∷ []))
          ∙ ap word_of (sym routes);
      rising = subst (λ (rs : List (List ℕ)). IsStrictlyIncreasing (first_stops rs)) (sym routes) rising;
    }

concat_singles : (xs : List ℕ) → concat (map (λ x. x ∷ []) xs) ≡ xs
concat_singles [] = refl
concat_singles (x ∷ xs) = ap (λ rest. x ∷ rest) (concat_singles xs)

pub IsLawful-singles : (p : Problem) → IsProblem p → HasTrucks p (length (customers p)) → IsLawful p (map (λ customer. customer ∷ []) (customers p))
IsLawful-singles p known few = record {
  served = rw concat_singles (IsPermutation-refl _);
  stops = All-map (λ route. route ≢ []) (λ customer. customer ∷ []) (customers p) (λ k d inside empty. cc);
  fits = All-map (λ route. load_of p route ≤ p.capacity) (λ customer. customer ∷ []) (customers p) (λ k d inside. omega (arith, known.fitting_demands (get_or (customers p) k d)));
  few = subst (λ n. HasTrucks p n) (sym (length-map (customers p) (λ customer. customer ∷ []))) few;
}

-- one more customer, one more truck
pub singles_push : (routes : List (List ℕ)) (count : ℕ) → routes ≡ map (λ customer. customer ∷ []) (range_with_len 1 count) → routes ++ (((count + 1) ∷ []) ∷ []) ≡ map (λ customer. customer ∷ []) (range_with_len 1 (count + 1))
singles_push routes count so_far =
    let more = range_with_len_more 1 count (count + 1) (omega arith) in
    rw (so_far, more, map-append) refl

-- one more customer's arcs there and back
pub plan_cost_push : (p : Problem) (routes : List (List ℕ)) (route : List ℕ) → plan_cost p (routes ++ route ∷ []) ≡ plan_cost p routes + route_cost p route
plan_cost_push p routes route = sum_by_push (route_cost p) routes route

first_of_singles : (xs : List ℕ) → first_stops (map (λ x. x ∷ []) xs) ≡ xs
first_of_singles [] = refl
first_of_singles (x ∷ xs) = ap (λ rest. x ∷ rest) (first_of_singles xs)

-- the routes of this many customers, one each, rise by first customer
pub rising_singles : (count : ℕ) → IsStrictlyIncreasing (first_stops (map (λ customer. customer ∷ []) (range_with_len 1 count)))
rising_singles count = subst IsStrictlyIncreasing (sym (first_of_singles (range_with_len 1 count))) (range_rises count)

-- and with one more behind them
pub rising_with_single : (routes : List (List ℕ)) (count : ℕ) → routes ≡ map (λ customer. customer ∷ []) (range_with_len 1 count) → IsStrictlyIncreasing (first_stops (routes ++ (((count + 1) ∷ []) ∷ [])))
rising_with_single routes count so_far = subst (λ (rs : List (List ℕ)). IsStrictlyIncreasing (first_stops rs)) (sym (singles_push routes count so_far)) (rising_singles (count + 1))
