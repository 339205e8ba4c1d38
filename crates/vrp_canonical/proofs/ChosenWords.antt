-- The word of chosen routes, route by route.
use Rattle.std.proofs.Common.{◌≡◌, ◌<◌, ℕ, List, [], ◌∷◌, ◌++◌, get_or, length, sym, ap, ◌∙◌}
use Rattle.std.proofs.lemmas.List.{append_assoc, flat_map_more, map-append}
use Rattle.std.proofs.lemmas.List.Elements.{All-push}
use Rattle.vrp_canonical.specs.Ordering.{IsWordOf}
use Rattle.vrp_canonical.specs.Passing.{route_in}
use Rattle.vrp_canonical.specs.Reaching.{routes_at}
use Rattle.vrp_model.specs.Word.{word_of}
use Rattle.vrp_partition.specs.declared.route.Route.{Route}

-- a route of the pool, and 0, after the word of those before
pub word_with : (stops : List (List ℕ)) (pool choice : List Route) (word : List ℕ) (at : ℕ) (chosen : Route) → at < length pool → route_in pool at ≡ chosen → IsWordOf stops pool choice word
    → IsWordOf stops pool (choice ++ chosen ∷ []) ((word ++ get_or stops at []) ++ 0 ∷ [])
word_with stops pool choice word at chosen lt is before = record {
  places = before.places ++ at ∷ [];
  within = All-push (λ k. k < length pool) before.places at before.within lt;
  chosen = map-append (route_in pool) before.places (at ∷ []) ∙ (ap (λ (rs : List Route). rs ++ route_in pool at ∷ []) before.chosen ∙ ap (λ (r : Route). choice ++ r ∷ []) is);
  is =
      append_assoc word (get_or stops at []) (0 ∷ [])
      ∙ (ap (λ (w : List ℕ). w ++ (get_or stops at [] ++ 0 ∷ [])) before.is
      ∙ (flat_map_more (λ (r : List ℕ). r ++ 0 ∷ []) [] (routes_at stops before.places) (get_or stops at [])
      ∙ ap word_of (sym (map-append (λ k. get_or stops k []) before.places (at ∷ [])))));
}

-- what is appended to a word: stops that were read, and then 0
pub longer_word : (word stops read extended longer : List ℕ) → read ≡ stops → extended ≡ word ++ read → longer ≡ extended ++ 0 ∷ [] → longer ≡ (word ++ stops) ++ 0 ∷ []
longer_word word stops read extended longer same first last = last ∙ ap (λ (xs : List ℕ). xs ++ 0 ∷ []) (first ∙ ap (λ (xs : List ℕ). word ++ xs) same)
