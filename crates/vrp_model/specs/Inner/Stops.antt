-- Routes stored one after the other in one list of stops.
use Rattle.std.specs.Prelude.{◌≡◌, ℕ, ◌≤◌, List, map, length, slice_range}
use Rattle.std.specs.List.{All}
use Rattle.std.specs.List.Sorted.{IsStrictlyIncreasing}
use Rattle.vrp_model.specs.Word.{HasStops, first_stops, last_symbol, word_of}
use Rattle.vrp_model.specs.declared.plan.Span.{Span}

abbrev pub routes_in : List ℕ → List Span → List (List ℕ)
routes_in stops spans = map (λ s. slice_range stops s.start s.end) spans

pub record IsWithin (stops : List ℕ) (span : Span) : Type 0 where
  pub rising : span.start ≤ span.end
  pub bound : span.end ≤ length stops

abbrev pub AreWithin : List ℕ → List Span → Type 0
AreWithin stops spans = All (IsWithin stops) spans

-- the list is the word of the routes that the spans name, which rise by first customer
pub record ArePlanStops (word : List ℕ) (spans : List Span) : Type 0 where
  pub within : AreWithin word spans
  pub is_word : word ≡ word_of (routes_in word spans)
  pub rising : IsStrictlyIncreasing (first_stops (routes_in word spans))

-- the rest of a feasible word behind some of its routes
pub record IsWordEnd (rest : List ℕ) : Type 0 where
  pub stops : HasStops 0 rest
  pub ends : last_symbol rest ≡ 0
