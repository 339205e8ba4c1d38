-- Weights with prices, written row by row.
use Rattle.std.proofs.Common.{◌≡◌, ◌≢◌, ℕ, ◌+◌, ◌*◌, ◌<◌, ◌≤◌, ℤ, inl, inr, List, [], ◌∷◌, ◌++◌, length, sym, ◌∙◌, arith}
use Rattle.std.specs.Prelude.{slice_index}
use Rattle.std.proofs.lemmas.Bool.{cases_lt}
use Rattle.std.proofs.lemmas.List.{get_or_append_left, get_or_push, length_push}
use Rattle.std.proofs.lemmas.Nat.{mul-add-lt, same_from_place}
use Rattle.vrp_model.specs.Problem.{Problem, place_count}
use Rattle.vrp_model.proofs.BoundedLists.{bounded_push}
use Rattle.vrp_bound_prices.specs.CapacityCut.{CapacityCut}
use Rattle.vrp_bound_prices.specs.Inner.Arcs.{ArePricedArcs, IsPricedArc}
use Rattle.vrp_bound_prices.specs.Priced.{costly_arc, taken_off}

-- one weight more, at the next place
pub arcs_more : (p : Problem) (scale : ℕ) (prices : List ℤ) (cuts : List CapacityCut) (weights : List ℕ) (row column weight : ℕ) → length weights ≡ row * place_count p + column → column < place_count p
    → IsPricedArc p scale prices cuts row column weight → weight ≤ 1000000000 → ArePricedArcs p scale prices cuts weights → ArePricedArcs p scale prices cuts (weights ++ weight ∷ [])
arcs_more p scale prices cuts weights row column weight next within arc small so_far = record {
  each = λ from to inside before.
      elim (cases_lt (from * place_count p + to) (length weights)) [
        | inl earlier ↦ rw (get_or_append_left weights (weight ∷ []) 0 (from * place_count p + to) earlier) (so_far.each from to inside earlier)
        | inr last ↦
            let e : from * place_count p + to ≡ length weights = omega (arith, length_push weights weight, before, last) in
            let same = same_from_place from to row column (place_count p) inside within (e ∙ next) in
            rw (get_or_push weights weight 0 (from * place_count p + to) (sym e), same.0, same.1) arc
      ];
  small = bounded_push weights weight 1000000000 so_far.small small;
}

-- each arc, once all are written
pub all_arcs : (p : Problem) (scale : ℕ) (prices : List ℤ) (cuts : List CapacityCut) (weights : List ℕ) (from to : ℕ) → length weights ≡ place_count p * place_count p → ArePricedArcs p scale prices cuts weights → from < place_count p → to < place_count p → from ≢ to
    → slice_index weights (from * place_count p + to) + taken_off prices cuts from to ≡ costly_arc p scale prices from to
all_arcs p scale prices cuts weights from to square are here there differs =
    are.each from to there (omega (arith, square, mul-add-lt from (place_count p) to (place_count p) here there)) differs
