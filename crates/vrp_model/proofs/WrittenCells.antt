-- A weight that is written at a cell of a square, and at its mirror image.
use Rattle.std.proofs.Common.{◌≡◌, ℕ, ◌+◌, ◌-◌, ◌*◌, ◌<◌, true, false, List, length, set, inl, inr, ◌∙◌}
use Rattle.std.proofs.lemmas.Bool.{cases_eq}
use Rattle.std.proofs.lemmas.List.{get_or-set_other, get_or-set_same}
use Rattle.vrp_model.specs.Inner.Listing.{IsWritten}
use Rattle.vrp_model.specs.Layout.{is_full}
use Rattle.vrp_model.specs.declared.layout.Layout.{Layout}

pub written_once : (layout : Layout) (n row column weight : ℕ) (old : List ℕ) (p : ℕ) → is_full layout ≡ true → p ≡ (row - 1) * n + (column - 1) → p < length old → IsWritten layout n row column weight old (set old p weight)
written_once layout n row column weight old p full at within = record {
  there = rw (← at) (get_or-set_same old p weight 0 within);
  back = λ triangle. absurd (cc);
  others = λ place away _. get_or-set_other old p place weight 0 (rw at away);
}

pub written_twice : (layout : Layout) (n row column weight : ℕ) (old : List ℕ) (p q : ℕ) → is_full layout ≡ false → p ≡ (row - 1) * n + (column - 1) → q ≡ (column - 1) * n + (row - 1) → p < length old → q < length (set old p weight) → IsWritten layout n row column weight old (set (set old p weight) q weight)
written_twice layout n row column weight old p q triangle at mirror within mirror_within = record {
  there = elim (cases_eq p q) [
    | inl same ↦ rw (← at, same) (get_or-set_same (set old q weight) q weight 0 (rw same at mirror_within))
    | inr apart ↦ rw (← at) (get_or-set_other (set old p weight) q p weight 0 apart ∙ get_or-set_same old p weight 0 within)
  ];
  back = λ _. rw (← mirror) (get_or-set_same (set old p weight) q weight 0 mirror_within);
  others = λ place away apart.
      get_or-set_other (set old p weight) q place weight 0 (rw mirror (apart triangle)) ∙ get_or-set_other old p place weight 0 (rw at away);
}
