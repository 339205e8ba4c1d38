-- A row of cells, after one more cell was pulled.
use Rattle.std.proofs.Common.{◌≡◌, ℕ, ◌+◌, ◌<◌, ◌≤◌, min, inl, inr, List, length, length-set, get_or, set, get_or-set_other, get_or-set_same, refl, sym, ap, ◌∙◌, arith}
use Rattle.std.proofs.lemmas.Bool.{cases_eq, cases_lt}
use Rattle.vrp_bound.specs.Inner.NgCells.{ArePulled}

pub none_pulled : (weight : ℕ) (behind before row : List ℕ) → ArePulled weight 0 behind before row row
none_pulled weight behind before row = record {
  len = refl;
  kept = λ m. omega arith;
  low = λ k below inside. absurd (omega (arith, below));
  met = λ m. inl refl;
}

pub skipped_pull : (weight k : ℕ) (behind before old new : List ℕ) → length old ≤ get_or before k 0 → ArePulled weight k behind before old new → ArePulled weight (k + 1) behind before old new
skipped_pull weight k behind before old new outside are = record {
  len = are.len;
  kept = are.kept;
  low = λ j below inside. elim (cases_lt j k) [
    | inl less ↦ are.low j less inside
    | inr more ↦ let last : j ≡ k = omega (arith, below, more) in absurd (omega (arith, inside, outside, ap (λ n. get_or before n 0) last))
  ];
  met = λ m. elim (are.met m) [
    | inl same ↦ inl same
    | inr (j, less, is, value) ↦ inr (j, omega (arith, less), is, value)
  ];
}

-- the cell of the ng-set before the k-th cell behind, written
pub more_pulled : (weight k t value : ℕ) (behind before old new : List ℕ) → t ≡ get_or before k 0 → t < length old → value ≡ min (get_or new t 0) (weight + get_or behind k 0) → ArePulled weight k behind before old new → ArePulled weight (k + 1) behind before old (set new t value)
more_pulled weight k t value behind before old new is inside least are =
    let within : t < length new = omega (arith, inside, are.len) in
    let here : get_or (set new t value) t 0 ≡ value = get_or-set_same new t value 0 within in
    let other : (m : ℕ) → (m ≡ t → ⊥) → get_or (set new t value) m 0 ≡ get_or new m 0 = λ m differs. get_or-set_other new t m value 0 differs in
    record {
      len = length-set new t value ∙ are.len;
      kept = λ m. elim (cases_eq m t) [
        | inl same ↦ omega (arith, here, ap (λ n. get_or (set new t value) n 0) same, ap (λ n. get_or old n 0) same, are.kept t, least)
        | inr differs ↦ omega (arith, other m differs, are.kept m)
      ];
      low = λ j below fits. (
          let to = get_or before j 0 in
          elim (cases_lt j k) [
            | inl less ↦ elim (cases_eq to t) [
              | inl same ↦ omega (arith, here, ap (λ n. get_or (set new t value) n 0) same, ap (λ n. get_or new n 0) same, are.low j less fits, least)
              | inr differs ↦ omega (arith, other to differs, are.low j less fits)
            ]
            | inr more ↦
                let last : j ≡ k = omega (arith, below, more) in
                let same : to ≡ t = ap (λ n. get_or before n 0) last ∙ sym is in
                omega (arith, here, ap (λ n. get_or (set new t value) n 0) same, ap (λ n. get_or behind n 0) last, least)
          ]
          );
      met = λ m. elim (cases_eq m t) [
        | inl same ↦ elim (cases_lt (weight + get_or behind k 0) (get_or new t 0)) [
          | inl less ↦ inr (k, omega arith, sym is ∙ sym same, ap (λ n. get_or (set new t value) n 0) same ∙ here ∙ omega (arith, least, less))
          | inr more ↦
              let stays : get_or (set new t value) m 0 ≡ get_or new m 0 = omega (arith, here, ap (λ n. get_or (set new t value) n 0) same, ap (λ n. get_or new n 0) same, least, more) in
              elim (are.met m) [
                | inl kept ↦ inl (stays ∙ kept)
                | inr (j, below, from, cost) ↦ inr (j, omega (arith, below), from, stays ∙ cost)
              ]
        ]
        | inr differs ↦ elim (are.met m) [
          | inl kept ↦ inl (other m differs ∙ kept)
          | inr (j, below, from, cost) ↦ inr (j, omega (arith, below), from, other m differs ∙ cost)
        ]
      ];
    }
