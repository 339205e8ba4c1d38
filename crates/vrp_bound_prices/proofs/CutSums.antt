-- Sums over cuts, one by one.
use Rattle.std.proofs.Common.{◌≡◌, ℕ, ◌+◌, ◌*◌, ◌<◌, if◌then◌else◌, List, [], ◌∷◌, ◌++◌, length, take, sym, ap, ◌∙◌, arith}
use Rattle.std.specs.Prelude.{slice_index_or}
use Rattle.std.specs.List.{sum_by}
use Rattle.std.proofs.lemmas.List.{take_all, take_more}
use Rattle.std.proofs.lemmas.List.Sums.{sum_by_push}
use Rattle.vrp_bound_prices.specs.CapacityCut.{CapacityCut, crosses}

-- what one cut takes off an arc
abbrev pub cut_price_across : ℕ → ℕ → CapacityCut → ℕ
cut_price_across from to cut = if crosses cut.inside from to then cut.cut_price else 0

-- half of what one cut takes off a plan
abbrev pub cut_price_of_trucks : CapacityCut → ℕ
cut_price_of_trucks cut = cut.cut_price * cut.trucks

pub next_cut : (f : CapacityCut → ℕ) (cuts : List CapacityCut) (i : ℕ) (cut : CapacityCut) → cut ≡ slice_index_or cuts i cut → i < length cuts → sum_by f (take (i + 1) cuts) ≡ sum_by f (take i cuts) + f cut
next_cut f cuts i cut is within = ap (sum_by f) (take_more cuts i cut within ∙ ap (λ (c : CapacityCut). take i cuts ++ c ∷ []) (sym is)) ∙ sum_by_push f (take i cuts) cut

pub all_cuts : (f : CapacityCut → ℕ) (cuts : List CapacityCut) (i : ℕ) → i ≡ length cuts → sum_by f (take i cuts) ≡ sum_by f cuts
all_cuts f cuts i all = ap (sum_by f) (take_all i cuts (omega (arith, all)))
