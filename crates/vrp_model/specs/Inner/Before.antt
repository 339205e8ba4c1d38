-- The ng-sets before each stop, in one list.
use Rattle.std.specs.Prelude.{◌≡◌, ℕ, ◌*◌, ◌^◌, ◌/◌, ◌%◌, ◌<◌, ◌≤◌, List, length, slice_index}
use Rattle.vrp_model.specs.NgSets.{ng_set_before}
use Rattle.vrp_model.specs.Near.{NearOf, near_in}

-- by place, then by stop, then by the ng-set at the stop
abbrev pub AreBeforeBy : (ℕ → List ℕ) → ℕ → ℕ → List ℕ → Type 0
AreBeforeBy near masks places before = (k : ℕ) → k < length before →
    let at = k / masks / places in
    let stop = k / masks % places in
    slice_index before k ≡ ng_set_before (near at) (near stop) masks at stop (k % masks)

-- such ng-sets, for listed near customers
abbrev pub AreBefore : NearOf → ℕ → List ℕ → Type 0
AreBefore near masks before = AreBeforeBy (near_in near) masks near.places before

-- the derived data kept with the customers near each place
pub record IsKept (near : NearOf) (masks : ℕ) (before : List ℕ) : Type 0 where
  pub few_places : near.places ≤ 1200
  pub few : near.size ≤ 4
  pub bits : masks ≡ 2 ^ near.size
  pub some : 1 ≤ masks
  pub listed : length near.listed ≡ near.places * near.size
  pub all : length before ≡ near.places * near.places * masks
  pub known : AreBefore near masks before
