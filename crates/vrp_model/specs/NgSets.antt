-- An ng-set: the customers near a place that a walk remembers, as the bits of a number.
use Rattle.std.specs.Prelude.{◌≡◌, ℕ, ◌+◌, ◌*◌, ◌/◌, ◌%◌, ◌^◌, ◌<◌, ◌==◌, ◌&&◌, ◌||◌, if◌then◌else◌, Bool, false, List, [], ◌∷◌, slice_index}
use Rattle.vrp_model.specs.Word.{stands_in}
use Rattle.vrp_model.specs.Near.{NearOf, near_in}
use Rattle.vrp_model.specs.NgWalks.{remembered}

-- a bit for each customer, set if it passes the test; the first customer's bit is the lowest
abbrev pub bits_of : (ℕ → Bool) → List ℕ → ℕ
bits_of test [] = 0
bits_of test (customer ∷ customers) = (if test customer then 1 else 0) + 2 * bits_of test customers

-- the customers near this place that a walk from there along these stops remembers
abbrev pub ng_set_of : (ℕ → List ℕ) → ℕ → List ℕ → ℕ
ng_set_of near at stops = bits_of (stands_in (remembered near stops)) (near at)

-- the ng-set at a place, or `masks` if the walk remembers the place itself
abbrev pub ng_set_or_masks : (ℕ → List ℕ) → ℕ → ℕ → List ℕ → ℕ
ng_set_or_masks near masks at stops = if stands_in (remembered near stops) at then masks else ng_set_of near at stops

-- whether a customer is one of these and its bit is set
abbrev pub has_bit : List ℕ → ℕ → ℕ → Bool
has_bit [] ng_set customer = false
has_bit (other ∷ others) ng_set customer = ((other == customer) && (ng_set % 2 == 1)) || has_bit others (ng_set / 2) customer

-- whether a walk with this first stop and this ng-set there remembers a customer
abbrev pub recalls : List ℕ → ℕ → ℕ → ℕ → Bool
recalls near stop ng_set customer = (stop == customer) || has_bit near ng_set customer

-- The ng-set at a place with these near customers, from which a walk continues to this stop with this ng-set there. It is
-- `masks`, which is above every ng-set, if the walk remembers the place itself.
abbrev pub ng_set_before : List ℕ → List ℕ → ℕ → ℕ → ℕ → ℕ → ℕ
ng_set_before near_at near_stop masks at stop ng_set =
    if recalls near_stop stop ng_set at then masks else bits_of (recalls near_stop stop ng_set) near_at

-- the ng-sets at a place, indexed by the ng-set at the next stop
abbrev pub AreNgSetsBefore : NearOf → ℕ → ℕ → List ℕ → Type 0
AreNgSetsBefore near at stop ng_sets = (m : ℕ) → m < 2 ^ near.size
    → slice_index ng_sets m ≡ ng_set_before (near_in near at) (near_in near stop) (2 ^ near.size) at stop m
