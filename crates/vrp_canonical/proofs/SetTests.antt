-- What tests of sets tell, and routes that were read from a pool.
use Rattle.std.proofs.Common.{◌≡◌, ◌==◌, ◌<◌, ◌↔◌, ℕ, Bool, IsTrue, true, false, List, length, get_or, bit_and, bit_xor, inl, inr, sym, ap, ◌∙◌, arith}
use Rattle.std.specs.Int.{bit_at}
use Rattle.std.proofs.lemmas.Bool.{cases_eq, eqb-false, eqb-true, false≢true}
use Rattle.std.proofs.lemmas.List.{get_or_default, get_or_read}
use Rattle.std.proofs.lemmas.Nat.{and_comm}
use Rattle.std.proofs.lemmas.Nat.Bits.{bit_at-lt}
use Rattle.vrp_canonical.specs.Passing.{route_in}
use Rattle.vrp_partition.specs.declared.route.Route.{Route}

-- a test of two sets found them alike
pub alike : (test : Bool) (left right : ℕ) → test ≡ (left == right) → test ≡ true → left ≡ right
alike test left right tells found = eqb-true left right (sym tells ∙ found)

-- and apart
pub unlike : (test : Bool) (left right : ℕ) → test ≡ (left == right) → test ≡ false → left ≡ right → ⊥
unlike test left right tells missed = eqb-false left right (sym tells ∙ missed)

-- a set lacks a customer that a test does not find
pub lacks : (test : Bool) (set customer : ℕ) → IsTrue test ↔ (bit_at set customer ≡ 1) → test ≡ false → bit_at set customer ≡ 0
lacks test set customer tells missed = elim (cases_eq (bit_at set customer) 1) [
  | inl is ↦ absurd (false≢true (sym missed ∙ tells.1 is))
  | inr other ↦ omega (arith, bit_at-lt set customer, other)
]

-- the customers that a route leaves, where all of its own are unserved
pub left_by : (set unserved left : ℕ) → bit_and set unserved ≡ set → left ≡ bit_xor unserved (bit_and unserved set) → left ≡ bit_xor unserved set
left_by set unserved left within is = is ∙ ap (bit_xor unserved) (and_comm unserved set ∙ within)

-- a route that was read is the pool's
pub route_read : (pool : List Route) (k : ℕ) (route : Route) → k < length pool → route ≡ get_or pool k route → route ≡ route_in pool k
route_read pool k route lt read = get_or_read pool k route lt read (record { set = 0; cost = 0 })

-- so is its set
pub set_read : (pool : List Route) (k : ℕ) (route : Route) → k < length pool → (get_or pool k route).set ≡ (route_in pool k).set
set_read pool k route lt = ap (λ (r : Route). r.set) (get_or_default pool k route (record { set = 0; cost = 0 }) lt)
