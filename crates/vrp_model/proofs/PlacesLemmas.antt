-- The places of an instance, node by node.
use Rattle.std.proofs.Common.{◌≡◌, ◌≢◌, ℕ, zero, suc, ◌+◌, true, false, List, [], ◌∷◌, ◌++◌, ap, arith}
use Rattle.std.specs.List.{range_with_len}
use Rattle.std.proofs.lemmas.Grind.{common_steps}
use Rattle.std.proofs.lemmas.List.Elements.{filter-append}
use Rattle.vrp_model.specs.Request.{is_listed}
use Rattle.vrp_model.specs.Inner.Places.{ArePlaces}

pub range_with_len_more : (a n j : ℕ) → a + n ≡ j → range_with_len a (n + 1) ≡ range_with_len a n ++ j ∷ []
range_with_len_more a zero j h = grind (arith, common_steps)
range_with_len_more a (suc n) j h =
    let rest = range_with_len_more (a + 1) n j (omega arith) in
    grind (arith, common_steps, rest)

-- a listed node is no place
pub ArePlaces_passed : (depots : List ℕ) (depot index : ℕ) (places : List ℕ) → ArePlaces depots depot index places → is_listed depots (index + 1) ≡ true → ArePlaces depots depot (index + 1) places
ArePlaces_passed depots depot index places h listed =
    let more = range_with_len_more 1 index (index + 1) (omega arith) in
    record {
      value = grind (arith, common_steps, filter-append);
      some = h.some;
      few = omega arith;
      fewer = λ below. omega arith;
      depot_first = h.depot_first;
      from_one = h.from_one;
      within = λ k above. omega (arith, h.within k above);
      unlisted = h.unlisted;
    }

-- any other node is the next place
pub ArePlaces_pushed : (depots : List ℕ) (depot index : ℕ) (places : List ℕ) → is_listed depots depot ≡ true → ArePlaces depots depot index places → is_listed depots (index + 1) ≡ false → ArePlaces depots depot (index + 1) (places ++ (index + 1) ∷ [])
ArePlaces_pushed depots depot index places depot_listed h unlisted =
    let more = range_with_len_more 1 index (index + 1) (omega arith) in
    record {
      value = grind (arith, common_steps, filter-append);
      some = grind (arith, common_steps);
      few = grind (arith, common_steps);
      fewer = λ below. let differs : depot ≢ index + 1 = λ same. let both = ap (is_listed depots) same in cc in grind (arith, common_steps);
      depot_first = grind (arith, common_steps);
      from_one = λ k inside. grind (arith, common_steps, h.from_one k);
      within = λ k above. grind (arith, common_steps, h.within k above);
      unlisted = λ k above inside. grind (arith, common_steps, h.unlisted k above);
    }
