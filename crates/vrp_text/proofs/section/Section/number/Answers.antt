use Rattle.std.proofs.Common.{◌≡◌, to_z, of_z, w64, ◌∙◌, refl, arith}
use Rattle.std.proofs.lemmas.Int.{ints}
use Rattle.vrp_text.proofs.section.Section.number.Goals as goal

pub returns : goal.returns
returns c =
    let low : to_z w64 (of_z w64 c.lowest.result) ≡ c.lowest.result = omega (arith, ints, c.lowest.type_inv) in
    let high : to_z w64 (of_z w64 c.highest.result) ≡ c.highest.result = omega (arith, ints, c.highest.type_inv) in
    c.number.ensures.value ∙ rw low (rw high (rw c.lowest.ensures (rw c.highest.ensures refl)))
