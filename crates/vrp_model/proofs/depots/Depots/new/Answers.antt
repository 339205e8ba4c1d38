use Rattle.std.proofs.Common.{◌≡◌, ℕ, false, [], replicate, refl, arith}
use Rattle.std.proofs.lemmas.Grind.{common_steps}
use Rattle.vrp_model.specs.Inner.Marks.{AreMarks}
use Rattle.vrp_model.proofs.depots.Depots.new.Goals as goal

-- with no depot listed no mark is set
AreMarks-none : (room : ℕ) → room ≡ 1201 → AreMarks [] (replicate room false)
AreMarks-none room h = record {
  room = grind (arith, common_steps);
  each = λ node small. grind (arith, common_steps);
}

pub loop-depot-init : goal.loop-depot-init
loop-depot-init c = AreMarks-none 1201 refl
