use Rattle.std.proofs.Common.{◌≡◌, ◌<◌, ◌≤◌, ℕ, true}
use Rattle.vrp_model.specs.Word.{stands_in, word_of}
use Rattle.vrp_model.proofs.plan.Plan.serves_each_once.Given as goal

abbrev pub invariant-loop-index : goal.invariant-loop-index
invariant-loop-index l = (k : ℕ) → 0 < k → k ≤ l.index → stands_in (word_of l.self.routes) k ≡ true
