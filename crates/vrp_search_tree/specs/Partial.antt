-- A partial plan: a prefix of a problem's words, and what is known of it.
use Rattle.std.specs.Prelude.{ℕ, List}
use Rattle.vrp_model.specs.Problem.{Problem}

pub record PartialPlan : Type 0 where
  pub problem : Problem
  pub word : List ℕ
