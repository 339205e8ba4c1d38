-- What a word under a prefix costs at least.
use Rattle.std.specs.Prelude.{◌≡◌, ℕ, ◌+◌, Option, List}
use Rattle.std.specs.List.{All, Contains}
use Rattle.std.specs.Option.{option_map}
use Rattle.vrp_bound.specs.AtPrefix.{IsLowerBoundAt}
use Rattle.vrp_bound.specs.Capacity.{IsInboundSumOf}
use Rattle.vrp_model.specs.Problem.{Problem}
use Rattle.vrp_model.specs.Word.{unserved_in, word_cost}

-- each customer that the prefix leaves unserved is among these
abbrev pub AreCovered : Problem → List ℕ → List ℕ → Type 0
AreCovered p among prefix = All (Contains among) (unserved_in p prefix)

-- What a word under the prefix costs at least, with tables over these customers: what is paid along the prefix, and the bound on
-- what is still to pay. None: there is no word under it.
pub record IsLow (p : Problem) (among prefix : List ℕ) (low : Option ℕ) : Type 0 where
  pub inbound_sum : ℕ
  pub is_inbound_sum : IsInboundSumOf p prefix inbound_sum
  pub bound : Option ℕ
  pub is_bound : IsLowerBoundAt p among prefix inbound_sum bound
  pub whole : low ≡ option_map (λ more. word_cost p prefix + more) bound
