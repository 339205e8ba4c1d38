-- What is counted along a word.
use Rattle.std.specs.Prelude.{◌≡◌, ◌⊎◌, ℕ, ◌+◌, ◌*◌, ◌≤◌, List, length, slice_index}
use Rattle.std.specs.List.{All, Contains}
use Rattle.vrp_bound.specs.Capacity.{IsInboundSumOf}
use Rattle.vrp_model.specs.Prefix.{open_load}
use Rattle.vrp_model.specs.Problem.{Problem, place_count}
use Rattle.vrp_model.specs.Route.{load_of}
use Rattle.vrp_model.specs.Word.{last_route, routes_of, served_in, unserved_in, word_cost}
use Rattle.vrp_model.specs.declared.limits.TheConstants.{MAX_ARCS, MAX_WEIGHT}
use Rattle.vrp_search_tree.specs.declared.tally.Tally.{Tally}

-- the greatest customer that the word leaves unserved, and 0 where there is none
pub record IsGreatestUnserved (p : Problem) (word : List ℕ) (greatest : ℕ) : Type 0 where
  pub met : (greatest ≡ 0) ⊎ Contains (unserved_in p word) greatest
  pub none_above : All (λ k. k ≤ greatest) (unserved_in p word)

pub record IsTally (p : Problem) (word : List ℕ) (tally : Tally) : Type 0 where
  pub cost : tally.cost ≡ word_cost p word
  pub small : tally.cost ≤ MAX_WEIGHT * length word
  pub load : tally.load ≡ open_load p word
  pub light : tally.load ≤ p.capacity
  pub rest : tally.rest ≡ load_of p (unserved_in p word)
  pub inbound_sum : IsInboundSumOf p word tally.inbound_sum
  pub small_inbound_sum : tally.inbound_sum ≤ MAX_ARCS
  -- the first customer of the last route, 0 where there is no route yet
  pub first_customer : tally.first_customer ≡ slice_index (last_route word) 0
  pub unserved : tally.unserved + length (served_in word) + 1 ≡ place_count p
  pub greatest : IsGreatestUnserved p word tally.greatest
  pub routes : tally.routes ≡ length (routes_of word)
