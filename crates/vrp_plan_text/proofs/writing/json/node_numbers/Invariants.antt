use Rattle.std.proofs.Common.{◌≡◌, take}
use Rattle.std.specs.Prelude.{map}
use Rattle.serde_json.specs.Data.{number, unsigned}
use Rattle.serde_json.specs.View.{view}
use Rattle.vrp_model.specs.Problem.{node_of}
use Rattle.vrp_plan_text.proofs.writing.json.node_numbers.Given as goal

abbrev pub invariant-loop-place : goal.invariant-loop-place
invariant-loop-place l = map view l.nodes.items ≡ map (λ place. number (unsigned (node_of l.instance place))) (take l.place-index l.stops)
