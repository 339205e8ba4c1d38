-- The statements of a complete file, without their place in memory.
use Rattle.std.specs.Global.{Vec}
use Rattle.std.specs.Prelude.{ℤ, Option, option_map, Result, Ok}
use Rattle.vrp_text.specs.declared.lexer.value.WeightFormat.{WeightFormat}
use Rattle.vrp_text.specs.Complete as text
use Rattle.vrp_text.specs.Meaning.{or_fault}
use Rattle.vrp_text.specs.declared.complete.Complete.{Complete}
use Rattle.vrp_text.specs.declared.complete.Source.{Source}
use Rattle.vrp_text.specs.declared.complete.Source.TheVariants.{Points, Matrix}
use Rattle.vrp_text.specs.declared.error.TextError.{TextError}

abbrev pub source_in : Source → text.Source
source_in (Points metric numbers) = text.Points metric numbers.items
source_in (Matrix layout numbers) = text.Matrix layout numbers.items

abbrev pub complete_in : Complete → text.Complete
complete_in complete = record {
  nodes = complete.nodes;
  capacity = complete.capacity;
  source = source_in complete.source;
  demands = complete.demands.items;
  depots = complete.depots.items;
}

-- the matrix of an explicit file, or the first missing key
abbrev pub matrix_in : Option WeightFormat → Option (Vec ℤ) → Result text.Source TextError
matrix_in format weights = text.matrix_of format (option_map (λ numbers. numbers.items) weights)

-- a complete file, or the first fault of its nodes
abbrev pub nodes_checked : Complete → Result text.Complete TextError
nodes_checked complete = or_fault (text.nodes_fault (complete_in complete)) (Ok (complete_in complete))
