-- The default options of a run, and their ranges.
use Rattle.std.specs.Prelude.{◌≡◌, ◌≢◌, ◌≤◌, None, false}
use Rattle.std.specs.Option.{ForSome}
use Rattle.vrp_model.specs.declared.limits.TheConstants.{MAX_NODES}
use Rattle.vrp_search_tree.specs.declared.cutting.TheConstants.{MAX_PIECES}
use Rattle.vrp_solver.specs.declared.pieces.TheConstants.{MAX_WORKERS}
use Rattle.vrp_command_request.specs.declared.options.Format.{Format}
use Rattle.vrp_command_request.specs.declared.options.Format.TheVariants as format
use Rattle.vrp_command_request.specs.declared.options.Options.{Options}
use Rattle.vrp_command_request.specs.declared.options.Request.{Request}
use Rattle.vrp_command_request.specs.declared.limits.TheConstants.{MAX_BUDGET}

abbrev pub IsDefault : Options → Type 0
IsDefault options = options ≡ record { workers = 1; pieces = 64; budget = 10000000; depot = None; trucks = None }

-- a report with these options is requested, and nothing else
abbrev pub IsReport : Options → Request → Type 0
IsReport options request = request ≡ record { options = options; states_budget = false; seconds = None; progress = false; start = None; check = false; strict = false; explain = false; format = format.Report }

-- all options are in their ranges
pub record AreInRange (options : Options) : Type 0 where
  pub some_worker : 1 ≤ options.workers
  pub few_workers : options.workers ≤ MAX_WORKERS
  pub some_piece : 1 ≤ options.pieces
  pub few_pieces : options.pieces ≤ MAX_PIECES
  pub some_budget : 1 ≤ options.budget
  pub small_budget : options.budget ≤ MAX_BUDGET
  pub some_truck : ForSome options.trucks (λ trucks. 1 ≤ trucks)
  pub few_trucks : ForSome options.trucks (λ trucks. trucks ≤ MAX_NODES)

-- the chosen depot, if there is one, is at least 1
abbrev pub HasDepotFromOne : Options → Type 0
HasDepotFromOne options = ForSome options.depot (λ node. 1 ≤ node)

-- the chosen depot, if there is one, is at most the greatest node of a file
abbrev pub HasDepotWithin : Options → Type 0
HasDepotWithin options = ForSome options.depot (λ node. node ≤ MAX_NODES)

-- a form other than the report
abbrev pub IsOtherFormat : Format → Type 0
IsOtherFormat asked = asked ≢ format.Report
