-- The load of a prefix's open route, and how many routes may still be opened.
use Rattle.std.specs.Prelude.{ℕ, ◌-◌, ◌==◌, if◌then◌else◌, Option, List, length}
use Rattle.std.specs.Option.{option_map}
use Rattle.vrp_model.specs.Problem.{Problem}
use Rattle.vrp_model.specs.Route.{load_of}
use Rattle.vrp_model.specs.Word.{last_route, last_symbol, routes_of}

-- the load of the open route; 0 if none is open
abbrev pub open_load : Problem → List ℕ → ℕ
open_load p word = if last_symbol word == 0 then 0 else load_of p (last_route word)

-- how many routes may still be opened; None: no limit
abbrev pub routes_left : Problem → List ℕ → Option ℕ
routes_left p word = option_map (λ trucks. trucks - length (routes_of word)) p.trucks
