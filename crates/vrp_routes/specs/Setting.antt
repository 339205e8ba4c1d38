-- What a completion test says of itself, as one setting.
use Rattle.vrp_routes.specs.Label.{SettingOf}
use Rattle.vrp_routes.specs.declared.completion_test.CompletionTest.{Ghosts}

-- the problem, the range and the counts of a test, by the members that its type has
abbrev pub setting_of : {T X : Type 0} → Ghosts T X → T → SettingOf X
setting_of members test = record { problem = members.problem test; range = members.range test; Counts = members.Counts test }
