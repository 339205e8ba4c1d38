-- The lines of the routes, one after the other.
use Rattle.std.proofs.Common.{◌≡◌, ℕ, zero, suc, ◌+◌, Some, List, ◌∷◌, [], ◌++◌, drop, refl, add-one, append_assoc}
use Rattle.std.specs.List.{slice_get}
use Rattle.vrp_command_streams.specs.Report.{route_line, route_lines}

-- the line of the route at k comes first among those from k on
route_lines-drop_suc : (number_of : ℕ → ℕ) (routes : List (List ℕ)) (k number : ℕ) (route : List ℕ) → slice_get routes k ≡ Some route → route_lines number_of number (drop k routes) ≡ route_line number_of number route ++ route_lines number_of (number + 1) (drop (suc k) routes)
route_lines-drop_suc number_of [] k number route found = cc
route_lines-drop_suc number_of (first ∷ rest) zero number route found = let same : first ≡ route = cc in rw same refl
route_lines-drop_suc number_of (first ∷ rest) (suc k) number route found = route_lines-drop_suc number_of rest k number route found

pub route_lines-drop : (number_of : ℕ → ℕ) (routes : List (List ℕ)) (k number : ℕ) (route : List ℕ) → slice_get routes k ≡ Some route → route_lines number_of number (drop k routes) ≡ route_line number_of number route ++ route_lines number_of (number + 1) (drop (k + 1) routes)
route_lines-drop number_of routes k number route found = rw (add-one k) (route_lines-drop_suc number_of routes k number route found)

-- what is written so far, and one line more
pub line_written : (text line rest lines new whole : List ℕ) → new ≡ text ++ line → lines ≡ line ++ rest → text ++ lines ≡ whole → new ++ rest ≡ whole
line_written text line rest lines new whole appended first so_far = rw (appended, append_assoc, ← first) so_far
