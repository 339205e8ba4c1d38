-- A CVRP file means one problem.
use Rattle.std.proofs.Common.{◌≡◌, ◌⊎◌, ℕ, zero, suc, ℤ, pos, negsuc, Bool, true, false, cond, not, ◌||◌, ◌==◌, Option, Some, None, Result, Ok, Err, List, [], ◌∷◌, length, filter, map, inl, inr, refl, ap, sym, ◌∙◌, subst, arith}
use Rattle.std.specs.Prelude.{nat_lt, unsigned_abs}
use Rattle.std.specs.List.{flat_map, All, range_with_len}
use Rattle.std.proofs.lemmas.Bool.Decides.{nat_tests}
use Rattle.std.proofs.lemmas.List.Elements.{All-cons, All-filter, All-head, All-tail}
use Rattle.std.proofs.lemmas.List.FromFn.{length-range_with_len, get_or-range_with_len}
use Rattle.vrp_model.specs.Grid.{Grid, entry_at}
use Rattle.vrp_model.specs.Problem.{Problem}
use Rattle.vrp_model.specs.Request.{problem_of, is_listed, node_demand}
use Rattle.vrp_text.specs.Complete.{Complete, complete_of, count_fault, is_node, listed_depots, no_node, node_fault, nodes_fault}
use Rattle.vrp_text.specs.Line.{lines_of}
use Rattle.vrp_text.specs.Meaning.{MeansProblem, HasWeights, all_stated, checked, file_line_fault, or_fault, reading_of, request_from}
use Rattle.vrp_text.specs.Part.{before_end}
use Rattle.vrp_text.specs.declared.lexer.key.Key.{Key}
use Rattle.vrp_text.specs.declared.error.TextError.{TextError}
use Rattle.vrp_text.specs.declared.error.TextError.TheVariants as error
use Rattle.vrp_text.proofs.ListedCells.{IsNode}
use Rattle.vrp_text.proofs.SectionLemmas.{both_none}
use Rattle.vrp_text.proofs.OneGrid.{OneDistance, AreAlike, AreAlike-of_source}

-- ---- what is known of a complete file

-- an answer is one value
pub one_ok : (answer : Result Complete TextError) (a b : Complete) → answer ≡ Ok a → answer ≡ Ok b → a ≡ b
one_ok answer a b p q = cc

good_or_fault : (fault : Option TextError) (answer : Result Complete TextError) (complete : Complete) → or_fault fault answer ≡ Ok complete → (fault ≡ None) × (answer ≡ Ok complete)
good_or_fault None answer complete e = (refl, e)
good_or_fault (Some fault) answer complete e = absurd cc

good_nodes : (read : Result Complete TextError) (complete : Complete) → checked read ≡ Ok complete → nodes_fault complete ≡ None
good_nodes (Err fault) complete e = absurd cc
good_nodes (Ok read) complete e =
    let counted = good_or_fault (count_fault read) (or_fault (nodes_fault read) (Ok read)) complete e in
    let noded = good_or_fault (nodes_fault read) (Ok read) complete counted.1 in
    let same : read ≡ complete = one_ok (Ok read) read complete refl noded.1 in
    subst (λ (c : Complete). nodes_fault c ≡ None) same noded.0

good_answer : (long : Bool) (fault : Option TextError) (read : Result Complete TextError) (complete : Complete) → cond long (Err error.TooLong) (or_fault fault (checked read)) ≡ Ok complete → nodes_fault complete ≡ None
good_answer true fault read complete e = absurd cc
good_answer false fault read complete e = good_nodes read complete (good_or_fault fault (checked read) complete e).1

no_fault : (key : Key) (bad : Option ℤ) → node_fault key bad ≡ None → bad ≡ None
no_fault key None e = refl
no_fault key (Some number) e = absurd cc

-- each depot of a complete file is a node
good_depots : (bytes : List ℕ) (complete : Complete) → reading_of bytes ≡ Ok complete → no_node complete.nodes (listed_depots complete.depots) ≡ None
good_depots bytes complete e =
    let good = good_answer (nat_lt 16777216 (length bytes)) (file_line_fault (before_end (lines_of bytes))) (complete_of (all_stated (before_end (lines_of bytes)))) complete e in
    no_fault _ _ (both_none _ _ (both_none _ _ good).1).1

number_within : (nodes : ℕ) (number : ℤ) → is_node nodes number ≡ true → IsNode nodes (unsigned_abs number)
number_within nodes (pos zero) e = absurd cc
number_within nodes (pos (suc k)) e = (omega arith, grind (arith, nat_tests, e))
number_within nodes (negsuc k) e = absurd cc

good_first : (fits : Bool) (number : ℤ) (rest : Option ℤ) → cond fits rest (Some number) ≡ None → (fits ≡ true) × (rest ≡ None)
good_first true number rest e = (refl, e)
good_first false number rest e = absurd cc

either_is : (a b : Bool) → (a || b) ≡ true → (a ≡ true) ⊎ (b ≡ true)
either_is true b e = inl refl
either_is false b e = inr e

same_number : (a b : ℕ) → (a == b) ≡ true → a ≡ b
same_number a b e = grind (arith, nat_tests)

listed_within : (nodes : ℕ) (numbers : List ℤ) (node : ℕ) → no_node nodes numbers ≡ None → is_listed (map unsigned_abs numbers) node ≡ true → IsNode nodes node
listed_within nodes [] node e listed = absurd cc
listed_within nodes (number ∷ numbers) node e listed =
    let good = good_first (is_node nodes number) number (no_node nodes numbers) e in
    elim (either_is (unsigned_abs number == node) (is_listed (map unsigned_abs numbers) node) listed) [
      | inl here ↦ subst (IsNode nodes) (same_number (unsigned_abs number) node here) (number_within nodes number good.0)
      | inr later ↦ listed_within nodes numbers node good.1 later
    ]

-- ---- the problem over a grid

All-range : (n : ℕ) → All (IsNode n) (range_with_len 1 n)
All-range n k d inside =
    let count = length-range_with_len 1 n in
    rw (get_or-range_with_len 1 n k d (omega arith)) (omega arith, omega arith)

abbrev places_over : ℕ → List ℕ → ℕ → List ℕ
places_over nodes depots chosen = chosen ∷ filter (λ node. not (is_listed depots node)) (range_with_len 1 nodes)

All-places : (nodes : ℕ) (depots : List ℕ) (chosen : ℕ) → IsNode nodes chosen → All (IsNode nodes) (places_over nodes depots chosen)
All-places nodes depots chosen here =
    All-cons (IsNode nodes) _ _ here (All-filter (λ node. not (is_listed depots node)) (IsNode nodes) (range_with_len 1 nodes) (All-range nodes))

-- functions that agree on a list's elements
map_same : (P : ℕ → Type 0) (f g : ℕ → ℕ) → ((x : ℕ) → P x → f x ≡ g x) → (xs : List ℕ) → All P xs → map f xs ≡ map g xs
map_same P f g same [] all = refl
map_same P f g same (x ∷ xs) all =
    let here = same x (All-head P x xs all) in
    let rest = map_same P f g same xs (All-tail P x xs all) in
    cc

flat_map_same : (P : ℕ → Type 0) (f g : ℕ → List ℕ) → ((x : ℕ) → P x → f x ≡ g x) → (xs : List ℕ) → All P xs → flat_map f xs ≡ flat_map g xs
flat_map_same P f g same [] all = refl
flat_map_same P f g same (x ∷ xs) all =
    let here = same x (All-head P x xs all) in
    let rest = flat_map_same P f g same xs (All-tail P x xs all) in
    cc

abbrev weights_between : Grid → List ℕ → List ℕ
weights_between grid places = flat_map (λ from. map (entry_at grid from) places) places

weights_between-one : (nodes : ℕ) (g h : Grid) (places : List ℕ) → AreAlike nodes g h → All (IsNode nodes) places → weights_between g places ≡ weights_between h places
weights_between-one nodes g h places alike all =
    flat_map_same (IsNode nodes) (λ from. map (entry_at g from) places) (λ from. map (entry_at h from) places)
    (λ from here. map_same (IsNode nodes) (entry_at g from) (entry_at h from) (λ to there. alike.each from to here there) places all)
    places all

abbrev problem_with : List ℕ → ℕ → List ℕ → List ℕ → Problem
problem_with demands capacity places weights = record { nodes = places; demands = map (node_demand demands) places; weights = weights; capacity = capacity; trucks = None }

-- requests over two grids that are alike mean one problem
problem_of-one : (nodes : ℕ) (g h : Grid) (demands : List ℕ) (capacity : ℕ) (depots : List ℕ) (chosen : ℕ) → AreAlike nodes g h → IsNode nodes chosen
    → problem_with demands capacity (places_over g.nodes depots chosen) (weights_between g (places_over g.nodes depots chosen))
    ≡ problem_with demands capacity (places_over h.nodes depots chosen) (weights_between h (places_over h.nodes depots chosen))
problem_of-one nodes g h demands capacity depots chosen alike here =
    let Over : ℕ → Grid → Problem = λ n grid. problem_with demands capacity (places_over n depots chosen) (weights_between grid (places_over n depots chosen)) in
    let weights = weights_between-one nodes g h (places_over nodes depots chosen) alike (All-places nodes depots chosen here) in
    ap (λ n. Over n g) alike.first
    ∙ ap (problem_with demands capacity (places_over nodes depots chosen)) weights
    ∙ ap (λ n. Over n h) (sym alike.second)

-- a file means one problem
pub MeansProblem-one : OneDistance → (bytes : List ℕ) (chosen : Option ℕ) (p q : Problem) → MeansProblem bytes chosen p → MeansProblem bytes chosen q → p ≡ q
MeansProblem-one one bytes chosen p q a b =
    let same : a.complete ≡ b.complete = one_ok (reading_of bytes) a.complete b.complete a.read b.read in
    let Over : Complete → Type 0 = λ c. HasWeights c.nodes c.source b.grid in
    let weights = subst Over (sym same) b.weights in
    let alike = AreAlike-of_source one a.complete.nodes a.complete.source a.grid b.grid a.weights weights in
    let request = request_from a.complete chosen a.grid in
    let here = listed_within a.complete.nodes (listed_depots a.complete.depots) request.chosen (good_depots bytes a.complete a.read) a.acceptable.chosen_listed in
    let grids : problem_of (request_from a.complete chosen a.grid) ≡ problem_of (request_from a.complete chosen b.grid) =
    problem_of-one a.complete.nodes a.grid b.grid request.demands request.capacity request.depots request.chosen alike here in
    let files : problem_of (request_from a.complete chosen b.grid) ≡ problem_of (request_from b.complete chosen b.grid) = ap (λ (c : Complete). problem_of (request_from c chosen b.grid)) same in
    a.meant ∙ grids ∙ files ∙ sym b.meant
