-- Rows whose nodes stand by rising number give back what stands beside the nodes.
use Rattle.std.proofs.Common.{◌≡◌, ℕ, zero, suc, ◌+◌, ◌*◌, ◌≤◌, ◌<◌, ℤ, pos, true, false, ◌||◌, None, List, [], ◌∷◌, ◌++◌, length, map, get_or, refl, sym, ap, ◌∙◌, inl, inr, arith}
use Rattle.std.specs.Prelude.{unsigned_abs}
use Rattle.std.specs.List.{list_any, position_or_len, range_with_len}
use Rattle.std.specs.Ordering.{int_eq}
use Rattle.std.proofs.lemmas.Bool.{cases_Bool, or_from}
use Rattle.std.proofs.lemmas.Bool.Decides.{Decides-int_eq, nat_tests}
use Rattle.std.proofs.lemmas.List.{ext_get_or}
use Rattle.std.proofs.lemmas.List.Folds.{list_any-append}
use Rattle.std.proofs.lemmas.List.FromFn.{length-map-range_with_len, get_or-map-range_with_len}
use Rattle.std.proofs.lemmas.List.Sums.{position_or_len_is}
use Rattle.vrp_text.specs.Complete.{is_node, bad_node, row_nodes, by_node, row_points, row_demands, points_of, demands_of}
use Rattle.check_plain.proofs.PlainRows.{point_numbers, demand_numbers}

-- the nodes by rising number
abbrev pub nodes_from : ℕ → ℕ → List ℤ
nodes_from node count = map pos (range_with_len node count)

not_equal : (a b : ℕ) → (a ≡ b → ⊥) → int_eq (pos a) (pos b) ≡ false
not_equal a b other =
    elim (cases_Bool (int_eq (pos a) (pos b))) [
      | inl same ↦ let e : pos a ≡ pos b = (Decides-int_eq (pos a) (pos b)).0 same in absurd (other cc)
      | inr none ↦ none
    ]

equal : (a b : ℕ) → a ≡ b → int_eq (pos a) (pos b) ≡ true
equal a b same = (Decides-int_eq (pos a) (pos b)).1 (ap pos same)

-- the nodes of point rows and what stands beside them
pub length-points : (node : ℕ) (points : List (ℤ × ℤ)) → length (point_numbers node points) ≡ 3 * length points
length-points node [] = refl
length-points node (point ∷ points) = omega (arith, length-points (node + 1) points)

-- the demands have two numbers for each node
pub length-demands : (node : ℕ) (demands : List ℕ) → length (demand_numbers node demands) ≡ 2 * length demands
length-demands node [] = refl
length-demands node (n ∷ demands) = omega (arith, length-demands (node + 1) demands)

point_node_at : (node : ℕ) (points : List (ℤ × ℤ)) (k : ℕ) → k < length points → get_or (point_numbers node points) (3 * k) (pos 0) ≡ pos (node + k)
point_node_at node [] k lt = absurd (omega arith)
point_node_at node (point ∷ points) zero lt = let e : node ≡ node + 0 = omega arith in ap pos e
point_node_at node (point ∷ points) (suc k) lt =
    let e : 3 * suc k ≡ suc (suc (suc (3 * k))) = omega arith in
    let f : node + 1 + k ≡ node + suc k = omega arith in
    rw e (point_node_at (node + 1) points k (omega arith) ∙ ap pos f)

point_east_at : (node : ℕ) (points : List (ℤ × ℤ)) (k : ℕ) → k < length points → get_or (point_numbers node points) (3 * k + 1) (pos 0) ≡ (get_or points k (pos 0, pos 0)).0
point_east_at node [] k lt = absurd (omega arith)
point_east_at node (point ∷ points) zero lt = refl
point_east_at node (point ∷ points) (suc k) lt =
    let e : 3 * suc k + 1 ≡ suc (suc (suc (3 * k + 1))) = omega arith in
    rw e (point_east_at (node + 1) points k (omega arith))

point_north_at : (node : ℕ) (points : List (ℤ × ℤ)) (k : ℕ) → k < length points → get_or (point_numbers node points) (3 * k + 2) (pos 0) ≡ (get_or points k (pos 0, pos 0)).1
point_north_at node [] k lt = absurd (omega arith)
point_north_at node (point ∷ points) zero lt = refl
point_north_at node (point ∷ points) (suc k) lt =
    let e : 3 * suc k + 2 ≡ suc (suc (suc (3 * k + 2))) = omega arith in
    rw e (point_north_at (node + 1) points k (omega arith))

demand_node_at : (node : ℕ) (demands : List ℕ) (k : ℕ) → k < length demands → get_or (demand_numbers node demands) (2 * k) (pos 0) ≡ pos (node + k)
demand_node_at node [] k lt = absurd (omega arith)
demand_node_at node (n ∷ demands) zero lt = let e : node ≡ node + 0 = omega arith in ap pos e
demand_node_at node (n ∷ demands) (suc k) lt =
    let e : 2 * suc k ≡ suc (suc (2 * k)) = omega arith in
    let f : node + 1 + k ≡ node + suc k = omega arith in
    rw e (demand_node_at (node + 1) demands k (omega arith) ∙ ap pos f)

demand_at : (node : ℕ) (demands : List ℕ) (k : ℕ) → k < length demands → get_or (demand_numbers node demands) (2 * k + 1) (pos 0) ≡ pos (get_or demands k 0)
demand_at node [] k lt = absurd (omega arith)
demand_at node (n ∷ demands) zero lt = refl
demand_at node (n ∷ demands) (suc k) lt =
    let e : 2 * suc k + 1 ≡ suc (suc (2 * k + 1)) = omega arith in
    rw e (demand_at (node + 1) demands k (omega arith))

nodes_same : (width count : ℕ) (numbers : List ℤ) → ((k : ℕ) → k < count → get_or numbers (width * k) (pos 0) ≡ pos (1 + k)) → row_nodes width count numbers ≡ nodes_from 1 count
nodes_same width count numbers each =
    let at = λ (row : ℕ). get_or numbers (width * row) (pos 0) in
    let left : length (map at (range_with_len 0 count)) ≡ count = length-map-range_with_len at 0 count in
    let right : length (map pos (range_with_len 1 count)) ≡ count = length-map-range_with_len pos 1 count in
    ext_get_or (pos 0) (map at (range_with_len 0 count)) (map pos (range_with_len 1 count)) (left ∙ sym right)
    (λ i lt. let below : i < count = omega (arith, left, lt) in
    get_or-map-range_with_len at 0 count i i (pos 0) below (omega arith) ∙ each i below ∙ sym (get_or-map-range_with_len pos 1 count i (1 + i) (pos 0) below refl))

-- the nodes of the points rise from 1
pub point_nodes : (points : List (ℤ × ℤ)) → row_nodes 3 (length points) (point_numbers 1 points) ≡ nodes_from 1 (length points)
point_nodes points = nodes_same 3 (length points) (point_numbers 1 points) (point_node_at 1 points)

-- the nodes of the demands rise from 1
pub demand_nodes : (demands : List ℕ) → row_nodes 2 (length demands) (demand_numbers 1 demands) ≡ nodes_from 1 (length demands)
demand_nodes demands = nodes_same 2 (length demands) (demand_numbers 1 demands) (demand_node_at 1 demands)

node_at : (count k : ℕ) → k < count → get_or (nodes_from 1 count) k (pos 0) ≡ pos (1 + k)
node_at count k lt = get_or-map-range_with_len pos 1 count k (1 + k) (pos 0) lt refl

-- where a node stands among the nodes
node_place : (count k : ℕ) → k < count → position_or_len (int_eq (pos (1 + k))) (nodes_from 1 count) ≡ k
node_place count k lt =
    let long : length (nodes_from 1 count) ≡ count = length-map-range_with_len pos 1 count in
    position_or_len_is (int_eq (pos (1 + k))) (nodes_from 1 count) k (pos 0) (omega (arith, long))
    (λ j below. ap (int_eq (pos (1 + k))) (node_at count j (omega arith)) ∙ not_equal (1 + k) (1 + j) (λ e. omega (arith, e)))
    (λ _. ap (int_eq (pos (1 + k))) (node_at count k lt) ∙ equal (1 + k) (1 + k) refl)

beside_same : {X : Type 0} (absent : X) (beside : List X) → by_node absent (length beside) (nodes_from 1 (length beside)) beside ≡ beside
beside_same {X} absent beside =
    let count = length beside in
    let at : ℕ → X = λ node. get_or beside (position_or_len (int_eq (pos node)) (nodes_from 1 count)) absent in
    let long : length (map at (range_with_len 1 count)) ≡ count = length-map-range_with_len at 1 count in
    ext_get_or absent (map at (range_with_len 1 count)) beside long
    (λ i lt. let below : i < count = omega (arith, long, lt) in
    get_or-map-range_with_len at 1 count i (1 + i) absent below refl ∙ ap (λ k. get_or beside k absent) (node_place count i below))

rows_same : (points : List (ℤ × ℤ)) → row_points (length points) (point_numbers 1 points) ≡ points
rows_same points =
    let count = length points in
    let numbers = point_numbers 1 points in
    let at : ℕ → ℤ × ℤ = λ row. (get_or numbers (3 * row + 1) (pos 0), get_or numbers (3 * row + 2) (pos 0)) in
    let long : length (map at (range_with_len 0 count)) ≡ count = length-map-range_with_len at 0 count in
    ext_get_or (pos 0, pos 0) (map at (range_with_len 0 count)) points long
    (λ i lt. let below : i < count = omega (arith, long, lt) in
    let east = point_east_at 1 points i below in
    let north = point_north_at 1 points i below in
    get_or-map-range_with_len at 0 count i i (pos 0, pos 0) below (omega arith) ∙ (rw (east, north) refl))

demand_rows_same : (demands : List ℕ) → row_demands (length demands) (demand_numbers 1 demands) ≡ demands
demand_rows_same demands =
    let count = length demands in
    let numbers = demand_numbers 1 demands in
    let at : ℕ → ℕ = λ row. unsigned_abs (get_or numbers (2 * row + 1) (pos 0)) in
    let long : length (map at (range_with_len 0 count)) ≡ count = length-map-range_with_len at 0 count in
    ext_get_or 0 (map at (range_with_len 0 count)) demands long
    (λ i lt. let below : i < count = omega (arith, long, lt) in
    get_or-map-range_with_len at 0 count i i 0 below (omega arith) ∙ ap unsigned_abs (demand_at 1 demands i below))

-- the points and the demands that were written
pub points_back : (points : List (ℤ × ℤ)) → points_of (length points) (point_numbers 1 points) ≡ points
points_back points =
    ap (λ (given : List ℤ). by_node (pos 0, pos 0) (length points) given (row_points (length points) (point_numbers 1 points))) (point_nodes points)
    ∙ ap (by_node (pos 0, pos 0) (length points) (nodes_from 1 (length points))) (rows_same points)
    ∙ beside_same (pos 0, pos 0) points

-- rows by rising node give back their demands
pub demands_back : (demands : List ℕ) → demands_of (length demands) (demand_numbers 1 demands) ≡ demands
demands_back demands =
    ap (λ (given : List ℤ). by_node 0 (length demands) given (row_demands (length demands) (demand_numbers 1 demands))) (demand_nodes demands)
    ∙ ap (by_node 0 (length demands) (nodes_from 1 (length demands))) (demand_rows_same demands)
    ∙ beside_same 0 demands

-- a number from 1 to the count of nodes is a node
pub node_is : (nodes node : ℕ) → 1 ≤ node → node ≤ nodes → is_node nodes (pos node) ≡ true
node_is nodes node some few = grind (arith, nat_tests)

-- none of the nodes from this one on is given
abbrev NoneFrom : ℕ → List ℤ → Type 0
NoneFrom node given = (k : ℕ) → node ≤ k → list_any (int_eq (pos k)) given ≡ false

none_more : (node : ℕ) (given : List ℤ) → NoneFrom node given → NoneFrom (node + 1) (given ++ pos node ∷ [])
none_more node given none k le =
    list_any-append (int_eq (pos k)) given (pos node ∷ [])
    ∙ or_from (list_any (int_eq (pos k)) given) (int_eq (pos k) (pos node) || false) (none k (omega arith)) (or_from (int_eq (pos k) (pos node)) false (not_equal k node (λ e. omega (arith, e))) refl)

no_bad_from : (nodes node count : ℕ) (given : List ℤ) → 1 ≤ node → node + count ≤ nodes + 1 → NoneFrom node given → bad_node nodes given (nodes_from node count) ≡ None
no_bad_from nodes node zero given some few none = refl
no_bad_from nodes node (suc count) given some few none =
    let here : is_node nodes (pos node) ≡ true = node_is nodes node some (omega arith) in
    rw here (rw (none node (omega arith)) (no_bad_from nodes (node + 1) count (given ++ pos node ∷ []) (omega arith) (omega arith) (none_more node given none)))

-- all nodes, each once
pub no_bad_node : (nodes : ℕ) → bad_node nodes [] (nodes_from 1 nodes) ≡ None
no_bad_node nodes = no_bad_from nodes 1 nodes [] (omega arith) (omega arith) (λ k le. refl)
