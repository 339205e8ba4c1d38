-- The rows of numbers in plain files.
use Rattle.std.proofs.Common.{◌≡◌, ℕ, ◌+◌, ◌%◌, ◌≤◌, ℤ, pos, neg_ℤ, true, false, ◌==◌, None, List, [], ◌∷◌, ◌++◌, length, refl, ap, arith}
use Rattle.std.specs.Prelude.{codes, Ok}
use Rattle.std.specs.Int.Signed.{le_z_yes}
use Rattle.std.proofs.lemmas.Bool.Decides.{nat_tests}
use Rattle.std.proofs.lemmas.Int.{ints}
use Rattle.vrp_model.specs.Grid.{IsCoordinate}
use Rattle.vrp_text.specs.Section.{token_number, tokens_fault, numbers_from, data_fault, data_numbers}
use Rattle.vrp_text.specs.Value.{dimension, capacity, stated_number}
use Rattle.vrp_text.specs.declared.section.Section.{Section}
use Rattle.vrp_text.specs.declared.section.Section.TheVariants as section
use Rattle.check_plain.proofs.PlainNumbers.{Writes, number_in_is}
use Rattle.check_plain.proofs.PlainLines.{ThreeNumbers, TwoNumbers}

-- three tokens: a node and its coordinates
pub record IsPointRow (tokens : List (List ℕ)) (node : ℕ) (point : ℤ × ℤ) : Type 0 where
  pub numbers : ThreeNumbers tokens (pos node) point.0 point.1
  pub east : IsCoordinate point.0
  pub north : IsCoordinate point.1

-- two tokens: a node and its demand
pub record IsDemandRow (tokens : List (List ℕ)) (node demand : ℕ) : Type 0 where
  pub numbers : TwoNumbers tokens (pos node) (pos demand)
  pub small : demand ≤ 1000000000

-- one row after the other, by rising node
abbrev pub EachRow : {X : Type 0} → (List (List ℕ) → ℕ → X → Type 0) → ℕ → List (List (List ℕ)) → List X → Type 0
EachRow IsRow node [] [] = Unit {0}
EachRow IsRow node [] (x ∷ xs) = ⊥
EachRow IsRow node (tokens ∷ rows) [] = ⊥
EachRow IsRow node (tokens ∷ rows) (x ∷ xs) = IsRow tokens node x × EachRow IsRow (node + 1) rows xs

-- the numbers of rows of points, by rising node
abbrev pub point_numbers : ℕ → List (ℤ × ℤ) → List ℤ
point_numbers node [] = []
point_numbers node (point ∷ points) = pos node ∷ point.0 ∷ point.1 ∷ point_numbers (node + 1) points

-- the numbers of rows of demands, by rising node
abbrev pub demand_numbers : ℕ → List ℕ → List ℤ
demand_numbers node [] = []
demand_numbers node (demand ∷ demands) = pos node ∷ pos demand ∷ demand_numbers (node + 1) demands

coordinate_node : (place : ℕ) (text : List ℕ) (node : ℕ) → (place % 3 == 0) ≡ true → Writes text (pos node) → node ≤ 1000000000 → token_number section.Coordinates place text ≡ Ok (pos node)
coordinate_node place text node here writes small = rw here (number_in_is (neg_ℤ (pos 1000000000)) (pos 1000000000) text (pos node) writes (le_z_yes tt) (omega (arith, ints)))

coordinate : (place : ℕ) (text : List ℕ) (z : ℤ) → (place % 3 == 0) ≡ false → Writes text z → IsCoordinate z → token_number section.Coordinates place text ≡ Ok z
coordinate place text z here writes within = rw here (number_in_is (neg_ℤ (pos 100000000)) (pos 100000000) text z writes within.0 within.1)

demand_node : (place : ℕ) (text : List ℕ) (node : ℕ) → (place % 2 == 0) ≡ true → Writes text (pos node) → node ≤ 1000000000 → token_number section.Demands place text ≡ Ok (pos node)
demand_node place text node here writes small = rw here (number_in_is (neg_ℤ (pos 1000000000)) (pos 1000000000) text (pos node) writes (le_z_yes tt) (omega (arith, ints)))

demand : (place : ℕ) (text : List ℕ) (n : ℕ) → (place % 2 == 0) ≡ false → Writes text (pos n) → n ≤ 1000000000 → token_number section.Demands place text ≡ Ok (pos n)
demand place text n here writes small = rw here (number_in_is (pos 0) (pos 1000000000) text (pos n) writes (omega (arith, ints)) (omega (arith, ints)))

-- a row that is read
record RowRead (section : Section) (place : ℕ) (tokens : List (List ℕ)) (width : ℕ) (numbers : List ℤ) : Type 0 where
  fine : tokens_fault section place tokens ≡ None
  are : numbers_from section place tokens ≡ numbers
  long : length tokens ≡ width

point_row : (place : ℕ) (tokens : List (List ℕ)) (node : ℕ) (point : ℤ × ℤ) → place % 3 ≡ 0 → node ≤ 1000000000 → IsPointRow tokens node point → RowRead section.Coordinates place tokens 3 (pos node ∷ point.0 ∷ point.1 ∷ [])
point_row place tokens node point here small row =
    let numbers = row.numbers in
    let at : (place % 3 == 0) ≡ true = grind (arith, nat_tests) in
    let at_x : ((place + 1) % 3 == 0) ≡ false = grind (arith, nat_tests) in
    let at_y : ((place + 1 + 1) % 3 == 0) ≡ false = grind (arith, nat_tests) in
    let first = coordinate_node place numbers.first node at numbers.x_is small in
    let second = coordinate (place + 1) numbers.second point.0 at_x numbers.y_is row.east in
    let third = coordinate (place + 1 + 1) numbers.third point.1 at_y numbers.z_is row.north in
    record {
      fine = rw numbers.are (rw (first, second, third) refl);
      are = rw numbers.are (rw (first, second, third) refl);
      long = rw numbers.are refl;
    }

demand_row : (place : ℕ) (tokens : List (List ℕ)) (node n : ℕ) → place % 2 ≡ 0 → node ≤ 1000000000 → IsDemandRow tokens node n → RowRead section.Demands place tokens 2 (pos node ∷ pos n ∷ [])
demand_row place tokens node n here small row =
    let numbers = row.numbers in
    let at : (place % 2 == 0) ≡ true = grind (arith, nat_tests) in
    let beside : ((place + 1) % 2 == 0) ≡ false = grind (arith, nat_tests) in
    let first = demand_node place numbers.first node at numbers.x_is small in
    let second = demand (place + 1) numbers.second n beside numbers.y_is row.small in
    record {
      fine = rw numbers.are (rw (first, second) refl);
      are = rw numbers.are (rw (first, second) refl);
      long = rw numbers.are refl;
    }

-- rows that are read
pub record RowsRead (section : Section) (line place : ℕ) (rows : List (List (List ℕ))) (numbers : List ℤ) : Type 0 where
  pub fine : data_fault section line place rows ≡ None
  pub are : data_numbers section place rows ≡ numbers

row_before : (section : Section) (line place : ℕ) (tokens : List (List ℕ)) (width : ℕ) (numbers : List ℤ) (rows : List (List (List ℕ))) (more : List ℤ)
    → RowRead section place tokens width numbers → RowsRead section (line + 1) (place + width) rows more → RowsRead section line place (tokens ∷ rows) (numbers ++ more)
row_before section line place tokens width numbers rows more row later =
    record {
      fine = rw row.fine (rw row.long later.fine);
      are = rw row.are (rw row.long (ap (λ (rest : List ℤ). numbers ++ rest) later.are));
    }

-- the rows of points have no fault, and give these numbers
pub points_read : (line place node : ℕ) (rows : List (List (List ℕ))) (points : List (ℤ × ℤ)) → place % 3 ≡ 0 → node + length points ≤ 1000000000 → EachRow IsPointRow node rows points
    → RowsRead section.Coordinates line place rows (point_numbers node points)
points_read line place node [] [] here small each = record { fine = refl; are = refl }
points_read line place node [] (point ∷ points) here small each = absurd each
points_read line place node (tokens ∷ rows) [] here small each = absurd each
points_read line place node (tokens ∷ rows) (point ∷ points) here small each =
    row_before section.Coordinates line place tokens 3 (pos node ∷ point.0 ∷ point.1 ∷ []) rows (point_numbers (node + 1) points)
    (point_row place tokens node point here (omega arith) each.0)
    (points_read (line + 1) (place + 3) (node + 1) rows points (omega arith) (omega arith) each.1)

-- the rows of demands have no fault, and give these numbers
pub demands_read : (line place node : ℕ) (rows : List (List (List ℕ))) (demands : List ℕ) → place % 2 ≡ 0 → node + length demands ≤ 1000000000 → EachRow IsDemandRow node rows demands
    → RowsRead section.Demands line place rows (demand_numbers node demands)
demands_read line place node [] [] here small each = record { fine = refl; are = refl }
demands_read line place node [] (n ∷ demands) here small each = absurd each
demands_read line place node (tokens ∷ rows) [] here small each = absurd each
demands_read line place node (tokens ∷ rows) (n ∷ demands) here small each =
    row_before section.Demands line place tokens 2 (pos node ∷ pos n ∷ []) rows (demand_numbers (node + 1) demands)
    (demand_row place tokens node n here (omega arith) each.0)
    (demands_read (line + 1) (place + 2) (node + 1) rows demands (omega arith) (omega arith) each.1)

end_number : token_number section.Depots 1 (codes "-1") ≡ Ok (neg_ℤ (pos 1))
end_number = refl

-- the depot, and what ends the depots
pub depot_read : (line : ℕ) (text : List ℕ) (depot : ℕ) → Writes text (pos depot) → depot ≤ 1000000000
    → RowsRead section.Depots line 0 ((text ∷ []) ∷ (codes "-1" ∷ []) ∷ []) (pos depot ∷ neg_ℤ (pos 1) ∷ [])
depot_read line text depot writes small =
    let here : token_number section.Depots 0 text ≡ Ok (pos depot) = number_in_is (neg_ℤ (pos 1000000000)) (pos 1000000000) text (pos depot) writes (le_z_yes tt) (omega (arith, ints)) in
    record { fine = rw here refl; are = rw here refl }

-- a number of nodes is a dimension
pub dimension_is : (text : List ℕ) (nodes : ℕ) → Writes text (pos nodes) → 1 ≤ nodes → nodes ≤ 1200 → dimension text ≡ Ok nodes
dimension_is text nodes writes some few = ap stated_number (number_in_is (pos 1) (pos 1200) text (pos nodes) writes (omega (arith, ints)) (omega (arith, ints)))

-- a small number from 1 on is a capacity
pub capacity_is : (text : List ℕ) (truck : ℕ) → Writes text (pos truck) → 1 ≤ truck → truck ≤ 1000000000 → capacity text ≡ Ok truck
capacity_is text truck writes some small = ap stated_number (number_in_is (pos 1) (pos 1000000000) text (pos truck) writes (omega (arith, ints)) (omega (arith, ints)))
