-- The lines of a whole plain file.
use Rattle.std.proofs.Common.{◌≡◌, ℕ, suc, ◌+◌, ◌*◌, ◌≤◌, ◌<◌, ℤ, pos, Some, List, [], ◌∷◌, length, map, drop, ◌-◌, length-drop, refl, sym, ap, ◌∙◌, subst, inl, inr, arith}
use Rattle.std.specs.Prelude.{codes, slice_get}
use Rattle.std.proofs.lemmas.Bool.{cases_Bool}
use Rattle.std.proofs.lemmas.List.{drop-drop}
use Rattle.vrp_text.specs.Line.{Line, Heading, Data, line_of}
use Rattle.check_plain.specs.Plain.{Statement, IsHead, IsPointLine, IsDemandLine, IsTail, IsBody, is_remark, without_remarks, line}
use Rattle.check_plain.specs.Plain.{tokens_of as plain_tokens}
use Rattle.vrp_text.specs.declared.lexer.key.Key.{Key}
use Rattle.vrp_text.specs.declared.lexer.key.Key.TheVariants as key
use Rattle.vrp_text.specs.declared.lexer.keyword.Keyword.TheVariants as keyword
use Rattle.check_plain.proofs.PlainNumbers.{Writes, number_is}
use Rattle.check_plain.proofs.PlainLines.{three_line, two_line, number_line, dimension_line, capacity_line, remark_line, type_line, metric_line, points_line, demands_line, depots_line, depots_end, end_line}
use Rattle.check_plain.proofs.PlainParts.{Tokens, data_before, remarks_before, heading, depot_rows, demand_lines, plain_lines}
use Rattle.check_plain.proofs.PlainRows.{IsPointRow, IsDemandRow, EachRow}

-- the remarks before the other lines
pub record SplitsRemarks (lines : List (List ℕ)) : Type 0 where
  pub remarks : List (List (List ℕ))
  pub are : map line_of lines ≡ remarks_before remarks (map line_of (without_remarks lines))

-- the remarks of a file stand before its other lines
pub split_remarks : (lines : List (List ℕ)) → SplitsRemarks lines
split_remarks [] = record { remarks = []; are = refl }
split_remarks (text ∷ lines) =
    elim (cases_Bool (is_remark text)) [
      | inl is ↦
          let first = remark_line text is in
          let rest = split_remarks lines in
          record { remarks = first.0 ∷ rest.remarks; are = rw is (rw (first.1, rest.are) refl) }
      | inr none ↦ record { remarks = []; are = rw none refl }
    ]

-- the four lines of the head
record HeadLines (lines : List (List ℕ)) (nodes truck : ℕ) : Type 0 where
  nodes_token : List ℕ
  truck_token : List ℕ
  are : map line_of lines ≡ heading key.Problem (codes "CVRP" ∷ []) ∷ heading key.Dimension (nodes_token ∷ []) ∷ heading key.WeightKind (codes "EUC_2D" ∷ []) ∷ heading key.Capacity (truck_token ∷ []) ∷ map line_of (drop 4 lines)
  nodes_is : Writes nodes_token (pos nodes)
  truck_is : Writes truck_token (pos truck)

head_lines : (lines : List (List ℕ)) (nodes truck : ℕ) → 4 ≤ length lines → IsHead lines nodes truck → HeadLines lines nodes truck
head_lines [] nodes truck long is = absurd (omega arith)
head_lines (a ∷ []) nodes truck long is = absurd (omega arith)
head_lines (a ∷ b ∷ []) nodes truck long is = absurd (omega arith)
head_lines (a ∷ b ∷ c ∷ []) nodes truck long is = absurd (omega arith)
head_lines (a ∷ b ∷ c ∷ d ∷ lines) nodes truck long is =
    let first = ap line_of is.type_line ∙ type_line in
    let second = dimension_line b (pos nodes) is.dimension_line in
    let third = ap line_of is.metric_line ∙ metric_line in
    let fourth = capacity_line d (pos truck) is.capacity_line in
    record { nodes_token = second.0; truck_token = fourth.0; are = rw (first, second.1, third, fourth.1) refl; nodes_is = second.2; truck_is = fourth.2 }

-- the rows of a section, and the lines behind them
record RowLines {X : Type 0} (IsRow : List (List ℕ) → ℕ → X → Type 0) (node : ℕ) (xs : List X) (lines : List (List ℕ)) : Type 0 where
  rows : List (List (List ℕ))
  are : map line_of lines ≡ data_before rows (map line_of (drop (length xs) lines))
  each : EachRow IsRow node rows xs

module _ {X : Type 0} (IsLine : List ℕ → ℕ → X → Type 0) (IsRow : List (List ℕ) → ℕ → X → Type 0)
    (reads : (text : List ℕ) (node : ℕ) (x : X) → IsLine text node x → (line_of text ≡ Data (plain_tokens text)) × IsRow (plain_tokens text) node x) where
  row_lines : (node : ℕ) (xs : List X) (lines : List (List ℕ)) → length xs ≤ length lines → ((k : ℕ) (x : X) → slice_get xs k ≡ Some x → IsLine (line lines k) (node + k) x) → RowLines IsRow node xs lines
  row_lines node [] lines few each = record { rows = []; are = refl; each = tt }
  row_lines node (x ∷ xs) [] few each = absurd (omega arith)
  row_lines node (x ∷ xs) (text ∷ lines) few each =
      let e : node + 0 ≡ node = omega arith in
      let here = reads text node x (subst (λ (n : ℕ). IsLine text n x) e (each 0 x refl)) in
      let later = row_lines (node + 1) xs lines (omega arith)
      (λ k y there. let f : node + suc k ≡ node + 1 + k = omega arith in subst (λ (n : ℕ). IsLine (line lines k) n y) f (each (suc k) y there)) in
      record { rows = plain_tokens text ∷ later.rows; are = rw (here.0, later.are) refl; each = (here.1, later.each) }

  -- a section's name, and its rows
  section_lines : (key : Key) (name : List ℕ) (xs : List X) (lines : List (List ℕ)) → length xs < length lines → line_of name ≡ heading key [] → line lines 0 ≡ name
      → ((k : ℕ) (x : X) → slice_get xs k ≡ Some x → IsLine (line lines (k + 1)) (k + 1) x)
      → (rows : List (List (List ℕ))) × (map line_of lines ≡ heading key [] ∷ data_before rows (map line_of (drop (1 + length xs) lines))) × EachRow IsRow 1 rows xs
  section_lines key name xs [] few begins first each = absurd (omega arith)
  section_lines key name xs (text ∷ lines) few begins first each =
      let there = row_lines 1 xs lines (omega arith)
      (λ k x e. let place : k + 1 ≡ suc k = omega arith in
      let node : k + 1 ≡ 1 + k = omega arith in
      subst (λ (n : ℕ). IsLine (line lines k) n x) node (subst (λ (i : ℕ). IsLine (line (text ∷ lines) i) (k + 1) x) place (each k x e))) in
      let name_is : line_of text ≡ heading key [] = ap line_of first ∙ begins in
      let behind : 1 + length xs ≡ suc (length xs) = omega arith in
      (there.rows, rw (name_is, behind) (ap (λ (rest : List Line). heading key [] ∷ rest) there.are), there.each)

point_reads : (text : List ℕ) (node : ℕ) (point : ℤ × ℤ) → IsPointLine text node point → (line_of text ≡ Data (plain_tokens text)) × IsPointRow (plain_tokens text) node point
point_reads text node point is =
    let row = three_line text (pos node) point.0 point.1 is.tokens in
    (row.0, record { numbers = row.1; east = is.east; north = is.north })

demand_reads : (text : List ℕ) (node demand : ℕ) → IsDemandLine text node demand → (line_of text ≡ Data (plain_tokens text)) × IsDemandRow (plain_tokens text) node demand
demand_reads text node demand is =
    let row = two_line text (pos node) (pos demand) is.tokens in
    (row.0, record { numbers = row.1; small = is.small })

-- the depot and the end
record TailLines (lines : List (List ℕ)) (depot : ℕ) : Type 0 where
  token : List ℕ
  are : map line_of lines ≡ heading key.Depot [] ∷ Data (token ∷ []) ∷ Data (codes "-1" ∷ []) ∷ Heading (Some keyword.End) [] ∷ map line_of (drop 4 lines)
  depot_is : Writes token (pos depot)

none_behind : (lines : List (List ℕ)) → length lines < 4 → drop 4 lines ≡ [] ∷ [] → ⊥
none_behind lines few whole =
    let long : length lines - 4 ≡ 1 = sym (length-drop 4 lines) ∙ ap (λ (rest : List (List ℕ)). length rest) whole in
    absurd (omega (arith, long))

tail_lines : (lines : List (List ℕ)) (nodes depot : ℕ) → IsTail lines nodes depot → TailLines lines depot
tail_lines [] nodes depot is = absurd (none_behind [] (omega arith) is.whole)
tail_lines (a ∷ []) nodes depot is = absurd (none_behind (a ∷ []) (omega arith) is.whole)
tail_lines (a ∷ b ∷ []) nodes depot is = absurd (none_behind (a ∷ b ∷ []) (omega arith) is.whole)
tail_lines (a ∷ b ∷ c ∷ []) nodes depot is = absurd (none_behind (a ∷ b ∷ c ∷ []) (omega arith) is.whole)
tail_lines (a ∷ b ∷ c ∷ d ∷ lines) nodes depot is =
    let writes = number_is b (pos depot) is.depot_line in
    let first = ap line_of is.name ∙ depots_line in
    let second = number_line b (pos depot) writes in
    let third = ap line_of is.depots_end ∙ depots_end in
    let fourth = ap line_of is.file_end ∙ end_line in
    record { token = b; are = rw (first, second, third, fourth) refl; depot_is = writes }

-- the lines behind the remarks
pub record BodyLines (lines : List (List ℕ)) (statement : Statement) : Type 0 where
  pub tokens : Tokens
  pub last : List Line
  pub are : map line_of lines ≡ plain_lines tokens (Heading (Some keyword.End) [] ∷ last)
  pub nodes_is : Writes tokens.nodes (pos (length statement.points))
  pub truck_is : Writes tokens.capacity (pos statement.capacity)
  pub points : EachRow IsPointRow 1 tokens.points statement.points
  pub demands : EachRow IsDemandRow 1 tokens.demands statement.demands
  pub depot_is : Writes tokens.depot (pos statement.depot)

body_length : (lines : List (List ℕ)) (k : ℕ) → drop 4 (drop k lines) ≡ [] ∷ [] → length lines ≡ k + 5
body_length lines k whole =
    let long : length lines - (k + 4) ≡ 1 = sym (length-drop (k + 4) lines) ∙ ap (λ (rest : List (List ℕ)). length rest) (sym (drop-drop 4 k lines) ∙ whole) in
    omega (arith, long)

abbrev to_end : List Line → List Line
to_end last = Heading (Some keyword.End) [] ∷ last

-- the lines of the sections, one behind the other
lines_from_demands : (tokens : Tokens) (last demand depot : List Line) → demand ≡ heading key.Demand [] ∷ data_before tokens.demands depot → depot ≡ heading key.Depot [] ∷ data_before (depot_rows tokens) (to_end last)
    → demand ≡ demand_lines tokens (to_end last)
lines_from_demands tokens last demand depot is behind = rw behind at is

all_lines : (tokens : Tokens) (last all points demand : List Line)
    → all ≡ heading key.Problem (codes "CVRP" ∷ []) ∷ heading key.Dimension (tokens.nodes ∷ []) ∷ heading key.WeightKind (codes "EUC_2D" ∷ []) ∷ heading key.Capacity (tokens.capacity ∷ []) ∷ points
    → points ≡ heading key.NodeCoord [] ∷ data_before tokens.points demand → demand ≡ demand_lines tokens (to_end last) → all ≡ plain_lines tokens (to_end last)
all_lines tokens last all points demand is points_are demand_is = rw (points_are, demand_is) at is

-- the lines of a body are those of a plain file
pub body_lines : (lines : List (List ℕ)) (statement : Statement) → IsBody lines statement → BodyLines lines statement
body_lines lines statement is =
    let nodes = length statement.points in
    let one_each = is.one_demand_each in
    let at_demands = drop (nodes + 5) lines in
    let at_tail = drop (2 * nodes + 6) lines in
    let long = body_length lines (2 * nodes + 6) is.tail.whole in
    let head = head_lines lines nodes statement.capacity (omega (arith, long)) is.head in
    let points = section_lines IsPointLine IsPointRow point_reads key.NodeCoord (codes "NODE_COORD_SECTION") statement.points (drop 4 lines)
    (omega (arith, long, length-drop 4 lines)) points_line is.point_section.name is.point_section.each in
    let demands = section_lines IsDemandLine IsDemandRow demand_reads key.Demand (codes "DEMAND_SECTION") statement.demands at_demands
    (omega (arith, long, one_each, length-drop (nodes + 5) lines)) demands_line is.demand_section.name is.demand_section.each in
    let tail = tail_lines at_tail nodes statement.depot is.tail in
    let tokens : Tokens = record { nodes = head.nodes_token; capacity = head.truck_token; points = points.0; demands = demands.0; depot = tail.token } in
    let last = map line_of (drop 4 at_tail) in
    let behind_points : 4 + (1 + nodes) ≡ nodes + 5 = omega arith in
    let behind_demands : nodes + 5 + (1 + length statement.demands) ≡ 2 * nodes + 6 = omega arith in
    let to_demands = drop-drop (1 + nodes) 4 lines ∙ ap (λ k. drop k lines) behind_points in
    let to_tail = drop-drop (1 + length statement.demands) (nodes + 5) lines ∙ ap (λ k. drop k lines) behind_demands in
    let demand_is : map line_of at_demands ≡ demand_lines tokens (to_end last) =
    lines_from_demands tokens last (map line_of at_demands) (map line_of (drop (1 + length statement.demands) at_demands)) demands.1 (ap (map line_of) to_tail ∙ tail.are) in
    record {
      tokens = tokens;
      last = last;
      are = all_lines tokens last (map line_of lines) (map line_of (drop 4 lines)) (map line_of (drop (1 + nodes) (drop 4 lines))) head.are points.1 (ap (map line_of) to_demands ∙ demand_is);
      nodes_is = head.nodes_is;
      truck_is = head.truck_is;
      points = points.2;
      demands = demands.2;
      depot_is = tail.depot_is;
    }
