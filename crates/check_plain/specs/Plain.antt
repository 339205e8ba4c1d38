-- Plain files: the CVRP files of TSPLIB 95 (sections 1.1, the specification part, and 1.2, the data part) that are
-- EUC_2D with one depot, and are spelled without any freedom but in their numbers and remarks.
use Rattle.std.specs.Prelude.{◌≡◌, ℕ, ◌+◌, ◌*◌, ◌≤◌, ℤ, pos, neg_ℤ, Bool, ◌&&◌, ◌||◌, ◌==◌, nat_eq, nat_le, if◌then◌else◌, Option, Some, None, option_map, List, [], ◌∷◌, length, map, drop, codes, slice_index, slice_index_or, slice_get}
use Rattle.std.specs.List.{slice_split, starts_with}
use Rattle.std.specs.Str.{all_ascii_digits}
use Rattle.std.specs.Str.Parse.{digits_value}
use Rattle.vrp_model.specs.Grid.{IsCoordinate}
use Rattle.vrp_text.specs.declared.lexer.limits.TheConstants.{MAX_BYTES, MAX_DEMAND}
use Rattle.vrp_model.specs.declared.limits.TheConstants.{MAX_CAPACITY, MAX_NODES}

-- The lines of a file: the text between its line feeds, and the text behind the last one.
abbrev pub lines_of : List ℕ → List (List ℕ)
lines_of bytes = slice_split (λ byte. byte == 10) bytes

-- the text between a line's spaces
abbrev pub tokens_of : List ℕ → List (List ℕ)
tokens_of text = slice_split (λ byte. byte == 32) text

-- one to ten digits
abbrev pub unsigned_number : List ℕ → Option ℕ
unsigned_number text = if (all_ascii_digits text && nat_le 1 (length text)) && nat_le (length text) 10 then Some (digits_value 10 text) else None

-- one to ten digits, with an optional minus sign
abbrev pub number_of : List ℕ → Option ℤ
number_of text = if slice_index text 0 == 45
    then option_map (λ n. neg_ℤ (pos n)) (unsigned_number (drop 1 text))
    else option_map pos (unsigned_number text)

-- the number behind a keyword, if nothing else follows
abbrev pub number_after : List ℕ → List ℕ → Option ℤ
number_after keyword text = if starts_with nat_eq text keyword then number_of (drop (length keyword) text) else None

-- a line that begins with `NAME :` or `COMMENT :`
abbrev pub is_remark : List ℕ → Bool
is_remark text = starts_with nat_eq text (codes "NAME :") || starts_with nat_eq text (codes "COMMENT :")

-- the lines from the first on that is not a remark
abbrev pub without_remarks : List (List ℕ) → List (List ℕ)
without_remarks [] = []
without_remarks (text ∷ lines) = if is_remark text then without_remarks lines else text ∷ lines

abbrev pub line : List (List ℕ) → ℕ → List ℕ
line lines k = slice_index_or lines k []

-- the statements of a plain file: a point and a demand for each node by rising number, the capacity, and the depot's node
pub record Statement : Type 0 where
  pub points : List (ℤ × ℤ)
  pub demands : List ℕ
  pub capacity : ℕ
  pub depot : ℕ

-- the specification part, four lines
pub record IsHead (lines : List (List ℕ)) (nodes capacity : ℕ) : Type 0 where
  pub type_line : line lines 0 ≡ codes "TYPE : CVRP"
  pub dimension_line : number_after (codes "DIMENSION : ") (line lines 1) ≡ Some (pos nodes)
  pub metric_line : line lines 2 ≡ codes "EDGE_WEIGHT_TYPE : EUC_2D"
  pub capacity_line : number_after (codes "CAPACITY : ") (line lines 3) ≡ Some (pos capacity)
  pub some_nodes : 1 ≤ nodes
  pub few_nodes : nodes ≤ MAX_NODES
  pub some_capacity : 1 ≤ capacity
  pub small_capacity : capacity ≤ MAX_CAPACITY

-- a node's number and its two coordinates
pub record IsPointLine (text : List ℕ) (node : ℕ) (point : ℤ × ℤ) : Type 0 where
  pub tokens : map number_of (tokens_of text) ≡ Some (pos node) ∷ Some point.0 ∷ Some point.1 ∷ []
  pub east : IsCoordinate point.0
  pub north : IsCoordinate point.1

-- a node's number and its demand
pub record IsDemandLine (text : List ℕ) (node demand : ℕ) : Type 0 where
  pub tokens : map number_of (tokens_of text) ≡ Some (pos node) ∷ Some (pos demand) ∷ []
  pub small : demand ≤ MAX_DEMAND

-- the coordinates of all nodes by rising number
pub record IsPointSection (lines : List (List ℕ)) (points : List (ℤ × ℤ)) : Type 0 where
  pub name : line lines 0 ≡ codes "NODE_COORD_SECTION"
  pub each : (k : ℕ) (point : ℤ × ℤ) → slice_get points k ≡ Some point → IsPointLine (line lines (k + 1)) (k + 1) point

-- the demands of all nodes by rising number
pub record IsDemandSection (lines : List (List ℕ)) (demands : List ℕ) : Type 0 where
  pub name : line lines 0 ≡ codes "DEMAND_SECTION"
  pub each : (k demand : ℕ) → slice_get demands k ≡ Some demand → IsDemandLine (line lines (k + 1)) (k + 1) demand

-- the one depot, and the end: no line follows `EOF`, which ends with a line feed
pub record IsTail (lines : List (List ℕ)) (nodes depot : ℕ) : Type 0 where
  pub name : line lines 0 ≡ codes "DEPOT_SECTION"
  pub depot_line : number_of (line lines 1) ≡ Some (pos depot)
  pub depots_end : line lines 2 ≡ codes "-1"
  pub file_end : line lines 3 ≡ codes "EOF"
  pub whole : drop 4 lines ≡ [] ∷ []
  pub from_one : 1 ≤ depot
  pub within : depot ≤ nodes

-- the lines behind the remarks state this
pub record IsBody (lines : List (List ℕ)) (statement : Statement) : Type 0 where
  pub head : IsHead lines (length statement.points) statement.capacity
  pub point_section : IsPointSection (drop 4 lines) statement.points
  pub one_demand_each : length statement.demands ≡ length statement.points
  pub demand_section : IsDemandSection (drop (length statement.points + 5) lines) statement.demands
  pub tail : IsTail (drop (2 * length statement.points + 6) lines) (length statement.points) statement.depot

-- the bytes of a plain file are these, and state this
pub record Spells (bytes : List ℕ) (statement : Statement) : Type 0 where
  pub short : length bytes ≤ MAX_BYTES
  pub body : IsBody (without_remarks (lines_of bytes)) statement
