-- The parts of plain files.
use Rattle.std.proofs.Common.{◌≡◌, ℕ, suc, ◌+◌, ℤ, false, ◌||◌, Some, None, List, [], ◌∷◌, ◌++◌, length, refl, ap, ◌∙◌, arith}
use Rattle.std.specs.Prelude.{codes, Ok}
use Rattle.std.proofs.lemmas.Bool.{or_from}
use Rattle.std.proofs.lemmas.List.Folds.{list_any-append}
use Rattle.vrp_model.specs.declared.metric.Metric.TheVariants as metric
use Rattle.vrp_text.specs.Line.{Line, Heading, Data}
use Rattle.vrp_text.specs.Part.{Part, before_end, leading_data, parts_from}
use Rattle.vrp_text.specs.Section.{content_of, content_fault, data_fault, data_numbers}
use Rattle.vrp_text.specs.Stated.{Stated, bears, is_borne, is_explicit, part_fault, parts_fault, stated_by, value_fault, fault_in}
use Rattle.vrp_text.specs.Value.{dimension, capacity}
use Rattle.vrp_text.specs.declared.lexer.key.Key.{Key}
use Rattle.vrp_text.specs.declared.lexer.key.Key.TheVariants as key
use Rattle.vrp_text.specs.declared.lexer.keyword.Keyword.TheVariants as keyword
use Rattle.vrp_text.specs.declared.section.Section.TheVariants as section
use Rattle.vrp_text.specs.declared.lexer.value.WeightKind.TheVariants as kind

-- lines of data before other lines
abbrev pub data_before : List (List (List ℕ)) → List Line → List Line
data_before [] lines = lines
data_before (tokens ∷ rows) lines = Data tokens ∷ data_before rows lines

-- remarks before other lines
abbrev pub remarks_before : List (List (List ℕ)) → List Line → List Line
remarks_before [] lines = lines
remarks_before (tokens ∷ remarks) lines = Heading (Some keyword.Remark) tokens ∷ remarks_before remarks lines

-- a line with a keyword of this key
abbrev pub heading : Key → List (List ℕ) → Line
heading key tokens = Heading (Some (keyword.Key key)) tokens

-- the tokens of a plain file
pub record Tokens : Type 0 where
  pub nodes : List ℕ
  pub capacity : List ℕ
  pub points : List (List (List ℕ))
  pub demands : List (List (List ℕ))
  pub depot : List ℕ

-- the data lines of the depots
abbrev pub depot_rows : Tokens → List (List (List ℕ))
depot_rows tokens = (tokens.depot ∷ []) ∷ (codes "-1" ∷ []) ∷ []

-- the lines of the demands, before others
abbrev pub demand_lines : Tokens → List Line → List Line
demand_lines tokens behind = heading key.Demand [] ∷ data_before tokens.demands (heading key.Depot [] ∷ data_before (depot_rows tokens) behind)

-- the lines behind the remarks, and what stands behind them
abbrev pub plain_lines : Tokens → List Line → List Line
plain_lines tokens behind =
    heading key.Problem (codes "CVRP" ∷ [])
    ∷ heading key.Dimension (tokens.nodes ∷ [])
    ∷ heading key.WeightKind (codes "EUC_2D" ∷ [])
    ∷ heading key.Capacity (tokens.capacity ∷ [])
    ∷ heading key.NodeCoord []
    ∷ data_before tokens.points (demand_lines tokens behind)

end_data : (rows : List (List (List ℕ))) (lines : List Line) → before_end (data_before rows lines) ≡ data_before rows (before_end lines)
end_data [] lines = refl
end_data (tokens ∷ rows) lines = ap (λ (rest : List Line). Data tokens ∷ rest) (end_data rows lines)

end_remarks : (remarks : List (List (List ℕ))) (lines : List Line) → before_end (remarks_before remarks lines) ≡ remarks_before remarks (before_end lines)
end_remarks [] lines = refl
end_remarks (tokens ∷ remarks) lines = ap (λ (rest : List Line). Heading (Some keyword.Remark) tokens ∷ rest) (end_remarks remarks lines)

end_demands : (tokens : Tokens) (behind : List Line) → before_end (demand_lines tokens behind) ≡ demand_lines tokens (before_end behind)
end_demands tokens behind = ap (λ (rest : List Line). heading key.Demand [] ∷ rest) (end_data tokens.demands (heading key.Depot [] ∷ data_before (depot_rows tokens) behind))

end_plain : (tokens : Tokens) (behind : List Line) → before_end (plain_lines tokens behind) ≡ plain_lines tokens (before_end behind)
end_plain tokens behind =
    ap (λ (rest : List Line). heading key.Problem (codes "CVRP" ∷ []) ∷ heading key.Dimension (tokens.nodes ∷ []) ∷ heading key.WeightKind (codes "EUC_2D" ∷ []) ∷ heading key.Capacity (tokens.capacity ∷ []) ∷ heading key.NodeCoord [] ∷ rest)
    (end_data tokens.points (demand_lines tokens behind) ∙ ap (data_before tokens.points) (end_demands tokens behind))

-- the lines before EOF
pub lines_before_end : (remarks : List (List (List ℕ))) (tokens : Tokens) (last : List Line)
    → before_end (remarks_before remarks (plain_lines tokens (Heading (Some keyword.End) [] ∷ last))) ≡ remarks_before remarks (plain_lines tokens [])
lines_before_end remarks tokens last = end_remarks remarks (plain_lines tokens (Heading (Some keyword.End) [] ∷ last)) ∙ ap (remarks_before remarks) (end_plain tokens (Heading (Some keyword.End) [] ∷ last))

leading_rows : (rows : List (List (List ℕ))) (key : Key) (tokens : List (List ℕ)) (lines : List Line) → leading_data (data_before rows (heading key tokens ∷ lines)) ≡ rows
leading_rows [] key tokens lines = refl
leading_rows (row ∷ rows) key tokens lines = ap (λ (rest : List (List (List ℕ))). row ∷ rest) (leading_rows rows key tokens lines)

leading_remarks : (remarks : List (List (List ℕ))) (lines : List Line) → leading_data lines ≡ [] → leading_data (remarks_before remarks lines) ≡ []
leading_remarks [] lines none = none
leading_remarks (tokens ∷ remarks) lines none = refl

-- no data stand before the first keyword
pub leading_plain : (remarks : List (List (List ℕ))) (tokens : Tokens) → leading_data (remarks_before remarks (plain_lines tokens [])) ≡ []
leading_plain remarks tokens = leading_remarks remarks (plain_lines tokens []) refl

parts_behind : (number : ℕ) (rows : List (List (List ℕ))) (lines : List Line) → parts_from number (data_before rows lines) ≡ parts_from (number + length rows) lines
parts_behind number [] lines = let e : number ≡ number + 0 = omega arith in ap (λ n. parts_from n lines) e
parts_behind number (row ∷ rows) lines =
    let e : number + 1 + length rows ≡ number + suc (length rows) = omega arith in
    parts_behind (number + 1) rows lines ∙ ap (λ n. parts_from n lines) e

abbrev remark_part : ℕ → List (List ℕ) → Part
remark_part number tokens = record { line = number; keyword = Some keyword.Remark; behind = tokens; data_lines = [] }

abbrev remark_parts : ℕ → List (List (List ℕ)) → List Part → List Part
remark_parts number [] parts = parts
remark_parts number (tokens ∷ remarks) parts = remark_part number tokens ∷ remark_parts (number + 1) remarks parts

abbrev key_part : ℕ → Key → List (List ℕ) → List (List (List ℕ)) → Part
key_part number key behind rows = record { line = number; keyword = Some (keyword.Key key); behind = behind; data_lines = rows }

-- the parts behind the remarks, with the numbers of their lines
abbrev plain_parts : Tokens → ℕ → ℕ → ℕ → ℕ → ℕ → ℕ → ℕ → List Part
plain_parts tokens a b c d e f g =
    key_part a key.Problem (codes "CVRP" ∷ []) []
    ∷ key_part b key.Dimension (tokens.nodes ∷ []) []
    ∷ key_part c key.WeightKind (codes "EUC_2D" ∷ []) []
    ∷ key_part d key.Capacity (tokens.capacity ∷ []) []
    ∷ key_part e key.NodeCoord [] tokens.points
    ∷ key_part f key.Demand [] tokens.demands
    ∷ key_part g key.Depot [] (depot_rows tokens)
    ∷ []

demand_parts : (tokens : Tokens) (number : ℕ) → parts_from number (demand_lines tokens [])
    ≡ key_part number key.Demand [] tokens.demands ∷ key_part (number + 1 + length tokens.demands) key.Depot [] (depot_rows tokens) ∷ []
demand_parts tokens number =
    let lines = heading key.Depot [] ∷ data_before (depot_rows tokens) [] in
    let rows = leading_rows tokens.demands key.Depot [] (data_before (depot_rows tokens) []) in
    let rest : parts_from (number + 1) (data_before tokens.demands lines) ≡ key_part (number + 1 + length tokens.demands) key.Depot [] (depot_rows tokens) ∷ [] = parts_behind (number + 1) tokens.demands lines in
    ap (λ (rows : List (List (List ℕ))). key_part number key.Demand [] rows ∷ parts_from (number + 1) (data_before tokens.demands lines)) rows
    ∙ ap (λ (parts : List Part). key_part number key.Demand [] tokens.demands ∷ parts) rest

-- what the parts are
record HasParts (tokens : Tokens) (parts : List Part) : Type 0 where
  a : ℕ
  b : ℕ
  c : ℕ
  d : ℕ
  e : ℕ
  f : ℕ
  g : ℕ
  are : parts ≡ plain_parts tokens a b c d e f g

parts_plain : (tokens : Tokens) (number : ℕ) → HasParts tokens (parts_from number (plain_lines tokens []))
parts_plain tokens number =
    let e = number + 1 + 1 + 1 + 1 in
    let lines = demand_lines tokens [] in
    let rows = leading_rows tokens.points key.Demand [] (data_before tokens.demands (heading key.Depot [] ∷ data_before (depot_rows tokens) [])) in
    let rest = parts_behind (e + 1) tokens.points lines ∙ demand_parts tokens (e + 1 + length tokens.points) in
    record {
      a = number;
      b = number + 1;
      c = number + 1 + 1;
      d = number + 1 + 1 + 1;
      e = e;
      f = e + 1 + length tokens.points;
      g = e + 1 + length tokens.points + 1 + length tokens.demands;
      are = ap (λ (parts : List Part).
          key_part number key.Problem (codes "CVRP" ∷ []) []
          ∷ key_part (number + 1) key.Dimension (tokens.nodes ∷ []) []
          ∷ key_part (number + 1 + 1) key.WeightKind (codes "EUC_2D" ∷ []) []
          ∷ key_part (number + 1 + 1 + 1) key.Capacity (tokens.capacity ∷ []) []
          ∷ parts)
          (ap (λ (rows : List (List (List ℕ))). key_part e key.NodeCoord [] rows ∷ parts_from (e + 1) (data_before tokens.points lines)) rows
          ∙ ap (λ (parts : List Part). key_part e key.NodeCoord [] tokens.points ∷ parts) rest);
    }

-- the numbers that the tokens write
pub record Reads (tokens : Tokens) (nodes truck : ℕ) (coordinates demands depots : List ℤ) : Type 0 where
  pub nodes_is : dimension tokens.nodes ≡ Ok nodes
  pub capacity_is : capacity tokens.capacity ≡ Ok truck
  pub points_fine : (line : ℕ) → data_fault section.Coordinates line 0 tokens.points ≡ None
  pub points_are : data_numbers section.Coordinates 0 tokens.points ≡ coordinates
  pub demands_fine : (line : ℕ) → data_fault section.Demands line 0 tokens.demands ≡ None
  pub demands_are : data_numbers section.Demands 0 tokens.demands ≡ demands
  pub depots_fine : (line : ℕ) → data_fault section.Depots line 0 (depot_rows tokens) ≡ None
  pub depots_are : data_numbers section.Depots 0 (depot_rows tokens) ≡ depots

-- what a plain file states
abbrev pub plain_stated : ℕ → ℕ → List ℤ → List ℤ → List ℤ → Stated
plain_stated nodes truck coordinates demands depots = record {
  problem = Some tt;
  nodes = Some nodes;
  capacity = Some truck;
  kind = Some (kind.Points metric.Euc2d);
  format = None;
  coordinates = Some coordinates;
  weights = None;
  demands = Some demands;
  depots = Some depots;
}

-- remarks state nothing
explicit_behind : (number : ℕ) (remarks : List (List (List ℕ))) (parts : List Part) → is_explicit (remark_parts number remarks parts) ≡ is_explicit parts
explicit_behind number [] parts = refl
explicit_behind number (tokens ∷ remarks) parts = explicit_behind (number + 1) remarks parts

stated_behind : (number : ℕ) (remarks : List (List (List ℕ))) (parts : List Part) → stated_by false (remark_parts number remarks parts) ≡ stated_by false parts
stated_behind number [] parts = refl
stated_behind number (tokens ∷ remarks) parts = stated_behind (number + 1) remarks parts

parts_remarks : (number : ℕ) (remarks : List (List (List ℕ))) (lines : List Line) → leading_data lines ≡ []
    → parts_from number (remarks_before remarks lines) ≡ remark_parts number remarks (parts_from (number + length remarks) lines)
parts_remarks number [] lines none = let e : number ≡ number + 0 = omega arith in ap (λ n. parts_from n lines) e
parts_remarks number (tokens ∷ remarks) lines none =
    let e : number + 1 + length remarks ≡ number + suc (length remarks) = omega arith in
    let rest = parts_remarks (number + 1) remarks lines none ∙ ap (λ n. remark_parts (number + 1) remarks (parts_from n lines)) e in
    let first : Part → List Part = λ part. part ∷ parts_from (number + 1) (remarks_before remarks lines) in
    ap (λ (rows : List (List (List ℕ))). first (record { line = number; keyword = Some keyword.Remark; behind = tokens; data_lines = rows })) (leading_remarks remarks lines none)
    ∙ ap (λ (parts : List Part). remark_part number tokens ∷ parts) rest

explicit_plain : (tokens : Tokens) (a b c d e f g : ℕ) → is_explicit (plain_parts tokens a b c d e f g) ≡ false
explicit_plain tokens a b c d e f g = refl

stated_plain : (tokens : Tokens) (a b c d e f g nodes truck : ℕ) (coordinates demands depots : List ℤ) → Reads tokens nodes truck coordinates demands depots
    → stated_by false (plain_parts tokens a b c d e f g) ≡ plain_stated nodes truck coordinates demands depots
stated_plain tokens a b c d e f g nodes truck coordinates demands depots reads =
    rw (reads.nodes_is, reads.capacity_is, reads.points_are, reads.demands_are, reads.depots_are) refl

-- no earlier part bears a key
abbrev Unborne : List Part → Type 0
Unborne earlier = (key : Key) → is_borne earlier key ≡ false

unborne_more : (earlier : List Part) (part : Part) (key : Key) → is_borne earlier key ≡ false → bears key part ≡ false → is_borne (earlier ++ part ∷ []) key ≡ false
unborne_more earlier part key before here =
    list_any-append (bears key) earlier (part ∷ []) ∙ or_from (is_borne earlier key) (bears key part || false) before (or_from (bears key part) false here refl)

part_fine : (earlier : List Part) (number : ℕ) (key : Key) (behind : List (List ℕ)) (rows : List (List (List ℕ))) → is_borne earlier key ≡ false
    → value_fault false key behind ≡ None → content_fault (content_of false (Some (keyword.Key key))) (number + 1) rows ≡ None → part_fault false earlier (key_part number key behind rows) ≡ None
part_fine earlier number key behind rows new value content = rw (new, value, content) refl

parts_fine : (earlier : List Part) (part : Part) (parts : List Part) → part_fault false earlier part ≡ None → parts_fault false (earlier ++ part ∷ []) parts ≡ None → parts_fault false earlier (part ∷ parts) ≡ None
parts_fine earlier part parts here later = rw here later

fault_behind : (number : ℕ) (remarks : List (List (List ℕ))) (parts : List Part) (earlier : List Part) → Unborne earlier → ((before : List Part) → Unborne before → parts_fault false before parts ≡ None)
    → parts_fault false earlier (remark_parts number remarks parts) ≡ None
fault_behind number [] parts earlier none fine = fine earlier none
fault_behind number (tokens ∷ remarks) parts earlier none fine =
    parts_fine earlier (remark_part number tokens) (remark_parts (number + 1) remarks parts) refl
    (fault_behind (number + 1) remarks parts (earlier ++ remark_part number tokens ∷ []) (λ key. unborne_more earlier (remark_part number tokens) key (none key) refl) fine)

fault_plain : (tokens : Tokens) (a b c d e f g nodes truck : ℕ) (coordinates demands depots : List ℤ) → Reads tokens nodes truck coordinates demands depots
    → (earlier : List Part) → Unborne earlier → parts_fault false earlier (plain_parts tokens a b c d e f g) ≡ None
fault_plain tokens a b c d e f g nodes truck coordinates demands depots reads earlier none =
    let one = key_part a key.Problem (codes "CVRP" ∷ []) [] in
    let two = key_part b key.Dimension (tokens.nodes ∷ []) [] in
    let three = key_part c key.WeightKind (codes "EUC_2D" ∷ []) [] in
    let four = key_part d key.Capacity (tokens.capacity ∷ []) [] in
    let five = key_part e key.NodeCoord [] tokens.points in
    let six = key_part f key.Demand [] tokens.demands in
    let seven = key_part g key.Depot [] (depot_rows tokens) in
    let to_one = earlier ++ one ∷ [] in
    let to_two = to_one ++ two ∷ [] in
    let to_three = to_two ++ three ∷ [] in
    let to_four = to_three ++ four ∷ [] in
    let to_five = to_four ++ five ∷ [] in
    let to_six = to_five ++ six ∷ [] in
    let after_one = λ (k : Key) (h : bears k one ≡ false). unborne_more earlier one k (none k) h in
    let after_two = λ (k : Key) (h : bears k one ≡ false) (i : bears k two ≡ false). unborne_more to_one two k (after_one k h) i in
    let after_three = λ (k : Key) (h : bears k one ≡ false) (i : bears k two ≡ false) (j : bears k three ≡ false). unborne_more to_two three k (after_two k h i) j in
    let after_four = λ (k : Key) (h : bears k one ≡ false) (i : bears k two ≡ false) (j : bears k three ≡ false) (l : bears k four ≡ false). unborne_more to_three four k (after_three k h i j) l in
    parts_fine earlier one (two ∷ three ∷ four ∷ five ∷ six ∷ seven ∷ []) (part_fine earlier a key.Problem (codes "CVRP" ∷ []) [] (none key.Problem) refl refl)
    (parts_fine to_one two (three ∷ four ∷ five ∷ six ∷ seven ∷ []) (part_fine to_one b key.Dimension (tokens.nodes ∷ []) [] (after_one key.Dimension refl) (ap fault_in reads.nodes_is) refl)
    (parts_fine to_two three (four ∷ five ∷ six ∷ seven ∷ []) (part_fine to_two c key.WeightKind (codes "EUC_2D" ∷ []) [] (after_two key.WeightKind refl refl) refl refl)
    (parts_fine to_three four (five ∷ six ∷ seven ∷ []) (part_fine to_three d key.Capacity (tokens.capacity ∷ []) [] (after_three key.Capacity refl refl refl) (ap fault_in reads.capacity_is) refl)
    (parts_fine to_four five (six ∷ seven ∷ []) (part_fine to_four e key.NodeCoord [] tokens.points (after_four key.NodeCoord refl refl refl refl) refl (reads.points_fine (e + 1)))
    (parts_fine to_five six (seven ∷ [])
    (part_fine to_five f key.Demand [] tokens.demands (unborne_more to_four five key.Demand (after_four key.Demand refl refl refl refl) refl) refl (reads.demands_fine (f + 1)))
    (parts_fine to_six seven []
    (part_fine to_six g key.Depot [] (depot_rows tokens) (unborne_more to_five six key.Depot (unborne_more to_four five key.Depot (after_four key.Depot refl refl refl refl) refl) refl) refl (reads.depots_fine (g + 1)))
    refl))))))

-- where the tokens write numbers, no line has a fault, and this is stated
pub record ReadsFile (lines : List Line) (stated : Stated) : Type 0 where
  pub explicit : is_explicit (parts_from 1 lines) ≡ false
  pub fine : parts_fault false [] (parts_from 1 lines) ≡ None
  pub states : stated_by false (parts_from 1 lines) ≡ stated

-- the lines of a plain file have no fault, and state this
pub reads_file : (remarks : List (List (List ℕ))) (tokens : Tokens) (nodes truck : ℕ) (coordinates demands depots : List ℤ) → Reads tokens nodes truck coordinates demands depots
    → ReadsFile (remarks_before remarks (plain_lines tokens [])) (plain_stated nodes truck coordinates demands depots)
reads_file remarks tokens nodes truck coordinates demands depots reads =
    let has = parts_plain tokens (1 + length remarks) in
    let are = parts_remarks 1 remarks (plain_lines tokens []) refl ∙ ap (remark_parts 1 remarks) has.are in
    record {
      explicit = ap is_explicit are ∙ explicit_behind 1 remarks _ ∙ explicit_plain tokens has.a has.b has.c has.d has.e has.f has.g;
      fine = ap (parts_fault false []) are ∙ fault_behind 1 remarks _ [] (λ key. refl) (fault_plain tokens has.a has.b has.c has.d has.e has.f has.g nodes truck coordinates demands depots reads);
      states = ap (stated_by false) are ∙ stated_behind 1 remarks _ ∙ stated_plain tokens has.a has.b has.c has.d has.e has.f has.g nodes truck coordinates demands depots reads;
    }
