-- A plain file means the problem that stands in it.
use Rattle.std.proofs.Common.{◌≡◌, ℕ, ◌-◌, ◌*◌, ◌≤◌, ℤ, pos, neg_ℤ, true, false, ◌==◌, nat_lt, None, List, [], ◌∷◌, length, refl, sym, ap, ◌∙◌, subst, inl, inr, arith}
use Rattle.std.specs.Prelude.{Ok}
use Rattle.std.specs.List.{slice_split}
use Rattle.std.proofs.lemmas.Bool.{or_cases, eqb-true, eq-eqb, or_left}
use Rattle.std.proofs.lemmas.Bool.Decides.{nat_tests}
use Rattle.vrp_model.specs.Grid.{Grid}
use Rattle.vrp_model.specs.Problem.{Problem}
use Rattle.vrp_model.specs.Request.{IsAcceptable, request_of, problem_of, is_listed, node_demand}
use Rattle.vrp_model.specs.declared.metric.Metric.TheVariants as metric
use Rattle.vrp_text.specs.Complete.{Complete, Points, complete_of, count_fault, nodes_fault, no_node, listed_depots, node_fault, bad_node, row_nodes, demands_of}
use Rattle.vrp_text.specs.Line.{Line, lines_of}
use Rattle.vrp_text.specs.Meaning.{MeansProblem, reading_of, reading_of_lines, file_line_fault, all_stated, checked, or_fault, request_from}
use Rattle.vrp_text.specs.Part.{before_end, leading_data, parts_from}
use Rattle.check_plain.specs.Plain.{Statement, IsBody, Spells, without_remarks}
use Rattle.check_plain.specs.PlainMeaning.{MeansPlainly, FitsTrucks}
use Rattle.check_plain.specs.PlainMeaning.{request_from as plain_request}
use Rattle.vrp_text.specs.Stated.{stated_by, Stated}
use Rattle.vrp_text.specs.declared.lexer.key.Key.TheVariants as key
use Rattle.check_plain.proofs.PlainFile.{BodyLines, body_lines, SplitsRemarks, split_remarks}
use Rattle.check_plain.proofs.PlainOrder.{nodes_from, length-points, length-demands, point_nodes, demand_nodes, points_back, demands_back, node_is, no_bad_node}
use Rattle.check_plain.proofs.PlainParts.{remarks_before, plain_lines, plain_stated, lines_before_end, leading_plain, ReadsFile, Reads, reads_file}
use Rattle.check_plain.proofs.PlainRows.{point_numbers, demand_numbers, points_read, demands_read, depot_read, dimension_is, capacity_is}

abbrev depot_numbers : Statement → List ℤ
depot_numbers statement = pos statement.depot ∷ neg_ℤ (pos 1) ∷ []

-- what a plain file states
abbrev pub complete_from : Statement → Complete
complete_from statement = record {
  nodes = length statement.points;
  capacity = statement.capacity;
  source = Points metric.Euc2d (point_numbers 1 statement.points);
  demands = demand_numbers 1 statement.demands;
  depots = depot_numbers statement;
}

abbrev stated_from : Statement → Stated
stated_from statement = plain_stated (length statement.points) statement.capacity (point_numbers 1 statement.points) (demand_numbers 1 statement.demands) (depot_numbers statement)

-- the counts of a plain file
pub record HasCounts (statement : Statement) : Type 0 where
  pub some_nodes : 1 ≤ length statement.points
  pub few_nodes : length statement.points ≤ 1200
  pub some_capacity : 1 ≤ statement.capacity
  pub small_capacity : statement.capacity ≤ 1000000000
  pub one_demand_each : length statement.demands ≡ length statement.points
  pub from_one : 1 ≤ statement.depot
  pub within : statement.depot ≤ length statement.points

body_counts : (lines : List (List ℕ)) (statement : Statement) → IsBody lines statement → HasCounts statement
body_counts lines statement is = record {
  some_nodes = is.head.some_nodes;
  few_nodes = is.head.few_nodes;
  some_capacity = is.head.some_capacity;
  small_capacity = is.head.small_capacity;
  one_demand_each = is.one_demand_each;
  from_one = is.tail.from_one;
  within = is.tail.within;
}

-- the tokens write the numbers that are stated
body_reads : (lines : List (List ℕ)) (statement : Statement) → HasCounts statement → (body : BodyLines lines statement)
    → Reads body.tokens (length statement.points) statement.capacity (point_numbers 1 statement.points) (demand_numbers 1 statement.demands) (depot_numbers statement)
body_reads lines statement counts body =
    let few = counts.few_nodes in
    let each = counts.one_demand_each in
    let within = counts.within in
    let points = λ (line : ℕ). points_read line 0 1 body.tokens.points statement.points refl (omega arith) body.points in
    let demands = λ (line : ℕ). demands_read line 0 1 body.tokens.demands statement.demands refl (omega arith) body.demands in
    let depots = λ (line : ℕ). depot_read line body.tokens.depot statement.depot body.depot_is (omega arith) in
    record {
      nodes_is = dimension_is body.tokens.nodes (length statement.points) body.nodes_is counts.some_nodes few;
      capacity_is = capacity_is body.tokens.capacity statement.capacity body.truck_is counts.some_capacity counts.small_capacity;
      points_fine = λ line. (points line).fine;
      points_are = (points 0).are;
      demands_fine = λ line. (demands line).fine;
      demands_are = (demands 0).are;
      depots_fine = λ line. (depots line).fine;
      depots_are = (depots 0).are;
    }

-- no line before EOF has a fault
no_line_fault : (lines : List Line) (stated : Stated) → leading_data lines ≡ [] → ReadsFile lines stated → (file_line_fault lines ≡ None) × (all_stated lines ≡ stated)
no_line_fault lines stated none file =
    (rw (none, file.explicit) file.fine, ap (λ explicit. stated_by explicit (parts_from 1 lines)) file.explicit ∙ file.states)

no_count_fault : (statement : Statement) → HasCounts statement → count_fault (complete_from statement) ≡ None
no_count_fault statement counts =
    let points : (length (point_numbers 1 statement.points) == 3 * length statement.points) ≡ true = eq-eqb _ _ (length-points 1 statement.points) in
    let demands : (length (demand_numbers 1 statement.demands) == 2 * length statement.points) ≡ true = eq-eqb _ _ (length-demands 1 statement.demands ∙ ap (λ n. 2 * n) counts.one_demand_each) in
    rw (points, demands) refl

depot_is_node : (statement : Statement) → HasCounts statement → no_node (length statement.points) (listed_depots (depot_numbers statement)) ≡ None
depot_is_node statement counts =
    let here = node_is (length statement.points) statement.depot counts.from_one counts.within in
    rw here refl

no_point_fault : (statement : Statement) → bad_node (length statement.points) [] (row_nodes 3 (length statement.points) (point_numbers 1 statement.points)) ≡ None
no_point_fault statement = ap (bad_node (length statement.points) []) (point_nodes statement.points) ∙ no_bad_node (length statement.points)

no_demand_fault : (statement : Statement) → HasCounts statement → bad_node (length statement.points) [] (row_nodes 2 (length statement.points) (demand_numbers 1 statement.demands)) ≡ None
no_demand_fault statement counts =
    let same : row_nodes 2 (length statement.demands) (demand_numbers 1 statement.demands) ≡ nodes_from 1 (length statement.demands) = demand_nodes statement.demands in
    let there : row_nodes 2 (length statement.points) (demand_numbers 1 statement.demands) ≡ nodes_from 1 (length statement.points) =
    subst (λ n. row_nodes 2 n (demand_numbers 1 statement.demands) ≡ nodes_from 1 n) counts.one_demand_each same in
    ap (bad_node (length statement.points) []) there ∙ no_bad_node (length statement.points)

no_nodes_fault : (statement : Statement) → HasCounts statement → nodes_fault (complete_from statement) ≡ None
no_nodes_fault statement counts =
    rw (no_point_fault statement) (rw (no_demand_fault statement counts) (ap (node_fault key.Depot) (depot_is_node statement counts)))

checked_from : (statement : Statement) → HasCounts statement → checked (complete_of (stated_from statement)) ≡ Ok (complete_from statement)
checked_from statement counts =
    ap (λ fault. or_fault fault (or_fault (nodes_fault (complete_from statement)) (Ok (complete_from statement)))) (no_count_fault statement counts)
    ∙ ap (λ fault. or_fault fault (Ok (complete_from statement))) (no_nodes_fault statement counts)

lines_read : (lines : List Line) (statement : Statement) → HasCounts statement → leading_data lines ≡ [] → ReadsFile lines (stated_from statement) → reading_of_lines lines ≡ Ok (complete_from statement)
lines_read lines statement counts none file =
    let fine = no_line_fault lines (stated_from statement) none file in
    ap (λ fault. or_fault fault (checked (complete_of (all_stated lines)))) fine.0
    ∙ ap (λ stated. checked (complete_of stated)) fine.1
    ∙ checked_from statement counts

file_lines : (bytes : List ℕ) (statement : Statement) (split : SplitsRemarks (slice_split (λ byte. byte == 10) bytes)) (body : BodyLines (without_remarks (slice_split (λ byte. byte == 10) bytes)) statement)
    → before_end (lines_of bytes) ≡ remarks_before split.remarks (plain_lines body.tokens [])
file_lines bytes statement split body =
    ap before_end (split.are ∙ ap (remarks_before split.remarks) body.are) ∙ lines_before_end split.remarks body.tokens body.last

-- the bytes are read as what they state
plain_read : (bytes : List ℕ) (statement : Statement) → Spells bytes statement → reading_of bytes ≡ Ok (complete_from statement)
plain_read bytes statement spells =
    let short = spells.short in
    let fits : nat_lt 16777216 (length bytes) ≡ false = grind (arith, nat_tests) in
    let split = split_remarks (slice_split (λ byte. byte == 10) bytes) in
    let body = body_lines (without_remarks (slice_split (λ byte. byte == 10) bytes)) statement spells.body in
    let counts = body_counts (without_remarks (slice_split (λ byte. byte == 10) bytes)) statement spells.body in
    let reads = body_reads (without_remarks (slice_split (λ byte. byte == 10) bytes)) statement counts body in
    let file = reads_file split.remarks body.tokens (length statement.points) statement.capacity (point_numbers 1 statement.points) (demand_numbers 1 statement.demands) (depot_numbers statement) reads in
    let read = lines_read (remarks_before split.remarks (plain_lines body.tokens [])) statement counts (leading_plain split.remarks body.tokens) file in
    rw fits (ap reading_of_lines (file_lines bytes statement split body) ∙ read)

same_request : (statement : Statement) (grid : Grid) → HasCounts statement → request_from (complete_from statement) None grid ≡ plain_request statement grid
same_request statement grid counts =
    let back : demands_of (length statement.points) (demand_numbers 1 statement.demands) ≡ statement.demands =
    subst (λ n. demands_of n (demand_numbers 1 statement.demands) ≡ statement.demands) counts.one_demand_each (demands_back statement.demands) in
    ap (λ demands. request_of grid demands statement.capacity (statement.depot ∷ []) None) back

is_the_depot : (depot node : ℕ) → is_listed (depot ∷ []) node ≡ true → depot ≡ node
is_the_depot depot node e = elim (or_cases (depot == node) false e) [ inl same ↦ eqb-true depot node same | inr none ↦ absurd cc ]

plain_acceptable : (statement : Statement) (grid : Grid) → FitsTrucks statement → IsAcceptable (plain_request statement grid)
plain_acceptable statement grid fits = record {
  depots_empty = λ node there.
      let same = is_the_depot statement.depot node there.listed in
      let empty : node_demand statement.demands node ≡ 0 = subst (λ n. node_demand statement.demands n ≡ 0) same fits.empty_depot in
      let some = there.demand in
      absurd (omega (arith, empty, some));
  chosen_listed = or_left (statement.depot == statement.depot) false (eq-eqb statement.depot statement.depot refl);
  customers_fit = λ node there.
      let few = fits.each_fits (node - 1) in
      let heavy = there.heavy in
      absurd (omega (arith, few, heavy));
}

-- a plain file means just what stands in it
pub plain_means : (bytes : List ℕ) (problem : Problem) → MeansPlainly bytes problem → MeansProblem bytes None problem
plain_means bytes problem plainly =
    let statement = plainly.statement in
    let counts = body_counts _ statement plainly.plain.spelled.body in
    let request = same_request statement plainly.grid counts in
    record {
      complete = complete_from statement;
      read = plain_read bytes statement plainly.plain.spelled;
      grid = plainly.grid;
      weights = rw (points_back statement.points) plainly.distances;
      acceptable = subst IsAcceptable (sym request) (plain_acceptable statement plainly.grid plainly.plain.carried);
      meant = plainly.meant ∙ ap problem_of (sym request);
    }
