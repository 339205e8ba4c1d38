use Rattle.std.proofs.Common.{MatchOption, Option, List, ℕ, sym, ◌∙◌, subst}
use Rattle.std.specs.List.{All, Contains}
use Rattle.std.specs.List.Sorted.{IsStrictlyIncreasing}
use Rattle.vrp_model.specs.Problem.{Problem, customers}
use Rattle.vrp_bound.specs.declared.completions.CompletionCells.{CompletionCells}
use Rattle.vrp_bound.specs.Inner.Filled.{AreCellsMade}
use Rattle.vrp_bound.specs.Tables.{AreMade}
use Rattle.vrp_bound.proofs.CellAnswers.{filled_same}
use Rattle.vrp_bound.proofs.TableSizes.{light_where_made}
use Rattle.vrp_bound.proofs.completions.Completions.new.Goals.{then-are_made+in_ok-fill, else-are_made}
use Rattle.vrp_bound.proofs.completions.Completions.new.Goals as goal

pub fill-requires-clause-scope : goal.fill-requires-clause-scope
fill-requires-clause-scope c =
    let scope = c.new-scope.result in
    light_where_made 200000000 scope.instance.now scope.customers.now scope.problem scope.known (c.are_made.ensures.0 c.if-are_made.true)

pub returns-clause-held : goal.returns-clause-held
returns-clause-held c =
    let scope = c.new-scope.result in
    let p = c.args.instance.now in
    let q = scope.instance.now in
    let others = scope.customers.now in
    let same = c.new-scope.ensures.instance in
    let listed = c.new-scope.ensures.customers in
    let rising : IsStrictlyIncreasing others = subst IsStrictlyIncreasing (sym listed) c.requires.rising in
    let known : All (Contains (customers q)) others = subst (λ (a : List ℕ). All (Contains (customers q)) a) (sym listed) (subst (λ (b : Problem). All (Contains (customers b)) c.args.customers.now) (sym same) c.requires.customers) in
    filled_same p q c.in_ok-from_slice.field-0.items others c.if-are_made.cells same (listed ∙ sym c.in_ok-from_slice.ensures.items) rising known
    (elim c.if-are_made.branch [
      | then-are_made+in_ok-fill w ↦
          subst (λ (o : Option CompletionCells). MatchOption o (AreMade q others → ⊥) (AreCellsMade q others)) (sym w.cells-is) (record { made = c.are_made.ensures.0 w.if-are_made.true; are_cells = w.in_ok-fill.ensures })
      | else-are_made w ↦
          subst (λ (o : Option CompletionCells). MatchOption o (AreMade q others → ⊥) (AreCellsMade q others)) (sym w.cells-is)
          (λ made. absurd (let yes = c.are_made.ensures.1 made in cc (yes, w.if-are_made.false)))
    ])
