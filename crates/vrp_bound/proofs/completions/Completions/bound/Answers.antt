use Rattle.std.proofs.Common.{◌≤◌, ◌<◌, List, MatchOption, Option, ℕ, refl, ◌∙◌, subst, sym}
use Rattle.std.specs.List.{All, Contains}
use Rattle.std.specs.List.Sorted.{IsStrictlyIncreasing}
use Rattle.vrp_model.specs.Problem.{Problem, customers, place_count}
use Rattle.vrp_model.specs.Route.{load_of}
use Rattle.vrp_bound.specs.declared.completions.CompletionCells.{CompletionCells}
use Rattle.vrp_bound.specs.Inner.Filled.{AreCells, AreCellsMade}
use Rattle.vrp_bound.specs.NgWalks.{nothing_near}
use Rattle.vrp_bound.specs.Tables.{AreMade}
use Rattle.vrp_bound.proofs.CellAnswers.{answer_none, answer_some, least_same_list}
use Rattle.vrp_bound.proofs.WholeUnits.{same_scope}
use Rattle.vrp_bound.proofs.completions.Completions.bound.Goals as goal

pub returns-in_default-clause-bound : goal.returns-in_default-clause-bound
returns-in_default-clause-bound c =
    let p = c.args.self.now.instance.now in
    let among = c.args.self.now.customers.items in
    let none : AreMade p among → ⊥ = subst (λ (o : Option CompletionCells). MatchOption o (AreMade p among → ⊥) (AreCellsMade p among)) c.in_default.is c.requires.held.filled in
    record { made = λ made. absurd (none made); none_made = λ _. refl }

pub new-scope-requires-clause-rising : goal.new-scope-requires-clause-rising
new-scope-requires-clause-rising c = subst IsStrictlyIncreasing (sym c.as_slice.ensures.value) c.requires.held.rising

pub new-scope-requires-clause-customers : goal.new-scope-requires-clause-customers
new-scope-requires-clause-customers c = subst (λ (among : List ℕ). All (Contains (customers c.args.self.now.instance.now)) among) (sym c.as_slice.ensures.value) c.requires.held.known

pub least-least-requires-clause-cells : goal.least-least-requires-clause-cells
least-least-requires-clause-cells c =
    let scope = c.new-scope.result in
    let p = c.args.self.now.instance.now in
    let among = c.args.self.now.customers.items in
    let are : AreCellsMade p among c.in-Some.cells = subst (λ (o : Option CompletionCells). MatchOption o (AreMade p among → ⊥) (AreCellsMade p among)) c.in-Some.is c.requires.held.filled in
    same_scope (λ b a. AreCells b nothing_near a c.in-Some.cells) scope.instance.now p scope.customers.now among (sym c.new-scope.ensures.instance) (sym (c.new-scope.ensures.customers ∙ c.as_slice.ensures.value)) are.are_cells

pub least-least-requires-clause-place : goal.least-least-requires-clause-place
least-least-requires-clause-place c = subst (λ (p : Problem). c.args.at < place_count p) (sym c.new-scope.ensures.instance) c.requires.place

pub least-least-requires-clause-load : goal.least-least-requires-clause-load
least-least-requires-clause-load c = subst (λ (p : Problem). c.args.load ≤ p.capacity) (sym c.new-scope.ensures.instance) c.requires.load

pub least-least-requires-clause-depot : goal.least-least-requires-clause-depot
least-least-requires-clause-depot c = c.requires.depot

pub least-least-requires-clause-rest : goal.least-least-requires-clause-rest
least-least-requires-clause-rest c =
    same_scope (λ b a. c.args.rest ≤ load_of b a) c.new-scope.result.instance.now c.args.self.now.instance.now c.new-scope.result.customers.now c.args.self.now.customers.items
    (sym c.new-scope.ensures.instance) (sym (c.new-scope.ensures.customers ∙ c.as_slice.ensures.value)) c.requires.rest

pub returns-then-least-lt-MARK-clause-small : goal.returns-then-least-lt-MARK-clause-small
returns-then-least-lt-MARK-clause-small c = c.if-least-lt-MARK.true

pub returns-then-least-lt-MARK-clause-bound : goal.returns-then-least-lt-MARK-clause-bound
returns-then-least-lt-MARK-clause-bound c =
    let scope = c.new-scope.result in
    let p = c.args.self.now.instance.now in
    let among = c.args.self.now.customers.items in
    let are : AreCellsMade p among c.in-Some.cells = subst (λ (o : Option CompletionCells). MatchOption o (AreMade p among → ⊥) (AreCellsMade p among)) c.in-Some.is c.requires.held.filled in
    let here = least_same_list p scope.instance.now nothing_near among scope.customers.now c.args.at c.args.load c.args.rest c.least-least.result c.new-scope.ensures.instance (c.new-scope.ensures.customers ∙ c.as_slice.ensures.value) c.least-least.ensures in
    answer_some p among c.in-Some.cells c.args.at c.args.load c.args.rest c.least-least.result are here c.if-least-lt-MARK.true

pub returns-else-least-lt-MARK-clause-bound : goal.returns-else-least-lt-MARK-clause-bound
returns-else-least-lt-MARK-clause-bound c =
    let scope = c.new-scope.result in
    let p = c.args.self.now.instance.now in
    let among = c.args.self.now.customers.items in
    let are : AreCellsMade p among c.in-Some.cells = subst (λ (o : Option CompletionCells). MatchOption o (AreMade p among → ⊥) (AreCellsMade p among)) c.in-Some.is c.requires.held.filled in
    let here = least_same_list p scope.instance.now nothing_near among scope.customers.now c.args.at c.args.load c.args.rest c.least-least.result c.new-scope.ensures.instance (c.new-scope.ensures.customers ∙ c.as_slice.ensures.value) c.least-least.ensures in
    answer_none p among c.in-Some.cells c.args.at c.args.load c.args.rest c.least-least.result are c.requires.rest here c.if-least-lt-MARK.false
