use Rattle.std.proofs.Common.{◌≡◌, ℕ, ◌≤◌, ◌<◌, ap, sym, ◌∙◌, Option, eqb, get_or, true, false, List, length, slice_index, arith}
use Rattle.std.proofs.lemmas.Bool.{eqb-true}
use Rattle.std.proofs.lemmas.Grind.{common_steps}
use Rattle.std.proofs.lemmas.List.Folds.{list_any_none}
use Rattle.std.proofs.lemmas.Bool.Decides.{nat_tests}
use Rattle.std.specs.Prelude.{unwrap_or}
use Rattle.vrp_model.specs.Grid.{Grid}
use Rattle.vrp_model.specs.Request.{is_listed, problem_of, request_at, request_of}
use Rattle.vrp_model.proofs.instance.Instance.new.Goals as goal

-- nodes are numbered from 1
is_listed_zero : (depots : List ℕ) → ((k : ℕ) → k < length depots → 1 ≤ slice_index depots k) → is_listed depots 0 ≡ false
is_listed_zero depots from_one = list_any_none _ depots (λ k d inside. grind (arith, nat_tests, common_steps, from_one k inside))

pub lowest_with_demand-requires-clause-from_one : goal.lowest_with_demand-requires-clause-from_one
lowest_with_demand-requires-clause-from_one c = rw c.new-listed.ensures (is_listed_zero _ c.requires.depots_from_one)

-- the chosen node is one of those that are listed
listed_at : (depots : List ℕ) (depot : ℕ) → (x : ℕ) × (x < length depots) × ((d : ℕ) → eqb (get_or depots x d) depot ≡ true) → (x : ℕ) × (x < length depots) × (slice_index depots x ≡ depot)
listed_at depots depot found = (found.0, found.1, eqb-true (slice_index depots found.0) depot (found.2 0))

listed_from_one : (depots : List ℕ) (depot : ℕ) → (x : ℕ) × (x < length depots) × ((d : ℕ) → eqb (get_or depots x d) depot ≡ true) → ((k : ℕ) → k < length depots → 1 ≤ slice_index depots k) → 1 ≤ depot
listed_from_one depots depot found from_one =
    let at = listed_at depots depot found in
    rw (← at.2) (from_one at.0 at.1)

listed_within : (depots : List ℕ) (depot most : ℕ) → (x : ℕ) × (x < length depots) × ((d : ℕ) → eqb (get_or depots x d) depot ≡ true) → ((k : ℕ) → k < length depots → slice_index depots k ≤ most) → depot ≤ most
listed_within depots depot most found within =
    let at = listed_at depots depot found in
    rw (← at.2) (within at.0 at.1)

-- the code's request is the one that the contract names
same_problem : (grid : Grid) (demands : List ℕ) (capacity : ℕ) (depots listed : List ℕ) (depot : ℕ) (chosen : Option ℕ) → listed ≡ depots → depot ≡ unwrap_or chosen (slice_index depots 0) → problem_of (request_at grid demands capacity listed depot) ≡ problem_of (request_of grid demands capacity depots chosen)
same_problem grid demands capacity depots listed depot chosen p q =
    ap (λ all. problem_of (request_at grid demands capacity all depot)) p
    ∙ ap (λ node. problem_of (request_at grid demands capacity depots node)) q

pub at_depot-requires-clause-from_one : goal.at_depot-requires-clause-from_one
at_depot-requires-clause-from_one c =
    listed_from_one c.args.depots.now _ c.if-not-contains.ensures.cases c.requires.depots_from_one

pub at_depot-requires-clause-within : goal.at_depot-requires-clause-within
at_depot-requires-clause-within c =
    listed_within c.args.depots.now _ c.args.weights.nodes c.if-not-contains.ensures.cases c.requires.depots_within

pub at_depot-requires-clause-acceptable : goal.at_depot-requires-clause-acceptable
at_depot-requires-clause-acceptable c = record {
  depots_empty = c.in_default.ensures.none;
  chosen_listed = rw c.new-listed.ensures (sym c.contains.ensures.value ∙ c.if-not-contains.false);
  customers_fit = c.in_default-lowest_too_heavy.ensures.none;
}

pub returns-in-Some-clause-refused : goal.returns-in-Some-clause-refused
returns-in-Some-clause-refused c = rw (← c.new-listed.ensures) c.in-Some.ensures.lowest

pub returns-then-not-contains-clause-refused : goal.returns-then-not-contains-clause-refused
returns-then-not-contains-clause-refused c = (
  rw (← c.new-listed.ensures) c.in_default.ensures.none,
  c.unwrap_or-depot.ensures,
  sym c.contains.ensures.value ∙ c.if-not-contains.true,
)

pub returns-in-Some-lowest_too_heavy-clause-refused : goal.returns-in-Some-lowest_too_heavy-clause-refused
returns-in-Some-lowest_too_heavy-clause-refused c = (
  rw (← c.new-listed.ensures) c.in_default.ensures.none,
  rw (← c.unwrap_or-depot.ensures) (sym c.contains.ensures.value ∙ c.if-not-contains.false),
  rw (← c.new-listed.ensures) c.in-Some-lowest_too_heavy.ensures.lowest,
)

pub returns-in-Ok-clause-acceptable : goal.returns-in-Ok-clause-acceptable
returns-in-Ok-clause-acceptable c = record {
  depots_empty = rw (← c.new-listed.ensures) c.in_default.ensures.none;
  chosen_listed = rw (← c.unwrap_or-depot.ensures) (sym c.contains.ensures.value ∙ c.if-not-contains.false);
  customers_fit = rw (← c.new-listed.ensures) c.in_default-lowest_too_heavy.ensures.none;
}

pub returns-in-Ok-clause-value : goal.returns-in-Ok-clause-value
returns-in-Ok-clause-value c =
    c.in-Ok.ensures ∙ same_problem c.args.weights c.args.demands.now c.args.capacity c.args.depots.now c.new-listed.result c.unwrap_or-depot.result c.args.chosen c.new-listed.ensures c.unwrap_or-depot.ensures

pub returns-clause-refused : goal.returns-clause-refused
returns-clause-refused c = record {
  depots_empty = rw (← c.new-listed.ensures) c.in_default.ensures.none;
  chosen_listed = rw (← c.unwrap_or-depot.ensures) (sym c.contains.ensures.value ∙ c.if-not-contains.false);
  customers_fit = rw (← c.new-listed.ensures) c.in_default-lowest_too_heavy.ensures.none;
}
