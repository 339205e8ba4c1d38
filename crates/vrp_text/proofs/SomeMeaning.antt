-- A CVRP file means a problem or a refusal.
use Rattle.std.proofs.Common.{◌≡◌, ◌⊎◌, ℕ, ◌+◌, ◌-◌, ◌<◌, Option, Result, Ok, Err, List, length, inl, inr, refl, arith}
use Rattle.std.proofs.lemmas.Bool.{cases_Bool, cases_lt}
use Rattle.std.proofs.lemmas.List.{get_or_past}
use Rattle.vrp_model.specs.Problem.{Problem}
use Rattle.vrp_model.specs.Request.{IsDepotWithDemand, IsLowestDepotWithDemand, IsLowestTooHeavy, IsTooHeavy, NoDepotHasDemand, NoneIsTooHeavy, is_listed, node_demand, problem_of}
use Rattle.vrp_model.specs.declared.instance.InstanceError.TheVariants as refusal
use Rattle.vrp_text.specs.Complete.{Complete}
use Rattle.vrp_text.specs.Meaning.{MeansProblem, MeansRefusal, reading_of, request_from}
use Rattle.vrp_text.specs.declared.error.TextError.{TextError}
use Rattle.vrp_text.specs.declared.error.TextError.TheVariants as error
use Rattle.vrp_text.proofs.LeastSearch.{IsDecided, least_or_none}
use Rattle.vrp_text.proofs.OneRefusal.{no_grid}
use Rattle.vrp_text.proofs.SomeGrid.{some_weights}

-- ---- the lowest node at fault, or none

decide_depot : (depots demands : List ℕ) (node : ℕ) → IsDecided (IsDepotWithDemand depots demands node)
decide_depot depots demands node = elim (cases_Bool (is_listed depots node)) [
  | inl listed ↦ elim (cases_lt 0 (node_demand demands node)) [
    | inl some ↦ inl (record { listed = listed; demand = some })
    | inr none ↦ inr (λ has. absurd (omega (arith, has.demand)))
  ]
  | inr unlisted ↦ inr (λ has. let here = has.listed in absurd cc)
]

-- a node with a demand is one of those that have one
demand_within : (demands : List ℕ) (node : ℕ) → 0 < node_demand demands node → node < length demands + 1
demand_within demands node some = elim (cases_lt (node - 1) (length demands)) [
  | inl inside ↦ omega arith
  | inr past ↦ let none = get_or_past demands (node - 1) 0 past in absurd (omega arith)
]

lowest_depot : (depots demands : List ℕ) → ((node : ℕ) × IsLowestDepotWithDemand depots demands node) ⊎ NoDepotHasDemand depots demands
lowest_depot depots demands = elim (least_or_none (IsDepotWithDemand depots demands) (decide_depot depots demands) (length demands + 1)) [
  | inl found ↦ inl (found.0, record { has = found.1.has; lowest = found.1.least })
  | inr none ↦ inr (λ node has. none node (demand_within demands node has.demand) has)
]

decide_heavy : (depots demands : List ℕ) (capacity node : ℕ) → IsDecided (IsTooHeavy depots demands capacity node)
decide_heavy depots demands capacity node = elim (cases_Bool (is_listed depots node)) [
  | inl listed ↦ inr (λ has. let here = has.unlisted in absurd cc)
  | inr unlisted ↦ elim (cases_lt capacity (node_demand demands node)) [
    | inl heavy ↦ elim (cases_lt 0 node) [
      | inl from_one ↦ inl (record { from_one = from_one; within = omega (arith, demand_within demands node (omega arith)); unlisted = unlisted; heavy = heavy })
      | inr zero ↦ inr (λ has. absurd (omega (arith, has.from_one)))
    ]
    | inr light ↦ inr (λ has. absurd (omega (arith, has.heavy)))
  ]
]

lowest_heavy : (depots demands : List ℕ) (capacity : ℕ) → ((node : ℕ) × IsLowestTooHeavy depots demands capacity node) ⊎ NoneIsTooHeavy depots demands capacity
lowest_heavy depots demands capacity = elim (least_or_none (IsTooHeavy depots demands capacity) (decide_heavy depots demands capacity) (length demands + 1)) [
  | inl found ↦ inl (found.0, record { has = found.1.has; lowest = found.1.least })
  | inr none ↦ inr (λ node has. none node (omega (arith, has.within)) has)
]

-- ---- what the file means

-- the file means a problem or a refusal
abbrev pub MeansSomething : List ℕ → Option ℕ → Type 0
MeansSomething bytes chosen = ((p : Problem) × MeansProblem bytes chosen p) ⊎ ((e : TextError) × MeansRefusal bytes chosen e)

-- a complete file, by what is wrong with its request
complete_means : (bytes : List ℕ) (chosen : Option ℕ) (complete : Complete) → reading_of bytes ≡ Ok complete → MeansSomething bytes chosen
complete_means bytes chosen complete read =
    let request = request_from complete chosen no_grid in
    elim (lowest_depot request.depots request.demands) [
      | inl depot ↦ inr (
        error.Instance (refusal.DepotDemand depot.0),
        inr (
          refusal.DepotDemand depot.0,
          refl,
          record {
            complete = complete;
            read = read;
            refused = λ grid. depot.1;
            of_file = λ e. cc;
          },
        ),
      )
      | inr empty ↦ elim (cases_Bool (is_listed request.depots request.chosen)) [
        | inr unlisted ↦ inr (
          error.Instance (refusal.NotADepot request.chosen),
          inr (
            refusal.NotADepot request.chosen,
            refl,
            record {
              complete = complete;
              read = read;
              refused = λ grid. (empty, refl, unlisted);
              of_file = λ e. cc;
            },
          ),
        )
        | inl listed ↦ elim (lowest_heavy request.depots request.demands request.capacity) [
          | inl heavy ↦ inr (
            error.Instance (refusal.DemandOverCapacity heavy.0),
            inr (
              refusal.DemandOverCapacity heavy.0,
              refl,
              record {
                complete = complete;
                read = read;
                refused = λ grid. (empty, listed, heavy.1);
                of_file = λ e. cc;
              },
            ),
          )
          | inr fit ↦
              let weights = some_weights complete.nodes complete.source in
              inl (
                problem_of (request_from complete chosen weights.0),
                record {
                  complete = complete;
                  read = read;
                  grid = weights.0;
                  weights = weights.1;
                  acceptable = record { depots_empty = empty; chosen_listed = listed; customers_fit = fit };
                  meant = refl;
                },
              )
        ]
      ]
    ]

means : (bytes : List ℕ) (chosen : Option ℕ) (answer : Result Complete TextError) → reading_of bytes ≡ answer → MeansSomething bytes chosen
means bytes chosen (Ok complete) read = complete_means bytes chosen complete read
means bytes chosen (Err fault) read = inr (fault, inl read)

-- whatever the bytes are
pub some_meaning : (bytes : List ℕ) (chosen : Option ℕ) → MeansSomething bytes chosen
some_meaning bytes chosen = means bytes chosen (reading_of bytes) refl
