-- From a complete file to an instance.
use Rattle.std.proofs.Common.{◌≡◌, ◌≢◌, ℕ, suc, ◌≤◌, ℤ, pos, Option, Some, None, List, [], length, map, get_or, refl, subst, ◌∙◌, inl, inr, arith}
use Rattle.std.specs.Prelude.{unsigned_abs, slice_index, Result, Ok, Err, IfOk, IfErr}
use Rattle.std.proofs.lemmas.Bool.Decides.{leb_tells}
use Rattle.std.proofs.lemmas.Int.{ints}
use Rattle.std.proofs.lemmas.List.{get_or-map, get_or_past, length-map}
use Rattle.std.proofs.lemmas.List.FromFn.{length-map-range_with_len}
use Rattle.vrp_model.specs.Grid.{Grid}
use Rattle.vrp_model.specs.Problem.{Problem}
use Rattle.vrp_model.specs.Refusal.{IsRefusal}
use Rattle.vrp_model.specs.Request.{request_of, problem_of, IsAcceptable}
use Rattle.vrp_model.specs.declared.instance.InstanceError.{InstanceError}
use Rattle.vrp_model.specs.declared.instance.InstanceError.TheVariants as refusal
use Rattle.vrp_text.specs.Complete.{Complete, points_of, demands_of, listed_depots, bad_node, no_node, nodes_fault, row_nodes, row_points, row_demands, source_node_fault}
use Rattle.vrp_text.specs.Inner.NodeFaults.{demands_fault, depots_fault}
use Rattle.vrp_text.specs.Inner.PlacedRows.{beside_node}
use Rattle.vrp_text.specs.Meaning.{HasWeights, MeansProblem, MeansRefusal, or_fault, reading_of}
use Rattle.vrp_text.specs.Inner.Outcome.{StatesProblem, IsStatedRefusal}
use Rattle.vrp_text.specs.Refusal.{refusal_of}
use Rattle.vrp_text.specs.Section.{AreWithin}
use Rattle.vrp_text.specs.declared.error.TextError.{TextError}
use Rattle.vrp_text.specs.declared.error.TextError.TheVariants as error
use Rattle.vrp_text.specs.declared.section.Section.TheVariants.{Weights}

-- weights that may stand in their section are small
pub small_weights : (numbers : List ℤ) → AreWithin Weights 0 numbers → (k : ℕ) → slice_index (map unsigned_abs numbers) k ≤ 1000000000
small_weights numbers within k =
    elim (leb_tells (suc k) (length numbers)) [
      | inl inside ↦
          let value : slice_index (map unsigned_abs numbers) k ≡ unsigned_abs (get_or numbers k (pos 0)) = get_or-map unsigned_abs numbers k (pos 0) 0 inside.1 in
          let bounds = within k inside.1 in
          omega (arith, ints, value, bounds.0, bounds.1)
      | inr outside ↦
          let value : slice_index (map unsigned_abs numbers) k ≡ 0 = get_or_past (map unsigned_abs numbers) k 0 (omega (arith, length-map numbers unsigned_abs, outside.1)) in
          omega (arith, value)
    ]

-- each node has a point
pub length-points : (nodes : ℕ) (numbers : List ℤ) → length (points_of nodes numbers) ≡ nodes
length-points nodes numbers = length-map-range_with_len (beside_node (pos 0, pos 0) (row_nodes 3 nodes numbers) (row_points nodes numbers)) 1 nodes

-- each node has a demand
pub length-demands : (nodes : ℕ) (numbers : List ℤ) → length (demands_of nodes numbers) ≡ nodes
length-demands nodes numbers = length-map-range_with_len (beside_node 0 (row_nodes 2 nodes numbers) (row_demands nodes numbers)) 1 nodes

-- what is made of the numbers is what the file states
pub states_made : (complete : Complete) (chosen : Option ℕ) (demands depots : List ℕ) (grid : Grid) (problem : Problem)
    → demands ≡ demands_of complete.nodes complete.demands → depots ≡ map unsigned_abs (listed_depots complete.depots) → HasWeights complete.nodes complete.source grid
    → IsAcceptable (request_of grid demands complete.capacity depots chosen) → problem ≡ problem_of (request_of grid demands complete.capacity depots chosen) → StatesProblem complete chosen problem
states_made complete chosen demands depots grid problem same_demands same_depots weights acceptable made =
    let Accepted : List ℕ → List ℕ → Type 0 = λ ds ps. IsAcceptable (request_of grid ds complete.capacity ps chosen) in
    let Made : List ℕ → List ℕ → Type 0 = λ ds ps. problem ≡ problem_of (request_of grid ds complete.capacity ps chosen) in
    let stated : List ℕ = demands_of complete.nodes complete.demands in
    record {
      grid = grid;
      weights = weights;
      acceptable = subst (Accepted stated) same_depots (subst (λ ds. Accepted ds depots) same_demands acceptable);
      meant = subst (Made stated) same_depots (subst (λ ds. Made ds depots) same_demands made);
    }

-- a file whose coordinates, demands and depots name nodes rightly has no fault of nodes
pub nodes_are_sound : (complete : Complete) → source_node_fault complete.nodes complete.source ≡ None → bad_node complete.nodes [] (row_nodes 2 complete.nodes complete.demands) ≡ None
    → no_node complete.nodes (listed_depots complete.depots) ≡ None → nodes_fault complete ≡ None
nodes_are_sound complete source demands depots = rw source (rw demands (rw depots refl))

refusal_is : (fault : InstanceError) → refusal_of fault ≢ error.OutOfMemory → (refusal_of fault ≡ error.Instance fault) × (fault ≢ refusal.OutOfMemory)
refusal_is refusal.OutOfMemory differs = absurd (differs refl)
refusal_is (refusal.DepotDemand node) differs = (refl, λ e. cc)
refusal_is (refusal.NotADepot node) differs = (refl, λ e. cc)
refusal_is (refusal.DemandOverCapacity node) differs = (refl, λ e. cc)

-- the refusal of a request doesn't depend on its weights
refused_over : (demands : List ℕ) (capacity : ℕ) (depots : List ℕ) (chosen : Option ℕ) (g h : Grid) (fault : InstanceError) → fault ≢ refusal.OutOfMemory
    → IsRefusal (request_of g demands capacity depots chosen) fault → IsRefusal (request_of h demands capacity depots chosen) fault
refused_over demands capacity depots chosen g h refusal.OutOfMemory differs refused = absurd (differs refl)
refused_over demands capacity depots chosen g h (refusal.DepotDemand node) differs refused = refused
refused_over demands capacity depots chosen g h (refusal.NotADepot node) differs refused = refused
refused_over demands capacity depots chosen g h (refusal.DemandOverCapacity node) differs refused = refused

-- a refused request is one that the file states
pub states_refusal : (complete : Complete) (chosen : Option ℕ) (demands depots : List ℕ) (grid : Grid) (fault : InstanceError)
    → demands ≡ demands_of complete.nodes complete.demands → depots ≡ map unsigned_abs (listed_depots complete.depots) → nodes_fault complete ≡ None
    → IsRefusal (request_of grid demands complete.capacity depots chosen) fault → refusal_of fault ≢ error.OutOfMemory → IsStatedRefusal complete chosen (refusal_of fault)
states_refusal complete chosen demands depots grid fault same_demands same_depots sound refused differs =
    let stated : List ℕ = demands_of complete.nodes complete.demands in
    let is = refusal_is fault differs in
    inr (record {
      sound = sound;
      of_instance = fault;
      is = is.0;
      refused = λ other.
          let Refused : List ℕ → List ℕ → Type 0 = λ ds ps. IsRefusal (request_of other ds complete.capacity ps chosen) fault in
          let here = refused_over demands complete.capacity depots chosen grid other fault is.1 refused in
          subst (Refused stated) same_depots (subst (λ ds. Refused ds depots) same_demands here);
      of_file = is.1;
    })

-- a complete file with right nodes is read
pub means_problem : (bytes : List ℕ) (chosen : Option ℕ) (complete : Complete) (problem : Problem) → reading_of bytes ≡ or_fault (nodes_fault complete) (Ok complete) → nodes_fault complete ≡ None
    → StatesProblem complete chosen problem → MeansProblem bytes chosen problem
means_problem bytes chosen complete problem read sound states =
    record { complete = complete; read = read ∙ (rw sound refl); grid = states.grid; weights = states.weights; acceptable = states.acceptable; meant = states.meant }

-- a refusal of what a complete file states is one of the file
pub means_refusal : (bytes : List ℕ) (chosen : Option ℕ) (complete : Complete) (fault : TextError) → reading_of bytes ≡ or_fault (nodes_fault complete) (Ok complete)
    → IsStatedRefusal complete chosen fault → MeansRefusal bytes chosen fault
means_refusal bytes chosen complete fault read (inl node) = inl (read ∙ (rw node refl))
means_refusal bytes chosen complete fault read (inr states) =
    inr (states.of_instance, states.is, record { complete = complete; read = read ∙ (rw states.sound refl); refused = states.refused; of_file = states.of_file })

-- an answer that is the problem stated is the problem meant
pub if_meant : (bytes : List ℕ) (chosen : Option ℕ) (complete : Complete) (result : Result Problem TextError) → reading_of bytes ≡ or_fault (nodes_fault complete) (Ok complete)
    → IfOk result (λ problem. nodes_fault complete ≡ None) → IfOk result (StatesProblem complete chosen) → IfOk result (MeansProblem bytes chosen)
if_meant bytes chosen complete (Ok problem) read sound states = means_problem bytes chosen complete problem read sound states
if_meant bytes chosen complete (Err fault) read sound states = tt

-- an answer that is a refusal of what is stated is the refusal meant
pub if_refused : (bytes : List ℕ) (chosen : Option ℕ) (complete : Complete) (result : Result Problem TextError) → reading_of bytes ≡ or_fault (nodes_fault complete) (Ok complete)
    → IfErr result (λ fault. fault ≢ error.OutOfMemory → IsStatedRefusal complete chosen fault) → IfErr result (λ fault. fault ≢ error.OutOfMemory → MeansRefusal bytes chosen fault)
if_refused bytes chosen complete (Ok problem) read states = tt
if_refused bytes chosen complete (Err fault) read states = λ differs. means_refusal bytes chosen complete fault read (states differs)

-- a fault of the nodes is a refusal that the file states
pub refused_source : (complete : Complete) (chosen : Option ℕ) (fault : TextError) → source_node_fault complete.nodes complete.source ≡ Some fault → IsStatedRefusal complete chosen fault
refused_source complete chosen fault bad = inl (rw bad refl)

pub refused_demands : (complete : Complete) (chosen : Option ℕ) (fault : TextError) → source_node_fault complete.nodes complete.source ≡ None → demands_fault complete.nodes complete.demands ≡ Some fault → IsStatedRefusal complete chosen fault
refused_demands complete chosen fault source bad = inl (rw (source, bad) refl)

pub refused_depots : (complete : Complete) (chosen : Option ℕ) (fault : TextError) → source_node_fault complete.nodes complete.source ≡ None → bad_node complete.nodes [] (row_nodes 2 complete.nodes complete.demands) ≡ None
    → depots_fault complete.nodes (listed_depots complete.depots) ≡ Some fault → IsStatedRefusal complete chosen fault
refused_depots complete chosen fault source demands bad = inl (rw source (rw demands (rw bad refl)))
