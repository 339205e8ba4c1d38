-- The completion table: its cells by index, and the next cell from the one of less room.
use Rattle.std.proofs.Common.{◌≡◌, ◌≢◌, ℕ, ◌+◌, ◌-◌, ◌*◌, ◌/◌, ◌%◌, ◌<◌, ◌≤◌, min, List, [], ◌∷◌, ◌++◌, length, get_or, inl, inr, sym, ◌∙◌, ap, subst, arith}
use Rattle.std.proofs.lemmas.Bool.{cases_lt}
use Rattle.std.proofs.lemmas.List.{get_or_default}
use Rattle.std.proofs.lemmas.Nat.{div-mul-add, mod-mul-add, mul-add-lt}
use Rattle.vrp_model.specs.Problem.{Problem, place_count}
use Rattle.vrp_model.specs.Route.{load_of}
use Rattle.vrp_bound.specs.Inner.CompletionCells.{IsCompletionTable, IsCompletionTableSoFar, AreTours, HasRelaxed, HasCompletion, IsLeastCell, IsSmallLeastCell, mark, small_mark}
use Rattle.vrp_bound.specs.Inner.Scope.{IsScope}
use Rattle.vrp_bound.specs.Tables.{room_of}
use Rattle.vrp_model.proofs.PushedCells.{each_push}
use Rattle.vrp_bound.proofs.FirstTour.{IsCompletionWith, home_is_relaxed, relaxed_is_home, small_completion}
use Rattle.vrp_bound.proofs.LeastOfCosts.{IsCostBelow}

-- the lesser of the least so far and that of one way more
small_more : (IsCost : ℕ → ℕ → Type 0) (arcs less whole cell : ℕ) → IsSmallLeastCell (IsCostBelow IsCost arcs) less → IsLeastCell (IsCost arcs) whole → ((cost : ℕ) → IsCost arcs cost → cost < mark) → (mark ≤ whole → cell ≡ less) → (whole < mark → (cell ≡ min less whole) × (whole < small_mark)) → IsSmallLeastCell (IsCostBelow IsCost (arcs + 1)) cell
small_more IsCost arcs less whole cell so_far here small none some =
    elim (cases_lt whole mark) [
      | inl cheap ↦
          let (is, fits) = some cheap in
          record {
            met = λ _. elim (cases_lt whole less) [
              | inl lower ↦ let e : whole ≡ cell = omega (arith, is, lower) in subst (IsCostBelow IsCost (arcs + 1)) e (record { arc = arcs; below = omega arith; has = here.met cheap })
              | inr higher ↦
                  let e : less ≡ cell = omega (arith, is, higher) in
                  let has = so_far.met (omega (arith, fits, higher)) in
                  subst (IsCostBelow IsCost (arcs + 1)) e (record { arc = has.arc; below = omega (arith, has.below); has = has.has })
            ];
            least = λ cost has. elim (cases_lt has.arc arcs) [
              | inl before ↦ omega (arith, is, so_far.least cost (record { arc = has.arc; below = before; has = has.has }))
              | inr behind ↦ let last : has.arc ≡ arcs = omega (arith, behind, has.below) in omega (arith, is, here.least cost (subst (λ arc. IsCost arc cost) last has.has))
            ];
            none = λ large cost has. absurd (omega (arith, is, fits, large));
          }
      | inr costly ↦
          let is : cell ≡ less = none costly in
          let nothing : (cost : ℕ) → IsCost arcs cost → ⊥ = λ cost has. absurd (omega (arith, costly, small cost has, here.least cost has)) in
          record {
            met = λ cheap. let has = so_far.met (omega (arith, is, cheap)) in subst (IsCostBelow IsCost (arcs + 1)) (sym is) (record { arc = has.arc; below = omega (arith, has.below); has = has.has });
            least = λ cost has. elim (cases_lt has.arc arcs) [
              | inl before ↦ omega (arith, is, so_far.least cost (record { arc = has.arc; below = before; has = has.has }))
              | inr behind ↦ let last : has.arc ≡ arcs = omega (arith, behind, has.below) in absurd (nothing cost (subst (λ arc. IsCost arc cost) last has.has))
            ];
            none = λ large cost has. elim (cases_lt has.arc arcs) [
              | inl before ↦ so_far.none (omega (arith, is, large)) cost (record { arc = has.arc; below = before; has = has.has })
              | inr behind ↦ let last : has.arc ≡ arcs = omega (arith, behind, has.below) in nothing cost (subst (λ arc. IsCost arc cost) last has.has)
            ];
          }
    ]

small_same : (IsCost IsOther : ℕ → Type 0) (cell : ℕ) → ((cost : ℕ) → IsCost cost → IsOther cost) → ((cost : ℕ) → IsOther cost → IsCost cost) → IsSmallLeastCell IsCost cell → IsSmallLeastCell IsOther cell
small_same IsCost IsOther cell to from least = record {
  met = λ small. to cell (least.met small);
  least = λ cost has. least.least cost (from cost has);
  none = λ large cost has. least.none large cost (from cost has);
}

arc_of : (p : Problem) (near : ℕ → List ℕ) (among : List ℕ) (at room rest cost : ℕ) → IsCostBelow (IsCompletionWith p near among at rest) (room + 1) cost → HasCompletion p near among at room rest cost
arc_of p near among at room rest cost below =
    let arc = below.has in
    record {
      home = below.arc;
      carried = omega (arith, below.below);
      fits = arc.fits;
      walk = arc.parts.first;
      tours = arc.parts.second;
      has_walk = arc.parts.has_first;
      has_tours = arc.parts.has_second;
      whole = arc.parts.whole;
    }

of_completion : (p : Problem) (near : ℕ → List ℕ) (among : List ℕ) (at room rest cost : ℕ) → HasCompletion p near among at room rest cost → IsCostBelow (IsCompletionWith p near among at rest) (room + 1) cost
of_completion p near among at room rest cost arc = record {
  arc = arc.home;
  below = omega (arith, arc.carried);
  has = record {
    fits = arc.fits;
    parts = record { first = arc.walk; second = arc.tours; has_first = arc.has_walk; has_second = arc.has_tours; whole = arc.whole };
  };
}

-- the least with less room, where there is any
less_room : (p : Problem) (near : ℕ → List ℕ) (among : List ℕ) (at room rest less : ℕ) → (room ≡ 0 → less ≡ small_mark) → (0 < room → IsSmallLeastCell (HasCompletion p near among at (room - 1) rest) less) → IsSmallLeastCell (IsCostBelow (IsCompletionWith p near among at rest) room) less
less_room p near among at room rest less none some =
    elim (cases_lt 0 room) [
      | inl more ↦
          let e : room - 1 + 1 ≡ room = omega (arith, more) in
          subst (λ n. IsSmallLeastCell (IsCostBelow (IsCompletionWith p near among at rest) n) less) e
          (small_same (HasCompletion p near among at (room - 1) rest) (IsCostBelow (IsCompletionWith p near among at rest) (room - 1 + 1)) less
          (λ cost. of_completion p near among at (room - 1) rest cost)
          (λ cost. arc_of p near among at (room - 1) rest cost)
          (some more))
      | inr zero_room ↦
          let is : less ≡ small_mark = none (omega (arith, zero_room)) in
          record {
            met = λ small. absurd (omega (arith, is, small));
            least = λ cost has. absurd (omega (arith, zero_room, has.below));
            none = λ large cost has. absurd (omega (arith, zero_room, has.below));
          }
    ]

-- the whole room is more than the rest
too_much_room : (p : Problem) (near : ℕ → List ℕ) (among : List ℕ) (at room rest whole : ℕ) → rest < room → whole ≡ mark → IsLeastCell (IsCompletionWith p near among at rest room) whole
too_much_room p near among at room rest whole more is = record {
  met = λ small. absurd (omega (arith, is, small));
  least = λ cost arc. absurd (omega (arith, more, arc.fits));
}

pub next_completion : (p : Problem) (near : ℕ → List ℕ) (among : List ℕ) (at room rest less whole cell : ℕ) → IsScope p among → rest ≤ load_of p among → (room ≡ 0 → less ≡ small_mark) → (0 < room → IsSmallLeastCell (HasCompletion p near among at (room - 1) rest) less) → (room ≤ rest → IsLeastCell (IsCompletionWith p near among at rest room) whole) → (rest < room → whole ≡ mark) → (mark ≤ whole → cell ≡ less) → (whole < mark → (cell ≡ min less whole) × (whole < small_mark)) → IsSmallLeastCell (HasCompletion p near among at room rest) cell
next_completion p near among at room rest less whole cell scope within none some fits_whole no_whole costly cheap =
    let here : IsLeastCell (IsCompletionWith p near among at rest room) whole = elim (cases_lt rest room) [
      | inl more ↦ too_much_room p near among at room rest whole more (no_whole more)
      | inr enough ↦ fits_whole enough
    ] in
    small_same (IsCostBelow (IsCompletionWith p near among at rest) (room + 1)) (HasCompletion p near among at room rest) cell
    (λ cost. arc_of p near among at room rest cost)
    (λ cost. of_completion p near among at room rest cost)
    (small_more (IsCompletionWith p near among at rest) room less whole cell (less_room p near among at room rest less none some) here (λ cost. small_completion p near among at rest room cost scope within) costly cheap)

-- the place, the room and the rest of a cell, by its index
is_at : (rooms rests k at room rest : ℕ) → room < rooms → rest < rests → k ≡ (at * rooms + room) * rests + rest → (k / rests / rooms ≡ at) × (k / rests % rooms ≡ room) × (k % rests ≡ rest)
is_at rooms rests k at room rest room_within rest_within is =
    let row : k / rests ≡ at * rooms + room = ap (λ n. n / rests) is ∙ div-mul-add (at * rooms + room) rests rest rest_within in (
      ap (λ n. n / rooms) row ∙ div-mul-add at rooms room room_within,
      ap (λ n. n % rooms) row ∙ mod-mul-add at rooms room room_within,
      ap (λ n. n % rests) is ∙ mod-mul-add (at * rooms + room) rests rest rest_within,
    )

moved : (p : Problem) (near : ℕ → List ℕ) (among : List ℕ) (at at' room room' rest rest' cell : ℕ) → at ≡ at' → room ≡ room' → rest ≡ rest' → IsSmallLeastCell (HasCompletion p near among at room rest) cell → IsSmallLeastCell (HasCompletion p near among at' room' rest') cell
moved p near among at at' room room' rest rest' cell a b c least =
    subst (λ n. IsSmallLeastCell (HasCompletion p near among at' room' n) cell) c
    (subst (λ n. IsSmallLeastCell (HasCompletion p near among at' n rest) cell) b
    (subst (λ n. IsSmallLeastCell (HasCompletion p near among n room rest) cell) a least))

pub completion_cell : (p : Problem) (near : ℕ → List ℕ) (among cells : List ℕ) (k at room rest : ℕ) → room < room_of p among + 1 → rest < load_of p among + 1 → k ≡ (at * (room_of p among + 1) + room) * (load_of p among + 1) + rest → k < length cells → IsCompletionTableSoFar p near among cells → IsSmallLeastCell (HasCompletion p near among at room rest) (get_or cells k 0)
completion_cell p near among cells k at room rest room_within rest_within is inside so_far =
    let rests = load_of p among + 1 in
    let rooms = room_of p among + 1 in
    let at_is = is_at rooms rests k at room rest room_within rest_within is in
    moved p near among (k / rests / rooms) at (k / rests % rooms) room (k % rests) rest (get_or cells k 0) at_is.0 at_is.1 at_is.2 (so_far.each k inside)

pub more_completions : (p : Problem) (near : ℕ → List ℕ) (among cells : List ℕ) (cell at room rest : ℕ) → room < room_of p among + 1 → rest < load_of p among + 1 → length cells ≡ (at * (room_of p among + 1) + room) * (load_of p among + 1) + rest → IsSmallLeastCell (HasCompletion p near among at room rest) cell → IsCompletionTableSoFar p near among cells → IsCompletionTableSoFar p near among (cells ++ cell ∷ [])
more_completions p near among cells cell at room rest room_within rest_within next least so_far =
    let rests = load_of p among + 1 in
    let rooms = room_of p among + 1 in
    let k = length cells in
    let at_is = is_at rooms rests k at room rest room_within rest_within next in
    let here = moved p near among at (k / rests / rooms) room (k / rests % rooms) rest (k % rests) cell (sym at_is.0) (sym at_is.1) (sym at_is.2) least in
    record { each = each_push (λ n cost. IsSmallLeastCell (HasCompletion p near among (n / rests / rooms) (n / rests % rooms) (n % rests)) cost) cells cell so_far.each here }

pub no_completions : (p : Problem) (near : ℕ → List ℕ) (among : List ℕ) → IsCompletionTableSoFar p near among []
no_completions p near among = record { each = λ k inside. absurd (omega (arith, inside)) }

one_row : (x r rests rest : ℕ) → (x + (r + 1)) * rests + rest ≡ (x + r) * rests + rest + rests
one_row x r rests rest = omega arith

-- the cell of less room stands as many cells before as there are rests
pub row_less : (at rooms room rests rest : ℕ) → 0 < room → (at * rooms + room) * rests + rest ≡ (at * rooms + (room - 1)) * rests + rest + rests
row_less at rooms room rests rest some =
    let is : room ≡ room - 1 + 1 = omega (arith, some) in
    ap (λ n. (at * rooms + n) * rests + rest) is ∙ one_row (at * rooms) (room - 1) rests rest

pub home_within : (places rooms rests at room rest : ℕ) → at < places → room < rooms → rest < rests → (at * rooms + room) * rests + rest < places * rooms * rests
home_within places rooms rests at room rest place_within room_within rest_within =
    let row : at * rooms + room < rooms * places = mul-add-lt at rooms room places place_within room_within in
    let index = mul-add-lt (at * rooms + room) rests rest (rooms * places) row rest_within in
    omega (arith, index)

pub cell_some : (p : Problem) (near : ℕ → List ℕ) (among : List ℕ) (at load rest room cell : ℕ) → at ≢ 0 → load ≤ p.capacity → rest ≤ load_of p among → room ≡ min (p.capacity - load) (room_of p among) → IsSmallLeastCell (HasCompletion p near among at room rest) cell → cell < small_mark → IsLeastCell (HasRelaxed p near among at load rest) cell
cell_some p near among at load rest room cell out light within is least small = record {
  met = λ _. home_is_relaxed p near among at load rest room cell out light (omega (arith, is)) (of_completion p near among at room rest cell (least.met small));
  least = λ cost has. least.least cost (arc_of p near among at room rest cost (relaxed_is_home p near among at load rest room cost out (omega (arith, is, within)) has));
}

pub cell_none : (p : Problem) (near : ℕ → List ℕ) (among : List ℕ) (at load rest room cell : ℕ) → at ≢ 0 → load ≤ p.capacity → rest ≤ load_of p among → room ≡ min (p.capacity - load) (room_of p among) → IsSmallLeastCell (HasCompletion p near among at room rest) cell → small_mark ≤ cell → IsLeastCell (HasRelaxed p near among at load rest) mark
cell_none p near among at load rest room cell out light within is least large = record {
  met = λ small. absurd (omega (arith, small));
  least = λ cost has. absurd (least.none large cost (arc_of p near among at room rest cost (relaxed_is_home p near among at load rest room cost out (omega (arith, is, within)) has)));
}

-- the index of a look-up
pub record IsLookUp (p : Problem) (among cells : List ℕ) (at left rest k : ℕ) : Type 0 where
  pub is : k ≡ (at * (room_of p among + 1) + left) * (load_of p among + 1) + rest
  pub within : k < length cells
  pub few : k < 64000000

pub look_up : (p : Problem) (near : ℕ → List ℕ) (among cells tours : List ℕ) (place room left at rest : ℕ) → IsCompletionTable p near among cells → AreTours p near among tours → room ≡ room_of p among → left ≤ room → at < place_count p → place ≡ at → rest ≤ load_of p among → IsLookUp p among cells at left rest ((place * (room + 1) + left) * length tours + rest)
look_up p near among cells tours place room left at rest are have room_is fits inside place_is within =
    let rooms : room + 1 ≡ room_of p among + 1 = omega (arith, room_is) in
    let k = (place * (room + 1) + left) * length tours + rest in
    let row : place * (room + 1) + left ≡ at * (room_of p among + 1) + left = cc (place_is, rooms) in
    let is : k ≡ (at * (room_of p among + 1) + left) * (load_of p among + 1) + rest = cc (row, have.all) in
    let bound = home_within (place_count p) (room_of p among + 1) (load_of p among + 1) at left rest inside (omega (arith, fits, rooms)) (omega (arith, within)) in
    let inside_all : k < length cells = omega (arith, is, bound, are.all) in
    record { is = is; within = inside_all; few = omega (arith, inside_all, are.few) }

-- the cell of less room, as it is read
pub less_cell : (p : Problem) (near : ℕ → List ℕ) (among cells tours : List ℕ) (at room rest k less read : ℕ) → IsCompletionTableSoFar p near among cells → AreTours p near among tours → length cells ≡ (at * (room_of p among + 1) + room) * (load_of p among + 1) + rest → 0 < room → room < room_of p among + 1 → rest < load_of p among + 1 → k ≡ length cells - length tours → less ≡ read → read ≡ get_or cells k read → IsSmallLeastCell (HasCompletion p near among at (room - 1) rest) less
less_cell p near among cells tours at room rest k less read so_far have next some room_within rest_within is less_is read_is =
    let row = row_less at (room_of p among + 1) room (load_of p among + 1) rest some in
    let k_is : k ≡ (at * (room_of p among + 1) + (room - 1)) * (load_of p among + 1) + rest = omega (arith, row, next, is, have.all) in
    let inside : k < length cells = omega (arith, row, next, k_is) in
    let here : less ≡ get_or cells k 0 = less_is ∙ read_is ∙ get_or_default cells k read 0 inside in
    subst (IsSmallLeastCell (HasCompletion p near among at (room - 1) rest)) (sym here) (completion_cell p near among cells k at (room - 1) rest (omega (arith, room_within)) rest_within k_is inside so_far)
