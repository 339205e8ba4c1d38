-- What routes cost in folded prices is their reduced cost.
use Rattle.std.proofs.Common.{◌≡◌, ℕ, ◌+◌, ◌*◌, ◌<◌, ◌≤◌, List, [], ◌∷◌, ◌++◌, ◌∙◌, ap, arith, ℤ, pos, ◌+ℤ◌, ◌-ℤ◌, ◌*ℤ◌}
use Rattle.std.specs.List.{All}
use Rattle.std.proofs.lemmas.Int.{ints}
use Rattle.std.proofs.lemmas.List.Elements.{All-head, All-tail}
use Rattle.vrp_model.specs.Problem.{IsProblem, Problem, place_count, weight_of}
use Rattle.vrp_model.specs.Route.{cost_along}
use Rattle.vrp_duals.specs.Duals.{AreDualsOf, DualsOf, entries_along, entry, int_sum_by, price_of, reduced, row_charge, turns_of}
use Rattle.vrp_duals.specs.Folding.{FoldedOf, IsFolded, arc_of, due_at, first_of, folded_cost, home_cost, rows_of}
use Rattle.vrp_duals.specs.declared.rows.EntryRow.{EntryRow}
use Rattle.vrp_duals.proofs.FoldedRows.{charge_more, charge_none}
use Rattle.vrp_duals.proofs.ListSums.{int_sum_same, int_sum_sum, times-add}

-- what the entry rows pay from a place through the stops and back
abbrev paid_home : List EntryRow → ℕ → List ℕ → ℤ
paid_home entries from stops = int_sum_by (λ row. pos (entries_along row.customers from (stops ++ 0 ∷ [])) *ℤ row.price) entries

-- what they pay for one arc
abbrev paid_arc : List EntryRow → ℕ → ℕ → ℤ
paid_arc entries from to = int_sum_by (λ row. pos (entry row.customers from to) *ℤ row.price) entries

paid_more : (entries : List EntryRow) (from j : ℕ) (stops : List ℕ) → paid_home entries from (j ∷ stops) ≡ paid_arc entries from j +ℤ paid_home entries j stops
paid_more entries from j stops =
    int_sum_same (λ row. pos (entries_along row.customers from (j ∷ stops ++ 0 ∷ [])) *ℤ row.price) (λ row. pos (entry row.customers from j) *ℤ row.price +ℤ pos (entries_along row.customers j (stops ++ 0 ∷ [])) *ℤ row.price) entries (λ row. times-add (entry row.customers from j) (entries_along row.customers j (stops ++ 0 ∷ [])) row.price)
    ∙ int_sum_sum (λ row. pos (entry row.customers from j) *ℤ row.price) (λ row. pos (entries_along row.customers j (stops ++ 0 ∷ [])) *ℤ row.price) entries

paid_last : (entries : List EntryRow) (from : ℕ) → paid_home entries from [] ≡ paid_arc entries from 0
paid_last entries from = int_sum_same (λ row. pos (entry row.customers from 0 + 0) *ℤ row.price) (λ row. pos (entry row.customers from 0) *ℤ row.price) entries (λ row. ap (λ n. pos n *ℤ row.price) (none (entry row.customers from 0)))
  where
    none : (n : ℕ) → n + 0 ≡ n
    none n = omega arith

-- what it costs, with all prices, to go from a place through the stops to the depot
abbrev reduced_from : Problem → DualsOf → ℕ → List ℕ → ℤ
reduced_from p d from stops = pos (d.scale * cost_along p from (stops ++ 0 ∷ []) + row_charge turns_of d.rows stops) -ℤ int_sum_by (price_of d) stops -ℤ paid_home d.entries from stops

folded_from : (p : Problem) (d : DualsOf) (f : FoldedOf) → IsFolded p d f → price_of d 0 ≡ pos 0 → 1 ≤ place_count p → (from : ℕ) (stops : List ℕ) → from < place_count p → All (λ stop. stop < place_count p) stops
    → arc_of f from (first_of stops) +ℤ home_cost f stops ≡ reduced_from p d from stops
folded_from p d f is depot some from [] lt inside =
    last (arc_of f from 0) (price_of d 0) (paid_arc d.entries from 0) (paid_home d.entries from []) (d.scale * weight_of p from 0) (d.scale * (weight_of p from 0 + 0)) (row_charge turns_of d.rows []) (is.arcs from 0 lt (omega (arith, some))) depot (paid_last d.entries from) (nothing d.scale (weight_of p from 0)) (charge_none d.rows)
  where
    nothing : (s a : ℕ) → s * (a + 0) ≡ s * a
    nothing s a = omega arith

    last : (a y v vv : ℤ) (w ww n : ℕ) → a ≡ pos w -ℤ y -ℤ v → y ≡ pos 0 → vv ≡ v → ww ≡ w → n ≡ 0 → a +ℤ pos 0 ≡ pos (ww + n) -ℤ pos 0 -ℤ vv
    last a y v vv w ww n e none g h free = omega (arith, ints)
folded_from p d f is depot some from (j ∷ stops) lt inside =
    let place = All-head (λ stop. stop < place_count p) j stops inside in
    let rest = folded_from p d f is depot some j stops place (All-tail (λ stop. stop < place_count p) j stops inside) in
    one (arc_of f from j) (home_cost f stops) (arc_of f j (first_of stops)) (due_at f j (rows_of f stops)) (price_of d j) (paid_arc d.entries from j) (int_sum_by (price_of d) stops) (paid_home d.entries j stops) (paid_home d.entries from (j ∷ stops))
    (d.scale * weight_of p from j) (d.scale * cost_along p j (stops ++ 0 ∷ [])) (d.scale * (weight_of p from j + cost_along p j (stops ++ 0 ∷ []))) (row_charge turns_of d.rows stops) (row_charge turns_of d.rows (j ∷ stops))
    (is.arcs from j lt place) rest (paid_more d.entries from j stops) (charge_more p d f is j stops inside) (spread d.scale (weight_of p from j) (cost_along p j (stops ++ 0 ∷ [])))
  where
    spread : (s a b : ℕ) → s * (a + b) ≡ s * a + s * b
    spread s a b = omega arith

    one : (a h b : ℤ) (d : ℕ) (y v ys vs vv : ℤ) (w ws ww n nn : ℕ) → a ≡ pos w -ℤ y -ℤ v → b +ℤ h ≡ pos (ws + n) -ℤ ys -ℤ vs → vv ≡ v +ℤ vs → nn ≡ n + d → ww ≡ w + ws → a +ℤ (h +ℤ b +ℤ pos d) ≡ pos (ww + nn) -ℤ (y +ℤ ys) -ℤ vv
    one a h b d y v ys vs vv w ws ww n nn e f i k l = omega (arith, ints)

pub folded_route : (p : Problem) (d : DualsOf) (f : FoldedOf) (route : List ℕ) → IsProblem p → AreDualsOf p d → IsFolded p d f → All (λ stop. stop < place_count p) route → folded_cost f route ≡ reduced p d route
folded_route p d f route problem duals is inside = folded_from p d f is duals.depot problem.some_places 0 route (omega (arith, problem.some_places)) inside
