-- Beginnings of useful routes, as labels see them: read from the last stop.
use Rattle.std.proofs.Common.{◌≡◌, ℕ, ℤ, pos, ◌+ℤ◌, ◌≤ℤ◌, ◌≤◌, ◌^◌, List, [], ◌∷◌, ◌++◌, reverse, refl, sym, ◌∙◌, ap, subst, arith, append_assoc, bit_or, bit_and, inl, inr, false, IsTrue, unsigned_abs, to_z, of_z, w64}
use lib.Signed.{le_z}
use Rattle.std.proofs.lemmas.Bool.{cases_Bool}
use Rattle.std.proofs.lemmas.Int.{ints}
use Rattle.std.proofs.lemmas.List.{reverse-append, reverse-reverse}
use Rattle.vrp_model.specs.CustomerSet.{set_of}
use Rattle.vrp_model.proofs.Sets.{set_with}
use Rattle.vrp_duals.proofs.ArcSteps.{same_z}
use Rattle.vrp_duals.specs.Folding.{arc_of, folded_cost, weigh}
use Rattle.vrp_labels.specs.Completion.{IsForward, MayAdvance}
use Rattle.vrp_labels.specs.Graph.{Follows, GraphOf}
use Rattle.vrp_labels.specs.Label.{IsLabelOf}
use Rattle.vrp_labels.specs.Route.{IsAliveRoute, IsCheap, joined}
use Rattle.vrp_labels.specs.declared.label.Label.{Label}
use Rattle.vrp_labels.proofs.Endings.{head_known, load_more}
use Rattle.vrp_labels.proofs.Joins.{completes, route_completed}
use Rattle.vrp_model.specs.Word.{last_symbol}
use Rattle.vrp_model.proofs.LastRoute.{last_symbol_with}
use Rattle.vrp_routes.specs.Useful.{BeginsUseful, IsUsefulIn}
use Rattle.vrp_priced_routes.specs.LabelTest.{AreLabelled, IsLabelTest, LabelTestOf, label_by}
use Rattle.vrp_priced_routes.specs.declared.label_test.LabelResources.{LabelResources}

-- a beginning that is read from its last stop, and an ending
joined_turned : (xs ending : List ℕ) → joined xs ending ≡ reverse xs ++ ending
joined_turned [] ending = refl
joined_turned (x ∷ xs) ending =
    joined_turned xs (x ∷ ending) ∙ sym (ap (λ (ys : List ℕ). ys ++ ending) (reverse-append (x ∷ []) xs) ∙ append_assoc (reverse xs) (x ∷ []) ending)

joined_whole : (stops more : List ℕ) → joined (reverse stops) more ≡ stops ++ more
joined_whole stops more = joined_turned (reverse stops) more ∙ ap (λ (xs : List ℕ). xs ++ more) (reverse-reverse stops)

turned_with : (stops : List ℕ) (stop : ℕ) → reverse (stops ++ stop ∷ []) ≡ stop ∷ reverse stops
turned_with stops stop = reverse-append stops (stop ∷ [])

-- ---- useful routes are cheap, read from the last stop of a beginning

pub cheap_from : (t : LabelTestOf) (graph : GraphOf) (gap : ℤ) (stops : List ℕ) (stop : ℕ) → IsLabelTest t graph gap → BeginsUseful t.problem t.range (stops ++ stop ∷ [])
    → (more : List ℕ) × IsCheap t.completions.graph t.completions.gap (joined (stop ∷ reverse stops) more)
cheap_from t graph gap stops stop known (more, useful) =
    let whole : (stops ++ stop ∷ []) ++ more ≡ joined (stop ∷ reverse stops) more =
    sym (joined_whole (stops ++ stop ∷ []) more) ∙ ap (λ (xs : List ℕ). joined xs more) (turned_with stops stop) in
    (more, subst (IsCheap t.completions.graph t.completions.gap) whole (known.cheap ((stops ++ stop ∷ []) ++ more) useful))

pub cheap_whole : (t : LabelTestOf) (stops : List ℕ) → ((route : List ℕ) → IsUsefulIn t.problem t.range route → IsCheap t.completions.graph t.completions.gap route) → IsUsefulIn t.problem t.range stops
    → IsCheap t.completions.graph t.completions.gap (joined (reverse stops) [])
cheap_whole t stops cheap useful =
    subst (IsCheap t.completions.graph t.completions.gap) (sym (joined_turned (reverse stops) [] ∙ (append_nil (reverse (reverse stops)) ∙ reverse-reverse stops))) (cheap stops useful)
  where
    append_nil : (xs : List ℕ) → xs ++ [] ≡ xs
    append_nil [] = refl
    append_nil (x ∷ xs) = ap (λ (ys : List ℕ). x ∷ ys) (append_nil xs)

-- ---- one stop more

-- the label of a beginning may be extended by the next stop of a cheap route
pub advances : (g : GraphOf) (forward : Label) (beginning : List ℕ) (stop : ℕ) (more : List ℕ) → IsForward g beginning forward → IsAliveRoute g (joined (stop ∷ beginning) more) → MayAdvance g forward stop
advances g forward beginning stop more begins route =
    let is = completes g beginning (stop ∷ more) forward begins route in
    record {
      some = (head_known g stop more is.is_ending).0;
      place = (head_known g stop more is.is_ending).1;
      fresh = is.apart stop (0, omega arith, refl);
      light = omega (arith, is.light, load_more g stop more);
      alive = is.alive;
    }

-- the label of a beginning with given customers and a given last stop
pub forward_of : (g : GraphOf) (resources : LabelResources) (stops : List ℕ) (set last : ℕ) → set ≡ set_of stops → last ≡ last_symbol stops → AreLabelled g stops resources
    → IsForward g (reverse stops) (label_by resources set last) × IsLabelOf g (label_by resources set last)
forward_of g resources stops set last set_is last_is counted =
    let same : label_by resources (set_of stops) (last_symbol stops) ≡ label_by resources set last = sym (ap (λ n. label_by resources n last) set_is ∙ ap (label_by resources (set_of stops)) last_is) in
    (subst (IsForward g (reverse stops)) same counted.forward, subst (IsLabelOf g) same counted.label)

pub labelled_with : (g : GraphOf) (longer : LabelResources) (label : Label) (stops : List ℕ) (set stop : ℕ) → set ≡ set_of stops → label.visited ≡ bit_or set (2 ^ stop) → label.at ≡ stop
    → ((set last : ℕ) → set ≡ label.visited → last ≡ label.at → label_by longer set last ≡ label) → IsForward g (stop ∷ reverse stops) label → IsLabelOf g label → AreLabelled g (stops ++ stop ∷ []) longer
labelled_with g longer label stops set stop set_is visited at of forward is =
    let same : label_by longer (set_of (stops ++ stop ∷ [])) (last_symbol (stops ++ stop ∷ [])) ≡ label =
    of (set_of (stops ++ stop ∷ [])) (last_symbol (stops ++ stop ∷ [])) (set_with stops stop ∙ (ap (λ n. bit_or n (2 ^ stop)) (sym set_is) ∙ sym visited)) (last_symbol_with stops stop ∙ sym at) in
    record {
      forward = subst (IsForward g (reverse (stops ++ stop ∷ []))) (sym same) (subst (λ (xs : List ℕ). IsForward g xs label) (sym (turned_with stops stop)) forward);
      label = subst (IsLabelOf g) (sym same) is;
    }

-- ---- the end of a route

-- where a whole route is cheap, the arc home is alive and within the gap
pub ends_cheap : (g : GraphOf) (gap : ℤ) (forward : Label) (beginning : List ℕ) → IsForward g beginning forward → IsCheap g gap (joined beginning [])
    → Follows g forward.at 0 × ((forward.cost +ℤ arc_of g.folded forward.at 0) ≤ℤ gap)
ends_cheap g gap forward beginning begins cheap =
    let is = completes g beginning [] forward begins cheap.is_route in
    (is.alive, within forward.cost (arc_of g.folded forward.at 0) (folded_cost g.folded (joined beginning [])) (weigh g.folded.row_prices (bit_and forward.rows 0)) (route_completed g beginning [] forward begins) cheap.cheap)
  where
    within : (c a r : ℤ) (w : ℕ) → r ≡ c +ℤ (a +ℤ pos 0 +ℤ pos w) → r ≤ℤ gap → (c +ℤ a) ≤ℤ gap
    within c a r w is le = omega (arith, ints)

pub shown : (a b : ℤ) → a ≤ℤ b → IsTrue (le_z a b)
shown a b le = elim (cases_Bool (le_z a b)) [ inl holds ↦ holds | inr fails ↦ absurd (above fails) ]
  where
    above : le_z a b ≡ false → ⊥
    above fails = grind (arith, ints, fails, le)

-- the sum of a cost and the price of an arc, as the program adds them
pub sum_is : (cost arc : ℤ) → unsigned_abs cost ≤ 2 ^ 62 → unsigned_abs arc ≤ 2 ^ 50 → to_z w64 (of_z w64 (to_z w64 (of_z w64 cost) +ℤ to_z w64 (of_z w64 arc))) ≡ cost +ℤ arc
sum_is cost arc p q =
    let first = same_z cost (omega (arith, p)) in
    let second = same_z arc (omega (arith, q)) in
    let both = same_z (cost +ℤ arc) (omega (arith, ints, p, q)) in
    rw (first, second, both) refl
