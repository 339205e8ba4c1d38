-- What becomes of sequences with one more step, and how one is read back through its parents.
use Rattle.std.proofs.Common.{◌≡◌, ℕ, zero, suc, ◌+◌, ◌-◌, ◌<◌, ◌≤◌, inl, inr, List, [], ◌∷◌, ◌++◌, drop, length, get_or, reverse, refl, sym, ap, subst, ◌∙◌, append_assoc, arith}
use Rattle.std.proofs.lemmas.Bool.{cases_lt}
use Rattle.std.proofs.lemmas.List.{get_or-drop, get_or_append_left, get_or_push, length-drop, length_push, reverse-append}
use Rattle.vrp_routes.specs.Level.{stops_of}
use Rattle.vrp_routes.specs.Sequences.{GoOn, grown_by, sequences_by}
use Rattle.vrp_routes.specs.declared.label.Label.{Label}
use Rattle.vrp_routes.specs.declared.sequences.Step.{Step}

-- the sequence of a step
abbrev pub step_stops : List (List ℕ) → Step → List ℕ
step_stops before step = get_or before step.parent [] ++ step.last ∷ []

first_kept : (before : List (List ℕ)) (steps : List Step) (j : ℕ) → j < length before → get_or (grown_by before steps) j [] ≡ get_or before j []
first_kept before [] j lt = refl
first_kept before (step ∷ steps) j lt =
    first_kept (before ++ step_stops before step ∷ []) steps j (omega (arith, lt, length_push before (step_stops before step)))
    ∙ get_or_append_left before (step_stops before step ∷ []) [] j lt

pub length_grown : (before : List (List ℕ)) (steps : List Step) → length (grown_by before steps) ≡ length before + length steps
length_grown before [] = omega arith
length_grown before (step ∷ steps) = omega (arith, length_grown (before ++ step_stops before step ∷ []) steps, length_push before (step_stops before step))

pub grown_with : (before : List (List ℕ)) (steps : List Step) (step : Step) → grown_by before (steps ++ step ∷ []) ≡ grown_by before steps ++ step_stops (grown_by before steps) step ∷ []
grown_with before [] step = refl
grown_with before (first ∷ steps) step = grown_with (before ++ step_stops before first ∷ []) steps step

grown_at : (before : List (List ℕ)) (steps : List Step) (i : ℕ) (d : Step) → i < length steps → (get_or steps i d).parent < length before + i
    → get_or (grown_by before steps) (length before + i) [] ≡ step_stops (grown_by before steps) (get_or steps i d)
grown_at before [] i d lt earlier = absurd (omega (arith, lt))
grown_at before (step ∷ steps) zero d lt earlier =
    let own = step_stops before step in
    let next = before ++ own ∷ [] in
    let here : length before ≡ length before + 0 = omega arith in
    first_kept next steps (length before + 0) (omega (arith, length_push before own))
    ∙ get_or_push before own [] (length before + 0) here
    ∙ ap (λ (xs : List ℕ). xs ++ step.last ∷ []) (sym (first_kept before (step ∷ steps) step.parent (omega (arith, earlier))))
grown_at before (step ∷ steps) (suc i) d lt earlier =
    let own = step_stops before step in
    let next = before ++ own ∷ [] in
    let long = length_push before own in
    let here : length next + i ≡ length before + suc i = omega (arith, long) in
    subst (λ n. get_or (grown_by next steps) n [] ≡ step_stops (grown_by next steps) (get_or steps i d)) here
    (grown_at next steps i d (omega (arith, lt)) (omega (arith, earlier, long)))

pub no_stops_first : (steps : List Step) → get_or (sequences_by steps) 0 [] ≡ []
no_stops_first steps = first_kept ([] ∷ []) steps 0 (omega arith)

-- a sequence that isn't the first goes on from an earlier one
pub read_back : (steps : List Step) (number : ℕ) (step : Step) → GoOn steps → 0 < number → number ≤ length steps → step ≡ get_or steps (number - 1) step
    → get_or (sequences_by steps) number [] ≡ step_stops (sequences_by steps) step
read_back steps zero step on some within is = absurd (omega (arith, some))
read_back steps (suc i) step on some within is =
    let before : suc i - 1 ≡ i = omega arith in
    let same : get_or steps i step ≡ step = ap (λ n. get_or steps n step) (sym before) ∙ sym is in
    let here : 1 + i ≡ suc i = omega arith in
    ap (λ n. get_or (sequences_by steps) n []) (sym here)
    ∙ grown_at ([] ∷ []) steps i step (omega (arith, within)) (omega (arith, on i step (omega (arith, within))))
    ∙ ap (step_stops (sequences_by steps)) same

pub parent_within : (steps : List Step) (number : ℕ) (step : Step) → GoOn steps → 0 < number → number ≤ length steps → step ≡ get_or steps (number - 1) step → step.parent ≤ number - 1
parent_within steps number step on some within is = subst (λ (t : Step). t.parent ≤ number - 1) (sym is) (on (number - 1) step (omega (arith, some, within)))

-- what is left of a sequence before the stops that were read, and one stop more
pub read_more : (all prefix before stops more : List ℕ) (last : ℕ) → all ≡ prefix ++ reverse stops → prefix ≡ before ++ last ∷ [] → more ≡ stops ++ last ∷ [] → all ≡ before ++ reverse more
read_more all prefix before stops more last is prefix_is longer =
    is ∙ ap (λ (xs : List ℕ). xs ++ reverse stops) prefix_is ∙ append_assoc before (last ∷ []) (reverse stops)
    ∙ ap (λ (xs : List ℕ). before ++ xs) (sym (ap reverse longer ∙ reverse-append stops (last ∷ [])))

pub go_on_with : (steps : List Step) (step : Step) → GoOn steps → step.parent ≤ length steps → GoOn (steps ++ step ∷ [])
go_on_with steps step on earlier i d lt =
    elim (cases_lt i (length steps)) [
      | inl less ↦ subst (λ (t : Step). t.parent ≤ i) (sym (get_or_append_left steps (step ∷ []) d i less)) (on i d less)
      | inr over ↦
          let here : length steps ≡ i = omega (arith, over, lt, length_push steps step) in
          subst (λ (t : Step). t.parent ≤ i) (sym (get_or_push steps step d i here)) (omega (arith, earlier, here))
    ]

-- the sequence of a label of the level that begins at this number
pub level_step : {X : Type 0} (old now : List (List ℕ)) (more : List (List ℕ)) (start : ℕ) (label : Label X) → now ≡ old ++ more → label.parent < length (drop start old)
    → get_or now (start + label.parent) [] ++ label.last ∷ [] ≡ stops_of (drop start old) label
level_step {X} old now more start label is within =
    let inside : start + label.parent < length old = omega (arith, within, length-drop start old) in
    ap (λ (xs : List ℕ). xs ++ label.last ∷ []) (ap (λ (xs : List (List ℕ)). get_or xs (start + label.parent) []) is ∙ get_or_append_left old more [] (start + label.parent) inside ∙ sym (get_or-drop start old label.parent []))
