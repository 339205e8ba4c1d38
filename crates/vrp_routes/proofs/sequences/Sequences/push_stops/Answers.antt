use Rattle.std.proofs.Common.{◌≡◌, ℕ, ◌++◌, [], ◌∷◌, List, length, get_or, refl, ap, sym, ◌∙◌, arith}
use Rattle.std.proofs.lemmas.List.{get_or_append_left, get_or_push, length_push, take_more}
use Rattle.vrp_routes.proofs.sequences.Sequences.push_stops.Goals as goal

pub loop-stop-preserved : goal.loop-stop-preserved
loop-stop-preserved c =
    let old = c.loop-stop.self in
    let stops = c.args.stops.now in
    let last = get_or stops c.loop-stop.stop-index 0 in
    let added = get_or old c.loop-stop.number [] ++ last ∷ [] in
    let now : c.push.new.self ≡ old ++ added ∷ [] = c.in_ok-push.ensures.added in
    let long = ap length now in
    let one = length_push old added in
    let next : c.in-Ok.next ≡ length old = omega arith in
    record {
      longer = omega (arith, long, one, c.loop-stop.invariant.longer);
      kept = λ number lt.
          ap (λ (xs : List (List ℕ)). get_or xs number []) now
          ∙ get_or_append_left old (added ∷ []) [] number (omega (arith, lt, c.loop-stop.invariant.longer))
          ∙ c.loop-stop.invariant.kept number lt;
      within = omega (arith, long, one, next);
      stops =
          ap (λ n. get_or c.push.new.self n []) next
          ∙ ap (λ (xs : List (List ℕ)). get_or xs (length old) []) now
          ∙ get_or_push old added [] (length old) refl
          ∙ ap (λ (xs : List ℕ). xs ++ last ∷ []) c.loop-stop.invariant.stops
          ∙ sym (take_more stops c.loop-stop.stop-index 0 c.loop-stop-test.true);
    }
