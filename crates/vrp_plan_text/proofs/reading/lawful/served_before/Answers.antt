use Rattle.std.proofs.Common.{◌≡◌, ◌∙◌, ◌++◌, ◌∷◌, [], ◌+◌, ◌<◌, ℕ, true, List, length, take, ap, subst, arith}
use Rattle.std.proofs.Math.ListN.{set}
use Rattle.std.proofs.lemmas.List.{take_all}
use Rattle.vrp_plan_text.specs.Inner.Served.{AreDifferent, Marks}
use Rattle.vrp_plan_text.proofs.ServedStops.{mark_more, marked_twice, passed_more}
use Rattle.vrp_plan_text.proofs.reading.lawful.served_before.Goals as goal

pub returns-then-served-place : goal.returns-then-served-place
returns-then-served-place c = λ passed marks different.
    let i = c.loop-stop.stop-index in
    let within : c.from-place.result < length c.loop-stop.served = omega (arith, c.requires i 0 c.loop-stop-test.true, c.from-place.ensures, c.loop-stop.auto.served) in
    let so_far = c.loop-stop.invariant passed marks different in
    marked_twice c.loop-stop.served passed c.args.stops.now i c.from-place.result so_far.0 so_far.1 c.loop-stop-test.true c.from-place.ensures within c.if-served-place.true

pub loop-stop-preserved : goal.loop-stop-preserved
loop-stop-preserved c = λ passed marks different.
    let i = c.loop-stop.stop-index in
    let place = c.from-place.result in
    let flags = set c.loop-stop.served place true in
    let before = c.loop-stop.invariant passed marks different in
    let within : place < length c.loop-stop.served = omega (arith, c.requires i 0 c.loop-stop-test.true, c.from-place.ensures, c.loop-stop.auto.served) in
    let more = mark_more c.loop-stop.served (passed ++ take i c.args.stops.now) place before.0 before.1 within c.if-served-place.false in
    let list : (passed ++ take i c.args.stops.now) ++ place ∷ [] ≡ passed ++ take (i + 1) c.args.stops.now = ap (λ (k : ℕ). (passed ++ take i c.args.stops.now) ++ k ∷ []) c.from-place.ensures ∙ passed_more passed c.args.stops.now i c.loop-stop-test.true in
    subst (λ (l : List ℕ). Marks flags l × AreDifferent l) list more

pub returns : goal.returns
returns c = λ passed marks different.
    subst (λ (l : List ℕ). Marks c.loop-stop.served (passed ++ l) × AreDifferent (passed ++ l)) (take_all c.loop-stop.stop-index c.args.stops.now c.loop-stop-test.false) (c.loop-stop.invariant passed marks different)
