use Rattle.std.proofs.Common.{◌≡◌, ◌∙◌, ℕ, ◌-◌, [], ◌++◌, List, append-nil, get_or, reverse, ap, sym, arith}
use Rattle.std.proofs.lemmas.List.{get_or_default}
use Rattle.vrp_routes.specs.Sequences.{sequences_by}
use Rattle.vrp_routes.specs.declared.sequences.Step.{Step}
use Rattle.vrp_routes.proofs.SequenceSteps.{no_stops_first, parent_within, read_back, read_more}
use Rattle.vrp_routes.proofs.sequences.stops_by.Goals as goal

pub loop-number-init : goal.loop-number-init
loop-number-init c = record {
  within = c.requires.number;
  is = sym (ap (λ (xs : List ℕ). get_or (sequences_by c.args.steps.now) c.args.number [] ++ reverse xs) c.new-stops.ensures.items ∙ append-nil _);
}

pub loop-number-preserved : goal.loop-number-preserved
loop-number-preserved c =
    let steps = c.args.steps.now in
    let n = c.loop-number.number in
    let all = sequences_by steps in
    let none : Step = record { parent = 0; last = 0 } in
    let step = get_or steps (n - 1) none in
    let some = c.loop-number-test.true in
    let within = c.loop-number.invariant.within in
    let read : step ≡ get_or steps (n - 1) step = get_or_default steps (n - 1) none step (omega (arith, some, within)) in
    record {
      within = omega (arith, within, parent_within steps n step c.requires.steps some within read);
      is = read_more (get_or all c.args.number []) (get_or all n []) (get_or all step.parent []) c.loop-number.stops.items c.push.new.self.items step.last c.loop-number.invariant.is
          (read_back steps n step c.requires.steps some within read) c.in_ok-push.ensures.items;
    }

pub returns : goal.returns
returns c =
    let all = sequences_by c.args.steps.now in
    let end : c.loop-number.number ≡ 0 = omega (arith, c.loop-number-test.false) in
    let none : get_or all c.loop-number.number [] ≡ [] = ap (λ n. get_or all n []) end ∙ no_stops_first c.args.steps.now in
    c.reverse.ensures.items ∙ sym (c.loop-number.invariant.is ∙ ap (λ (xs : List ℕ). xs ++ reverse c.loop-number.stops.items) none)
