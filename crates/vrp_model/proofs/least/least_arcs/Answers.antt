use Rattle.std.proofs.Common.{sym, ◌∙◌, arith}
use Rattle.vrp_model.proofs.LeastArcLemmas.{least_arcs_push}
use Rattle.vrp_model.proofs.least.least_arcs.Goals as goal

pub loop-to-init : goal.loop-to-init
loop-to-init c = record {
  all = c.in_ok-least.ensures.len;
  each = λ to none. absurd (omega (arith, none));
}

pub loop-to-preserved : goal.loop-to-preserved
loop-to-preserved c =
    let least = c.loop-to.least in
    record {
      all = omega (arith, c.in_ok-push.ensures.len);
      each = rw c.in_ok-push.ensures.items (least_arcs_push c.args.weights.now least.items c.args.places c.loop-to.to c.least_arc.result (sym least.ok.0 ∙ c.loop-to.invariant.all) c.loop-to.invariant.each c.least_arc.ensures);
    }

pub returns-clause-each : goal.returns-clause-each
returns-clause-each c = λ to within. c.loop-to.invariant.each to (omega arith)
