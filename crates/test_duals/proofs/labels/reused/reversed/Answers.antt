use Rattle.std.proofs.Common.{◌≡◌, ℤ, subst, rules, to_z, of_z, w64}
use Rattle.std.proofs.lemmas.Int.{ints}
use Rattle.std.proofs.lemmas.Result.{IfOk-at_ok}
use Rattle.vrp_labels.specs.Label.{IsClosed}
use Rattle.vrp_labels.specs.Reversal.{IsReversed}
use Rattle.test_duals.proofs.labels.reused.reversed.Goals as goal

pub returns : goal.returns
returns g c =
    let same : to_z w64 (of_z w64 c.args.gap) ≡ c.args.gap = search (rules, ints) in
    record {
      reversed = c.expect-back.result;
      is = IfOk-at_ok (IsReversed c.args.graph.now) c.expect-back.ensures c.reversed.ensures;
      are_kept = c.closed.ensures.are_kept;
      closed = subst (λ (z : ℤ). IsClosed c.expect-back.result z c.closed.result) same c.closed.ensures.closed;
    }
