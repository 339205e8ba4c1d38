use Rattle.std.proofs.Common.{◌≡◌, ap, length, sym, ◌∙◌}
use Rattle.vrp_model.specs.declared.limits.TheConstants.{NO_COST}
use Rattle.vrp_sharing.proofs.Newcomers.{length-newcomers, newcomers_are_callers, written_back}
use Rattle.test_solver.proofs.register.register.closed_by_many.Goals as goal

pub offer_in_threads-requires-clause-callers : goal.offer_in_threads-requires-clause-callers
offer_in_threads-requires-clause-callers g c κs within = rw (c.as_mut_slice.ensures.value, c.in_ok-register.ensures.callers) (newcomers_are_callers c.in_ok-register.register NO_COST c.args.count)

pub close-requires : goal.close-requires
close-requires g c =
    let made = c.in_ok-register.callers in
    let register = c.in_ok-register.register in
    let long : length made.items ≡ c.args.count = ap length c.in_ok-register.ensures.callers ∙ length-newcomers register.table NO_COST c.args.count in
    let same : length c.offer_in_threads.new.callers ≡ length made.items = c.offer_in_threads.auto.callers ∙ ap length c.as_mut_slice.ensures.value in
    let whole : made.len ≡ length made.items = sym c.as_mut_slice.ensures.len ∙ ap length c.as_mut_slice.ensures.value in
    written_back register made.len made.items c.offer_in_threads.new.callers (whole ∙ long ∙ sym c.in_ok-register.ensures.all) (same ∙ sym whole) c.offer_in_threads.ensures
