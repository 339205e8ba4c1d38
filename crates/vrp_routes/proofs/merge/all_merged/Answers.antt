use Rattle.std.proofs.Common.{◌≡◌, ◌+◌, ◌*◌, length, sym, subst, ap, arith}
use Rattle.vrp_routes.specs.Merge.{AreMerged, AreRanges}
use Rattle.vrp_routes.specs.declared.merge.TheConstants.{PARENTS_AT_ONCE}
use Rattle.vrp_routes.proofs.merge.all_merged.Goals as goal

pub loop-from-preserved : goal.loop-from-preserved
loop-from-preserved g c =
    let parts = c.args.parts.now in
    let from = c.loop-from.from in
    let there = c.deref.ensures.value in
    let count : length c.deref.result.now ≡ c.from.result = omega (arith, ap length there, c.in_ok-ranges.ensures.count, c.in_ok-ranges.ranges.ok, c.from.ensures) in
    record {
      small = omega (arith, c.loop-from-test.true, c.requires.few, c.from.ensures, c.ranges.workers.fits);
      merged = subst (λ n. AreMerged parts (length parts) 0 (from + n * 16384) c.append_ranges.new.merged.items) count
          (c.in_ok-append_ranges.ensures parts from c.loop-from.invariant.merged (subst (AreRanges parts from PARENTS_AT_ONCE) (sym there) c.in_ok-ranges.ensures.each));
    }

pub returns : goal.returns
returns g c = (c.loop-from.from, omega (arith, c.loop-from-test.false), c.loop-from.invariant.merged)
