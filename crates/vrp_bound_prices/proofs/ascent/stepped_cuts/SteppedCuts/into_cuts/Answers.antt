use Rattle.std.proofs.Common.{[], ◌∷◌, ◌++◌, arith}
use Rattle.std.proofs.lemmas.List.Elements.{All-nil, All-push, All-same}
use Rattle.vrp_bound_prices.specs.CapacityCut.{IsCut}
use Rattle.vrp_bound_prices.proofs.ascent.stepped_cuts.SteppedCuts.into_cuts.Goals as goal

pub loop-cut-init : goal.loop-cut-init
loop-cut-init c = record {
  cuts = All-same (IsCut c.args.instance.now) c.new-cuts.result.items [] c.new-cuts.ensures.items (All-nil (IsCut c.args.instance.now));
  few = omega (arith, c.new-cuts.ensures.len);
}

pub loop-cut-preserved-then-len-lt-MAX_CUTS : goal.loop-cut-preserved-then-len-lt-MAX_CUTS
loop-cut-preserved-then-len-lt-MAX_CUTS c = record {
  cuts = All-same (IsCut c.args.instance.now) c.push.new.self.items (c.loop-cut.cuts.items ++ c.new.result ∷ []) c.in_ok-push.ensures.items (All-push (IsCut c.args.instance.now) c.loop-cut.cuts.items c.new.result c.loop-cut.invariant.cuts c.new.ensures.cut);
  few = omega (arith, c.in_ok-push.ensures.len, c.if-len-lt-MAX_CUTS.true, c.len-then-len-places.ensures);
}

pub returns-clause-cuts : goal.returns-clause-cuts
returns-clause-cuts c = c.loop-cut.invariant.cuts

pub returns-clause-few : goal.returns-clause-few
returns-clause-few c = c.loop-cut.invariant.few
