use Rattle.std.proofs.Common.{◌-◌, arith}
use Rattle.vrp_labels.proofs.BandLookUp.{band_mono}
use Rattle.vrp_labels.proofs.lookup.top_band.Goals as goal

pub returns-clause-small : goal.returns-clause-small
returns-clause-small c = omega (arith, c.requires.shift.covers, band_mono c.args.shift (c.capacity.result - c.args.forward.now.load) c.args.graph.now.capacity (omega (arith, c.capacity.ensures.value)))
