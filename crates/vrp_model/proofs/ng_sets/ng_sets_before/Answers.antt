use Rattle.std.proofs.Common.{arith}
use Rattle.std.proofs.lemmas.Grind.{common_steps}
use Rattle.std.proofs.lemmas.Int.{ints}
use Rattle.vrp_model.specs.Near.{near_in}
use Rattle.vrp_model.proofs.PlacePairs.{before_more, pair_of}
use Rattle.vrp_model.proofs.ng_sets.ng_sets_before.Goals as goal

pub near_of-near_at-requires : goal.near_of-near_at-requires
near_of-near_at-requires c =
    let pair = pair_of c.args.places c.args.masks c.loop-index.index (omega arith) c.loop-index-test.true in
    record { few_places = c.requires.few_places; few = c.requires.few; listed = c.requires.listed; place = pair.at }

pub near_of-near_stop-requires : goal.near_of-near_stop-requires
near_of-near_stop-requires c =
    let pair = pair_of c.args.places c.args.masks c.loop-index.index (omega arith) c.loop-index-test.true in
    record { few_places = c.requires.few_places; few = c.requires.few; listed = c.requires.listed; place = pair.stop }

pub loop-index-preserved : goal.loop-index-preserved
loop-index-preserved c =
    let near = near_in (record { places = c.args.places; size = c.args.size; listed = c.args.near.now }) in
    record {
      len = omega (arith, c.push_reserved.ensures.len, c.loop-index.invariant.len);
      capacity = omega (arith, c.push_reserved.ensures.capacity, c.loop-index.invariant.capacity);
      known = before_more near c.args.masks c.args.places c.loop-index.before.items c.push_reserved.new.self.items c.loop-index.index c.ng_set_from-ng_set.result
          c.push_reserved.ensures.items c.loop-index.invariant.len
          (rw (← c.near_of-near_at.ensures.value, ← c.near_of-near_stop.ensures.value) c.ng_set_from-ng_set.ensures)
          c.loop-index.invariant.known;
    }

pub overflow_cast-at : goal.overflow_cast-at
overflow_cast-at c = grind (ints, arith, common_steps)
