use Rattle.vrp_sharing.proofs.KeptPlans.{offered_next}
use Rattle.vrp_sharing.proofs.book.Book.offer.Goals as goal

pub invariant_of-self-2 : goal.invariant_of-self-2
invariant_of-self-2 c =
    let same = c.in_ok-copy.ensures in
    offered_next c.self.inside.opening c.self.inside.plan c.keep_first.new.plan c.self.inside.entries.items c.push_reserved.new.self.items
    record { caller = c.args.caller; plan = c.in_ok-copy.copy; kept = c.in_ok-kept.kept }
    c.self.invariant.0 c.self.invariant.1
    (rw same c.in_ok-kept.ensures.kept)
    (rw same c.in_ok-kept.ensures.plan)
    (rw (← c.reserve.ensures.items) c.push_reserved.ensures.items)
