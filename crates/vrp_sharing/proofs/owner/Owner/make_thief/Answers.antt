use Rattle.std.proofs.Common.{◌<◌, subst, sym}
use Rattle.crossbeam_deque.specs.Handles.{worker_view}
use Rattle.vrp_sharing.specs.Pile.{DrawerState}
use Rattle.vrp_sharing.proofs.PileSteps.{forks}
use Rattle.vrp_sharing.proofs.owner.Owner.make_thief.Goals as goal

pub another-requires : goal.another-requires
another-requires c = forks _ (worker_view c.self.inside.deque) (subst (λ (s : DrawerState). 1 < s.parts) (sym c.self.view_is) c.requires)
