use Rattle.std.proofs.Common.{[], sym, subst}
use Rattle.vrp_labels.specs.Completion.{IsForward}
use Rattle.vrp_labels.specs.Label.{IsLabelOf}
use Rattle.vrp_labels.proofs.ClosingSteps.{root_is_label}
use Rattle.vrp_labels.proofs.Joins.{root_forward}
use Rattle.vrp_labels.proofs.graph.RouteGraph.root.Goals as goal

pub returns-clause-label : goal.returns-clause-label
returns-clause-label c = subst (IsLabelOf c.args.self.now) (sym c.root.ensures) (root_is_label c.args.self.now c.places-places.ensures.known)

pub returns-clause-forward : goal.returns-clause-forward
returns-clause-forward c = subst (IsForward c.args.self.now []) (sym c.root.ensures) (root_forward c.args.self.now)
