use Rattle.std.proofs.Common.{◌∙◌, ◌+◌, ◌<◌, ap, sym, subst, arith}
use Rattle.vrp_model.specs.Problem.{IsSymmetric, Problem, place_count, weight_of}
use Rattle.vrp_routes.specs.Setting.{setting_of}
use Rattle.vrp_routes.proofs.Labels.{backward, closed_cost, label_place, label_small, told_label}
use Rattle.vrp_routes.proofs.setting.Setting.close.Goals as goal

pub returns-then-symmetric-clause-none : goal.returns-then-symmetric-clause-none
returns-then-symmetric-clause-none g c =
    let s = setting_of g.T.CompletionTest c.args.self.now.test.now in
    backward s c.args.label.now c.if-label.true (subst IsSymmetric c.instance-problem.ensures (c.symmetric.ensures.0 c.if-symmetric.true))

pub may_close-requires : goal.may_close-requires
may_close-requires g c =
    let s = setting_of g.T.CompletionTest c.args.self.now.test.now in
    let (stops, is, some) = c.requires.label in
    (stops, told_label s stops c.args.label.now is, some, is.counted)

pub returns-then-not-may_close-clause-none : goal.returns-then-not-may_close-clause-none
returns-then-not-may_close-clause-none g c = λ stops is useful.
    let s = setting_of g.T.CompletionTest c.args.self.now.test.now in
    c.may_close.ensures c.if-not-may_close.true stops (told_label s stops c.args.label.now is) is.counted useful

pub weight-requires-clause-from_within : goal.weight-requires-clause-from_within
weight-requires-clause-from_within g c =
    let s = setting_of g.T.CompletionTest c.args.self.now.test.now in
    let (stops, is, some) = c.requires.label in
    subst (λ (p : Problem). c.args.label.now.last < place_count p) (sym c.instance-problem.ensures) (label_place s c.args.label.now c.args.self.now.instance (stops, is))

pub overflow_add-cost : goal.overflow_add-cost
overflow_add-cost g c =
    let s = setting_of g.T.CompletionTest c.args.self.now.test.now in
    let (stops, is, some) = c.requires.label in
    omega (arith, label_small s c.args.label.now c.args.self.now.instance (stops, is), c.weight.ensures.small)

pub returns-clause-cost : goal.returns-clause-cost
returns-clause-cost g c = λ stops is.
    let s = setting_of g.T.CompletionTest c.args.self.now.test.now in
    let label = c.args.label.now in
    closed_cost s stops label (label.cost + c.weight.result) is
    (ap (λ n. label.cost + n) (c.weight.ensures.value ∙ ap (λ (p : Problem). weight_of p label.last 0) c.instance-problem.ensures))
