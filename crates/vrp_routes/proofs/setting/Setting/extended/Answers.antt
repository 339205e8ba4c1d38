use Rattle.std.proofs.Common.{◌≡◌, ◌∙◌, ◌↔◌, ℕ, ◌+◌, ◌<◌, ◌≤◌, Bool, IsTrue, false, ap, sym, subst, arith}
use Rattle.std.specs.Int.{bit_at}
use Rattle.std.proofs.lemmas.Bool.{false≢true}
use Rattle.vrp_model.specs.Problem.{Problem, demand_of, place_count, weight_of}
use Rattle.vrp_routes.specs.Setting.{setting_of}
use Rattle.vrp_routes.proofs.Labels.{goes_on, label_place, label_small, longer_label, not_too_heavy, not_twice, told_label}
use Rattle.vrp_routes.proofs.setting.Setting.extended.Goals as goal

-- a stop that the test does not find is not in the set
fresh : (taken : Bool) (set stop : ℕ) → IsTrue taken ↔ (bit_at set stop ≡ 1) → taken ≡ false → bit_at set stop ≡ 1 → ⊥
fresh taken set stop tells not is = false≢true (sym not ∙ tells.1 is)

pub contains-requires : goal.contains-requires
contains-requires g c = omega (arith, c.args.self.now.few, c.requires.place)

pub with-requires : goal.with-requires
with-requires g c = omega (arith, c.args.self.now.few, c.requires.place)

pub returns-then-contains-clause-none : goal.returns-then-contains-clause-none
returns-then-contains-clause-none g c = λ stops is useful.
    let s = setting_of g.T.CompletionTest c.args.self.now.test.now in
    not_twice s.problem s.range stops c.args.stop c.args.label.now.set is.set (c.contains.ensures.0 c.if-contains.true) useful

pub returns-then-load-capacity-clause-none : goal.returns-then-load-capacity-clause-none
returns-then-load-capacity-clause-none g c = λ stops is useful.
    let s = setting_of g.T.CompletionTest c.args.self.now.test.now in
    let label = c.args.label.now in
    let heavy : s.problem.capacity < label.load + demand_of s.problem c.args.stop =
    subst (λ (p : Problem). p.capacity < label.load + demand_of p c.args.stop) c.instance-problem.ensures (omega (arith, c.if-load-capacity.true, c.capacity.ensures.value, c.demand.ensures.value)) in
    not_too_heavy s.problem s.range stops c.args.stop label.load is.load heavy useful

pub extended-requires : goal.extended-requires
extended-requires g c =
    let s = setting_of g.T.CompletionTest c.args.self.now.test.now in
    let label = c.args.label.now in
    let d = c.instance-problem.ensures in
    let load : c.demand.result ≡ demand_of s.problem c.args.stop = c.demand.ensures.value ∙ ap (λ (p : Problem). demand_of p c.args.stop) d in
    let light : label.load + c.demand.result ≤ s.problem.capacity = omega (arith, c.if-load-capacity.false, c.capacity.ensures.value, ap (λ (p : Problem). p.capacity) d) in
    let new_stop = fresh c.contains.result label.set c.args.stop c.contains.ensures c.if-contains.false in
    let (stops, is) = c.requires.label in
    (stops, told_label s stops label is, goes_on s stops label c.args.stop (label.load + c.demand.result) is c.requires.some c.requires.place new_stop (ap (λ n. label.load + n) load) light, is.counted)

pub returns-in_default-clause-none : goal.returns-in_default-clause-none
returns-in_default-clause-none g c = λ stops is useful.
    let s = setting_of g.T.CompletionTest c.args.self.now.test.now in
    c.in_default.ensures.none stops (told_label s stops c.args.label.now is) is.counted useful

pub weight-requires-clause-from_within : goal.weight-requires-clause-from_within
weight-requires-clause-from_within g c =
    let s = setting_of g.T.CompletionTest c.args.self.now.test.now in
    subst (λ (p : Problem). c.args.label.now.last < place_count p) (sym c.instance-problem.ensures) (label_place s c.args.label.now c.args.self.now.instance c.requires.label)

pub overflow_add-cost : goal.overflow_add-cost
overflow_add-cost g c =
    let s = setting_of g.T.CompletionTest c.args.self.now.test.now in
    omega (arith, label_small s c.args.label.now c.args.self.now.instance c.requires.label, c.weight.ensures.small)

pub returns-clause-label : goal.returns-clause-label
returns-clause-label g c = λ stops is.
    let s = setting_of g.T.CompletionTest c.args.self.now.test.now in
    let label = c.args.label.now in
    let d = c.instance-problem.ensures in
    let load : c.demand.result ≡ demand_of s.problem c.args.stop = c.demand.ensures.value ∙ ap (λ (p : Problem). demand_of p c.args.stop) d in
    let light : label.load + c.demand.result ≤ s.problem.capacity = omega (arith, c.if-load-capacity.false, c.capacity.ensures.value, ap (λ (p : Problem). p.capacity) d) in
    let new_stop = fresh c.contains.result label.set c.args.stop c.contains.ensures c.if-contains.false in
    let cost : c.weight.result ≡ weight_of s.problem label.last c.args.stop = c.weight.ensures.value ∙ ap (λ (p : Problem). weight_of p label.last c.args.stop) d in
    longer_label s stops label c.args.stop c.args.parent c.first_with.result (label.load + c.demand.result) (label.cost + c.weight.result) c.with.result c.in-Some.resources is (record {
      problem = c.args.self.now.instance;
      some = c.requires.some;
      place = c.requires.place;
      fresh = new_stop;
      load_is = ap (λ n. label.load + n) load;
      light = light;
      cost_is = ap (λ n. label.cost + n) cost;
      set_is = c.with.ensures;
      first_is = c.first_with.ensures;
    }) (c.in-Some.ensures.some stops (told_label s stops label is) is.counted)
