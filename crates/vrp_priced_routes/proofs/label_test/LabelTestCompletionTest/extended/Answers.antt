use Rattle.std.proofs.Common.{◌≡◌, ◌∙◌, ◌^◌, List, [], ◌∷◌, ◌++◌, ℕ, length, length-append, arith, ap, sym, subst, reverse, bit_or}
use Rattle.std.proofs.lemmas.Bool.{false≢true}
use Rattle.std.specs.List.{Contains}
use Rattle.vrp_labels.specs.Completion.{IsForward, MayAdvance}
use Rattle.vrp_labels.specs.Graph.{Follows, GraphOf}
use Rattle.vrp_labels.specs.Label.{IsLabelOf}
use Rattle.vrp_labels.specs.Route.{IsCheap, joined}
use Rattle.vrp_labels.specs.declared.label.Label.{Label}
use Rattle.vrp_model.specs.Problem.{Problem, customers}
use Rattle.vrp_model.proofs.CustomerPlaces.{customer_below, customer_is_some}
use Rattle.vrp_routes.specs.Label.{IsBeginning}
use Rattle.vrp_routes.proofs.Extensions.{at_end}
use Rattle.vrp_priced_routes.specs.LabelTest.{IsLabelTest, LabelTestOf, label_by}
use Rattle.vrp_priced_routes.proofs.Beginnings.{advances, cheap_from, forward_of, labelled_with}
use Rattle.vrp_priced_routes.proofs.label_test.LabelTestCompletionTest.extended.Goals as goal

last_customer : (p : Problem) (stops : List ℕ) (stop : ℕ) → IsBeginning p (stops ++ stop ∷ []) → Contains (customers p) stop
last_customer p stops stop longer = subst (Contains (customers p)) (at_end stops stop 0) (longer.known (length stops) 0 (omega (arith, length-append stops (stop ∷ []))))

pub follows-requires-clause-from : goal.follows-requires-clause-from
follows-requires-clause-from c =
    let (stops, is, longer, counted) = c.requires in
    let t = c.args.self.now in
    let known : IsLabelTest t c.self.inside.graph.now c.self.inside.gap = subst (λ (u : LabelTestOf). IsLabelTest u c.self.inside.graph.now c.self.inside.gap) c.self.view_is c.self.invariant in
    let both = forward_of t.completions.graph c.args.resources.now stops c.args.set c.args.last is.set_is is.last_is counted in
    omega (arith, both.1.place, ap (λ (g : GraphOf). g.folded.places) known.graph_is)

pub follows-requires-clause-to : goal.follows-requires-clause-to
follows-requires-clause-to c =
    let (stops, is, longer, counted) = c.requires in
    let below = customer_below c.args.self.now.problem c.args.stop (last_customer c.args.self.now.problem stops c.args.stop longer) in
    let known : IsLabelTest c.args.self.now c.self.inside.graph.now c.self.inside.gap = subst (λ (t : LabelTestOf). IsLabelTest t c.self.inside.graph.now c.self.inside.gap) c.self.view_is c.self.invariant in
    omega (arith, below, known.places, ap (λ (g : GraphOf). g.folded.places) known.graph_is)

pub returns-then-not-follows-clause-none : goal.returns-then-not-follows-clause-none
returns-then-not-follows-clause-none c = λ stops is counted useful.
    let t = c.args.self.now in
    let known : IsLabelTest t c.self.inside.graph.now c.self.inside.gap = subst (λ (u : LabelTestOf). IsLabelTest u c.self.inside.graph.now c.self.inside.gap) c.self.view_is c.self.invariant in
    let (more, cheap) = cheap_from t c.self.inside.graph.now c.self.inside.gap stops c.args.stop known useful in
    let both = forward_of t.completions.graph c.args.resources.now stops c.args.set c.args.last is.set_is is.last_is counted in
    let may : MayAdvance t.completions.graph (label_by c.args.resources.now c.args.set c.args.last) c.args.stop = advances t.completions.graph (label_by c.args.resources.now c.args.set c.args.last) (reverse stops) c.args.stop more both.0 cheap.is_route in
    let alive : Follows c.self.inside.graph.now c.args.last c.args.stop = subst (λ (g : GraphOf). Follows g c.args.last c.args.stop) (sym known.graph_is) may.alive in
    false≢true (sym c.if-not-follows.true ∙ c.follows.ensures.1 alive)

pub may_advance-requires-clause-some : goal.may_advance-requires-clause-some
may_advance-requires-clause-some c =
    let (stops, is, longer, counted) = c.requires in
    let above = customer_is_some c.args.self.now.problem c.args.stop (last_customer c.args.self.now.problem stops c.args.stop longer) in
    omega (arith, above)

pub may_advance-requires-clause-place : goal.may_advance-requires-clause-place
may_advance-requires-clause-place c =
    let (stops, is, longer, counted) = c.requires in
    let below = customer_below c.args.self.now.problem c.args.stop (last_customer c.args.self.now.problem stops c.args.stop longer) in
    let known : IsLabelTest c.args.self.now c.self.inside.graph.now c.self.inside.gap = subst (λ (t : LabelTestOf). IsLabelTest t c.self.inside.graph.now c.self.inside.gap) c.self.view_is c.self.invariant in
    omega (arith, below, known.places, ap (λ (g : GraphOf). g.folded.places) known.graph_is)

pub returns-then-not-may_advance-clause-none : goal.returns-then-not-may_advance-clause-none
returns-then-not-may_advance-clause-none c = λ stops is counted useful.
    let t = c.args.self.now in
    let known : IsLabelTest t c.self.inside.graph.now c.self.inside.gap = subst (λ (u : LabelTestOf). IsLabelTest u c.self.inside.graph.now c.self.inside.gap) c.self.view_is c.self.invariant in
    let (more, cheap) = cheap_from t c.self.inside.graph.now c.self.inside.gap stops c.args.stop known useful in
    let both = forward_of t.completions.graph c.args.resources.now stops c.args.set c.args.last is.set_is is.last_is counted in
    let may : MayAdvance t.completions.graph (label_by c.args.resources.now c.args.set c.args.last) c.args.stop = advances t.completions.graph (label_by c.args.resources.now c.args.set c.args.last) (reverse stops) c.args.stop more both.0 cheap.is_route in
    let here : MayAdvance c.self.inside.graph.now c.label-forward.result c.args.stop = subst (λ (l : Label). MayAdvance c.self.inside.graph.now l c.args.stop) (sym c.label-forward.ensures) (subst (λ (g : GraphOf). MayAdvance g (label_by c.args.resources.now c.args.set c.args.last) c.args.stop) (sym known.graph_is) may) in
    false≢true (sym c.if-not-may_advance.true ∙ c.may_advance.ensures.1 here)

pub may_continue-requires-clause-place : goal.may_continue-requires-clause-place
may_continue-requires-clause-place c =
    let (stops, is, longer, counted) = c.requires in
    let below = customer_below c.args.self.now.problem c.args.stop (last_customer c.args.self.now.problem stops c.args.stop longer) in
    let known : IsLabelTest c.args.self.now c.self.inside.graph.now c.self.inside.gap = subst (λ (t : LabelTestOf). IsLabelTest t c.self.inside.graph.now c.self.inside.gap) c.self.view_is c.self.invariant in
    omega (arith, below, known.places, ap (λ (u : LabelTestOf). u.completions.graph.folded.places) c.self.view_is)

pub may_continue-requires-clause-label : goal.may_continue-requires-clause-label
may_continue-requires-clause-label c =
    let (stops, is, longer, counted) = c.requires in
    let t = c.args.self.now in
    let both = forward_of t.completions.graph c.args.resources.now stops c.args.set c.args.last is.set_is is.last_is counted in
    subst (λ (u : LabelTestOf). IsLabelOf u.completions.graph c.label-forward.result) (sym c.self.view_is) (subst (IsLabelOf t.completions.graph) (sym c.label-forward.ensures) both.1)

pub returns-then-not-may_continue-clause-none : goal.returns-then-not-may_continue-clause-none
returns-then-not-may_continue-clause-none c = λ stops is counted useful.
    let t = c.args.self.now in
    let known : IsLabelTest t c.self.inside.graph.now c.self.inside.gap = subst (λ (u : LabelTestOf). IsLabelTest u c.self.inside.graph.now c.self.inside.gap) c.self.view_is c.self.invariant in
    let (more, cheap) = cheap_from t c.self.inside.graph.now c.self.inside.gap stops c.args.stop known useful in
    let both = forward_of t.completions.graph c.args.resources.now stops c.args.set c.args.last is.set_is is.last_is counted in
    let here : IsForward t.completions.graph (reverse stops) c.label-forward.result = subst (IsForward t.completions.graph (reverse stops)) (sym c.label-forward.ensures) both.0 in
    false≢true (sym c.if-not-may_continue.true ∙ c.may_continue.ensures.continues (reverse stops) more
    (subst (λ (u : LabelTestOf). IsForward u.completions.graph (reverse stops) c.label-forward.result) (sym c.self.view_is) here)
    (subst (λ (u : LabelTestOf). IsCheap u.completions.graph u.completions.gap (joined (c.args.stop ∷ reverse stops) more)) (sym c.self.view_is) cheap))

pub returns-clause-some : goal.returns-clause-some
returns-clause-some c = λ stops is counted.
    let t = c.args.self.now in
    let known : IsLabelTest t c.self.inside.graph.now c.self.inside.gap = subst (λ (u : LabelTestOf). IsLabelTest u c.self.inside.graph.now c.self.inside.gap) c.self.view_is c.self.invariant in
    let both = forward_of t.completions.graph c.args.resources.now stops c.args.set c.args.last is.set_is is.last_is counted in
    let here : IsForward c.self.inside.graph.now (reverse stops) c.label-forward.result = subst (IsForward c.self.inside.graph.now (reverse stops)) (sym c.label-forward.ensures) (subst (λ (g : GraphOf). IsForward g (reverse stops) (label_by c.args.resources.now c.args.set c.args.last)) (sym known.graph_is) both.0) in
    let longer = c.advanced.result in
    let set : c.label-forward.result.visited ≡ c.args.set = ap (λ (l : Label). l.visited) c.label-forward.ensures in
    labelled_with t.completions.graph c.of.result longer stops c.args.set c.args.stop is.set_is
    (ap (λ (l : Label). l.visited) c.advanced.ensures.value ∙ visited_by c.label-forward.result.visited c.args.set c.args.stop set)
    (ap (λ (l : Label). l.at) c.advanced.ensures.value)
    c.of.ensures
    (subst (λ (g : GraphOf). IsForward g (c.args.stop ∷ reverse stops) longer) known.graph_is (c.advanced.ensures.forward (reverse stops) here))
    (subst (λ (g : GraphOf). IsLabelOf g longer) known.graph_is c.advanced.ensures.label)
  where
    visited_by : (v set stop : ℕ) → v ≡ set → bit_or v (2 ^ stop) ≡ bit_or set (2 ^ stop)
    visited_by v set stop same = ap (λ n. bit_or n (2 ^ stop)) same
