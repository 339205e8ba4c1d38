use Rattle.std.proofs.Common.{◌∙◌, sym, subst, reverse}
use Rattle.std.proofs.lemmas.Bool.{false≢true}
use Rattle.vrp_labels.specs.Completion.{IsForward}
use Rattle.vrp_priced_routes.proofs.Beginnings.{cheap_whole, forward_of}
use Rattle.vrp_priced_routes.proofs.label_test.LabelTestCompletionTest.may_close.Goals as goal

pub returns : goal.returns
returns c = λ no stops is counted useful.
    let t = c.args.self.now in
    let both = forward_of t.completions.graph c.args.resources.now stops c.args.set c.args.last is.set_is is.last_is counted in
    let here : IsForward t.completions.graph (reverse stops) c.label-forward.result = subst (IsForward t.completions.graph (reverse stops)) (sym c.label-forward.ensures) both.0 in
    false≢true (sym no ∙ c.may_end.ensures.ends (reverse stops) here (cheap_whole t stops c.may_end.ensures.cheap useful))
