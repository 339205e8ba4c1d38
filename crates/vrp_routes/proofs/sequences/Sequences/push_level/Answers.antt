use Rattle.std.proofs.Common.{◌∙◌, ℕ, ◌<◌, [], ◌∷◌, ◌++◌, List, append-nil, append_assoc, drop, length, take, ap, sym, subst, arith}
use Rattle.std.proofs.lemmas.List.{length-append, length-drop, map_more, take_all}
use Rattle.vrp_routes.specs.Level.{sequences, stops_of}
use Rattle.vrp_routes.specs.declared.label.Label.{Label}
use Rattle.vrp_routes.proofs.SequenceSteps.{level_step}
use Rattle.vrp_routes.proofs.sequences.Sequences.push_level.Goals as goal

pub loop-label-init : goal.loop-label-init
loop-label-init g c = sym (append-nil c.args.self.now)

pub push-requires : goal.push-requires
push-requires g c =
    let old = c.args.self.now in
    let more = sequences (drop c.args.start old) (take c.loop-label.label-index c.args.labels.now) in
    let label = c.label-item.result in
    let parent : label.parent < length (drop c.args.start old) = subst (λ (l : Label g.row.X.Denot). l.parent < length (drop c.args.start old)) (sym c.label-item.is) (c.requires.parents c.loop-label.label-index label c.loop-label-test.true) in
    let long = ap length c.loop-label.invariant in
    omega (arith, parent, length-drop c.args.start old, long, length-append old more)

pub loop-label-preserved : goal.loop-label-preserved
loop-label-preserved g c =
    let old = c.args.self.now in
    let labels = c.args.labels.now in
    let i = c.loop-label.label-index in
    let before = drop c.args.start old in
    let more = sequences before (take i labels) in
    let label = c.label-item.result in
    let parent : label.parent < length before = subst (λ (l : Label g.row.X.Denot). l.parent < length before) (sym c.label-item.is) (c.requires.parents i label c.loop-label-test.true) in
    c.in_ok-push.ensures.added
    ∙ ap (λ (xs : List ℕ). c.loop-label.self ++ xs ∷ []) (level_step old c.loop-label.self more c.args.start label c.loop-label.invariant parent)
    ∙ ap (λ (xs : List (List ℕ)). xs ++ stops_of before label ∷ []) c.loop-label.invariant
    ∙ append_assoc old more (stops_of before label ∷ [])
    ∙ ap (λ (xs : List (List ℕ)). old ++ xs) (ap (λ (l : Label g.row.X.Denot). more ++ stops_of before l ∷ []) c.label-item.is ∙ sym (map_more (stops_of before) labels i label c.loop-label-test.true))

pub returns : goal.returns
returns g c =
    let old = c.args.self.now in
    c.loop-label.invariant ∙ ap (λ (ls : List (Label g.row.X.Denot)). old ++ sequences (drop c.args.start old) ls) (take_all c.loop-label.label-index c.args.labels.now (omega (arith, c.loop-label-test.false)))
