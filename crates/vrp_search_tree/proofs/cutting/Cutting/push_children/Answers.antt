use Rattle.std.proofs.Common.{◌≡◌, ◌+◌, ◌∷◌, [], ◌++◌, subst, sym, arith}
use Rattle.vrp_search_tree.proofs.ChildrenListed.{AddedBelow, added_all, added_below_few, added_child, added_not}
use Rattle.vrp_search_tree.proofs.PartialViews.{child_inside, child_outside}
use Rattle.vrp_search_tree.proofs.cutting.Cutting.push_children.Goals as goal
use Rattle.vrp_search_tree.proofs.cutting.Cutting.push_children.Goals.{then-child+in_ok-push_child, else-child}

pub push_child-requires : goal.push_child-requires
push_child-requires c =
    let few = added_below_few c.args.instance.now c.args.prefix.now c.loop-symbol.symbol c.args.self.now c.loop-symbol.self c.loop-symbol.invariant in
    omega (arith, few, c.requires.room, c.loop-symbol-test.true, c.customers-symbol-end.ensures.few)

pub loop-symbol-preserved : goal.loop-symbol-preserved
loop-symbol-preserved c =
    elim c.if-child.branch [
      | then-child+in_ok-push_child w ↦
          let is_child = child_inside c.args.instance.now c.args.prefix.now c.loop-symbol.symbol c.in_ok-partial.partial (sym c.in_ok-partial.ensures) (c.child.ensures.0 w.if-child.true) in
          let is : c.if-child.self ≡ c.loop-symbol.self ++ (c.args.prefix.now ++ c.loop-symbol.symbol ∷ []) ∷ [] = cc (w.self-is, w.in_ok-push_child.ensures) in
          subst (AddedBelow c.args.instance.now c.args.prefix.now (c.loop-symbol.symbol + 1) c.args.self.now) (sym is)
          (added_child c.args.instance.now c.args.prefix.now c.loop-symbol.symbol c.args.self.now c.loop-symbol.self c.loop-symbol.invariant is_child)
      | else-child w ↦
          subst (AddedBelow c.args.instance.now c.args.prefix.now (c.loop-symbol.symbol + 1) c.args.self.now) (sym w.self-is)
          (added_not c.args.instance.now c.args.prefix.now c.loop-symbol.symbol c.args.self.now c.loop-symbol.self c.loop-symbol.invariant
          (λ is_child. absurd (let yes = c.child.ensures.1 (child_outside c.args.instance.now c.args.prefix.now c.loop-symbol.symbol c.in_ok-partial.partial (sym c.in_ok-partial.ensures) is_child) in cc (yes, w.if-child.false))))
    ]

pub returns-clause-children : goal.returns-clause-children
returns-clause-children c =
    added_all c.args.instance.now c.args.prefix.now c.loop-symbol.symbol c.args.self.now c.loop-symbol.self c.customers-symbol-end.ensures.problem
    (omega (arith, c.customers-symbol-end.ensures.value, c.loop-symbol-test.false, c.loop-symbol.auto.symbol-end))
    c.loop-symbol.invariant
