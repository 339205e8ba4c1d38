use Rattle.std.proofs.Common.{◌+◌, sym, subst, refl, arith}
use Rattle.std.proofs.lemmas.List.{get_or_read}
use Rattle.vrp_routes.specs.declared.label.Label.{Label}
use Rattle.vrp_routes.proofs.MergeSteps.{MergesSome, merges_all, merges_left, merges_none, merges_right}
use Rattle.vrp_routes.proofs.merge.merged.Goals as goal
use Rattle.vrp_routes.proofs.merge.merged.Goals.{then-takes_left+in_ok-push, else-takes_left+in_ok-push-2}

pub loop-at-init : goal.loop-at-init
loop-at-init g c =
    let left = c.args.left.now in
    let right = c.args.right.now in
    record {
      count = refl;
      left = omega arith;
      right = omega arith;
      some = λ (blank : Label g.row.X.Denot). subst (MergesSome blank left right 0 0) (sym c.in_ok-merged.ensures.items) (merges_none blank left right);
    }

pub loop-at-preserved : goal.loop-at-preserved
loop-at-preserved g c =
    let left = c.args.left.now in
    let right = c.args.right.now in
    let i = c.loop-at.i in
    let j = c.loop-at.j in
    let old = c.loop-at.merged.items in
    let known = c.loop-at.invariant in
    elim c.if-takes_left.branch [
      | then-takes_left+in_ok-push w ↦
          let (lt, first) = c.takes_left.ensures.yes w.if-takes_left.true in
          let new = w.push.new.self.items in
          let some = λ (blank : Label g.row.X.Denot). merges_left blank left right i j old new w.index-left-i.result (known.some blank) (get_or_read left i w.index-left-i.result lt w.index-left-i.is blank) lt (λ within. first within blank blank) w.in_ok-push.ensures.items in
          record {
            count = omega (arith, w.i-is, w.j-is, known.count);
            left = omega (arith, w.i-is, lt);
            right = omega (arith, w.j-is, known.right);
            some = λ (blank : Label g.row.X.Denot). subst (λ v. MergesSome blank left right c.if-takes_left.i c.if-takes_left.j v.items) (sym w.merged-is)
                (subst (λ n. MergesSome blank left right n c.if-takes_left.j new) (sym w.i-is) (subst (λ n. MergesSome blank left right (i + 1) n new) (sym w.j-is) (some blank)));
          }
      | else-takes_left+in_ok-push-2 w ↦
          let (lt, not_first) = c.takes_left.ensures.no w.if-takes_left.false in
          let new = w.push-else-takes_left.new.self.items in
          let some = λ (blank : Label g.row.X.Denot). merges_right blank left right i j old new w.index-right-j.result (known.some blank) (get_or_read right j w.index-right-j.result lt w.index-right-j.is blank) lt (λ within. not_first within blank blank) w.in_ok-push-2.ensures.items in
          record {
            count = omega (arith, w.i-is, w.j-is, known.count);
            left = omega (arith, w.i-is, known.left);
            right = omega (arith, w.j-is, lt);
            some = λ (blank : Label g.row.X.Denot). subst (λ v. MergesSome blank left right c.if-takes_left.i c.if-takes_left.j v.items) (sym w.merged-is)
                (subst (λ n. MergesSome blank left right n c.if-takes_left.j new) (sym w.i-is) (subst (λ n. MergesSome blank left right i n new) (sym w.j-is) (some blank)));
          }
    ]

pub returns : goal.returns
returns g c =
    let known = c.loop-at.invariant in
    merges_all c.args.left.now c.args.right.now c.loop-at.i c.loop-at.j c.loop-at.merged.items known.some
    (omega (arith, known.count, known.left, known.right, c.loop-at-test.false)) (omega (arith, known.count, known.left, known.right, c.loop-at-test.false))
