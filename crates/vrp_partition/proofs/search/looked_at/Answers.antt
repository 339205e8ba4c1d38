use Rattle.std.proofs.Common.{rules, ◌≡◌, ◌<◌, ℕ, List, length, get_or, drop, sym, subst}
use Rattle.std.specs.List.{All}
use Rattle.std.proofs.Math.Seq.{take-append_seam}
use Rattle.vrp_partition.specs.Branching.{AreLookedAt, CanLook, IsLookedAt, NodeState}
use Rattle.vrp_partition.proofs.search.looked_at.Goals as goal

pub for_each_mut-requires-clause-accepts : goal.for_each_mut-requires-clause-accepts
for_each_mut-requires-clause-accepts g c κs within = λ i p lt is.
    (let can = subst (All (CanLook c.args.task.now)) (sym c.as_mut_slice.ensures.value) c.requires.can in
    subst (CanLook c.args.task.now) (sym is) (can i p.now lt))

pub returns : goal.returns
returns g c =
    let task = c.args.task.now in
    let old = c.args.nodes.items in
    let new = c.for_each_mut.new.s in
    let each : (i : ℕ) (d : NodeState) → i < length c.as_mut_slice.result.now → IsLookedAt task (get_or c.as_mut_slice.result.now i d) (get_or new i d) = λ i d lt.
    (let k = (c.for_each_mut.ensures i d lt).1 in
    subst (λ (y : NodeState). IsLookedAt task (get_or c.as_mut_slice.result.now i d) y) k.left (subst (λ (x : NodeState). IsLookedAt task x k.after_call.now) k.argument_is k.call)) in
    let many : length new ≡ length c.as_mut_slice.result.now = search rules in
    let all : c.as_mut_slice.result.now ≡ old = c.as_mut_slice.ensures.value in
    let are : AreLookedAt task c.as_mut_slice.result.now new = record { many = many; each = each } in
    let long : c.args.nodes.len ≡ length new = search rules in
    rw (long, take-append_seam new (drop (length new) old)) (subst (λ (first : List NodeState). AreLookedAt task first new) all are)
