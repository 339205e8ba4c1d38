use Rattle.std.proofs.Common.{◌≡◌, ℕ, ◌<◌, List, length, get_or, drop, subst, sym, rules}
use Rattle.std.specs.List.{All}
use Rattle.std.proofs.Math.Seq.{take-append_seam}
use Rattle.vrp_solver.specs.Inner.Workers.{CanWork, HasHelped, HaveHelped, WorkerState}
use Rattle.vrp_solver.proofs.team.helped.Goals as goal

pub for_each_mut-requires-clause-accepts : goal.for_each_mut-requires-clause-accepts
for_each_mut-requires-clause-accepts g c κs within = λ i p lt is.
    (let can = subst (All (CanWork c.args.shared.now)) (sym c.as_mut_slice.ensures.value) c.requires in
    subst (CanWork c.args.shared.now) (sym is) (can i p.now lt))

pub returns : goal.returns
returns g c =
    let s = c.args.shared.now in
    let old = c.args.helpers.items in
    let new = c.for_each_mut.new.s in
    let each : (i : ℕ) (d : WorkerState) → i < length c.as_mut_slice.result.now → HasHelped s (get_or c.as_mut_slice.result.now i d) (get_or new i d) = λ i d lt. (let k = (c.for_each_mut.ensures i d lt).1 in let h = k.call in search rules) in
    let many : length new ≡ length c.as_mut_slice.result.now = search rules in
    let all : c.as_mut_slice.result.now ≡ old = c.as_mut_slice.ensures.value in
    let has : HaveHelped s c.as_mut_slice.result.now new = record { many = many; each = each } in
    let long : c.args.helpers.len ≡ length new = search rules in
    rw (long, take-append_seam new (drop (length new) old)) (subst (λ (first : List WorkerState). HaveHelped s first new) all has)
