use Rattle.std.proofs.Common.{ℕ, min, sym, ap, ◌∙◌, subst, arith}
use mathlib.Core.Option.{none}
use Rattle.atomic_table.specs.Table.{Me, step, Allows}
use Rattle.vrp_sharing.specs.declared.view.View.{View}
use Rattle.vrp_sharing.specs.Inner.Kept.{IsCostState}
use Rattle.vrp_sharing.specs.Inner.Seats.{Offers, caller_of}
use Rattle.vrp_sharing.proofs.CostSteps.{offers}
use Rattle.vrp_sharing.proofs.cost_word.CostWord.offer.Goals as goal

pub fetch_min-requires : goal.fetch_min-requires
fetch_min-requires c =
    let shared = c.self.inside.table.shared in
    let seat = c.seat.inside.seat in
    let slots = shared.table_id.slots in
    let words = c.self.invariant.0 in (
      ap (λ x. x.table) c.seat.view_is ∙ (c.requires ∙ sym (ap (λ x. x.table) c.self.view_is)),
      omega arith,
      subst (λ (m : Me ℕ View). Allows (IsCostState shared.key) slots seat.id m 0 (λ n. min n c.args.cost) (Offers (step slots 0 c.args.cost 0 none) m)) (sym c.seat.invariant) (offers shared.key slots seat.id c.args.cost (caller_of seat.me.0)),
    )
