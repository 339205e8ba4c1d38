use Rattle.std.proofs.Common.{ℕ, sym, ap, ◌∙◌, subst, arith}
use Rattle.atomic_table.specs.Table.{Me, Joins}
use Rattle.vrp_sharing.specs.declared.view.View.{View}
use Rattle.vrp_sharing.specs.Inner.Kept.{IsCostState}
use Rattle.vrp_sharing.specs.Inner.Seats.{caller_of, spent, taken_in}
use Rattle.vrp_sharing.proofs.CostSteps.{takes}
use Rattle.vrp_sharing.proofs.cost_word.CostWord.take_in.Goals as goal

pub join_seat-requires : goal.join_seat-requires
join_seat-requires c =
    let shared = c.self.inside.table.shared in
    let seat = c.closing.inside.seat in
    let other = c.caller.inside.seat in
    let v = seat.me.0 in
    let words = c.self.invariant.0 in (
      ap (λ x. x.table) c.closing.view_is ∙ (c.requires.closing ∙ sym (ap (λ x. x.table) c.self.view_is)),
      ap (λ x. x.table) c.caller.view_is ∙ (c.requires.caller ∙ sym (ap (λ x. x.table) c.self.view_is)),
      ap (λ x. x.1) c.caller.invariant,
      omega arith,
      subst (λ (m : View × View). Joins (IsCostState shared.key) seat.id m.0 other.id m.1 (taken_in m.0 m.1) spent)
          (λ i. (sym (ap (λ (m : Me ℕ View). m.0) c.closing.invariant) i, sym (ap (λ (m : Me ℕ View). m.0) c.caller.invariant) i))
          (takes shared.key seat.id other.id v.callers (caller_of other.me.0)),
    )
