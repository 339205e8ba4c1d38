use Rattle.std.proofs.Common.{ℕ, sym, ap, ◌∙◌, subst, arith, ◌<◌}
use Rattle.atomic_table.specs.Table.{Me, Splits}
use Rattle.vrp_sharing.specs.declared.view.View.{View}
use Rattle.vrp_sharing.specs.Inner.Kept.{IsCostState}
use Rattle.vrp_sharing.specs.Inner.Seats.{made_left, made_right}
use Rattle.vrp_sharing.proofs.CostSteps.{makes}
use Rattle.vrp_sharing.proofs.cost_word.CostWord.make.Goals as goal

pub split_seat-requires : goal.split_seat-requires
split_seat-requires c =
    let shared = c.self.inside.table.shared in
    let seat = c.maker.inside.seat in
    let v = seat.me.0 in
    let room : v.next < shared.key.1 = rw (ap (λ x. x.next) c.maker.view_is, ap (λ x. x.count) c.self.view_is) c.requires.room in
    let words = c.self.invariant.0 in (
      ap (λ x. x.table) c.maker.view_is ∙ (c.requires.table ∙ sym (ap (λ x. x.table) c.self.view_is)),
      omega arith,
      subst (λ (m : View). Splits (IsCostState shared.key) seat.id m (made_left m) (made_right m)) (sym (ap (λ (m : Me ℕ View). m.0) c.maker.invariant)) (makes shared.key seat.id v.opening v.next room),
    )
