use Rattle.std.proofs.Common.{ℕ, List, sym, ap, ◌∙◌, subst, ◌≡◌, length}
use Rattle.std.specs.List.{sum_by}
use Rattle.std.specs.Slots.{slots_items}
use Rattle.atomic_table.specs.Table.{Me, Final, Seen}
use Rattle.vrp_sharing.specs.declared.view.Known.{Known}
use Rattle.vrp_sharing.specs.declared.view.Offer.{Offer}
use Rattle.vrp_sharing.specs.declared.view.View.{View}
use Rattle.vrp_sharing.specs.Costs.{IsHistoryOf, least_of}
use Rattle.vrp_sharing.specs.Inner.Kept.{IsCostState}
use Rattle.vrp_sharing.specs.Inner.Seats.{ClosingState, WordState}
use Rattle.vrp_sharing.proofs.CostHistory.{settles}
use Rattle.vrp_sharing.proofs.cost_word.CostWord.close.Goals as goal

pub returns : goal.returns
returns c =
    let seat = c.closing.inside.seat in
    let v = seat.me.0 in
    let key = c.self.inside.table.shared.key in
    let closed = c.close_with-closed.result in
    let callers = ap (λ (x : ClosingState). x.callers) c.closing.view_is in
    let opening = ap (λ (x : WordState). x.opening) c.self.view_is in
    let final = subst (λ (m : Me ℕ View). Final (Seen (IsCostState key) seat.id m.0) (slots_items closed.words) (slots_items closed.slots)) c.closing.invariant c.close_with-closed.ensures.values.2 in
    let all : length v.callers ≡ key.1 = ap (λ (x : List Known). length x) callers ∙ (c.requires.all ∙ sym (ap (λ (x : WordState). x.count) c.self.view_is)) in
    subst (λ (x : ℕ × List Known). (history : List Offer) × IsHistoryOf x.0 x.1 history × (length history ≡ sum_by (λ k. length k.mine) x.1) × (c.word-least.result ≡ least_of x.0 history)) (λ i. (opening i, callers i))
    (settles key seat.id v.callers (slots_items closed.words) (slots_items closed.slots) c.word-least.result final c.word-least.ensures all)
