use Rattle.std.proofs.Common.{◌≡◌, ◌<◌, false, List, length, sym, ap, ◌∙◌, arith}
use Rattle.std.proofs.lemmas.List.{get_or_default}
use Rattle.vrp_model.specs.Word.{stands_in}
use Rattle.vrp_bound_prices.specs.CapacityCut.{CapacityCut, marked}
use Rattle.vrp_bound_prices.proofs.MarkedCustomers.{marked_inside, marked_outside}
use Rattle.vrp_bound_prices.proofs.cut.CapacityCut.has.Goals as goal
use Rattle.vrp_bound_prices.proofs.cut.CapacityCut.has.Goals.{then-place-eq0-via-then-place-eq0, then-place-eq0-via-else-place-eq0+then-place-len}

pub returns-then-place-eq0 : goal.returns-then-place-eq0
returns-then-place-eq0 c =
    let marks = c.self.inside.inside.items in
    let outside : stands_in (marked marks) c.args.place ≡ false = marked_outside marks c.args.place (elim c.then-place-eq0.branch [
      | then-place-eq0-via-then-place-eq0 w ↦ λ some within. omega (arith, w.if-place-eq0.true, c.from-place.ensures, some)
      | then-place-eq0-via-else-place-eq0+then-place-len w ↦ λ some within. omega (arith, w.if-place-len.true, w.len.ensures, c.from-place.ensures, within)
    ]) in
    let view : marked marks ≡ c.args.self.now.inside = ap (λ (cut : CapacityCut). cut.inside) c.self.view_is in
    sym (ap (λ (inside : List _). stands_in inside c.args.place) (sym view) ∙ outside)

pub returns : goal.returns
returns c =
    let marks = c.self.inside.inside.items in
    let within : c.args.place < length marks = omega (arith, c.if-place-len.false, c.len.ensures, c.from-place.ensures) in
    let inside = marked_inside marks c.args.place (omega (arith, c.if-place-eq0.false, c.from-place.ensures)) within in
    let view : marked marks ≡ c.args.self.now.inside = ap (λ (cut : CapacityCut). cut.inside) c.self.view_is in
    let mark = rw c.from-place.ensures at c.index.ensures in
    mark ∙ get_or_default marks c.args.place c.index.result.now false within ∙ sym inside ∙ ap (λ (inside : List _). stands_in inside c.args.place) view
