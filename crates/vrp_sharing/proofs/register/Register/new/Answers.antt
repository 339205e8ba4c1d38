use Rattle.std.proofs.Common.{arith, rules, ◌∙◌, ◌+◌, sym, ap}
use Rattle.vrp_model.specs.Cheapest.{cost_of}
use Rattle.vrp_sharing.specs.Inner.Seats.{WordState, SeatState, MakerState}
use Rattle.vrp_sharing.specs.Costs.{newcomer}
use Rattle.vrp_sharing.proofs.Newcomers.{newcomers_more}
use Rattle.vrp_sharing.proofs.register.Register.new.Goals as goal

pub loop-number-preserved : goal.loop-number-preserved
loop-number-preserved g c =
    let table = c.least.inside.table.shared.table_id in
    let opening = cost_of c.args.plan in
    let n = c.loop-number.number in
    let is_table = ap (λ (x : WordState). x.table) c.least.view_is in
    let maker = c.loop-number.invariant.maker in
    let seat = c.make.ensures.seat in
    let known = ap (λ (x : SeatState). x.known) seat ∙ ap (λ (x : MakerState). newcomer x.next x.opening) maker in
    let at = ap (λ (x : SeatState). x.table) seat ∙ sym is_table in
    record {
      parts = omega arith;
      amount = omega arith;
      maker = c.make.ensures.maker ∙ ap (λ (x : MakerState). record { table = x.table; opening = x.opening; next = x.next + 1 }) maker;
      made = rw (newcomers_more table opening n, ← c.loop-number.invariant.made, ← known, ← at, ← c.new-in-loop-number.ensures) c.in_ok-push.ensures.items;
    }

pub loop-number-init : goal.loop-number-init
loop-number-init g c = search rules

pub returns-clause-opening : goal.returns-clause-opening
returns-clause-opening g c = search rules
