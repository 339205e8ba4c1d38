use Rattle.std.proofs.lemmas.Result.{err_from_is_err_and}
use Rattle.vrp_duals.proofs.duals.Duals.new.Goals as goal

pub returns-in_err-check_prices-clause-refused : goal.returns-in_err-check_prices-clause-refused
returns-in_err-check_prices-clause-refused c =
    let p = err_from_is_err_and c.from_residual.result c.from_residual.ensures.1 in
    rw (p.1, p.2) (rw c.deref.ensures.value at (c.in_err-check_prices.ensures.refused c.args.entries.items c.args.rows.items))

pub returns-in_err-check_entries-clause-refused : goal.returns-in_err-check_entries-clause-refused
returns-in_err-check_entries-clause-refused c =
    let p = err_from_is_err_and c.from_residual-in_err-check_entries.result c.from_residual-in_err-check_entries.ensures.1 in
    rw (p.1, p.2) (rw c.deref-2.ensures.value at (c.in_err-check_entries.ensures.refused c.args.instance.now c.args.scale c.args.prices.items c.args.rows.items))

pub returns-in_err-check_rows-clause-refused : goal.returns-in_err-check_rows-clause-refused
returns-in_err-check_rows-clause-refused c =
    let p = err_from_is_err_and c.from_residual-in_err-check_rows.result c.from_residual-in_err-check_rows.ensures.1 in
    rw (p.1, p.2) (rw c.deref-3.ensures.value at (c.in_err-check_rows.ensures.refused c.args.instance.now c.args.scale c.args.prices.items c.args.entries.items))
