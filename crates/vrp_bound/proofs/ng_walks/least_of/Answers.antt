use Rattle.std.proofs.Common.{◌≡◌, get_or, inl, inr, sym, ap, ◌∙◌, arith}
use Rattle.std.proofs.lemmas.Bool.{cases_lt}
use Rattle.vrp_bound.proofs.ng_walks.least_of.Goals as goal

pub loop-cell-preserved : goal.loop-cell-preserved
loop-cell-preserved c =
    let i = c.loop-cell.cell-index in
    let row = c.args.row.now in
    record {
      within = omega (arith, c.min-least.ensures, c.loop-cell.invariant.within);
      low = λ m below. elim (cases_lt m i) [
        | inl before ↦ omega (arith, c.min-least.ensures, c.loop-cell.invariant.low m before)
        | inr behind ↦ (let last : m ≡ i = omega (arith, below, behind) in omega (arith, c.min-least.ensures, ap (λ n. get_or row n 0) last))
      ];
      met = λ small. elim (cases_lt (get_or row i 0) c.loop-cell.least) [
        | inl less ↦ (i, omega arith, omega (arith, c.min-least.ensures, less))
        | inr more ↦ (
            let stays : c.min-least.result ≡ c.loop-cell.least = omega (arith, c.min-least.ensures, more) in
            let (m, below, is) = c.loop-cell.invariant.met (omega (arith, small, stays)) in
            (m, omega (arith, below), is ∙ sym stays)
            )
      ];
    }
