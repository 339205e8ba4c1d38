use Rattle.std.proofs.Common.{◌∙◌, ap, sym}
use Rattle.std.proofs.lemmas.Bool.{eqb-true}
use Rattle.vrp_duals.specs.Folding.{weigh}
use Rattle.vrp_duals.proofs.FoldedRows.{weigh_none}
use Rattle.vrp_duals.proofs.folded.FoldedDuals.weigh.Goals as goal

pub returns-then-is_empty-clause-value : goal.returns-then-is_empty-clause-value
returns-then-is_empty-clause-value c =
    let ws = c.args.self.now.row_prices in
    sym (ap (weigh ws) (eqb-true c.args.rows 0 (sym c.is_empty.ensures ∙ c.if-is_empty.true)) ∙ weigh_none ws)
