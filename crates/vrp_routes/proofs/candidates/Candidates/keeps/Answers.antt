use Rattle.std.proofs.Common.{◌≡◌, ◌∙◌, true, not, sym, ap, arith}
use Rattle.std.proofs.lemmas.Bool.{not-true}
use Rattle.std.proofs.lemmas.List.{get_or_read}
use Rattle.vrp_routes.specs.Candidates.{is_superseded}
use Rattle.vrp_routes.proofs.candidates.Candidates.keeps.Goals as goal

pub index-requires : goal.index-requires
index-requires g c = omega (arith, c.requires.within, c.requires.keyed.one_flag_each, c.args.self.now.superseded.ok)

pub returns : goal.returns
returns g c =
    let found = c.args.self.now in
    let read : c.index.result.now ≡ is_superseded found c.args.at = get_or_read found.superseded.items c.args.at c.index.result.now (omega (arith, c.requires.within, c.requires.keyed.one_flag_each)) c.index.ensures true in
    let (kept, flag) = c.requires.keyed.flags c.args.at c.requires.within in
    (λ yes. kept (sym read ∙ not-true c.index.result.now yes), λ is. ap not (read ∙ flag is))
