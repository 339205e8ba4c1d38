use Rattle.std.proofs.Common.{◌∙◌, [], ap, refl}
use Rattle.vrp_sharing.specs.Pile.{DrawerState}
use Rattle.vrp_solver.proofs.Teams.{all_back}
use Rattle.vrp_solver.proofs.team.drain_pile.Goals as goal

pub draw_all-requires : goal.draw_all-requires
draw_all-requires g c = c.requires.lead_is.can

pub returns-clause-back : goal.returns-clause-back
returns-clause-back g c =
    let lead = c.args.lead in
    let drawn = c.in_ok-draw_all.ensures in
    let parts = c.into_searched-caller.ensures in
    rw c.in_ok-push.ensures.items
    (all_back c.args.shared.now lead.board.register lead.drawer.put c.args.callers.items c.into_searched-caller.result.0 [] lead c.draw_all.new.self _ refl c.requires drawn.worked drawn.searched drawn.at_end parts.caller parts.one_of parts.no_less parts.pile parts.outcomes parts.best)

pub returns-clause-put : goal.returns-clause-put
returns-clause-put g c = ap (λ (d : DrawerState). d.put) c.into_searched-caller.ensures.pile ∙ c.in_ok-draw_all.ensures.worked.put
