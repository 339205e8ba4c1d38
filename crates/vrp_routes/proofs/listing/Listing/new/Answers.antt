use Rattle.std.proofs.Common.{◌∙◌, ◌++◌, ◌∷◌, [], List, ap, refl}
use Rattle.vrp_routes.specs.declared.label.Label.{Label}
use Rattle.vrp_routes.specs.declared.listing.Listing.{Listing}
use Rattle.vrp_routes.specs.Setting.{setting_of}
use Rattle.vrp_routes.proofs.ListingSteps.{first_listing}
use Rattle.vrp_routes.proofs.listing.Listing.new.Goals as goal

pub returns : goal.returns
returns g c =
    let s = setting_of g.T.CompletionTest c.args.setting.now.test.now in
    let listing : Listing g.row.X.Denot = record { sequences = c.new.result; labels = c.push.new.self; start = 0; routes = c.new-2.result } in
    first_listing s listing c.root.result c.new.ensures (c.in_ok-push.ensures.items ∙ ap (λ (ls : List (Label g.row.X.Denot)). ls ++ c.root.result ∷ []) c.new-labels.ensures.items) refl c.new-2.ensures.items c.root.ensures
