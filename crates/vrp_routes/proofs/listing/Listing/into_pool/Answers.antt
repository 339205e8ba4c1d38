use Rattle.vrp_routes.proofs.ListingSteps.{whole_pool}
use Rattle.vrp_routes.proofs.listing.Listing.into_pool.Goals as goal

pub returns : goal.returns
returns g c = λ p range k are problem all. whole_pool p range k c.args.self.sequences c.args.self.routes.items _ are problem all c.new.ensures
