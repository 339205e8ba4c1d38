-- The least cost that a caller has seen falls as it sees more.
use Rattle.std.proofs.Common.{◌∙◌, ℕ, ◌≤◌, min, List, [], ◌∷◌, ◌++◌, refl, arith}
use Rattle.std.specs.List.{All}
use Rattle.std.proofs.lemmas.List.{append_assoc}
use Rattle.vrp_sharing.specs.Costs.{IsOffered, IsSeen, StartsWith, least_of}
use Rattle.vrp_sharing.specs.declared.view.Known.{Known}
use Rattle.vrp_sharing.specs.declared.view.Offer.{Offer}
use Rattle.vrp_sharing.proofs.LeastCosts.{falls}
use Rattle.vrp_solver.specs.SeatBoard.{IsLater, SeatBoardState}

pub seen_falls : (known after : Known) (answer : ℕ) → IsSeen known answer after → least_of after.opening after.seen ≤ least_of known.opening known.seen
seen_falls known after answer is = rw is.opening (falls known.opening after.seen known.seen is.seen)

pub offered_falls : (known after : Known) (cost answer : ℕ) → IsOffered known cost answer after → least_of after.opening after.seen ≤ least_of known.opening known.seen
offered_falls known after cost answer is =
    let offer : Offer = record { caller = known.number; cost = cost } in
    let starts : StartsWith after.seen known.seen = (is.between ++ offer ∷ [], is.seen ∙ append_assoc known.seen is.between (offer ∷ [])) in
    rw is.opening (falls known.opening after.seen known.seen starts)

least_last : (opening : ℕ) (seen : List Offer) (offer : Offer) → least_of opening (seen ++ offer ∷ []) ≤ offer.cost
least_last opening [] offer = omega arith
least_last opening (other ∷ seen) offer = least_last (min opening other.cost) seen offer

pub offered_taken : (known after : Known) (cost answer : ℕ) → IsOffered known cost answer after → least_of after.opening after.seen ≤ cost
offered_taken known after cost answer is = rw (is.opening, is.seen) (least_last known.opening (known.seen ++ is.between) record { caller = known.number; cost = cost })

pub still_no_less : (old new : ℕ) (offers : List Offer) → new ≤ old → All (λ (o : Offer). old ≤ o.cost) offers → All (λ (o : Offer). new ≤ o.cost) offers
still_no_less old new offers falls all = λ k d lt. omega (arith, falls, all k d lt)

pub later_itself : (board : SeatBoardState) → IsLater board board
later_itself board = record { register = refl; may_stop = refl; falls = omega arith }

pub later_still : (first second third : SeatBoardState) → IsLater first second → IsLater second third → IsLater first third
later_still first second third early late = record { register = late.register ∙ early.register; may_stop = late.may_stop ∙ early.may_stop; falls = omega (arith, early.falls, late.falls) }
