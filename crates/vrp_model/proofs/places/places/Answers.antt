use Rattle.vrp_model.proofs.PlacesLemmas.{ArePlaces_passed, ArePlaces_pushed}
use Rattle.vrp_model.proofs.places.places.Goals as goal
use Rattle.vrp_model.proofs.places.places.Goals.{then-not-contains+in_ok-push-2, else-not-contains}

pub loop-index-preserved : goal.loop-index-preserved
loop-index-preserved c =
    elim c.if-not-contains.branch [
      | then-not-contains+in_ok-push-2 w ↦ rw (w.places-is, w.in_ok-push-2.ensures.items) (ArePlaces_pushed _ _ _ _ c.requires.listed c.loop-index.invariant cc)
      | else-not-contains w ↦ rw w.places-is (ArePlaces_passed _ _ _ _ c.loop-index.invariant cc)
    ]
