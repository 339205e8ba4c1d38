use Rattle.std.proofs.Common.{◌≡◌, ◌∙◌, ℕ, ◌<◌, ◌^◌, Fits, w32, List, ◌++◌, length, length-append, ap, arith}
use Rattle.std.proofs.lemmas.List.Sorted.{length_permutation}
use Rattle.crossbeam_deque.specs.Handles.{worker_view}
use Rattle.vrp_search_tree.specs.Cutting.{NumberedWord}
use Rattle.vrp_sharing.specs.Pile.{AreShared, DrawerState}
use Rattle.vrp_sharing.proofs.PileSteps.{learns}
use Rattle.vrp_sharing.proofs.owner.Owner.count_left.Goals as goal

-- those that are left are no more than were put on the pile
left_fits : (drawn left put : List NumberedWord) (count : ℕ) → AreShared drawn left put → length left ≡ count → length put < 2 ^ 32 → Fits w32 count
left_fits drawn left put count shared many few = let same = length_permutation put (drawn ++ left) shared in let whole = length-append drawn left in omega (arith, same, whole, many, few)

pub len_as-requires : goal.len_as-requires
len_as-requires c = learns _ (worker_view c.self.inside.deque) (ap (λ (s : DrawerState). s.parts) c.self.view_is ∙ c.requires)

pub overflow_cast-result : goal.overflow_cast-result
overflow_cast-result c =
    let v = worker_view c.self.inside.deque in
    left_fits v.drawn c.len_as.ensures.rule.0 v.put c.len_as.result c.len_as.ensures.rule.2 c.len_as.ensures.rule.1 c.self.invariant.2
