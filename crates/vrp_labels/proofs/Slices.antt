-- Parts of lists.
use Rattle.std.proofs.Common.{◌≡◌, ℕ, ◌+◌, ◌-◌, ◌<◌, ◌≤◌, List, length, get_or, sym, ◌∙◌, arith, drop}
use Rattle.std.specs.List.{All, Any, slice_range}
use Rattle.std.proofs.lemmas.List.{get_or-drop, get_or-take, length-drop, length-take-le}
use Rattle.std.proofs.lemmas.List.Elements.{All-drop, All-take}

pub length_part : {X : Type 0} (xs : List X) (from to : ℕ) → from ≤ to → to ≤ length xs → length (slice_range xs from to) ≡ to - from
length_part xs from to order within = length-take-le (to - from) (drop from xs) (omega (arith, order, within, length-drop from xs))

pub get_or_part : {X : Type 0} (xs : List X) (from to k : ℕ) (d : X) → k < to - from → get_or (slice_range xs from to) k d ≡ get_or xs (from + k) d
get_or_part xs from to k d lt = get_or-take (to - from) (drop from xs) k d lt ∙ get_or-drop from xs k d

pub all_part : {X : Type 0} (P : X → Type 0) (xs : List X) (from to : ℕ) → All P xs → All P (slice_range xs from to)
all_part P xs from to all = All-take P (to - from) (drop from xs) (All-drop P from xs all)

pub any_part : {X : Type 0} (P : X → Type 0) (xs : List X) (from to : ℕ) → from ≤ to → to ≤ length xs → Any P (slice_range xs from to) → Any P xs
any_part P xs from to order within (k, x, lt, read, is) =
    let inside : k < to - from = omega (arith, lt, length_part xs from to order within) in
    (from + k, x, omega (arith, order, within, inside), sym (get_or_part xs from to k x inside) ∙ read, is)
