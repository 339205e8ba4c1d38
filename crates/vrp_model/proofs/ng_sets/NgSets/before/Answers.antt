use Rattle.std.proofs.Common.{◌≡◌, ℕ, ◌+◌, ◌*◌, ◌^◌, ◌<◌, List, get_or, ap, ◌∙◌, arith}
use Rattle.vrp_model.specs.NgSets.{ng_set_before}
use Rattle.vrp_model.specs.Near.{NearOf, near_in}
use Rattle.vrp_model.proofs.PlacePairs.{before_at, part_value}
use Rattle.vrp_model.proofs.ng_sets.NgSets.before.Goals as goal

pub returns-clause-value : goal.returns-clause-value
returns-clause-value c = λ m small.
    let at = c.args.at in
    let stop = c.args.stop in
    let inside = c.self.inside in
    let near : NearOf = record { places = inside.places; size = inside.size; listed = inside.near.items } in
    let kept = c.self.invariant in
    let places : inside.places ≡ c.args.self.now.places = ap (λ (n : NearOf). n.places) c.self.view_is in
    let size : inside.size ≡ c.args.self.now.size = ap (λ (n : NearOf). n.size) c.self.view_is in
    let masks_is : inside.masks ≡ 2 ^ c.args.self.now.size = kept.bits ∙ ap (λ n. 2 ^ n) size in
    let start = (c.from.result * inside.places + c.from-2.result) * inside.masks in
    let start_is : start ≡ (at * inside.places + stop) * inside.masks = cc (c.from.ensures, c.from-2.ensures) in
    let within : m < inside.masks = omega (arith, small, masks_is) in
    let value : get_or inside.before.items (start + m) 0 ≡ ng_set_before (near_in near at) (near_in near stop) inside.masks at stop m =
    ap (λ n. get_or inside.before.items (n + m) 0) start_is
    ∙ before_at (near_in near) inside.masks inside.places inside.before.items at stop m (omega (arith, c.requires.at, places)) (omega (arith, c.requires.stop, places)) within kept.all kept.known in
    part_value c.deref.result.now start inside.masks m within
    ∙ ap (λ (xs : List ℕ). get_or xs (start + m) 0) c.deref.ensures.value
    ∙ value
    ∙ ap (λ n. ng_set_before (near_in near at) (near_in near stop) n at stop m) masks_is
    ∙ ap (λ (n : NearOf). ng_set_before (near_in n at) (near_in n stop) (2 ^ c.args.self.now.size) at stop m) c.self.view_is
