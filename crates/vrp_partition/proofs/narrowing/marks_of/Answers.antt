use Rattle.std.proofs.Common.{◌≡◌, ◌∙◌, true, false, get_or, refl, sym, ap, arith, rules}
use Rattle.std.proofs.lemmas.Bool.{true≢false}
use Rattle.std.proofs.lemmas.List.{length-set}
use Rattle.vrp_partition.proofs.NarrowedRoutes.{marked_more, same_at}
use Rattle.vrp_partition.proofs.narrowing.marks_of.Goals as goal

pub loop-place-init : goal.loop-place-init
loop-place-init c = record {
  long = search rules;
  each = λ at lt. absurd (omega (arith, lt));
}

pub loop-place-preserved : goal.loop-place-preserved
loop-place-preserved c =
    let place = get_or c.args.places.now c.loop-place.place-index 0 in
    record {
      long = length-set c.loop-place.marks.items place true ∙ c.loop-place.invariant.long;
      each = marked_more c.loop-place.marks.items c.args.places.now c.loop-place.place-index place (omega (arith, c.loop-place.invariant.long, c.requires.inside c.loop-place.place-index c.loop-place-test.true)) refl c.loop-place.invariant.each;
    }

pub returns : goal.returns
returns c = (
  c.loop-place.invariant.long,
  λ k lt unmarked has.
      let is : get_or c.args.places.now has.0 0 ≡ k = same_at c.args.places.now has.0 0 k has.1 ∙ has.2 in
      let marked = c.loop-place.invariant.each has.0 (omega (arith, has.1, c.loop-place-test.false)) in
      true≢false (sym marked ∙ (ap (λ n. get_or c.loop-place.marks.items n false) is ∙ unmarked)),
)
