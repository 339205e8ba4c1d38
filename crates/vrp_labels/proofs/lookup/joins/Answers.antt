use Rattle.std.proofs.Common.{◌≡◌, ◌≤◌, ◌≤ℤ◌, ◌+ℤ◌, ◌-ℤ◌, ◌∙◌, ℕ, ℤ, pos, ap, arith, bit_and, eq-eqb, subst, sym, unsigned_abs}
use Rattle.std.proofs.lemmas.Bool.{eqb-true, false≢true}
use Rattle.std.proofs.lemmas.Int.{ints}
use Rattle.vrp_duals.specs.Folding.{arc_of, weigh}
use Rattle.vrp_labels.proofs.SignedSums.{paid_at_most, pays_at_most}
use Rattle.vrp_labels.proofs.lookup.joins.Goals as goal

pub returns-then-gap-cost : goal.returns-then-gap-cost
returns-then-gap-cost c =
    let arc = arc_of c.args.graph.now.folded c.args.forward.now.at c.args.label.now.at in
    let met = weigh c.args.graph.now.folded.row_prices (bit_and c.args.forward.now.rows c.args.label.now.rows) in (
      λ no. absurd (false≢true no),
      λ meets. absurd (dearer c.args.forward.now.cost c.args.cost c.args.gap.now arc c.args.label.now.cost met c.requires.cost (grind (ints, arith, c.if-gap-cost.true)) meets.cheap),
    )
  where
    dearer : (f c g a l : ℤ) (w : ℕ) → c ≡ f +ℤ (a +ℤ l) → (c ≤ℤ g → ⊥) → (f +ℤ (a +ℤ l +ℤ pos w)) ≤ℤ g → ⊥
    dearer f c g a l w is above whole = above (let le : c ≤ℤ g = omega (arith, ints) in le)

pub returns-then-not-is_disjoint : goal.returns-then-not-is_disjoint
returns-then-not-is_disjoint c =
    let v = c.args.label.now.visited in
    let w = c.args.forward.now.visited in (
      λ no. absurd (false≢true no),
      λ meets. absurd (false≢true (sym c.if-not-is_disjoint.true ∙ (c.is_disjoint.ensures ∙ eq-eqb (bit_and v w) 0 meets.fits.apart))),
    )

pub returns : goal.returns
returns c =
    let prices = c.args.graph.now.folded.row_prices in
    let v = c.args.label.now.visited in
    let w = c.args.forward.now.visited in
    let arc = arc_of c.args.graph.now.folded c.args.forward.now.at c.args.label.now.at in
    let met = weigh prices (bit_and c.args.forward.now.rows c.args.label.now.rows) in
    let apart = eqb-true (bit_and v w) 0 (sym c.is_disjoint.ensures ∙ c.if-not-is_disjoint.false) in
    let price : weigh prices c.intersection.result ≡ met = ap (weigh prices) c.intersection.ensures in
    let le : c.args.cost ≤ℤ c.args.gap.now = grind (ints, arith, c.if-gap-cost.false) in
    let room : c.abs_diff.result ≡ unsigned_abs (c.args.gap.now -ℤ c.args.cost) = grind (ints, arith, c.abs_diff.ensures) in (
      λ yes. record {
        fits = record { apart = apart; light = omega (arith, c.if-label-capacity.false, c.capacity.ensures.value, c.requires.forward) };
        cheap = whole c.args.forward.now.cost c.args.cost c.args.gap.now arc c.args.label.now.cost met c.requires.cost
            (pays_at_most c.args.cost c.args.gap.now met c.abs_diff.result le room (subst (λ n. n ≤ c.abs_diff.result) price (c.weighs_at_most.ensures.0 yes)));
      },
      λ meets. c.weighs_at_most.ensures.1 (subst (λ n. n ≤ c.abs_diff.result) (sym price)
          (paid_at_most c.args.cost c.args.gap.now met c.abs_diff.result le room (parts c.args.forward.now.cost c.args.cost c.args.gap.now arc c.args.label.now.cost met c.requires.cost meets.cheap))),
    )
  where
    whole : (f c g a l : ℤ) (w : ℕ) → c ≡ f +ℤ (a +ℤ l) → (c +ℤ pos w) ≤ℤ g → (f +ℤ (a +ℤ l +ℤ pos w)) ≤ℤ g
    whole f c g a l w is le = omega (arith, ints)

    parts : (f c g a l : ℤ) (w : ℕ) → c ≡ f +ℤ (a +ℤ l) → (f +ℤ (a +ℤ l +ℤ pos w)) ≤ℤ g → (c +ℤ pos w) ≤ℤ g
    parts f c g a l w is le = omega (arith, ints)
