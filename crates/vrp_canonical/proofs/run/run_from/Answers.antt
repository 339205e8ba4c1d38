use Rattle.std.proofs.Common.{◌≡◌, ℕ, ◌<◌, ◌≤◌, bit_and, get_or, min, length, inl, inr, ap, sym, subst, ◌∙◌, arith}
use Rattle.std.specs.Int.{bit_at}
use Rattle.std.proofs.lemmas.Bool.{cases_lt}
use Rattle.std.proofs.lemmas.Nat.Bits.{bit_at-lt, bit_at_and}
use Rattle.vrp_canonical.specs.Passing.{IsInside, route_in}
use Rattle.vrp_canonical.proofs.Begun.{within_below}
use Rattle.vrp_canonical.proofs.SetTests.{set_read, unlike}
use Rattle.vrp_canonical.proofs.run.run_from.Goals as goal
use Rattle.vrp_canonical.proofs.run.run_from.Goals.{then-is_subset+else-is_disjoint, else-is_subset}

some_of : (n : ℕ) → (n ≡ 0 → ⊥) → 0 < n
some_of n other = omega (arith, other)

pub loop-end-init : goal.loop-end-init
loop-end-init c =
    let set = (route_in c.args.pool.now c.args.index).set in
    let read = set_read c.args.pool.now c.args.index c.index-pool-index.result c.requires.index in
    record {
      some = subst (λ n. 0 < n) (sym read) c.requires.some;
      unserved = λ i. subst (λ n. bit_at n i ≤ bit_at c.args.unserved i) (sym read) (within_below set c.args.unserved i c.requires.inside);
      have = λ k from below within inside i. (let e : c.args.index ≡ k = omega (arith, from, below) in let same : bit_at set i ≡ bit_at (route_in c.args.pool.now k).set i = ap (λ n. bit_at (route_in c.args.pool.now n).set i) e in subst (λ n. bit_at n i ≤ bit_at (route_in c.args.pool.now k).set i) (sym read) (omega (arith, same)));
    }

pub returns-then-is_disjoint-clause-unserved : goal.returns-then-is_disjoint-clause-unserved
returns-then-is_disjoint-clause-unserved c =
    let n = c.run_with.result.customer in
    omega (arith, c.run_with.ensures.shared, c.loop-end.invariant.unserved n, bit_at-lt c.args.unserved n)

pub returns-then-is_disjoint-clause-have : goal.returns-then-is_disjoint-clause-have
returns-then-is_disjoint-clause-have c = λ k from below within inside.
    let n = c.run_with.result.customer in
    omega (arith, c.run_with.ensures.shared, c.loop-end.invariant.have k from (omega (arith, below, c.run_with.ensures.end)) within inside n, bit_at-lt (route_in c.args.pool.now k).set n)

pub returns-clause-unserved : goal.returns-clause-unserved
returns-clause-unserved c =
    let n = c.run_with-2.result.customer in
    omega (arith, c.run_with-2.ensures.shared, c.loop-end.invariant.unserved n, bit_at-lt c.args.unserved n)

pub returns-clause-have : goal.returns-clause-have
returns-clause-have c = λ k from below within inside.
    let n = c.run_with-2.result.customer in
    omega (arith, c.run_with-2.ensures.shared, c.loop-end.invariant.have k from (omega (arith, within, c.loop-end-test.false)) within inside n, bit_at-lt (route_in c.args.pool.now k).set n)

pub loop-end-preserved : goal.loop-end-preserved
loop-end-preserved c =
    let pool = c.args.pool.now in
    let unserved = c.args.unserved in
    let end = c.loop-end.end in
    let common = c.loop-end.common in
    let inv = c.loop-end.invariant in
    let set = (route_in pool end).set in
    let lt : end < length pool = omega (arith, c.loop-end-test.true) in
    let own = (get_or pool end c.index-pool-end.result).set in
    let read : own ≡ set = set_read pool end c.index-pool-end.result lt in
    elim c.if-is_subset.branch [
      | then-is_subset+else-is_disjoint w ↦
          let met : c.if-is_subset.common ≡ bit_and common set = w.common-is ∙ w.intersection-common.ensures ∙ ap (bit_and common) read in
          let both : (i : ℕ) → bit_at c.if-is_subset.common i ≡ min (bit_at common i) (bit_at set i) = λ i. ap (λ n. bit_at n i) met ∙ bit_at_and common set i in
          let apart : bit_and common own ≡ 0 → ⊥ = unlike w.is_disjoint.result _ _ w.is_disjoint.ensures w.if-is_disjoint.false in
          record {
            some = rw met (some_of (bit_and common set) (λ none. apart (ap (bit_and common) read ∙ none)));
            unserved = λ i. omega (arith, both i, inv.unserved i);
            have = λ k from below within inside i. elim (cases_lt k end) [
              | inl before ↦ omega (arith, both i, inv.have k from before within inside i)
              | inr here ↦ (let e : end ≡ k = omega (arith, here, below) in let same : bit_at set i ≡ bit_at (route_in pool k).set i = ap (λ n. bit_at (route_in pool n).set i) e in omega (arith, both i, same))
            ];
          }
      | else-is_subset w ↦ record {
        some = rw w.common-is inv.some;
        unserved = λ i. rw w.common-is (inv.unserved i);
        have = λ k from below within inside i. elim (cases_lt k end) [
          | inl before ↦ rw w.common-is (inv.have k from before within inside i)
          | inr here ↦ absurd (
              let e : k ≡ end = omega (arith, here, below) in
              let mine : bit_and set unserved ≡ set = subst (IsInside pool unserved) e inside in
              let not : bit_and own unserved ≡ own → ⊥ = unlike c.is_subset.result _ _ c.is_subset.ensures w.if-is_subset.false in
              not (ap (λ n. bit_and n unserved) read ∙ mine ∙ sym read))
        ];
      }
    ]
