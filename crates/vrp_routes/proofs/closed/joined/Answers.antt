use Rattle.std.proofs.Common.{◌≡◌, ◌∙◌, ◌+◌, Global, Vec, List, [], ◌∷◌, ◌++◌, length, length-append, append_assoc, ap, subst, sym, arith}
use Rattle.vrp_routes.specs.ClosedLevel.{AreClosedIn}
use Rattle.vrp_routes.specs.declared.closed.ClosedRoute.{ClosedRoute}
use Rattle.vrp_routes.proofs.ClosingShares.{all_shares_closed, is_closed_before, no_shares_closed, one_share_more, share_at}
use Rattle.vrp_routes.proofs.closed.joined.Goals as goal

pub loop-part-init : goal.loop-part-init
loop-part-init c =
    record {
      split = search;
      closed = λ p range k stops are. no_shares_closed p range k stops c.new-routes.result.items c.new-routes.ensures.items;
    }

pub loop-part-preserved : goal.loop-part-preserved
loop-part-preserved c =
    let parts = c.args.parts.items in
    let yielded = c.loop-part.yielded in
    let part = c.in-Some.part in
    let rest = c.next.new.self.rest.items in
    let old = c.loop-part.routes.items in
    let now : parts ≡ yielded ++ part ∷ rest = c.loop-part.invariant.split ∙ ap (λ (vs : List (Vec ClosedRoute Global)). yielded ++ vs) c.in-Some.ensures.steps.0 in
    record {
      split = now ∙ sym (append_assoc yielded (part ∷ []) rest);
      closed = λ p range k stops are.
          let new : c.extend_from_slice.new.self.items ≡ old ++ part.items = c.in_ok-extend_from_slice.ensures.items ∙ ap (λ (rs : List ClosedRoute). old ++ rs) c.deref.ensures.value in
          subst (λ n. AreClosedIn p range k (is_closed_before n) stops c.extend_from_slice.new.self.items) (sym (length-append yielded (part ∷ [])))
          (subst (AreClosedIn p range k (is_closed_before (length yielded + 1)) stops) (sym new)
          (one_share_more p range k (length yielded) stops old part.items (c.loop-part.invariant.closed p range k stops are) (share_at p range k stops parts yielded rest part now are)));
    }

pub returns : goal.returns
returns c = λ p range k stops are.
    let yielded = c.loop-part.yielded in
    let rest = c.loop-part.part-iterator.rest in
    let all : length yielded ≡ 8 = omega (arith, ap length c.loop-part.invariant.split, length-append yielded rest.items, c.in-None.ensures.steps.0, rest.ok, c.args.parts.ok, c.requires) in
    all_shares_closed p range k stops c.loop-part.routes.items (subst (λ n. AreClosedIn p range k (is_closed_before n) stops c.loop-part.routes.items) all (c.loop-part.invariant.closed p range k stops are))
