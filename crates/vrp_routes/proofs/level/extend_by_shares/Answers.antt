use Rattle.std.proofs.Common.{◌∙◌, ◌<◌, ◌+◌, length, get_or, ap, sym, subst, arith}
use Rattle.vrp_routes.specs.Candidates.{IsKeyed}
use Rattle.vrp_routes.specs.declared.share.Share.{Share}
use Rattle.vrp_routes.specs.Setting.{setting_of}
use Rattle.vrp_routes.proofs.Extensions.{all_grown, no_extensions}
use Rattle.vrp_routes.proofs.Undominated.{parts_of_shares}
use Rattle.vrp_routes.proofs.level.extend_by_shares.Goals as goal

pub loop-from-init : goal.loop-from-init
loop-from-init g c =
    let found = c.in_ok-found.found.items in
    let made = c.in_ok-found.ensures in
    record {
      within = omega arith;
      count = made.count;
      shares = made.shares;
      finding = λ k stops is i d lt. no_extensions (setting_of g.T.CompletionTest c.args.setting.now.test.now) k stops c.args.labels.now (get_or found i d) is (made.empty i d (omega (arith, lt, made.count)));
    }

pub extended_by_all-requires-clause-keyed : goal.extended_by_all-requires-clause-keyed
extended_by_all-requires-clause-keyed g c = λ _ _ i found lt is. subst IsKeyed (sym is) (c.loop-from.invariant.shares.keyed i found lt)

pub loop-from-preserved : goal.loop-from-preserved
loop-from-preserved g c =
    let known = c.loop-from.invariant in
    let further = c.in_ok-found-2.ensures in
    record {
      within = omega (arith, c.min-to.ensures);
      count = further.count ∙ known.count;
      shares = record {
        keyed = λ i d lt. (further.each i d d (omega (arith, lt, further.count))).keyed;
        shares = λ i d lt. (let within : i < length c.loop-from.found.items = omega (arith, lt, further.count) in ap (λ (share : Share). share.shares) (further.each i d d within).share ∙ known.shares.shares i d within);
        rests = λ i d lt. (let within : i < length c.loop-from.found.items = omega (arith, lt, further.count) in ap (λ (share : Share). share.rest) (further.each i d d within).share ∙ known.shares.rests i d within);
      };
      finding = λ k stops is i d lt. (let within : i < length c.loop-from.found.items = omega (arith, lt, further.count) in (further.each i d d within).extensions k stops is (known.finding k stops is i d within));
    }

pub kept_by_all-requires-clause-keyed : goal.kept_by_all-requires-clause-keyed
kept_by_all-requires-clause-keyed g c = λ _ _ i found lt is. subst IsKeyed (sym is) (c.loop-from.invariant.shares.keyed i found lt)

pub returns-clause-count : goal.returns-clause-count
returns-clause-count g c = omega (arith, c.in_ok-parts.ensures.count, c.loop-from.invariant.count, c.loop-from.found.ok)

pub returns-clause-parts : goal.returns-clause-parts
returns-clause-parts g c = λ k stops is.
    let s = setting_of g.T.CompletionTest c.args.setting.now.test.now in
    let found = c.loop-from.found.items in
    let known = c.loop-from.invariant in
    parts_of_shares s (k + 1) stops c.args.range.shares c.args.range.first found c.in_ok-parts.parts.items known.shares
    (omega (arith, c.in_ok-parts.ensures.count, c.loop-from.found.ok))
    (λ i d lt. all_grown s k stops c.args.labels.now (get_or found i d) c.loop-from.from is (omega (arith, is.are.long, c.loop-from-test.false)) (known.finding k stops is i d lt))
    (λ i d e lt. c.in_ok-parts.ensures.parts i d e (omega (arith, lt, c.loop-from.found.ok)))
