use Rattle.std.proofs.Common.{◌≡◌, ◌∙◌, ◌+◌, ℕ, [], length, ap, arith}
use Rattle.std.proofs.lemmas.List.{length_push}
use Rattle.vrp_routes.specs.Candidates.{IsKeyed}
use Rattle.vrp_routes.specs.declared.candidates.Candidates.{Candidates}
use Rattle.vrp_routes.specs.declared.share.Share.{Share}
use Rattle.vrp_routes.proofs.SharesSteps.{at_each_more}
use Rattle.vrp_routes.proofs.level.new_shares.Goals as goal

pub loop-index-preserved : goal.loop-index-preserved
loop-index-preserved g c =
    let old = c.loop-index.found.items in
    let new = c.push.new.self.items in
    let found = c.new.result in
    let index = c.loop-index.index in
    let known = c.loop-index.invariant in
    let items = c.in_ok-push.ensures.items in
    record {
      count = ap length items ∙ length_push old found ∙ ap (λ n. n + 1) known.count;
      keyed = at_each_more (λ (i : ℕ) (x : Candidates g.row.X.Denot). IsKeyed x) old new found index items known.count known.keyed c.new.ensures.keyed;
      shares = at_each_more (λ (i : ℕ) (x : Candidates g.row.X.Denot). x.share.shares ≡ c.args.range.shares) old new found index items known.count known.shares (ap (λ (share : Share). share.shares) c.new.ensures.share);
      rests = at_each_more (λ (i : ℕ) (x : Candidates g.row.X.Denot). x.share.rest ≡ c.args.range.first + i) old new found index items known.count known.rests (ap (λ (share : Share). share.rest) c.new.ensures.share);
      empty = at_each_more (λ (i : ℕ) (x : Candidates g.row.X.Denot). x.labels.items ≡ []) old new found index items known.count known.empty c.new.ensures.empty;
    }

pub returns-clause-count : goal.returns-clause-count
returns-clause-count g c = omega (arith, c.loop-index.invariant.count, c.loop-index-test.false, c.loop-index.auto.index-end)

pub returns-clause-shares : goal.returns-clause-shares
returns-clause-shares g c =
    let known = c.loop-index.invariant in
    record {
      keyed = λ i d lt. known.keyed i d (omega (arith, lt, known.count));
      shares = λ i d lt. known.shares i d (omega (arith, lt, known.count));
      rests = λ i d lt. known.rests i d (omega (arith, lt, known.count));
    }

pub returns-clause-empty : goal.returns-clause-empty
returns-clause-empty g c = λ i d lt. c.loop-index.invariant.empty i d (omega (arith, lt, c.loop-index-test.false, c.loop-index.auto.index-end))
