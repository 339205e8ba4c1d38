use Rattle.std.proofs.Common.{◌≡◌, ◌+◌, ◌<◌, ◌++◌, length, length-append, ap, sym, subst, arith}
use Rattle.vrp_routes.specs.Extended.{IfParts}
use Rattle.vrp_routes.specs.Level.{IsLevel, IsShare}
use Rattle.vrp_routes.specs.Merge.{CanMerge}
use Rattle.vrp_routes.specs.Share.{is_in_first}
use Rattle.vrp_routes.specs.Shares.{AreParts}
use Rattle.vrp_routes.specs.declared.level.Parts.{Parts}
use Rattle.vrp_routes.specs.Setting.{setting_of}
use Rattle.vrp_routes.proofs.Extensions.{whole_level}
use Rattle.vrp_routes.proofs.MergeRounds.{merged_shares, shares_can_merge}
use Rattle.vrp_routes.proofs.SharesSteps.{in_some_share, more_parts}
use Rattle.vrp_routes.proofs.level.extend_level.Goals as goal

pub loop-first-preserved : goal.loop-first-preserved
loop-first-preserved g c =
    let s = setting_of g.T.CompletionTest c.args.setting.now.test.now in
    let first = c.loop-first.first in
    let count = c.min-count.result in
    let shares = c.max-shares.result in
    let known = c.loop-first.invariant in
    let parts = c.loop-first.parts.items in
    let more = c.in-Found.more.items in
    let all : c.append.new.self.items ≡ parts ++ more = c.in_ok-append-in-Found.ensures.items in
    let many : length more ≡ count = subst (λ (found : Parts g.row.T-Resources.Denot). IfParts found (λ ps. length ps ≡ count)) c.in-Found.is c.in_ok-more.ensures.count in
    record {
      within = omega (arith, c.min-count.ensures, known.within);
      count = omega (arith, ap length all, length-append parts more, many, known.count);
      parts = λ k stops is.
          let also : AreParts s (k + 1) stops shares first more = (subst (λ (found : Parts g.row.T-Resources.Denot). IfParts found (λ ps. (k : _) (stops : _) → IsLevel s k stops c.args.labels.now → AreParts s (k + 1) stops shares first ps)) c.in-Found.is c.in_ok-more.ensures.parts) k stops is in
          subst (AreParts s (k + 1) stops shares 0) (sym all)
          (more_parts s (k + 1) stops shares parts more (known.parts k stops is) (subst (λ n. AreParts s (k + 1) stops shares n more) (sym known.count) also));
    }

pub all_merged-requires-clause-can : goal.all_merged-requires-clause-can
all_merged-requires-clause-can g c κs within =
    let (k, stops, is) = c.requires.level in
    subst CanMerge (sym c.deref.ensures.value) (shares_can_merge (setting_of g.T.CompletionTest c.args.setting.now.test.now) (k + 1) stops c.max-shares.result c.loop-first.parts.items (c.loop-first.invariant.parts k stops is))

pub returns-clause-level : goal.returns-clause-level
returns-clause-level g c = λ k stops is.
    let s = setting_of g.T.CompletionTest c.args.setting.now.test.now in
    let shares = c.max-shares.result in
    let parts = c.loop-first.parts.items in
    let some : 0 < shares = omega (arith, c.max-shares.ensures, c.args.crew.now.some_worker) in
    let there : c.deref.result.now ≡ parts = c.deref.ensures.value in
    let all : length c.deref.result.now ≡ shares = omega (arith, ap length there, c.loop-first.invariant.count, c.loop-first.invariant.within, c.loop-first-test.false) in
    let are : AreParts s (k + 1) stops shares 0 c.deref.result.now = subst (AreParts s (k + 1) stops shares 0) (sym there) (c.loop-first.invariant.parts k stops is) in
    let (to, enough, merged) = c.in_ok-next.ensures in
    let share = subst (λ n. IsShare s (k + 1) (is_in_first shares n) stops c.in_ok-next.next.items) all (merged_shares s (k + 1) stops shares c.deref.result.now to c.in_ok-next.next.items are (omega (arith, is.are.long, c.len.ensures, enough)) merged) in
    whole_level s k (is_in_first shares shares) stops c.args.labels.now c.in_ok-next.next.items is (λ customer. in_some_share shares customer some) share

pub returns-clause-parents : goal.returns-clause-parents
returns-clause-parents g c =
    let (k, stops, is) = c.requires.level in
    let s = setting_of g.T.CompletionTest c.args.setting.now.test.now in
    let shares = c.max-shares.result in
    let parts = c.loop-first.parts.items in
    let there : c.deref.result.now ≡ parts = c.deref.ensures.value in
    let are : AreParts s (k + 1) stops shares 0 c.deref.result.now = subst (AreParts s (k + 1) stops shares 0) (sym there) (c.loop-first.invariant.parts k stops is) in
    let (to, enough, merged) = c.in_ok-next.ensures in
    let share : IsShare s (k + 1) (is_in_first shares (length c.deref.result.now)) stops c.in_ok-next.next.items = merged_shares s (k + 1) stops shares c.deref.result.now to c.in_ok-next.next.items are (omega (arith, is.are.long, c.len.ensures, enough)) merged in
    λ i d lt. omega (arith, share.are.parents i d lt, is.are.long)
