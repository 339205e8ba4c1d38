use Rattle.std.proofs.Common.{◌≡◌, ◌+◌, ◌<◌, ℕ, [], length, get_or}
use Rattle.vrp_routes.specs.Candidates.{IsKeyed}
use Rattle.vrp_routes.specs.declared.candidates.Candidates.{Candidates}
use Rattle.vrp_routes.proofs.level.new_shares.Given as goal

-- the workers so far have theirs
abbrev pub invariant-loop-index : goal.invariant-loop-index
invariant-loop-index g l = record {
  count : length l.found.items ≡ l.index;
  keyed : (i : ℕ) (d : Candidates g.row.X.Denot) → i < l.index → IsKeyed (get_or l.found.items i d);
  shares : (i : ℕ) (d : Candidates g.row.X.Denot) → i < l.index → (get_or l.found.items i d).share.shares ≡ l.range.shares;
  rests : (i : ℕ) (d : Candidates g.row.X.Denot) → i < l.index → (get_or l.found.items i d).share.rest ≡ l.range.first + i;
  empty : (i : ℕ) (d : Candidates g.row.X.Denot) → i < l.index → (get_or l.found.items i d).labels.items ≡ [];
}
