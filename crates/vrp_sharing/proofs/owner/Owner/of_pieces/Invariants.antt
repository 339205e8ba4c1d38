use Rattle.std.proofs.Common.{◌≡◌, ◌≤◌, [], length}
use Rattle.crossbeam_deque.specs.Handles.{worker_capacity, worker_flavor, worker_index, worker_view}
use Rattle.vrp_sharing.specs.declared.limits.TheConstants.{MAX_DRAWERS}
use Rattle.vrp_sharing.specs.Inner.Piled.{draws}
use Rattle.vrp_sharing.proofs.owner.Owner.of_pieces.Given as goal

abbrev pub invariant-loop-piece : goal.invariant-loop-piece
invariant-loop-piece l = record {
  fifo : worker_flavor l.deque ≡ 0;
  known : worker_view l.deque ≡ draws MAX_DRAWERS l.yielded [];
  index : worker_index l.deque ≡ length l.yielded;
  room : length l.fn.pieces.items ≤ worker_capacity l.deque;
}
