use Rattle.std.proofs.Common.{◌≡◌}
use Rattle.crossbeam_deque.specs.Handles.{IsPassOf, stealer_deque, stealer_flavor, view}
use Rattle.vrp_sharing.proofs.thief.Thief.take.Given as goal

abbrev pub invariant-loop : goal.invariant-loop
invariant-loop l = record {
  fifo : stealer_flavor l.self-inside.deque ≡ 0;
  pass : IsPassOf (stealer_deque l.self-inside.deque) l.self-inside.pass;
  same : stealer_deque l.self-inside.deque ≡ stealer_deque l.initial.self-inside.deque;
  part : (view l.self-inside.pass).parts ≡ 1;
  known : view l.self-inside.pass ≡ view l.initial.self-inside.pass;
}
