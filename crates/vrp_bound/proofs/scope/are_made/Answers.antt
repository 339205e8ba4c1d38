use Rattle.std.proofs.Common.{◌+◌, ◌*◌, ◌≤◌, length, arith}
use Rattle.std.proofs.lemmas.Nat.{mul-le}
use Rattle.vrp_bound.proofs.scope.are_made.Goals as goal

pub overflow_add-room : goal.overflow_add-room
overflow_add-room c = omega (arith, c.min-room.ensures, c.capacity.ensures.small)

pub overflow_mul-room : goal.overflow_mul-room
overflow_mul-room c = omega (arith, mul-le (c.min-room.result + 1) (length c.args.scope.customers.now) 1000000001 1200 (omega (arith, c.min-room.ensures, c.capacity.ensures.small)) c.args.scope.few)

pub overflow_mul-room-2 : goal.overflow_mul-room-2
overflow_mul-room-2 c =
    let count = length c.args.scope.customers.now in
    let rows : (c.min-room.result + 1) * count ≤ 1200000001200 = omega (arith, mul-le (c.min-room.result + 1) count 1000000001 1200 (omega (arith, c.min-room.ensures, c.capacity.ensures.small)) c.args.scope.few) in
    omega (arith, mul-le ((c.min-room.result + 1) * count) count 1200000001200 1200 rows c.args.scope.few)
