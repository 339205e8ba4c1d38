use Rattle.std.proofs.Common.{◌≡◌, ◌+◌, ◌≤◌, length}
use Rattle.std.specs.Prelude.{vec_capacity}
use Rattle.vrp_search_tree.proofs.UnservedListed.{unserved_below}
use Rattle.vrp_search_tree.proofs.partial.Partial.list_unserved.Given as goal

abbrev pub invariant-loop-customer : goal.invariant-loop-customer
invariant-loop-customer l = record {
  listed : l.list.items ≡ unserved_below l.self.word l.customer;
  short : length l.list.items + 1 ≤ l.customer;
  room : vec_capacity l.list ≡ vec_capacity l.fn.list;
}
