use Rattle.std.proofs.Common.{◌≤◌, ◌∙◌, bit_and, eq-eqb, subst, sym}
use Rattle.std.specs.Int.{bit_at}
use Rattle.std.proofs.lemmas.Bool.{eqb-true}
use Rattle.vrp_model.specs.Problem.{customers}
use Rattle.vrp_duals.proofs.AllInSet.{are_in_set, within_set}
use Rattle.vrp_duals.proofs.RowBits.{part_bits, part_of_bits}
use Rattle.vrp_duals.proofs.needed.has_all_customers.Goals as goal

pub returns : goal.returns
returns c =
    let all = c.all_customers.result in
    let set = c.args.set in
    let stops = customers c.args.instance.now in (
      λ yes. are_in_set set stops (λ i. subst (λ n. bit_at n i ≤ bit_at set i) c.all_customers.ensures.value (part_bits all set (eqb-true (bit_and all set) all (sym c.is_subset.ensures ∙ yes)) i)),
      λ each. c.is_subset.ensures ∙ eq-eqb (bit_and all set) all (part_of_bits all set (λ i. subst (λ n. bit_at n i ≤ bit_at set i) (sym c.all_customers.ensures.value) (within_set set stops each i))),
    )
