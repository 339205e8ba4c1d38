use Rattle.std.proofs.Common.{sym, subst, [], ◌∷◌, ◌++◌, arith}
use Rattle.vrp_search_tree.specs.Partial.{PartialPlan}
use Rattle.vrp_search_tree.specs.Tally.{IsTally}
use Rattle.vrp_model.proofs.PrefixPlaces.{symbol_is_place}
use Rattle.vrp_search_tree.proofs.Tallies.{pushed, room_left}
use Rattle.vrp_search_tree.proofs.PartialViews.{child_inside}
use Rattle.vrp_search_tree.proofs.partial.Partial.push_counted.Goals as goal

pub push_reserved-requires : goal.push_reserved-requires
push_reserved-requires c =
    let after = child_inside c.self.inside.instance.now c.self.inside.word.items c.args.symbol c.args.self.now c.self.view_is c.requires.child in
    let room = room_left c.self.inside.instance.now c.self.inside.word.items c.args.symbol c.self.invariant.0.problem after in
    (omega arith, omega (arith, room, c.self.invariant.1))

pub push_reserved-requires-2 : goal.push_reserved-requires-2
push_reserved-requires-2 c =
    let after = child_inside c.self.inside.instance.now c.self.inside.word.items c.args.symbol c.args.self.now c.self.view_is c.requires.child in
    let room = room_left c.self.inside.instance.now c.self.inside.word.items c.args.symbol c.self.invariant.0.problem after in
    (omega arith, omega (arith, room, c.self.invariant.2, c.self.invariant.0.one_before_each))

pub index_mut-requires : goal.index_mut-requires
index_mut-requires c =
    let after = child_inside c.self.inside.instance.now c.self.inside.word.items c.args.symbol c.args.self.now c.self.view_is c.requires.child in
    omega (arith, symbol_is_place c.self.inside.instance.now c.self.inside.word.items c.args.symbol c.self.invariant.0.problem after, c.from.ensures, c.self.invariant.0.one_flag_each)

pub invariant_of-self : goal.invariant_of-self
invariant_of-self c =
    let after = child_inside c.self.inside.instance.now c.self.inside.word.items c.args.symbol c.args.self.now c.self.view_is c.requires.child in
    let now : IsTally c.self.inside.instance.now (c.self.inside.word.items ++ c.args.symbol ∷ []) c.args.tally = subst (λ (v : PartialPlan). IsTally v.problem (v.word ++ c.args.symbol ∷ []) c.args.tally) (sym c.self.view_is) c.requires.tally in
    let are = pushed c.self.inside.instance.now c.self.inside.word.items c.args.symbol c.self.inside.served.items c.self.inside.before.items c.self.inside.tally c.args.tally c.self.invariant.0 after now in (
      rw (c.push_reserved.ensures.items, c.push_reserved-2.ensures.items, c.from.ensures) are,
      omega (arith, c.push_reserved.ensures.capacity, c.self.invariant.1),
      omega (arith, c.push_reserved-2.ensures.capacity, c.self.invariant.2),
    )
