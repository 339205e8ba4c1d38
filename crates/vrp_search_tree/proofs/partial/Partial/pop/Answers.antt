use Rattle.std.proofs.Common.{◌≡◌, ◌∙◌, subst, ap, [], ◌∷◌, ◌++◌, ℕ, List, arith}
use Rattle.vrp_model.specs.Word.{IsPrefix}
use Rattle.vrp_model.proofs.PrefixPlaces.{symbol_is_place}
use Rattle.vrp_search_tree.specs.Inner.Tallied.{AreTallied}
use Rattle.std.specs.Option.{option_to_list}
use Rattle.vrp_search_tree.proofs.Tallies.{popped}
use Rattle.vrp_search_tree.proofs.partial.Partial.pop.Goals as goal

pub index_mut-requires : goal.index_mut-requires
index_mut-requires c =
    let word : c.self.inside.word.items ≡ c.pop.new.self.items ++ c.unwrap-symbol.result ∷ [] = c.pop.ensures.items ∙ ap (λ o. c.pop.new.self.items ++ option_to_list o) c.unwrap-symbol.ensures in
    let prefix = subst (IsPrefix c.self.inside.instance.now) word c.self.invariant.0.prefix in
    let below = symbol_is_place c.self.inside.instance.now c.pop.new.self.items c.unwrap-symbol.result c.self.invariant.0.problem prefix in
    omega (arith, below, c.from.ensures, c.self.invariant.0.one_flag_each)

pub invariant_of-self : goal.invariant_of-self
invariant_of-self c =
    let word : c.self.inside.word.items ≡ c.pop.new.self.items ++ c.unwrap-symbol.result ∷ [] = c.pop.ensures.items ∙ ap (λ o. c.pop.new.self.items ++ option_to_list o) c.unwrap-symbol.ensures in
    let before : c.self.inside.before.items ≡ c.pop-2.new.self.items ++ c.unwrap-self-inside.result ∷ [] = c.pop-2.ensures.items ∙ ap (λ o. c.pop-2.new.self.items ++ option_to_list o) c.unwrap-self-inside.ensures in
    let are = subst (λ (b : List _). AreTallied c.self.inside.instance.now (c.pop.new.self.items ++ c.unwrap-symbol.result ∷ []) c.self.inside.served.items b c.self.inside.tally) before
    (subst (λ (w : List ℕ). AreTallied c.self.inside.instance.now w c.self.inside.served.items c.self.inside.before.items c.self.inside.tally) word c.self.invariant.0) in (
      rw (c.from.ensures) (popped c.self.inside.instance.now c.pop.new.self.items c.unwrap-symbol.result c.self.inside.served.items c.pop-2.new.self.items c.unwrap-self-inside.result c.self.inside.tally are),
      omega (arith, c.pop.ensures.capacity, c.self.invariant.1),
      omega (arith, c.pop-2.ensures.capacity, c.self.invariant.2),
    )

pub returns-clause-small : goal.returns-clause-small
returns-clause-small c =
    let word : c.self.inside.word.items ≡ c.pop.new.self.items ++ c.unwrap-symbol.result ∷ [] = c.pop.ensures.items ∙ ap (λ o. c.pop.new.self.items ++ option_to_list o) c.unwrap-symbol.ensures in
    let prefix = subst (IsPrefix c.self.inside.instance.now) word c.self.invariant.0.prefix in
    let below = symbol_is_place c.self.inside.instance.now c.pop.new.self.items c.unwrap-symbol.result c.self.invariant.0.problem prefix in
    omega (arith, below, c.self.invariant.0.problem.few_places)
