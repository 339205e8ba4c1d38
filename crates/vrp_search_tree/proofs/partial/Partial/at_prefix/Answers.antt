use Rattle.std.proofs.Common.{◌≡◌, ◌+◌, [], ◌∷◌, ◌++◌, take, drop, sym, subst, arith}
use Rattle.std.proofs.lemmas.Grind.{common_steps}
use Rattle.std.proofs.lemmas.Int.{ints}
use Rattle.std.specs.Prelude.{slice_index_or}
use Rattle.std.proofs.lemmas.List.{take-append-drop, take_more}
use Rattle.vrp_model.specs.Word.{IsPrefix}
use Rattle.vrp_model.proofs.PrefixesBefore.{prefixes_before}
use Rattle.vrp_search_tree.specs.Partial.{PartialPlan}
use Rattle.vrp_search_tree.proofs.partial.Partial.at_prefix.Goals as goal

pub push-requires : goal.push-requires
push-requires c =
    let prefix = c.args.prefix.now in
    let i = c.loop-symbol.symbol-index in
    let whole : prefix ≡ take (i + 1) prefix ++ drop (i + 1) prefix = sym (take-append-drop (i + 1) prefix) in
    let before : IsPrefix c.args.instance.now (take (i + 1) prefix) = prefixes_before c.args.instance.now (take (i + 1) prefix) (drop (i + 1) prefix) (subst (IsPrefix c.args.instance.now) whole c.requires) in
    let more : IsPrefix c.args.instance.now (take i prefix ++ slice_index_or prefix i 0 ∷ []) = subst (IsPrefix c.args.instance.now) (take_more prefix i 0 (omega (arith, c.loop-symbol-test.true))) before in
    subst (λ (v : PartialPlan). IsPrefix v.problem (v.word ++ slice_index_or prefix i 0 ∷ [])) (sym c.loop-symbol.invariant.word) more

pub loop-symbol-preserved : goal.loop-symbol-preserved
loop-symbol-preserved c = grind (ints, arith, common_steps)

pub returns : goal.returns
returns c = grind (ints, arith, common_steps)
