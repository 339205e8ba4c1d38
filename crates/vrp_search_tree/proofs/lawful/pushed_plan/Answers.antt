use Rattle.std.proofs.Common.{◌≡◌, ◌∙◌, ◌↔◌, ℕ, suc, ◌<◌, Bool, false, IsTrue, List, [], ◌∷◌, ◌++◌, length, take, drop, get_or, ap, sym, subst, append_assoc, drop-cons, arith}
use Rattle.std.proofs.lemmas.Grind.{common_steps}
use Rattle.std.proofs.lemmas.Int.{ints}
use Rattle.std.proofs.lemmas.List.{take-append-drop}
use Rattle.vrp_model.specs.Problem.{Problem}
use Rattle.vrp_model.specs.Word.{IsPrefix, IsLawfulWord}
use Rattle.vrp_model.proofs.PrefixesBefore.{prefixes_before}
use Rattle.vrp_search_tree.proofs.lawful.pushed_plan.Goals as goal

-- a word is what stands before a symbol, the symbol, and what stands behind it
at_symbol : (word : List ℕ) (i : ℕ) → i < length word → (take i word ++ get_or word i 0 ∷ []) ++ drop (suc i) word ≡ word
at_symbol word i here =
    append_assoc (take i word) (get_or word i 0 ∷ []) (drop (suc i) word) ∙ ap (λ (l : List ℕ). take i word ++ l) (sym (drop-cons word i 0 here)) ∙ take-append-drop i word

-- where a symbol makes no child, the word is no feasible one
no_child_no_word : (p : Problem) (word : List ℕ) (i : ℕ) → i < length word → (IsPrefix p (take i word ++ get_or word i 0 ∷ []) → ⊥) → IsLawfulWord p word → ⊥
no_child_no_word p word i here none lawful =
    none (prefixes_before p (take i word ++ get_or word i 0 ∷ []) (drop (suc i) word) (subst (IsPrefix p) (sym (at_symbol word i here)) lawful.prefix))

-- so it is where the prefix is pushed as far as the symbol
pushed_so_far : (p q : Problem) (before word : List ℕ) (i : ℕ) (makes : Bool) → q ≡ p → before ≡ take i word → i < length word → (IsTrue makes ↔ IsPrefix q (before ++ get_or word i 0 ∷ [])) → makes ≡ false
    → IsLawfulWord p word → ⊥
pushed_so_far p q before word i makes same is here child makes_none =
    no_child_no_word p word i here (λ prefix. absurd (let yes = child.1 (subst (λ (r : Problem). IsPrefix r (before ++ get_or word i 0 ∷ [])) (sym same) (subst (λ (l : List ℕ). IsPrefix p (l ++ get_or word i 0 ∷ [])) (sym is) prefix)) in cc (yes, makes_none)))

pub returns-then-not-child-clause-none : goal.returns-then-not-child-clause-none
returns-then-not-child-clause-none c =
    pushed_so_far c.args.partial.now.problem c.loop-symbol.partial.problem c.loop-symbol.partial.word c.args.word.now c.loop-symbol.symbol-index c.child.result c.loop-symbol.invariant.problem c.loop-symbol.invariant.word c.loop-symbol-test.true c.child.ensures
    c.if-not-child.true

pub loop-symbol-preserved : goal.loop-symbol-preserved
loop-symbol-preserved c = grind (ints, arith, common_steps)

pub returns-clause-word : goal.returns-clause-word
returns-clause-word c = grind (ints, arith, common_steps)
