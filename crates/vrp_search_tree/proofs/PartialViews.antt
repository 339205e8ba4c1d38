-- What is said of a partial plan's view, said of the parts that it is made of, and the other way round.
use Rattle.std.proofs.Common.{◌≡◌, ◌∙◌, ◌++◌, ◌∷◌, [], List, ℕ, ap, subst, sym}
use Rattle.vrp_model.specs.Problem.{Problem}
use Rattle.vrp_model.specs.Word.{IsPrefix, last_symbol}
use Rattle.vrp_search_tree.specs.Partial.{PartialPlan}

abbrev view : Problem → List ℕ → PartialPlan
view p word = record { problem = p; word = word }

pub child_inside : (p : Problem) (word : List ℕ) (k : ℕ) (v : PartialPlan) → view p word ≡ v → IsPrefix v.problem (v.word ++ k ∷ []) → IsPrefix p (word ++ k ∷ [])
child_inside p word k v is prefix = subst (λ (w : PartialPlan). IsPrefix w.problem (w.word ++ k ∷ [])) (sym is) prefix

pub child_outside : (p : Problem) (word : List ℕ) (k : ℕ) (v : PartialPlan) → view p word ≡ v → IsPrefix p (word ++ k ∷ []) → IsPrefix v.problem (v.word ++ k ∷ [])
child_outside p word k v is prefix = subst (λ (w : PartialPlan). IsPrefix w.problem (w.word ++ k ∷ [])) is prefix

pub at_inside : (p : Problem) (word : List ℕ) (at : ℕ) (v : PartialPlan) → view p word ≡ v → at ≡ last_symbol v.word → at ≡ last_symbol word
at_inside p word at v is ends = ends ∙ ap (λ (w : PartialPlan). last_symbol w.word) (sym is)
