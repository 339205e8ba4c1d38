-- Cuttings in which a prefix is replaced by its children, or by itself.
use Rattle.std.proofs.Common.{ℕ, ◌+◌, ◌<◌, Bool, true, false, List, [], ◌∷◌, ◌++◌, length, length-append, get_or, sym, ap, subst, ◌∙◌, arith, append_assoc}
use Rattle.std.specs.List.{All}
use Rattle.std.proofs.Math.Seq.{get_or-append-add}
use Rattle.std.proofs.lemmas.List.Elements.{All-append, All-contains_itself, All-map, All-tail}
use Rattle.vrp_model.specs.Problem.{Problem}
use Rattle.vrp_model.specs.Word.{IsPrefix}
use Rattle.vrp_model.proofs.PrefixWithSymbol.{All-left}
use Rattle.vrp_search_tree.specs.Child.{AreChildren}
use Rattle.vrp_search_tree.specs.Cutting.{IsCutting, begins_with}
use Rattle.vrp_search_tree.specs.Inner.Pass.{StandsFor}
use Rattle.vrp_search_tree.proofs.BeginsCounted.{count-append, count-cons, count_children}

All-right : {X : Type 0} (P : X → Type 0) (xs ys : List X) → All P (xs ++ ys) → All P ys
All-right P xs ys all = λ k d lt. subst P (get_or-append-add xs ys k d) (all (length xs + k) d (omega (arith, lt, length-append xs ys)))

pub children_are_prefixes : (p : Problem) (prefix : List ℕ) (children : List (List ℕ)) → AreChildren p prefix children → All (IsPrefix p) children
children_are_prefixes p prefix children are =
    subst (All (IsPrefix p)) (sym are.are)
    (All-map (IsPrefix p) (λ k. prefix ++ k ∷ []) are.symbols (λ i d lt. (are.each (get_or are.symbols i d)).0 (All-contains_itself are.symbols i d lt)))

-- a prefix in the middle
pub prefix_between : (p : Problem) (before after : List (List ℕ)) (prefix : List ℕ) → IsCutting p (before ++ prefix ∷ after) → IsPrefix p prefix
prefix_between p before after prefix cut = All-right (IsPrefix p) before (prefix ∷ after) cut.each 0 prefix (omega arith)

-- a prefix gives way to its children
pub children_instead : (p : Problem) (before after : List (List ℕ)) (prefix : List ℕ) (children : List (List ℕ)) → IsCutting p (before ++ prefix ∷ after) → AreChildren p prefix children → 0 < length children
    → IsCutting p ((before ++ children) ++ after)
children_instead p before after prefix children cut are some =
    record {
      each = All-append (IsPrefix p) (before ++ children) after
          (All-append (IsPrefix p) before children (All-left (IsPrefix p) before (prefix ∷ after) cut.each) (children_are_prefixes p prefix children are))
          (All-tail (IsPrefix p) prefix after (All-right (IsPrefix p) before (prefix ∷ after) cut.each));
      one = λ word lawful.
          let test = begins_with word in
          omega (
            arith,
            cut.one word lawful,
            count-append test before (prefix ∷ after),
            count-cons test prefix after,
            count-append test (before ++ children) after,
            count-append test before children,
            count_children p prefix word children (prefix_between p before after prefix cut) lawful are some,
          );
    }

pub stands_instead : (p : Problem) (before after : List (List ℕ)) (prefix : List ℕ) (refined : Bool) (prefixes : List (List ℕ)) → IsCutting p (before ++ prefix ∷ after) → StandsFor p prefix refined prefixes
    → IsCutting p ((before ++ prefixes) ++ after)
stands_instead p before after prefix true prefixes cut stand = children_instead p before after prefix prefixes cut stand.0 stand.1
stands_instead p before after prefix false prefixes cut stand =
    subst (IsCutting p) (sym (append_assoc before prefixes after ∙ ap (λ (xs : List (List ℕ)). before ++ (xs ++ after)) stand)) cut
