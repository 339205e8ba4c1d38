-- The tree of a prefix: the prefix itself, and the trees of its children.
use Rattle.std.proofs.Common.{◌≡◌, ◌≢◌, ℕ, zero, suc, ◌+◌, ◌≤◌, List, [], ◌∷◌, ◌++◌, length, length-append, get_or, refl, sym, ap, subst, ◌∙◌, append_assoc, append-nil, arith}
use Rattle.std.specs.List.{All, Contains, sum_by}
use Rattle.std.specs.List.Sorted.{IsStrictlyIncreasing}
use Rattle.std.specs.Prelude.{◌↔◌}
use Rattle.std.proofs.lemmas.List.Elements.{All-append, All-cons, All-contains, All-contains_itself, All-nil, Contains-append_left, Contains-append_right}
use Rattle.std.proofs.lemmas.List.Kept.{AllPairs-cons, AllPairs-from_increasing}
use Rattle.std.proofs.lemmas.List.Sums.{sum_by-cons}
use Rattle.vrp_model.specs.Problem.{Problem}
use Rattle.vrp_model.specs.Word.{BeginsWith, IsPrefix, IsTree, TreeHas, TreeHasAtLeast}
use Rattle.vrp_model.proofs.DistinctWithin.{length_among}
use Rattle.vrp_model.proofs.PrefixesBefore.{prefixes_before, same_prefix}
use Rattle.vrp_model.proofs.DistinctLists.{AreDistinct, behind_head, head_differs, tail_distinct}

-- two lists without a common item, joined
distinct_append : (xs ys : List (List ℕ)) → AreDistinct xs → AreDistinct ys → ((x : List ℕ) → Contains xs x → Contains ys x → ⊥) → AreDistinct (xs ++ ys)
distinct_append [] ys one other apart = other
distinct_append (x ∷ xs) ys one other apart =
    AllPairs-cons (λ a b. a ≢ b) x (xs ++ ys)
    (All-append (λ y. x ≢ y) xs ys (head_differs x xs one) (λ k d lt same. apart x (0, omega arith, refl) (subst (Contains ys) (sym same) (All-contains_itself ys k d lt))))
    (distinct_append xs ys (tail_distinct x xs one) other (λ y here there. apart y (behind_head x y xs here) there))

-- the prefixes that begin with one of a prefix's children, each once
record AreUnder (p : Problem) (prefix symbols : List ℕ) (prefixes : List (List ℕ)) : Type 0 where
  pub once : AreDistinct prefixes
  pub each : All (λ w. IsPrefix p w × ((k : ℕ) × Contains symbols k × BeginsWith w (prefix ++ k ∷ []))) prefixes
  pub every : (w : List ℕ) (k : ℕ) → Contains symbols k → IsPrefix p w → BeginsWith w (prefix ++ k ∷ []) → Contains prefixes w

-- a word goes on behind a prefix by one symbol
one_symbol : (prefix w : List ℕ) (j k : ℕ) → BeginsWith w (prefix ++ j ∷ []) → BeginsWith w (prefix ++ k ∷ []) → j ≡ k
one_symbol prefix w j k first second =
    let e : j ∷ first.0 ≡ k ∷ second.0 = same_prefix prefix (j ∷ first.0) (k ∷ second.0) (sym (first.1 ∙ append_assoc prefix (j ∷ []) first.0) ∙ second.1 ∙ append_assoc prefix (k ∷ []) second.0) in
    cc

first_or_other : (p : Problem) (prefix : List ℕ) (k j : ℕ) (symbols : List ℕ) (tree prefixes : List (List ℕ)) (w : List ℕ) → IsTree p (prefix ++ k ∷ []) tree → AreUnder p prefix symbols prefixes → Contains (k ∷ symbols) j → IsPrefix p w → BeginsWith w (prefix ++ j ∷ []) → Contains (tree ++ prefixes) w
first_or_other p prefix k j symbols tree prefixes w is_tree under (zero, lt, is) is_prefix begins =
    Contains-append_left tree prefixes w (is_tree.every w is_prefix (subst (λ n. BeginsWith w (prefix ++ n ∷ [])) (sym is) begins))
first_or_other p prefix k j symbols tree prefixes w is_tree under (suc i, lt, is) is_prefix begins =
    Contains-append_right tree prefixes w (under.every w j (i, omega (arith, lt), is) is_prefix begins)

one_more_child : (p : Problem) (prefix : List ℕ) (k : ℕ) (symbols : List ℕ) (tree prefixes : List (List ℕ)) → All (λ j. k ≢ j) symbols → IsTree p (prefix ++ k ∷ []) tree → AreUnder p prefix symbols prefixes → AreUnder p prefix (k ∷ symbols) (tree ++ prefixes)
one_more_child p prefix k symbols tree prefixes differs is_tree under =
    let Under : List ℕ → Type 0 = λ w. IsPrefix p w × ((j : ℕ) × Contains (k ∷ symbols) j × BeginsWith w (prefix ++ j ∷ [])) in
    record {
      once = distinct_append tree prefixes is_tree.once under.once (λ w here there.
          let one = All-contains (λ v. IsPrefix p v × BeginsWith v (prefix ++ k ∷ [])) tree w is_tree.each here in
          let other = All-contains (λ v. IsPrefix p v × ((j : ℕ) × Contains symbols j × BeginsWith v (prefix ++ j ∷ []))) prefixes w under.each there in
          let (j, known, begins) = other.1 in
          All-contains (λ i. k ≢ i) symbols j differs known (one_symbol prefix w k j one.1 begins));
      each = All-append Under tree prefixes
          (λ i d lt. (let one = is_tree.each i d lt in (one.0, (k, (0, omega arith, refl), one.1))))
          (λ i d lt. (let one = under.each i d lt in let (j, known, begins) = one.1 in (one.0, (j, behind_head k j symbols known, begins))));
      every = λ w j known is_prefix begins. first_or_other p prefix k j symbols tree prefixes w is_tree under known is_prefix begins;
    }

-- all trees of the children with these symbols
trees_of : (p : Problem) (prefix symbols : List ℕ) (size : ℕ → ℕ) → AreDistinct symbols → All (λ k. TreeHas p (prefix ++ k ∷ []) (size k)) symbols
    → (prefixes : List (List ℕ)) × AreUnder p prefix symbols prefixes × (length prefixes ≡ sum_by size symbols)
trees_of p prefix [] size once trees = ([], record { once = λ i j d lt within. absurd (omega (arith, within)); each = All-nil (λ w. IsPrefix p w × ((k : ℕ) × Contains [] k × BeginsWith w (prefix ++ k ∷ []))); every = λ w k known is_prefix begins. absurd (omega (arith, known.1)) }, refl)
trees_of p prefix (k ∷ symbols) size once trees =
    let (tree, is_tree, many) = trees 0 k (omega arith) in
    let (prefixes, under, others) = trees_of p prefix symbols size (tail_distinct k symbols once) (λ i d lt. trees (suc i) d (omega (arith, lt))) in
    (tree ++ prefixes, one_more_child p prefix k symbols tree prefixes (head_differs k symbols once) is_tree under, omega (arith, length-append tree prefixes, many, others, sum_by-cons size k symbols))

itself_or_under : (p : Problem) (prefix symbols : List ℕ) (prefixes : List (List ℕ)) (w more : List ℕ) → ((k : ℕ) → Contains symbols k ↔ IsPrefix p (prefix ++ k ∷ [])) → AreUnder p prefix symbols prefixes → IsPrefix p w → w ≡ prefix ++ more → Contains (prefix ∷ prefixes) w
itself_or_under p prefix symbols prefixes w [] children under is_prefix is = (0, omega arith, sym (is ∙ append-nil prefix))
itself_or_under p prefix symbols prefixes w (k ∷ more) children under is_prefix is =
    let whole : w ≡ (prefix ++ k ∷ []) ++ more = is ∙ sym (append_assoc prefix (k ∷ []) more) in
    let child : IsPrefix p (prefix ++ k ∷ []) = prefixes_before p (prefix ++ k ∷ []) more (subst (IsPrefix p) whole is_prefix) in
    behind_head prefix w prefixes (under.every w k ((children k).1 child) is_prefix (more, whole))

longer_differs : (prefix w more : List ℕ) (k : ℕ) → w ≡ (prefix ++ k ∷ []) ++ more → prefix ≢ w
longer_differs prefix w more k is same = omega (arith, ap length (same ∙ is), length-append (prefix ++ k ∷ []) more, length-append prefix (k ∷ []))

-- the tree of a prefix is itself and the trees of its children
pub tree_of_children : (p : Problem) (prefix symbols : List ℕ) (size : ℕ → ℕ) → IsPrefix p prefix → IsStrictlyIncreasing symbols → ((k : ℕ) → Contains symbols k ↔ IsPrefix p (prefix ++ k ∷ [])) → All (λ k. TreeHas p (prefix ++ k ∷ []) (size k)) symbols
    → TreeHas p prefix (1 + sum_by size symbols)
tree_of_children p prefix symbols size is_prefix rising children trees =
    let below = AllPairs-from_increasing symbols rising in
    let distinct : AreDistinct symbols = λ i j d lt within same. absurd (omega (arith, below i j d lt within, same)) in
    let (prefixes, under, many) = trees_of p prefix symbols size distinct trees in (
      prefix ∷ prefixes,
      record {
        once = AllPairs-cons (λ a b. a ≢ b) prefix prefixes (λ i d lt. (let one = under.each i d lt in let (k, known, begins) = one.1 in longer_differs prefix (get_or prefixes i d) begins.0 k begins.1)) under.once;
        each = All-cons (λ w. IsPrefix p w × BeginsWith w prefix) prefix prefixes (is_prefix, ([], sym (append-nil prefix)))
            (λ i d lt. (let one = under.each i d lt in let (k, known, begins) = one.1 in (one.0, (k ∷ begins.0, begins.1 ∙ append_assoc prefix (k ∷ []) begins.0))));
        every = λ w prefix_too begins. itself_or_under p prefix symbols prefixes w begins.0 children under prefix_too begins.1;
      },
      omega (arith, many),
    )

-- a tree has no more prefixes than it has
pub tree_at_most : (p : Problem) (prefix : List ℕ) (size n : ℕ) → TreeHas p prefix size → TreeHasAtLeast p prefix n → n ≤ size
tree_at_most p prefix size n tree least =
    let within : All (Contains tree.0) least.0 = λ i d lt. (let one = least.2 i d lt in tree.1.every (get_or least.0 i d) one.0 one.1) in
    omega (arith, length_among least.0 tree.0 least.1 within, tree.2, least.3)

-- and at least as many
pub tree_at_least : (p : Problem) (prefix : List ℕ) (size n : ℕ) → TreeHas p prefix size → n ≤ size → TreeHasAtLeast p prefix n
tree_at_least p prefix size n tree few = (tree.0, tree.1.once, tree.1.each, omega (arith, few, tree.2))
