-- The children of a prefix, put behind a list one by one.
use Rattle.std.proofs.Common.{◌≡◌, ℕ, ◌+◌, ◌≤◌, ◌<◌, List, [], ◌∷◌, ◌++◌, length, length-append, get_or, refl, sym, ap, subst, ◌∙◌, inl, inr, arith, append_assoc}
use Rattle.std.specs.Prelude.{map, ◌↔◌}
use Rattle.std.specs.List.{All, Contains}
use Rattle.std.specs.List.Sorted.{IsStrictlyIncreasing}
use Rattle.std.proofs.Math.ListN.{get_or-append}
use Rattle.std.proofs.lemmas.Bool.{cases_lt}
use Rattle.std.proofs.lemmas.List.{get_or_push, length-map, length_push, map-append}
use Rattle.std.proofs.lemmas.List.Elements.{All-contains_itself, Contains-append_left, Contains-push, Contains-push_cases}
use Rattle.vrp_model.specs.Problem.{IsProblem, Problem, place_count}
use Rattle.vrp_model.specs.Word.{IsPrefix}
use Rattle.vrp_model.proofs.PrefixPlaces.{symbol_is_place}
use Rattle.vrp_search_tree.specs.Inner.Pass.{AreAdded}

-- the children by symbols below a bound stand behind a list
pub record AddedBelow (p : Problem) (prefix : List ℕ) (bound : ℕ) (old new : List (List ℕ)) : Type 0 where
  pub symbols : List ℕ
  pub rising : IsStrictlyIncreasing symbols
  pub each : (k : ℕ) → Contains symbols k ↔ ((k < bound) × IsPrefix p (prefix ++ k ∷ []))
  pub few : length symbols ≤ bound
  pub behind : new ≡ old ++ map (λ k. prefix ++ k ∷ []) symbols

-- a symbol that makes no child
pub added_not : (p : Problem) (prefix : List ℕ) (k : ℕ) (old new : List (List ℕ)) → AddedBelow p prefix k old new → (IsPrefix p (prefix ++ k ∷ []) → ⊥) → AddedBelow p prefix (k + 1) old new
added_not p prefix k old new so_far never =
    record {
      symbols = so_far.symbols;
      rising = so_far.rising;
      each = λ j. (
        λ contained. (let both = (so_far.each j).0 contained in (omega (arith, both.0), both.1)),
        λ both. elim (cases_lt j k) [
          | inl lt ↦ (so_far.each j).1 (lt, both.1)
          | inr ge ↦ absurd (never (subst (λ n. IsPrefix p (prefix ++ n ∷ [])) (let same : j ≡ k = omega (arith, ge, both.0) in same) both.1))
        ],
      );
      few = omega (arith, so_far.few);
      behind = so_far.behind;
    }

rising_push : (xs : List ℕ) (k : ℕ) → IsStrictlyIncreasing xs → All (λ x. x < k) xs → IsStrictlyIncreasing (xs ++ k ∷ [])
rising_push xs k rising below = λ i lt.
    let long = length_push xs k in
    let low : get_or (xs ++ k ∷ []) i 0 ≡ get_or xs i 0 = get_or-append xs (k ∷ []) 0 i (omega (arith, lt, long)) in
    elim (cases_lt (i + 1) (length xs)) [
      | inl within ↦
          let high : get_or (xs ++ k ∷ []) (i + 1) 0 ≡ get_or xs (i + 1) 0 = get_or-append xs (k ∷ []) 0 (i + 1) within in
          omega (arith, low, high, rising i within)
      | inr last ↦
          let high : get_or (xs ++ k ∷ []) (i + 1) 0 ≡ k = get_or_push xs k 0 (i + 1) (omega (arith, last, lt, long)) in
          omega (arith, low, high, below i 0 (omega (arith, lt, long)))
    ]

-- a symbol that makes one
pub added_child : (p : Problem) (prefix : List ℕ) (k : ℕ) (old new : List (List ℕ)) → AddedBelow p prefix k old new → IsPrefix p (prefix ++ k ∷ []) → AddedBelow p prefix (k + 1) old (new ++ (prefix ++ k ∷ []) ∷ [])
added_child p prefix k old new so_far is_child =
    record {
      symbols = so_far.symbols ++ k ∷ [];
      rising = rising_push so_far.symbols k so_far.rising (λ i d lt. ((so_far.each (get_or so_far.symbols i d)).0 (All-contains_itself so_far.symbols i d lt)).0);
      each = λ j. (
        λ contained. elim (Contains-push_cases so_far.symbols k j contained) [
          | inl before ↦ (let both = (so_far.each j).0 before in (omega (arith, both.0), both.1))
          | inr same ↦ (omega (arith, same), subst (λ n. IsPrefix p (prefix ++ n ∷ [])) same is_child)
        ],
        λ both. elim (cases_lt j k) [
          | inl lt ↦ Contains-append_left so_far.symbols (k ∷ []) j ((so_far.each j).1 (lt, both.1))
          | inr ge ↦ subst (Contains (so_far.symbols ++ k ∷ [])) (let same : k ≡ j = omega (arith, ge, both.0) in same) (Contains-push so_far.symbols k)
        ],
      );
      few = omega (arith, so_far.few, length_push so_far.symbols k);
      behind =
          let made = map-append (λ k. prefix ++ k ∷ []) so_far.symbols (k ∷ []) in
          ap (λ (xs : List (List ℕ)). xs ++ (prefix ++ k ∷ []) ∷ []) so_far.behind
          ∙ append_assoc old (map (λ k. prefix ++ k ∷ []) so_far.symbols) ((prefix ++ k ∷ []) ∷ [])
          ∙ ap (λ (xs : List (List ℕ)). old ++ xs) (sym made);
    }

pub added_all : (p : Problem) (prefix : List ℕ) (k : ℕ) (old new : List (List ℕ)) → IsProblem p → k ≡ place_count p → AddedBelow p prefix k old new → AreAdded p prefix old new
added_all p prefix k old new problem all so_far =
    record {
      children = map (λ k. prefix ++ k ∷ []) so_far.symbols;
      are = record {
        symbols = so_far.symbols;
        rising = so_far.rising;
        each = λ j. (λ contained. ((so_far.each j).0 contained).1, λ child. (so_far.each j).1 (let below = symbol_is_place p prefix j problem child in omega (arith, below, all), child));
        are = refl;
      };
      few = omega (arith, length-map so_far.symbols (λ k. prefix ++ k ∷ []), so_far.few, all, problem.few_places);
      behind = so_far.behind;
    }

pub added_below_few : (p : Problem) (prefix : List ℕ) (k : ℕ) (old new : List (List ℕ)) → AddedBelow p prefix k old new → length new ≤ length old + k
added_below_few p prefix k old new so_far =
    omega (arith, ap length so_far.behind, length-append old (map (λ k. prefix ++ k ∷ []) so_far.symbols), length-map so_far.symbols (λ k. prefix ++ k ∷ []), so_far.few)

pub some_added : (p : Problem) (prefix : List ℕ) (old new : List (List ℕ)) (added : AreAdded p prefix old new) → length old < length new → 0 < length added.children
some_added p prefix old new added longer = omega (arith, ap length added.behind, length-append old added.children, longer)
