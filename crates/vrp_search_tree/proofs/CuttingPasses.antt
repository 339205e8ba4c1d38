-- Passes over a cutting.
use Rattle.std.proofs.Common.{◌≡◌, ℕ, ◌+◌, ◌*◌, ◌≤◌, ◌<◌, Bool, true, false, List, [], ◌∷◌, ◌++◌, length, length-append, get_or, refl, sym, ap, subst, ◌∙◌, inl, inr, ◌⊎◌, arith, append-nil, drop-cons, length-drop, ◌-◌, max, append_assoc}
use Rattle.std.specs.Prelude.{map, drop, nat_lt, ◌||◌}
use Rattle.std.specs.List.{All, Contains}
use Rattle.std.proofs.lemmas.Bool.Decides.{nat_tests}
use Rattle.std.proofs.lemmas.Bool.{cases_lt}
use Rattle.std.proofs.lemmas.List.{drop_all, length-map, length_push}
use Rattle.std.proofs.lemmas.List.Elements.{All-append, All-cons, All-contains, All-map, All-nil, Contains-get_or}
use Rattle.vrp_model.specs.Problem.{IsProblem, Problem, place_count}
use Rattle.vrp_model.specs.Word.{BeginsWith, IsPrefix}
use Rattle.vrp_model.specs.declared.limits.TheConstants.{MAX_NODES}
use Rattle.vrp_search_tree.specs.Cutting.{BeginsAmong, HasNoChild, IsCutting, NumberedWord}
use Rattle.vrp_search_tree.specs.Inner.Pass.{AreDeep, IsPass, IsStep, StandsFor}
use Rattle.vrp_search_tree.proofs.BeginsCounted.{either}
use Rattle.vrp_search_tree.proofs.PrefixLength.{prefixes_are_short}
use Rattle.vrp_search_tree.proofs.CuttingReplaced.{prefix_between, stands_instead}
use Rattle.vrp_search_tree.proofs.PieceRefined.{pieces_from}

-- ---- what a word begins with

begins_with_itself : (word : List ℕ) → BeginsWith word word
begins_with_itself word = ([], sym (append-nil word))

begins_further : (word prefix start : List ℕ) → BeginsWith word prefix → BeginsWith prefix start → BeginsWith word start
begins_further word prefix start (rest, is) (more, from) = (more ++ rest, is ∙ ap (λ (xs : List ℕ). xs ++ rest) from ∙ append_assoc start more rest)

-- what lies under prefixes that lie under others lies under these
pub begin_further : (start old new : List (List ℕ)) → All (BeginsAmong start) old → All (BeginsAmong old) new → All (BeginsAmong start) new
begin_further start old new from begins = λ i d lt.
    let (prefix, among, here) = begins i d lt in
    let (first, contained, before) = All-contains (BeginsAmong start) old prefix from among in
    (first, contained, begins_further (get_or new i d) prefix first here before)

-- ---- what stands for a prefix

-- what stands for a prefix is deeper
prefixes_deep : (p : Problem) (prefix : List ℕ) (refined : Bool) (prefixes : List (List ℕ)) (depth : ℕ) → StandsFor p prefix refined prefixes → (refined ≡ false → HasNoChild p prefix) → HasNoChild p prefix ⊎ (depth ≤ length prefix)
    → AreDeep p (depth + 1) prefixes
prefixes_deep p prefix true prefixes depth stand none (inl childless) =
    let are = stand.0 in
    let long : length prefixes ≡ length are.symbols = ap length are.are ∙ length-map are.symbols (λ k. prefix ++ k ∷ []) in
    let some : 0 < length prefixes = stand.1 in
    absurd (childless (get_or are.symbols 0 0) (omega arith) ((are.each (get_or are.symbols 0 0)).0 (Contains-get_or are.symbols 0 0 (omega (arith, some, long)))))
prefixes_deep p prefix true prefixes depth stand none (inr deep) =
    let are = stand.0 in
    subst (AreDeep p (depth + 1)) (sym are.are)
    (All-map (λ w. HasNoChild p w ⊎ (depth + 1 ≤ length w)) (λ k. prefix ++ k ∷ []) are.symbols (λ i d lt. inr (omega (arith, deep, length_push prefix (get_or are.symbols i d)))))
prefixes_deep p prefix false prefixes depth stand none deep =
    subst (AreDeep p (depth + 1)) (sym stand) (All-cons (λ w. HasNoChild p w ⊎ (depth + 1 ≤ length w)) prefix [] (inl (none refl)) (All-nil _))

prefixes_childless : (p : Problem) (prefix : List ℕ) (refined : Bool) (prefixes : List (List ℕ)) → refined ≡ false → StandsFor p prefix refined prefixes → HasNoChild p prefix → All (HasNoChild p) prefixes
prefixes_childless p prefix true prefixes isnt stand none = absurd (cc isnt)
prefixes_childless p prefix false prefixes isnt stand none = subst (All (HasNoChild p)) (sym stand) (All-cons (HasNoChild p) prefix [] none (All-nil (HasNoChild p)))

one_prefix : (p : Problem) (prefix : List ℕ) (refined : Bool) (prefixes : List (List ℕ)) → refined ≡ false → StandsFor p prefix refined prefixes → length prefixes ≡ 1
one_prefix p prefix true prefixes isnt stand = absurd (cc isnt)
one_prefix p prefix false prefixes isnt stand = ap length stand

-- what stands for a prefix lies under it
prefixes_behind : (p : Problem) (prefix : List ℕ) (refined : Bool) (prefixes : List (List ℕ)) → StandsFor p prefix refined prefixes → All (λ w. BeginsWith w prefix) prefixes
prefixes_behind p prefix true prefixes stand =
    let are = stand.0 in
    subst (All (λ w. BeginsWith w prefix)) (sym are.are) (All-map (λ w. BeginsWith w prefix) (λ k. prefix ++ k ∷ []) are.symbols (λ i d lt. (get_or are.symbols i d ∷ [], refl)))
prefixes_behind p prefix false prefixes stand = subst (All (λ w. BeginsWith w prefix)) (sym stand) (All-cons (λ w. BeginsWith w prefix) prefix [] (begins_with_itself prefix) (All-nil _))

-- ---- a pass

pub pass_none : (p : Problem) (pieces : ℕ) (old : List (List ℕ)) → IsCutting p old → length old < pieces → IsPass p pieces old [] old false
pass_none p pieces old cut fewer =
    record {
      cutting = cut;
      few = omega (arith, fewer);
      begins = All-nil _;
      deeper = λ _ depth deep. All-nil _;
      as_many = λ _. omega arith;
      childless = λ _ _. All-nil _;
    }

or_false : (a b : Bool) → (a || b) ≡ false → (a ≡ false) × (b ≡ false)
or_false true b never = absurd (cc never)
or_false false b is = (refl, is)

-- a prefix is asked to be refined where there are too few pieces, those ahead among them
pub record IsAsked (pieces done ahead : ℕ) (asked : Bool) : Type 0 where
  pub few : asked ≡ true → done + ahead < pieces
  pub enough : asked ≡ false → pieces ≤ done + ahead

pub pass_step : (p : Problem) (pieces : ℕ) (old done ahead new : List (List ℕ)) (prefix : List ℕ) (refined asked step : Bool)
    → IsPass p pieces old done (prefix ∷ ahead) refined → IsAsked pieces (length done) (length ahead + 1) asked → Contains old prefix → IsStep p prefix asked done step new
    → IsPass p pieces old new ahead (refined || step)
pass_step p pieces old done ahead new prefix refined asked step pass is_asked contained is =
    let long : length new ≡ length done + length is.prefixes = ap length is.behind ∙ length-append done is.prefixes in
    let total : length (prefix ∷ ahead) ≡ length ahead + 1 = omega arith in
    let one_kept : asked ≡ false → length is.prefixes ≡ 1 = λ isnt. one_prefix p prefix step is.prefixes (is.only isnt) is.stand in
    record {
      cutting = subst (λ (xs : List (List ℕ)). IsCutting p (xs ++ ahead)) (sym is.behind) (stands_instead p done ahead prefix step is.prefixes pass.cutting is.stand);
      few = elim (either asked) [
        | inl does ↦ omega (arith, long, is.few, is_asked.few does)
        | inr doesnt ↦ omega (arith, long, one_kept doesnt, pass.few, total)
      ];
      begins = subst (All (BeginsAmong old)) (sym is.behind)
          (All-append (BeginsAmong old) done is.prefixes pass.begins (λ i d lt. (prefix, contained, prefixes_behind p prefix step is.prefixes is.stand i d lt)));
      deeper = λ few depth deep. elim (either asked) [
        | inl does ↦
            subst (AreDeep p (depth + 1)) (sym is.behind)
            (All-append (λ w. HasNoChild p w ⊎ (depth + 1 ≤ length w)) done is.prefixes
            (pass.deeper (omega (arith, total, is_asked.few does)) depth deep)
            (prefixes_deep p prefix step is.prefixes depth is.stand (is.else_none does) (All-contains (λ w. HasNoChild p w ⊎ (depth ≤ length w)) old prefix deep contained)))
        | inr doesnt ↦ absurd (omega (arith, few, long, one_kept doesnt, is_asked.enough doesnt))
      ];
      as_many = λ isnt.
          let both = or_false refined step isnt in
          omega (arith, long, one_prefix p prefix step is.prefixes both.1 is.stand, total, pass.as_many both.0);
      childless = λ isnt few.
          let both = or_false refined step isnt in
          elim (either asked) [
            | inl does ↦
                subst (All (HasNoChild p)) (sym is.behind)
                (All-append (HasNoChild p) done is.prefixes
                (pass.childless both.0 (omega (arith, total, is_asked.few does)))
                (prefixes_childless p prefix step is.prefixes both.1 is.stand (is.else_none does both.1)))
            | inr doesnt ↦ absurd (omega (arith, few, long, one_kept doesnt, is_asked.enough doesnt))
          ];
    }

asked : (count wanted : ℕ) → IsAsked wanted count 0 (nat_lt count wanted)
asked count wanted = record { few = λ does. grind (arith, nat_tests); enough = λ doesnt. grind (arith, nat_tests) }

pub pass_piece : (p : Problem) (wanted count i : ℕ) (old done new : List (List ℕ)) (pieces : List NumberedWord) (piece : NumberedWord) (refined step : Bool)
    → map (λ x. x.word) pieces ≡ old → i < length pieces → piece ≡ get_or pieces i piece → count ≡ length done → IsPass p wanted old done (drop i old) refined
    → IsStep p piece.word (nat_lt (count + (length pieces - i)) wanted) done step new → IsPass p wanted old new (drop (i + 1) old) (refined || step)
pass_piece p wanted count i old done new pieces piece refined step are lt is counted pass stepped =
    let long : length old ≡ length pieces = ap length (sym are) ∙ length-map pieces (λ x. x.word) in
    let from : drop i old ≡ piece.word ∷ drop (i + 1) old = pieces_from pieces old i piece are lt is in
    let left : length (drop (i + 1) old) + 1 ≡ length pieces - i = omega (arith, length-drop (i + 1) old, long, lt) in
    let by = asked (count + (length pieces - i)) wanted in
    let is_asked : IsAsked wanted (length done) (length (drop (i + 1) old) + 1) (nat_lt (count + (length pieces - i)) wanted) =
    record { few = λ does. omega (arith, by.few does, counted, left); enough = λ doesnt. omega (arith, by.enough doesnt, counted, left) } in
    let here : get_or old i [] ≡ piece.word = ap (λ (xs : List (List ℕ)). get_or xs 0 []) (sym (drop-cons old i [] (omega (arith, lt, long)))) ∙ ap (λ (xs : List (List ℕ)). get_or xs 0 []) from in
    let contained : Contains old piece.word = subst (Contains old) here (Contains-get_or old i [] (omega (arith, lt, long))) in
    pass_step p wanted old done (drop (i + 1) old) new piece.word refined (nat_lt (count + (length pieces - i)) wanted) step (subst (λ (xs : List (List ℕ)). IsPass p wanted old done xs refined) from pass) is_asked contained stepped

-- the prefix at an index is a prefix of the problem
pub piece_is_prefix : (p : Problem) (wanted i : ℕ) (old done : List (List ℕ)) (pieces : List NumberedWord) (piece : NumberedWord) (refined : Bool)
    → map (λ x. x.word) pieces ≡ old → i < length pieces → piece ≡ get_or pieces i piece → IsPass p wanted old done (drop i old) refined → IsPrefix p piece.word
piece_is_prefix p wanted i old done pieces piece refined are lt is pass =
    prefix_between p done (drop (i + 1) old) piece.word (subst (λ (xs : List (List ℕ)). IsCutting p (done ++ xs)) (pieces_from pieces old i piece are lt is) pass.cutting)

pub pass_count : (p : Problem) (wanted i : ℕ) (old done : List (List ℕ)) (pieces : List NumberedWord) (refined : Bool) → map (λ x. x.word) pieces ≡ old → IsPass p wanted old done (drop i old) refined → length done + (length pieces - i) ≤ wanted + (MAX_NODES - 1)
pass_count p wanted i old done pieces refined are pass =
    omega (arith, pass.few, length-drop i old, ap length (sym are) ∙ length-map pieces (λ x. x.word))

pub pass_all : (p : Problem) (wanted i : ℕ) (old done : List (List ℕ)) (pieces : List NumberedWord) (refined : Bool) → map (λ x. x.word) pieces ≡ old → length pieces ≤ i → IsPass p wanted old done (drop i old) refined → IsPass p wanted old done [] refined
pass_all p wanted i old done pieces refined are all pass =
    let long : length old ≡ length pieces = ap length (sym are) ∙ length-map pieces (λ x. x.word) in
    subst (λ (xs : List (List ℕ)). IsPass p wanted old done xs refined) (drop_all i old (omega (arith, all, long))) pass

-- ---- passes

-- where only longer prefixes than there are could have a child, none has
pub none_deep : (p : Problem) (prefixes : List (List ℕ)) (depth : ℕ) → IsProblem p → 2 * place_count p ≤ depth + 1 → AreDeep p depth prefixes → All (HasNoChild p) prefixes
none_deep p prefixes depth problem long deep = λ i d lt.
    elim (deep i d lt) [
      | inl childless ↦ childless
      | inr has ↦ λ k from child. absurd (omega (arith, long, has, length_push (get_or prefixes i d) k, prefixes_are_short p (get_or prefixes i d ++ k ∷ []) problem child))
    ]

-- what is known of the pieces after a number of passes
pub record AreRefined (p : Problem) (pieces depth : ℕ) (start prefixes : List (List ℕ)) : Type 0 where
  pub cutting : IsCutting p prefixes
  pub few : length prefixes ≤ max (pieces + (MAX_NODES - 1)) (length start)
  pub begins : All (BeginsAmong start) prefixes
  pub deep : length prefixes < pieces → AreDeep p depth prefixes

-- before the first pass
pub refined_none : (p : Problem) (pieces : ℕ) (start : List (List ℕ)) → IsCutting p start → AreRefined p pieces 0 start start
refined_none p pieces start cut =
    record {
      cutting = cut;
      few = omega arith;
      begins = λ i d lt. (get_or start i d, Contains-get_or start i d lt, begins_with_itself (get_or start i d));
      deep = λ _ i d lt. inr (omega arith);
    }

pub pass_cutting : (p : Problem) (pieces : ℕ) (old new : List (List ℕ)) (refined : Bool) → IsPass p pieces old new [] refined → IsCutting p new
pass_cutting p pieces old new refined pass = subst (IsCutting p) (append-nil new) pass.cutting

pub refined_more : (p : Problem) (pieces depth : ℕ) (start old new : List (List ℕ)) (refined : Bool) → AreRefined p pieces depth start old → length old < pieces → IsPass p pieces old new [] refined → AreRefined p pieces (depth + 1) start new
refined_more p pieces depth start old new refined are fewer pass =
    record {
      cutting = pass_cutting p pieces old new refined pass;
      few = omega (arith, pass.few);
      begins = begin_further start old new are.begins pass.begins;
      deep = λ few. pass.deeper (omega (arith, few)) depth (are.deep fewer);
    }

pub enough_at_last : (p : Problem) (pieces depth : ℕ) (start prefixes : List (List ℕ)) → IsProblem p → 2 * place_count p ≤ depth + 1 → AreRefined p pieces depth start prefixes → (pieces ≤ length prefixes) ⊎ All (HasNoChild p) prefixes
enough_at_last p pieces depth start prefixes problem long are =
    elim (cases_lt (length prefixes) pieces) [
      | inl few ↦ inr (none_deep p prefixes depth problem long (are.deep few))
      | inr enough ↦ inl enough
    ]
