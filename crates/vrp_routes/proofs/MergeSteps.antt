-- Two lists of labels become one, label by label.
use Rattle.std.proofs.Common.{◌≡◌, ℕ, ◌+◌, ◌<◌, ◌≤◌, inl, inr, List, [], ◌∷◌, ◌++◌, length, get_or, sym, ap, subst, ◌∙◌, arith}
use Rattle.std.specs.List.{All, AllPairs, Contains}
use Rattle.std.proofs.lemmas.Bool.{cases_eq, cases_lt}
use Rattle.std.proofs.lemmas.List.{get_or-map, length-map}
use Rattle.std.proofs.lemmas.List.Elements.{All-nil, All-push, Contains-append_left, Contains-append_right, Contains-get_or, Contains-push}
use Rattle.std.proofs.lemmas.List.Quantifiers.{all_pairs_push}
use Rattle.vrp_routes.specs.Level.{ComesFirst, sequences, stops_of}
use Rattle.vrp_routes.specs.Merge.{EndApart, IsMerged}
use Rattle.vrp_routes.specs.declared.label.Label.{Label}
use Rattle.vrp_routes.proofs.SharesSteps.{element}

first_transitive : {X : Type 0} (one other third : Label X) → ComesFirst one other → ComesFirst other third → ComesFirst one third
first_transitive {X} one other third (inl less) (inl more) = inl (omega (arith, less, more))
first_transitive {X} one other third (inl less) (inr (same, more)) = inl (omega (arith, less, same))
first_transitive {X} one other third (inr (same, less)) (inl more) = inl (omega (arith, same, more))
first_transitive {X} one other third (inr (same, less)) (inr (also, more)) = inr (omega (arith, same, also), omega (arith, less, more))

-- of two that end apart one comes first
other_first : {X : Type 0} (one other : Label X) → ((one.last ≡ other.last) → ⊥) → (ComesFirst one other → ⊥) → ComesFirst other one
other_first {X} one other apart not_first = elim (cases_lt other.parent one.parent) [
  | inl less ↦ inl less
  | inr no_less ↦ elim (cases_lt one.parent other.parent) [
    | inl more ↦ absurd (not_first (inl more))
    | inr no_more ↦
        let same : other.parent ≡ one.parent = omega (arith, no_less, no_more) in
        elim (cases_lt other.last one.last) [
          | inl before ↦ inr (same, before)
          | inr after ↦ elim (cases_lt one.last other.last) [
            | inl behind ↦ absurd (not_first (inr (sym same, behind)))
            | inr level ↦ absurd (apart (omega (arith, after, level)))
          ]
        ]
  ]
]

-- the labels before these two are merged; a blank one stands for those past the ends
pub record MergesSome {X : Type 0} (blank : Label X) (left right : List (Label X)) (i j : ℕ) (merged : List (Label X)) : Type 0 where
  pub among : All (Contains (left ++ right)) merged
  pub lefts : (a : ℕ) → a < i → a < length left → Contains merged (get_or left a blank)
  pub rights : (b : ℕ) → b < j → b < length right → Contains merged (get_or right b blank)
  pub ordered : EndApart left right → AllPairs ComesFirst left → AllPairs ComesFirst right → AllPairs ComesFirst merged
  pub before_left : EndApart left right → AllPairs ComesFirst left → AllPairs ComesFirst right → (a : ℕ) → i ≤ a → a < length left → All (λ label. ComesFirst label (get_or left a blank)) merged
  pub before_right : EndApart left right → AllPairs ComesFirst left → AllPairs ComesFirst right → (b : ℕ) → j ≤ b → b < length right → All (λ label. ComesFirst label (get_or right b blank)) merged

pub merges_none : {X : Type 0} (blank : Label X) (left right : List (Label X)) → MergesSome blank left right 0 0 []
merges_none {X} blank left right = record {
  among = All-nil _;
  lefts = λ a less lt. absurd (omega (arith, less));
  rights = λ b less lt. absurd (omega (arith, less));
  ordered = λ apart l r i j d less lt. absurd (omega (arith, lt));
  before_left = λ apart l r a from lt. All-nil _;
  before_right = λ apart l r b from lt. All-nil _;
}

pub merges_left : {X : Type 0} (blank : Label X) (left right : List (Label X)) (i j : ℕ) (old new : List (Label X)) (label : Label X) → MergesSome blank left right i j old → label ≡ get_or left i blank → i < length left → (j < length right → ComesFirst (get_or left i blank) (get_or right j blank)) → new ≡ old ++ label ∷ [] → MergesSome blank left right (i + 1) j new
merges_left {X} blank left right i j old new label some is lt first longer =
    subst (MergesSome blank left right (i + 1) j) (sym longer) (record {
      among = All-push (Contains (left ++ right)) old label some.among (subst (Contains (left ++ right)) (sym is) (Contains-append_left left right (get_or left i blank) (Contains-get_or left i blank lt)));
      lefts = λ a less within. elim (cases_lt a i) [
        | inl before ↦ Contains-append_left old (label ∷ []) (get_or left a blank) (some.lefts a before within)
        | inr here ↦ subst (Contains (old ++ label ∷ [])) (is ∙ ap (λ n. get_or left n blank) (let same : i ≡ a = omega (arith, here, less) in same)) (Contains-push old label)
      ];
      rights = λ b less within. Contains-append_left old (label ∷ []) (get_or right b blank) (some.rights b less within);
      ordered = λ apart l r. all_pairs_push ComesFirst old label (some.ordered apart l r) (λ n d within. subst (ComesFirst (get_or old n d)) (sym is) (some.before_left apart l r i (omega arith) lt n d within));
      before_left = λ apart l r a from within. All-push (λ x. ComesFirst x (get_or left a blank)) old label (some.before_left apart l r a (omega (arith, from)) within) (subst (λ (x : Label X). ComesFirst x (get_or left a blank)) (sym is) (l i a blank (omega (arith, from)) within));
      before_right = λ apart l r b from within. All-push (λ x. ComesFirst x (get_or right b blank)) old label (some.before_right apart l r b from within) (subst (λ (x : Label X). ComesFirst x (get_or right b blank)) (sym is) (elim (cases_eq j b) [
        | inl same ↦ subst (λ n. ComesFirst (get_or left i blank) (get_or right n blank)) same (first (omega (arith, same, within)))
        | inr other ↦ first_transitive (get_or left i blank) (get_or right j blank) (get_or right b blank) (first (omega (arith, from, within))) (r j b blank (omega (arith, from, other)) within)
      ]));
    })

pub merges_right : {X : Type 0} (blank : Label X) (left right : List (Label X)) (i j : ℕ) (old new : List (Label X)) (label : Label X) → MergesSome blank left right i j old → label ≡ get_or right j blank → j < length right → (i < length left → ComesFirst (get_or left i blank) (get_or right j blank) → ⊥) → new ≡ old ++ label ∷ [] → MergesSome blank left right i (j + 1) new
merges_right {X} blank left right i j old new label some is lt not_first longer =
    let first : EndApart left right → i < length left → ComesFirst (get_or right j blank) (get_or left i blank) = λ apart within. other_first (get_or left i blank) (get_or right j blank) (apart i j blank blank within lt) (not_first within) in
    subst (MergesSome blank left right i (j + 1)) (sym longer) (record {
      among = All-push (Contains (left ++ right)) old label some.among (subst (Contains (left ++ right)) (sym is) (Contains-append_right left right (get_or right j blank) (Contains-get_or right j blank lt)));
      lefts = λ a less within. Contains-append_left old (label ∷ []) (get_or left a blank) (some.lefts a less within);
      rights = λ b less within. elim (cases_lt b j) [
        | inl before ↦ Contains-append_left old (label ∷ []) (get_or right b blank) (some.rights b before within)
        | inr here ↦ subst (Contains (old ++ label ∷ [])) (is ∙ ap (λ n. get_or right n blank) (let same : j ≡ b = omega (arith, here, less) in same)) (Contains-push old label)
      ];
      ordered = λ apart l r. all_pairs_push ComesFirst old label (some.ordered apart l r) (λ n d within. subst (ComesFirst (get_or old n d)) (sym is) (some.before_right apart l r j (omega arith) lt n d within));
      before_left = λ apart l r a from within. All-push (λ x. ComesFirst x (get_or left a blank)) old label (some.before_left apart l r a from within) (subst (λ (x : Label X). ComesFirst x (get_or left a blank)) (sym is) (elim (cases_eq i a) [
        | inl same ↦ subst (λ n. ComesFirst (get_or right j blank) (get_or left n blank)) same (first apart (omega (arith, same, within)))
        | inr other ↦ first_transitive (get_or right j blank) (get_or left i blank) (get_or left a blank) (first apart (omega (arith, from, within))) (l i a blank (omega (arith, from, other)) within)
      ]));
      before_right = λ apart l r b from within. All-push (λ x. ComesFirst x (get_or right b blank)) old label (some.before_right apart l r b (omega (arith, from)) within) (subst (λ (x : Label X). ComesFirst x (get_or right b blank)) (sym is) (r j b blank (omega (arith, from)) within));
    })

pub merges_all : {X : Type 0} (left right : List (Label X)) (i j : ℕ) (merged : List (Label X)) → ((blank : Label X) → MergesSome blank left right i j merged) → length left ≤ i → length right ≤ j → IsMerged left right merged
merges_all left right i j merged some all also = record {
  among = λ n d lt. (some d).among n d lt;
  lefts = λ a d lt. (some d).lefts a (omega (arith, lt, all)) lt;
  rights = λ b d lt. (some d).rights b (omega (arith, lt, also)) lt;
  ordered = λ apart l r n m d less lt. (some d).ordered apart l r n m d less lt;
}

-- ---- a list whose labels are among others

pub still_contains : {X : Type 0} (before : List (List ℕ)) (labels merged : List (Label X)) (xs : List ℕ) → All (Contains merged) labels → Contains (sequences before labels) xs → Contains (sequences before merged) xs
still_contains {X} before labels merged xs all (at, lt, is) =
    let within : at < length labels = omega (arith, lt, length-map labels (stops_of before)) in
    let blank = element labels at within in
    let there : stops_of before (get_or labels at blank) ≡ xs = sym (get_or-map (stops_of before) labels at blank xs within) ∙ is in
    let (place, inside, same) = all at blank within in
    let here : get_or (sequences before merged) place [] ≡ stops_of before (get_or labels at blank) = get_or-map (stops_of before) merged place (get_or labels at blank) [] inside ∙ ap (stops_of before) same in
    subst (Contains (sequences before merged)) (here ∙ there) (Contains-get_or (sequences before merged) place [] (omega (arith, inside, length-map merged (stops_of before))))
