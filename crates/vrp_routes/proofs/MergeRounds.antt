-- Parts become one list of labels, part by part of a range of parents, and range by range.
use Rattle.std.proofs.Common.{Global, Vec, ◌≡◌, ℕ, ◌+◌, ◌%◌, ◌<◌, ◌≤◌, true, inl, inr, ◌-◌, List, [], ◌++◌, length, length-append, map, get_or, refl, sym, subst, ap, ◌∙◌, eq-eqb, arith}
use Rattle.std.specs.List.{All, AllPairs, Contains}
use Rattle.std.proofs.lemmas.Bool.{cases_lt, eqb-true}
use Rattle.std.proofs.lemmas.List.{get_or-append_right, get_or-map, get_or_append_left, get_or_past, length-map}
use Rattle.std.proofs.lemmas.List.Elements.{All-append, All-contains, All-nil, Contains-append_left, Contains-append_right, Contains-get_or}
use Rattle.vrp_model.specs.Word.{last_symbol}
use Rattle.vrp_routes.specs.Label.{IsLabel, SettingOf}
use Rattle.vrp_routes.specs.Level.{ComesFirst, IsShare, stops_of}
use Rattle.vrp_routes.specs.Merge.{AreMerged, CanMerge, EndApart, IsBetween, IsCut, IsMerged, labels_at}
use Rattle.vrp_routes.specs.Share.{has_rest, is_in_first}
use Rattle.vrp_routes.specs.Shares.{AreParts}
use Rattle.vrp_routes.specs.declared.label.Label.{Label}
use Rattle.vrp_routes.proofs.MergeSteps.{still_contains}
use Rattle.vrp_routes.proofs.NumbersBelow.{is_below, tests_below}
use Rattle.vrp_routes.proofs.SharesSteps.{element}

-- ---- the parts

pub labels_there : {X : Type 0} (parts : List (Vec (Label X) Global)) (i : ℕ) (d : Vec (Label X) Global) → i < length parts → labels_at parts i ≡ (get_or parts i d).items
labels_there {X} parts i d lt = get_or-map (λ (part : Vec (Label X) Global). part.items) parts i d [] lt

pub labels_behind : {X : Type 0} (parts : List (Vec (Label X) Global)) (i : ℕ) → length parts ≤ i → labels_at parts i ≡ []
labels_behind {X} parts i over = get_or_past (map (λ (part : Vec (Label X) Global). part.items) parts) i [] (omega (arith, over, length-map parts (λ (part : Vec (Label X) Global). part.items)))

has_labels : {X : Type 0} (s : SettingOf X) (k : ℕ) (before : List (List ℕ)) (shares : ℕ) (parts : List (Vec (Label X) Global)) → AreParts s k before shares 0 parts → (i : ℕ) → i < length parts → IsShare s k (has_rest shares i) before (labels_at parts i)
has_labels {X} s k before shares parts are i lt =
    let part = element parts i lt in
    let place : 0 + i ≡ i = omega arith in
    subst (IsShare s k (has_rest shares i) before) (sym (labels_there parts i part lt)) (subst (λ n. IsShare s k (has_rest shares n) before (get_or parts i part).items) place (are i part lt))

-- parts of different shares can be merged
pub shares_can_merge : {X : Type 0} (s : SettingOf X) (k : ℕ) (before : List (List ℕ)) (shares : ℕ) (parts : List (Vec (Label X) Global)) → AreParts s k before shares 0 parts → CanMerge parts
shares_can_merge {X} s k before shares parts are = record {
  rising = λ i. elim (cases_lt i (length parts)) [
    | inl lt ↦ (has_labels s k before shares parts are i lt).are.ordered
    | inr over ↦ subst (AllPairs ComesFirst) (sym (labels_behind parts i over)) (λ a b d less lt. absurd (omega (arith, lt)))
  ];
  apart = λ i j less. elim (cases_lt j (length parts)) [
    | inl lt ↦ λ a b d e within inside same.
        let one = (has_labels s k before shares parts are i (omega (arith, less, lt))).are.own a d within in
        let other = (has_labels s k before shares parts are j lt).are.own b e inside in
        let first : (get_or (labels_at parts i) a d).last % shares ≡ i = eqb-true ((get_or (labels_at parts i) a d).last % shares) i one in
        let second : (get_or (labels_at parts j) b e).last % shares ≡ j = eqb-true ((get_or (labels_at parts j) b e).last % shares) j other in
        omega (arith, sym first ∙ ap (λ n. n % shares) same ∙ second, less)
    | inr over ↦ λ a b d e within inside same. absurd (omega (arith, subst (λ (ls : List (Label X)). b < length ls) (labels_behind parts j over) inside))
  ];
}

-- ---- part by part

pub merges_no_part : {X : Type 0} (parts : List (Vec (Label X) Global)) (from to : ℕ) → AreMerged parts 0 from to []
merges_no_part {X} parts from to = record {
  among = All-nil _;
  all = λ i lt label some between. absurd (omega (arith, lt));
  ordered = λ i j d less lt. absurd (omega (arith, lt));
}

pub merges_part : {X : Type 0} (parts : List (Vec (Label X) Global)) (n from to : ℕ) (old cut new : List (Label X)) → CanMerge parts → AreMerged parts n from to old → IsCut from to (labels_at parts n) cut → IsMerged old cut new → AreMerged parts (n + 1) from to new
merges_part {X} parts n from to old cut new can are is merged = record {
  among = λ at d lt. All-contains Among (old ++ cut) (get_or new at d) (All-append Among old cut
      (λ i e within. (let (between, (part, less, some)) = are.among i e within in (between, (part, omega (arith, less), some))))
      (λ i e within. (let (some, between) = is.among i e within in (between, (n, omega arith, some)))))
      (merged.among at d lt);
  all = λ i lt label some between. elim (cases_lt i n) [
    | inl less ↦ All-contains (Contains new) old label merged.lefts (are.all i less label some between)
    | inr no_less ↦ All-contains (Contains new) cut label merged.rights (is.all label (subst (λ m. Contains (labels_at parts m) label) (let same : i ≡ n = omega (arith, lt, no_less) in same) some) between)
  ];
  ordered = merged.ordered apart are.ordered is.ordered;
}
  where
    Among : Label X → Type 0
    Among label = IsBetween from to label × ((i : ℕ) × (i < n + 1) × Contains (labels_at parts i) label)

    apart : EndApart old cut
    apart i j d e lt within same =
        let (_, (part, less, (place, inside, is_there))) = are.among i d lt in
        let ((other, also, is_here), _) = is.among j e within in
        can.apart part n less place other (get_or old i d) (get_or cut j e) inside also (ap (λ l. l.last) is_there ∙ same ∙ sym (ap (λ l. l.last) is_here))

-- ---- range by range

all_pairs_append : {X : Type 0} (R : X → X → Type 0) (xs ys : List X) → AllPairs R xs → AllPairs R ys → ((i j : ℕ) (d e : X) → i < length xs → j < length ys → R (get_or xs i d) (get_or ys j e)) → AllPairs R (xs ++ ys)
all_pairs_append R xs ys one other across i j d less lt = elim (cases_lt j (length xs)) [
  | inl inside ↦ subst (λ x. R x (get_or (xs ++ ys) j d)) (sym (left i (omega (arith, less, inside)))) (subst (R (get_or xs i d)) (sym (left j inside)) (one i j d less inside))
  | inr outside ↦ subst (R (get_or (xs ++ ys) i d)) (sym (right j outside)) (elim (cases_lt i (length xs)) [
    | inl inside ↦ subst (λ x. R x (get_or ys (j - length xs) d)) (sym (left i inside)) (across i (j - length xs) d d inside (omega (arith, lt, outside, length-append xs ys)))
    | inr behind ↦ subst (λ x. R x (get_or ys (j - length xs) d)) (sym (right i behind)) (other (i - length xs) (j - length xs) d (omega (arith, less, behind)) (omega (arith, lt, outside, length-append xs ys)))
  ])
]
  where
    left : (n : ℕ) → n < length xs → get_or (xs ++ ys) n d ≡ get_or xs n d
    left n inside = get_or_append_left xs ys d n inside

    right : (n : ℕ) → length xs ≤ n → get_or (xs ++ ys) n d ≡ get_or ys (n - length xs) d
    right n outside = get_or-append_right xs ys (length xs) n d refl outside

pub merges_no_range : {X : Type 0} (parts : List (Vec (Label X) Global)) → AreMerged parts (length parts) 0 0 []
merges_no_range {X} parts = record {
  among = All-nil _;
  all = λ i lt label some between. absurd (omega (arith, between.0, between.1));
  ordered = λ i j d less lt. absurd (omega (arith, lt));
}

pub merges_range : {X : Type 0} (parts : List (Vec (Label X) Global)) (count from middle to : ℕ) (old more : List (Label X)) → from ≤ middle → middle ≤ to → AreMerged parts count from middle old → AreMerged parts count middle to more → AreMerged parts count from to (old ++ more)
merges_range {X} parts count from middle to old more below above are also = record {
  among = All-append Among old more
      (λ i d lt. (let (between, some) = are.among i d lt in ((between.0, omega (arith, between.1, above)), some)))
      (λ i d lt. (let (between, some) = also.among i d lt in ((omega (arith, between.0, below), between.1), some)));
  all = λ i lt label some between. elim (cases_lt label.parent middle) [
    | inl less ↦ Contains-append_left old more label (are.all i lt label some (between.0, less))
    | inr no_less ↦ Contains-append_right old more label (also.all i lt label some (omega (arith, no_less), between.1))
  ];
  ordered = all_pairs_append ComesFirst old more are.ordered also.ordered (λ i j d e lt within. (let (one, _) = are.among i d lt in let (other, _) = also.among j e within in inl (omega (arith, one.1, other.0))));
}
  where
    Among : Label X → Type 0
    Among label = IsBetween from to label × ((i : ℕ) × (i < count) × Contains (labels_at parts i) label)

-- ---- the labels of all shares

pub merged_shares : {X : Type 0} (s : SettingOf X) (k : ℕ) (before : List (List ℕ)) (shares : ℕ) (parts : List (Vec (Label X) Global)) (to : ℕ) (labels : List (Label X)) → AreParts s k before shares 0 parts → length before ≤ to → AreMerged parts (length parts) 0 to labels → IsShare s k (is_in_first shares (length parts)) before labels
merged_shares {X} s k before shares parts to labels are below merged = record {
  are = record {
    each = keep (λ l. IsLabel s (stops_of before l) l) (λ i lt. (part i lt).are.each);
    parents = keep (λ l. l.parent < length before) (λ i lt. (part i lt).are.parents);
    own = keep (λ l. is_in_first shares (length parts) l.last ≡ true) (λ i lt a d within. tests_below ((get_or (labels_at parts i) a d).last % shares) (length parts) (let here = eqb-true ((get_or (labels_at parts i) a d).last % shares) i ((part i lt).are.own a d within) in omega (arith, here, lt)));
    ordered = merged.ordered;
  };
  every = λ xs long mine useful.
      let i = last_symbol xs % shares in
      let lt : i < length parts = is_below i (length parts) mine in
      still_contains before (labels_at parts i) labels xs
      (λ a d within. merged.all i lt (get_or (labels_at parts i) a d) (Contains-get_or (labels_at parts i) a d within) (omega arith, omega (arith, (part i lt).are.parents a d within, below)))
      ((part i lt).every xs long (eq-eqb i i refl) useful);
}
  where
    part : (i : ℕ) → i < length parts → IsShare s k (has_rest shares i) before (labels_at parts i)
    part i lt = has_labels s k before shares parts are i lt

    keep : (P : Label X → Type 0) → ((i : ℕ) → i < length parts → All P (labels_at parts i)) → All P labels
    keep P each a d lt = (let (_, (i, within, some)) = merged.among a d lt in All-contains P (labels_at parts i) (get_or labels a d) (each i within) some)
