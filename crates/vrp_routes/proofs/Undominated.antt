-- The candidates that are kept, one by one.
use Rattle.std.proofs.Common.{◌≡◌, ℕ, ◌+◌, ◌<◌, ◌≤◌, true, inl, inr, Some, Global, Vec, List, [], ◌∷◌, ◌++◌, length, get_or, sym, ap, subst, ◌∙◌, arith}
use Rattle.std.specs.List.{All, AllPairs, Contains}
use Rattle.std.proofs.lemmas.Bool.{cases_lt}
use Rattle.std.proofs.lemmas.List.{get_or-map, get_or_default, length-map}
use Rattle.std.proofs.lemmas.List.Elements.{All-contains, All-nil, All-push, Contains-append_left, Contains-get_or, Contains-push}
use Rattle.std.proofs.lemmas.List.Quantifiers.{all_pairs_push}
use Rattle.vrp_routes.specs.Candidates.{IsGrown, kept_at}
use Rattle.vrp_routes.specs.Label.{IsLabel, SettingOf}
use Rattle.vrp_routes.specs.Level.{ComesFirst, IsShare, sequences, stops_of}
use Rattle.vrp_routes.specs.Share.{has_rest, is_in}
use Rattle.vrp_routes.specs.Shares.{AreParts, AreShares, IsPart}
use Rattle.vrp_routes.specs.declared.candidates.Candidates.{Candidates}
use Rattle.vrp_routes.specs.declared.label.Label.{Label}
use Rattle.vrp_routes.proofs.Extensions.{length_sequences, sequence_at}
use Rattle.vrp_routes.proofs.SharesSteps.{element}

-- what was kept of the candidates before this one
pub record KeepsSome {X : Type 0} (found : Candidates X) (at : ℕ) (labels : List (Label X)) : Type 0 where
  pub among : All (Contains found.labels.items) labels
  pub all : (j : ℕ) (d : Label X) → j < at → j < length found.labels.items → kept_at found j ≡ Some j → Contains labels (get_or found.labels.items j d)
  pub ordered : AllPairs ComesFirst found.labels.items → AllPairs ComesFirst labels
  pub ahead : AllPairs ComesFirst found.labels.items → (j : ℕ) (d : Label X) → at ≤ j → j < length found.labels.items → All (λ label. ComesFirst label (get_or found.labels.items j d)) labels

pub keeps_none : {X : Type 0} (found : Candidates X) → KeepsSome found 0 []
keeps_none found = record {
  among = All-nil _;
  all = λ j d less lt kept. absurd (omega (arith, less));
  ordered = λ rising i j d less lt. absurd (omega (arith, lt));
  ahead = λ rising j d from lt. All-nil _;
}

-- one that isn't kept
pub keeps_not : {X : Type 0} (found : Candidates X) (at : ℕ) (labels : List (Label X)) → KeepsSome found at labels → (kept_at found at ≡ Some at → ⊥) → KeepsSome found (at + 1) labels
keeps_not found at labels some dropped = record {
  among = some.among;
  all = λ j d less lt kept. elim (cases_lt j at) [
    | inl first ↦ some.all j d first lt kept
    | inr last ↦ absurd (dropped (subst (λ n. kept_at found n ≡ Some n) (let same : j ≡ at = omega (arith, last, less) in same) kept))
  ];
  ordered = some.ordered;
  ahead = λ rising j d from lt. some.ahead rising j d (omega (arith, from)) lt;
}

pub keeps_one : {X : Type 0} (found : Candidates X) (at : ℕ) (labels more : List (Label X)) (label : Label X) → KeepsSome found at labels
    → at < length found.labels.items → label ≡ get_or found.labels.items at label → more ≡ labels ++ label ∷ [] → KeepsSome found (at + 1) more
keeps_one {X} found at labels more label some lt is longer =
    subst (KeepsSome found (at + 1)) (sym longer) (record {
      among = All-push (Contains found.labels.items) labels label some.among (at, lt, sym is);
      all = λ j d less within kept. elim (cases_lt j at) [
        | inl first ↦ Contains-append_left labels (label ∷ []) (get_or found.labels.items j d) (some.all j d first within kept)
        | inr last ↦
            let same : at ≡ j = omega (arith, last, less) in
            let here : label ≡ get_or found.labels.items j d = is ∙ get_or_default found.labels.items at label d lt ∙ ap (λ n. get_or found.labels.items n d) same in
            subst (Contains (labels ++ label ∷ [])) here (Contains-push labels label)
      ];
      ordered = λ rising. all_pairs_push ComesFirst labels label (some.ordered rising) (λ i d within. subst (ComesFirst (get_or labels i d)) (sym is) (some.ahead rising at label (omega arith) lt i d within));
      ahead = λ rising j d from within. All-push (λ l. ComesFirst l (get_or found.labels.items j d)) labels label (some.ahead rising j d (omega (arith, from)) within)
          (subst (λ (l : Label X). ComesFirst l (get_or found.labels.items j d)) (sym (is ∙ get_or_default found.labels.items at label d lt)) (rising at j d (omega (arith, from)) within));
    })

pub keeps_all : {X : Type 0} (found : Candidates X) (at : ℕ) (labels : Vec (Label X) Global) → length found.labels.items ≤ at → KeepsSome found at labels.items → IsPart found labels
keeps_all found at labels all some = record {
  among = some.among;
  all = λ j d lt kept. some.all j d (omega (arith, lt, all)) lt kept;
  ordered = some.ordered;
}

-- what is kept of all useful beginnings of a share
pub part_of_share : {X : Type 0} (s : SettingOf X) (k : ℕ) (before : List (List ℕ)) (found : Candidates X) (labels : Vec (Label X) Global) → IsGrown s k before found → IsPart found labels → IsShare s k (is_in found.share) before labels.items
part_of_share {X} s k before found labels grown part = record {
  are = record {
    each = keep (λ l. IsLabel s (stops_of before l) l) grown.are.each;
    parents = keep (λ l. l.parent < length before) grown.are.parents;
    own = keep (λ l. is_in found.share l.last ≡ true) grown.are.own;
    ordered = part.ordered grown.are.ordered;
  };
  every = λ xs long mine useful.
      let kept = grown.every xs long mine useful in
      let inside : kept.at < length found.labels.items = omega (arith, kept.within, length_sequences before found.labels.items) in
      let blank = element found.labels.items kept.at inside in
      let label = get_or found.labels.items kept.at blank in
      let there : stops_of before label ≡ xs = sym (sequence_at before found.labels.items kept.at [] blank inside) ∙ kept.is in
      let (place, lt, is) = part.all kept.at blank inside kept.kept in
      let here : get_or (sequences before labels.items) place [] ≡ stops_of before label = get_or-map (stops_of before) labels.items place label [] lt ∙ ap (stops_of before) is in
      subst (Contains (sequences before labels.items)) (here ∙ there) (Contains-get_or (sequences before labels.items) place [] (omega (arith, lt, length-map labels.items (stops_of before))));
}
  where
    keep : (P : Label X → Type 0) → All P found.labels.items → All P labels.items
    keep P each i d lt = All-contains P found.labels.items (get_or labels.items i d) each (part.among i d lt)

-- and of those of several shares
pub parts_of_shares : {X : Type 0} (s : SettingOf X) (k : ℕ) (before : List (List ℕ)) (total first : ℕ) (found : List (Candidates X)) (parts : List (Vec (Label X) Global)) → AreShares total first found → length parts ≡ length found
    → ((i : ℕ) (d : Candidates X) → i < length found → IsGrown s k before (get_or found i d)) → ((i : ℕ) (d : Candidates X) (e : Vec (Label X) Global) → i < length found → IsPart (get_or found i d) (get_or parts i e)) → AreParts s k before total first parts
parts_of_shares s k before total first found parts are count grown kept i d lt =
    let within : i < length found = omega (arith, lt, count) in
    let one = element found i within in
    let own = get_or found i one in
    subst (λ n. IsShare s k (has_rest total n) before (get_or parts i d).items) (are.rests i one within)
    (subst (λ n. IsShare s k (has_rest n own.share.rest) before (get_or parts i d).items) (are.shares i one within)
    (part_of_share s k before own (get_or parts i d) (grown i one within) (kept i one d within)))
