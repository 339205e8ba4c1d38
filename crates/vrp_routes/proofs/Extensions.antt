-- The extensions of a level's labels, as they are offered one by one.
use Rattle.std.proofs.Common.{◌≡◌, ◌≢◌, ◌↔◌, ℕ, zero, suc, ◌+◌, ◌%◌, ◌<◌, ◌≤◌, ◌==◌, ◌&&◌, append_assoc, Bool, true, false, if◌then◌else◌, inl, inr, None, Some, Option, List, [], ◌∷◌, ◌++◌, length, length-append, map, get_or, set, refl, sym, ap, subst, ◌∙◌, arith}
use Rattle.std.specs.Option.{option_map}
use Rattle.std.specs.List.{All, AllPairs, Contains}
use Rattle.std.specs.Map.{lookup}
use Rattle.std.proofs.lemmas.Bool.{cases_Bool, cases_eq, cases_lt, eqb-true, false≢true}
use Rattle.std.proofs.lemmas.Bool.Decides.{nat_tests}
use Rattle.std.proofs.lemmas.List.{get_or-set_other, get_or-set_same, get_or_append_left, get_or-map, get_or_default, length-map, length-set, map_push, nil_from_length}
use Rattle.std.proofs.lemmas.List.Elements.{All-cons, All-nil, All-push}
use Rattle.std.proofs.lemmas.List.Quantifiers.{all_pairs_push}
use Rattle.vrp_model.specs.Order.{ComesBefore, IsEarlier}
use Rattle.vrp_model.specs.Problem.{Problem, customers, place_count}
use Rattle.vrp_model.specs.Word.{last_symbol, word_cost}
use Rattle.vrp_model.proofs.CustomerPlaces.{customer_below, customer_is_some}
use Rattle.vrp_model.proofs.LastRoute.{last_symbol_with}
use Rattle.vrp_model.proofs.Ordered.{earlier_behind}
use Rattle.vrp_routes.specs.Label.{IsLabel, SettingOf}
use Rattle.vrp_routes.specs.Candidates.{HasExtensions, IsBefore, IsGrown, IsKept, IsKeyed, IsOffered, IsRefused, IsTaken, is_superseded, cost_at, kept_at, kept_for, kept_in, key_at, key_of, same_key}
use Rattle.vrp_routes.specs.Level.{AreExtensions, ComesFirst, IsLevel, IsShare, sequences, stops_of}
use Rattle.vrp_routes.specs.Share.{is_in}
use Rattle.vrp_routes.specs.Useful.{BeginsUseful, IsUsefulIn}
use Rattle.vrp_routes.specs.declared.label.Label.{Label}
use Rattle.vrp_routes.specs.declared.candidates.Candidates.{Candidates}
use Rattle.vrp_routes.specs.declared.candidates.KeptLabel.{KeptLabel}
use Rattle.vrp_routes.specs.declared.share.Share.{Share}
use Rattle.vrp_routes.proofs.FeasibleRoutes.{ends_at, useful_begins}
use Rattle.vrp_routes.proofs.Replaced.{earlier_longer, no_better_beginning}
use Rattle.vrp_routes.proofs.Rests.{none_between}
use Rattle.vrp_routes.proofs.SharesSteps.{element}
use Rattle.vrp_model.proofs.Sets.{same_set}
use Rattle.vrp_routes.specs.declared.plan_range.PlanRange.{PlanRange}

-- ---- keys

both_true : (a b : Bool) → (a && b) ≡ true → (a ≡ true) × (b ≡ true)
both_true true b is = (refl, is)
both_true false b is = absurd (false≢true is)

pub keys_same : (key other : ℕ × ℕ) → same_key key other ≡ true → key ≡ other
keys_same key other is =
    let (one, two) = both_true (key.0 == other.0) (key.1 == other.1) is in
    let left : key.0 ≡ other.0 = eqb-true key.0 other.0 one in
    let right : key.1 ≡ other.1 = eqb-true key.1 other.1 two in
    λ i. (left i, right i)

pub key_itself : (key : ℕ × ℕ) → same_key key key ≡ true
key_itself key =
    let one : (key.0 == key.0) ≡ true = grind (arith, nat_tests) in
    let two : (key.1 == key.1) ≡ true = grind (arith, nat_tests) in
    rw (one, two) refl

pub some_same : (j k : ℕ) → Some j ≡ Some k → j ≡ k
some_same j k same = cc

abbrev cost_of : {X : Type 0} → Label X → ℕ
cost_of label = label.cost

-- two labels with one key are of rearrangements that end at the same stop: the one that comes before isn't of a useful beginning's rival
pub no_rival : {X : Type 0} (s : SettingOf X) (xs ys : List ℕ) (one other : Label X) → IsLabel s xs one → IsLabel s ys other → key_of one ≡ key_of other → BeginsUseful s.problem s.range ys → ComesBefore one.cost xs other.cost ys → ⊥
no_rival {X} s xs ys one other is also same useful before =
    let p = s.problem in
    let sets = sym also.set ∙ sym (ap (λ (key : ℕ × ℕ). key.0) same) ∙ is.set in
    let ends = sym is.last ∙ ap (λ (key : ℕ × ℕ). key.1) same ∙ also.last in
    no_better_beginning p s.range ys xs useful (same_set ys xs also.begins.once is.begins.once sets) ends
    (subst (λ n. ComesBefore (word_cost p xs) xs n ys) also.cost (subst (λ n. ComesBefore n xs other.cost ys) is.cost before))

-- ---- a label more

pub at_end : {X : Type 0} (xs : List X) (x d : X) → get_or (xs ++ x ∷ []) (length xs) d ≡ x
at_end [] x d = refl
at_end (y ∷ xs) x d = at_end xs x d

-- a list that is mapped, with one more
mapped_first : {A B : Type 0} (f : A → B) (xs : List A) (x : A) (d : B) (at : ℕ) → at < length xs → get_or (map f (xs ++ x ∷ [])) at d ≡ get_or (map f xs) at d
mapped_first {A} {B} f xs x d at lt = ap (λ (ys : List B). get_or ys at d) (map_push f xs x) ∙ get_or_append_left (map f xs) (f x ∷ []) d at (omega (arith, lt, length-map xs f))

mapped_last : {A B : Type 0} (f : A → B) (xs : List A) (x : A) (d : B) → get_or (map f (xs ++ x ∷ [])) (length xs) d ≡ f x
mapped_last {A} {B} f xs x d = ap (λ (ys : List B). get_or ys (length xs) d) (map_push f xs x) ∙ ap (λ n. get_or (map f xs ++ f x ∷ []) n d) (sym (length-map xs f)) ∙ at_end (map f xs) (f x) d

-- the key and the cost of the label at a place, where the list has one there
pub key_there : {X : Type 0} (found : Candidates X) (at : ℕ) (d : Label X) → at < length found.labels.items → key_at found at ≡ key_of (get_or found.labels.items at d)
key_there found at d lt = get_or-map key_of found.labels.items at d (0, 0) lt

pub cost_there : {X : Type 0} (found : Candidates X) (at : ℕ) (d : Label X) → at < length found.labels.items → cost_at found at ≡ (get_or found.labels.items at d).cost
cost_there found at d lt = get_or-map cost_of found.labels.items at d 0 lt

key_first : {X : Type 0} (old new : Candidates X) (label : Label X) (at : ℕ) → new.labels.items ≡ old.labels.items ++ label ∷ [] → at < length old.labels.items → key_at new at ≡ key_at old at
key_first {X} old new label at longer lt = ap (λ (ls : List (Label X)). get_or (map key_of ls) at (0, 0)) longer ∙ mapped_first key_of old.labels.items label (0, 0) at lt

cost_first : {X : Type 0} (old new : Candidates X) (label : Label X) (at : ℕ) → new.labels.items ≡ old.labels.items ++ label ∷ [] → at < length old.labels.items → cost_at new at ≡ cost_at old at
cost_first {X} old new label at longer lt = ap (λ (ls : List (Label X)). get_or (map cost_of ls) at 0) longer ∙ mapped_first cost_of old.labels.items label 0 at lt

key_last : {X : Type 0} (old new : Candidates X) (label : Label X) → new.labels.items ≡ old.labels.items ++ label ∷ [] → key_at new (length old.labels.items) ≡ key_of label
key_last {X} old new label longer = ap (λ (ls : List (Label X)). get_or (map key_of ls) (length old.labels.items) (0, 0)) longer ∙ mapped_last key_of old.labels.items label (0, 0)

cost_last : {X : Type 0} (old new : Candidates X) (label : Label X) → new.labels.items ≡ old.labels.items ++ label ∷ [] → cost_at new (length old.labels.items) ≡ label.cost
cost_last {X} old new label longer = ap (λ (ls : List (Label X)). get_or (map cost_of ls) (length old.labels.items) 0) longer ∙ mapped_last cost_of old.labels.items label 0

-- the flag of a label that was there, where none is superseded
pub no_flag_set : (olds news : List Bool) (place : Option ℕ) (at : ℕ) → news ≡ olds ++ false ∷ [] → place ≡ None → at < length olds → (get_or news at true ≡ false) ↔ ((get_or olds at true ≡ false) × (place ≢ Some at))
no_flag_set olds news place at longer none lt =
    let same : get_or news at true ≡ get_or olds at true = ap (λ (flags : List Bool). get_or flags at true) longer ∙ get_or_append_left olds (false ∷ []) true at lt in
    (λ no. (sym same ∙ no, λ is. (let never : None ≡ Some at = sym none ∙ is in cc)), λ both. same ∙ both.0)

-- and where one is
pub one_flag_set : (olds news : List Bool) (place : Option ℕ) (one at : ℕ) → news ≡ set olds one true ++ false ∷ [] → place ≡ Some one → at < length olds → (get_or news at true ≡ false) ↔ ((get_or olds at true ≡ false) × (place ≢ Some at))
one_flag_set olds news place one at longer is lt =
    let first : get_or news at true ≡ get_or (set olds one true) at true = ap (λ (flags : List Bool). get_or flags at true) longer ∙ get_or_append_left (set olds one true) (false ∷ []) true at (omega (arith, lt, length-set olds one true)) in
    elim (cases_eq one at) [
      | inl same ↦
          let yes : get_or news at true ≡ true = first ∙ subst (λ n. get_or (set olds n true) at true ≡ true) (sym same) (get_or-set_same olds at true true lt) in
          (λ no. absurd (false≢true (sym no ∙ yes)), λ both. absurd (both.1 (is ∙ ap Some same)))
      | inr other ↦
          let same : get_or news at true ≡ get_or olds at true = first ∙ get_or-set_other olds one at true true (λ also. other (sym also)) in
          (λ no. (sym same ∙ no, λ also. other (some_same one at (sym is ∙ also))), λ both. same ∙ both.0)
    ]

-- what is kept for a key once the label is taken
kept_own : {X : Type 0} (old new : Candidates X) (label : Label X) (key : ℕ × ℕ) → IsTaken old label new → same_key (key_of label) key ≡ true → kept_in new key ≡ Some (record { at = length old.labels.items; cost = label.cost })
kept_own {X} old new label key taken same = taken.kept key ∙ ap (λ b. if b then Some (record { at = length old.labels.items; cost = label.cost }) else kept_in old key) same

kept_other : {X : Type 0} (old new : Candidates X) (label : Label X) (key : ℕ × ℕ) → IsTaken old label new → same_key (key_of label) key ≡ false → kept_in new key ≡ kept_in old key
kept_other {X} old new label key taken other = taken.kept key ∙ ap (λ b. if b then Some (record { at = length old.labels.items; cost = label.cost }) else kept_in old key) other

kept_if : {X : Type 0} (old new : Candidates X) (label : Label X) (key : ℕ × ℕ) → IsTaken old label new → same_key (key_of label) key ≡ true → kept_for new key ≡ Some (length old.labels.items)
kept_if {X} old new label key taken same = ap (option_map (λ (kept : KeptLabel). kept.at)) (kept_own old new label key taken same)

kept_else : {X : Type 0} (old new : Candidates X) (label : Label X) (key : ℕ × ℕ) → IsTaken old label new → same_key (key_of label) key ≡ false → kept_for new key ≡ kept_for old key
kept_else {X} old new label key taken other = ap (option_map (λ (kept : KeptLabel). kept.at)) (kept_other old new label key taken other)

-- where the label of a key stands
pub place_of_kept : {X : Type 0} (found : Candidates X) (key : ℕ × ℕ) (kept : KeptLabel) → kept_in found key ≡ Some kept → kept_for found key ≡ Some kept.at
place_of_kept {X} found key kept is = ap (option_map (λ (k : KeptLabel). k.at)) is

pub same_kept : (one other : KeptLabel) → Some one ≡ Some other → one ≡ other
same_kept one other same = cc

keyed_places : {X : Type 0} (old new : Candidates X) (label : Label X) → IsKeyed old → IsTaken old label new → (key : ℕ × ℕ) (at : ℕ) → kept_for new key ≡ Some at → (at < length new.labels.items) × (key_at new at ≡ key)
keyed_places {X} old new label keyed taken key at is =
    let long : length new.labels.items ≡ length old.labels.items + 1 = ap length taken.longer ∙ length-append old.labels.items (label ∷ []) in
    elim (cases_Bool (same_key (key_of label) key)) [
      | inl same ↦
          let here : length old.labels.items ≡ at = some_same (length old.labels.items) at (sym (kept_if old new label key taken same) ∙ is) in
          (omega (arith, long, here), ap (key_at new) (sym here) ∙ key_last old new label taken.longer ∙ keys_same (key_of label) key same)
      | inr other ↦
          let (within, of_key) = keyed.places key at (sym (kept_else old new label key taken other) ∙ is) in
          (omega (arith, long, within), key_first old new label at taken.longer within ∙ of_key)
    ]

keyed_costs : {X : Type 0} (old new : Candidates X) (label : Label X) → IsKeyed old → IsTaken old label new → (key : ℕ × ℕ) (kept : KeptLabel) → kept_in new key ≡ Some kept → kept.cost ≡ cost_at new kept.at
keyed_costs {X} old new label keyed taken key kept is =
    elim (cases_Bool (same_key (key_of label) key)) [
      | inl same ↦
          let here = same_kept (record { at = length old.labels.items; cost = label.cost }) kept (sym (kept_own old new label key taken same) ∙ is) in
          subst (λ (k : KeptLabel). k.cost ≡ cost_at new k.at) here (sym (cost_last old new label taken.longer))
      | inr other ↦
          let before : kept_in old key ≡ Some kept = sym (kept_other old new label key taken other) ∙ is in
          let (within, _) = keyed.places key kept.at (place_of_kept old key kept before) in
          keyed.costs key kept before ∙ sym (cost_first old new label kept.at taken.longer within)
    ]

-- the flag of a label that was there
first_flags : {X : Type 0} (old new : Candidates X) (label : Label X) → IsKeyed old → IsTaken old label new → (at : ℕ) → at < length old.labels.items → (is_superseded new at ≡ false) ↔ (kept_at new at ≡ Some at)
first_flags {X} old new label keyed taken at below =
    let key = key_at old at in
    let there : kept_at new at ≡ kept_for new key = ap (kept_for new) (key_first old new label at taken.longer below) in
    let (stays, back) = taken.first_flags at (omega (arith, below, keyed.one_flag_each)) in
    let (kept, flag) = keyed.flags at below in
    elim (cases_Bool (same_key (key_of label) key)) [
      | inl same ↦ (
        λ no. absurd ((stays no).1 (ap (kept_for old) (keys_same (key_of label) key same) ∙ kept (stays no).0)),
        λ is. absurd (let last : length old.labels.items ≡ at = some_same (length old.labels.items) at (sym (kept_if old new label key taken same) ∙ sym there ∙ is) in omega (arith, last, below)),
      )
      | inr other ↦ (
        λ no. there ∙ kept_else old new label key taken other ∙ kept (stays no).0,
        λ is. back (flag (sym (kept_else old new label key taken other) ∙ sym there ∙ is), λ own. false≢true (sym other ∙ ap (same_key (key_of label)) (keyed.places (key_of label) at own).1 ∙ key_itself (key_of label))),
      )
    ]

keyed_flags : {X : Type 0} (old new : Candidates X) (label : Label X) → IsKeyed old → IsTaken old label new → (at : ℕ) → at < length new.labels.items → (is_superseded new at ≡ false) ↔ (kept_at new at ≡ Some at)
keyed_flags {X} old new label keyed taken at lt =
    let count = length old.labels.items in
    elim (cases_lt at count) [
      | inl below ↦ first_flags old new label keyed taken at below
      | inr above ↦
          let here : count ≡ at = omega (arith, above, lt, ap length taken.longer, length-append old.labels.items (label ∷ [])) in
          let kept : kept_at new count ≡ Some count = ap (kept_for new) (key_last old new label taken.longer) ∙ kept_if old new label (key_of label) taken (key_itself (key_of label)) in
          (λ _. subst (λ n. kept_at new n ≡ Some n) here kept, λ _. subst (λ n. is_superseded new n ≡ false) (keyed.one_flag_each ∙ here) taken.last_flag)
    ]

pub keyed_taken : {X : Type 0} (old new : Candidates X) (label : Label X) → IsKeyed old → IsTaken old label new → IsKeyed new
keyed_taken {X} old new label keyed taken = record {
  places = keyed_places old new label keyed taken;
  costs = keyed_costs old new label keyed taken;
  one_flag_each = omega (arith, taken.one_flag_more, keyed.one_flag_each, ap length taken.longer, length-append old.labels.items (label ∷ []));
  flags = keyed_flags old new label keyed taken;
}

pub keyed_offered : {X : Type 0} (old new : Candidates X) (label : Label X) → IsKeyed old → IsOffered old label new → IsKeyed new
keyed_offered {X} old new label keyed (inl refused) = subst IsKeyed (sym refused.same) keyed
keyed_offered {X} old new label keyed (inr taken) = keyed_taken old new label keyed taken

-- ---- the stops of labels

pub length_sequences : {X : Type 0} (before : List (List ℕ)) (labels : List (Label X)) → length (sequences before labels) ≡ length labels
length_sequences {X} before [] = refl
length_sequences {X} before (label ∷ labels) = ap suc (length_sequences before labels)

sequences_with : {X : Type 0} (before : List (List ℕ)) (labels : List (Label X)) (label : Label X) → sequences before (labels ++ label ∷ []) ≡ sequences before labels ++ stops_of before label ∷ []
sequences_with {X} before [] label = refl
sequences_with {X} before (other ∷ labels) label = ap (λ (xs : List (List ℕ)). stops_of before other ∷ xs) (sequences_with before labels label)

pub sequence_at : {X : Type 0} (before : List (List ℕ)) (labels : List (Label X)) (at : ℕ) (d : List ℕ) (e : Label X) → at < length labels → get_or (sequences before labels) at d ≡ stops_of before (get_or labels at e)
sequence_at {X} before [] at d e lt = absurd (omega (arith, lt))
sequence_at {X} before (label ∷ labels) zero d e lt = refl
sequence_at {X} before (label ∷ labels) (suc at) d e lt = sequence_at before labels at d e (omega (arith, lt))

-- ---- extensions

extensions_rise : (k : ℕ) (stops : List (List ℕ)) (i c j d : ℕ) → All (λ xs. length xs ≡ k) stops → AllPairs IsEarlier stops → i < length stops → j < length stops → IsBefore i c j d
    → IsEarlier (get_or stops i [] ++ c ∷ []) (get_or stops j [] ++ d ∷ [])
extensions_rise k stops i c j d size rising lt within (inl less) = earlier_longer (get_or stops i []) (get_or stops j []) (c ∷ []) (d ∷ []) (size i [] lt ∙ sym (size j [] within)) (rising i j [] less within)
extensions_rise k stops i c j d size rising lt within (inr (same, less)) =
    subst (λ (n : ℕ). IsEarlier (get_or stops n [] ++ c ∷ []) (get_or stops j [] ++ d ∷ [])) (sym same) (earlier_behind (get_or stops j []) (c ∷ []) (d ∷ []) (inl less))

-- what comes before changes, where no useful beginning of the share comes between
pub moved : {X : Type 0} (s : SettingOf X) (k : ℕ) (stops : List (List ℕ)) (i c j d : ℕ) (level : Candidates X) → HasExtensions s k stops i c level
    → ((m n : ℕ) → IsBefore m n i c → IsBefore m n j d)
    → ((m n : ℕ) → IsBefore m n j d → m < length stops → is_in level.share n ≡ true → BeginsUseful s.problem s.range (get_or stops m [] ++ n ∷ []) → IsBefore m n i c)
    → HasExtensions s k stops j d level
moved {X} s k stops i c j d level has on back = record {
  size = has.size;
  rising = has.rising;
  are = has.are;
  before = λ at e lt. on _ _ (has.before at e lt);
  every = λ m n before lt mine useful. has.every m n (back m n before lt mine useful) lt mine useful;
}

-- an extension that isn't offered is of no useful beginning, or of another share
pub passed : {X : Type 0} (s : SettingOf X) (k : ℕ) (stops : List (List ℕ)) (i c : ℕ) (level : Candidates X) → HasExtensions s k stops i c level → (is_in level.share c ≡ true → BeginsUseful s.problem s.range (get_or stops i [] ++ c ∷ []) → ⊥) → HasExtensions s k stops i (c + 1) level
passed {X} s k stops i c level has none = moved s k stops i c i (c + 1) level has on back
  where
    on : (m n : ℕ) → IsBefore m n i c → IsBefore m n i (c + 1)
    on m n (inl less) = inl less
    on m n (inr (same, less)) = inr (same, omega (arith, less))

    back : (m n : ℕ) → IsBefore m n i (c + 1) → m < length stops → is_in level.share n ≡ true → BeginsUseful s.problem s.range (get_or stops m [] ++ n ∷ []) → IsBefore m n i c
    back m n (inl less) lt mine useful = inl less
    back m n (inr (same, less)) lt mine useful =
        elim (cases_lt n c) [
          | inl below ↦ inr (same, below)
          | inr above ↦ (let is : n ≡ c = omega (arith, above, less) in absurd (none (subst (λ n. is_in level.share n ≡ true) is mine) (subst (λ (n : ℕ). BeginsUseful s.problem s.range (get_or stops i [] ++ n ∷ [])) is (subst (λ (m : ℕ). BeginsUseful s.problem s.range (get_or stops m [] ++ n ∷ [])) same useful))))
        ]

-- nor are several of another share
pub skipped : {X : Type 0} (s : SettingOf X) (k : ℕ) (stops : List (List ℕ)) (i c d : ℕ) (level : Candidates X) → HasExtensions s k stops i c level → c ≤ d → ((n : ℕ) → c ≤ n → n < d → is_in level.share n ≡ true → ⊥) → HasExtensions s k stops i d level
skipped {X} s k stops i c d level has no_more none = moved s k stops i c i d level has on back
  where
    on : (m n : ℕ) → IsBefore m n i c → IsBefore m n i d
    on m n (inl less) = inl less
    on m n (inr (same, less)) = inr (same, omega (arith, less, no_more))

    back : (m n : ℕ) → IsBefore m n i d → m < length stops → is_in level.share n ≡ true → BeginsUseful s.problem s.range (get_or stops m [] ++ n ∷ []) → IsBefore m n i c
    back m n (inl less) lt mine useful = inl less
    back m n (inr (same, less)) lt mine useful =
        elim (cases_lt n c) [
          | inl below ↦ inr (same, below)
          | inr above ↦ absurd (none n above less mine)
        ]

-- the last stop of a useful beginning is a customer
last_customer : (p : Problem) (range : PlanRange) (xs : List ℕ) (k : ℕ) → BeginsUseful p range (xs ++ k ∷ []) → Contains (customers p) k
last_customer p range xs k useful = subst (Contains (customers p)) (at_end xs k 0) ((useful_begins p range (xs ++ k ∷ []) useful).known (length xs) 0 (omega (arith, length-append xs (k ∷ []))))

-- a label has no extensions from the last place on
pub all_extensions : {X : Type 0} (s : SettingOf X) (k : ℕ) (stops : List (List ℕ)) (i c : ℕ) (level : Candidates X) → place_count s.problem ≤ c → HasExtensions s k stops i c level → HasExtensions s k stops (i + 1) 0 level
all_extensions {X} s k stops i c level all has = moved s k stops i c (i + 1) 0 level has on back
  where
    on : (m n : ℕ) → IsBefore m n i c → IsBefore m n (i + 1) 0
    on m n (inl less) = inl (omega (arith, less))
    on m n (inr (same, less)) = inl (omega (arith, same))

    back : (m n : ℕ) → IsBefore m n (i + 1) 0 → m < length stops → is_in level.share n ≡ true → BeginsUseful s.problem s.range (get_or stops m [] ++ n ∷ []) → IsBefore m n i c
    back m n (inr (same, less)) lt mine useful = absurd (omega (arith, less))
    back m n (inl less) lt mine useful =
        elim (cases_lt m i) [
          | inl below ↦ inl below
          | inr above ↦ inr (omega (arith, less, above), (let place = customer_below s.problem n (last_customer s.problem s.range (get_or stops m []) n useful) in omega (arith, place, all)))
        ]

-- and none at the depot
pub first_extension : {X : Type 0} (s : SettingOf X) (k : ℕ) (stops : List (List ℕ)) (i : ℕ) (level : Candidates X) → HasExtensions s k stops i 0 level → HasExtensions s k stops i 1 level
first_extension {X} s k stops i level has = passed s k stops i 0 level has (λ mine useful. (let some = customer_is_some s.problem 0 (last_customer s.problem s.range (get_or stops i []) 0 useful) in omega (arith, some)))

-- the extensions up to the first customer of the share
pub up_to_first : {X : Type 0} (s : SettingOf X) (k : ℕ) (stops : List (List ℕ)) (i c : ℕ) (level : Candidates X) → 1 ≤ c → ((n : ℕ) → 1 ≤ n → n < c → is_in level.share n ≡ true → ⊥) → HasExtensions s k stops i 0 level → HasExtensions s k stops i c level
up_to_first {X} s k stops i c level some none has = skipped s k stops i 1 c level (first_extension s k stops i level has) some none

-- and from one to the next
pub up_to_next : {X : Type 0} (s : SettingOf X) (k : ℕ) (stops : List (List ℕ)) (i c : ℕ) (share : Share) (level : Candidates X) → level.share ≡ share → c % share.shares ≡ share.rest → HasExtensions s k stops i (c + 1) level → HasExtensions s k stops i (c + share.shares) level
up_to_next {X} s k stops i c share level same is has =
    skipped s k stops i (c + 1) (c + share.shares) level has (omega (arith, share.some))
    (λ n above below mine. none_between share.shares share.rest c n is (omega (arith, above)) below (eqb-true (n % share.shares) share.rest (subst (λ (own : Share). is_in own n ≡ true) same mine)))

shorter : (p : Problem) (range : PlanRange) (xs : List ℕ) (k : ℕ) → BeginsUseful p range (xs ++ k ∷ []) → BeginsUseful p range xs
shorter p range xs k (more, useful) = (k ∷ more, subst (IsUsefulIn p range) (simp append_assoc) useful)

-- what was kept stays so, where it is useful
still_kept : {X : Type 0} (s : SettingOf X) (before : List (List ℕ)) (old new : Candidates X) (label : Label X) (xs : List ℕ) → All (λ l. IsLabel s (stops_of before l) l) old.labels.items
    → IsTaken old label new → IsLabel s (stops_of before label) label → BeginsUseful s.problem s.range xs → IsKept (sequences before old.labels.items) old xs → IsKept (sequences before new.labels.items) new xs
still_kept {X} s before old new label xs each taken is_label useful kept =
    let olds = sequences before old.labels.items in
    let all : sequences before new.labels.items ≡ olds ++ stops_of before label ∷ [] = ap (sequences before) taken.longer ∙ sequences_with before old.labels.items label in
    let within : kept.at < length old.labels.items = subst (λ n. kept.at < n) (length_sequences before old.labels.items) kept.within in
    let other_label = get_or old.labels.items kept.at label in
    let key = key_at old kept.at in
    let of_key : key ≡ key_of other_label = key_there old kept.at label within in
    let of_cost : cost_at old kept.at ≡ other_label.cost = cost_there old kept.at label within in
    let there : stops_of before other_label ≡ xs = sym (sequence_at before old.labels.items kept.at [] label within) ∙ kept.is in
    let is_old : IsLabel s xs other_label = subst (λ (ys : List ℕ). IsLabel s ys other_label) there (each kept.at label within) in
    let place : kept_for new key ≡ Some kept.at = elim (cases_Bool (same_key (key_of label) key)) [
      | inl same ↦ absurd (
          let one = keys_same (key_of label) key same in
          no_rival s (stops_of before label) xs label other_label is_label is_old (one ∙ of_key) useful (inl (subst (λ n. label.cost < n) of_cost (taken.cheaper kept.at (ap (kept_for old) one ∙ kept.kept)))))
      | inr other ↦ kept_else old new label key taken other ∙ kept.kept
    ] in
    record {
      at = kept.at;
      within = subst (λ (zs : List (List ℕ)). kept.at < length zs) (sym all) (omega (arith, kept.within, length-append olds (stops_of before label ∷ [])));
      is = ap (λ (zs : List (List ℕ)). get_or zs kept.at []) all ∙ get_or_append_left olds (stops_of before label ∷ []) [] kept.at kept.within ∙ kept.is;
      kept = ap (kept_for new) (key_first old new label kept.at taken.longer within) ∙ place;
    }

taken_extension : {X : Type 0} (s : SettingOf X) (k : ℕ) (stops : List (List ℕ)) (old new : Candidates X) (child : Label X) → HasExtensions s k stops child.parent child.last old → child.parent < length stops → is_in old.share child.last ≡ true → IsLabel s (stops_of stops child) child → IsTaken old child new
    → HasExtensions s k stops child.parent (child.last + 1) new
taken_extension {X} s k stops old new child has lt mine is taken = record {
  size = has.size;
  rising = has.rising;
  are = subst (λ share. AreExtensions s (is_in share) stops new.labels.items) (sym taken.share) (subst (AreExtensions s (is_in old.share) stops) (sym taken.longer) (record {
    each = All-push (λ l. IsLabel s (stops_of stops l) l) old.labels.items child has.are.each is;
    parents = All-push (λ l. l.parent < length stops) old.labels.items child has.are.parents lt;
    own = All-push (λ l. is_in old.share l.last ≡ true) old.labels.items child has.are.own mine;
    ordered = all_pairs_push ComesFirst old.labels.items child has.are.ordered has.before;
  }));
  before = subst (All Before) (sym taken.longer) (All-push Before old.labels.items child (λ at e within. longer _ _ (has.before at e within)) (inr (refl, omega arith)));
  every = λ i c before within own useful. every i c before within (subst (λ share. is_in share c ≡ true) taken.share own) useful;
}
  where
    olds : List (List ℕ)
    olds = sequences stops old.labels.items

    own_stops : List ℕ
    own_stops = stops_of stops child

    Before : Label X → Type 0
    Before label = IsBefore label.parent label.last child.parent (child.last + 1)

    all : sequences stops new.labels.items ≡ olds ++ own_stops ∷ []
    all = ap (sequences stops) taken.longer ∙ sequences_with stops old.labels.items child

    longer : (m n : ℕ) → IsBefore m n child.parent child.last → IsBefore m n child.parent (child.last + 1)
    longer m n (inl less) = inl less
    longer m n (inr (same, less)) = inr (same, omega (arith, less))

    many : length (olds ++ own_stops ∷ []) ≡ length olds + 1
    many = length-append olds (own_stops ∷ [])

    count : length olds ≡ length old.labels.items
    count = length_sequences stops old.labels.items

    every : (i c : ℕ) → IsBefore i c child.parent (child.last + 1) → i < length stops → is_in old.share c ≡ true → BeginsUseful s.problem s.range (get_or stops i [] ++ c ∷ []) → IsKept (sequences stops new.labels.items) new (get_or stops i [] ++ c ∷ [])
    every i c (inl less) within own useful = still_kept s stops old new child (get_or stops i [] ++ c ∷ []) has.are.each taken is useful (has.every i c (inl less) within own useful)
    every i c (inr (same, less)) within own useful =
        elim (cases_lt c child.last) [
          | inl below ↦ still_kept s stops old new child (get_or stops i [] ++ c ∷ []) has.are.each taken is useful (has.every i c (inr (same, below)) within own useful)
          | inr above ↦
              let here : c ≡ child.last = omega (arith, above, less) in
              let word : get_or stops i [] ++ c ∷ [] ≡ own_stops = ap (λ (n : ℕ). get_or stops n [] ++ c ∷ []) same ∙ ap (λ (n : ℕ). get_or stops child.parent [] ++ n ∷ []) here in
              subst (IsKept (sequences stops new.labels.items) new) (sym word) (record {
                at = length olds;
                within = omega (arith, ap length all, many);
                is = ap (λ (zs : List (List ℕ)). get_or zs (length olds) []) all ∙ at_end olds own_stops [];
                kept = ap (kept_for new) (ap (key_at new) count ∙ key_last old new child taken.longer) ∙ kept_if old new child (key_of child) taken (key_itself (key_of child)) ∙ ap Some (sym count);
              })
        ]

refused_extension : {X : Type 0} (s : SettingOf X) (k : ℕ) (stops : List (List ℕ)) (old new : Candidates X) (child : Label X) → HasExtensions s k stops child.parent child.last old → IsKeyed old → child.parent < length stops → IsLabel s (stops_of stops child) child → IsRefused old child new
    → HasExtensions s k stops child.parent (child.last + 1) new
refused_extension {X} s k stops old new child has keyed lt is refused =
    subst (HasExtensions s k stops child.parent (child.last + 1)) (sym refused.same) (passed s k stops child.parent child.last old has (λ mine useful.
    let (within, of_key) = keyed.places (key_of child) refused.at refused.kept in
    let other = get_or old.labels.items refused.at child in
    let earlier : IsEarlier (stops_of stops other) (stops_of stops child) = extensions_rise k stops other.parent other.last child.parent child.last has.size has.rising (has.are.parents refused.at child within) lt (has.before refused.at child within) in
    no_rival s (stops_of stops other) (stops_of stops child) other child (has.are.each refused.at child within) is (sym (key_there old refused.at child within) ∙ of_key) useful (no_costlier_before other.cost child.cost (stops_of stops other) (stops_of stops child) (subst (λ n. n ≤ child.cost) (cost_there old refused.at child within) refused.no_costlier) earlier)))
  where
    no_costlier_before : (cost other : ℕ) (xs ys : List ℕ) → cost ≤ other → IsEarlier xs ys → ComesBefore cost xs other ys
    no_costlier_before cost other xs ys no_more earlier = elim (cases_lt cost other) [
      | inl less ↦ inl less
      | inr more ↦ inr (omega (arith, no_more, more), earlier)
    ]

pub offered_extension : {X : Type 0} (s : SettingOf X) (k : ℕ) (stops : List (List ℕ)) (old new : Candidates X) (child : Label X) → HasExtensions s k stops child.parent child.last old → IsKeyed old → child.parent < length stops → is_in old.share child.last ≡ true → IsLabel s (stops_of stops child) child → IsOffered old child new
    → HasExtensions s k stops child.parent (child.last + 1) new
offered_extension {X} s k stops old new child has keyed lt mine is (inl refused) = refused_extension s k stops old new child has keyed lt is refused
offered_extension {X} s k stops old new child has keyed lt mine is (inr taken) = taken_extension s k stops old new child has lt mine is taken

pub share_stays : {X : Type 0} (old new : Candidates X) (label : Label X) → IsOffered old label new → new.share ≡ old.share
share_stays {X} old new label (inl refused) = ap (λ (found : Candidates X). found.share) refused.same
share_stays {X} old new label (inr taken) = taken.share

-- ---- a level

pub no_extensions : {X : Type 0} (s : SettingOf X) (k : ℕ) (stops : List (List ℕ)) (labels : List (Label X)) (next : Candidates X) → IsLevel s k stops labels → next.labels.items ≡ [] → HasExtensions s k stops 0 0 next
no_extensions {X} s k stops labels next is none = record {
  size = is.are.size;
  rising = is.are.rising;
  are = subst (AreExtensions s (is_in next.share) stops) (sym none) (record {
    each = All-nil _;
    parents = All-nil _;
    own = All-nil _;
    ordered = λ i j d less lt. absurd (omega (arith, lt));
  });
  before = subst (All (λ label. IsBefore label.parent label.last 0 0)) (sym none) (All-nil _);
  every = λ i c before lt mine useful. absurd (never i c before);
}
  where
    never : (i c : ℕ) → IsBefore i c 0 0 → ⊥
    never i c (inl less) = omega (arith, less)
    never i c (inr (same, less)) = omega (arith, less)

pub all_grown : {X : Type 0} (s : SettingOf X) (k : ℕ) (stops : List (List ℕ)) (labels : List (Label X)) (next : Candidates X) (i : ℕ) → IsLevel s k stops labels → length stops ≤ i → HasExtensions s k stops i 0 next → IsGrown s (k + 1) stops next
all_grown {X} s k stops labels next i is all has = record {
  are = has.are;
  every = λ xs long mine useful.
      let e = ends_at xs (λ none. (let short = ap length none in omega (arith, long, short))) in
      let whole : BeginsUseful s.problem s.range (e.prefix ++ e.last ∷ []) = subst (BeginsUseful s.problem s.range) e.is useful in
      let size : length e.prefix ≡ k = omega (arith, ap length e.is, length-append e.prefix (e.last ∷ []), long) in
      let (at, within, there) = is.every e.prefix size (shorter s.problem s.range e.prefix e.last whole) in
      let prefix : get_or stops at [] ≡ e.prefix = get_or_default stops at [] e.prefix within ∙ there in
      let same : get_or stops at [] ++ e.last ∷ [] ≡ xs = ap (λ (ys : List ℕ). ys ++ e.last ∷ []) prefix ∙ sym e.is in
      let last : last_symbol xs ≡ e.last = ap last_symbol e.is ∙ last_symbol_with e.prefix e.last in
      let should_continue : IsKept (sequences stops next.labels.items) next (get_or stops at [] ++ e.last ∷ []) = (has.every at e.last (inl (omega (arith, within, all))) within (subst (λ n. is_in next.share n ≡ true) last mine) (subst (BeginsUseful s.problem s.range) (sym same) useful)) in
      subst (IsKept (sequences stops next.labels.items) next) same should_continue;
}

-- the labels of all shares together are a level
pub whole_level : {X : Type 0} (s : SettingOf X) (k : ℕ) (mine : ℕ → Bool) (stops : List (List ℕ)) (before labels : List (Label X)) → IsLevel s k stops before → ((c : ℕ) → mine c ≡ true) → IsShare s (k + 1) mine stops labels → IsLevel s (k + 1) (sequences stops labels) labels
whole_level {X} s k mine stops before labels is every share = record {
  are = record {
    long = length_sequences stops labels;
    each = λ at d lt. (let inside : at < length labels = omega (arith, lt, length_sequences stops labels) in subst (λ (xs : List ℕ). IsLabel s xs (get_or labels at d)) (sym (sequence_at stops labels at [] d inside)) (share.are.each at d inside));
    size = λ at d lt. (let inside : at < length labels = omega (arith, lt, length_sequences stops labels) in
        let some = element labels at inside in
        let label = get_or labels at some in
        ap length (sequence_at stops labels at d some inside) ∙ length-append (get_or stops label.parent []) (label.last ∷ []) ∙ ap (λ n. n + 1) (is.are.size label.parent [] (share.are.parents at some inside)));
    rising = λ i j d less lt.
        let within : j < length labels = omega (arith, lt, length_sequences stops labels) in
        let inside : i < length labels = omega (arith, less, within) in
        let some = element labels i inside in
        let one = get_or labels i some in
        let other = get_or labels j some in
        let rises = extensions_rise k stops one.parent one.last other.parent other.last is.are.size is.are.rising (share.are.parents i some inside) (share.are.parents j some within) (share.are.ordered i j some less within) in
        subst (λ (xs : List ℕ). IsEarlier (get_or (sequences stops labels) i d) xs) (sym (sequence_at stops labels j d some within))
        (subst (λ (xs : List ℕ). IsEarlier xs (stops_of stops other)) (sym (sequence_at stops labels i d some inside)) rises);
  };
  every = λ xs long useful. share.every xs long (every (last_symbol xs)) useful;
}

-- ---- none so far

none_kept : {X : Type 0} (level : Candidates X) (key : ℕ × ℕ) → level.kept.entries ≡ [] → kept_in level key ≡ None
none_kept {X} level key empty = ap (lookup (same_key key)) empty

pub empty_is_keyed : {X : Type 0} (level : Candidates X) → level.kept.entries ≡ [] → level.labels.items ≡ [] → level.superseded.items ≡ [] → IsKeyed level
empty_is_keyed {X} level empty none no_flags = record {
  places = λ key at is. absurd (let never : None ≡ Some at = sym (ap (option_map (λ (kept : KeptLabel). kept.at)) (none_kept level key empty)) ∙ is in cc);
  costs = λ key kept is. absurd (let never : None ≡ Some kept = sym (none_kept level key empty) ∙ is in cc);
  one_flag_each = ap length no_flags ∙ sym (ap length none);
  flags = λ at lt. absurd (omega (arith, lt, ap length none));
}

-- ---- the level of no stops

pub root_level : {X : Type 0} (s : SettingOf X) (root : Label X) → IsLabel s [] root → IsLevel s 0 ([] ∷ []) (root ∷ [])
root_level {X} s root is = record {
  are = record {
    long = refl;
    each = each;
    size = All-cons (λ xs. length xs ≡ 0) [] [] refl (All-nil _);
    rising = λ i j d less lt. absurd (omega (arith, less, lt));
  };
  every = λ xs long useful. (0, omega arith, sym (nil_from_length xs long));
}
  where
    each : (at : ℕ) (d : Label X) → at < 1 → IsLabel s (get_or ([] ∷ []) at []) (get_or (root ∷ []) at d)
    each zero d lt = is
    each (suc at) d lt = absurd (omega (arith, lt))
