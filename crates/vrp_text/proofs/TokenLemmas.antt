-- The tokens of a text, from its front.
use Rattle.std.proofs.Common.{◌≡◌, ◌==◌, ℕ, zero, suc, ◌+◌, ◌<◌, Bool, true, false, not, nat_lt, List, [], ◌∷◌, length, get_or, take, drop, refl, sym, ap, ◌∙◌, inl, inr, arith}
use Rattle.std.specs.List.{filter, slice_split, onto_first, prefix_len, position_or_len}
use Rattle.std.proofs.lemmas.Grind.{common_steps}
use Rattle.std.proofs.lemmas.Bool.{cases_Bool, cases_lt, eqb-true, eq-eqb}
use Rattle.std.proofs.lemmas.List.{drop_more, drop_all, take_all, nil_from_length}
use Rattle.std.proofs.lemmas.List.Sums.{prefix_len-le-length, passes_at_first}
use Rattle.std.proofs.lemmas.List.Folds.{length-prefix_len}
use Rattle.std.proofs.lemmas.List.Splits.{slice_split-cons_yes, slice_split-cons_no, slice_split_first}

-- the parts between the bytes that pass, without the empty ones
abbrev pub parts_of : (ℕ → Bool) → List ℕ → List (List ℕ)
parts_of p text = filter (λ token. nat_lt 0 (length token)) (slice_split p text)

part_behind : (p : ℕ → Bool) (x : ℕ) (xs : List ℕ) → p x ≡ true → parts_of p (x ∷ xs) ≡ parts_of p xs
part_behind p x xs here = ap (filter (λ token. nat_lt 0 (length token))) (slice_split-cons_yes p x xs here)

skipped_yes : (p : ℕ → Bool) (x : ℕ) (xs : List ℕ) → p x ≡ true → drop (prefix_len p (x ∷ xs)) (x ∷ xs) ≡ drop (prefix_len p xs) xs
skipped_yes p x xs here = grind (arith, common_steps)

skipped_no : (p : ℕ → Bool) (x : ℕ) (xs : List ℕ) → p x ≡ false → drop (prefix_len p (x ∷ xs)) (x ∷ xs) ≡ x ∷ xs
skipped_no p x xs gone = grind (arith, common_steps)

-- what passes at the front changes nothing
parts_skipped : (p : ℕ → Bool) (text : List ℕ) → parts_of p (drop (prefix_len p text) text) ≡ parts_of p text
parts_skipped p [] = refl
parts_skipped p (x ∷ xs) =
    elim (cases_Bool (p x)) [
      | inl here ↦ ap (parts_of p) (skipped_yes p x xs here) ∙ parts_skipped p xs ∙ sym (part_behind p x xs here)
      | inr gone ↦ ap (parts_of p) (skipped_no p x xs gone)
    ]

-- behind what passes at the front stands something that does not
fails_behind : (p : ℕ → Bool) (text : List ℕ) (x : ℕ) (xs : List ℕ) → drop (prefix_len p text) text ≡ x ∷ xs → p x ≡ false
fails_behind p [] x xs e = absurd cc
fails_behind p (y ∷ ys) x xs e =
    elim (cases_Bool (p y)) [
      | inl here ↦ fails_behind p ys x xs (sym (skipped_yes p y ys here) ∙ e)
      | inr gone ↦
          let same : y ∷ ys ≡ x ∷ xs = sym (skipped_no p y ys gone) ∙ e in
          let first : y ≡ x = cc in
          ap p (sym first) ∙ gone
    ]

-- where nothing passes, the text is one part
pub split_whole : (p : ℕ → Bool) (text : List ℕ) → position_or_len p text ≡ length text → slice_split p text ≡ text ∷ []
split_whole p [] e = refl
split_whole p (x ∷ xs) e =
    elim (cases_Bool (p x)) [
      | inl here ↦ absurd (grind (arith, common_steps))
      | inr gone ↦
          let rest : position_or_len p xs ≡ length xs = grind (arith, common_steps) in
          slice_split-cons_no p x xs gone ∙ ap (onto_first x) (split_whole p xs rest)
    ]

kept_first : (token : List ℕ) (parts : List (List ℕ)) → 0 < length token → filter (λ part. nat_lt 0 (length part)) (token ∷ parts) ≡ token ∷ filter (λ part. nat_lt 0 (length part)) parts
kept_first [] parts some = absurd (omega arith)
kept_first (x ∷ xs) parts some = grind (arith, common_steps)

long_token : (p : ℕ → Bool) (x : ℕ) (xs : List ℕ) → p x ≡ false → 0 < position_or_len p (x ∷ xs)
long_token p x xs gone = grind (arith, common_steps)

first_length : (p : ℕ → Bool) (text : List ℕ) → length (take (position_or_len p text) text) ≡ position_or_len p text
first_length p text = length-prefix_len (λ x. not (p x)) text

-- up to something that passes
part_before : (p : ℕ → Bool) (text : List ℕ) → 0 < position_or_len p text → position_or_len p text < length text
    → parts_of p text ≡ take (position_or_len p text) text ∷ parts_of p (drop (position_or_len p text) text)
part_before p text some within =
    let place = position_or_len p text in
    let parts : slice_split p text ≡ take place text ∷ slice_split p (drop (place + 1) text) = slice_split_first p text 0 within in
    let long : 0 < length (take place text) = omega (arith, first_length p text) in
    let cut : drop place text ≡ get_or text place 0 ∷ drop (place + 1) text = drop_more text place 0 within in
    ap (filter (λ part. nat_lt 0 (length part))) parts
    ∙ kept_first (take place text) (slice_split p (drop (place + 1) text)) long
    ∙ ap (λ (later : List (List ℕ)). take place text ∷ later) (sym (ap (parts_of p) cut ∙ part_behind p (get_or text place 0) (drop (place + 1) text) (passes_at_first p text 0 within)))

-- up to the end
part_last : (p : ℕ → Bool) (text : List ℕ) → 0 < position_or_len p text → position_or_len p text ≡ length text
    → parts_of p text ≡ take (position_or_len p text) text ∷ parts_of p (drop (position_or_len p text) text)
part_last p text some whole =
    let token : take (position_or_len p text) text ≡ text = take_all _ text (omega arith) in
    let none : drop (position_or_len p text) text ≡ [] = drop_all _ text (omega arith) in
    ap (filter (λ part. nat_lt 0 (length part))) (split_whole p text whole)
    ∙ kept_first text [] (omega arith)
    ∙ cc

first_part : (p : ℕ → Bool) (text : List ℕ) → 0 < position_or_len p text
    → parts_of p text ≡ take (position_or_len p text) text ∷ parts_of p (drop (position_or_len p text) text)
first_part p text some =
    elim (cases_lt (position_or_len p text) (length text)) [
      | inl within ↦ part_before p text some within
      | inr whole ↦ part_last p text some (omega (arith, prefix_len-le-length (λ x. not (p x)) text))
    ]

-- the part behind what passes at the front, and the parts behind it
next_part : (p : ℕ → Bool) (text bare : List ℕ) → bare ≡ drop (prefix_len p text) text → 0 < length bare
    → parts_of p text ≡ take (position_or_len p bare) bare ∷ parts_of p (drop (position_or_len p bare) bare)
next_part p text [] e some = absurd (omega arith)
next_part p text (x ∷ xs) e some =
    sym (ap (parts_of p) e ∙ parts_skipped p text) ∙ first_part p (x ∷ xs) (long_token p x xs (fails_behind p text x xs (sym e)))

-- no part is left where all passes
pub no_part : (p : ℕ → Bool) (text bare : List ℕ) → bare ≡ drop (prefix_len p text) text → length bare ≡ 0 → parts_of p text ≡ []
no_part p text bare e none = sym (ap (parts_of p) (sym (nil_from_length bare none) ∙ e) ∙ parts_skipped p text)

-- where no part is left, all bytes pass
pub all_pass : (p : ℕ → Bool) (text bare : List ℕ) → bare ≡ drop (prefix_len p text) text → parts_of p text ≡ [] → length bare ≡ 0
all_pass p text [] e none = refl
all_pass p text (x ∷ xs) e none = absurd (let one = next_part p text (x ∷ xs) e (omega arith) in cc)

-- a test that a length is 0 holds: it is 0
pub none_from_test : (b : Bool) (n : ℕ) → b ≡ (n == 0) → b ≡ true → n ≡ 0
none_from_test b n e h = eqb-true n 0 (sym e ∙ h)

-- a test that a length is 0 fails: it is more
pub some_from_test : (b : Bool) (n : ℕ) → b ≡ (n == 0) → b ≡ false → 0 < n
some_from_test b zero e h = absurd cc
some_from_test b (suc n) e h = omega arith

-- a length is 0: the test that it is holds
pub test_from_none : (b : Bool) (n : ℕ) → b ≡ (n == 0) → n ≡ 0 → b ≡ true
test_from_none b n e none = e ∙ eq-eqb n 0 none

-- the same, in the words of a call that cuts
pub next_cut : (p : ℕ → Bool) (text bare : List ℕ) (n : ℕ) (token rest : List ℕ) → bare ≡ drop (prefix_len p text) text → 0 < length bare
    → n ≡ position_or_len p bare → token ≡ take n bare → rest ≡ drop n bare → parts_of p text ≡ token ∷ parts_of p rest
next_cut p text bare n token rest e some place front back = rw (front, back, place) (next_part p text bare e some)
