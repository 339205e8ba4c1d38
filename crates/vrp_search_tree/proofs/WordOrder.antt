-- The order in which a search comes by words: symbol by symbol, and a word before the longer ones that begin with it.
use Rattle.std.proofs.Common.{◌≡◌, ℕ, ◌+◌, ◌≤◌, ◌<◌, ◌⊎◌, inl, inr, List, [], ◌∷◌, ◌++◌, length, length-append, ap, refl, arith}
use Rattle.std.proofs.lemmas.Bool.{cases_lt}
use Rattle.vrp_model.specs.Order.{IsEarlier}
use Rattle.vrp_model.specs.Word.{BeginsWith, last_symbol}

-- the second word is the first one, or comes behind it
abbrev pub IsFrom : List ℕ → List ℕ → Type 0
IsFrom [] word = Unit {0}
IsFrom (k ∷ from) [] = ⊥
IsFrom (k ∷ from) (j ∷ word) = (k < j) ⊎ ((k ≡ j) × IsFrom from word)

pub from_itself : (word : List ℕ) → IsFrom word word
from_itself [] = tt
from_itself (k ∷ word) = inr (refl, from_itself word)

pub from_shorter : (prefix more word : List ℕ) → IsFrom (prefix ++ more) word → IsFrom prefix word
from_shorter [] more word from = tt
from_shorter (k ∷ prefix) more [] from = absurd from
from_shorter (k ∷ prefix) more (j ∷ word) (inl above) = inl above
from_shorter (k ∷ prefix) more (j ∷ word) (inr here) = inr (here.0, from_shorter prefix more word here.1)

pub not_from_longer : (prefix more : List ℕ) (k : ℕ) → IsFrom (prefix ++ k ∷ more) prefix → ⊥
not_from_longer [] more k from = from
not_from_longer (j ∷ prefix) more k (inl above) = omega (arith, above)
not_from_longer (j ∷ prefix) more k (inr here) = not_from_longer prefix more k here.1

-- a later sibling
pub from_sibling : (prefix : List ℕ) (j k : ℕ) (word : List ℕ) → j ≤ k → IsFrom (prefix ++ k ∷ []) word → IsFrom (prefix ++ j ∷ []) word
from_sibling [] j k [] le from = absurd from
from_sibling [] j k (i ∷ word) le (inl above) = inl (omega (arith, le, above))
from_sibling [] j k (i ∷ word) le (inr here) = elim (cases_lt j k) [
  | inl below ↦ inl (omega (arith, below, here.0))
  | inr same ↦ inr (omega (arith, le, same, here.0), tt)
]
from_sibling (i ∷ prefix) j k [] le from = absurd from
from_sibling (i ∷ prefix) j k (h ∷ word) le (inl above) = inl above
from_sibling (i ∷ prefix) j k (h ∷ word) le (inr here) = inr (here.0, from_sibling prefix j k word le here.1)

-- what comes from the next sibling of a prefix on comes behind its children
pub from_next : (prefix : List ℕ) (last k : ℕ) (word : List ℕ) → IsFrom (prefix ++ (last + 1) ∷ []) word → IsFrom ((prefix ++ last ∷ []) ++ k ∷ []) word
from_next [] last k [] from = absurd from
from_next [] last k (j ∷ word) (inl above) = inl (omega (arith, above))
from_next [] last k (j ∷ word) (inr here) = inl (omega (arith, here.0))
from_next (i ∷ prefix) last k [] from = absurd from
from_next (i ∷ prefix) last k (j ∷ word) (inl above) = inl above
from_next (i ∷ prefix) last k (j ∷ word) (inr here) = inr (here.0, from_next prefix last k word here.1)

-- behind a prefix stand its children and what comes behind them
pub prefix_or_behind : (prefix word : List ℕ) → IsFrom prefix word → (word ≡ prefix) ⊎ IsFrom (prefix ++ 0 ∷ []) word
prefix_or_behind [] [] from = inl refl
prefix_or_behind [] (j ∷ word) from = elim (cases_lt 0 j) [
  | inl above ↦ inr (inl above)
  | inr none ↦ inr (inr (omega (arith, none), tt))
]
prefix_or_behind (k ∷ prefix) [] from = absurd from
prefix_or_behind (k ∷ prefix) (j ∷ word) (inl above) = inr (inl above)
prefix_or_behind (k ∷ prefix) (j ∷ word) (inr here) = elim (prefix_or_behind prefix word here.1) [
  | inl same ↦ inl (cc)
  | inr behind ↦ inr (inr (here.0, behind))
]

-- under a child from the first symbol on
pub record IsUnderChild (word prefix : List ℕ) (from : ℕ) : Type 0 where
  pub symbol : ℕ
  pub within : from ≤ symbol
  pub begins : BeginsWith word (prefix ++ symbol ∷ [])

one_longer : (k j : ℕ) (word prefix : List ℕ) (from : ℕ) → k ≡ j → IsUnderChild word prefix from → IsUnderChild (j ∷ word) (k ∷ prefix) from
one_longer k j word prefix from same under = record {
  symbol = under.symbol;
  within = under.within;
  begins = (under.begins.0, let tail = under.begins.1 in cc);
}

-- between two siblings: under a child between them, or from the second one on
pub record IsUnderBetween (word prefix : List ℕ) (from until : ℕ) : Type 0 where
  pub under : IsUnderChild word prefix from
  pub before : under.symbol < until

first_between : (from until j : ℕ) (word : List ℕ) → from ≤ j → j < until → IsUnderBetween (j ∷ word) [] from until
first_between from until j word within before = record { under = record { symbol = j; within = within; begins = (word, refl) }; before = before }

one_longer_between : (k j : ℕ) (word prefix : List ℕ) (from until : ℕ) → k ≡ j → IsUnderBetween word prefix from until → IsUnderBetween (j ∷ word) (k ∷ prefix) from until
unfolding one_longer
one_longer_between k j word prefix from until same between = record { under = one_longer k j word prefix from same between.under; before = between.before }

pub sibling_or_behind : (prefix : List ℕ) (from until : ℕ) (word : List ℕ) → IsFrom (prefix ++ from ∷ []) word → IsUnderBetween word prefix from until ⊎ IsFrom (prefix ++ until ∷ []) word
sibling_or_behind [] from until [] is = absurd is
sibling_or_behind [] from until (j ∷ word) is =
    let within : from ≤ j = elim is [ inl above ↦ omega (arith, above) | inr here ↦ omega (arith, here.0) ] in
    elim (cases_lt j until) [
      | inl before ↦ inl (first_between from until j word within before)
      | inr behind ↦ elim (cases_lt until j) [ inl above ↦ inr (inl above) | inr same ↦ inr (inr (omega (arith, same, behind), tt)) ]
    ]
sibling_or_behind (k ∷ prefix) from until [] is = absurd is
sibling_or_behind (k ∷ prefix) from until (j ∷ word) (inl above) = inr (inl above)
sibling_or_behind (k ∷ prefix) from until (j ∷ word) (inr here) = elim (sibling_or_behind prefix from until word here.1) [
  | inl between ↦ inl (one_longer_between k j word prefix from until here.0 between)
  | inr behind ↦ inr (inr (here.0, behind))
]

-- behind a prefix's child: under a child of it, or from the prefix's next sibling on
pub child_or_behind : (prefix : List ℕ) (last from : ℕ) (word : List ℕ) → IsFrom ((prefix ++ last ∷ []) ++ from ∷ []) word
    → IsUnderChild word (prefix ++ last ∷ []) from ⊎ IsFrom (prefix ++ (last + 1) ∷ []) word
child_or_behind [] last from [] is = absurd is
child_or_behind [] last from (j ∷ word) (inl above) = elim (cases_lt (last + 1) j) [ inl more ↦ inr (inl more) | inr same ↦ inr (inr (omega (arith, same, above), tt)) ]
child_or_behind [] last from (j ∷ []) (inr here) = absurd here.1
child_or_behind [] last from (j ∷ i ∷ word) (inr here) =
    let within : from ≤ i = elim here.1 [ inl above ↦ omega (arith, above) | inr same ↦ omega (arith, same.0) ] in
    inl (one_longer last j (i ∷ word) [] from here.0 (record { symbol = i; within = within; begins = (word, refl) }))
child_or_behind (k ∷ prefix) last from [] is = absurd is
child_or_behind (k ∷ prefix) last from (j ∷ word) (inl above) = inr (inl above)
child_or_behind (k ∷ prefix) last from (j ∷ word) (inr here) = elim (child_or_behind prefix last from word here.1) [
  | inl under ↦ inl (one_longer k j word (prefix ++ last ∷ []) from here.0 under)
  | inr behind ↦ inr (inr (here.0, behind))
]

-- among the words that begin with a prefix
pub child_of_prefix : (prefix rest : List ℕ) (from : ℕ) → IsFrom (prefix ++ from ∷ []) (prefix ++ rest) → IsUnderChild (prefix ++ rest) prefix from
child_of_prefix [] [] from is = absurd is
child_of_prefix [] (j ∷ rest) from is =
    let within : from ≤ j = elim is [ inl above ↦ omega (arith, above) | inr same ↦ omega (arith, same.0) ] in
    record { symbol = j; within = within; begins = (rest, refl) }
child_of_prefix (k ∷ prefix) rest from (inl above) = absurd (omega (arith, above))
child_of_prefix (k ∷ prefix) rest from (inr here) = one_longer k k (prefix ++ rest) prefix from refl (child_of_prefix prefix rest from here.1)

-- ---- earlier words

-- what is behind a word that comes from a prefix on comes from it on too
from_later : (prefix word later : List ℕ) → IsFrom prefix word → IsEarlier word later → IsFrom prefix later
from_later [] word later from earlier = tt
from_later (k ∷ prefix) [] later from earlier = absurd from
from_later (k ∷ prefix) (j ∷ word) [] from earlier = absurd earlier
from_later (k ∷ prefix) (j ∷ word) (i ∷ later) (inl above) (inl less) = inl (omega (arith, above, less))
from_later (k ∷ prefix) (j ∷ word) (i ∷ later) (inl above) (inr same) = inl (omega (arith, above, same.0))
from_later (k ∷ prefix) (j ∷ word) (i ∷ later) (inr here) (inl less) = inl (omega (arith, here.0, less))
from_later (k ∷ prefix) (j ∷ word) (i ∷ later) (inr here) (inr same) = inr (omega (arith, here.0, same.0), from_later prefix word later here.1 same.1)

-- so no word that comes from a prefix on is earlier than one that doesn't
pub none_earlier : (prefix word passed : List ℕ) → IsFrom prefix word → (IsFrom prefix passed → ⊥) → IsEarlier word passed → ⊥
none_earlier prefix word passed from behind earlier = behind (from_later prefix word passed from earlier)

-- ---- the last symbol

-- words with one symbol more each are equal only where both parts are
pub without_last : (prefix other : List ℕ) (j k : ℕ) → prefix ++ j ∷ [] ≡ other ++ k ∷ [] → (prefix ≡ other) × (j ≡ k)
without_last [] [] j k same = (refl, ap (λ (w : List ℕ). last_symbol w) same)
without_last [] (i ∷ other) j k same = absurd (let long = ap length same in omega (arith, long, length-append other (k ∷ [])))
without_last (h ∷ prefix) [] j k same = absurd (let long = ap length same in omega (arith, long, length-append prefix (j ∷ [])))
without_last (h ∷ prefix) (i ∷ other) j k same =
    let head : h ≡ i = cc in
    let tail : prefix ++ j ∷ [] ≡ other ++ k ∷ [] = cc in
    let parts = without_last prefix other j k tail in
    (let rest = parts.0 in cc, parts.1)
