-- Of the words of bounded length over bounded symbols that have a property, which can be decided, one is the first by a key.
use Rattle.std.proofs.Common.{◌≡◌, ℕ, zero, suc, ◌≤◌, ◌<◌, List, [], ◌∷◌, length, refl, subst, inl, inr, ◌⊎◌, arith}
use Rattle.std.specs.List.{All}
use Rattle.vrp_model.specs.Order.{IsEarlier}
use Rattle.vrp_model.proofs.Ordered.{earlier_irreflexive, earlier_total, earlier_transitive, three_cases}

-- it is so, or not
abbrev pub Decided : Type 0 → Type 0
Decided P = P ⊎ (P → ⊥)

-- one that has the property, and no one within the bounds that has it is before it
pub record FirstWithin (P : List ℕ → Type 0) (key : List ℕ → List ℕ) (Within : List ℕ → Type 0) : Type 0 where
  pub word : List ℕ
  pub has : P word
  pub none_before : (other : List ℕ) → Within other → P other → IsEarlier (key other) (key word) → ⊥

abbrev pub Searched : (List ℕ → Type 0) → (List ℕ → List ℕ) → (List ℕ → Type 0) → Type 0
Searched P key Within = FirstWithin P key Within ⊎ ((word : List ℕ) → Within word → P word → ⊥)

-- the search of a part is one of whatever lies within it
narrowed : (P : List ℕ → Type 0) (key : List ℕ → List ℕ) (Wide Narrow : List ℕ → Type 0) → ((word : List ℕ) → Narrow word → Wide word) → Searched P key Wide → Searched P key Narrow
narrowed P key Wide Narrow inside (inl first) = inl record { word = first.word; has = first.has; none_before = λ other within. first.none_before other (inside other within) }
narrowed P key Wide Narrow inside (inr none) = inr (λ word within. none word (inside word within))

-- the first of two
keeps : (P : List ℕ → Type 0) (key : List ℕ → List ℕ) (Here There : List ℕ → Type 0) (first : FirstWithin P key Here) → ((other : List ℕ) → There other → P other → IsEarlier (key other) (key first.word) → ⊥)
    → FirstWithin P key (λ word. Here word ⊎ There word)
keeps P key Here There first none = record {
  word = first.word;
  has = first.has;
  none_before = λ other within has before. elim within [ inl here ↦ first.none_before other here has before | inr there ↦ none other there has before ];
}

flipped : (P : List ℕ → Type 0) (key : List ℕ → List ℕ) (Here There : List ℕ → Type 0) → FirstWithin P key (λ word. There word ⊎ Here word) → FirstWithin P key (λ word. Here word ⊎ There word)
flipped P key Here There first = record {
  word = first.word;
  has = first.has;
  none_before = λ other within has before. elim within [ inl here ↦ first.none_before other (inr here) has before | inr there ↦ first.none_before other (inl there) has before ];
}

both_searched : (P : List ℕ → Type 0) (key : List ℕ → List ℕ) (Here There : List ℕ → Type 0) → Searched P key Here → Searched P key There → Searched P key (λ word. Here word ⊎ There word)
both_searched P key Here There (inr none) (inr neither) = inr (λ word within has. elim within [ inl here ↦ none word here has | inr there ↦ neither word there has ])
both_searched P key Here There (inl first) (inr none) = inl (keeps P key Here There first (λ other there has before. none other there has))
both_searched P key Here There (inr none) (inl first) = inl (flipped P key Here There (keeps P key There Here first (λ other here has before. none other here has)))
both_searched P key Here There (inl first) (inl second) =
    elim (earlier_total (key first.word) (key second.word)) [
      | inl earlier ↦ inl (keeps P key Here There first (λ other there has before. second.none_before other there has (earlier_transitive (key other) (key first.word) (key second.word) before earlier)))
      | inr (inl same) ↦ inl (keeps P key Here There first (λ other there has before. second.none_before other there has (subst (IsEarlier (key other)) same before)))
      | inr (inr later) ↦ inl (flipped P key Here There (keeps P key There Here second (λ other here has before. first.none_before other here has (earlier_transitive (key other) (key second.word) (key first.word) before later))))
    ]

-- words of at most this many symbols, all below a bound
pub record IsBounded (most bound : ℕ) (word : List ℕ) : Type 0 where
  pub short : length word ≤ most
  pub below : All (λ symbol. symbol < bound) word

-- those that begin with a symbol below this one
record BeginsBelow (most bound symbol : ℕ) (word : List ℕ) : Type 0 where
  pub first : ℕ
  pub rest : List ℕ
  pub is : word ≡ first ∷ rest
  pub lower : first < symbol
  pub bounded : IsBounded most bound rest

-- those that begin with this symbol
behind_symbol : (P : List ℕ → Type 0) (key : List ℕ → List ℕ) (most bound symbol : ℕ) → Searched (λ rest. P (symbol ∷ rest)) (λ rest. key (symbol ∷ rest)) (IsBounded most bound)
    → Searched P key (λ word. (rest : List ℕ) × (word ≡ symbol ∷ rest) × IsBounded most bound rest)
behind_symbol P key most bound symbol (inl first) = inl record {
  word = symbol ∷ first.word;
  has = first.has;
  none_before = λ other within has before. first.none_before within.0 within.2 (subst P within.1 has) (subst (λ (word : List ℕ). IsEarlier (key word) (key (symbol ∷ first.word))) within.1 before);
}
behind_symbol P key most bound symbol (inr none) = inr (λ word within has. none within.0 within.2 (subst P within.1 has))

one_symbol_more : (most bound symbol : ℕ) (word : List ℕ) → BeginsBelow most bound (suc symbol) word → BeginsBelow most bound symbol word ⊎ ((rest : List ℕ) × (word ≡ symbol ∷ rest) × IsBounded most bound rest)
one_symbol_more most bound symbol word begins =
    elim (three_cases begins.first symbol) [
      | inl less ↦ inl record { first = begins.first; rest = begins.rest; is = begins.is; lower = less; bounded = begins.bounded }
      | inr (inl same) ↦ inr (begins.rest, subst (λ k. word ≡ k ∷ begins.rest) same begins.is, begins.bounded)
      | inr (inr more) ↦ absurd (omega (arith, more, begins.lower))
    ]

below_symbol : (P : List ℕ → Type 0) (key : List ℕ → List ℕ) (most bound symbol : ℕ) → ((k : ℕ) → Searched (λ rest. P (k ∷ rest)) (λ rest. key (k ∷ rest)) (IsBounded most bound)) → Searched P key (BeginsBelow most bound symbol)
below_symbol P key most bound zero each = inr (λ word begins has. omega (arith, begins.lower))
below_symbol P key most bound (suc symbol) each =
    narrowed P key (λ word. BeginsBelow most bound symbol word ⊎ ((rest : List ℕ) × (word ≡ symbol ∷ rest) × IsBounded most bound rest)) (BeginsBelow most bound (suc symbol)) (one_symbol_more most bound symbol)
    (both_searched P key (BeginsBelow most bound symbol) (λ word. (rest : List ℕ) × (word ≡ symbol ∷ rest) × IsBounded most bound rest) (below_symbol P key most bound symbol each) (behind_symbol P key most bound symbol (each symbol)))

the_empty_word : (P : List ℕ → Type 0) (key : List ℕ → List ℕ) → Decided (P []) → Searched P key (λ word. word ≡ [])
the_empty_word P key (inl has) = inl record { word = []; has = has; none_before = λ other is also before. earlier_irreflexive (key []) (subst (λ (word : List ℕ). IsEarlier (key word) (key [])) is before) }
the_empty_word P key (inr never) = inr (λ word is has. never (subst P is has))

split_bounded : (most bound : ℕ) (word : List ℕ) → IsBounded (suc most) bound word → (word ≡ []) ⊎ BeginsBelow most bound bound word
split_bounded most bound [] bounded = inl refl
split_bounded most bound (k ∷ word) bounded = inr record {
  first = k;
  rest = word;
  is = refl;
  lower = bounded.below 0 k (omega arith);
  bounded = record { short = omega (arith, bounded.short); below = λ i d lt. bounded.below (suc i) d (omega (arith, lt)) };
}

no_symbol : (bound : ℕ) (word : List ℕ) → IsBounded 0 bound word → word ≡ []
no_symbol bound [] bounded = refl
no_symbol bound (k ∷ word) bounded = absurd (omega (arith, bounded.short))

-- the first of all that are bounded, or there is none
pub first_bounded : (P : List ℕ → Type 0) (key : List ℕ → List ℕ) (most bound : ℕ) → ((word : List ℕ) → Decided (P word)) → Searched P key (IsBounded most bound)
first_bounded P key zero bound decided = narrowed P key (λ word. word ≡ []) (IsBounded 0 bound) (no_symbol bound) (the_empty_word P key (decided []))
first_bounded P key (suc most) bound decided =
    narrowed P key (λ word. (word ≡ []) ⊎ BeginsBelow most bound bound word) (IsBounded (suc most) bound) (split_bounded most bound)
    (both_searched P key (λ word. word ≡ []) (BeginsBelow most bound bound) (the_empty_word P key (decided []))
    (below_symbol P key most bound bound (λ k. first_bounded (λ rest. P (k ∷ rest)) (λ rest. key (k ∷ rest)) most bound (λ rest. decided (k ∷ rest)))))
