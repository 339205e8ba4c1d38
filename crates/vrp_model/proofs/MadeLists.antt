-- Lists that a loop makes by one entry, or one row, after the other.
use Rattle.std.proofs.Common.{◌≡◌, ℕ, ◌+◌, ◌*◌, ◌<◌, ◌≤◌, List, [], ◌∷◌, ◌++◌, length, get_or, take, map, ap, sym, ◌∙◌, append_assoc, arith}
use Rattle.std.specs.List.{flat_map}
use Rattle.std.proofs.lemmas.List.{flat_map_more, length-append, length-map, map_more, take_all, take_more}

-- the entry of one place more
pub map_push : (f : ℕ → ℕ) (places found new : List ℕ) (i entry : ℕ) → i < length places → found ≡ map f (take i places) → new ≡ found ++ entry ∷ [] → entry ≡ f (get_or places i 0) → new ≡ map f (take (i + 1) places)
map_push f places found new i entry within so_far pushed value =
    pushed ∙ ap (λ xs. xs ++ entry ∷ []) so_far ∙ ap (λ x. map f (take i places) ++ x ∷ []) value ∙ sym (map_more f places i 0 within)

pub map_all : (f : ℕ → ℕ) (places found : List ℕ) (i : ℕ) → length places ≤ i → found ≡ map f (take i places) → found ≡ map f places
map_all f places found i all so_far = so_far ∙ ap (map f) (take_all i places all)

-- the same after a first part
pub row_push : (f : ℕ → ℕ) (places first found new : List ℕ) (i entry : ℕ) → i < length places → found ≡ first ++ map f (take i places) → new ≡ found ++ entry ∷ [] → entry ≡ f (get_or places i 0) → new ≡ first ++ map f (take (i + 1) places)
row_push f places first found new i entry within so_far pushed value =
    pushed ∙ ap (λ xs. xs ++ entry ∷ []) so_far ∙ append_assoc first (map f (take i places)) (entry ∷ [])
    ∙ ap (λ xs. first ++ xs) (ap (λ x. map f (take i places) ++ x ∷ []) value ∙ sym (map_more f places i 0 within))

pub row_all : (f : ℕ → ℕ) (places first found : List ℕ) (i : ℕ) → length places ≤ i → found ≡ first ++ map f (take i places) → found ≡ first ++ map f places
row_all f places first found i all so_far = so_far ∙ ap (λ xs. first ++ map f xs) (take_all i places all)

-- the row of one place more
pub rows_push : (f : ℕ → List ℕ) (places found new : List ℕ) (i : ℕ) → i < length places → found ≡ flat_map f (take i places) → new ≡ found ++ f (get_or places i 0) → new ≡ flat_map f (take (i + 1) places)
rows_push f places found new i within so_far pushed =
    pushed ∙ ap (λ xs. xs ++ f (get_or places i 0)) so_far ∙ flat_map_more f [] (take i places) (get_or places i 0)
    ∙ ap (flat_map f) (sym (take_more places i 0 within))

pub rows_all : (f : ℕ → List ℕ) (places found : List ℕ) (i : ℕ) → length places ≤ i → found ≡ flat_map f (take i places) → found ≡ flat_map f places
rows_all f places found i all so_far = so_far ∙ ap (flat_map f) (take_all i places all)

pub rows_length : (f : ℕ → ℕ) (places found new : List ℕ) (i : ℕ) → length found ≡ i * length places → new ≡ found ++ map f places → length new ≡ (i + 1) * length places
rows_length f places found new i so_far pushed =
    omega (arith, ap length pushed, length-append found (map f places), length-map places f)
