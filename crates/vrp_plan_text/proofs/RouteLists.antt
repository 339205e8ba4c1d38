-- Lists that are made of other lists, element by element.
use Rattle.std.proofs.Common.{◌≡◌, ℕ, ◌<◌, List, [], ◌∷◌, length, map, refl, sym, ap, subst, arith}
use Rattle.std.specs.List.Sorted.{IsNonDecreasing, IsNonDecreasingBy}
use Rattle.std.proofs.lemmas.List.{get_or-map, length-map}

pub map_twice : {A B C : Type 0} (f : A → B) (g : B → C) (xs : List A) → map g (map f xs) ≡ map (λ x. g (f x)) xs
map_twice f g [] = refl
map_twice f g (x ∷ xs) = ap (λ l. g (f x) ∷ l) (map_twice f g xs)

rising_numbers : {A : Type 0} (n : A → ℕ) (xs : List A) → IsNonDecreasingBy n xs → IsNonDecreasing (map n xs)
rising_numbers n [] rises i j d le within = absurd (omega (arith, within))
rising_numbers n (x ∷ xs) rises i j d le within =
    let inside : j < length (x ∷ xs) = omega (arith, within, length-map (x ∷ xs) n) in
    omega (arith, rises i j x le inside, get_or-map n (x ∷ xs) i x d (omega (arith, le, inside)), get_or-map n (x ∷ xs) j x d inside)

-- what does not fall along a list does not fall along what is made of it
pub rising_by : {A B : Type 0} (f : A → B) (n : B → ℕ) (xs : List A) → IsNonDecreasingBy (λ x. n (f x)) xs → IsNonDecreasing (map n (map f xs))
rising_by f n xs rises = subst IsNonDecreasing (sym (map_twice f n xs)) (rising_numbers (λ x. n (f x)) xs rises)
