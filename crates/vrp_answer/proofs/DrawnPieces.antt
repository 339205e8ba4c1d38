-- The pieces that were drawn, where all were: by their numbers.
use Rattle.std.proofs.Common.{◌≡◌, ◌∙◌, ℕ, ◌<◌, List, [], length, get_or, sym, subst, ap, arith}
use Rattle.std.specs.List.{Contains}
use Rattle.std.specs.List.Sorted.{IsPermutation}
use Rattle.std.proofs.lemmas.List.{append-nil, get_or-map}
use Rattle.std.proofs.lemmas.List.Elements.{Contains-get_or}
use Rattle.std.proofs.lemmas.List.Sorted.{Contains-permutation, IsPermutation-sym}
use Rattle.vrp_sharing.specs.Pile.{AreShared}
use Rattle.vrp_sharing.proofs.SharedPieces.{all_drawn, drawn_once}
use Rattle.vrp_search_tree.specs.Cutting.{AreNumbered, NumberedWord}
use Rattle.vrp_answer.specs.Answer.{piece_of}
use Rattle.vrp_answer.specs.Inner.Conclusion.{AreApart}
use Rattle.vrp_answer.specs.Outcomes.{Search, words_of}

pub none : NumberedWord
none = record { number = 0; word = [] }

was_put : (drawn put : List NumberedWord) (piece : NumberedWord) → AreShared drawn [] put → Contains drawn piece → Contains put piece
was_put drawn put piece shared inside = Contains-permutation drawn put piece (IsPermutation-sym put drawn (subst (IsPermutation put) (append-nil drawn) shared)) inside

-- a piece that was drawn is the one of its number
pub record IsNumbered (put : List NumberedWord) (piece : NumberedWord) : Type 0 where
  pub within : piece.number < length put
  pub prefix : piece_of (words_of put) piece.number ≡ piece.word

numbered_at : (put : List NumberedWord) (place : ℕ) (piece : NumberedWord) → AreNumbered put → place < length put → get_or put place piece ≡ piece → IsNumbered put piece
numbered_at put place piece numbers within is =
    let number : piece.number ≡ place = ap (λ (p : NumberedWord). p.number) (sym is) ∙ numbers place piece within in
    record {
      within = omega (arith, number, within);
      prefix = ap (λ n. get_or (words_of put) n []) number ∙ get_or-map (λ (p : NumberedWord). p.word) put place piece [] within ∙ ap (λ (p : NumberedWord). p.word) is;
    }

pub is_numbered : (drawn put : List NumberedWord) (piece : NumberedWord) → AreNumbered put → AreShared drawn [] put → Contains drawn piece → IsNumbered put piece
is_numbered drawn put piece numbers shared inside = let (place, within, is) = was_put drawn put piece shared inside in numbered_at put place piece numbers within is

-- the piece of a number was drawn
pub drawn_at : (drawn put : List NumberedWord) (number : ℕ) → AreNumbered put → AreShared drawn [] put → number < length put → Contains drawn (get_or put number none)
drawn_at drawn put number numbers shared within = all_drawn drawn put (get_or put number none) shared (Contains-get_or put number none within)

pub number_at : (put : List NumberedWord) (number : ℕ) → AreNumbered put → number < length put → (get_or put number none).number ≡ number
number_at put number numbers within = numbers number none within

pub prefix_at : (put : List NumberedWord) (number : ℕ) → number < length put → piece_of (words_of put) number ≡ (get_or put number none).word
prefix_at put number within = get_or-map (λ (p : NumberedWord). p.word) put number none [] within

pub are_apart : (s : Search) (drawn put : List NumberedWord) → AreNumbered put → AreShared drawn [] put → s.pieces ≡ length put → AreApart s drawn
are_apart s drawn put numbers shared pieces = record {
  once = drawn_once drawn [] put numbers shared;
  below = λ k d lt. (let is = is_numbered drawn put (get_or drawn k d) numbers shared (Contains-get_or drawn k d lt) in omega (arith, is.within, pieces));
}
