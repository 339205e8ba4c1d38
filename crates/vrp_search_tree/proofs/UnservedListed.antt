-- The unserved customers, told flag by flag. They rise.
use Rattle.std.proofs.Common.{◌≡◌, ◌∙◌, ℕ, ◌+◌, ◌-◌, ◌<◌, Bool, false, true, List, [], ◌∷◌, ◌++◌, append-nil, ap, sym, refl, arith}
use Rattle.std.specs.List.{filter, range_with_len}
use Rattle.std.specs.List.Sorted.{IsStrictlyIncreasing}
use Rattle.std.proofs.lemmas.List.Kept.{IsStrictlyIncreasing-filter}
use Rattle.std.specs.Prelude.{not, slice_index_or}
use Rattle.std.proofs.lemmas.List.Elements.{filter-append}
use Rattle.vrp_model.specs.Problem.{Problem, customers, place_count}
use Rattle.vrp_model.specs.Word.{stands_in, unserved_in}
use Rattle.vrp_model.proofs.DistinctLists.{customers_rise}
use Rattle.vrp_model.proofs.PlacesLemmas.{range_with_len_more}
use Rattle.vrp_search_tree.specs.Inner.Tallied.{AreFlags}

-- those below this customer
abbrev pub unserved_below : List ℕ → ℕ → List ℕ
unserved_below word customer = filter (λ k. not (stands_in word k)) (range_with_len 1 (customer - 1))

one_more : (word : List ℕ) (customer : ℕ) → 0 < customer → unserved_below word (customer + 1) ≡ unserved_below word customer ++ filter (λ k. not (stands_in word k)) (customer ∷ [])
one_more word customer some =
    let test : ℕ → Bool = λ k. not (stands_in word k) in
    let count : customer + 1 - 1 ≡ customer - 1 + 1 = omega (arith, some) in
    let range : range_with_len 1 (customer + 1 - 1) ≡ range_with_len 1 (customer - 1) ++ customer ∷ [] = ap (range_with_len 1) count ∙ range_with_len_more 1 (customer - 1) customer (omega (arith, some)) in
    ap (filter test) range ∙ filter-append test (range_with_len 1 (customer - 1)) (customer ∷ [])

-- one that is not flagged stands behind them
pub unflagged : (p : Problem) (word : List ℕ) (flags : List Bool) (customer : ℕ) → AreFlags p word flags → 0 < customer → customer < place_count p → slice_index_or flags customer false ≡ false
    → unserved_below word (customer + 1) ≡ unserved_below word customer ++ customer ∷ []
unflagged p word flags customer are some below isnt =
    let stands : stands_in word customer ≡ false = sym (are customer some below) ∙ isnt in
    one_more word customer some ∙ (rw stands refl)

-- one that is flagged is none of them
pub flagged : (p : Problem) (word : List ℕ) (flags : List Bool) (customer : ℕ) → AreFlags p word flags → 0 < customer → customer < place_count p → slice_index_or flags customer false ≡ true
    → unserved_below word (customer + 1) ≡ unserved_below word customer
flagged p word flags customer are some below is =
    let stands : stands_in word customer ≡ true = sym (are customer some below) ∙ is in
    one_more word customer some ∙ (rw stands (append-nil (unserved_below word customer)))

pub unserved_rise : (p : Problem) (word : List ℕ) → IsStrictlyIncreasing (unserved_in p word)
unserved_rise p word = IsStrictlyIncreasing-filter (λ k. not (stands_in word k)) (customers p) (customers_rise p)
