-- What a feasible word costs with prices, rebates and cut prices.
use Rattle.std.proofs.Common.{◌≡◌, ◌≢◌, ℕ, suc, ◌+◌, ◌*◌, ◌≤◌, ◌<◌, Bool, true, false, if◌then◌else◌, List, [], ◌∷◌, refl, ap, ◌∙◌, arith}
use Rattle.std.specs.List.{All, sum_by}
use Rattle.std.proofs.lemmas.List.Elements.{All-tail}
use Rattle.std.proofs.lemmas.List.Sums.{sum_by-cons}
use Rattle.std.proofs.lemmas.Nat.{mul-le}
use Rattle.vrp_model.specs.Problem.{IsProblem, Problem, customers, place_count}
use Rattle.vrp_model.specs.Route.{cost_along}
use Rattle.vrp_model.specs.Word.{IsLawfulWord, served_in, word_cost}
use Rattle.vrp_model.proofs.CustomerPlaces.{customer_below}
use Rattle.vrp_model.proofs.UnservedCustomers.{all_unserved}
use Rattle.vrp_model.proofs.Words.{serves_customer}
use Rattle.vrp_bound.proofs.SymbolBySymbol.{HoldsBySymbol, by_symbols, first_and_rest, sum_behind}
use Rattle.vrp_bound_prices.specs.CapacityCut.{CapacityCut, IsCut, crosses, crossings, cut_prices_along, cut_prices_of}
use Rattle.vrp_bound_prices.specs.Priced.{HasPrices}
use Rattle.vrp_bound_prices.proofs.Crossed.{crossed_by_trucks}

-- ---- cut prices, arc by arc

no_cut_prices : (cuts : List CapacityCut) (at : ℕ) → cut_prices_along cuts at [] ≡ 0
no_cut_prices [] at = refl
no_cut_prices (cut ∷ cuts) at = omega (arith, no_cut_prices cuts at, sum_by-cons (λ (c : CapacityCut). c.cut_price * 0) cut cuts)

cut_price_first : (is_crossed : Bool) (cut_price crossed : ℕ) → cut_price * ((if is_crossed then 1 else 0) + crossed) ≡ (if is_crossed then cut_price else 0) + cut_price * crossed
cut_price_first true cut_price crossed = omega arith
cut_price_first false cut_price crossed = omega arith

cut_prices_first : (cuts : List CapacityCut) (at stop : ℕ) (stops : List ℕ) → cut_prices_along cuts at (stop ∷ stops) ≡ cut_prices_of cuts at stop + cut_prices_along cuts stop stops
cut_prices_first [] at stop stops = refl
cut_prices_first (cut ∷ cuts) at stop stops =
    let here = cut_price_first (crosses cut.inside at stop) cut.cut_price (crossings cut.inside stop stops) in
    let rest = cut_prices_first cuts at stop stops in
    let along = sum_by-cons (λ (c : CapacityCut). c.cut_price * crossings c.inside at (stop ∷ stops)) cut cuts in
    let first = sum_by-cons (λ (c : CapacityCut). if crosses c.inside at stop then c.cut_price else 0) cut cuts in
    let behind = sum_by-cons (λ (c : CapacityCut). c.cut_price * crossings c.inside stop stops) cut cuts in
    omega (arith, here, rest, along, first, behind)

-- ---- a word, symbol by symbol

-- of each customer one half of its price is paid on the inbound arc, the other on the outbound arc: here the inbound arc is paid
-- already
abbrev pub IsPaid : (p q : Problem) → ℕ → (ℕ → ℕ) → (ℕ → ℕ) → List CapacityCut → ℕ → List ℕ → Type 0
IsPaid p q scale price rebate cuts at more =
    cost_along q at more + cut_prices_along cuts at more + rebate at + 2 * sum_by rebate (served_in more) ≡ scale * cost_along p at more + price at + 2 * sum_by price (served_in more)

sum_with : (f : ℕ → ℕ) (k : ℕ) (more : List ℕ) → sum_by f (served_in (suc k ∷ more)) ≡ f (suc k) + sum_by f (served_in more)
sum_with f k more = ap (sum_by f) (serves_customer k more) ∙ sum_by-cons f (suc k) (served_in more)

arc_to_customer : (p q : Problem) (scale : ℕ) (price rebate : ℕ → ℕ) (cuts : List CapacityCut) (at k : ℕ) (more : List ℕ) → HasPrices p q scale price rebate cuts
    → at < place_count p → suc k < place_count p → at ≢ suc k → IsPaid p q scale price rebate cuts (suc k) more → IsPaid p q scale price rebate cuts at (suc k ∷ more)
arc_to_customer p q scale price rebate cuts at k more has here there differs rest =
    let arc = has.weights at (suc k) here there differs in
    omega (arith, arc, rest, cut_prices_first cuts at (suc k) more, sum_with price k more, sum_with rebate k more)

arc_home : (p q : Problem) (scale : ℕ) (price rebate : ℕ → ℕ) (cuts : List CapacityCut) (at : ℕ) (more : List ℕ) → HasPrices p q scale price rebate cuts
    → at < place_count p → 0 < place_count p → at ≢ 0 → IsPaid p q scale price rebate cuts 0 more → IsPaid p q scale price rebate cuts at (0 ∷ more)
arc_home p q scale price rebate cuts at more has here there differs rest =
    let arc = has.weights at 0 here there differs in
    omega (arith, arc, rest, cut_prices_first cuts at 0 more, has.free_depot, has.plain_depot)

paid_by_symbol : (p q : Problem) (scale : ℕ) (price rebate : ℕ → ℕ) (cuts : List CapacityCut) → IsProblem p → HasPrices p q scale price rebate cuts
    → HoldsBySymbol p (λ at load more. All (λ k. k < place_count p) (served_in more) → IsPaid p q scale price rebate cuts at more)
paid_by_symbol p q scale price rebate cuts problem has =
    let IsPlace : ℕ → Type 0 = λ k. k < place_count p in
    let depot : 0 < place_count p = omega (arith, problem.some_places) in
    record {
      nothing = λ _. omega (arith, no_cut_prices cuts 0, has.free_depot, has.plain_depot);
      home = λ j load more place light rest within. arc_home p q scale price rebate cuts (suc j) more has place depot (λ same. omega (arith, same)) (rest within);
      leaves = λ k more fits rest within. (
          let both = first_and_rest IsPlace k more within in
          arc_to_customer p q scale price rebate cuts 0 k more has depot both.0 (λ same. omega (arith, same)) (rest both.1));
      continues = λ j load k more place differs fits rest within. (
          let both = first_and_rest IsPlace k more within in
          arc_to_customer p q scale price rebate cuts (suc j) k more has place both.0 differs (rest both.1));
    }

-- a feasible word serves each customer once
sum_of_served : (f : ℕ → ℕ) (p : Problem) (word : List ℕ) → IsLawfulWord p word → sum_by f (served_in word) ≡ sum_by f (customers p)
sum_of_served f p word lawful = sum_behind f p [] word lawful ∙ ap (sum_by f) (all_unserved p)

pub cost_with_prices : (p q : Problem) (scale : ℕ) (price rebate : ℕ → ℕ) (cuts : List CapacityCut) (word : List ℕ) → IsProblem p → HasPrices p q scale price rebate cuts → IsLawfulWord p word
    → word_cost q word + cut_prices_along cuts 0 word + 2 * sum_by rebate (customers p) ≡ scale * word_cost p word + 2 * sum_by price (customers p)
cost_with_prices p q scale price rebate cuts word problem has lawful =
    let places : All (λ k. k < place_count p) (served_in word) = λ i d lt. customer_below p _ (lawful.prefix.known i d lt) in
    let paid : IsPaid p q scale price rebate cuts 0 word = by_symbols p (λ at load more. All (λ k. k < place_count p) (served_in more) → IsPaid p q scale price rebate cuts at more) (paid_by_symbol p q scale price rebate cuts problem has) problem [] word lawful places in
    omega (arith, paid, has.free_depot, has.plain_depot, sum_of_served price p word lawful, sum_of_served rebate p word lawful)

-- ---- cut prices are paid twice for each truck

pub cut_prices_paid : (p : Problem) (cuts : List CapacityCut) (word : List ℕ) → IsProblem p → IsLawfulWord p word → All (IsCut p) cuts → 2 * sum_by (λ cut. cut.cut_price * cut.trucks) cuts ≤ cut_prices_along cuts 0 word
cut_prices_paid p [] word problem lawful each = omega arith
cut_prices_paid p (cut ∷ cuts) word problem lawful each =
    let crossed = crossed_by_trucks p word cut problem lawful (each 0 cut (omega arith)) in
    let here : cut.cut_price * (2 * cut.trucks) ≤ cut.cut_price * crossings cut.inside 0 word = mul-le cut.cut_price (2 * cut.trucks) cut.cut_price (crossings cut.inside 0 word) (omega arith) crossed in
    let rest = cut_prices_paid p cuts word problem lawful (All-tail (IsCut p) cut cuts each) in
    omega (arith, here, rest, sum_by-cons (λ (c : CapacityCut). c.cut_price * c.trucks) cut cuts, sum_by-cons (λ (c : CapacityCut). c.cut_price * crossings c.inside 0 word) cut cuts)
