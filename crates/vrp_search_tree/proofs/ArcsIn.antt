-- What the least arcs into customers cost together.
use Rattle.std.proofs.Common.{◌≡◌, ◌≢◌, ℕ, zero, suc, inl, inr, ◌+◌, ◌-◌, ◌*◌, ◌≤◌, ◌<◌, ◌==◌, if◌then◌else◌, true, false, List, [], ◌∷◌, ◌++◌, get_or, take, refl, sym, ap, subst, ◌∙◌, arith}
use Rattle.std.specs.List.{All, sum_by}
use Rattle.std.proofs.lemmas.Bool.{cases_lt}
use Rattle.std.proofs.lemmas.Bool.Decides.{nat_tests}
use Rattle.std.proofs.lemmas.List.Elements.{All-append, All-cons, All-contains, All-nil, Contains-get_or}
use Rattle.std.proofs.lemmas.List.FromFn.{get_or-range_with_len, length-range_with_len}
use Rattle.std.proofs.lemmas.List.Sums.{sum_by-cons, sum_by_push}
use Rattle.vrp_model.specs.declared.limits.TheConstants.{MAX_WEIGHT}
use Rattle.vrp_bound.specs.Capacity.{IsInboundSumOf}
use Rattle.vrp_model.specs.LeastArc.{IsLeastIn}
use Rattle.vrp_model.specs.Problem.{Problem, customers, place_count}
use Rattle.vrp_model.specs.Word.{IsPrefix, served_in, unserved_in}
use Rattle.vrp_model.proofs.CustomerPlaces.{all_taken, up_to}
use Rattle.vrp_model.proofs.PrefixWithSymbol.{served_with, unserved_if_added}
use Rattle.vrp_model.proofs.UnservedCustomers.{all_unserved, sum_of_unserved, unserved_at_depot, unserved_before}

least_is_one : (p : Problem) (to one other : ℕ) → IsLeastIn p to one → IsLeastIn p to other → one ≡ other
least_is_one p to one other a b =
    let (from, below, differs, is) = a.met in
    let (start, within, else_where, costs) = b.met in
    omega (arith, a.least start within else_where, b.least from below differs, is, costs)

-- ---- one more symbol

pub inbound_sum_at_depot : (p : Problem) (word : List ℕ) (inbound_sum : ℕ) → IsInboundSumOf p word inbound_sum → IsInboundSumOf p (word ++ 0 ∷ []) inbound_sum
inbound_sum_at_depot p word inbound_sum is =
    let same : unserved_in p word ≡ unserved_in p (word ++ 0 ∷ []) = sym (unserved_at_depot p word) in
    record {
      least_in = is.least_in;
      each = subst (All (λ customer. IsLeastIn p customer (is.least_in customer))) same is.each;
      whole = is.whole ∙ ap (sum_by is.least_in) same;
    }

-- a customer is no longer unserved
pub record InboundSumWith (p : Problem) (word : List ℕ) (k inbound_sum least : ℕ) : Type 0 where
  pub left : least ≤ inbound_sum
  pub is : IsInboundSumOf p (word ++ k ∷ []) (inbound_sum - least)

pub inbound_sum_with : (p : Problem) (word : List ℕ) (k inbound_sum least : ℕ) → 0 < k → IsPrefix p word → IsPrefix p (word ++ k ∷ []) → IsInboundSumOf p word inbound_sum → IsLeastIn p k least → InboundSumWith p word k inbound_sum least
inbound_sum_with p word k inbound_sum least some prefix after is is_least =
    let f = is.least_in in
    let Into : ℕ → Type 0 = λ customer. IsLeastIn p customer (f customer) in
    let same : f k ≡ least = least_is_one p k (f k) least (All-contains Into (unserved_in p word) k is.each (unserved_if_added p word k some after)) is_least in
    let served : sum_by f (served_in (word ++ k ∷ [])) ≡ sum_by f (served_in word) + f k = ap (sum_by f) (served_with word k some) ∙ sum_by_push f (served_in word) k in
    let before = sum_of_unserved f p word prefix in
    let behind = sum_of_unserved f p (word ++ k ∷ []) after in
    let left : least ≤ inbound_sum = omega (arith, before, behind, served, same, is.whole) in
    let still : All Into (unserved_in p (word ++ k ∷ [])) = λ i d lt.
    All-contains Into (unserved_in p word) (get_or (unserved_in p (word ++ k ∷ [])) i d) is.each
    (unserved_before p word k (get_or (unserved_in p (word ++ k ∷ [])) i d) (Contains-get_or (unserved_in p (word ++ k ∷ [])) i d lt)) in
    record { left = left; is = record { least_in = f; each = still; whole = omega (arith, left, before, behind, served, same, is.whole) } }

-- ---- all customers

-- the arcs into this many customers
pub record InboundSumSoFar (p : Problem) (count inbound_sum : ℕ) : Type 0 where
  pub least_in : ℕ → ℕ
  pub each : (k : ℕ) → 0 < k → k ≤ count → IsLeastIn p k (least_in k)
  pub whole : inbound_sum ≡ sum_by least_in (take count (customers p))
  pub small : inbound_sum ≤ MAX_WEIGHT * count

pub none_so_far : (p : Problem) → InboundSumSoFar p 0 0
none_so_far p = record { least_in = λ k. k; each = λ k some within. absurd (omega (arith, some, within)); whole = refl; small = omega arith }

with_arc : (ℕ → ℕ) → ℕ → ℕ → ℕ → ℕ
with_arc f at least k = if k == at then least else f k

arc_here : (f : ℕ → ℕ) (at least : ℕ) → with_arc f at least at ≡ least
unfolding with_arc
arc_here f at least = let test : (at == at) ≡ true = grind (arith, nat_tests) in ap (λ b. if b then least else f at) test

arc_elsewhere : (f : ℕ → ℕ) (at least k : ℕ) → k ≢ at → with_arc f at least k ≡ f k
unfolding with_arc
arc_elsewhere f at least k differs = let test : (k == at) ≡ false = grind (arith, nat_tests, differs) in ap (λ b. if b then least else f k) test

sum_same : (f g : ℕ → ℕ) (xs : List ℕ) → All (λ k. f k ≡ g k) xs → sum_by f xs ≡ sum_by g xs
sum_same f g [] same = refl
sum_same f g (x ∷ xs) same = omega (arith, sum_by-cons f x xs, sum_by-cons g x xs, same 0 x (omega arith), sum_same f g xs (λ k d lt. same (suc k) d (omega (arith, lt))))

each_up_to : (p : Problem) (i : ℕ) → i < place_count p → All (λ k. k ≤ i) (take i (customers p))
each_up_to p zero lt = λ k d within. absurd (omega (arith, within))
each_up_to p (suc i) lt =
    let next : i + 1 ≡ suc i = omega arith in
    let more : take (suc i) (customers p) ≡ take i (customers p) ++ suc i ∷ [] = subst (λ n. take n (customers p) ≡ take i (customers p) ++ n ∷ []) next (up_to p i (omega (arith, lt))) in
    subst (All (λ k. k ≤ suc i)) (sym more) (All-append (λ k. k ≤ suc i) (take i (customers p)) (suc i ∷ [])
    (λ k d within. omega (arith, each_up_to p i (omega (arith, lt)) k d within)) (All-cons (λ k. k ≤ suc i) (suc i) [] (omega arith) (All-nil (λ k. k ≤ suc i))))

pub one_more_arc : (p : Problem) (i inbound_sum least : ℕ) → i + 1 < place_count p → InboundSumSoFar p i inbound_sum → IsLeastIn p (i + 1) least → least ≤ MAX_WEIGHT → InboundSumSoFar p (i + 1) (inbound_sum + least)
one_more_arc p i inbound_sum least lt so_far is few =
    let f = so_far.least_in in
    let g = with_arc f (i + 1) least in
    let same : sum_by g (take i (customers p)) ≡ sum_by f (take i (customers p)) =
    sum_same g f (take i (customers p)) (λ k d within. arc_elsewhere f (i + 1) least (get_or (take i (customers p)) k d) (λ e. absurd (omega (arith, e, each_up_to p i (omega (arith, lt)) k d within)))) in
    let more : sum_by g (take (i + 1) (customers p)) ≡ sum_by g (take i (customers p)) + g (i + 1) = ap (sum_by g) (up_to p i lt) ∙ sum_by_push g (take i (customers p)) (i + 1) in
    record {
      least_in = g;
      each = λ k some within. elim (cases_lt k (i + 1)) [
        | inl below ↦ subst (IsLeastIn p k) (sym (arc_elsewhere f (i + 1) least k (λ e. absurd (omega (arith, e, below))))) (so_far.each k some (omega (arith, below)))
        | inr last ↦ let at : i + 1 ≡ k = omega (arith, last, within) in subst (λ c. IsLeastIn p c (g c)) at (subst (IsLeastIn p (i + 1)) (sym (arc_here f (i + 1) least)) is)
      ];
      whole = omega (arith, more, same, arc_here f (i + 1) least, so_far.whole);
      small = omega (arith, so_far.small, few);
    }

pub all_arcs : (p : Problem) (count inbound_sum : ℕ) → count + 1 ≡ place_count p → InboundSumSoFar p count inbound_sum → IsInboundSumOf p [] inbound_sum
all_arcs p count inbound_sum all so_far =
    let everyone : customers p ≡ unserved_in p [] = sym (all_unserved p) in
    let arcs : All (λ customer. IsLeastIn p customer (so_far.least_in customer)) (customers p) = λ i d lt.
    let bound : i < place_count p - 1 = rw (length-range_with_len 1 (place_count p - 1)) at lt in
    let value : get_or (customers p) i d ≡ 1 + i = get_or-range_with_len 1 (place_count p - 1) i d bound in
    so_far.each (get_or (customers p) i d) (omega (arith, value)) (omega (arith, value, bound, all)) in
    record {
      least_in = so_far.least_in;
      each = subst (All (λ customer. IsLeastIn p customer (so_far.least_in customer))) everyone arcs;
      whole = so_far.whole ∙ ap (sum_by so_far.least_in) (all_taken p count all ∙ everyone);
    }
