-- What becomes of a prefix when one more symbol stands behind it.
use Rattle.std.proofs.Common.{◌≡◌, ◌≢◌, ℕ, zero, suc, ◌+◌, ◌-◌, ◌≤◌, ◌<◌, true, false, not, ◌==◌, List, [], ◌∷◌, ◌++◌, length, length-append, get_or, refl, sym, ap, subst, ◌∙◌, inl, inr, ◌⊎◌, append_assoc, append-nil, arith}
use Rattle.std.specs.List.{All, AllPairs, Contains}
use Rattle.std.specs.List.Sorted.{IsStrictlyIncreasing}
use Rattle.std.specs.Prelude.{slice_index, slice_index_or}
use Rattle.std.proofs.Math.ListN.{get_or-append}
use Rattle.std.proofs.Math.Seq.{get_or-append_seam}
use Rattle.std.proofs.lemmas.Bool.Decides.{nat_tests, leb_tells}
use Rattle.std.proofs.lemmas.List.Elements.{All-cons, All-nil, All-append, filter-append}
use Rattle.std.proofs.lemmas.List.Quantifiers.{all_pairs_push}
use Rattle.vrp_model.specs.Problem.{HasTrucks, IsSymmetric, Problem, customers}
use Rattle.vrp_model.specs.Route.{load_of}
use Rattle.vrp_model.specs.Word.{HasStops, IsPrefix, IsOpen, RunsForward, closed_routes, first_stops, last_route, last_symbol, routes_of, served_in, unserved_in, word_of}
use Rattle.vrp_model.proofs.CustomerPlaces.{customer_is_some}
use Rattle.vrp_model.proofs.UnservedCustomers.{unserved_differs, unserved_if_not_served, unserved_is_customer}
use Rattle.vrp_model.proofs.Words.{AreClosed, AreClosed-append, HasStops-append, HasStops-parts, IsStops, last_behind, last_behind-append, last_is, one_stop, open_routes, closed_routes_are, routes_are, shape_of, word_of-append}

-- the last of some stops is a stop
pub last_stop : (before : ℕ) (stops : List ℕ) → IsStops stops → 0 < length stops → 0 < last_behind before stops
last_stop before [] free some = absurd (omega arith)
last_stop before (zero ∷ stops) free some = absurd (let never : true ≡ false = free 0 0 (omega arith) in cc)
last_stop before (suc k ∷ []) free some = omega arith
last_stop before (suc k ∷ next ∷ stops) free some = last_stop (suc k) (next ∷ stops) (λ i d lt. free (suc i) d (omega arith)) (omega arith)

last_closed : (before : ℕ) (closed : List (List ℕ)) → (last_behind before (word_of closed) ≡ 0) ⊎ (closed ≡ [])
last_closed before [] = inr refl
last_closed before (route ∷ []) = inl (ap (last_behind before) (append-nil (route ++ 0 ∷ [])) ∙ last_behind-append before route (0 ∷ []))
last_closed before (route ∷ next ∷ routes) =
    elim (last_closed (last_behind before (route ++ 0 ∷ [])) (next ∷ routes)) [
      | inl here ↦ inl (last_behind-append before (route ++ 0 ∷ []) (word_of (next ∷ routes)) ∙ here)
      | inr none ↦ absurd (let e : suc (length routes) ≡ 0 = ap length none in omega (arith, e))
    ]

last_of_closed : (closed : List (List ℕ)) → last_behind 0 (word_of closed) ≡ 0
last_of_closed closed =
    elim (last_closed 0 closed) [
      | inl here ↦ here
      | inr none ↦ rw none refl
    ]

-- a word ends with a stop just where a route is open
pub last_of_shape : (closed : List (List ℕ)) (stops : List ℕ) → last_symbol (word_of closed ++ stops) ≡ last_behind 0 stops
last_of_shape closed stops = last_is (word_of closed ++ stops) ∙ last_behind-append 0 (word_of closed) stops ∙ ap (λ n. last_behind n stops) (last_of_closed closed)

-- an open route has a stop
pub open_is_some : (closed : List (List ℕ)) (stops : List ℕ) → 0 < last_symbol (word_of closed ++ stops) → 0 < length stops
open_is_some closed [] is_open = let e : last_symbol (word_of closed ++ []) ≡ 0 = last_of_shape closed [] in absurd (omega (arith, e, is_open))
open_is_some closed (stop ∷ stops) is_open = omega arith

-- the last element, by index
pub last_of : {X : Type 0} (xs : List X) (x d : X) → slice_index_or (xs ++ x ∷ []) (length (xs ++ x ∷ []) - 1) d ≡ x
last_of xs x d =
    let e : length (xs ++ x ∷ []) - 1 ≡ length xs = omega (arith, length-append xs (x ∷ [])) in
    rw e (get_or-append_seam xs x [] d)

-- what holds of all of two parts holds of the first
pub All-left : {X : Type 0} (P : X → Type 0) (xs ys : List X) → All P (xs ++ ys) → All P xs
All-left P [] ys all = All-nil P
All-left P (x ∷ xs) ys all = All-cons P x xs (all 0 x (omega arith)) (All-left P xs ys (λ i d lt. all (suc i) d (omega arith)))

-- and of the last element
pub All-last : {X : Type 0} (P : X → Type 0) (xs : List X) (x : X) → All P (xs ++ x ∷ []) → P x
All-last P xs x all = subst P (get_or-append_seam xs x [] x) (all (length xs) x (omega (arith, length-append xs (x ∷ []))))

-- the word where the open route is closed
closing : (closed : List (List ℕ)) (stops : List ℕ) → (word_of closed ++ stops) ++ 0 ∷ [] ≡ word_of (closed ++ stops ∷ []) ++ []
closing closed stops =
    append_assoc (word_of closed) stops (0 ∷ [])
    ∙ ap (λ w. word_of closed ++ w) (sym (append-nil (stops ++ 0 ∷ [])))
    ∙ sym (word_of-append closed (stops ∷ []))
    ∙ sym (append-nil (word_of (closed ++ stops ∷ [])))

-- the routes where the open one is closed
pub routes_when_closed : (closed : List (List ℕ)) (stops : List ℕ) → AreClosed closed → IsStops stops → 0 < length stops → routes_of ((word_of closed ++ stops) ++ 0 ∷ []) ≡ routes_of (word_of closed ++ stops)
routes_when_closed closed [] are free some = absurd (omega arith)
routes_when_closed closed (stop ∷ stops) are free some =
    ap routes_of (closing closed (stop ∷ stops))
    ∙ routes_are (closed ++ (stop ∷ stops) ∷ []) [] (AreClosed-append closed ((stop ∷ stops) ∷ []) are (free, some, tt)) (All-nil (λ n. (n == 0) ≡ false))
    ∙ append-nil (closed ++ (stop ∷ stops) ∷ [])
    ∙ sym (routes_are closed (stop ∷ stops) are free)

-- the routes where one more customer stands last
pub routes_with_stop : (closed : List (List ℕ)) (stops : List ℕ) (k : ℕ) → AreClosed closed → IsStops stops → 0 < k → routes_of ((word_of closed ++ stops) ++ k ∷ []) ≡ closed ++ open_routes (stops ++ k ∷ [])
routes_with_stop closed stops k are free some =
    ap routes_of (append_assoc (word_of closed) stops (k ∷ []))
    ∙ routes_are closed (stops ++ k ∷ []) are (All-append (λ n. (n == 0) ≡ false) stops (k ∷ []) free (one_stop k some))

-- the closed routes where one more customer stands last
closed_with_stop : (closed : List (List ℕ)) (stops : List ℕ) (k : ℕ) → AreClosed closed → IsStops stops → 0 < k → closed_routes ((word_of closed ++ stops) ++ k ∷ []) ≡ closed_routes (word_of closed ++ stops)
closed_with_stop closed stops k are free some =
    ap closed_routes (append_assoc (word_of closed) stops (k ∷ []))
    ∙ closed_routes_are closed (stops ++ k ∷ []) are (All-append (λ n. (n == 0) ≡ false) stops (k ∷ []) free (one_stop k some))
    ∙ sym (closed_routes_are closed stops are free)

-- a customer behind a word closes no route
pub closed_with_customer : (word : List ℕ) (k : ℕ) → HasStops 0 word → 0 < k → closed_routes (word ++ k ∷ []) ≡ closed_routes word
closed_with_customer word k has some =
    let s = shape_of word has in
    ap (λ (w : List ℕ). closed_routes (w ++ k ∷ [])) s.is ∙ closed_with_stop s.closed s.open_stops k s.are_closed s.are_stops some ∙ sym (ap closed_routes s.is)

closed_with_home : (closed : List (List ℕ)) (stops : List ℕ) → AreClosed closed → IsStops stops → 0 < length stops → closed_routes ((word_of closed ++ stops) ++ 0 ∷ []) ≡ closed ++ stops ∷ []
closed_with_home closed stops are free some =
    ap closed_routes (closing closed stops)
    ∙ closed_routes_are (closed ++ stops ∷ []) [] (AreClosed-append closed (stops ∷ []) are (free, some, tt)) (All-nil (λ n. (n == 0) ≡ false))

last_of_routes : (closed : List (List ℕ)) (stops : List ℕ) → AreClosed closed → IsStops stops → 0 < length stops → last_route (word_of closed ++ stops) ≡ stops
last_of_routes closed [] are free some = absurd (omega arith)
last_of_routes closed (stop ∷ stops) are free some =
    ap (λ (rs : List (List ℕ)). slice_index_or rs (length rs - 1) []) (routes_are closed (stop ∷ stops) are free) ∙ last_of closed (stop ∷ stops) []

-- the depot behind an open route closes it
pub closed_at_depot : (word : List ℕ) → HasStops 0 word → IsOpen word → closed_routes (word ++ 0 ∷ []) ≡ closed_routes word ++ last_route word ∷ []
closed_at_depot word has is_open =
    let s = shape_of word has in
    let some : 0 < length s.open_stops = open_is_some s.closed s.open_stops (subst (λ (w : List ℕ). 0 < last_symbol w) s.is is_open) in
    let before : closed_routes word ≡ s.closed = ap closed_routes s.is ∙ closed_routes_are s.closed s.open_stops s.are_closed s.are_stops in
    let last : last_route word ≡ s.open_stops = ap last_route s.is ∙ last_of_routes s.closed s.open_stops s.are_closed s.are_stops some in
    ap (λ (w : List ℕ). closed_routes (w ++ 0 ∷ [])) s.is
    ∙ closed_with_home s.closed s.open_stops s.are_closed s.are_stops some
    ∙ ap (λ (r : List ℕ). s.closed ++ r ∷ []) (sym last)
    ∙ ap (λ (rs : List (List ℕ)). rs ++ last_route word ∷ []) (sym before)

-- a customer behind a word is served last
pub served_with : (word : List ℕ) (k : ℕ) → 0 < k → served_in (word ++ k ∷ []) ≡ served_in word ++ k ∷ []
served_with word k some = filter-append (λ n. not (n == 0)) word (k ∷ []) ∙ (let e : not (k == 0) ≡ true = grind (arith, nat_tests) in rw e refl)

-- the depot behind a word serves nobody
pub served_at_depot : (word : List ℕ) → served_in (word ++ 0 ∷ []) ≡ served_in word
served_at_depot word = filter-append (λ n. not (n == 0)) word (0 ∷ []) ∙ append-nil (served_in word)

-- ---- the depot

-- the depot behind an open route opens none
pub routes_at_depot : (word : List ℕ) → HasStops 0 word → IsOpen word → routes_of (word ++ 0 ∷ []) ≡ routes_of word
routes_at_depot word has is_open =
    let s = shape_of word has in
    let some : 0 < length s.open_stops = open_is_some s.closed s.open_stops (subst (λ (w : List ℕ). 0 < last_symbol w) s.is is_open) in
    ap (λ (w : List ℕ). routes_of (w ++ 0 ∷ [])) s.is ∙ routes_when_closed s.closed s.open_stops s.are_closed s.are_stops some ∙ sym (ap routes_of s.is)

-- a prefix with an open route may be closed
pub prefix_closed : (p : Problem) (prefix : List ℕ) → IsPrefix p prefix → IsOpen prefix → (IsSymmetric p → RunsForward (last_route prefix)) → IsPrefix p (prefix ++ 0 ∷ [])
prefix_closed p prefix is_prefix is_open forward =
    let routes = routes_at_depot prefix is_prefix.stops is_open in
    record {
      known = subst (All (Contains (customers p))) (sym (served_at_depot prefix)) is_prefix.known;
      once = subst (AllPairs (λ a b. a ≢ b)) (sym (served_at_depot prefix)) is_prefix.once;
      stops = HasStops-append 0 prefix (0 ∷ []) is_prefix.stops ((λ _. rw (← last_is prefix) is_open), tt);
      fits = subst (All (λ r. load_of p r ≤ p.capacity)) (sym routes) is_prefix.fits;
      rising = subst (λ (rs : List (List ℕ)). IsStrictlyIncreasing (first_stops rs)) (sym routes) is_prefix.rising;
      few = subst (λ (rs : List (List ℕ)). HasTrucks p (length rs)) (sym routes) is_prefix.few;
      forward = λ symmetric. subst (All RunsForward) (sym (closed_at_depot prefix is_prefix.stops is_open))
          (All-append RunsForward (closed_routes prefix) (last_route prefix ∷ []) (is_prefix.forward symmetric) (All-cons RunsForward (last_route prefix) [] (forward symmetric) (All-nil RunsForward)));
    }

-- a prefix that ends with the depot had an open route before
pub closed_is_open : (p : Problem) (prefix : List ℕ) → IsPrefix p (prefix ++ 0 ∷ []) → IsOpen prefix
closed_is_open p prefix is_prefix = rw (last_is prefix) ((HasStops-parts 0 prefix (0 ∷ []) is_prefix.stops).1.0 refl)

-- and that route runs forward
pub closed_runs_forward : (p : Problem) (prefix : List ℕ) → IsPrefix p (prefix ++ 0 ∷ []) → IsSymmetric p → RunsForward (last_route prefix)
closed_runs_forward p prefix is_prefix symmetric =
    let has = (HasStops-parts 0 prefix (0 ∷ []) is_prefix.stops).0 in
    All-last RunsForward (closed_routes prefix) (last_route prefix) (subst (All RunsForward) (closed_at_depot prefix has (closed_is_open p prefix is_prefix)) (is_prefix.forward symmetric))

-- ---- a customer

-- the last of some rising numbers is above the one before
pub rising_last : (xs : List ℕ) (k : ℕ) → IsStrictlyIncreasing (xs ++ k ∷ []) → 0 < length xs → slice_index xs (length xs - 1) < k
rising_last xs k rising some =
    let long : length (xs ++ k ∷ []) ≡ length xs + 1 = length-append xs (k ∷ []) in
    let step = rising (length xs - 1) (omega (arith, long)) in
    let next : length xs - 1 + 1 ≡ length xs = omega arith in
    let low : slice_index (xs ++ k ∷ []) (length xs - 1) ≡ slice_index xs (length xs - 1) = get_or-append xs (k ∷ []) 0 (length xs - 1) (omega arith) in
    let high : slice_index (xs ++ k ∷ []) (length xs - 1 + 1) ≡ k = rw next (get_or-append_seam xs k [] 0) in
    omega (arith, step, low, high)

-- rising numbers, and one above the last
pub rising_more : (xs : List ℕ) (k : ℕ) → IsStrictlyIncreasing xs → (0 < length xs → slice_index xs (length xs - 1) < k) → IsStrictlyIncreasing (xs ++ k ∷ [])
rising_more xs k rising above = λ i lt.
    let long : length (xs ++ k ∷ []) ≡ length xs + 1 = length-append xs (k ∷ []) in
    elim (leb_tells (suc (i + 1)) (length xs)) [
      | inl within ↦
          let low : slice_index (xs ++ k ∷ []) i ≡ slice_index xs i = get_or-append xs (k ∷ []) 0 i (omega (arith, within.1)) in
          let high : slice_index (xs ++ k ∷ []) (i + 1) ≡ slice_index xs (i + 1) = get_or-append xs (k ∷ []) 0 (i + 1) (omega (arith, within.1)) in
          omega (arith, low, high, rising i (omega (arith, within.1)))
      | inr last ↦
          let place : i + 1 ≡ length xs = omega (arith, last.1, long, lt) in
          let before : i ≡ length xs - 1 = omega (arith, place) in
          let low : slice_index (xs ++ k ∷ []) i ≡ slice_index xs (length xs - 1) = get_or-append xs (k ∷ []) 0 i (omega (arith, place)) ∙ ap (slice_index xs) before in
          let high : slice_index (xs ++ k ∷ []) (i + 1) ≡ k = rw place (get_or-append_seam xs k [] 0) in
          omega (arith, low, high, above (omega (arith, place)))
    ]

first_with : (stop : ℕ) (stops : List ℕ) (k : ℕ) → slice_index ((stop ∷ stops) ++ k ∷ []) 0 ≡ slice_index (stop ∷ stops) 0
first_with stop stops k = refl

-- what holds of all pairs of two parts holds of those of the first
pub pairs_left : (R : ℕ → ℕ → Type 0) (xs ys : List ℕ) → AllPairs R (xs ++ ys) → AllPairs R xs
pairs_left R xs ys pairs = λ i j d lt within.
    let a : get_or (xs ++ ys) i d ≡ get_or xs i d = get_or-append xs ys d i (omega arith) in
    let b : get_or (xs ++ ys) j d ≡ get_or xs j d = get_or-append xs ys d j within in
    subst (λ n. R (get_or xs i d) n) b (subst (λ n. R n (get_or (xs ++ ys) j d)) a (pairs i j d lt (omega (arith, length-append xs ys))))

others_differ : (xs : List ℕ) (k : ℕ) → AllPairs (λ a b. a ≢ b) (xs ++ k ∷ []) → All (λ x. x ≢ k) xs
others_differ xs k pairs = λ i d lt.
    let long = length-append xs (k ∷ []) in
    let a : get_or (xs ++ k ∷ []) i d ≡ get_or xs i d = get_or-append xs (k ∷ []) d i lt in
    let b : get_or (xs ++ k ∷ []) (length xs) d ≡ k = get_or-append_seam xs k [] d in
    λ same. pairs i (length xs) d lt (omega (arith, long)) (a ∙ same ∙ sym b)

-- an unserved customer may be added where its route can carry it, its route rises, and there are trucks
pub customer_added : (p : Problem) (prefix : List ℕ) (k : ℕ) (routes : List (List ℕ)) → IsPrefix p prefix → Contains (unserved_in p prefix) k → routes_of (prefix ++ k ∷ []) ≡ routes
    → All (λ r. load_of p r ≤ p.capacity) routes → IsStrictlyIncreasing (first_stops routes) → HasTrucks p (length routes) → IsPrefix p (prefix ++ k ∷ [])
customer_added p prefix k routes is_prefix unserved is fits rising few =
    let known = unserved_is_customer p prefix k unserved in
    let some : 0 < k = customer_is_some p k known in
    record {
      known = subst (All (Contains (customers p))) (sym (served_with prefix k some)) (All-append (Contains (customers p)) (served_in prefix) (k ∷ []) is_prefix.known (All-cons (Contains (customers p)) k [] known (All-nil (Contains (customers p)))));
      once = subst (AllPairs (λ a b. a ≢ b)) (sym (served_with prefix k some)) (all_pairs_push (λ a b. a ≢ b) (served_in prefix) k is_prefix.once (unserved_differs p prefix k unserved));
      stops = HasStops-append 0 prefix (k ∷ []) is_prefix.stops ((λ zero_is. absurd (omega (arith, some, zero_is))), tt);
      fits = subst (All (λ r. load_of p r ≤ p.capacity)) (sym is) fits;
      rising = subst (λ (rs : List (List ℕ)). IsStrictlyIncreasing (first_stops rs)) (sym is) rising;
      few = subst (λ (rs : List (List ℕ)). HasTrucks p (length rs)) (sym is) few;
      forward = λ symmetric. subst (All RunsForward) (sym (closed_with_customer prefix k is_prefix.stops some)) (is_prefix.forward symmetric);
    }

-- a customer that a prefix ends with was unserved before
pub unserved_if_added : (p : Problem) (prefix : List ℕ) (k : ℕ) → 0 < k → IsPrefix p (prefix ++ k ∷ []) → Contains (unserved_in p prefix) k
unserved_if_added p prefix k some is_prefix =
    unserved_if_not_served p prefix k
    (All-last (Contains (customers p)) (served_in prefix) k (subst (All (Contains (customers p))) (served_with prefix k some) is_prefix.known))
    (others_differ (served_in prefix) k (subst (AllPairs (λ a b. a ≢ b)) (served_with prefix k some) is_prefix.once))

-- a symbol that a prefix ends with, other than the depot, is a customer
pub added_is_customer : (p : Problem) (prefix : List ℕ) (k : ℕ) → 0 < k → IsPrefix p (prefix ++ k ∷ []) → Contains (customers p) k
added_is_customer p prefix k some is_prefix = unserved_is_customer p prefix k (unserved_if_added p prefix k some is_prefix)
