-- The routes of a word: closed ones, each followed by 0, and behind them the open one.
use Rattle.std.proofs.Common.{◌≡◌, ℕ, zero, suc, ◌+◌, ◌-◌, ◌<◌, true, false, not, ◌==◌, List, [], ◌∷◌, ◌++◌, length, length-append, take, refl, sym, ap, ◌∙◌, append_assoc, append-nil, arith}
use Rattle.std.specs.List.{All, concat, filter, slice_split}
use Rattle.std.specs.Prelude.{count_by, slice_index}
use Rattle.std.proofs.Math.Seq.{take-append_seam}
use Rattle.std.proofs.lemmas.Bool.Decides.{nat_tests}
use Rattle.std.proofs.lemmas.List.Elements.{All-cons, All-nil, All-append}
use Rattle.std.proofs.lemmas.List.Splits.{length-slice_split, slice_split_at, slice_split_none}
use Rattle.vrp_model.specs.Word.{HasStops, closed_routes, last_symbol, routes_of, served_in, word_of}

-- stops alone, without the depot
abbrev pub IsStops : List ℕ → Type 0
IsStops stops = All (λ k. (k == 0) ≡ false) stops

-- routes with stops, none of them empty
abbrev pub AreClosed : List (List ℕ) → Type 0
AreClosed [] = Unit {0}
AreClosed (route ∷ routes) = IsStops route × (0 < length route) × AreClosed routes

-- the open route as a list of routes: none, where it has no stop
abbrev pub open_routes : List ℕ → List (List ℕ)
open_routes [] = []
open_routes (stop ∷ stops) = (stop ∷ stops) ∷ []

-- a word is its closed routes, each followed by 0, and then the open one
pub record Shape (word : List ℕ) : Type 0 where
  pub closed : List (List ℕ)
  pub open_stops : List ℕ
  pub is : word ≡ word_of closed ++ open_stops
  pub are_closed : AreClosed closed
  pub are_stops : IsStops open_stops

-- a number above 0 is no depot
pub is_stop : (k : ℕ) → 0 < k → (k == 0) ≡ false
is_stop k some = grind (arith, nat_tests)

-- one customer is a list of stops
pub one_stop : (k : ℕ) → 0 < k → IsStops (k ∷ [])
one_stop k some = All-cons (λ n. (n == 0) ≡ false) k [] (is_stop k some) (All-nil (λ n. (n == 0) ≡ false))

first_part : (route : List ℕ) (routes : List (List ℕ)) (stops : List ℕ) → word_of (route ∷ routes) ++ stops ≡ route ++ 0 ∷ (word_of routes ++ stops)
first_part route routes stops = append_assoc (route ++ 0 ∷ []) (word_of routes) stops ∙ append_assoc route (0 ∷ []) (word_of routes ++ stops)

pieces_are : (closed : List (List ℕ)) (stops : List ℕ) → AreClosed closed → IsStops stops → slice_split (λ k. k == 0) (word_of closed ++ stops) ≡ closed ++ stops ∷ []
pieces_are [] stops closed free = slice_split_none (λ k. k == 0) stops free
pieces_are (route ∷ routes) stops closed free =
    ap (slice_split (λ k. k == 0)) (first_part route routes stops)
    ∙ slice_split_at (λ k. k == 0) route 0 (word_of routes ++ stops) closed.0 refl
    ∙ ap (λ rest. route ∷ rest) (pieces_are routes stops closed.2 free)

not_empty : (route : List ℕ) → 0 < length route → not (length route == 0) ≡ true
not_empty route some = grind (arith, nat_tests)

kept_routes : (closed : List (List ℕ)) (stops : List ℕ) → AreClosed closed → filter (λ r. not (length r == 0)) (closed ++ stops ∷ []) ≡ closed ++ open_routes stops
kept_routes [] [] closed = refl
kept_routes [] (stop ∷ stops) closed = let e : not (length (stop ∷ stops) == 0) ≡ true = not_empty (stop ∷ stops) (omega arith) in rw e refl
kept_routes (route ∷ routes) stops closed = rw (not_empty route closed.1) (ap (λ rest. route ∷ rest) (kept_routes routes stops closed.2))

-- the routes of a word are its closed ones and the open one
pub routes_are : (closed : List (List ℕ)) (stops : List ℕ) → AreClosed closed → IsStops stops → routes_of (word_of closed ++ stops) ≡ closed ++ open_routes stops
routes_are closed stops are free = ap (filter (λ r. not (length r == 0))) (pieces_are closed stops are free) ∙ kept_routes closed stops are

-- the closed routes of a word are those that a 0 follows
pub closed_routes_are : (closed : List (List ℕ)) (stops : List ℕ) → AreClosed closed → IsStops stops → closed_routes (word_of closed ++ stops) ≡ closed
closed_routes_are closed stops are free =
    let word = word_of closed ++ stops in
    let parts : slice_split (λ k. k == 0) word ≡ closed ++ stops ∷ [] = pieces_are closed stops are free in
    let zeros : count_by (λ k. k == 0) word ≡ length closed = omega (arith, length-slice_split (λ k. k == 0) word, ap length parts, length-append closed (stops ∷ [])) in
    ap (λ n. take n (slice_split (λ k. k == 0) word)) zeros ∙ ap (take (length closed)) parts ∙ take-append_seam closed (stops ∷ [])

-- the word of some routes and then of others
pub word_of-append : (routes others : List (List ℕ)) → word_of (routes ++ others) ≡ word_of routes ++ word_of others
word_of-append [] others = refl
word_of-append (route ∷ routes) others = ap (λ rest. (route ++ 0 ∷ []) ++ rest) (word_of-append routes others) ∙ sym (append_assoc (route ++ 0 ∷ []) (word_of routes) (word_of others))

-- closed routes, and closed routes behind them
pub AreClosed-append : (routes others : List (List ℕ)) → AreClosed routes → AreClosed others → AreClosed (routes ++ others)
AreClosed-append [] others are more = more
AreClosed-append (route ∷ routes) others are more = (are.0, are.1, AreClosed-append routes others are.2 more)

-- a word that goes on behind some stops
shape_behind : (stops : List ℕ) (before : ℕ) (word : List ℕ) → IsStops stops → (0 < before → 0 < length stops) → HasStops before word → Shape (stops ++ word)
shape_behind stops before [] free some has = record { closed = []; open_stops = stops; is = append-nil stops; are_closed = tt; are_stops = free }
shape_behind stops before (zero ∷ word) free some has =
    let rest = shape_behind [] 0 word (All-nil (λ n. (n == 0) ≡ false)) (λ lt. absurd (omega arith)) has.1 in
    record {
      closed = stops ∷ rest.closed;
      open_stops = rest.open_stops;
      is = ap (λ behind. stops ++ 0 ∷ behind) rest.is ∙ sym (first_part stops rest.closed rest.open_stops);
      are_closed = (free, some (has.0 refl), rest.are_closed);
      are_stops = rest.are_stops;
    }
shape_behind stops before (suc k ∷ word) free some has =
    let rest = shape_behind (stops ++ suc k ∷ []) (suc k) word (All-append (λ n. (n == 0) ≡ false) stops (suc k ∷ []) free (one_stop (suc k) (omega arith))) (λ _. omega (arith, length-append stops (suc k ∷ []))) has.1 in
    record { closed = rest.closed; open_stops = rest.open_stops; is = sym (append_assoc stops (suc k ∷ []) word) ∙ rest.is; are_closed = rest.are_closed; are_stops = rest.are_stops }

-- each word in which a 0 stands behind a customer has a shape
pub shape_of : (word : List ℕ) → HasStops 0 word → Shape word
shape_of word has = shape_behind [] 0 word (All-nil (λ n. (n == 0) ≡ false)) (λ lt. absurd (omega arith)) has

-- the symbol that stands last, where this one stands before the list
abbrev pub last_behind : ℕ → List ℕ → ℕ
last_behind before [] = before
last_behind before (symbol ∷ word) = last_behind symbol word

-- a word whose zeros stand behind customers, made of two parts
pub HasStops-append : (before : ℕ) (word more : List ℕ) → HasStops before word → HasStops (last_behind before word) more → HasStops before (word ++ more)
HasStops-append before [] more has behind = behind
HasStops-append before (symbol ∷ word) more has behind = (has.0, HasStops-append symbol word more has.1 behind)

-- and taken apart
pub HasStops-parts : (before : ℕ) (word more : List ℕ) → HasStops before (word ++ more) → HasStops before word × HasStops (last_behind before word) more
HasStops-parts before [] more has = (tt, has)
HasStops-parts before (symbol ∷ word) more has = let rest = HasStops-parts symbol word more has.1 in ((has.0, rest.0), rest.1)

-- the last symbol of two parts
pub last_behind-append : (before : ℕ) (word more : List ℕ) → last_behind before (word ++ more) ≡ last_behind (last_behind before word) more
last_behind-append before [] more = refl
last_behind-append before (symbol ∷ word) more = last_behind-append symbol word more

last_at : (symbol : ℕ) (word : List ℕ) → slice_index (symbol ∷ word) (length word) ≡ last_behind symbol word
last_at symbol [] = refl
last_at symbol (next ∷ word) = last_at next word

-- the last symbol, by index and by recursion
pub last_is : (word : List ℕ) → last_symbol word ≡ last_behind 0 word
last_is [] = refl
last_is (symbol ∷ word) = let e : length (symbol ∷ word) - 1 ≡ length word = omega arith in rw e (last_at symbol word)

-- a customer at the front is served first
pub serves_customer : (k : ℕ) (word : List ℕ) → served_in (suc k ∷ word) ≡ suc k ∷ served_in word
serves_customer k word = let test : not (suc k == 0) ≡ true = grind (arith, nat_tests) in rw test refl

-- the word of any routes has a symbol for each stop, and one for each route
pub length_of_word : (routes : List (List ℕ)) → length (word_of routes) ≡ length (concat routes) + length routes
length_of_word [] = refl
length_of_word (route ∷ routes) =
    let rest = length_of_word routes in
    let a : length ((route ++ 0 ∷ []) ++ word_of routes) ≡ length (route ++ 0 ∷ []) + length (word_of routes) = length-append (route ++ 0 ∷ []) (word_of routes) in
    let b : length (route ++ 0 ∷ []) ≡ length route + 1 = length-append route (0 ∷ []) in
    let d : length (route ++ concat routes) ≡ length route + length (concat routes) = length-append route (concat routes) in
    omega (arith, a, b, d, rest)
