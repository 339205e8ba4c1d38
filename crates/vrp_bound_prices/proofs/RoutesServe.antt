-- The routes of a prefix serve its customers: what one route has is no more than what all have.
use Rattle.std.proofs.Common.{◌≡◌, ℕ, zero, suc, ◌≤◌, ◌<◌, ◌==◌, false, not, List, [], ◌∷◌, ◌++◌, length, length-append, get_or, refl, sym, ap, subst, ◌∙◌, append-nil, append_assoc, arith}
use Rattle.std.specs.List.{All, concat, sum_by}
use Rattle.std.proofs.lemmas.List.Elements.{All-tail, filter-append}
use Rattle.std.proofs.lemmas.List.{get_or_append_left}
use Rattle.std.proofs.lemmas.List.Sums.{sum_by-append}
use Rattle.vrp_model.specs.Word.{HasStops, routes_of, served_in, word_of}
use Rattle.vrp_model.proofs.PlanWords.{served_by}
use Rattle.vrp_model.proofs.Words.{IsStops, open_routes, routes_are, shape_of}

stops_stay : (stops : List ℕ) → IsStops stops → served_in stops ≡ stops
stops_stay [] free = refl
stops_stay (k ∷ stops) free =
    let here : (k == 0) ≡ false = free 0 k (omega arith) in
    rw here (ap (λ rest. k ∷ rest) (stops_stay stops (λ i d lt. free (suc i) d (omega arith))))

joined_open : (closed : List (List ℕ)) (stops : List ℕ) → concat (closed ++ open_routes stops) ≡ concat closed ++ stops
joined_open [] [] = refl
joined_open [] (stop ∷ stops) = append-nil (stop ∷ stops)
joined_open (route ∷ closed) stops = ap (λ (xs : List ℕ). route ++ xs) (joined_open closed stops) ∙ sym (append_assoc route (concat closed) stops)

-- a word serves the customers of its routes
pub served_of_routes : (word : List ℕ) → HasStops 0 word → served_in word ≡ concat (routes_of word)
served_of_routes word has =
    let shape = shape_of word has in
    let served : served_in word ≡ concat shape.closed ++ shape.open_stops = ap served_in shape.is ∙ filter-append (λ k. not (k == 0)) (word_of shape.closed) shape.open_stops
    ∙ ap (λ (xs : List ℕ). xs ++ served_in shape.open_stops) (served_by shape.closed shape.are_closed)
    ∙ ap (λ (xs : List ℕ). concat shape.closed ++ xs) (stops_stay shape.open_stops shape.are_stops) in
    let routes : routes_of word ≡ shape.closed ++ open_routes shape.open_stops = ap routes_of shape.is ∙ routes_are shape.closed shape.open_stops shape.are_closed shape.are_stops in
    served ∙ sym (joined_open shape.closed shape.open_stops) ∙ ap concat (sym routes)

-- a sum over one list is no greater than that over all
pub sum_of_part : (f : ℕ → ℕ) (lists : List (List ℕ)) (i : ℕ) (d : List ℕ) → i < length lists → sum_by f (get_or lists i d) ≤ sum_by f (concat lists)
sum_of_part f [] i d lt = absurd (omega (arith, lt))
sum_of_part f (list ∷ lists) zero d lt = omega (arith, sum_by-append f list (concat lists))
sum_of_part f (list ∷ lists) (suc i) d lt = omega (arith, sum_of_part f lists i d (omega (arith, lt)), sum_by-append f list (concat lists))

pub sum_of_route : (f : ℕ → ℕ) (word : List ℕ) (i : ℕ) (d : List ℕ) → HasStops 0 word → i < length (routes_of word) → sum_by f (get_or (routes_of word) i d) ≤ sum_by f (served_in word)
sum_of_route f word i d has lt = omega (arith, sum_of_part f (routes_of word) i d lt, ap (sum_by f) (served_of_routes word has))

-- what holds of all elements holds of those of one list
first_part : (P : ℕ → Type 0) (xs ys : List ℕ) → All P (xs ++ ys) → All P xs
first_part P xs ys all = λ i d lt. subst P (get_or_append_left xs ys d i lt) (all i d (omega (arith, lt, length-append xs ys)))

second_part : (P : ℕ → Type 0) (xs ys : List ℕ) → All P (xs ++ ys) → All P ys
second_part P [] ys all = all
second_part P (x ∷ xs) ys all = second_part P xs ys (All-tail P x (xs ++ ys) all)

all_of_part : (P : ℕ → Type 0) (lists : List (List ℕ)) (i : ℕ) (d : List ℕ) → i < length lists → All P (concat lists) → All P (get_or lists i d)
all_of_part P [] i d lt all = absurd (omega (arith, lt))
all_of_part P (list ∷ lists) zero d lt all = first_part P list (concat lists) all
all_of_part P (list ∷ lists) (suc i) d lt all = all_of_part P lists i d (omega (arith, lt)) (second_part P list (concat lists) all)

pub all_of_route : (P : ℕ → Type 0) (word : List ℕ) (i : ℕ) (d : List ℕ) → HasStops 0 word → i < length (routes_of word) → All P (served_in word) → All P (get_or (routes_of word) i d)
all_of_route P word i d has lt all = all_of_part P (routes_of word) i d lt (subst (All P) (served_of_routes word has) all)
