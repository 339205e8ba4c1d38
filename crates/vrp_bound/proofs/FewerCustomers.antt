-- Tables over those customers alone that a prefix leaves unserved bound no lower than tables over all.
use Rattle.std.proofs.Common.{◌≡◌, ◌≢◌, ℕ, ◌+◌, ◌*◌, ◌≤◌, inl, inr, Option, Some, None, List, [], ◌∷◌, map, length, get_or, refl, subst, arith}
use Rattle.std.specs.List.{All, Contains, sum_by}
use Rattle.std.proofs.lemmas.Bool.{cases_lt}
use Rattle.std.proofs.lemmas.List.Elements.{All-cons, All-contains, All-contains_itself, All-nil, All-tail}
use Rattle.std.proofs.lemmas.List.Sums.{sum_by-cons}
use Rattle.std.proofs.lemmas.Nat.{mul-le}
use Rattle.vrp_model.specs.Prefix.{open_load}
use Rattle.vrp_model.specs.Problem.{IsProblem, Problem, customers, demand_of}
use Rattle.vrp_model.specs.Route.{load_of}
use Rattle.vrp_model.specs.Word.{IsPrefix, last_symbol, unserved_in}
use Rattle.vrp_model.proofs.CustomerPlaces.{customer_is_some}
use Rattle.vrp_model.proofs.DistinctWithin.{length_among, sum_among}
use Rattle.vrp_model.proofs.UnservedCustomers.{unserved_are_customers, unserved_distinct}
use Rattle.vrp_bound.specs.Tables.{AreMade, IsBound, room_of}
use Rattle.vrp_bound.specs.Walk.{IsRelaxed, IsTour, IsWalk}
use Rattle.vrp_bound.proofs.ServedBehind.{light_prefix}

-- ---- more customers

contained : (few many xs : List ℕ) → All (Contains many) few → All (Contains few) xs → All (Contains many) xs
contained few many xs among within = λ k d lt. All-contains (Contains many) few (get_or xs k d) among (within k d lt)

wider_walk : (p : Problem) (few many : List ℕ) (at : ℕ) (stops : List ℕ) → All (Contains many) few → IsWalk p few at stops → IsWalk p many at stops
wider_walk p few many at stops among walk = record { within = contained few many stops among walk.within; differ = walk.differ }

wider_tour : (p : Problem) (few many stops : List ℕ) → All (Contains many) few → IsTour p few stops → IsTour p many stops
wider_tour p few many stops among tour = record { leaves = tour.leaves; walks = wider_walk p few many 0 stops among tour.walks; fits = tour.fits }

-- what carries the rest through some customers does so through more
wider : (p : Problem) (few many : List ℕ) (at load rest : ℕ) (home : List ℕ) (tours : List (List ℕ)) → All (Contains many) few → IsRelaxed p few at load rest home tours → IsRelaxed p many at load rest home tours
wider p few many at load rest home tours among relaxed = record {
  walks = wider_walk p few many at home among relaxed.walks;
  none_out = relaxed.none_out;
  fits = relaxed.fits;
  each = λ k d lt. wider_tour p few many (get_or tours k d) among (relaxed.each k d lt);
  whole = relaxed.whole;
}

-- tables that are made over customers are made over some of them
made_over_fewer : (p : Problem) (few many : List ℕ) → All (Contains many) few → length few ≤ length many → load_of p few ≤ load_of p many → AreMade p many → AreMade p few
made_over_fewer p few many among shorter lighter made =
    let room : room_of p few ≤ room_of p many = omega (arith, lighter) in
    let rows = mul-le (room_of p few + 1) (length few) (room_of p many + 1) (length many) (omega (arith, room)) shorter in
    record {
      demands = λ k d lt. All-contains (λ customer. 1 ≤ demand_of p customer) many (get_or few k d) made.demands (among k d lt);
      walks = omega (arith, mul-le ((room_of p few + 1) * length few) (length few) ((room_of p many + 1) * length many) (length many) rows shorter, made.walks);
      tours = omega (arith, mul-le (load_of p few) (room_of p few) (load_of p many) (room_of p many) lighter room, made.tours);
    }

-- ---- a truck for each customer carries the rest

abbrev alone : ℕ → List ℕ
alone customer = customer ∷ []

tours_alone : (p : Problem) (among xs : List ℕ) → IsProblem p → All (Contains among) xs → All (λ customer. 0 ≢ customer) xs → All (IsTour p among) (map alone xs)
tours_alone p among [] problem within differ = All-nil (IsTour p among)
tours_alone p among (x ∷ xs) problem within differ =
    All-cons (IsTour p among) (alone x) (map alone xs)
    (record {
      leaves = λ none. cc;
      walks = record { within = All-cons (Contains among) x [] (within 0 x (omega arith)) (All-nil (Contains among)); differ = (differ 0 x (omega arith), tt) };
      fits = omega (arith, problem.fitting_demands x, sum_by-cons (demand_of p) x []);
    })
    (tours_alone p among xs problem (All-tail (Contains among) x xs within) (All-tail (λ customer. 0 ≢ customer) x xs differ))

carry_all : (p : Problem) (xs : List ℕ) → sum_by (load_of p) (map alone xs) ≡ load_of p xs
carry_all p [] = refl
carry_all p (x ∷ xs) = omega (arith, carry_all p xs, sum_by-cons (load_of p) (x ∷ []) (map alone xs), sum_by-cons (demand_of p) x xs, sum_by-cons (demand_of p) x [])

by_trucks_alone : (p : Problem) (among : List ℕ) (at load : ℕ) → IsProblem p → load ≤ p.capacity → All (λ customer. 0 ≢ customer) among → IsRelaxed p among at load (load_of p among) [] (map alone among)
by_trucks_alone p among at load problem light differ = record {
  walks = record { within = All-nil (Contains among); differ = tt };
  none_out = λ depot. refl;
  fits = omega (arith, light);
  each = tours_alone p among among problem (All-contains_itself among) differ;
  whole = omega (arith, carry_all p among);
}

-- ---- the bounds

unserved_differ : (p : Problem) (prefix : List ℕ) → All (λ customer. 0 ≢ customer) (unserved_in p prefix)
unserved_differ p prefix = λ k d lt. λ same. absurd (let some = customer_is_some p (get_or (unserved_in p prefix) k d) (unserved_are_customers p prefix k d lt) in omega (arith, some, same))

some_bound : (p : Problem) (among : List ℕ) (at load rest : ℕ) (home : List ℕ) (tours : List (List ℕ)) (own : Option ℕ) → IsRelaxed p among at load rest home tours → IsBound p among at load rest own → (more : ℕ) × (own ≡ Some more)
some_bound p among at load rest home tours None relaxed is =
    let never : None ≡ Some 0 = is.none_made (λ made. is.made made home tours relaxed) in
    absurd (cc (never))
some_bound p among at load rest home tours (Some more) relaxed is = (more, refl)

no_lower : (p : Problem) (few many : List ℕ) (at load rest least more : ℕ) → All (Contains many) few → length few ≤ length many → load_of p few ≤ load_of p many → IsBound p many at load rest (Some least) → IsBound p few at load rest (Some more) → least ≤ more
no_lower p few many at load rest least more among shorter lighter all own = elim (cases_lt more least) [
  | inr no_less ↦ omega (arith, no_less)
  | inl less ↦
      let none : AreMade p many → ⊥ = λ made.
      (let least_all = all.made made in
      let least_own = own.made (made_over_fewer p few many among shorter lighter made) in
      let (home, tours, relaxed, costs) = least_own.met in
      omega (arith, less, costs, least_all.least home tours (wider p few many at load rest home tours among relaxed))) in
      let zero_is : Some least ≡ Some 0 = all.none_made none in
      let is : least ≡ 0 = cc (zero_is) in
      absurd (omega (arith, less, is))
]

pub fewer_bound_no_lower : (p : Problem) (prefix : List ℕ) (least : ℕ) (own : Option ℕ) → IsProblem p → IsPrefix p prefix
    → IsBound p (customers p) (last_symbol prefix) (open_load p prefix) (load_of p (unserved_in p prefix)) (Some least)
    → IsBound p (unserved_in p prefix) (last_symbol prefix) (open_load p prefix) (load_of p (unserved_in p prefix)) own
    → (more : ℕ) × (own ≡ Some more) × (least ≤ more)
fewer_bound_no_lower p prefix least own problem is_prefix all is_own =
    let few = unserved_in p prefix in
    let at = last_symbol prefix in
    let load = open_load p prefix in
    let relaxed = by_trucks_alone p few at load problem (light_prefix p prefix is_prefix) (unserved_differ p prefix) in
    let (more, is) = some_bound p few at load (load_of p few) [] (map alone few) own relaxed is_own in (
      more,
      is,
      no_lower p few (customers p) at load (load_of p few) least more (unserved_are_customers p prefix) (length_among few (customers p) (unserved_distinct p prefix) (unserved_are_customers p prefix))
          (sum_among (demand_of p) few (customers p) (unserved_distinct p prefix) (unserved_are_customers p prefix)) all
          (subst (λ (o : Option ℕ). IsBound p few at load (load_of p few) o) is is_own),
    )
