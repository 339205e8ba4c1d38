-- What a feasible word adds to a prefix is a completion of it by ng-walks.
use Rattle.std.proofs.Common.{◌≡◌, ◌≢◌, ℕ, zero, suc, ◌+◌, ◌-◌, ◌<◌, ◌≤◌, ◌==◌, true, List, [], ◌∷◌, ◌++◌, length, length-append, get_or, inl, inr, refl, sym, ap, subst, ◌∙◌, eq-eqb, arith}
use Rattle.std.specs.List.{All, Contains}
use Rattle.std.proofs.lemmas.Bool.{both_ways, cases_lt}
use Rattle.std.proofs.lemmas.List.{get_or-append-add}
use Rattle.std.proofs.lemmas.List.Elements.{All-cons, All-contains, All-nil, Contains-get_or}
use Rattle.std.proofs.lemmas.List.Folds.{list_any_at}
use Rattle.std.proofs.lemmas.List.Sums.{sum_by-cons}
use Rattle.vrp_model.specs.Prefix.{open_load}
use Rattle.vrp_model.specs.Problem.{IsProblem, Problem, demand_of}
use Rattle.vrp_model.specs.Route.{cost_along, load_of}
use Rattle.vrp_model.specs.Word.{IsLawfulWord, last_symbol, served_in, stands_in, unserved_in, word_cost}
use Rattle.vrp_model.proofs.CustomerPlaces.{customer_is_some}
use Rattle.vrp_model.proofs.DistinctLists.{AreDistinct, behind_head, head_differs, tail_distinct}
use Rattle.vrp_model.proofs.UnservedCustomers.{unserved_is_customer, unserved_stands_not}
use Rattle.vrp_model.proofs.Words.{serves_customer}
use Rattle.vrp_bound.specs.Walk.{relaxed_cost, walk_cost}
use Rattle.vrp_bound.proofs.FirstStep.{load_first}
use Rattle.vrp_bound.proofs.ServedBehind.{cost_behind, served_more}
use Rattle.vrp_bound.proofs.SymbolBySymbol.{HoldsBySymbol, all_served_behind, by_symbols, first_and_rest, sum_behind}
use Rattle.vrp_bound.specs.NgWalks.{IsNgRelaxed, IsNgTour, IsNgWalk}
use Rattle.vrp_model.specs.NgWalks.{remembered}
use Rattle.vrp_model.proofs.RememberedStops.{remembered_stop}

-- what is added costs what a completion costs, whose walk home stops at nothing else
record Completes (p : Problem) (near : ℕ → List ℕ) (among : List ℕ) (at load : ℕ) (more : List ℕ) : Type 0 where
  home : List ℕ
  tours : List (List ℕ)
  relaxed : IsNgRelaxed p near among at load (load_of p (served_in more)) home tours
  served : All (Contains (served_in more)) home
  costs : relaxed_cost p at home tours ≡ cost_along p at more

-- distinct customers are served behind this place, all of them among these, and not the place itself
record AreServed (among : List ℕ) (at : ℕ) (more : List ℕ) : Type 0 where
  within : All (Contains among) (served_in more)
  distinct : AreDistinct (served_in more)
  others : All (λ stop. stop ≢ at) (served_in more)

-- the same behind the first of them
served_next : (among : List ℕ) (at k : ℕ) (more : List ℕ) → AreServed among at (suc k ∷ more) → AreServed among (suc k) more
served_next among at k more are =
    let distinct : AreDistinct (suc k ∷ served_in more) = subst AreDistinct (serves_customer k more) are.distinct in
    record {
      within = (first_and_rest (Contains among) k more are.within).1;
      distinct = tail_distinct (suc k) (served_in more) distinct;
      others = λ i d lt same. head_differs (suc k) (served_in more) distinct i d lt (sym same);
    }

-- no customer of a longer walk home is one that the walk home stops at again
not_remembered : (near : ℕ → List ℕ) (among : List ℕ) (at k : ℕ) (more home : List ℕ) → AreServed among at (suc k ∷ more) → All (Contains (served_in more)) home → Contains (remembered near (suc k ∷ home)) at → ⊥
not_remembered near among at k more home are served has =
    let IsOther : ℕ → Type 0 = λ stop. stop ≢ at in
    let both = first_and_rest IsOther k more are.others in
    let all : All IsOther (suc k ∷ home) = All-cons IsOther (suc k) home both.0 (λ i d lt. All-contains IsOther (served_in more) (get_or home i d) both.1 (served i d lt)) in
    All-contains IsOther (suc k ∷ home) at all (remembered_stop near (suc k ∷ home) at has) refl

served_longer : (k : ℕ) (more home : List ℕ) → All (Contains (served_in more)) home → All (Contains (served_in (suc k ∷ more))) (suc k ∷ home)
served_longer k more home served =
    let longer = suc k ∷ served_in more in
    subst (λ (xs : List ℕ). All (Contains xs) (suc k ∷ home)) (sym (serves_customer k more))
    (All-cons (Contains longer) (suc k) home (0, omega arith, refl) (λ i d lt. behind_head (suc k) (get_or home i d) (served_in more) (served i d lt)))

served_load : (p : Problem) (k : ℕ) (more : List ℕ) → load_of p (served_in (suc k ∷ more)) ≡ demand_of p (suc k) + load_of p (served_in more)
served_load p k more = ap (load_of p) (serves_customer k more) ∙ load_first p (suc k) (served_in more)

no_stops : (p : Problem) (near : ℕ → List ℕ) (among : List ℕ) (at : ℕ) → IsNgWalk p near among at []
no_stops p near among at = record { within = All-nil (Contains among); fresh = tt }

longer_walk : (p : Problem) (near : ℕ → List ℕ) (among : List ℕ) (at k : ℕ) (more home : List ℕ) → AreServed among at (suc k ∷ more) → All (Contains (served_in more)) home → IsNgWalk p near among (suc k) home → IsNgWalk p near among at (suc k ∷ home)
longer_walk p near among at k more home are served walk = record {
  within = All-cons (Contains among) (suc k) home (first_and_rest (Contains among) k more are.within).0 walk.within;
  fresh = (not_remembered near among at k more home are served, walk.fresh);
}

nothing_more : (p : Problem) (near : ℕ → List ℕ) (among : List ℕ) → Completes p near among 0 0 []
nothing_more p near among = record {
  home = [];
  tours = [];
  relaxed = record {
    walks = no_stops p near among 0;
    none_out = λ _. refl;
    fits = omega arith;
    each = All-nil (IsNgTour p near among);
    whole = refl;
  };
  served = All-nil (Contains []);
  costs = refl;
}

-- the truck drives home
then_home : (p : Problem) (near : ℕ → List ℕ) (among : List ℕ) (k load : ℕ) (more : List ℕ) → load ≤ p.capacity → Completes p near among 0 0 more → Completes p near among (suc k) load (0 ∷ more)
then_home p near among k load more light rest =
    let none : rest.home ≡ [] = rest.relaxed.none_out refl in
    let carried : load_of p rest.home ≡ 0 = ap (load_of p) none in
    record {
      home = [];
      tours = rest.tours;
      relaxed = record {
        walks = no_stops p near among (suc k);
        none_out = λ _. refl;
        fits = omega (arith, light);
        each = rest.relaxed.each;
        whole = omega (arith, rest.relaxed.whole, carried);
      };
      served = All-nil (Contains (served_in (0 ∷ more)));
      costs = omega (arith, rest.costs);
    }

-- the truck that is out drives to a customer
then_on : (p : Problem) (near : ℕ → List ℕ) (among : List ℕ) (j load k : ℕ) (more : List ℕ) → AreServed among (suc j) (suc k ∷ more) → Completes p near among (suc k) (load + demand_of p (suc k)) more
    → Completes p near among (suc j) load (suc k ∷ more)
then_on p near among j load k more are rest = record {
  home = suc k ∷ rest.home;
  tours = rest.tours;
  relaxed = record {
    walks = longer_walk p near among (suc j) k more rest.home are rest.served rest.relaxed.walks;
    none_out = λ never. absurd (omega (arith, never));
    fits = omega (arith, rest.relaxed.fits, load_first p (suc k) rest.home);
    each = rest.relaxed.each;
    whole = omega (arith, rest.relaxed.whole, load_first p (suc k) rest.home, served_load p k more);
  };
  served = served_longer k more rest.home rest.served;
  costs = omega (arith, rest.costs);
}

-- a truck leaves the depot for a customer
then_out : (p : Problem) (near : ℕ → List ℕ) (among : List ℕ) (k : ℕ) (more : List ℕ) → AreServed among 0 (suc k ∷ more) → Completes p near among (suc k) (demand_of p (suc k)) more → Completes p near among 0 0 (suc k ∷ more)
then_out p near among k more are rest =
    let tour = suc k ∷ rest.home in
    let carried = load_first p (suc k) rest.home in
    let is_tour : IsNgTour p near among tour = record {
      leaves = λ same. cc;
      walks = longer_walk p near among 0 k more rest.home are rest.served rest.relaxed.walks;
      fits = omega (arith, rest.relaxed.fits, carried);
    } in
    record {
      home = [];
      tours = tour ∷ rest.tours;
      relaxed = record {
        walks = no_stops p near among 0;
        none_out = λ _. refl;
        fits = omega arith;
        each = All-cons (IsNgTour p near among) tour rest.tours is_tour rest.relaxed.each;
        whole = omega (arith, rest.relaxed.whole, carried, served_load p k more, sum_by-cons (load_of p) tour rest.tours);
      };
      served = All-nil (Contains (served_in (suc k ∷ more)));
      costs = omega (arith, rest.costs, sum_by-cons (walk_cost p 0) tour rest.tours);
    }

-- the depot is no customer
served_after_depot : (among : List ℕ) (at : ℕ) (more : List ℕ) → All (λ stop. stop ≢ 0) (served_in more) → AreServed among at (0 ∷ more) → AreServed among 0 more
served_after_depot among at more some are = record { within = are.within; distinct = are.distinct; others = some }

some_served : (word : List ℕ) → All (λ stop. stop ≢ 0) (served_in word)
some_served [] = All-nil (λ stop. stop ≢ 0)
some_served (zero ∷ word) = some_served word
some_served (suc k ∷ word) = subst (All (λ stop. stop ≢ 0)) (sym (serves_customer k word)) (All-cons (λ stop. stop ≢ 0) (suc k) (served_in word) (λ none. omega (arith, none)) (some_served word))

completes_by_symbol : (p : Problem) (near : ℕ → List ℕ) (among : List ℕ) → HoldsBySymbol p (λ at load more. AreServed among at more → Completes p near among at load more)
completes_by_symbol p near among = record {
  nothing = λ _. nothing_more p near among;
  home = λ j load more place light rest are. then_home p near among j load more light (rest (served_after_depot among (suc j) more (some_served more) are));
  leaves = λ k more fits rest are. then_out p near among k more are (rest (served_next among 0 k more are));
  continues = λ j load k more place differs fits rest are. then_on p near among j load k more are (rest (served_next among (suc j) k more are));
}

-- the prefix's last place isn't left unserved
last_is_served : (p : Problem) (prefix : List ℕ) → All (λ stop. stop ≢ last_symbol prefix) (unserved_in p prefix)
last_is_served p prefix i d lt same =
    let k = get_or (unserved_in p prefix) i d in
    let unserved : Contains (unserved_in p prefix) k = Contains-get_or (unserved_in p prefix) i d lt in
    let some : 0 < k = customer_is_some p k (unserved_is_customer p prefix k unserved) in
    elim (cases_lt 0 (length prefix)) [
      | inl long ↦
          let here : (get_or prefix (length prefix - 1) 0 == k) ≡ true = eq-eqb (last_symbol prefix) k (sym same) in
          both_ways (stands_in prefix k) (unserved_stands_not p prefix k unserved) (list_any_at (λ symbol. symbol == k) prefix (length prefix - 1) 0 (omega (arith, long)) here)
      | inr none ↦ no_last prefix k (omega (arith, none)) some same
    ]
  where
    no_last : (word : List ℕ) (k : ℕ) → length word ≡ 0 → 0 < k → k ≡ last_symbol word → ⊥
    no_last [] k none some same = omega (arith, some, same)
    no_last (symbol ∷ word) k none some same = omega (arith, none)

pub distinct_behind : (xs ys : List ℕ) → AreDistinct (xs ++ ys) → AreDistinct ys
distinct_behind xs ys distinct i j d less within same =
    distinct (length xs + i) (length xs + j) d (omega (arith, less)) (omega (arith, within, length-append xs ys)) (get_or-append-add xs ys i d ∙ same ∙ sym (get_or-append-add xs ys j d))

pub ng_completion : (p : Problem) (near : ℕ → List ℕ) (prefix more among : List ℕ) → IsProblem p → IsLawfulWord p (prefix ++ more) → All (Contains among) (unserved_in p prefix)
    → (home : List ℕ) × (tours : List (List ℕ)) × IsNgRelaxed p near among (last_symbol prefix) (open_load p prefix) (load_of p (unserved_in p prefix)) home tours
    × (word_cost p prefix + relaxed_cost p (last_symbol prefix) home tours ≡ word_cost p (prefix ++ more))
ng_completion p near prefix more among problem lawful covered =
    let are : AreServed among (last_symbol prefix) more = record {
      within = all_served_behind (Contains among) p prefix more lawful covered;
      distinct = distinct_behind (served_in prefix) (served_in more) (subst AreDistinct (served_more prefix more) lawful.prefix.once);
      others = all_served_behind (λ stop. stop ≢ last_symbol prefix) p prefix more lawful (last_is_served p prefix);
    } in
    let made = by_symbols p (λ at load behind. AreServed among at behind → Completes p near among at load behind) (completes_by_symbol p near among) problem prefix more lawful are in (
      made.home,
      made.tours,
      subst (λ n. IsNgRelaxed p near among (last_symbol prefix) (open_load p prefix) n made.home made.tours) (sum_behind (demand_of p) p prefix more lawful) made.relaxed,
      ap (λ n. word_cost p prefix + n) made.costs ∙ sym (cost_behind p prefix more (last_symbol prefix) refl),
    )
