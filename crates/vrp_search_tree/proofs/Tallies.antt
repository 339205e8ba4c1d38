-- A tally with one more symbol, and what is kept beside a word when a symbol is added or taken off.
use Rattle.std.proofs.Common.{◌≡◌, ℕ, ◌+◌, ◌-◌, ◌*◌, ◌≤◌, ◌<◌, Bool, true, false, List, [], ◌∷◌, ◌++◌, length, length-append, take, refl, sym, ap, subst, ◌∙◌, inl, inr, arith}
use Rattle.std.specs.List.{Contains}
use Rattle.std.specs.Prelude.{slice_index, slice_index_or, slice_set, ◌↔◌}
use Rattle.std.proofs.Math.ListN.{get_or-append}
use Rattle.std.proofs.Math.Seq.{get_or-append_seam, take-append_seam}
use Rattle.std.proofs.lemmas.Bool.{cases_lt}
use Rattle.std.proofs.lemmas.List.{get_or_default, get_or-set_same, get_or-set_other, length-set, take-append-le}
use Rattle.vrp_model.specs.declared.limits.TheConstants.{MAX_ARCS}
use Rattle.vrp_model.specs.Problem.{HasTrucks, IsProblem, IsSymmetric, Problem, customers, demand_of, place_count, weight_of}
use Rattle.vrp_model.specs.Prefix.{open_load}
use Rattle.vrp_model.specs.Route.{load_of}
use Rattle.vrp_model.specs.Word.{IsPrefix, IsLawfulWord, IsOpen, MakesChild, last_route, routes_of, last_symbol, served_in, stands_in, unserved_in, word_cost}
use Rattle.vrp_model.proofs.Words.{last_is}
use Rattle.vrp_model.proofs.CustomerPlaces.{is_customer, load_with}
use Rattle.vrp_model.proofs.PrefixWithSymbol.{closed_is_open, closed_runs_forward, routes_at_depot, served_at_depot, served_with, unserved_if_added}
use Rattle.vrp_model.proofs.ChildCases.{cases_of_child}
use Rattle.vrp_model.proofs.WithoutCompletion.{open_route_ends}
use Rattle.vrp_model.proofs.PrefixPlaces.{symbol_is_place}
use Rattle.vrp_model.proofs.PrefixesBefore.{prefixes_before}
use Rattle.vrp_model.proofs.PlanWords.{cost_parts}
use Rattle.vrp_model.proofs.DistinctLists.{customers_distinct}
use Rattle.vrp_model.proofs.UnservedCustomers.{all_unserved, nat_same, stands_in-append, stands_last, sum_of_unserved, unserved_at_depot, unserved_if_not_standing, unserved_stands_not}
use Rattle.vrp_search_tree.specs.Inner.Tallied.{AreBefore, AreFlags, AreTallied}
use Rattle.vrp_search_tree.specs.Tally.{IsGreatestUnserved, IsTally}
use Rattle.vrp_search_tree.specs.declared.tally.Tally.{Tally}
use Rattle.vrp_bound.specs.Capacity.{IsInboundSumOf}
use Rattle.vrp_model.specs.LeastArc.{IsLeastIn}
use Rattle.vrp_search_tree.proofs.GreatestUnserved.{greatest_at_depot, greatest_of_all}
use Rattle.vrp_search_tree.proofs.ArcsIn.{inbound_sum_at_depot, inbound_sum_with}
use Rattle.vrp_model.proofs.DistinctWithin.{all_among, length_among}
use Rattle.vrp_search_tree.proofs.PrefixLength.{prefixes_are_short, length_customers, served_are_few}
use Rattle.vrp_model.proofs.LastRoute.{routes_with, last_route_closed, last_route_with, last_symbol_with, load_at_customer, load_at_depot}

pub cost_with : (p : Problem) (word : List ℕ) (k : ℕ) → word_cost p (word ++ k ∷ []) ≡ word_cost p word + weight_of p (last_symbol word) k
cost_with p word k = let parts = cost_parts p 0 word (k ∷ []) in rw (last_is word) (omega (arith, parts))

-- the empty word
pub tally_of_nothing : (p : Problem) (rest inbound_sum unserved : ℕ) → rest ≡ load_of p (customers p) → IsInboundSumOf p [] inbound_sum → inbound_sum ≤ MAX_ARCS → unserved + 1 ≡ place_count p
    → IsTally p [] (record { cost = 0; load = 0; rest = rest; inbound_sum = inbound_sum; first_customer = 0; unserved = unserved; greatest = unserved; routes = 0 })
tally_of_nothing p rest inbound_sum unserved whole is_inbound_sum few all = record {
  cost = refl;
  small = omega arith;
  load = refl;
  light = omega arith;
  rest = whole ∙ ap (load_of p) (sym (all_unserved p));
  inbound_sum = is_inbound_sum;
  small_inbound_sum = few;
  first_customer = refl;
  unserved = omega (arith, all);
  greatest = greatest_of_all p unserved all;
  routes = refl;
}

-- the depot
pub tally_at_depot : (p : Problem) (word : List ℕ) (t : Tally) (cost : ℕ) → IsProblem p → IsPrefix p word → IsOpen word → IsTally p word t → cost ≡ t.cost + weight_of p (last_symbol word) 0
    → IsTally p (word ++ 0 ∷ []) (record { cost = cost; load = 0; rest = t.rest; inbound_sum = t.inbound_sum; first_customer = t.first_customer; unserved = t.unserved; greatest = t.greatest; routes = t.routes })
tally_at_depot p word t cost problem prefix is_open tally is =
    let long : length (word ++ 0 ∷ []) ≡ length word + 1 = length-append word (0 ∷ []) in
    let weight = problem.small_weights (last_symbol word * place_count p + 0) in
    record {
      cost = omega (arith, cost_with p word 0, tally.cost, is);
      small = omega (arith, tally.small, is, weight, long);
      load = sym (load_at_depot p (word ++ 0 ∷ []) (last_symbol_with word 0));
      light = omega arith;
      rest = tally.rest ∙ ap (load_of p) (sym (unserved_at_depot p word));
      inbound_sum = inbound_sum_at_depot p word t.inbound_sum tally.inbound_sum;
      small_inbound_sum = tally.small_inbound_sum;
      first_customer = tally.first_customer ∙ ap (λ (r : List ℕ). slice_index r 0) (sym (last_route_closed word prefix.stops is_open));
      unserved = rw (served_at_depot word) tally.unserved;
      greatest = greatest_at_depot p word t.greatest tally.greatest;
      routes = tally.routes ∙ ap length (sym (routes_at_depot word prefix.stops is_open));
    }

-- what of a customer is known before it is added
pub record Added (p : Problem) (word : List ℕ) (k : ℕ) (t : Tally) : Type 0 where
  pub fits : t.load + demand_of p k ≤ p.capacity
  pub left : demand_of p k ≤ t.rest
  pub some_left : 1 ≤ t.unserved
  pub load : t.load + demand_of p k ≡ load_of p (last_route (word ++ k ∷ []))

-- what the open route carries then, where it carries so much before
pub load_of_added : (p : Problem) (word : List ℕ) (k load : ℕ) → IsProblem p → IsPrefix p word → 0 < k → MakesChild p word k → load ≡ open_load p word
    → (load + demand_of p k ≤ p.capacity) × (load + demand_of p k ≡ load_of p (last_route (word ++ k ∷ [])))
load_of_added p word k load problem prefix some made is =
    let with_stop = last_route_with word k prefix.stops some in
    elim made [
      | inl depot ↦ absurd (omega (arith, depot.0, some))
      | inr (inl inside) ↦
          let before : load ≡ load_of p (last_route word) = is ∙ load_at_customer p word inside.1 in
          let more : load_of p (last_route (word ++ k ∷ [])) ≡ load_of p (last_route word) + demand_of p k = ap (load_of p) (with_stop.grows inside.1) ∙ load_with p (last_route word) k in
          (omega (arith, before, inside.2), omega (arith, before, more))
      | inr (inr behind) ↦
          let before : load ≡ 0 = is ∙ load_at_depot p word behind.1 in
          let one : load_of p (k ∷ []) ≡ demand_of p k = omega arith in
          let more : load_of p (last_route (word ++ k ∷ [])) ≡ demand_of p k = ap (load_of p) (with_stop.starts behind.1) ∙ one in
          (omega (arith, before, problem.fitting_demands k), omega (arith, before, more))
    ]

pub added : (p : Problem) (word : List ℕ) (k : ℕ) (t : Tally) → IsProblem p → IsPrefix p word → 0 < k → IsPrefix p (word ++ k ∷ []) → IsTally p word t → Added p word k t
added p word k t problem prefix some after tally =
    let loads = load_of_added p word k t.load problem prefix some ((cases_of_child p word k problem prefix).0 after) tally.load in
    let served : load_of p (served_in (word ++ k ∷ [])) ≡ load_of p (served_in word) + demand_of p k = ap (load_of p) (served_with word k some) ∙ load_with p (served_in word) k in
    let long : length (served_in (word ++ k ∷ [])) ≡ length (served_in word) + 1 = ap length (served_with word k some) ∙ length-append (served_in word) (k ∷ []) in
    record {
      fits = loads.0;
      left = omega (arith, sum_of_unserved (demand_of p) p (word ++ k ∷ []) after, sum_of_unserved (demand_of p) p word prefix, served, tally.rest);
      some_left = omega (arith, served_are_few p (word ++ k ∷ []) problem after, long, tally.unserved);
      load = loads.1;
    }

-- a customer
pub tally_at_customer : (p : Problem) (word : List ℕ) (k least : ℕ) (t new : Tally) → IsLeastIn p k least → new.inbound_sum ≡ t.inbound_sum - least → IsProblem p → IsPrefix p word → 0 < k → IsPrefix p (word ++ k ∷ []) → IsTally p word t
    → new.cost ≡ t.cost + weight_of p (last_symbol word) k → new.load ≡ t.load + demand_of p k → new.rest ≡ t.rest - demand_of p k
    → (last_symbol word ≡ 0 → new.first_customer ≡ k) → (0 < last_symbol word → new.first_customer ≡ t.first_customer) → new.unserved ≡ t.unserved - 1 → IsGreatestUnserved p (word ++ k ∷ []) new.greatest
    → (last_symbol word ≡ 0 → new.routes ≡ t.routes + 1) → (0 < last_symbol word → new.routes ≡ t.routes)
    → IsTally p (word ++ k ∷ []) new
tally_at_customer p word k least t new is_least inbound_sum problem prefix some after tally cost load rest starts continues unserved greatest one_more stays =
    let routes = routes_with word k prefix.stops some in
    let arcs = inbound_sum_with p word k t.inbound_sum least some prefix after tally.inbound_sum is_least in
    let facts = added p word k t problem prefix some after tally in
    let with_stop = last_route_with word k prefix.stops some in
    let long : length (word ++ k ∷ []) ≡ length word + 1 = length-append word (k ∷ []) in
    let weight = problem.small_weights (last_symbol word * place_count p + k) in
    let is_open : 0 < last_symbol (word ++ k ∷ []) = rw (last_symbol_with word k) some in
    let served : load_of p (served_in (word ++ k ∷ [])) ≡ load_of p (served_in word) + demand_of p k = ap (load_of p) (served_with word k some) ∙ load_with p (served_in word) k in
    let count : length (served_in (word ++ k ∷ [])) ≡ length (served_in word) + 1 = ap length (served_with word k some) ∙ length-append (served_in word) (k ∷ []) in
    record {
      cost = omega (arith, cost_with p word k, tally.cost, cost);
      small = omega (arith, tally.small, cost, weight, long);
      load = load ∙ facts.load ∙ sym (load_at_customer p (word ++ k ∷ []) is_open);
      light = omega (arith, load, facts.fits);
      rest = omega (arith, rest, facts.left, served, tally.rest, sum_of_unserved (demand_of p) p (word ++ k ∷ []) after, sum_of_unserved (demand_of p) p word prefix);
      inbound_sum = subst (IsInboundSumOf p (word ++ k ∷ [])) (sym inbound_sum) arcs.is;
      small_inbound_sum = omega (arith, inbound_sum, tally.small_inbound_sum);
      first_customer = elim (cases_lt 0 (last_symbol word)) [
        | inl inside ↦ continues inside ∙ tally.first_customer ∙ sym (with_stop.first inside)
        | inr behind ↦ let at_depot : last_symbol word ≡ 0 = omega (arith, behind) in starts at_depot ∙ ap (λ (r : List ℕ). slice_index r 0) (sym (with_stop.starts at_depot))
      ];
      unserved = omega (arith, unserved, facts.some_left, count, tally.unserved);
      greatest = greatest;
      routes = elim (cases_lt 0 (last_symbol word)) [
        | inl inside ↦ omega (arith, stays inside, tally.routes, routes.stays inside)
        | inr behind ↦ (let at_depot : last_symbol word ≡ 0 = omega (arith, behind) in omega (arith, one_more at_depot, tally.routes, routes.starts at_depot))
      ];
    }

-- ---- flags

pub flags_pushed : (p : Problem) (word : List ℕ) (k : ℕ) (flags : List Bool) → length flags ≡ place_count p → k < place_count p → AreFlags p word flags → AreFlags p (word ++ k ∷ []) (slice_set flags k true)
flags_pushed p word k flags long within are = λ j some below.
    elim (nat_same j k) [
      | inl same ↦ rw same (get_or-set_same flags k true false (omega (arith, long, within)) ∙ sym (stands_last word k))
      | inr differs ↦ get_or-set_other flags k j true false differs ∙ are j some below ∙ sym (stands_in-append word k j differs)
    ]

pub flags_popped : (p : Problem) (word : List ℕ) (k : ℕ) (flags : List Bool) → length flags ≡ place_count p → k < place_count p → IsPrefix p (word ++ k ∷ []) → AreFlags p (word ++ k ∷ []) flags → AreFlags p word (slice_set flags k false)
flags_popped p word k flags long within prefix are = λ j some below.
    elim (nat_same j k) [
      | inl same ↦ rw same (get_or-set_same flags k false false (omega (arith, long, within)) ∙ sym (unserved_stands_not p word k (unserved_if_added p word k (omega (arith, some, same)) prefix)))
      | inr differs ↦ get_or-set_other flags k j false false differs ∙ are j some below ∙ stands_in-append word k j differs
    ]

-- ---- one more symbol, and one less

before_pushed : (p : Problem) (word : List ℕ) (k : ℕ) (before : List Tally) (tally : Tally) → length before ≡ length word → AreBefore p word before → IsTally p word tally → AreBefore p (word ++ k ∷ []) (before ++ tally ∷ [])
before_pushed p word k before tally long are now = λ i other lt.
    elim (cases_lt i (length word)) [
      | inl within ↦
          let symbols : take i (word ++ k ∷ []) ≡ take i word = take-append-le i word (k ∷ []) (omega (arith, within)) in
          let here : slice_index_or (before ++ tally ∷ []) i other ≡ slice_index_or before i other = get_or-append before (tally ∷ []) other i (omega (arith, within, long)) in
          subst (λ (w : List ℕ). IsTally p w (slice_index_or (before ++ tally ∷ []) i other)) (sym symbols) (subst (IsTally p (take i word)) (sym here) (are i other within))
      | inr last ↦
          let place : i ≡ length before = omega (arith, last, lt, long, length-append word (k ∷ [])) in
          let symbols : take i (word ++ k ∷ []) ≡ word = ap (λ n. take n (word ++ k ∷ [])) (place ∙ long) ∙ take-append_seam word (k ∷ []) in
          let here : slice_index_or (before ++ tally ∷ []) i other ≡ tally = ap (λ n. slice_index_or (before ++ tally ∷ []) n other) place ∙ get_or-append_seam before tally [] other in
          subst (λ (w : List ℕ). IsTally p w (slice_index_or (before ++ tally ∷ []) i other)) (sym symbols) (subst (IsTally p word) (sym here) now)
    ]

before_popped : (p : Problem) (word : List ℕ) (k : ℕ) (before : List Tally) (tally : Tally) → length before ≡ length word → AreBefore p (word ++ k ∷ []) (before ++ tally ∷ []) → AreBefore p word before × IsTally p word tally
before_popped p word k before tally long are = (
  λ i other lt.
      let symbols : take i (word ++ k ∷ []) ≡ take i word = take-append-le i word (k ∷ []) (omega (arith, lt)) in
      let here : slice_index_or (before ++ tally ∷ []) i other ≡ slice_index_or before i other = get_or-append before (tally ∷ []) other i (omega (arith, lt, long)) in
      subst (λ (w : List ℕ). IsTally p w (slice_index_or before i other)) symbols (subst (IsTally p (take i (word ++ k ∷ []))) here (are i other (omega (arith, lt, length-append word (k ∷ []))))),
  (
      let symbols : take (length word) (word ++ k ∷ []) ≡ word = take-append_seam word (k ∷ []) in
      let here : slice_index_or (before ++ tally ∷ []) (length word) tally ≡ tally = ap (λ n. slice_index_or (before ++ tally ∷ []) n tally) (sym long) ∙ get_or-append_seam before tally [] tally in
      subst (λ (w : List ℕ). IsTally p w tally) symbols (subst (IsTally p (take (length word) (word ++ k ∷ []))) here (are (length word) tally (omega (arith, length-append word (k ∷ [])))))
      ),
)

pub pushed : (p : Problem) (word : List ℕ) (k : ℕ) (served : List Bool) (before : List Tally) (tally new : Tally) → AreTallied p word served before tally → IsPrefix p (word ++ k ∷ []) → IsTally p (word ++ k ∷ []) new
    → AreTallied p (word ++ k ∷ []) (slice_set served k true) (before ++ tally ∷ []) new
pushed p word k served before tally new are prefix now =
    record {
      problem = are.problem;
      prefix = prefix;
      one_flag_each = length-set served k true ∙ are.one_flag_each;
      flags = flags_pushed p word k served are.one_flag_each (symbol_is_place p word k are.problem prefix) are.flags;
      one_before_each = omega (arith, are.one_before_each, length-append word (k ∷ []), length-append before (tally ∷ []));
      kept = before_pushed p word k before tally are.one_before_each are.kept are.now;
      now = now;
    }

pub popped : (p : Problem) (word : List ℕ) (k : ℕ) (served : List Bool) (before : List Tally) (tally old : Tally) → AreTallied p (word ++ k ∷ []) served (before ++ tally ∷ []) old
    → AreTallied p word (slice_set served k false) before tally
popped p word k served before tally old are =
    let long : length before ≡ length word = omega (arith, are.one_before_each, length-append word (k ∷ []), length-append before (tally ∷ [])) in
    let back = before_popped p word k before tally long are.kept in
    record {
      problem = are.problem;
      prefix = prefixes_before p word (k ∷ []) are.prefix;
      one_flag_each = length-set served k false ∙ are.one_flag_each;
      flags = flags_popped p word k served are.one_flag_each (symbol_is_place p word k are.problem are.prefix) are.prefix are.flags;
      one_before_each = long;
      kept = back.0;
      now = back.1;
    }

-- ---- children

-- the depot, where the tally tells that the open route runs forward
pub depot_child : (p : Problem) (word : List ℕ) (t : Tally) → IsProblem p → IsPrefix p word → IsTally p word t → ((0 < last_symbol word) × (IsSymmetric p → t.first_customer ≤ last_symbol word)) ↔ IsPrefix p (word ++ 0 ∷ [])
depot_child p word t problem prefix tally = (
  λ (is_open, forward). (cases_of_child p word 0 problem prefix).1 (inl (refl, is_open, λ symmetric. omega (arith, forward symmetric, tally.first_customer, open_route_ends p word prefix is_open))),
  λ after.
      let is_open = closed_is_open p word after in
      (is_open, λ symmetric. omega (arith, closed_runs_forward p word after symmetric, tally.first_customer, open_route_ends p word prefix is_open)),
)

pub no_served_child : (p : Problem) (word : List ℕ) (k : ℕ) (served : List Bool) (before : List Tally) (t : Tally) → AreTallied p word served before t → 0 < k → k < place_count p → slice_index_or served k true ≡ true → IsPrefix p (word ++ k ∷ []) → ⊥
no_served_child p word k served before t are some below is_served after =
    let none : stands_in word k ≡ false = unserved_stands_not p word k (unserved_if_added p word k some after) in
    let never : true ≡ false = sym is_served ∙ get_or_default served k true false (omega (arith, below, are.one_flag_each)) ∙ are.flags k some below ∙ none in
    absurd (cc)

unserved : (p : Problem) (word : List ℕ) (k : ℕ) (served : List Bool) → AreFlags p word served → 0 < k → k < place_count p → slice_index_or served k false ≡ false → Contains (unserved_in p word) k
unserved p word k served flags some below isnt_served = unserved_if_not_standing p word k (is_customer p k some below) (sym (flags k some below) ∙ isnt_served)

pub first_child : (p : Problem) (word : List ℕ) (k : ℕ) (served : List Bool) (before : List Tally) (t : Tally) → AreTallied p word served before t → 0 < k → k < place_count p → slice_index_or served k false ≡ false → last_symbol word ≡ 0
    → ((t.first_customer < k) × HasTrucks p (length (routes_of word) + 1)) ↔ IsPrefix p (word ++ k ∷ [])
first_child p word k served before t are some below isnt_served at_depot = (
  λ (above, trucks). (cases_of_child p word k are.problem are.prefix).1 (inr (inr (unserved p word k served are.flags some below isnt_served, at_depot, omega (arith, above, are.now.first_customer), trucks))),
  λ after. elim ((cases_of_child p word k are.problem are.prefix).0 after) [
    | inl depot ↦ absurd (omega (arith, depot.0, some))
    | inr (inl inside) ↦ absurd (omega (arith, inside.1, at_depot))
    | inr (inr behind) ↦ (omega (arith, behind.2, are.now.first_customer), behind.3)
  ],
)

pub next_child : (p : Problem) (word : List ℕ) (k : ℕ) (served : List Bool) (before : List Tally) (t : Tally) → AreTallied p word served before t → 0 < k → k < place_count p → slice_index_or served k false ≡ false → 0 < last_symbol word
    → (t.load + demand_of p k ≤ p.capacity) ↔ IsPrefix p (word ++ k ∷ [])
next_child p word k served before t are some below isnt_served is_open =
    let load : t.load ≡ load_of p (last_route word) = are.now.load ∙ load_at_customer p word is_open in (
      λ fits. (cases_of_child p word k are.problem are.prefix).1 (inr (inl (unserved p word k served are.flags some below isnt_served, is_open, omega (arith, fits, load)))),
      λ after. elim ((cases_of_child p word k are.problem are.prefix).0 after) [
        | inl depot ↦ absurd (omega (arith, depot.0, some))
        | inr (inl inside) ↦ omega (arith, inside.2, load)
        | inr (inr behind) ↦ absurd (omega (arith, behind.1, is_open))
      ],
    )

-- ---- complete words

pub lawful_word : (p : Problem) (word : List ℕ) (served : List Bool) (before : List Tally) (t : Tally) → AreTallied p word served before t → t.unserved ≡ 0 → last_symbol word ≡ 0 → IsLawfulWord p word
lawful_word p word served before t are none at_depot =
    record {
      prefix = are.prefix;
      every = all_among (served_in word) (customers p) are.prefix.once are.prefix.known (omega (arith, none, are.now.unserved, length_customers p are.problem));
      closed = at_depot;
    }

pub none_unserved : (p : Problem) (word : List ℕ) (served : List Bool) (before : List Tally) (t : Tally) → AreTallied p word served before t → IsLawfulWord p word → t.unserved ≡ 0
none_unserved p word served before t are lawful =
    omega (arith, length_among (customers p) (served_in word) (customers_distinct p) lawful.every, are.now.unserved, length_customers p are.problem)

-- ---- room

pub room_left : (p : Problem) (word : List ℕ) (k : ℕ) → IsProblem p → IsPrefix p (word ++ k ∷ []) → length word + 3 ≤ 2 * place_count p
room_left p word k problem after = omega (arith, prefixes_are_short p (word ++ k ∷ []) problem after, length-append word (k ∷ []))

pub cost_fits : (p : Problem) (word : List ℕ) (k : ℕ) (t : Tally) → IsProblem p → IsPrefix p (word ++ k ∷ []) → IsTally p word t → t.cost ≤ 2400000000000
cost_fits p word k t problem after tally = omega (arith, room_left p word k problem after, problem.few_places, tally.small)
