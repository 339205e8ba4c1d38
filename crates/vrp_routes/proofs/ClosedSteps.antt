-- The routes of one length, as its labels are closed one by one.
use Rattle.std.proofs.Common.{◌≡◌, ◌≢◌, ℕ, ◌+◌, ◌<◌, ◌≤◌, ◌==◌, if◌then◌else◌, Bool, true, inl, inr, None, Some, List, [], ◌∷◌, drop, length, get_or, set, sym, ap, subst, ◌∙◌, arith}
use Rattle.std.specs.Map.{lookup}
use Rattle.std.proofs.lemmas.Bool.{cases_Bool, cases_eq, cases_lt, eqb-true}
use Rattle.std.proofs.lemmas.Bool.Decides.{nat_tests}
use Rattle.std.proofs.lemmas.List.{append-nil, get_or-drop, get_or-set_other, get_or-set_same, get_or_append_left, get_or_default, get_or_push, length-drop, length-set, length_push}
use Rattle.std.proofs.lemmas.List.Elements.{Contains-get_or}
use Rattle.vrp_model.specs.Order.{ComesBefore, IsEarlier}
use Rattle.vrp_model.specs.Problem.{Problem}
use Rattle.vrp_model.specs.Route.{route_cost}
use Rattle.vrp_routes.specs.ClosedLevel.{AreClosedIn, HasPlaces, IsAdded, IsLeftOut, IsReplaced, TakesRoute, closed_at, no_closed, place_of, route_by}
use Rattle.vrp_model.specs.CustomerSet.{set_of}
use Rattle.vrp_model.proofs.Sets.{same_set}
use Rattle.vrp_routes.specs.Label.{IsLabel, SettingOf}
use Rattle.vrp_routes.specs.Level.{IsLevel}
use Rattle.vrp_routes.specs.Pool.{IsListed}
use Rattle.vrp_routes.specs.Useful.{BeginsUseful, IsUsefulIn}
use Rattle.vrp_routes.specs.declared.closed.ClosedLevel.{ClosedLevel}
use Rattle.vrp_routes.specs.declared.closed.ClosedRoute.{ClosedRoute}
use Rattle.vrp_routes.specs.declared.label.Label.{Label}
use Rattle.vrp_routes.proofs.Extensions.{some_same}
use Rattle.vrp_routes.proofs.Replaced.{no_better_route}
use Rattle.vrp_routes.specs.declared.plan_range.PlanRange.{PlanRange}

-- ---- a route more

-- the routes of the new list
added_before : (old new : ClosedLevel) (route : ClosedRoute) (i : ℕ) → IsAdded old route new → i < length old.routes.items → closed_at new i ≡ closed_at old i
added_before old new route i added lt = ap (λ (rs : List ClosedRoute). get_or rs i no_closed) added.routes ∙ get_or_append_left old.routes.items (route ∷ []) no_closed i lt

added_last : (old new : ClosedLevel) (route : ClosedRoute) → IsAdded old route new → closed_at new (length old.routes.items) ≡ route
added_last old new route added = ap (λ (rs : List ClosedRoute). get_or rs (length old.routes.items) no_closed) added.routes ∙ get_or_push old.routes.items route no_closed (length old.routes.items) (let same : length old.routes.items ≡ length old.routes.items = omega arith in same)

replaced_other : (old new : ClosedLevel) (route : ClosedRoute) (i : ℕ) → (taken : IsReplaced old route new) → i ≢ taken.at → closed_at new i ≡ closed_at old i
replaced_other old new route i taken other = ap (λ (rs : List ClosedRoute). get_or rs i no_closed) taken.routes ∙ get_or-set_other old.routes.items taken.at i route no_closed other

replaced_same : (old new : ClosedLevel) (route : ClosedRoute) → (taken : IsReplaced old route new) → taken.at < length old.routes.items → closed_at new taken.at ≡ route
replaced_same old new route taken lt = ap (λ (rs : List ClosedRoute). get_or rs taken.at no_closed) taken.routes ∙ get_or-set_same old.routes.items taken.at route no_closed lt

long_replaced : (old new : ClosedLevel) (route : ClosedRoute) → (taken : IsReplaced old route new) → length new.routes.items ≡ length old.routes.items
long_replaced old new route taken = ap length taken.routes ∙ length-set old.routes.items taken.at route

long_added : (old new : ClosedLevel) (route : ClosedRoute) → IsAdded old route new → length new.routes.items ≡ length old.routes.items + 1
long_added old new route added = ap length added.routes ∙ length_push old.routes.items route

pub keeps_places : (old new : ClosedLevel) (route : ClosedRoute) → HasPlaces old → TakesRoute old route new → HasPlaces new
keeps_places old new route has (inl left_out) = subst HasPlaces (sym left_out.same) has
keeps_places old new route has (inr (inl taken)) = λ set at is.
    let (within, of_set) = has set at (sym (taken.places set) ∙ is) in
    let (there, own) = has route.set taken.at taken.there in
    elim (cases_eq at taken.at) [
      | inl same ↦
          let set_is : route.set ≡ set = sym own ∙ ap (λ n. (closed_at old n).set) (sym same) ∙ of_set in
          (omega (arith, within, long_replaced old new route taken), ap (λ n. (closed_at new n).set) same ∙ ap (λ (r : ClosedRoute). r.set) (replaced_same old new route taken there) ∙ set_is)
      | inr other ↦ (omega (arith, within, long_replaced old new route taken), ap (λ (r : ClosedRoute). r.set) (replaced_other old new route at taken other) ∙ of_set)
    ]
keeps_places old new route has (inr (inr added)) = λ set at is.
    elim (cases_Bool (route.set == set)) [
      | inl same ↦
          let here : length old.routes.items ≡ at = some_same (length old.routes.items) at (sym (added.places set ∙ ap (λ b. if b then Some (length old.routes.items) else place_of old set) same) ∙ is) in
          (omega (arith, here, long_added old new route added), ap (λ n. (closed_at new n).set) (sym here) ∙ ap (λ (r : ClosedRoute). r.set) (added_last old new route added) ∙ eqb-true route.set set same)
      | inr other ↦
          let (within, of_set) = has set at (sym (added.places set ∙ ap (λ b. if b then Some (length old.routes.items) else place_of old set) other) ∙ is) in
          (omega (arith, within, long_added old new route added), ap (λ (r : ClosedRoute). r.set) (added_before old new route at added within) ∙ of_set)
    ]

pub no_places : (closed : ClosedLevel) → closed.by_set.entries ≡ [] → HasPlaces closed
no_places closed empty set at is = absurd (let none : place_of closed set ≡ None = ap (lookup (λ other. set == other)) empty in let never : None ≡ Some at = sym none ∙ is in cc)

-- ---- the routes of the labels so far

-- the route of a label that was closed, where labels are numbered from this one on
pub record IsOfLabel (p : Problem) (start : ℕ) (stops : List (List ℕ)) (at : ℕ) (route : ClosedRoute) : Type 0 where
  pub from : ℕ
  pub before : from < at
  pub label : route.label ≡ start + from
  pub listed : IsListed p (route_by stops route)

-- the route of this label stands here, in the place of its set
pub record StandsAt (start from : ℕ) (set : ℕ) (closed : ClosedLevel) : Type 0 where
  pub at : ℕ
  pub within : at < length closed.routes.items
  pub label : (closed_at closed at).label ≡ start + from
  pub there : place_of closed set ≡ Some at

-- of those labels whose sets pass the test
pub record ClosesSome (p : Problem) (range : PlanRange) (mine : ℕ → Bool) (start : ℕ) (stops : List (List ℕ)) (at : ℕ) (closed : ClosedLevel) : Type 0 where
  pub each : (i : ℕ) → i < length closed.routes.items → IsOfLabel p start stops at (closed_at closed i)
  pub every : (j : ℕ) → j < at → mine (set_of (get_or stops (start + j) [])) ≡ true → IsUsefulIn p range (get_or stops (start + j) []) → StandsAt start j (set_of (get_or stops (start + j) [])) closed

pub closes_none : (p : Problem) (range : PlanRange) (mine : ℕ → Bool) (start : ℕ) (stops : List (List ℕ)) (closed : ClosedLevel) → closed.routes.items ≡ [] → ClosesSome p range mine start stops 0 closed
closes_none p range mine start stops closed none = record {
  each = λ i lt. absurd (omega (arith, lt, ap length none));
  every = λ j lt own useful. absurd (omega (arith, lt));
}

later : (p : Problem) (start : ℕ) (stops : List (List ℕ)) (at : ℕ) (route : ClosedRoute) → IsOfLabel p start stops at route → IsOfLabel p start stops (at + 1) route
later p start stops at route is = record { from = is.from; before = omega (arith, is.before); label = is.label; listed = is.listed }

-- a label that is no useful route
pub closes_not : (p : Problem) (range : PlanRange) (mine : ℕ → Bool) (start : ℕ) (stops : List (List ℕ)) (at : ℕ) (closed : ClosedLevel) → ClosesSome p range mine start stops at closed → (mine (set_of (get_or stops (start + at) [])) ≡ true → IsUsefulIn p range (get_or stops (start + at) []) → ⊥) → ClosesSome p range mine start stops (at + 1) closed
closes_not p range mine start stops at closed some none = record {
  each = λ i lt. later p start stops at (closed_at closed i) (some.each i lt);
  every = λ j lt own useful. elim (cases_lt j at) [
    | inl less ↦ some.every j less own useful
    | inr here ↦
        let same : j ≡ at = omega (arith, here, lt) in
        absurd (none (subst (λ n. mine (set_of (get_or stops (start + n) [])) ≡ true) same own) (subst (λ n. IsUsefulIn p range (get_or stops (start + n) [])) same useful))
  ];
}

-- of two routes with one set the one that comes before isn't the rival of a useful one
no_route_rival : (p : Problem) (range : PlanRange) (stops : List (List ℕ)) (one other : ClosedRoute) (i j : ℕ) → IsListed p (route_by stops one) → IsListed p (route_by stops other) → one.label ≡ i → other.label ≡ j
    → one.set ≡ other.set → IsUsefulIn p range (get_or stops j []) → ComesBefore one.cost (get_or stops i []) other.cost (get_or stops j []) → ⊥
no_route_rival p range stops one other i j is also one_is other_is same useful before =
    let xs = get_or stops one.label [] in
    let ys = get_or stops other.label [] in
    let sets : set_of ys ≡ set_of xs = sym also.set ∙ sym same ∙ is.set in
    let there : get_or stops i [] ≡ xs = ap (λ n. get_or stops n []) (sym one_is) in
    let here : get_or stops j [] ≡ ys = ap (λ n. get_or stops n []) (sym other_is) in
    no_better_route p range ys xs (subst (IsUsefulIn p range) here useful) (same_set ys xs also.begins.once is.begins.once sets)
    (subst (λ n. ComesBefore (route_cost p xs) xs n ys) also.cost
    (subst (λ n. ComesBefore n xs other.cost ys) is.cost
    (subst (λ (zs : List ℕ). ComesBefore one.cost zs other.cost ys) there
    (subst (λ (zs : List ℕ). ComesBefore one.cost (get_or stops i []) other.cost zs) here before))))

-- the route of the next label was offered
pub record ClosesOne (p : Problem) (start : ℕ) (stops : List (List ℕ)) (at : ℕ) (route : ClosedRoute) : Type 0 where
  pub listed : IsListed p (route_by stops route)
  pub label : route.label ≡ start + at
  pub rises : (j : ℕ) → j < at → IsEarlier (get_or stops (start + j) []) (get_or stops (start + at) [])

own_set : (p : Problem) (start : ℕ) (stops : List (List ℕ)) (at : ℕ) (route : ClosedRoute) → ClosesOne p start stops at route → route.set ≡ set_of (get_or stops (start + at) [])
own_set p start stops at route one = one.listed.set ∙ ap (λ n. set_of (get_or stops n [])) one.label

mine_of : (p : Problem) (start : ℕ) (stops : List (List ℕ)) (at : ℕ) (route : ClosedRoute) → ClosesOne p start stops at route → IsOfLabel p start stops (at + 1) route
mine_of p start stops at route one = record { from = at; before = omega arith; label = one.label; listed = one.listed }

left_out_route : (p : Problem) (range : PlanRange) (mine : ℕ → Bool) (start : ℕ) (stops : List (List ℕ)) (at : ℕ) (old new : ClosedLevel) (route : ClosedRoute) → ClosesSome p range mine start stops at old → HasPlaces old → ClosesOne p start stops at route → IsLeftOut old route new → ClosesSome p range mine start stops (at + 1) new
left_out_route p range mine start stops at old new route some has one left_out =
    subst (ClosesSome p range mine start stops (at + 1)) (sym left_out.same) (closes_not p range mine start stops at old some (λ own useful.
    let (within, of_set) = has route.set left_out.at left_out.there in
    let other = some.each left_out.at within in
    let earlier = one.rises other.from other.before in
    no_route_rival p range stops (closed_at old left_out.at) route (start + other.from) (start + at) other.listed one.listed other.label one.label of_set useful
    (elim (cases_lt (closed_at old left_out.at).cost route.cost) [
      | inl less ↦ inl less
      | inr more ↦ inr (omega (arith, left_out.no_costlier, more), earlier)
    ])))

replaced_route : (p : Problem) (range : PlanRange) (mine : ℕ → Bool) (start : ℕ) (stops : List (List ℕ)) (at : ℕ) (old new : ClosedLevel) (route : ClosedRoute) → ClosesSome p range mine start stops at old → HasPlaces old → ClosesOne p start stops at route → IsReplaced old route new → ClosesSome p range mine start stops (at + 1) new
replaced_route p range mine start stops at old new route some has one taken = record {
  each = λ i lt. elim (cases_eq i taken.at) [
    | inl same ↦ subst (IsOfLabel p start stops (at + 1)) (sym (ap (closed_at new) same ∙ replaced_same old new route taken there)) (mine_of p start stops at route one)
    | inr other ↦ subst (IsOfLabel p start stops (at + 1)) (sym (replaced_other old new route i taken other)) (later p start stops at (closed_at old i) (some.each i (omega (arith, lt, long))))
  ];
  every = λ j lt own useful. elim (cases_lt j at) [
    | inl less ↦
        let stands = some.every j less own useful in
        elim (cases_eq stands.at taken.at) [
          | inl same ↦ absurd (
              let other = some.each taken.at there in
              let labelled : (closed_at old taken.at).label ≡ start + j = ap (λ n. (closed_at old n).label) (sym same) ∙ stands.label in
              no_route_rival p range stops route (closed_at old taken.at) (start + at) (start + j) one.listed other.listed one.label labelled (sym of_set) useful (inl taken.cheaper))
          | inr other ↦ record {
            at = stands.at;
            within = omega (arith, stands.within, long);
            label = ap (λ (r : ClosedRoute). r.label) (replaced_other old new route stands.at taken other) ∙ stands.label;
            there = taken.places (set_of (get_or stops (start + j) [])) ∙ stands.there;
          }
        ]
    | inr here ↦
        let same : at ≡ j = omega (arith, here, lt) in
        subst (λ n. StandsAt start n (set_of (get_or stops (start + n) [])) new) same (record {
          at = taken.at;
          within = omega (arith, there, long);
          label = ap (λ (r : ClosedRoute). r.label) (replaced_same old new route taken there) ∙ one.label;
          there = ap (place_of new) (sym (own_set p start stops at route one)) ∙ taken.places route.set ∙ taken.there;
        })
  ];
}
  where
    there : taken.at < length old.routes.items
    there = (has route.set taken.at taken.there).0

    of_set : (closed_at old taken.at).set ≡ route.set
    of_set = (has route.set taken.at taken.there).1

    long : length new.routes.items ≡ length old.routes.items
    long = long_replaced old new route taken

added_route : (p : Problem) (range : PlanRange) (mine : ℕ → Bool) (start : ℕ) (stops : List (List ℕ)) (at : ℕ) (old new : ClosedLevel) (route : ClosedRoute) → ClosesSome p range mine start stops at old → ClosesOne p start stops at route → IsAdded old route new → ClosesSome p range mine start stops (at + 1) new
added_route p range mine start stops at old new route some one added = record {
  each = λ i lt. elim (cases_lt i (length old.routes.items)) [
    | inl first ↦ subst (IsOfLabel p start stops (at + 1)) (sym (added_before old new route i added first)) (later p start stops at (closed_at old i) (some.each i first))
    | inr last ↦
        let end : i ≡ length old.routes.items = omega (arith, last, lt, long) in
        subst (IsOfLabel p start stops (at + 1)) (sym (ap (closed_at new) end ∙ added_last old new route added)) (mine_of p start stops at route one)
  ];
  every = λ j lt own useful. elim (cases_lt j at) [
    | inl less ↦
        let stands = some.every j less own useful in
        let set = set_of (get_or stops (start + j) []) in
        record {
          at = stands.at;
          within = omega (arith, stands.within, long);
          label = ap (λ (r : ClosedRoute). r.label) (added_before old new route stands.at added stands.within) ∙ stands.label;
          there = elim (cases_Bool (route.set == set)) [
            | inl same ↦ absurd (let never : None ≡ Some stands.at = sym added.absent ∙ ap (place_of old) (eqb-true route.set set same) ∙ stands.there in cc)
            | inr other ↦ added.places set ∙ ap (λ b. if b then Some (length old.routes.items) else place_of old set) other ∙ stands.there
          ];
        }
    | inr here ↦
        let same : at ≡ j = omega (arith, here, lt) in
        subst (λ n. StandsAt start n (set_of (get_or stops (start + n) [])) new) same (record {
          at = length old.routes.items;
          within = omega (arith, long);
          label = ap (λ (r : ClosedRoute). r.label) (added_last old new route added) ∙ one.label;
          there = ap (place_of new) (sym (own_set p start stops at route one)) ∙ added.places route.set ∙ ap (λ b. if b then Some (length old.routes.items) else place_of old route.set) (itself route.set);
        })
  ];
}
  where
    long : length new.routes.items ≡ length old.routes.items + 1
    long = long_added old new route added

    itself : (n : ℕ) → (n == n) ≡ true
    itself n = grind (arith, nat_tests)

pub closes_one : (p : Problem) (range : PlanRange) (mine : ℕ → Bool) (start : ℕ) (stops : List (List ℕ)) (at : ℕ) (old new : ClosedLevel) (route : ClosedRoute) → ClosesSome p range mine start stops at old → HasPlaces old → ClosesOne p start stops at route → TakesRoute old route new → ClosesSome p range mine start stops (at + 1) new
closes_one p range mine start stops at old new route some has one (inl left_out) = left_out_route p range mine start stops at old new route some has one left_out
closes_one p range mine start stops at old new route some has one (inr (inl taken)) = replaced_route p range mine start stops at old new route some has one taken
closes_one p range mine start stops at old new route some has one (inr (inr added)) = added_route p range mine start stops at old new route some one added

-- ---- a label's route

pub some_stops : (k : ℕ) (xs : List ℕ) → length xs ≡ k → 1 ≤ k → xs ≢ []
some_stops k xs long some none = let short = ap length none in omega (arith, short, long, some)

pub label_stops : (start : ℕ) (stops : List (List ℕ)) (at : ℕ) → get_or (drop start stops) at [] ≡ get_or stops (start + at) []
label_stops start stops at = get_or-drop start stops at []

pub route_of_label : {X : Type 0} (s : SettingOf X) (k start : ℕ) (stops : List (List ℕ)) (labels : List (Label X)) (at : ℕ) (label : Label X) (cost : ℕ) → IsLevel s k (drop start stops) labels → 1 ≤ k → at < length labels
    → IsLabel s (get_or (drop start stops) at []) label → cost ≡ route_cost s.problem (get_or (drop start stops) at [])
    → ClosesOne s.problem start stops at (record { set = label.set; load = label.load; cost = cost; label = start + at })
route_of_label s k start stops labels at label cost level some lt is cost_is =
    let mine = drop start stops in
    let xs = get_or stops (start + at) [] in
    let there : get_or mine at [] ≡ xs = label_stops start stops at in
    let within : at < length mine = omega (arith, lt, level.are.long) in
    let own = subst (λ (ys : List ℕ). IsLabel s ys label) there is in
    record {
      listed = record {
        begins = own.begins;
        some = some_stops k xs (subst (λ (ys : List ℕ). length ys ≡ k) there (level.are.size at [] within)) some;
        set = own.set;
        load = own.load;
        cost = cost_is ∙ ap (route_cost s.problem) there;
      };
      label = let same : start + at ≡ start + at = omega arith in same;
      rises = λ j less. subst (λ (ys : List ℕ). IsEarlier ys xs) (label_stops start stops j) (subst (IsEarlier (get_or mine j [])) there (level.are.rising j at [] less within));
    }

pub closes_all : {X : Type 0} (s : SettingOf X) (mine : ℕ → Bool) (k start : ℕ) (stops : List (List ℕ)) (labels : List (Label X)) (at : ℕ) (closed : ClosedLevel) → IsLevel s k (drop start stops) labels → at ≡ length labels → ClosesSome s.problem s.range mine start stops at closed → AreClosedIn s.problem s.range k mine stops closed.routes.items
closes_all s mine k start stops labels at closed level all some =
    let count = level.are.long in
    record {
      each = λ i d lt.
          let is = some.each i lt in
          let route = closed_at closed i in
          subst (λ (r : ClosedRoute). IsListed s.problem (route_by stops r) × (r.label < length stops)) (get_or_default closed.routes.items i no_closed d lt)
          (is.listed, omega (arith, is.label, is.before, all, count, length-drop start stops));
      every = λ xs long own useful.
          let begins : BeginsUseful s.problem s.range xs = ([], subst (IsUsefulIn s.problem s.range) (sym (append-nil xs)) useful) in
          let (j, within, is) = level.every xs long begins in
          let there : get_or stops (start + j) [] ≡ xs = sym (label_stops start stops j) ∙ get_or_default (drop start stops) j [] xs within ∙ is in
          let stands = some.every j (omega (arith, within, count, all)) (subst (λ (ys : List ℕ). mine (set_of ys) ≡ true) (sym there) own) (subst (IsUsefulIn s.problem s.range) (sym there) useful) in
          (closed_at closed stands.at, Contains-get_or closed.routes.items stands.at no_closed stands.within, ap (λ n. get_or stops n []) stands.label ∙ there);
    }
