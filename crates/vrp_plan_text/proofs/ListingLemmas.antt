-- What is kept of lines with one line more, and what is wrong with a line among all.
use Rattle.std.proofs.Common.{◌≡◌, ◌∙◌, ℕ, pos, suc, ◌+◌, ◌<◌, ◌≤◌, ◌==◌, not, Bool, Option, Some, None, Result, Ok, Err, List, [], ◌∷◌, ◌++◌, length, map, refl, sym, ap, subst, inl, inr, append-nil, arith}
use Rattle.std.specs.Prelude.{IfErr, OnOk, slice_get, filter}
use Rattle.std.specs.List.{All}
use Rattle.std.proofs.lemmas.Bool.{cases_Bool}
use Rattle.std.proofs.lemmas.List.{map-append}
use Rattle.std.proofs.lemmas.List.Elements.{All-append, All-cons, All-filter, All-nil, All-push, filter-append}
use Rattle.std.proofs.lemmas.Option.{get_or_from_slice_get, slice_get_within}
use Rattle.vrp_model.specs.Problem.{Problem}
use Rattle.vrp_plan_text.specs.Line.{Blank, Cost, Line, Number, Route, Unknown, line_of}
use Rattle.vrp_plan_text.specs.Solution.{AreCustomers, GivenRoute, HasBadNumber, HaveFault, IsFirstAtFault, IsRepeatedCost, IsSaid, ListRoutes, is_cost, is_route, line_of_route, with_stops}
use Rattle.vrp_plan_text.specs.Inner.Listing.{IsCostAdded, IsRouteAdded, IsStopFault, Keeps, cost_lines, fault_at, given_routes}
use Rattle.vrp_plan_text.specs.Inner.Read.{HasNoNumber, IsWrong, number_stated}
use Rattle.vrp_plan_text.specs.declared.reading.error.SolutionError.{SolutionError}
use Rattle.vrp_plan_text.specs.declared.reading.line.LineError.{LineError}
use Rattle.vrp_plan_text.specs.declared.reading.line.LineError.TheVariants as bad
use Rattle.vrp_plan_text.specs.declared.reading.line.StatedCost.{StatedCost}
use Rattle.vrp_plan_text.specs.declared.reading.line.StatedCost.TheVariants.{Whole, Fraction}
use Rattle.vrp_plan_text.specs.declared.reading.listing.ListedPlan.{ListedPlan}

-- ---- what is kept

-- what is kept stands among all
pub kept_stands : (p : Line → Bool) (lines rest : List Line) (line : Line) → filter p lines ≡ line ∷ rest → (k : ℕ) × (slice_get lines k ≡ Some line)
kept_stands p [] rest line kept = absurd (cc)
kept_stands p (x ∷ lines) rest line kept =
    elim (cases_Bool (p x)) [
      | inl passes ↦
          let same : x ∷ filter p lines ≡ line ∷ rest = rw passes at kept in
          let first : x ≡ line = cc in
          (0, ap Some first)
      | inr fails ↦
          let same : filter p lines ≡ line ∷ rest = rw fails at kept in
          let there = kept_stands p lines rest line same in
          (suc there.0, there.1)
    ]

few_costs : (cost : Option StatedCost) → length (cost_lines cost) ≤ 1
few_costs None = omega arith
few_costs (Some cost) = omega arith

-- the lines list what is kept of them
pub lists_kept : (p : Problem) (lines : List Line) (listing : ListedPlan) → Keeps p lines listing → ListRoutes p lines (given_routes listing.routes.items)
lists_kept p lines listing keeps = record {
  said = keeps.said;
  one_cost = omega (arith, ap length keeps.costs, few_costs listing.cost);
  given = keeps.given;
  listed = keeps.listed;
  with_stops = keeps.kept;
  customers = keeps.customers;
}

-- ---- what is wrong

-- the line behind those that are kept
first_here : (p : Problem) (before behind : List Line) (line : Line) (listing : ListedPlan) (number : ℕ) → Keeps p before listing → number ≡ length before + 1 → IsFirstAtFault p (before ++ line ∷ behind) number line
first_here p before behind line listing number keeps is = record {
  before = before;
  behind = behind;
  stands = refl;
  numbered = is;
  routes = given_routes listing.routes.items;
  sound = lists_kept p before listing keeps;
}

bad_number : (p : Problem) (line : Line) → HasNoNumber line → HasBadNumber p line
bad_number p Blank has = has
bad_number p (Route number stops) has = inl has
bad_number p (Cost cost) has = has
bad_number p Unknown has = has

pub wrong_line : (p : Problem) (before behind : List Line) (line : Line) (listing : ListedPlan) (number : ℕ) (wrong : LineError) → Keeps p before listing → number ≡ length before + 1 → IsWrong line wrong → HaveFault p (before ++ line ∷ behind) (fault_at number wrong)
wrong_line p before behind line listing number bad.Unknown keeps is has =
    subst (λ (l : Line). IsFirstAtFault p (before ++ l ∷ behind) number Unknown) (sym has) (first_here p before behind Unknown listing number keeps is)
wrong_line p before behind line listing number bad.BadNumber keeps is has = (line, first_here p before behind line listing number keeps is, bad_number p line has)

stated_is_said : (cost : StatedCost) → IsSaid (Cost (number_stated cost))
stated_is_said (Whole cost) = λ is. absurd (cc)
stated_is_said Fraction = λ is. absurd (cc)

pub repeated_cost : (p : Problem) (before behind : List Line) (line : Line) (listing : ListedPlan) (number : ℕ) (first cost : StatedCost) → Keeps p before listing → listing.cost ≡ Some first → line ≡ Cost (number_stated cost) → number ≡ length before + 1
    → IsRepeatedCost p (before ++ line ∷ behind) number
unfolding first_here
repeated_cost p before behind line listing number first cost keeps stated is numbered =
    let earlier = Cost (number_stated first) in
    let there = kept_stands is_cost before [] earlier (keeps.costs ∙ ap cost_lines stated) in
    subst (λ (l : Line). IsRepeatedCost p (before ++ l ∷ behind) number) (sym is)
    (record {
      cost = number_stated cost;
      first = first_here p before behind (Cost (number_stated cost)) listing number keeps numbered;
      said = stated_is_said cost;
      other = number_stated first;
      earlier = (there.0, slice_get_within before there.0 earlier there.1, get_or_from_slice_get before there.0 earlier earlier there.1);
    })

pub stop_fault : (p : Problem) (before behind : List Line) (line : Line) (listing : ListedPlan) (number route : ℕ) (stops : List Number) (fault : SolutionError) → Keeps p before listing → line ≡ Route (Ok (pos route)) stops → number ≡ length before + 1 → IsStopFault p number route stops fault
    → HaveFault p (before ++ line ∷ behind) fault
stop_fault p before behind line listing number route stops fault keeps is numbered (inl (named, wrong)) =
    let says = Route (Ok (pos route)) stops in
    subst (λ (l : Line). HaveFault p (before ++ l ∷ behind) fault) (sym is)
    (subst (HaveFault p (before ++ says ∷ behind)) (sym named) (says, first_here p before behind says listing number keeps numbered, inr wrong))
stop_fault p before behind line listing number route stops fault keeps is numbered (inr (stop, named, stands, none)) =
    let says = Route (Ok (pos route)) stops in
    subst (λ (l : Line). HaveFault p (before ++ l ∷ behind) fault) (sym is)
    (subst (HaveFault p (before ++ says ∷ behind)) (sym named)
    (record {
      line = number;
      stops = stops;
      first = first_here p before behind says listing number keeps numbered;
      stands = stands;
      none = none;
    }))

-- ---- one line more

pub keep_nothing : (p : Problem) (lines : List Line) (line : Line) (listing : ListedPlan) → line ≡ Blank → Keeps p lines listing → Keeps p (lines ++ line ∷ []) listing
keep_nothing p lines line listing is keeps =
    subst (λ (l : Line). Keeps p (lines ++ l ∷ []) listing) (sym is)
    (record {
      said = All-push IsSaid lines Blank keeps.said tt;
      costs = filter-append is_cost lines (Blank ∷ []) ∙ append-nil (filter is_cost lines) ∙ keeps.costs;
      given = keeps.given;
      listed = filter-append is_route lines (Blank ∷ []) ∙ append-nil (filter is_route lines) ∙ keeps.listed;
      kept = keeps.kept;
      customers = keeps.customers;
    })

pub keep_cost : (p : Problem) (lines : List Line) (line : Line) (cost : StatedCost) (old new : ListedPlan) → line ≡ Cost (number_stated cost) → IsCostAdded cost old new → Keeps p lines old → Keeps p (lines ++ line ∷ []) new
keep_cost p lines line cost old new is added keeps =
    let stated = Cost (number_stated cost) in
    let routes = ap (λ v. given_routes v.items) added.routes in
    subst (λ (l : Line). Keeps p (lines ++ l ∷ []) new) (sym is)
    (record {
      said = All-push IsSaid lines stated keeps.said (stated_is_said cost);
      costs = filter-append is_cost lines (stated ∷ []) ∙ ap (λ (l : List Line). l ++ stated ∷ []) (keeps.costs ∙ ap cost_lines added.first) ∙ sym (ap cost_lines added.stated);
      given = keeps.given;
      listed = filter-append is_route lines (stated ∷ []) ∙ append-nil (filter is_route lines) ∙ keeps.listed;
      kept = routes ∙ keeps.kept;
      customers = subst (All (λ route. AreCustomers p route.stops)) (sym routes) keeps.customers;
    })

pub keep_route : (p : Problem) (lines : List Line) (line : Line) (number : ℕ) (stops : List ℕ) (old new : ListedPlan) → line ≡ Route (Ok (pos number)) (map (λ stop. Ok (pos stop)) stops) → AreCustomers p stops → IsRouteAdded number stops old new → Keeps p lines old
    → Keeps p (lines ++ line ∷ []) new
keep_route p lines line number stops old new is customers added keeps =
    let route : GivenRoute = record { number = number; stops = stops } in
    let listed = line_of_route route in
    let served : All (λ (r : GivenRoute). AreCustomers p r.stops) (route ∷ []) = All-cons (λ (r : GivenRoute). AreCustomers p r.stops) route [] customers (All-nil (λ (r : GivenRoute). AreCustomers p r.stops)) in
    subst (λ (l : Line). Keeps p (lines ++ l ∷ []) new) (sym is)
    (record {
      said = All-push IsSaid lines listed keeps.said tt;
      costs = filter-append is_cost lines (listed ∷ []) ∙ append-nil (filter is_cost lines) ∙ keeps.costs ∙ sym (ap cost_lines added.cost);
      given = keeps.given ++ route ∷ [];
      listed = filter-append is_route lines (listed ∷ []) ∙ ap (λ (l : List Line). l ++ listed ∷ []) keeps.listed ∙ sym (map-append line_of_route keeps.given (route ∷ []));
      kept = added.routes ∙ ap (λ (l : List GivenRoute). l ++ with_stops (route ∷ [])) keeps.kept ∙ sym (filter-append (λ (r : GivenRoute). not (length r.stops == 0)) keeps.given (route ∷ []));
      customers = subst (All (λ (r : GivenRoute). AreCustomers p r.stops)) (sym added.routes)
          (All-append (λ (r : GivenRoute). AreCustomers p r.stops) (given_routes old.routes.items) (with_stops (route ∷ [])) keeps.customers
          (All-filter (λ (r : GivenRoute). not (length r.stops == 0)) (λ (r : GivenRoute). AreCustomers p r.stops) (route ∷ []) served));
    })

-- ---- a line that is not blank

some_byte : (text : List ℕ) → (line_of text ≡ Blank → ⊥) → 0 < length text
some_byte [] says = absurd (says refl)
some_byte (x ∷ text) says = omega arith

pub route_has_bytes : (text : List ℕ) (number : Number) (stops : List Number) → line_of text ≡ Route number stops → 0 < length text
route_has_bytes text number stops is = some_byte text (λ blank. absurd (cc))

pub cost_has_bytes : (text : List ℕ) (cost : Number) → line_of text ≡ Cost cost → 0 < length text
cost_has_bytes text cost is = some_byte text (λ blank. absurd (cc))

wrong_is_not_blank : (line : Line) (wrong : LineError) → IsWrong line wrong → line ≡ Blank → ⊥
wrong_is_not_blank line bad.Unknown is blank = absurd (cc)
wrong_is_not_blank line bad.BadNumber is blank = subst HasNoNumber blank is

pub wrong_has_bytes : (text : List ℕ) (wrong : LineError) → IsWrong (line_of text) wrong → 0 < length text
wrong_has_bytes text wrong is = some_byte text (wrong_is_not_blank (line_of text) wrong is)

-- ---- one answer from another

pub on_ok : {T E : Type 0} (r : Result T E) (P Q : Type 0) → (P → Q) → OnOk r P → OnOk r Q
on_ok (Ok x) P Q goes given = goes given
on_ok (Err e) P Q goes given = tt

pub if_err : {T E : Type 0} (r : Result T E) (P Q : E → Type 0) → ((e : E) → P e → Q e) → IfErr r P → IfErr r Q
if_err (Ok x) P Q goes given = tt
if_err (Err e) P Q goes given = goes e given
