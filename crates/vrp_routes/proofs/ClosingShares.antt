-- The routes of all shares of the sets, put together.
use Rattle.std.proofs.Common.{Global, Vec, ◌≡◌, ℕ, ◌+◌, ◌*◌, ◌/◌, ◌%◌, ◌^◌, ◌<◌, Bool, inl, inr, nat_lt, List, [], ◌∷◌, ◌++◌, length, length-append, get_or, sym, ap, subst, ◌∙◌, eq-eqb, arith}
use Rattle.std.proofs.Math.Seq.{get_or-append_seam}
use Rattle.std.proofs.lemmas.Bool.{cases_lt}
use Rattle.std.proofs.lemmas.List.Elements.{All-append, All-nil, Contains-append_left, Contains-append_right}
use Rattle.vrp_model.specs.Problem.{Problem}
use Rattle.vrp_model.specs.CustomerSet.{folded_of, set_of}
use Rattle.vrp_routes.specs.ClosedLevel.{AreClosed, AreClosedIn, AreClosedParts, closing_share, is_closed_in, route_by}
use Rattle.vrp_routes.specs.Pool.{IsListed}
use Rattle.vrp_routes.specs.declared.closed.ClosedRoute.{ClosedRoute}
use Rattle.vrp_routes.proofs.NumbersBelow.{is_below, tests_below}
use Rattle.vrp_routes.specs.declared.plan_range.PlanRange.{PlanRange}

-- the set is closed in one of the first shares
abbrev pub is_closed_before : ℕ → ℕ → Bool
is_closed_before count set = nat_lt (closing_share set) count

pub no_shares_closed : (p : Problem) (range : PlanRange) (k : ℕ) (stops : List (List ℕ)) (routes : List ClosedRoute) → routes ≡ [] → AreClosedIn p range k (is_closed_before 0) stops routes
no_shares_closed p range k stops routes none = subst (AreClosedIn p range k (is_closed_before 0) stops) (sym none) (record {
  each = All-nil _;
  every = λ xs long own useful. absurd (let below = is_below (closing_share (set_of xs)) 0 own in omega (arith, below));
})

pub one_share_more : (p : Problem) (range : PlanRange) (k count : ℕ) (stops : List (List ℕ)) (old new : List ClosedRoute) → AreClosedIn p range k (is_closed_before count) stops old → AreClosedIn p range k (is_closed_in count) stops new → AreClosedIn p range k (is_closed_before (count + 1)) stops (old ++ new)
one_share_more p range k count stops old new are also = record {
  each = All-append (λ route. IsListed p (route_by stops route) × (route.label < length stops)) old new are.each also.each;
  every = λ xs long own useful.
      let share = closing_share (set_of xs) in
      let below = is_below share (count + 1) own in
      elim (cases_lt share count) [
        | inl less ↦ (let (route, among, is) = are.every xs long (tests_below share count less) useful in (route, Contains-append_left old new route among, is))
        | inr last ↦ (let (route, among, is) = also.every xs long (eq-eqb share count (omega (arith, below, last))) useful in (route, Contains-append_right old new route among, is))
      ];
}

-- the routes of the next share
pub share_at : (p : Problem) (range : PlanRange) (k : ℕ) (stops : List (List ℕ)) (parts yielded rest : List (Vec ClosedRoute Global)) (part : Vec ClosedRoute Global) → parts ≡ yielded ++ part ∷ rest → AreClosedParts p range k stops parts → AreClosedIn p range k (is_closed_in (length yielded)) stops part.items
share_at p range k stops parts yielded rest part is are =
    let at : get_or parts (length yielded) part ≡ part = ap (λ (vs : List (Vec ClosedRoute Global)). get_or vs (length yielded) part) is ∙ get_or-append_seam yielded part rest part in
    let within : length yielded < length parts = omega (arith, ap length is, length-append yielded (part ∷ rest)) in
    subst (λ (v : Vec ClosedRoute Global). AreClosedIn p range k (is_closed_in (length yielded)) stops v.items) at (are (length yielded) part within)

-- the highest bits of a number of 64 bits
pub small_share : (n : ℕ) → n % 2 ^ 64 / 2 ^ 61 < 8
small_share n = omega arith

pub all_shares_closed : (p : Problem) (range : PlanRange) (k : ℕ) (stops : List (List ℕ)) (routes : List ClosedRoute) → AreClosedIn p range k (is_closed_before 8) stops routes → AreClosed p range k stops routes
all_shares_closed p range k stops routes are = record {
  each = are.each;
  every = λ xs long useful.
      let set = set_of xs in
      are.every xs long (tests_below (closing_share set) 8 (small_share (folded_of set * 6364136223846793005))) useful;
}
