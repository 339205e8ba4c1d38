-- What a feasible word adds to a prefix is no less than the capacity bound.
use Rattle.std.proofs.Common.{◌≡◌, ℕ, suc, Option, None, Some, length, ◌+◌, ◌-◌, ◌*◌, ◌≤◌, ◌==◌, if◌then◌else◌, false, List, ◌∷◌, ◌++◌, refl, sym, ap, ◌∙◌, arith}
use Rattle.std.specs.List.{All, sum_by}
use Rattle.std.specs.Option.{option_map}
use Rattle.std.proofs.lemmas.Bool.Decides.{nat_tests}
use Rattle.std.proofs.lemmas.Nat.{mul-le}
use Rattle.std.proofs.lemmas.List.Sums.{sum_by-cons}
use Rattle.vrp_model.specs.Prefix.{open_load, routes_left}
use Rattle.vrp_model.specs.LeastArc.{IsLeastHome, IsLeastIn}
use Rattle.vrp_model.specs.Problem.{IsProblem, Problem, demand_of, weight_of}
use Rattle.vrp_model.specs.Route.{cost_along, load_of}
use Rattle.vrp_model.specs.Word.{IsLawfulWord, last_symbol, routes_of, served_in, unserved_in, word_cost}
use Rattle.vrp_model.proofs.Words.{serves_customer}
use Rattle.vrp_bound.specs.Capacity.{CanCarry, IsCapacityBound, IsInboundSumOf, free_room}
use Rattle.vrp_bound.proofs.SymbolBySymbol.{HoldsBySymbol, all_served_behind, by_symbols, first_and_rest, sum_behind}
use Rattle.vrp_bound.proofs.RoutesOpened.{opened, routes_behind}
use Rattle.vrp_bound.proofs.ServedBehind.{cost_behind}

-- the truck that is out drives home
abbrev pub out : ℕ → ℕ
out at = if at == 0 then 0 else 1

-- each truck that leaves the depot yet, and the one that is out, is paid for
abbrev pub Pays : Problem → (ℕ → ℕ) → ℕ → ℕ → ℕ → List ℕ → Type 0
Pays p least_in home at load more = sum_by least_in (served_in more) + (opened at more + out at) * home ≤ cost_along p at more

-- together they carry all
abbrev pub Carries : Problem → ℕ → ℕ → List ℕ → Type 0
Carries p at load more = load_of p (served_in more) ≤ free_room p at load + opened at more * p.capacity

out_there : (k : ℕ) → out (suc k) ≡ 1
out_there k = let test : (suc k == 0) ≡ false = grind (arith, nat_tests) in rw test refl

room_there : (p : Problem) (k load : ℕ) → free_room p (suc k) load ≡ p.capacity - load
room_there p k load = let test : (suc k == 0) ≡ false = grind (arith, nat_tests) in rw test refl

returns_there : (trucks home k : ℕ) → (trucks + out (suc k)) * home ≡ trucks * home + home
returns_there trucks home k =
    let same : (trucks + out (suc k)) * home ≡ (trucks + 1) * home = ap (λ n. (trucks + n) * home) (out_there k) in
    let one_more : (trucks + 1) * home ≡ trucks * home + home = omega arith in
    same ∙ one_more

returns_here : (trucks home : ℕ) → (trucks + out 0) * home ≡ trucks * home
returns_here trucks home = omega arith

room_here : (p : Problem) (load : ℕ) → free_room p 0 load ≡ 0
room_here p load = refl

home_next : (p : Problem) (least_in : ℕ → ℕ) (home k load : ℕ) (more : List ℕ) → home ≤ weight_of p (suc k) 0 → Pays p least_in home 0 0 more → Pays p least_in home (suc k) load (0 ∷ more)
home_next p least_in home k load more arc rest = omega (arith, rest, arc, returns_there (opened 0 more) home k, returns_here (opened 0 more) home)

sum_with : (f : ℕ → ℕ) (k : ℕ) (more : List ℕ) → sum_by f (served_in (suc k ∷ more)) ≡ f (suc k) + sum_by f (served_in more)
sum_with f k more = ap (sum_by f) (serves_customer k more) ∙ sum_by-cons f (suc k) (served_in more)

on_next : (p : Problem) (least_in : ℕ → ℕ) (home j load k : ℕ) (more : List ℕ) → least_in (suc k) ≤ weight_of p (suc j) (suc k) → Pays p least_in home (suc k) (load + demand_of p (suc k)) more → Pays p least_in home (suc j) load (suc k ∷ more)
on_next p least_in home j load k more arc rest = omega (arith, rest, arc, sum_with least_in k more, returns_there (opened (suc k) more) home k, returns_there (opened (suc k) more) home j)

out_next : (p : Problem) (least_in : ℕ → ℕ) (home k : ℕ) (more : List ℕ) → least_in (suc k) ≤ weight_of p 0 (suc k) → Pays p least_in home (suc k) (demand_of p (suc k)) more → Pays p least_in home 0 0 (suc k ∷ more)
out_next p least_in home k more arc rest =
    let completion_table : (1 + opened (suc k) more + out 0) * home ≡ opened (suc k) more * home + home = omega arith in
    omega (arith, rest, arc, sum_with least_in k more, returns_there (opened (suc k) more) home k, completion_table)

out_carries : (p : Problem) (k : ℕ) (more : List ℕ) → demand_of p (suc k) ≤ p.capacity → Carries p (suc k) (demand_of p (suc k)) more → Carries p 0 0 (suc k ∷ more)
out_carries p k more fits rest =
    let room : (1 + opened (suc k) more) * p.capacity ≡ opened (suc k) more * p.capacity + p.capacity = omega arith in
    omega (arith, rest, sum_with (demand_of p) k more, fits, room, room_there p k (demand_of p (suc k)), room_here p 0)

-- what is carried, symbol by symbol
carries_by_symbol : (p : Problem) → HoldsBySymbol p (Carries p)
carries_by_symbol p = record {
  nothing = omega arith;
  home = λ j load more place light rest. omega (arith, rest, room_here p 0);
  leaves = λ k more fits rest. out_carries p k more fits rest;
  continues = λ j load k more place differs fits rest. omega (arith, rest, sum_with (demand_of p) k more, fits, room_there p k (load + demand_of p (suc k)), room_there p j load);
}

-- of each customer that is served behind a least arc in is known
pays_by_symbol : (p : Problem) (least_in : ℕ → ℕ) (home : ℕ) → IsProblem p → IsLeastHome p home → HoldsBySymbol p (λ at load more. All (λ customer. IsLeastIn p customer (least_in customer)) (served_in more) → Pays p least_in home at load more)
pays_by_symbol p least_in home problem arc_home =
    let Into : ℕ → Type 0 = λ customer. IsLeastIn p customer (least_in customer) in
    record {
      nothing = λ _. omega arith;
      home = λ j load more place light rest inbound_sum. home_next p least_in home j load more ((arc_home.some (omega (arith, place))).least (suc j) place (λ same. omega (arith, same))) (rest inbound_sum);
      leaves = λ k more fits rest inbound_sum. (
          let both = first_and_rest Into k more inbound_sum in
          out_next p least_in home k more (both.0.least 0 (omega (arith, problem.some_places)) (λ same. omega (arith, same))) (rest both.1));
      continues = λ j load k more place differs fits rest inbound_sum. (
          let both = first_and_rest Into k more inbound_sum in
          on_next p least_in home j load k more (both.0.least (suc j) place differs) (rest both.1));
    }

-- the truck that is out and those that a feasible word sends out behind a prefix carry what the prefix leaves
pub carries_behind : (p : Problem) (prefix more : List ℕ) → IsProblem p → IsLawfulWord p (prefix ++ more)
    → load_of p (unserved_in p prefix) ≤ free_room p (last_symbol prefix) (open_load p prefix) + opened (last_symbol prefix) more * p.capacity
carries_behind p prefix more problem lawful = omega (arith, by_symbols p (Carries p) (carries_by_symbol p) problem prefix more lawful, sum_behind (demand_of p) p prefix more lawful)

pub none_adds_less : (p : Problem) (prefix more : List ℕ) (inbound_sum bound : ℕ) → IsProblem p → IsLawfulWord p (prefix ++ more) → IsInboundSumOf p prefix inbound_sum
    → IsCapacityBound p (last_symbol prefix) (open_load p prefix) inbound_sum (load_of p (unserved_in p prefix)) bound → word_cost p prefix + bound ≤ word_cost p (prefix ++ more)
none_adds_less p prefix more inbound_sum bound problem lawful is_inbound_sum is_bound =
    let at = last_symbol prefix in
    let f = is_inbound_sum.least_in in
    let Into : ℕ → Type 0 = λ customer. IsLeastIn p customer (f customer) in
    let paid = by_symbols p (λ place load behind. All Into (served_in behind) → Pays p f is_bound.home place load behind) (pays_by_symbol p f is_bound.home problem is_bound.least_home) problem prefix more lawful (all_served_behind Into p prefix more lawful is_inbound_sum.each) in
    let sum : sum_by f (served_in more) ≡ inbound_sum = sum_behind f p prefix more lawful ∙ sym is_inbound_sum.whole in
    let carried = carries_behind p prefix more problem lawful in
    let over : load_of p (unserved_in p prefix) - free_room p at (open_load p prefix) ≤ opened at more * p.capacity = omega (arith, carried) in
    let fewer : is_bound.count.trucks ≤ opened at more = is_bound.count.carry.least (opened at more) over in
    let completion_table : is_bound.returns * is_bound.home ≤ (opened at more + out at) * is_bound.home = mul-le is_bound.returns is_bound.home (opened at more + out at) is_bound.home (omega (arith, is_bound.count.all, fewer)) (omega arith) in
    omega (arith, paid, sum, completion_table, is_bound.is, cost_behind p prefix more at refl)

enough_left : (trucks : Option ℕ) (routes : ℕ) → (left : ℕ) → option_map (λ most. most - routes) trucks ≡ Some left → (most : ℕ) × (trucks ≡ Some most) × (left ≡ most - routes)
enough_left None routes left is = absurd (cc)
enough_left (Some most) routes left is = (most, refl, (let same : Some (most - routes) ≡ Some left = is in cc))

-- the trucks that a prefix leaves carry what a feasible word adds to it
pub left_carry : (p : Problem) (prefix more : List ℕ) → IsProblem p → IsLawfulWord p (prefix ++ more) → CanCarry p (last_symbol prefix) (open_load p prefix) (load_of p (unserved_in p prefix)) (routes_left p prefix)
left_carry p prefix more problem lawful =
    λ left is.
    let (most, limit, rest) = enough_left p.trucks (length (routes_of prefix)) left is in
    let sent = opened (last_symbol prefix) more in
    let few : sent ≤ left = omega (arith, rest, lawful.prefix.few most limit, routes_behind p prefix more lawful) in
    omega (arith, carries_behind p prefix more problem lawful, mul-le sent p.capacity left p.capacity few (omega arith))
