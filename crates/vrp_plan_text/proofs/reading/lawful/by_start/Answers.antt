use Rattle.std.proofs.Common.{◌≡◌, ◌∙◌, ℕ, List, map, ap, sym, subst, rules, Bor}
use Rattle.std.specs.List.Sorted.{IsPermutation}
use Rattle.std.proofs.lemmas.List.Sorted.{IsNonDecreasingBy-from_sort_by_key, IsPermutation-map}
use Rattle.vrp_plan_text.specs.Inner.Ordered.{start_of}
use Rattle.vrp_plan_text.specs.declared.reading.route.NonemptyRoute.{NonemptyRoute}
use Rattle.vrp_plan_text.proofs.RouteLists.{map_twice, rising_by}
use Rattle.vrp_plan_text.proofs.reading.lawful.by_start.Goals as goal

pub returns : goal.returns
returns c =
    let stops : Bor NonemptyRoute → List ℕ = λ r. r.now.stops.items in
    let start : Bor NonemptyRoute → ℕ = λ r. start_of c.args.symmetric r.now.stops.items in
    let before = c.in_ok-rising.rising.items in
    let after = c.sort_unstable_by_key.new.self.items in
    let listed : map (λ (r : NonemptyRoute). r.stops.items) c.args.routes.now ≡ map stops before = ap (map (λ (r : NonemptyRoute). r.stops.items)) (sym c.in_ok-rising.ensures) ∙ map_twice (λ (r : Bor NonemptyRoute). r.now) (λ (r : NonemptyRoute). r.stops.items) before in
    let sorted = IsNonDecreasingBy-from_sort_by_key start after c.sort_unstable_by_key.ensures.sorted (λ a r q k. search rules) in
    record {
      same = subst (λ (l : List (List ℕ)). IsPermutation l (map stops after)) (sym listed) (IsPermutation-map stops before after c.sort_unstable_by_key.ensures.permutation);
      rising = rising_by stops (start_of c.args.symmetric) after sorted;
    }
