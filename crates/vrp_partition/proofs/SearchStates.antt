-- What is known of a search after each step: nodes are taken, looked at, and absorbed.
use Rattle.std.proofs.Common.{◌≡◌, ◌==◌, true, ℕ, ◌<◌, ◌≤◌, inl, inr, List, [], ◌∷◌, ◌++◌, length, get_or, refl, sym, ◌∙◌, ap, subst, append-nil, arith}
use Rattle.std.specs.List.{All, Contains}
use Rattle.std.specs.List.Sorted.{IsPermutation}
use Rattle.std.proofs.lemmas.Bool.Decides.{nat_tests}
use Rattle.std.proofs.lemmas.List.Elements.{All-append, All-cons, All-contains, All-contains_itself, All-filter, All-head, All-nil, All-tail, All-weaker}
use Rattle.std.proofs.lemmas.List.Sorted.{All-permutation, IsPermutation-sym}
use Rattle.vrp_partition.specs.Branching.{AreBranches, AreLeftBranches, AreLookedAt, AreOpened, IsBest, IsSearched, IsUnlooked, NodeState, SearchState, TakesChoice}
use Rattle.vrp_partition.specs.Choice.{IsCheapest, IsChoice, NoneBelow, cost_of, is_apart, is_together, set_of}
use Rattle.vrp_partition.specs.Outcome.{IsLeft}
use Rattle.vrp_partition.specs.declared.bounding.Chosen.{Chosen}
use Rattle.vrp_partition.specs.declared.bounding.OpenRoutes.{OpenRoutes}
use Rattle.vrp_partition.specs.declared.node.Branches.{Branches}
use Rattle.vrp_partition.specs.declared.task.Task.{Task}
use Rattle.vrp_partition.specs.declared.route.Route.{Route}
use Rattle.vrp_partition.proofs.PoolParts.{branched_choice}

all_left : {X : Type 0} (P : X → Type 0) (xs ys : List X) → All P (xs ++ ys) → All P xs
all_left P [] ys all = All-nil P
all_left P (x ∷ xs) ys all = All-cons P x xs (All-head P x (xs ++ ys) all) (all_left P xs ys (All-tail P x (xs ++ ys) all))

all_right : {X : Type 0} (P : X → Type 0) (xs ys : List X) → All P (xs ++ ys) → All P ys
all_right P [] ys all = all
all_right P (x ∷ xs) ys all = all_right P xs ys (All-tail P x (xs ++ ys) all)

-- a choice of some of the routes is one of all
part_choice : (pool part : List Route) (customers trucks : ℕ) (routes : List Route) → All (Contains pool) part → IsChoice set_of part customers trucks routes → IsChoice set_of pool customers trucks routes
part_choice pool part customers trucks routes parts choice = record {
  known = All-weaker (Contains part) (Contains pool) (λ x has. All-contains (Contains pool) part x parts has) routes choice.known;
  once = choice.once;
  few = choice.few;
}

part_none : (pool part : List Route) (customers trucks fewest limit : ℕ) → All (Contains pool) part → NoneBelow pool customers trucks fewest limit → NoneBelow part customers trucks fewest limit
part_none pool part customers trucks fewest limit parts none = λ routes choice. none routes (part_choice pool part customers trucks routes parts choice)

parts_of_parts : (pool part more : List Route) → All (Contains pool) part → All (Contains part) more → All (Contains pool) more
parts_of_parts pool part more parts of = All-weaker (Contains part) (Contains pool) (λ x has. All-contains (Contains pool) part x parts has) more of

-- the branches of the routes that are left are the node's
pub left_branches : (pool : List Route) (customers trucks fewest incumbent : ℕ) (left : OpenRoutes) (branches : Branches) → IsLeft pool customers trucks fewest incumbent left → AreLeftBranches left branches → AreBranches pool customers trucks fewest incumbent branches
left_branches pool customers trucks fewest incumbent left branches is are = record {
  joint = subst (All (Contains pool)) (sym are.joint) (All-filter (is_together are.group) (Contains pool) left.routes.items is.parts);
  parted = subst (All (Contains pool)) (sym are.parted) (All-filter (is_apart are.group) (Contains pool) left.routes.items is.parts);
  least = λ limit most one other. is.least limit most (λ routes choice many. elim (branched_choice are.group customers trucks left.routes.items routes choice) [
    | inl here ↦ subst (λ part. NoneBelow part customers trucks fewest limit) are.joint one routes here many
    | inr there ↦ subst (λ part. NoneBelow part customers trucks fewest limit) are.parted other routes there many
  ]);
  bound = subst (NoneBelow pool customers trucks fewest) (sym are.bound) is.bound;
}

-- before anything was looked at
pub begun : (pool : List Route) (customers trucks fewest incumbent : ℕ) (search : SearchState) (nodes : List NodeState) (node : NodeState) → search.cost ≡ incumbent → nodes ≡ node ∷ [] → IsUnlooked pool 0 node → IsSearched pool customers trucks fewest incumbent search nodes
begun pool customers trucks fewest incumbent search nodes node cost are is = subst (IsSearched pool customers trucks fewest incumbent search) (sym are) (record {
  most = omega (arith, cost);
  attained = λ below. absurd (omega (arith, below, cost));
  least = λ limit most all. subst (λ routes. NoneBelow routes customers trucks fewest limit) is.pool_is (All-head (λ (n : NodeState). NoneBelow n.pool customers trucks fewest limit) node [] all);
  parts = All-cons (λ (n : NodeState). All (Contains pool) n.pool) node [] (subst (All (Contains pool)) (sym is.pool_is) (All-contains_itself pool)) (All-nil (λ (n : NodeState). All (Contains pool) n.pool));
  bounds = All-cons (λ (n : NodeState). NoneBelow n.pool customers trucks fewest n.lower_bound) node [] (λ routes choice many. omega (arith, is.bound_is)) (All-nil (λ (n : NodeState). NoneBelow n.pool customers trucks fewest n.lower_bound));
})

-- once no node is open
pub ended : (pool : List Route) (customers trucks fewest incumbent : ℕ) (search : SearchState) (nodes : List NodeState) → nodes ≡ [] → IsSearched pool customers trucks fewest incumbent search nodes → IsCheapest pool customers trucks fewest incumbent search.cost search.routes
ended pool customers trucks fewest incumbent search nodes none is = record {
  most = is.most;
  least = is.least search.cost (omega arith) (subst (All (λ (n : NodeState). NoneBelow n.pool customers trucks fewest search.cost)) (sym none) (All-nil (λ (n : NodeState). NoneBelow n.pool customers trucks fewest search.cost)));
  attained = is.attained;
}

all_taken : (P : NodeState → Type 0) (rest taken : List NodeState) (x : NodeState) → All P ((rest ++ x ∷ []) ++ taken) → All P (rest ++ (taken ++ x ∷ []))
all_taken P rest taken x all =
    let front = all_left P (rest ++ x ∷ []) taken all in
    All-append P rest (taken ++ x ∷ []) (all_left P rest (x ∷ []) front) (All-append P taken (x ∷ []) (all_right P (rest ++ x ∷ []) taken all) (all_right P rest (x ∷ []) front))

all_back : (P : NodeState → Type 0) (rest taken : List NodeState) (x : NodeState) → All P (rest ++ (taken ++ x ∷ [])) → All P ((rest ++ x ∷ []) ++ taken)
all_back P rest taken x all =
    let back = all_right P rest (taken ++ x ∷ []) all in
    All-append P (rest ++ x ∷ []) taken (All-append P rest (x ∷ []) (all_left P rest (taken ++ x ∷ []) all) (all_right P taken (x ∷ []) back)) (all_left P taken (x ∷ []) back)

-- one node more is taken
pub taken_one : (pool : List Route) (customers trucks fewest incumbent : ℕ) (old new : SearchState) (rest taken : List NodeState) (x : NodeState) → IsBest old new → IsSearched pool customers trucks fewest incumbent old ((rest ++ x ∷ []) ++ taken) → IsSearched pool customers trucks fewest incumbent new (rest ++ (taken ++ x ∷ []))
taken_one pool customers trucks fewest incumbent old new rest taken x same is = record {
  most = omega (arith, same.cost, is.most);
  attained = λ below. let a = is.attained (omega (arith, below, same.cost)) in (subst (IsChoice set_of pool customers trucks) (sym same.routes) a.0, ap cost_of same.routes ∙ (a.1 ∙ sym same.cost));
  least = λ limit most all. is.least limit (omega (arith, most, same.cost)) (all_back (λ (n : NodeState). NoneBelow n.pool customers trucks fewest limit) rest taken x all);
  parts = all_taken (λ (n : NodeState). All (Contains pool) n.pool) rest taken x is.parts;
  bounds = all_taken (λ (n : NodeState). NoneBelow n.pool customers trucks fewest n.lower_bound) rest taken x is.bounds;
}

-- no node is taken where none is open
pub taken_none : (pool : List Route) (customers trucks fewest incumbent : ℕ) (old new : SearchState) (rest taken : List NodeState) → IsBest old new → IsSearched pool customers trucks fewest incumbent old ((rest ++ []) ++ taken) → IsSearched pool customers trucks fewest incumbent new (rest ++ taken)
taken_none pool customers trucks fewest incumbent old new rest taken same is =
    let before = subst (λ (nodes : List NodeState). IsSearched pool customers trucks fewest incumbent old (nodes ++ taken)) (append-nil rest) is in
    record {
      most = omega (arith, same.cost, before.most);
      attained = λ below. let a = before.attained (omega (arith, below, same.cost)) in (subst (IsChoice set_of pool customers trucks) (sym same.routes) a.0, ap cost_of same.routes ∙ (a.1 ∙ sym same.cost));
      least = λ limit most all. before.least limit (omega (arith, most, same.cost)) all;
      parts = before.parts;
      bounds = before.bounds;
    }

pub none_counted : (n : ℕ) → true ≡ (n == 0) → n ≡ 0
none_counted n e = grind (arith, nat_tests)

pub nobody : (nodes : List NodeState) → length nodes ≡ 0 → nodes ≡ []
nobody [] none = refl
nobody (node ∷ nodes) none = absurd (omega (arith, none))

-- all nodes are absorbed
pub absorbed : (pool : List Route) (customers trucks fewest incumbent : ℕ) (search : SearchState) (rest nodes : List NodeState) → nodes ≡ [] → IsSearched pool customers trucks fewest incumbent search (rest ++ nodes) → IsSearched pool customers trucks fewest incumbent search rest
absorbed pool customers trucks fewest incumbent search rest nodes none is = subst (IsSearched pool customers trucks fewest incumbent search) (append-nil rest) (subst (λ (xs : List NodeState). IsSearched pool customers trucks fewest incumbent search (rest ++ xs)) none is)

pub all_but_last : (P : NodeState → Type 0) (xs rest : List NodeState) (x : NodeState) → xs ≡ rest ++ x ∷ [] → All P xs → All P rest × P x
all_but_last P xs rest x are all =
    let both = subst (All P) are all in
    (all_left P rest (x ∷ []) both, All-head P x [] (all_right P rest (x ∷ []) both))

all_same : (P : NodeState → Type 0) (old new : List NodeState) → length new ≡ length old → ((i : ℕ) (d : NodeState) → i < length old → P (get_or old i d) → P (get_or new i d)) → All P old → All P new
all_same P old new many each all = λ i d lt. each i d (omega (arith, lt, many)) (all i d (omega (arith, lt, many)))

-- the nodes in another order
pub moved_search : (pool : List Route) (customers trucks fewest incumbent : ℕ) (search : SearchState) (rest old new : List NodeState) → IsPermutation old new → IsSearched pool customers trucks fewest incumbent search (rest ++ old) → IsSearched pool customers trucks fewest incumbent search (rest ++ new)
moved_search pool customers trucks fewest incumbent search rest old new moved is =
    let Parts : NodeState → Type 0 = λ n. All (Contains pool) n.pool in
    let Bound : NodeState → Type 0 = λ n. NoneBelow n.pool customers trucks fewest n.lower_bound in
    record {
      most = is.most;
      attained = is.attained;
      least = λ limit most all.
          let None : NodeState → Type 0 = λ n. NoneBelow n.pool customers trucks fewest limit in
          is.least limit most (All-append None rest old (all_left None rest new all) (All-permutation None new old (IsPermutation-sym old new moved) (all_right None rest new all)));
      parts = All-append Parts rest new (all_left Parts rest old is.parts) (All-permutation Parts old new moved (all_right Parts rest old is.parts));
      bounds = All-append Bound rest new (all_left Bound rest old is.bounds) (All-permutation Bound old new moved (all_right Bound rest old is.bounds));
    }

-- the nodes are looked at
pub looked_search : (pool : List Route) (customers trucks fewest incumbent : ℕ) (search : SearchState) (rest old new : List NodeState) (task : Task) → AreLookedAt task old new → IsSearched pool customers trucks fewest incumbent search (rest ++ old) → IsSearched pool customers trucks fewest incumbent search (rest ++ new)
looked_search pool customers trucks fewest incumbent search rest old new task are is =
    let Parts : NodeState → Type 0 = λ n. All (Contains pool) n.pool in
    let Bound : NodeState → Type 0 = λ n. NoneBelow n.pool customers trucks fewest n.lower_bound in
    record {
      most = is.most;
      attained = is.attained;
      least = λ limit most all.
          let None : NodeState → Type 0 = λ n. NoneBelow n.pool customers trucks fewest limit in
          is.least limit most (All-append None rest old (all_left None rest new all)
          (all_same None new old (sym are.many) (λ i d lt. subst (λ part. NoneBelow part customers trucks fewest limit) (are.each i d (omega (arith, lt, are.many))).pool) (all_right None rest new all)));
      parts = All-append Parts rest new (all_left Parts rest old is.parts) (all_same Parts old new are.many (λ i d lt. subst (λ part. All (Contains pool) part) (sym (are.each i d lt).pool)) (all_right Parts rest old is.parts));
      bounds = All-append Bound rest new (all_left Bound rest old is.bounds) (all_same Bound old new are.many (λ i d lt none. subst (λ part. NoneBelow part customers trucks fewest (get_or new i d).lower_bound) (sym (are.each i d lt).pool) (subst (NoneBelow (get_or old i d).pool customers trucks fewest) (sym (are.each i d lt).bound) none)) (all_right Bound rest old is.bounds));
    }

-- the node is solved
pub solved : (pool : List Route) (customers trucks fewest incumbent limit : ℕ) (old new : SearchState) (rest : List NodeState) (node : NodeState) (chosen : Chosen) → old.cost ≤ limit → IsCheapest node.pool customers trucks fewest limit chosen.cost chosen.routes.items → TakesChoice old chosen new
    → IsSearched pool customers trucks fewest incumbent old (old.open_nodes ++ (rest ++ node ∷ [])) → IsSearched pool customers trucks fewest incumbent new (new.open_nodes ++ rest)
solved pool customers trucks fewest incumbent limit old new rest node chosen within cheapest takes is =
    let Parts : NodeState → Type 0 = λ n. All (Contains pool) n.pool in
    let Bound : NodeState → Type 0 = λ n. NoneBelow n.pool customers trucks fewest n.lower_bound in
    let here = old.open_nodes in
    let parts = all_right Parts here (rest ++ node ∷ []) is.parts in
    let bounds = all_right Bound here (rest ++ node ∷ []) is.bounds in
    subst (λ nodes. IsSearched pool customers trucks fewest incumbent new (nodes ++ rest)) (sym takes.nodes) (record {
      most = omega (arith, takes.falls, is.most);
      attained = λ below. elim takes.cases [
        | inl less ↦ let a = cheapest.attained (omega (arith, less.0, within)) in (subst (IsChoice set_of pool customers trucks) (sym less.2) (part_choice pool node.pool customers trucks chosen.routes.items (All-head Parts node [] (all_right Parts rest (node ∷ []) parts)) a.0), ap cost_of less.2 ∙ (a.1 ∙ sym less.1))
        | inr more ↦ let a = is.attained (omega (arith, below, more.1)) in (subst (IsChoice set_of pool customers trucks) (sym more.2) a.0, ap cost_of more.2 ∙ (a.1 ∙ sym more.1))
      ];
      least = λ bound most all.
          let None : NodeState → Type 0 = λ n. NoneBelow n.pool customers trucks fewest bound in
          is.least bound (omega (arith, most, takes.falls)) (All-append None here (rest ++ node ∷ []) (all_left None here rest all)
          (All-append None rest (node ∷ []) (all_right None here rest all) (All-cons None node [] (λ routes choice many. omega (arith, most, takes.under, cheapest.least routes choice many)) (All-nil None))));
      parts = All-append Parts here rest (all_left Parts here (rest ++ node ∷ []) is.parts) (all_left Parts rest (node ∷ []) parts);
      bounds = All-append Bound here rest (all_left Bound here (rest ++ node ∷ []) is.bounds) (all_left Bound rest (node ∷ []) bounds);
    })

-- the node is branched on
pub branched : (pool : List Route) (customers trucks fewest incumbent limit : ℕ) (old new : SearchState) (rest : List NodeState) (node : NodeState) (branches : Branches) → old.cost ≤ limit → AreBranches node.pool customers trucks fewest limit branches → IsBest old new → AreOpened branches old.open_nodes new.open_nodes
    → IsSearched pool customers trucks fewest incumbent old (old.open_nodes ++ (rest ++ node ∷ [])) → IsSearched pool customers trucks fewest incumbent new (new.open_nodes ++ rest)
branched pool customers trucks fewest incumbent limit old new rest node branches within are same opened is =
    let Parts : NodeState → Type 0 = λ n. All (Contains pool) n.pool in
    let Bound : NodeState → Type 0 = λ n. NoneBelow n.pool customers trucks fewest n.lower_bound in
    let here = old.open_nodes in
    let first = opened.first in
    let second = opened.second in
    let two = here ++ second ∷ [] in
    let three = two ++ first ∷ [] in
    let parts = all_right Parts here (rest ++ node ∷ []) is.parts in
    let bounds = all_right Bound here (rest ++ node ∷ []) is.bounds in
    let of_node : All (Contains pool) node.pool = All-head Parts node [] (all_right Parts rest (node ∷ []) parts) in
    let first_parts : Parts first = subst (All (Contains pool)) (sym opened.first_is.pool_is) (parts_of_parts pool node.pool branches.joint.items of_node are.joint) in
    let second_parts : Parts second = subst (All (Contains pool)) (sym opened.second_is.pool_is) (parts_of_parts pool node.pool branches.parted.items of_node are.parted) in
    let first_bound : Bound first = subst (λ part. NoneBelow part customers trucks fewest first.lower_bound) (sym opened.first_is.pool_is) (subst (NoneBelow branches.joint.items customers trucks fewest) (sym opened.first_is.bound_is) (part_none node.pool branches.joint.items customers trucks fewest branches.lower_bound are.joint are.bound)) in
    let second_bound : Bound second = subst (λ part. NoneBelow part customers trucks fewest second.lower_bound) (sym opened.second_is.pool_is) (subst (NoneBelow branches.parted.items customers trucks fewest) (sym opened.second_is.bound_is) (part_none node.pool branches.parted.items customers trucks fewest branches.lower_bound are.parted are.bound)) in
    subst (λ nodes. IsSearched pool customers trucks fewest incumbent new (nodes ++ rest)) (sym opened.nodes) (record {
      most = omega (arith, same.cost, is.most);
      attained = λ below. let a = is.attained (omega (arith, below, same.cost)) in (subst (IsChoice set_of pool customers trucks) (sym same.routes) a.0, ap cost_of same.routes ∙ (a.1 ∙ sym same.cost));
      least = λ bound most all.
          let None : NodeState → Type 0 = λ n. NoneBelow n.pool customers trucks fewest bound in
          let front = all_left None three rest all in
          let one = subst (λ part. NoneBelow part customers trucks fewest bound) opened.first_is.pool_is (All-head None first [] (all_right None two (first ∷ []) front)) in
          let left = all_left None two (first ∷ []) front in
          let other = subst (λ part. NoneBelow part customers trucks fewest bound) opened.second_is.pool_is (All-head None second [] (all_right None here (second ∷ []) left)) in
          is.least bound (omega (arith, most, same.cost)) (All-append None here (rest ++ node ∷ []) (all_left None here (second ∷ []) left)
          (All-append None rest (node ∷ []) (all_right None three rest all) (All-cons None node [] (are.least bound (omega (arith, most, same.cost, within)) one other) (All-nil None))));
      parts = All-append Parts three rest (All-append Parts two (first ∷ []) (All-append Parts here (second ∷ []) (all_left Parts here (rest ++ node ∷ []) is.parts) (All-cons Parts second [] second_parts (All-nil Parts))) (All-cons Parts first [] first_parts (All-nil Parts))) (all_left Parts rest (node ∷ []) parts);
      bounds = All-append Bound three rest (All-append Bound two (first ∷ []) (All-append Bound here (second ∷ []) (all_left Bound here (rest ++ node ∷ []) is.bounds) (All-cons Bound second [] second_bound (All-nil Bound))) (All-cons Bound first [] first_bound (All-nil Bound))) (all_left Bound rest (node ∷ []) bounds);
    })

-- no choice costs less than the least bound of the open nodes, or than the cheapest one so far
pub least_bound : (pool : List Route) (customers trucks fewest incumbent bound : ℕ) (search : SearchState) (nodes : List NodeState) → bound ≤ search.cost → All (λ (n : NodeState). bound ≤ n.lower_bound) nodes → IsSearched pool customers trucks fewest incumbent search nodes → NoneBelow pool customers trucks fewest bound
least_bound pool customers trucks fewest incumbent bound search nodes most all is = is.least bound most (λ i d lt routes choice many. omega (arith, all i d lt, is.bounds i d lt routes choice many))

-- the routes of an open node fit
pub nodes_fit : (pool : List Route) (customers trucks fewest incumbent : ℕ) (search : SearchState) (rest nodes : List NodeState) (Fits : Route → Type 0) → All Fits pool → IsSearched pool customers trucks fewest incumbent search (rest ++ nodes) → All (λ (n : NodeState). All Fits n.pool) nodes
nodes_fit pool customers trucks fewest incumbent search rest nodes Fits fit is =
    let Parts : NodeState → Type 0 = λ n. All (Contains pool) n.pool in
    λ i d lt. All-weaker (Contains pool) Fits (λ r has. All-contains Fits pool r fit has) (get_or nodes i d).pool (all_right Parts rest nodes is.parts i d lt)
