-- How the choices that have a column follow from those of the others, and what a search over the columns knows.
use Rattle.std.proofs.Common.{◌≡◌, ℕ, suc, ◌+◌, ◌%◌, ◌<◌, ◌≤◌, ◌-◌, inl, inr, Bool, true, ◌&&◌, ◌==◌, nat_le, List, [], ◌∷◌, ◌++◌, length, get_or, take, drop, remove, refl, sym, ◌∙◌, ap, subst, arith, bit_and, bit_xor}
use Rattle.std.specs.Int.{bit_at}
use Rattle.std.specs.List.{Contains, filter, sum_by}
use Rattle.std.proofs.lemmas.List.{length_push, take_all}
use Rattle.std.proofs.lemmas.Bool.{cases_lt}
use Rattle.std.proofs.lemmas.Bool.Decides.{nat_tests}
use Rattle.std.proofs.lemmas.Grind.{take_at_read}
use Rattle.std.proofs.lemmas.List.Elements.{All-append, All-contains, All-contains_itself, All-drop, All-filter, All-nil, All-push, All-take, All-weaker, Contains-get_or, Contains-push_cases}
use Rattle.std.proofs.lemmas.List.Edits.{length-remove}
use Rattle.std.proofs.lemmas.List.Sums.{get_or-le-sum_by, sum_by-cons, sum_by-remove, sum_by_push}
use Rattle.std.proofs.lemmas.Nat.Bits.{bit_at_and, bit_at_xor, bit_at-lt, bit_at-zero, same_from_bits}
use Rattle.vrp_partition.specs.Choice.{IsChoice}
use Rattle.vrp_partition.specs.Covering.{IsLeast, column_set, columns_cost, columns_reduced_cost, is_inside}
use Rattle.vrp_partition.specs.declared.cover.Column.{Column}
use Rattle.vrp_partition.proofs.PoolParts.{filtered_choice}

-- what a part adds is no more than the sum
part_of_sum : (f : Column → ℕ) (parts : List Column) (x : Column) → Contains parts x → f x ≤ sum_by f parts
part_of_sum f parts x (k, lt, is) = omega (arith, ap f is, get_or-le-sum_by f parts k x lt)

part_bit : (columns : List Column) (unserved trucks : ℕ) (parts : List Column) (x : Column) → IsChoice column_set columns unserved trucks parts → Contains parts x → (i : ℕ) → bit_at x.set i ≤ bit_at unserved i
part_bit columns unserved trucks parts x choice has i = omega (arith, part_of_sum (λ c. bit_at c.set i) parts x has, choice.once i)

bits_within : (set unserved : ℕ) → ((i : ℕ) → bit_at set i ≤ bit_at unserved i) → bit_and set unserved ≡ set
bits_within set unserved bits = same_from_bits (bit_and set unserved) set (λ i. bit_at_and set unserved i ∙ omega (arith, bits i))

bits_from_within : (set unserved i : ℕ) → bit_and set unserved ≡ set → bit_at set i ≤ bit_at unserved i
bits_from_within set unserved i within = omega (arith, bit_at_and set unserved i, ap (λ n. bit_at n i) within)

pub part_within : (columns : List Column) (unserved trucks : ℕ) (parts : List Column) (x : Column) → IsChoice column_set columns unserved trucks parts → Contains parts x → bit_and x.set unserved ≡ x.set
part_within columns unserved trucks parts x choice has = bits_within x.set unserved (part_bit columns unserved trucks parts x choice has)

pub part_value : (parts : List Column) (x : Column) → Contains parts x → x.reduced_cost ≤ columns_reduced_cost parts
part_value parts x has = part_of_sum (λ c. c.reduced_cost) parts x has

pub part_cost : (parts : List Column) (x : Column) → Contains parts x → x.cost ≤ columns_cost parts
part_cost parts x has = part_of_sum (λ c. c.cost) parts x has

-- the parts without one of them
record Without (columns : List Column) (unserved trucks : ℕ) (x : Column) (parts : List Column) : Type 0 where
  pub others : List Column
  pub choice : IsChoice column_set columns (bit_xor unserved x.set) (trucks - 1) others
  pub reduced_cost : columns_reduced_cost others + x.reduced_cost ≡ columns_reduced_cost parts
  pub cost : columns_cost others + x.cost ≡ columns_cost parts

less_bits : (a b n : ℕ) → n + b ≡ a → a < 2 → n ≡ (a + b) % 2
less_bits a b n e lt = omega arith

without : (columns : List Column) (unserved trucks : ℕ) (x : Column) (parts : List Column) → IsChoice column_set columns unserved trucks parts → Contains parts x → Without columns unserved trucks x parts
without columns unserved trucks x parts choice (k, lt, is) = record {
  others = remove parts k;
  choice = record {
    known = All-append (Contains columns) (take k parts) (drop (suc k) parts) (All-take (Contains columns) k parts choice.known) (All-drop (Contains columns) (suc k) parts choice.known);
    once = λ i. less_bits (bit_at unserved i) (bit_at x.set i) (sum_by (λ c. bit_at c.set i) (remove parts k)) (less (λ c. bit_at c.set i) ∙ choice.once i) (bit_at-lt unserved i) ∙ sym (bit_at_xor unserved x.set i);
    few = omega (arith, length-remove parts k lt, choice.few);
  };
  reduced_cost = less (λ c. c.reduced_cost);
  cost = less (λ c. c.cost);
}
  where
    less : (f : Column → ℕ) → sum_by f (remove parts k) + f x ≡ sum_by f parts
    less f = ap (λ y. sum_by f (remove parts k) + f y) (sym is) ∙ sum_by-remove f parts k x lt

inside_test : (n set value gap : ℕ) → n ≡ set → value ≤ gap → ((n == set) && nat_le value gap) ≡ true
inside_test n set value gap same le = grind (arith, nat_tests)

inside_choice : (columns : List Column) (unserved trucks gap : ℕ) (parts : List Column) → IsChoice column_set columns unserved trucks parts → columns_reduced_cost parts ≤ gap → IsChoice column_set (filter (is_inside unserved gap) columns) unserved trucks parts
inside_choice columns unserved trucks gap parts choice le =
    filtered_choice column_set (is_inside unserved gap) columns unserved trucks parts choice (λ k d lt.
    let x = get_or parts k d in
    let has : Contains parts x = Contains-get_or parts k d lt in
    inside_test (bit_and x.set unserved) x.set x.reduced_cost gap (part_within columns unserved trucks parts x choice has) (omega (arith, part_value parts x has, le)))

filtered_contains : {X : Type 0} (p : X → Bool) (xs : List X) (x : X) → Contains (filter p xs) x → Contains xs x
filtered_contains p xs x has = All-contains (Contains xs) (filter p xs) x (All-filter p (Contains xs) xs (All-contains_itself xs)) has

more_bits : (a b n : ℕ) → b ≤ a → a < 2 → n ≡ (a + b) % 2 → n + b ≡ a
more_bits a b n le lt e = omega arith

-- a choice of what a column leaves makes one with it
joined : (p : Column → Bool) (columns : List Column) (unserved trucks : ℕ) (x : Column) (others : List Column) → 0 < trucks → Contains columns x → bit_and x.set unserved ≡ x.set → IsChoice column_set (filter p columns) (bit_xor unserved x.set) (trucks - 1) others → IsChoice column_set columns unserved trucks (others ++ x ∷ [])
joined p columns unserved trucks x others some known within choice = record {
  known = All-push (Contains columns) others x (All-weaker (Contains (filter p columns)) (Contains columns) (filtered_contains p columns) others choice.known) known;
  once = λ i. sum_by_push (λ (c : Column). bit_at c.set i) others x ∙ more_bits (bit_at unserved i) (bit_at x.set i) (sum_by (λ (c : Column). bit_at c.set i) others) (bits_from_within x.set unserved i within) (bit_at-lt unserved i) (choice.once i ∙ bit_at_xor unserved x.set i);
  few = omega (arith, length_push others x, choice.few, some);
}

-- what a search knows of the columns that it has tried
pub record Searched (columns : List Column) (unserved trucks incumbent gap customer found : ℕ) (parts tried : List Column) : Type 0 where
  pub most : found ≤ incumbent
  pub least : (column : Column) → Contains tried column → bit_at column.set customer ≡ 1
      → (others : List Column) → IsChoice column_set columns unserved trucks others → Contains others column → columns_reduced_cost others ≤ gap → found ≤ columns_cost others
  pub attained : found < incumbent → IsChoice column_set columns unserved trucks parts × (columns_cost parts ≡ found)

-- one column more, whichever it is
next_least : (columns : List Column) (unserved trucks gap customer old found i : ℕ) (d : Column) → i < length columns → found ≤ old
    → ((column : Column) → Contains (take i columns) column → bit_at column.set customer ≡ 1 → (parts : List Column) → IsChoice column_set columns unserved trucks parts → Contains parts column → columns_reduced_cost parts ≤ gap → old ≤ columns_cost parts)
    → (bit_at (get_or columns i d).set customer ≡ 1 → (parts : List Column) → IsChoice column_set columns unserved trucks parts → Contains parts (get_or columns i d) → columns_reduced_cost parts ≤ gap → found ≤ columns_cost parts)
    → (column : Column) → Contains (take (i + 1) columns) column → bit_at column.set customer ≡ 1 → (parts : List Column) → IsChoice column_set columns unserved trucks parts → Contains parts column → columns_reduced_cost parts ≤ gap → found ≤ columns_cost parts
next_least columns unserved trucks gap customer old found i d lt less before here column tried bit parts choice has le =
    elim (Contains-push_cases (take i columns) (get_or columns i d) column (subst (λ xs. Contains xs column) (take_at_read columns i d lt).1 tried)) [
      | inl was ↦ omega (arith, less, before column was bit parts choice has le)
      | inr is ↦ here (ap (λ (c : Column). bit_at c.set customer) is ∙ bit) parts choice (subst (Contains parts) (sym is) has) le
    ]

-- a column that no choice has that is looked for
pub passed : (columns parts : List Column) (unserved trucks incumbent gap customer found i : ℕ) (d : Column) → i < length columns
    → Searched columns unserved trucks incumbent gap customer found parts (take i columns)
    → (bit_at (get_or columns i d).set customer ≡ 1 → bit_and (get_or columns i d).set unserved ≡ (get_or columns i d).set → (get_or columns i d).reduced_cost ≤ gap → found ≤ (get_or columns i d).cost)
    → Searched columns unserved trucks incumbent gap customer found parts (take (i + 1) columns)
passed columns parts unserved trucks incumbent gap customer found i d lt before skip = record {
  most = before.most;
  least = next_least columns unserved trucks gap customer found found i d lt (omega arith) before.least
      (λ bit others choice has le.
      let x = get_or columns i d in
      omega (arith, skip bit (part_within columns unserved trucks others x choice has) (omega (arith, part_value others x has, le)), part_cost others x has));
  attained = before.attained;
}

-- what is known of a column that is tried: its cost by the name of the code, the columns of which the search goes on, and its answer
pub record Tried (columns : List Column) (unserved trucks found gap cost more : ℕ) (x : Column) (others : List Column) : Type 0 where
  pub some : 0 < trucks
  pub within : bit_and x.set unserved ≡ x.set
  pub fits : x.reduced_cost ≤ gap
  pub cheap : cost < found
  pub is_cost : cost ≡ x.cost
  pub answer : IsLeast (filter (is_inside (bit_xor unserved x.set) (gap - x.reduced_cost)) columns) (bit_xor unserved x.set) (trucks - 1) (found - cost) (gap - x.reduced_cost) more others

-- no choice that has it costs less
tried_least : (columns others : List Column) (unserved trucks found gap cost more : ℕ) (x : Column) → Tried columns unserved trucks found gap cost more x others
    → (parts : List Column) → IsChoice column_set columns unserved trucks parts → Contains parts x → columns_reduced_cost parts ≤ gap → cost + more ≤ columns_cost parts
tried_least columns others unserved trucks found gap cost more x t parts choice has le =
    let w : Without columns unserved trucks x parts = without columns unserved trucks x parts choice has in
    let rest = bit_xor unserved x.set in
    let under : columns_reduced_cost w.others ≤ gap - x.reduced_cost = omega (arith, w.reduced_cost, le) in
    omega (arith, t.answer.least w.others (inside_choice columns rest (trucks - 1) (gap - x.reduced_cost) w.others w.choice under) under, w.cost, t.is_cost)

-- it makes a cheaper choice
pub cheaper : (columns parts others : List Column) (unserved trucks incumbent gap customer found i cost more : ℕ) (d : Column) → i < length columns
    → Searched columns unserved trucks incumbent gap customer found parts (take i columns)
    → Tried columns unserved trucks found gap cost more (get_or columns i d) others → more < found - cost
    → Searched columns unserved trucks incumbent gap customer (cost + more) (others ++ get_or columns i d ∷ []) (take (i + 1) columns)
cheaper columns parts others unserved trucks incumbent gap customer found i cost more d lt before t less =
    let x = get_or columns i d in
    let rest = bit_xor unserved x.set in
    let a = t.answer.attained less in
    record {
      most = omega (arith, less, before.most);
      least = next_least columns unserved trucks gap customer found (cost + more) i d lt (omega (arith, less)) before.least (λ bit. tried_least columns others unserved trucks found gap cost more x t);
      attained = λ below. (joined (is_inside rest (gap - x.reduced_cost)) columns unserved trucks x others t.some (Contains-get_or columns i d lt) t.within a.0, sum_by_push (λ (c : Column). c.cost) others x ∙ omega (arith, a.1, t.is_cost));
    }

-- it makes none
pub no_cheaper : (columns parts others : List Column) (unserved trucks incumbent gap customer found i cost more : ℕ) (d : Column) → i < length columns
    → Searched columns unserved trucks incumbent gap customer found parts (take i columns)
    → Tried columns unserved trucks found gap cost more (get_or columns i d) others → found - cost ≤ more
    → Searched columns unserved trucks incumbent gap customer found parts (take (i + 1) columns)
no_cheaper columns parts others unserved trucks incumbent gap customer found i cost more d lt before t same =
    let x = get_or columns i d in
    record {
      most = before.most;
      least = next_least columns unserved trucks gap customer found found i d lt (omega arith) before.least
          (λ bit parts choice has le. omega (arith, same, t.cheap, tried_least columns others unserved trucks found gap cost more x t parts choice has le));
      attained = before.attained;
    }

some_at : (f : Column → ℕ) (xs : List Column) → 0 < sum_by f xs → (k : ℕ) × (k < length xs) × ((d : Column) → 0 < f (get_or xs k d))
some_at f [] some = absurd (omega arith)
some_at f (x ∷ xs) some =
    elim (cases_lt 0 (f x)) [
      | inl here ↦ (0, omega arith, λ d. here)
      | inr none ↦
          let rest = some_at f xs (omega (arith, sum_by-cons f x xs, some, none)) in
          (suc rest.0, omega (arith, rest.1), rest.2)
    ]

pub all_tried : (columns parts : List Column) (unserved trucks incumbent gap customer found i : ℕ) → bit_at unserved customer ≡ 1 → length columns ≤ i → Searched columns unserved trucks incumbent gap customer found parts (take i columns) → IsLeast columns unserved trucks incumbent gap found parts
all_tried columns parts unserved trucks incumbent gap customer found i bit long searched = record {
  most = searched.most;
  least = λ others choice le.
      let none : Column = record { set = 0; reduced_cost = 0; cost = 0 } in
      let some = some_at (λ c. bit_at c.set customer) others (omega (arith, choice.once customer, bit)) in
      let x = get_or others some.0 none in
      let one : bit_at x.set customer ≡ 1 = omega (arith, some.2 none, bit_at-lt x.set customer) in
      searched.least x (subst (λ xs. Contains xs x) (sym (take_all i columns long)) (choice.known some.0 none some.1)) one others choice (Contains-get_or others some.0 none some.1) le;
  attained = searched.attained;
}

pub nobody_left : (columns parts : List Column) (unserved trucks incumbent gap : ℕ) → unserved ≡ 0 → parts ≡ [] → IsLeast columns unserved trucks incumbent gap 0 parts
nobody_left columns parts unserved trucks incumbent gap none empty = subst (IsLeast columns unserved trucks incumbent gap 0) (sym empty) (record {
  most = omega arith;
  least = λ others choice le. omega arith;
  attained = λ below. (record { known = All-nil (Contains columns); once = λ i. sym (ap (λ n. bit_at n i) none ∙ bit_at-zero i); few = omega arith }, refl);
})

nobody_served : (columns parts : List Column) (unserved trucks : ℕ) → trucks ≡ 0 → IsChoice column_set columns unserved trucks parts → unserved ≡ 0
nobody_served columns [] unserved trucks none choice = same_from_bits unserved 0 (λ i. sym (choice.once i) ∙ sym (bit_at-zero i))
nobody_served columns (x ∷ parts) unserved trucks none choice = absurd (omega (arith, choice.few, none))

-- without a truck nobody is served
pub no_truck : (columns parts : List Column) (unserved trucks incumbent gap : ℕ) → (unserved ≡ 0 → ⊥) → trucks ≡ 0 → IsLeast columns unserved trucks incumbent gap incumbent parts
no_truck columns parts unserved trucks incumbent gap some none = record {
  most = omega arith;
  least = λ others choice le. absurd (some (nobody_served columns others unserved trucks none choice));
  attained = λ below. absurd (omega arith);
}
