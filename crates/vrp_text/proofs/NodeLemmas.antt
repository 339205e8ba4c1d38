-- Numbers that become nodes.
use Rattle.std.proofs.Common.{◌≡◌, ℕ, zero, suc, ◌+◌, ◌*◌, ◌%◌, ◌≤◌, ◌<◌, ℤ, pos, negsuc, neg_ℤ, Bool, true, false, cond, not, ◌||◌, ◌&&◌, ◌==◌, Some, None, List, [], ◌∷◌, ◌++◌, length, length-append, map, take, drop, set, get_or, refl, sym, ap, ◌∙◌, inl, inr, add-one, arith}
use Rattle.std.specs.Prelude.{unsigned_abs, slice_index}
use Rattle.std.specs.Int.Signed.{◌≤ℤ◌}
use Rattle.std.specs.List.{list_any, position_or_len}
use Rattle.std.specs.Ordering.{int_eq}
use Rattle.std.proofs.Math.ListN.{get_or-append}
use Rattle.std.proofs.Math.Seq.{drop-cons, get_or-append_seam}
use Rattle.std.proofs.lemmas.Bool.{cases_Bool, cases_lt}
use Rattle.std.proofs.lemmas.Bool.Decides.{Decides-int_eq, nat_tests, eqb_tells}
use Rattle.std.proofs.lemmas.Int.{ints}
use Rattle.std.proofs.lemmas.Nat.{mod-mul-add}
use Rattle.std.proofs.lemmas.List.{ext_get_or, get_or_append_left, get_or_push, map_more, take_more, length-take-le, take_all, drop_all, get_or-set_same, get_or-set_other, get_or_past, length-set}
use Rattle.std.proofs.lemmas.List.Folds.{position_or_len_push, list_any-append}
use Rattle.std.proofs.lemmas.List.FromFn.{length-map-range_with_len, get_or-map-range_with_len}
use Rattle.vrp_model.specs.Grid.{IsCoordinate}
use Rattle.vrp_text.specs.Section.{AreWithin}
use Rattle.vrp_text.specs.declared.section.Section.TheVariants.{Coordinates}
use Rattle.vrp_text.specs.Complete.{is_node, no_node, bad_node, by_node}
use Rattle.vrp_text.specs.Inner.PlacedRows.{ArePlaced, IsGivenOrNone, beside_node}

-- the first depots
pub record ReadsDepots (nodes : ℕ) (numbers : List ℤ) (next : ℕ) (depots : List ℕ) : Type 0 where
  pub fault : no_node nodes numbers ≡ no_node nodes (drop next numbers)
  pub read : depots ≡ map unsigned_abs (take next numbers)
  pub from_one : (k : ℕ) → k < length depots → 1 ≤ slice_index depots k
  pub within : (k : ℕ) → k < length depots → slice_index depots k ≤ nodes

-- no depot is read yet
pub depots_start : (nodes : ℕ) (numbers : List ℤ) (depots : List ℕ) → depots ≡ [] → ReadsDepots nodes numbers 0 depots
depots_start nodes numbers depots none = rw none (record {
  fault = refl;
  read = refl;
  from_one = λ k lt. absurd (omega (arith, lt));
  within = λ k lt. absurd (omega (arith, lt));
})

depots_left : (numbers : List ℤ) (next : ℕ) (number : ℤ) → next < length numbers → get_or numbers next (pos 0) ≡ number → drop next numbers ≡ number ∷ drop (next + 1) numbers
depots_left numbers next number lt number_is = rw add-one (drop-cons numbers next (pos 0) lt ∙ ap (λ n. n ∷ drop (suc next) numbers) number_is)

last_place : (depots : List ℕ) (depot k : ℕ) → k < length (depots ++ depot ∷ []) → length depots ≤ k → k ≡ length depots
last_place depots depot k inside past = omega (arith, length-append depots (depot ∷ []))

-- one more depot is read
pub depots_push : (nodes : ℕ) (numbers : List ℤ) (depots new : List ℕ) (next : ℕ) (number : ℤ) (depot : ℕ) → next < length numbers → get_or numbers next (pos 0) ≡ number → ReadsDepots nodes numbers next depots
    → is_node nodes number ≡ true → depot ≡ unsigned_abs number → (1 ≤ depot) × (depot ≤ nodes) → new ≡ depots ++ depot ∷ [] → ReadsDepots nodes numbers (next + 1) new
depots_push nodes numbers depots new next number depot lt number_is so_far good value bounds pushed = rw pushed (record {
  fault = so_far.fault ∙ (rw (depots_left numbers next number lt number_is) (rw good refl));
  read =
      ap (λ xs. xs ++ depot ∷ []) so_far.read ∙ ap (λ d. map unsigned_abs (take next numbers) ++ d ∷ []) (value ∙ ap unsigned_abs (sym number_is))
      ∙ sym (map_more unsigned_abs numbers next (pos 0) lt);
  from_one = λ k inside. elim (cases_lt k (length depots)) [
    | inl before ↦ rw (get_or_append_left depots (depot ∷ []) 0 k before) (so_far.from_one k before)
    | inr past ↦ rw (get_or_push depots depot 0 k (sym (last_place depots depot k inside past))) bounds.0
  ];
  within = λ k inside. elim (cases_lt k (length depots)) [
    | inl before ↦ rw (get_or_append_left depots (depot ∷ []) 0 k before) (so_far.within k before)
    | inr past ↦ rw (get_or_push depots depot 0 k (sym (last_place depots depot k inside past))) bounds.1
  ];
})

-- a number that is no node is refused
pub depot_refused : (nodes : ℕ) (numbers : List ℤ) (depots : List ℕ) (next : ℕ) (number : ℤ) → next < length numbers → get_or numbers next (pos 0) ≡ number → ReadsDepots nodes numbers next depots → is_node nodes number ≡ false → no_node nodes numbers ≡ Some number
depot_refused nodes numbers depots next number lt number_is so_far bad =
    so_far.fault ∙ (rw (depots_left numbers next number lt number_is) (rw bad refl))

-- all depots are read
pub depots_all : (nodes : ℕ) (numbers : List ℤ) (depots : List ℕ) (next : ℕ) → length numbers ≤ next → ReadsDepots nodes numbers next depots → (no_node nodes numbers ≡ None) × (depots ≡ map unsigned_abs numbers)
depots_all nodes numbers depots next all so_far =
    (so_far.fault ∙ (rw (drop_all next numbers all) refl), so_far.read ∙ ap (map unsigned_abs) (take_all next numbers all))

not_equal : (a b : ℤ) → (a ≡ b → ⊥) → int_eq a b ≡ false
not_equal a b differ =
    elim (cases_Bool (int_eq a b)) [
      | inl here ↦ absurd (differ ((Decides-int_eq a b).0 here))
      | inr other ↦ other
    ]

equal : (a b : ℤ) → a ≡ b → int_eq a b ≡ true
equal a b same = (Decides-int_eq a b).1 same

or_false : (a : Bool) → (a || false) ≡ a
or_false true = refl
or_false false = refl

or_true : (a : Bool) → (a || true) ≡ true
or_true true = refl
or_true false = refl

none_passes : (p : ℤ → Bool) (xs : List ℤ) → list_any p xs ≡ false → position_or_len p xs ≡ length xs
none_passes p [] e = refl
none_passes p (x ∷ xs) e =
    elim (cases_Bool (p x)) [
      | inl here ↦ absurd (let never : true ≡ false = sym (ap (λ b. b || list_any p xs) here) ∙ e in cc)
      | inr gone ↦ rw gone (let later : position_or_len p xs ≡ length xs = none_passes p xs (sym (ap (λ b. b || list_any p xs) gone) ∙ e) in omega (arith, later))
    ]

one_passes : (p : ℤ → Bool) (xs : List ℤ) → list_any p xs ≡ true → position_or_len p xs < length xs
one_passes p [] e = absurd cc
one_passes p (x ∷ xs) e =
    elim (cases_Bool (p x)) [
      | inl here ↦ rw here (omega arith)
      | inr gone ↦ rw gone (let later : position_or_len p xs < length xs = one_passes p xs (sym (ap (λ b. b || list_any p xs) gone) ∙ e) in omega (arith, later))
    ]

same_place : (k place : ℕ) → pos (k + 1) ≡ pos (place + 1) → k ≡ place
same_place k place e = omega (arith, ints, e)

-- one more row, of this node
beside_hit : {X : Type 0} (absent : X) (given : List ℤ) (beside : List X) (number : ℤ) (y : X) (node : ℕ) → length given ≡ length beside → list_any (int_eq (pos node)) given ≡ false → number ≡ pos node
    → beside_node absent (given ++ number ∷ []) (beside ++ y ∷ []) node ≡ y
beside_hit absent given beside number y node same none is =
    let p : ℤ → Bool = int_eq (pos node) in
    let place : position_or_len p given ≡ length given = none_passes p given none in
    let here : p number ≡ true = equal (pos node) number (sym is) in
    let whole : position_or_len p (given ++ number ∷ []) ≡ length beside = position_or_len_push p given number ∙ (rw place (rw here (grind (arith, nat_tests, same)))) in
    ap (λ k. get_or (beside ++ y ∷ []) k absent) whole ∙ get_or-append_seam beside y [] absent

-- one more row, of another node
beside_miss : {X : Type 0} (absent : X) (given : List ℤ) (beside : List X) (number : ℤ) (y : X) (node : ℕ) → length given ≡ length beside → (number ≡ pos node → ⊥)
    → beside_node absent (given ++ number ∷ []) (beside ++ y ∷ []) node ≡ beside_node absent given beside node
beside_miss absent given beside number y node same other =
    let p : ℤ → Bool = int_eq (pos node) in
    let no : p number ≡ false = not_equal (pos node) number (λ e. other (sym e)) in
    elim (cases_Bool (list_any p given)) [
      | inl found ↦
          let lt : position_or_len p given < length given = one_passes p given found in
          let place : position_or_len p (given ++ number ∷ []) ≡ position_or_len p given = position_or_len_push p given number ∙ (let e : (position_or_len p given == length given) ≡ false = grind (arith, nat_tests, lt) in rw e refl) in
          ap (λ k. get_or (beside ++ y ∷ []) k absent) place ∙ get_or-append beside (y ∷ []) absent (position_or_len p given) (omega (arith, lt, same))
      | inr none ↦
          let place : position_or_len p given ≡ length given = none_passes p given none in
          let past : position_or_len p (given ++ number ∷ []) ≡ length given + 1 = position_or_len_push p given number ∙ (rw place (rw no (grind (arith, nat_tests)))) in
          let long : length (beside ++ y ∷ []) ≡ length beside + 1 = length-append beside (y ∷ []) in
          get_or_past (beside ++ y ∷ []) (position_or_len p (given ++ number ∷ [])) absent (omega (arith, long, past, same))
          ∙ sym (get_or_past beside (position_or_len p given) absent (omega (arith, place, same)))
    ]

node_is : (nodes place : ℕ) → place < nodes → is_node nodes (pos (place + 1)) ≡ true
node_is nodes place lt = grind (arith, nat_tests)

marked_more : (given : List ℤ) (marks : List Bool) (number : ℤ) (place k : ℕ) → place < length marks → number ≡ pos (place + 1) → get_or marks k false ≡ list_any (int_eq (pos (k + 1))) given
    → get_or (set marks place true) k false ≡ list_any (int_eq (pos (k + 1))) (given ++ number ∷ [])
marked_more given marks number place k within node so_far =
    let more = list_any-append (int_eq (pos (k + 1))) given (number ∷ []) in
    elim (eqb_tells k place) [
      | inl here ↦
          let hit : int_eq (pos (k + 1)) number ≡ true = equal (pos (k + 1)) number (ap (λ n. pos (n + 1)) here.1 ∙ sym node) in
          let stored : get_or (set marks place true) k false ≡ true = rw here.1 (get_or-set_same marks place true false within) in
          stored ∙ sym (more ∙ (rw hit (or_true (list_any (int_eq (pos (k + 1))) given))))
      | inr gone ↦
          let other : int_eq (pos (k + 1)) number ≡ false = not_equal (pos (k + 1)) number (λ e. gone.1 (same_place k place (e ∙ node))) in
          get_or-set_other marks place k true false gone.1 ∙ so_far ∙ sym (more ∙ (rw other (or_false (list_any (int_eq (pos (k + 1))) given))))
    ]

placed_more : {X : Type 0} (absent : X) (given : List ℤ) (beside placed : List X) (number : ℤ) (y : X) (place k : ℕ) → place < length placed → number ≡ pos (place + 1) → length given ≡ length beside
    → list_any (int_eq (pos (place + 1))) given ≡ false → get_or placed k absent ≡ beside_node absent given beside (k + 1)
    → get_or (set placed place y) k absent ≡ beside_node absent (given ++ number ∷ []) (beside ++ y ∷ []) (k + 1)
placed_more absent given beside placed number y place k within node same unseen so_far =
    elim (eqb_tells k place) [
      | inl here ↦ rw here.1 (get_or-set_same placed place y absent within ∙ sym (beside_hit absent given beside number y (place + 1) same unseen node))
      | inr gone ↦ get_or-set_other placed place k y absent gone.1 ∙ so_far ∙ sym (beside_miss absent given beside number y (k + 1) same (λ e. gone.1 (same_place k place (sym e ∙ node))))
    ]

-- a row whose node was not given is put into its place
pub place_more : {X : Type 0} (absent : X) (nodes : ℕ) (given : List ℤ) (beside : List X) (rows : ℕ) (marks : List Bool) (placed : List X) (number : ℤ) (y : X) (place : ℕ)
    → ArePlaced absent nodes given beside rows marks placed → rows < length given → length given ≡ length beside
    → get_or given rows (pos 0) ≡ number → get_or beside rows absent ≡ y
    → place < nodes → number ≡ pos (place + 1) → get_or marks place false ≡ false
    → ArePlaced absent nodes given beside (rows + 1) (set marks place true) (set placed place y)
place_more absent nodes given beside rows marks placed number y place so_far lt same number_is y_is within node fresh =
    let given_more : take (rows + 1) given ≡ take rows given ++ number ∷ [] = take_more given rows (pos 0) lt ∙ ap (λ n. take rows given ++ n ∷ []) number_is in
    let beside_more : take (rows + 1) beside ≡ take rows beside ++ y ∷ [] = take_more beside rows absent (omega arith) ∙ ap (λ n. take rows beside ++ n ∷ []) y_is in
    let counts : length (take rows given) ≡ length (take rows beside) = length-take-le rows given (omega arith) ∙ sym (length-take-le rows beside (omega arith)) in
    let unseen : list_any (int_eq (pos (place + 1))) (take rows given) ≡ false = sym (so_far.marked place within) ∙ fresh in
    let good : is_node nodes number ≡ true = rw node (node_is nodes place within) in
    let new : list_any (int_eq number) (take rows given) ≡ false = rw node unseen in
    let left : drop rows given ≡ number ∷ drop (rows + 1) given = rw add-one (drop-cons given rows (pos 0) lt ∙ ap (λ n. n ∷ drop (suc rows) given) number_is) in
    record {
      fault = so_far.fault ∙ (rw left (rw good (rw new (rw given_more refl))));
      mark_each = length-set marks place true ∙ so_far.mark_each;
      place_each = length-set placed place y ∙ so_far.place_each;
      marked = λ k lt_k. marked_more (take rows given) marks number place k (omega (arith, so_far.mark_each)) node (so_far.marked k lt_k) ∙ ap (λ xs. list_any (int_eq (pos (k + 1))) xs) (sym given_more);
      at_place = λ k lt_k. rw given_more (rw beside_more (placed_more absent (take rows given) (take rows beside) placed number y place k (omega (arith, so_far.place_each)) node counts unseen (so_far.at_place k lt_k)));
    }

node_number : (nodes : ℕ) (number : ℤ) → is_node nodes number ≡ true → (k : ℕ) × (k < nodes) × (number ≡ pos (k + 1))
node_number nodes (pos zero) e = absurd cc
node_number nodes (pos (suc k)) e = (k, grind (arith, nat_tests, e), ap pos (sym (add-one k)))
node_number nodes (negsuc k) e = absurd cc

-- a number that is no node, or whose node was given, is refused
pub node_refused : {X : Type 0} (absent : X) (nodes : ℕ) (given : List ℤ) (beside : List X) (rows : ℕ) (marks : List Bool) (placed : List X) (number : ℤ)
    → ArePlaced absent nodes given beside rows marks placed → rows < length given → get_or given rows (pos 0) ≡ number → IsGivenOrNone marks number → bad_node nodes [] given ≡ Some number
node_refused absent nodes given beside rows marks placed number so_far lt number_is bad =
    let left : drop rows given ≡ number ∷ drop (rows + 1) given = rw add-one (drop-cons given rows (pos 0) lt ∙ ap (λ n. n ∷ drop (suc rows) given) number_is) in
    let refused : (is_node nodes number && not (list_any (int_eq number) (take rows given))) ≡ false =
    elim (cases_Bool (is_node nodes number)) [
      | inl here ↦
          let found = node_number nodes number here in
          let marked : get_or marks found.0 false ≡ true = bad found.0 (omega (arith, so_far.mark_each, found.1)) found.2 in
          let seen : list_any (int_eq number) (take rows given) ≡ true = rw found.2 (sym (so_far.marked found.0 found.1) ∙ marked) in
          rw here (rw seen refl)
      | inr gone ↦ rw gone refl
    ] in
    so_far.fault ∙ (rw left (rw refused refl))

-- all rows are put into their places
pub all_placed : {X : Type 0} (absent : X) (nodes : ℕ) (given : List ℤ) (beside : List X) (rows : ℕ) (marks : List Bool) (placed : List X)
    → ArePlaced absent nodes given beside rows marks placed → length given ≤ rows → length beside ≤ rows → (bad_node nodes [] given ≡ None) × (placed ≡ by_node absent nodes given beside)
all_placed absent nodes given beside rows marks placed so_far all all_beside = (
  so_far.fault ∙ (rw (drop_all rows given all) refl),
  ext_get_or absent placed (by_node absent nodes given beside) (so_far.place_each ∙ sym (length-map-range_with_len (beside_node absent given beside) 1 nodes))
      (λ k lt. so_far.at_place k (omega (arith, so_far.place_each))
      ∙ (rw (take_all rows given all) (rw (take_all rows beside all_beside) (sym (get_or-map-range_with_len (beside_node absent given beside) 1 nodes k (k + 1) absent (omega (arith, so_far.place_each)) (omega arith)))))),
)

low_bound : (node : Bool) (z : ℤ) → node ≡ false → cond node (neg_ℤ (pos 1000000000)) (neg_ℤ (pos 100000000)) ≤ℤ z → neg_ℤ (pos 100000000) ≤ℤ z
low_bound true z e h = absurd cc
low_bound false z e h = h

high_bound : (node : Bool) (z : ℤ) → node ≡ false → z ≤ℤ cond node (pos 1000000000) (pos 100000000) → z ≤ℤ pos 100000000
high_bound true z e h = absurd cc
high_bound false z e h = h

off_row : (row j : ℕ) → 0 < j → j < 3 → ((0 + (3 * row + j)) % 3 == 0) ≡ false
off_row row j some few =
    let rest : (0 + (3 * row + j)) % 3 ≡ j = ap (λ n. n % 3) (let e : 0 + (3 * row + j) ≡ row * 3 + j = omega arith in e) ∙ mod-mul-add row 3 j few in
    rw rest (grind (arith, nat_tests, some))

-- a number behind a node's number is a coordinate
pub coordinate_at : (numbers : List ℤ) (row j : ℕ) → AreWithin Coordinates 0 numbers → 0 < j → j < 3 → 3 * row + j < length numbers → IsCoordinate (get_or numbers (3 * row + j) (pos 0))
coordinate_at numbers row j within some few lt =
    let off : ((0 + (3 * row + j)) % 3 == 0) ≡ false = off_row row j some few in
    let here = within (3 * row + j) lt in
    (low_bound ((0 + (3 * row + j)) % 3 == 0) (get_or numbers (3 * row + j) (pos 0)) off here.0, high_bound ((0 + (3 * row + j)) % 3 == 0) (get_or numbers (3 * row + j) (pos 0)) off here.1)
