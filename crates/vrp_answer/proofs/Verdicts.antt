-- What follows once all outcomes are brought together.
use Rattle.std.proofs.Common.{◌≡◌, ◌∙◌, ℕ, ◌≤◌, ◌<◌, ◌⊎◌, inl, inr, Bool, true, false, true≢false, Option, Some, None, List, [], length, get_or, refl, sym, subst, ap, arith}
use Rattle.std.specs.Prelude.{◌↔◌, IsTrue, is_some, not, slice_index_or}
use Rattle.std.specs.List.{Contains}
use Rattle.std.specs.Option.{ForSome}
use Rattle.std.proofs.lemmas.Bool.{cases_Bool, cases_lt}
use Rattle.std.proofs.lemmas.List.{get_or_default, length-map}
use Rattle.std.proofs.lemmas.List.Elements.{All-contains}
use Rattle.std.proofs.Math.ListN.{get_or-eq_default}
use Rattle.vrp_model.specs.Cheapest.{HasNoPlan, NoneCheaper, cost_of}
use Rattle.vrp_model.specs.Order.{IsEarlier, IsCanonical}
use Rattle.vrp_model.specs.Problem.{HasTrucks, IsProblem, Problem, customers}
use Rattle.vrp_model.specs.Route.{IsLawful, IsPlanOf, PricedPlan, plan_cost}
use Rattle.vrp_model.specs.Word.{BeginsWith, IsLawfulWord, word_cost, word_of}
use Rattle.vrp_model.specs.declared.limits.TheConstants.{NO_COST}
use Rattle.vrp_sharing.specs.Pile.{AreShared}
use Rattle.vrp_search_tree.specs.Cutting.{AreNumbered, IsCutting, NumberedWord}
use Rattle.vrp_search_tree.specs.Search.{IsNotBefore, NoneBeforeUnder}
use Rattle.vrp_answer.specs.Answer.{IsAnswer, IsLeastLow, IsLeftOpen, known_plan, piece_of}
use Rattle.vrp_answer.specs.Gatherer.{IsAdded, IsFirstMissing, IsMissing}
use Rattle.vrp_answer.specs.Inner.Conclusion.{AreNoted, AreOpenPieces, IsLeftWith, IsNoLater, IsVerdict, numbers_of}
use Rattle.vrp_answer.specs.Outcomes.{Search, words_of}
use Rattle.vrp_answer.specs.declared.answers.Answer.{Answer}
use Rattle.vrp_answer.specs.declared.answers.Answer.TheVariants.{Proven, Open, NoPlan}
use Rattle.vrp_answer.specs.declared.open_pieces.OpenPieces.{OpenPieces}
use Rattle.vrp_answer.specs.declared.outcome.OpenPiece.{OpenPiece}
use Rattle.vrp_answer.proofs.BestPlan.{PlansCostLess, costs_no_less, not_before_plan, word_before}
use Rattle.vrp_answer.proofs.DrawnPieces.{drawn_at, prefix_at, is_numbered, none, number_at}
use Rattle.vrp_answer.proofs.Outcomes.{none_before_lower}
use Rattle.vrp_answer.proofs.SettledPieces.{added_or_missing, missing_within, not_both}

-- each feasible word is under one piece
abbrev pub OnePiece : Type 0
OnePiece = (p : Problem) (prefixes : List (List ℕ)) (word : List ℕ) → IsCutting p prefixes → IsLawfulWord p word
    → (k : ℕ) × (k < length prefixes) × BeginsWith word (slice_index_or prefixes k []) × ((j : ℕ) → j < length prefixes → BeginsWith word (slice_index_or prefixes j []) → j ≡ k)

-- each feasible plan has a feasible word of the same cost that is no later than its own
abbrev pub PlansHaveWords : Type 0
PlansHaveWords = (p : Problem) (routes : List (List ℕ)) → IsLawful p routes → (word : List ℕ) × IsLawfulWord p word × (word_cost p word ≡ plan_cost p routes) × (IsEarlier (word_of routes) word → ⊥)

-- ---- what is known, by the numbers of the cutting's pieces

by_number : (s : Search) (drawn put : List NumberedWord) (floor : ℕ) (best : Option PricedPlan) (added : List Bool) (left : List OpenPiece) (number : ℕ) → AreNumbered put → AreShared drawn [] put → AreNoted s floor best drawn added left → number < length put
    → Contains (numbers_of left) number ⊎ (IsAdded added number × NoneBeforeUnder s.problem (piece_of (words_of put) number) floor best)
by_number s drawn put floor best added left number numbers shared gathered within =
    let piece = get_or put number none in
    let own = number_at put number numbers within in
    let known = All-contains (λ (q : NumberedWord). Contains (numbers_of left) q.number ⊎ (IsAdded added q.number × NoneBeforeUnder s.problem q.word floor best)) drawn piece gathered.each (drawn_at drawn put number numbers shared within) in
    elim known [
      | inl inside ↦ inl (subst (Contains (numbers_of left)) own inside)
      | inr (is, before) ↦ inr (subst (IsAdded added) own is, subst (λ (w : List ℕ). NoneBeforeUnder s.problem w floor best) (sym (prefix_at put number within)) before)
    ]

-- before any piece is settled
pub none_settled : (s : Search) (drawn put : List NumberedWord) (floor : ℕ) (best : Option PricedPlan) (added : List Bool) (left : List OpenPiece) → AreNumbered put → AreShared drawn [] put → s.pieces ≡ length put → cost_of best ≤ floor
    → AreNoted s floor best drawn added left → AreOpenPieces s (words_of put) best (record { gatherer = added; cost = cost_of best; low = cost_of best }) left
none_settled s drawn put floor best added left numbers shared pieces falls gathered = record {
  priced = refl;
  count = count;
  places = λ k d lt.
      (let (inside, is) = gathered.are_left k d lt in
      let at = is_numbered drawn put (get_or left k d).piece numbers shared inside in
      record { within = omega (arith, at.within, many); prefix = at.prefix; is_left = is });
  once = gathered.once;
  apart = gathered.apart;
  finished = λ number is. elim (cases_lt number (length put)) [
    | inl within ↦ elim (by_number s drawn put floor best added left number numbers shared gathered within) [
      | inl inside ↦ absurd (gathered.apart number is inside)
      | inr (also, before) ↦ none_before_lower s.problem (piece_of (words_of put) number) floor (cost_of best) best falls before
    ]
    | inr beyond ↦ absurd (true≢false (sym is ∙ get_or-eq_default added false (omega (arith, beyond, count, many))))
  ];
  known = λ number within is. elim (by_number s drawn put floor best added left number numbers shared gathered (omega (arith, within, many))) [
    | inl inside ↦ inr inside
    | inr (also, before) ↦ absurd (not_both added number is also)
  ];
  met = inl refl;
  than_cost = omega arith;
}
  where
    many : length (words_of put) ≡ length put
    many = length-map put (λ (p : NumberedWord). p.word)

    count : length added ≡ length (words_of put)
    count = gathered.count ∙ pieces ∙ sym many

-- ---- words and plans

words_to_plans : PlansHaveWords → (p : Problem) (cost : ℕ) → ((word : List ℕ) → IsLawfulWord p word → cost ≤ word_cost p word) → NoneCheaper p cost
words_to_plans have p cost words = λ routes lawful.
    let (word, lawful_word, price, no_later) = have p routes lawful in
    omega (arith, words word lawful_word, price)

-- ---- no number is missing

all_finished : (s : Search) (cutting : List (List ℕ)) (best : Option PricedPlan) (open_pieces : OpenPieces) → AreOpenPieces s cutting best open_pieces [] → IsFirstMissing open_pieces.gatherer None
    → (number : ℕ) → number < length cutting → NoneBeforeUnder s.problem (piece_of cutting number) open_pieces.cost best
all_finished s cutting best open_pieces known missing number lt = known.finished number (missing number (omega (arith, lt, known.count)))

word_known : OnePiece → (s : Search) (cutting : List (List ℕ)) (floor : ℕ) (best : Option PricedPlan) → IsCutting s.problem cutting → ((number : ℕ) → number < length cutting → NoneBeforeUnder s.problem (piece_of cutting number) floor best)
    → (word : List ℕ) → IsLawfulWord s.problem word → IsNotBefore s.problem floor best word
word_known one s cutting floor best is_cutting all word lawful = let (k, lt, begins, only) = one s.problem cutting word is_cutting lawful in all k lt word lawful begins

proven : OnePiece → PlansHaveWords → (s : Search) (cutting : List (List ℕ)) (floor : ℕ) (plan : PricedPlan) → IsCutting s.problem cutting → IsPlanOf s.problem plan → plan.cost ≤ floor
    → ((number : ℕ) → number < length cutting → NoneBeforeUnder s.problem (piece_of cutting number) floor (Some plan)) → IsCanonical s.problem plan
proven one have s cutting floor plan is_cutting plan_of falls all = record {
  plan_of = plan_of;
  none_before = λ other other_of before.
      let (word, lawful, price, no_later) = have s.problem other.routes other_of.lawful in
      not_before_plan s.problem floor plan word falls (word_known one s cutting floor (Some plan) is_cutting all word lawful)
      (word_before other plan (word_cost s.problem word) word (price ∙ sym other_of.priced) no_later before);
}

no_plan : OnePiece → PlansHaveWords → PlansCostLess → (s : Search) (cutting : List (List ℕ)) (floor : ℕ) → IsProblem s.problem → IsCutting s.problem cutting → NO_COST ≤ floor
    → ((number : ℕ) → number < length cutting → NoneBeforeUnder s.problem (piece_of cutting number) floor None) → HasNoPlan s.problem
no_plan one have less s cutting floor problem is_cutting falls all = λ routes lawful.
    let none_cheaper = words_to_plans have s.problem NO_COST (λ word lawful_word. costs_no_less s.problem floor None word falls (word_known one s cutting floor None is_cutting all word lawful_word)) in
    omega (arith, none_cheaper routes lawful, less s.problem routes problem lawful)

-- ---- a number is missing

none_rests : (number : ℕ) → Contains (numbers_of []) number → ⊥
none_rests number (k, lt, is) = omega (arith, lt)

-- by number
abbrev is_missing : List Bool → ℕ → Bool
is_missing added number = not (get_or added number true)

was_missing : (added : List Bool) (number : ℕ) → is_missing added number ≡ true → IsMissing added number
was_missing added number is = elim (cases_Bool (get_or added number true)) [
  | inl there ↦ absurd (true≢false (sym is ∙ ap not there))
  | inr none ↦ none
]

was_added : (added : List Bool) (number : ℕ) → number < length added → is_missing added number ≡ false → IsAdded added number
was_added added number within is = elim (added_or_missing added number within) [
  | inl added ↦ added
  | inr missing ↦ absurd (true≢false (sym (ap not missing) ∙ is))
]

added_is : (added : List Bool) (number : ℕ) → number < length added → IsAdded added number → is_missing added number ≡ false
added_is added number within is = ap not (sym (get_or_default added number false true within) ∙ is)

left_with : (s : Search) (cutting : List (List ℕ)) (best : Option PricedPlan) (open_pieces : OpenPieces) (number : ℕ) → AreOpenPieces s cutting best open_pieces [] → number < length cutting → IsMissing open_pieces.gatherer number → IsLeftWith s (piece_of cutting number) open_pieces.low
left_with s cutting best open_pieces number known within is = elim (known.known number within is) [
  | inl with ↦ with
  | inr rests ↦ absurd (none_rests number rests)
]

-- no word costs less than the plan and all that is unfinished
no_word_cheaper : OnePiece → (s : Search) (cutting : List (List ℕ)) (best : Option PricedPlan) (open_pieces : OpenPieces) → IsCutting s.problem cutting → AreOpenPieces s cutting best open_pieces []
    → (word : List ℕ) → IsLawfulWord s.problem word → open_pieces.low ≤ word_cost s.problem word
no_word_cheaper one s cutting best open_pieces is_cutting known word lawful =
    let (k, lt, begins, only) = one s.problem cutting word is_cutting lawful in
    elim (added_or_missing open_pieces.gatherer k (omega (arith, lt, known.count))) [
      | inl added ↦ (let few = known.than_cost in omega (arith, few, known.priced, costs_no_less s.problem open_pieces.cost best word (omega (arith, known.priced)) (known.finished k added word lawful begins)))
      | inr missing ↦ (left_with s cutting best open_pieces k known lt missing).none_cheaper word lawful begins
    ]

least_low : (s : Search) (cutting : List (List ℕ)) (best : Option PricedPlan) (open_pieces : OpenPieces) → AreOpenPieces s cutting best open_pieces [] → IsLeastLow s.problem cutting (is_missing open_pieces.gatherer) (cost_of best) open_pieces.low
least_low s cutting best open_pieces known = record {
  met = elim known.met [
    | inl at_cost ↦ inl (at_cost ∙ known.priced)
    | inr (number, is, own) ↦ inr (number, omega (arith, missing_within open_pieces.gatherer number is, known.count), ap not is, own)
  ];
  than_cost = (let few = known.than_cost in omega (arith, few, known.priced));
  than_lows = λ number other within is own. (left_with s cutting best open_pieces number known within (was_missing open_pieces.gatherer number is)).than_low other own;
}

still_missing : (p : Problem) (opening best : Option PricedPlan) → (IsTrue (is_some opening) ↔ HasTrucks p (length (customers p))) → IsNoLater best opening → best ≡ None → HasTrucks p (length (customers p)) → ⊥
still_missing p None best told later none trucks = let never : false ≡ true = told.1 trucks in absurd (true≢false (sym never))
still_missing p (Some opening) best told later none trucks = let (kept, is, not_before) = later opening refl in absurd (let never : None ≡ Some kept = sym none ∙ is in cc)

left_open : OnePiece → PlansHaveWords → (s : Search) (cutting : List (List ℕ)) (best : Option PricedPlan) (open_pieces : OpenPieces) (first : ℕ) → IsCutting s.problem cutting → ForSome best (IsPlanOf s.problem)
    → (best ≡ None → HasTrucks s.problem (length (customers s.problem)) → ⊥) → AreOpenPieces s cutting best open_pieces [] → IsFirstMissing open_pieces.gatherer (Some first) → IsLeftOpen s.problem cutting s.budget s.may_stop best open_pieces.low first
left_open one have s cutting best open_pieces first is_cutting plan_of missing known is =
    let within : first < length open_pieces.gatherer = missing_within open_pieces.gatherer first is.0 in
    record {
      plan_of = plan_of;
      missing = missing;
      none_cheaper = words_to_plans have s.problem open_pieces.low (no_word_cheaper one s cutting best open_pieces is_cutting known);
      is_left = is_missing open_pieces.gatherer;
      first_is = (omega (arith, within, known.count), ap not is.0);
      lowest = λ number before. added_is open_pieces.gatherer number (omega (arith, before, within)) (is.1 number before);
      left = λ number inside left. (left_with s cutting best open_pieces number known inside (was_missing open_pieces.gatherer number left)).is_left;
      others = λ number inside other word lawful begins. costs_no_less s.problem (cost_of best) best word (omega arith)
          (subst (λ n. IsNotBefore s.problem n best word) known.priced (known.finished number (was_added open_pieces.gatherer number (omega (arith, inside, known.count)) other) word lawful begins));
      least = least_low s cutting best open_pieces known;
    }

-- ---- the answer

pub answer_is : OnePiece → PlansHaveWords → PlansCostLess → (s : Search) (cutting : List (List ℕ)) (opening best : Option PricedPlan) (open_pieces : OpenPieces) (answer : Answer) → IsProblem s.problem → IsCutting s.problem cutting
    → ForSome best (IsPlanOf s.problem) → (IsTrue (is_some opening) ↔ HasTrucks s.problem (length (customers s.problem))) → IsNoLater best opening → AreOpenPieces s cutting best open_pieces []
    → IsVerdict best open_pieces answer → IsAnswer s.problem cutting s.budget s.may_stop answer
answer_is one have less s cutting opening best open_pieces (Proven plan) problem is_cutting plan_of told later known (missing, is) =
    let all = all_finished s cutting best open_pieces known missing in
    proven one have s cutting open_pieces.cost plan is_cutting (plan_of plan is) (omega (arith, known.priced, ap cost_of is))
    (subst (λ (b : Option PricedPlan). (number : ℕ) → number < length cutting → NoneBeforeUnder s.problem (piece_of cutting number) open_pieces.cost b) is all)
answer_is one have less s cutting opening best open_pieces (Open plan low first) problem is_cutting plan_of told later known (missing, is, lower) =
    let open_is = left_open one have s cutting best open_pieces first is_cutting plan_of (still_missing s.problem opening best told later) known missing in
    subst (λ n. IsLeftOpen s.problem cutting s.budget s.may_stop plan n first) (sym lower) (subst (λ (b : Option PricedPlan). IsLeftOpen s.problem cutting s.budget s.may_stop b open_pieces.low first) is open_is)
answer_is one have less s cutting opening best open_pieces NoPlan problem is_cutting plan_of told later known (missing, is) =
    let all = all_finished s cutting best open_pieces known missing in
    no_plan one have less s cutting open_pieces.cost problem is_cutting (omega (arith, known.priced, ap cost_of is))
    (subst (λ (b : Option PricedPlan). (number : ℕ) → number < length cutting → NoneBeforeUnder s.problem (piece_of cutting number) open_pieces.cost b) is all)

-- the plan of the answer is the best one
pub best_answered : (best : Option PricedPlan) (open_pieces : OpenPieces) (answer : Answer) → IsVerdict best open_pieces answer → known_plan answer ≡ best
best_answered best open_pieces (Proven plan) (missing, is) = sym is
best_answered best open_pieces (Open plan low first) (missing, is, lower) = sym is
best_answered best open_pieces NoPlan (missing, is) = sym is
