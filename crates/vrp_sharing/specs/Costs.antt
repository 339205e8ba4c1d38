-- The sequential history of costs: an opening cost, and a list of offers. The answer to an offer is the least cost before it,
-- and the answer to a look is the least cost so far.
use Rattle.std.specs.Prelude.{◌≡◌, ℕ, ◌≤◌, ◌==◌, min, List, [], ◌∷◌, ◌++◌, length, map}
use Rattle.std.specs.List.{All, Contains, filter, sum_by}
use Rattle.vrp_sharing.specs.declared.view.Known.{Known}
use Rattle.vrp_sharing.specs.declared.view.Offer.{Offer}

-- the least of the opening cost and the costs of the history
abbrev pub least_of : ℕ → List Offer → ℕ
least_of opening [] = opening
least_of opening (offer ∷ offers) = least_of (min opening offer.cost) offers

-- the offers of one caller, in order
abbrev pub offers_by : ℕ → List Offer → List Offer
offers_by number history = filter (λ offer. offer.caller == number) history

abbrev pub StartsWith : List Offer → List Offer → Type 0
StartsWith history seen = (rest : List Offer) × (history ≡ seen ++ rest)

-- a caller that has seen nothing and made no offer
abbrev pub newcomer : ℕ → ℕ → Known
newcomer number opening = record { number = number; opening = opening; seen = []; mine = [] }

-- the history has grown while the caller did not look; the answer is the least cost so far, and the caller's offer comes next
pub record IsOffered (known : Known) (cost answer : ℕ) (after : Known) : Type 0 where
  pub number : after.number ≡ known.number
  pub opening : after.opening ≡ known.opening
  pub between : List Offer
  pub least : answer ≡ least_of known.opening (known.seen ++ between)
  pub seen : after.seen ≡ (known.seen ++ between) ++ record { caller = known.number; cost = cost } ∷ []
  pub mine : after.mine ≡ known.mine ++ record { caller = known.number; cost = cost } ∷ []

-- the caller sees the history so far, its answer is the least cost in it, and it makes no offer
pub record IsSeen (known : Known) (answer : ℕ) (after : Known) : Type 0 where
  pub number : after.number ≡ known.number
  pub opening : after.opening ≡ known.opening
  pub seen : StartsWith after.seen known.seen
  pub least : answer ≡ least_of known.opening after.seen
  pub mine : after.mine ≡ known.mine

-- the caller's knowledge is true: the history begins with what it has seen, and its own offers are exactly its offers in the
-- history
pub record IsKnown (opening : ℕ) (history : List Offer) (known : Known) : Type 0 where
  pub opens : known.opening ≡ opening
  pub seen : StartsWith history known.seen
  pub mine : offers_by known.number history ≡ known.mine

-- this is the history of these callers, and of no others
pub record IsHistoryOf (opening : ℕ) (callers : List Known) (history : List Offer) : Type 0 where
  pub known : All (IsKnown opening history) callers
  pub no_other : All (λ offer. Contains (map (λ known. known.number) callers) offer.caller) history

-- how many offers these callers know as their own
abbrev pub offer_count : List Known → ℕ
offer_count callers = sum_by (λ known. length known.mine) callers

-- there is a history of these callers with this many offers, and this is the least cost in it
abbrev pub HaveHistory : ℕ → List Known → ℕ → ℕ → Type 0
HaveHistory opening callers count least =
    (history : List Offer) × IsHistoryOf opening callers history × (length history ≡ count) × (least ≡ least_of opening history)

-- the opening cost, and then the costs that were offered
abbrev pub costs_of : ℕ → List Offer → List ℕ
costs_of opening history = opening ∷ map (λ offer. offer.cost) history

-- the least cost is the opening cost, or one that was offered
abbrev pub LeastIsThere : ℕ → List Offer → Type 0
LeastIsThere opening history = Contains (costs_of opening history) (least_of opening history)

-- neither the opening cost nor one that was offered is less than the least cost
abbrev pub NoneIsLess : ℕ → List Offer → Type 0
NoneIsLess opening history = All (λ cost. least_of opening history ≤ cost) (costs_of opening history)

-- the least cost does not rise as the history grows
abbrev pub LeastNeverRises : ℕ → Type 0
LeastNeverRises opening = (history seen : List Offer) → StartsWith history seen → least_of opening history ≤ least_of opening seen
