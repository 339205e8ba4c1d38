-- The seats at the cost word, as contracts see them, and their views.
use Rattle.std.specs.Prelude.{◌≡◌, ℕ, ◌+◌, List, [], ◌∷◌, ◌++◌, true, false}
use Rattle.atomic_table.specs.Seated.{TableId}
use Rattle.atomic_table.specs.Table.{Step, Me}
use Rattle.vrp_sharing.specs.Caller.{RegisterState}
use Rattle.vrp_sharing.specs.Costs.{IsOffered, IsSeen, newcomer}
use Rattle.vrp_sharing.specs.declared.view.Known.{Known}
use Rattle.vrp_sharing.specs.declared.view.View.{View}

pub record WordState : Type 0 where
  pub table : TableId
  pub opening : ℕ
  -- the greatest number of callers
  pub count : ℕ

-- the word of a table: its key is the opening cost and the greatest number of callers
abbrev pub word_of : TableId → ℕ × ℕ → WordState
word_of table key = record { table = table; opening = key.0; count = key.1 }

-- the table is one word, without a lock
abbrev pub IsOneWord : TableId → Type 0
IsOneWord table = (table.words ≡ 1) × (table.slots ≡ 0)

-- the register with this word, as contracts see it
abbrev pub register_with : WordState → RegisterState
register_with word = record { callers = word.count; opening = word.opening; table = word.table }

pub record SeatState : Type 0 where
  pub table : TableId
  pub known : Known

pub record MakerState : Type 0 where
  pub table : TableId
  pub opening : ℕ
  -- the number of callers made so far
  pub next : ℕ

pub record ClosingState : Type 0 where
  pub table : TableId
  pub callers : List Known

-- a seat that has taken in these callers
abbrev pub closing_with : TableId → List Known → ClosingState
closing_with table callers = record { table = table; callers = callers }

-- the first seat with this view
abbrev pub maker_at : TableId → View → MakerState
maker_at table view = record { table = table; opening = view.opening; next = view.next }

-- the first seat of a word, which has made no caller yet
abbrev pub new_maker : TableId → ℕ → MakerState
new_maker table opening = record { table = table; opening = opening; next = 0 }

-- the first seat after it has made one more caller
abbrev pub maker_after : MakerState → MakerState
maker_after maker = record { table = maker.table; opening = maker.opening; next = maker.next + 1 }

-- the seat of the caller that it makes next
abbrev pub seat_made : TableId → MakerState → SeatState
seat_made table maker = record { table = table; known = newcomer maker.next maker.opening }

-- the closing seat with one more caller, before the others
abbrev pub with_caller : Known → ClosingState → ClosingState
with_caller known closing = closing_with closing.table (known ∷ closing.callers)

-- the view of a seat that has taken in these callers
abbrev pub seat_with : List Known → View
seat_with callers = record { makes = false; next = 0; opening = 0; callers = callers }

-- the view of a caller's seat
abbrev pub seat_of : Known → View
seat_of known = seat_with (known ∷ [])

-- the view of the first seat, which has made the callers below a number
abbrev pub maker : ℕ → ℕ → View
maker opening next = record { makes = true; next = next; opening = opening; callers = [] }

abbrev pub spent : View
spent = seat_with []

abbrev pub first_caller : List Known → Known
first_caller [] = newcomer 0 0
first_caller (known ∷ callers) = known

abbrev pub caller_of : View → Known
caller_of view = first_caller view.callers

-- the effect of a step, as its caller sees it
abbrev pub Offers : Step ℕ → Me ℕ View → ℕ → Me ℕ View → Type 0
Offers s v found w = (w ≡ (seat_of (caller_of w.0), [])) × IsOffered (caller_of v.0) s.first found (caller_of w.0)

abbrev pub Looks : Step ℕ → Me ℕ View → ℕ → Me ℕ View → Type 0
Looks s v found w = (w ≡ (seat_of (caller_of w.0), [])) × IsSeen (caller_of v.0) found (caller_of w.0)

-- the first seat makes the next caller
abbrev pub made_left : View → View
made_left v = maker v.opening (v.next + 1)

abbrev pub made_right : View → View
made_right v = seat_of (newcomer v.next v.opening)

-- a seat takes in the callers of another, before its own
abbrev pub taken_in : View → View → View
taken_in v w = seat_with (w.callers ++ v.callers)
