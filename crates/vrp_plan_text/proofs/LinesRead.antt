-- How far the lines of a text are read.
use Rattle.std.proofs.Common.{◌≡◌, ◌∙◌, ℕ, ◌+◌, ◌-◌, ◌^◌, ◌<◌, ◌≤◌, ◌==◌, Bool, None, List, [], ◌∷◌, ◌++◌, length, map, min, sym, ap, subst, append_assoc, length-append, length-drop, arith}
use Rattle.std.specs.List.{position, position_or_len, slice_split}
use Rattle.std.proofs.lemmas.List.{length-map, length-take, map-append}
use Rattle.vrp_model.specs.Problem.{Problem}
use Rattle.vrp_plan_text.specs.Line.{Line, line_of, lines_of}
use Rattle.vrp_plan_text.specs.Solution.{HaveFault, IsRefusedFor}
use Rattle.vrp_plan_text.specs.Inner.Listing.{Keeps}
use Rattle.vrp_plan_text.specs.Inner.Parted.{ArePartedAt}
use Rattle.vrp_plan_text.specs.declared.reading.error.SolutionError.{SolutionError}
use Rattle.vrp_plan_text.specs.declared.reading.listing.ListedPlan.{ListedPlan}
use Rattle.vrp_plan_text.proofs.LineLemmas.{split_last, split_parted}

abbrev pub is_feed : ℕ → Bool
is_feed byte = byte == 10

-- these lines are read, and what stands behind them is left
pub record HasRead (p : Problem) (text left : List ℕ) (number : ℕ) (listing : ListedPlan) : Type 0 where
  pub done : List (List ℕ)
  pub parts : slice_split is_feed text ≡ done ++ slice_split is_feed left
  -- the number of the next line, as far as a u64 holds it
  pub numbered : length done + 1 < 2 ^ 64 → number ≡ length done + 1
  pub short : length done + length left ≤ length text
  pub keeps : Keeps p (map line_of done) listing

-- the number of a line that has a byte
pub number_of_line : (p : Problem) (text left line : List ℕ) (number : ℕ) (listing : ListedPlan) → (read : HasRead p text left number listing) → length text < 2 ^ 64 → length line ≤ length left → 0 < length line → number ≡ length (map line_of read.done) + 1
number_of_line p text left line number listing read bound part some =
    omega (arith, read.numbered (omega (arith, read.short, bound, part, some)), length-map read.done line_of)

-- a part is no longer than what it is a part of
pub before_is_part : (text before behind : List ℕ) → ArePartedAt is_feed text before behind → length before ≤ length text
before_is_part text before behind parted = omega (arith, ap length parted.stands_before, length-take (position_or_len is_feed text) text)

behind_is_shorter : (text before behind : List ℕ) → ArePartedAt is_feed text before behind → length behind < length text
behind_is_shorter text before behind parted = omega (arith, ap length parted.stands_behind, length-drop (position_or_len is_feed text + 1) text, parted.somewhere)

-- one line more
pub line_read : (p : Problem) (text left line behind : List ℕ) (number next : ℕ) (old new : ListedPlan) → (read : HasRead p text left number old) → ArePartedAt is_feed left line behind → next ≡ min (number + 1) (2 ^ 64 - 1)
    → ((lines : List Line) → Keeps p lines old → Keeps p (lines ++ line_of line ∷ []) new) → HasRead p text behind next new
line_read p text left line behind number next old new read parted counted keeps =
    let shorter = behind_is_shorter left line behind parted in
    let long : length (read.done ++ line ∷ []) ≡ length read.done + 1 = length-append read.done (line ∷ []) in
    record {
      done = read.done ++ line ∷ [];
      parts = read.parts ∙ ap (λ (l : List (List ℕ)). read.done ++ l) (split_parted is_feed left line behind parted) ∙ sym (append_assoc read.done (line ∷ []) (slice_split is_feed behind));
      numbered = λ fits. omega (arith, read.numbered (omega (arith, fits, long)), counted, fits, long);
      short = omega (arith, read.short, shorter, long);
      keeps = subst (λ (l : List Line). Keeps p l new) (sym (map-append line_of read.done (line ∷ []))) (keeps (map line_of read.done) read.keeps);
    }

-- all lines
pub all_read : (p : Problem) (text left : List ℕ) (number : ℕ) (old new : ListedPlan) → (read : HasRead p text left number old) → position is_feed left ≡ None → ((lines : List Line) → Keeps p lines old → Keeps p (lines ++ line_of left ∷ []) new) → Keeps p (lines_of text) new
all_read p text left number old new read none keeps =
    let whole : lines_of text ≡ map line_of read.done ++ line_of left ∷ [] = ap (map line_of) (read.parts ∙ ap (λ (l : List (List ℕ)). read.done ++ l) (split_last is_feed left none)) ∙ map-append line_of read.done (left ∷ []) in
    subst (λ (l : List Line). Keeps p l new) (sym whole) (keeps (map line_of read.done) read.keeps)

-- a fault of the next line
pub fault_next : (p : Problem) (text left line behind : List ℕ) (number : ℕ) (listing : ListedPlan) (fault : SolutionError) → (read : HasRead p text left number listing) → length text < 2 ^ 64 → ArePartedAt is_feed left line behind
    → ((lines more : List Line) → Keeps p lines listing → (0 < length line → number ≡ length lines + 1) → HaveFault p (lines ++ line_of line ∷ more) fault) → IsRefusedFor p text fault
fault_next p text left line behind number listing fault read bound parted told =
    let whole : lines_of text ≡ map line_of read.done ++ line_of line ∷ map line_of (slice_split is_feed behind) = ap (map line_of) (read.parts ∙ ap (λ (l : List (List ℕ)). read.done ++ l) (split_parted is_feed left line behind parted)) ∙ map-append line_of read.done (line ∷ slice_split is_feed behind) in
    subst (λ (l : List Line). HaveFault p l fault) (sym whole) (told (map line_of read.done) (map line_of (slice_split is_feed behind)) read.keeps (number_of_line p text left line number listing read bound (before_is_part left line behind parted)))

-- a fault of the last line
pub fault_last : (p : Problem) (text left : List ℕ) (number : ℕ) (listing : ListedPlan) (fault : SolutionError) → (read : HasRead p text left number listing) → length text < 2 ^ 64 → position is_feed left ≡ None
    → ((lines more : List Line) → Keeps p lines listing → (0 < length left → number ≡ length lines + 1) → HaveFault p (lines ++ line_of left ∷ more) fault) → IsRefusedFor p text fault
fault_last p text left number listing fault read bound none told =
    let whole : lines_of text ≡ map line_of read.done ++ line_of left ∷ [] = ap (map line_of) (read.parts ∙ ap (λ (l : List (List ℕ)). read.done ++ l) (split_last is_feed left none)) ∙ map-append line_of read.done (left ∷ []) in
    subst (λ (l : List Line). HaveFault p l fault) (sym whole) (told (map line_of read.done) [] read.keeps (number_of_line p text left left number listing read bound (omega arith)))
