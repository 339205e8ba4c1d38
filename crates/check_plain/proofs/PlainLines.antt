-- The lines of plain files.
use Rattle.std.proofs.Common.{◌≡◌, ℕ, ◌≤◌, ℤ, true, false, ◌==◌, nat_eq, nat_lt, Some, None, List, [], ◌∷◌, ◌++◌, length, map, take, drop, refl, sym, ap, ◌∙◌, subst, inl, inr, arith}
use Rattle.std.specs.Prelude.{codes, slice_index}
use Rattle.std.specs.List.{All, filter, slice_split, onto_first, starts_with}
use Rattle.std.specs.Char.{is_ascii_alphabetic}
use lib.Pointwise.{pointwise}
use Rattle.std.proofs.lemmas.Bool.{cases_Bool, eqb-true, and_parts, or_cases}
use Rattle.std.proofs.lemmas.Bool.Decides.{nat_tests}
use Rattle.std.proofs.lemmas.List.{take-append-drop}
use Rattle.std.proofs.lemmas.List.Elements.{All-nil, All-cons, All-head, All-tail}
use Rattle.std.proofs.lemmas.List.Splits.{slice_split-cons_yes, slice_split-cons_no, slice_split_none}
use Rattle.vrp_text.specs.Bytes.{is_blank, skip_while}
use Rattle.vrp_text.specs.Line.{Heading, Data, line_of, tokens_of}
use Rattle.check_plain.specs.Plain.{number_of, number_after, is_remark}
use Rattle.check_plain.specs.Plain.{tokens_of as plain_tokens}
use Rattle.vrp_text.specs.declared.lexer.key.Key.TheVariants as key
use Rattle.vrp_text.specs.declared.lexer.keyword.Keyword.TheVariants as keyword
use Rattle.check_plain.proofs.PlainNumbers.{Writes, number_is, no_blank, first_no_letter}

abbrev AreNoBlanks : List ℕ → Type 0
AreNoBlanks text = All (λ byte. is_blank byte ≡ false) text

-- a token is some bytes, none of which is a blank
abbrev IsToken : List ℕ → Type 0
IsToken text = (1 ≤ length text) × AreNoBlanks text

number_token : (text : List ℕ) (z : ℤ) → Writes text z → IsToken text
number_token text z writes = ((first_no_letter text z writes).0, no_blank text z writes)

-- the parts with a byte put before the first
split_onto : (x : ℕ) (here there : List (List ℕ)) → All AreNoBlanks (onto_first x there) → (All AreNoBlanks there → here ≡ there) → onto_first x here ≡ onto_first x there
split_onto x here [] all same = ap (onto_first x) (same (All-nil AreNoBlanks))
split_onto x here (part ∷ parts) all same =
    let first = All-tail (λ byte. is_blank byte ≡ false) x part (All-head AreNoBlanks (x ∷ part) parts all) in
    ap (onto_first x) (same (All-cons AreNoBlanks part parts first (All-tail AreNoBlanks (x ∷ part) parts all)))

onto_no_blank : (x : ℕ) (parts : List (List ℕ)) → All AreNoBlanks (onto_first x parts) → is_blank x ≡ false
onto_no_blank x [] all = All-head (λ byte. is_blank byte ≡ false) x [] (All-head AreNoBlanks (x ∷ []) [] all)
onto_no_blank x (part ∷ parts) all = All-head (λ byte. is_blank byte ≡ false) x part (All-head AreNoBlanks (x ∷ part) parts all)

-- where spaces are the only blanks
split_same : (text : List ℕ) → All AreNoBlanks (slice_split (λ byte. byte == 32) text) → slice_split is_blank text ≡ slice_split (λ byte. byte == 32) text
split_same [] all = refl
split_same (x ∷ xs) all =
    elim (cases_Bool (x == 32)) [
      | inl space ↦
          let blank : is_blank x ≡ true = rw space refl in
          let cut = slice_split-cons_yes (λ byte. byte == 32) x xs space in
          let rest = All-tail AreNoBlanks [] (slice_split (λ byte. byte == 32) xs) (subst (All AreNoBlanks) cut all) in
          slice_split-cons_yes is_blank x xs blank ∙ ap (λ (parts : List (List ℕ)). [] ∷ parts) (split_same xs rest) ∙ sym cut
      | inr other ↦
          let cut = slice_split-cons_no (λ byte. byte == 32) x xs other in
          let there = subst (All AreNoBlanks) cut all in
          let none : is_blank x ≡ false = onto_no_blank x (slice_split (λ byte. byte == 32) xs) there in
          slice_split-cons_no is_blank x xs none ∙ split_onto x (slice_split is_blank xs) (slice_split (λ byte. byte == 32) xs) there (split_same xs) ∙ sym cut
    ]

kept_all : (parts : List (List ℕ)) → All IsToken parts → filter (λ token. nat_lt 0 (length token)) parts ≡ parts
kept_all [] all = refl
kept_all (part ∷ parts) all =
    let some = (All-head IsToken part parts all).0 in
    let here : nat_lt 0 (length part) ≡ true = grind (arith, nat_tests) in
    rw here (ap (λ (later : List (List ℕ)). part ∷ later) (kept_all parts (All-tail IsToken part parts all)))

All-blanks : (parts : List (List ℕ)) → All IsToken parts → All AreNoBlanks parts
All-blanks parts all = λ k d lt. (all k d lt).1

tokens_same : (text : List ℕ) → All IsToken (plain_tokens text) → tokens_of text ≡ plain_tokens text
tokens_same text all =
    ap (filter (λ token. nat_lt 0 (length token))) (split_same text (All-blanks (plain_tokens text) all)) ∙ kept_all (plain_tokens text) all

onto_first_byte : (x : ℕ) (there : List (List ℕ)) (part : List ℕ) (parts : List (List ℕ)) → onto_first x there ≡ part ∷ parts → x ≡ slice_index part 0
onto_first_byte x [] part parts e = let same : x ∷ [] ≡ part = cc in ap (λ (text : List ℕ). slice_index text 0) same
onto_first_byte x (first ∷ there) part parts e = let same : x ∷ first ≡ part = cc in ap (λ (text : List ℕ). slice_index text 0) same

-- a line begins as its first token does
first_byte : (text part : List ℕ) (parts : List (List ℕ)) → plain_tokens text ≡ part ∷ parts → 1 ≤ length part → slice_index text 0 ≡ slice_index part 0
first_byte [] part parts e some = let none : [] ≡ part = cc in absurd (omega (arith, ap (λ (text : List ℕ). length text) none))
first_byte (x ∷ xs) part parts e some =
    elim (cases_Bool (x == 32)) [
      | inl space ↦
          let cut : [] ∷ slice_split (λ byte. byte == 32) xs ≡ part ∷ parts = sym (slice_split-cons_yes (λ byte. byte == 32) x xs space) ∙ e in
          let none : [] ≡ part = cc in
          absurd (omega (arith, ap (λ (text : List ℕ). length text) none))
      | inr other ↦ onto_first_byte x (slice_split (λ byte. byte == 32) xs) part parts (sym (slice_split-cons_no (λ byte. byte == 32) x xs other) ∙ e)
    ]

bare_line : (text : List ℕ) → is_blank (slice_index text 0) ≡ false → skip_while is_blank text ≡ text
bare_line [] e = refl
bare_line (x ∷ xs) e = rw e refl

data_of_tokens : (text : List ℕ) → is_blank (slice_index text 0) ≡ false → is_ascii_alphabetic (slice_index text 0) ≡ false → line_of text ≡ Data (tokens_of text)
data_of_tokens text bare none = rw (bare_line text bare) (rw none refl)

-- a line of numbers
pub data_line : (text part : List ℕ) (parts : List (List ℕ)) (z : ℤ) → plain_tokens text ≡ part ∷ parts → Writes part z → All IsToken parts → line_of text ≡ Data (part ∷ parts)
data_line text part parts z e writes all =
    let first = first_no_letter part z writes in
    let same = first_byte text part parts e first.0 in
    let tokens : All IsToken (plain_tokens text) = rw e (All-cons IsToken part parts (number_token part z writes) all) in
    data_of_tokens text (ap is_blank same ∙ first.1) (ap is_ascii_alphabetic same ∙ first.2) ∙ ap Data (tokens_same text tokens ∙ e)

one_token : (text : List ℕ) → IsToken text → tokens_of text ≡ text ∷ []
one_token text token =
    let some = token.0 in
    let here : nat_lt 0 (length text) ≡ true = grind (arith, nat_tests) in
    ap (filter (λ token. nat_lt 0 (length token))) (slice_split_none is_blank text token.1) ∙ rw here refl

-- a line of one number
pub number_line : (text : List ℕ) (z : ℤ) → Writes text z → line_of text ≡ Data (text ∷ [])
number_line text z writes =
    let first = first_no_letter text z writes in
    data_of_tokens text first.1 first.2 ∙ ap Data (one_token text (number_token text z writes))

-- three numbers in a line
pub record ThreeNumbers (tokens : List (List ℕ)) (x y z : ℤ) : Type 0 where
  pub first : List ℕ
  pub second : List ℕ
  pub third : List ℕ
  pub are : tokens ≡ first ∷ second ∷ third ∷ []
  pub x_is : Writes first x
  pub y_is : Writes second y
  pub z_is : Writes third z

-- two tokens, which write these numbers
pub record TwoNumbers (tokens : List (List ℕ)) (x y : ℤ) : Type 0 where
  pub first : List ℕ
  pub second : List ℕ
  pub are : tokens ≡ first ∷ second ∷ []
  pub x_is : Writes first x
  pub y_is : Writes second y

three_of : (tokens : List (List ℕ)) (x y z : ℤ) → map number_of tokens ≡ Some x ∷ Some y ∷ Some z ∷ [] → ThreeNumbers tokens x y z
three_of [] x y z e = absurd cc
three_of (a ∷ []) x y z e = absurd cc
three_of (a ∷ b ∷ []) x y z e = absurd cc
three_of (a ∷ b ∷ c ∷ []) x y z e = record { first = a; second = b; third = c; are = refl; x_is = number_is a x cc; y_is = number_is b y cc; z_is = number_is c z cc }
three_of (a ∷ b ∷ c ∷ d ∷ tokens) x y z e = absurd cc

two_of : (tokens : List (List ℕ)) (x y : ℤ) → map number_of tokens ≡ Some x ∷ Some y ∷ [] → TwoNumbers tokens x y
two_of [] x y e = absurd cc
two_of (a ∷ []) x y e = absurd cc
two_of (a ∷ b ∷ []) x y e = record { first = a; second = b; are = refl; x_is = number_is a x cc; y_is = number_is b y cc }
two_of (a ∷ b ∷ c ∷ tokens) x y e = absurd cc

All-one : (a : List ℕ) → IsToken a → All IsToken (a ∷ [])
All-one a token = All-cons IsToken a [] token (All-nil IsToken)

-- a line of three numbers, or of two
pub three_line : (text : List ℕ) (x y z : ℤ) → map number_of (plain_tokens text) ≡ Some x ∷ Some y ∷ Some z ∷ [] → (line_of text ≡ Data (plain_tokens text)) × ThreeNumbers (plain_tokens text) x y z
three_line text x y z e =
    let row = three_of (plain_tokens text) x y z e in (
      data_line text row.first (row.second ∷ row.third ∷ []) x row.are row.x_is
          (All-cons IsToken row.second (row.third ∷ []) (number_token row.second y row.y_is) (All-one row.third (number_token row.third z row.z_is)))
          ∙ ap Data (sym row.are),
      row,
    )

-- a line of two numbers
pub two_line : (text : List ℕ) (x y : ℤ) → map number_of (plain_tokens text) ≡ Some x ∷ Some y ∷ [] → (line_of text ≡ Data (plain_tokens text)) × TwoNumbers (plain_tokens text) x y
two_line text x y e =
    let row = two_of (plain_tokens text) x y e in
    (data_line text row.first (row.second ∷ []) x row.are row.x_is (All-one row.second (number_token row.second y row.y_is)) ∙ ap Data (sym row.are), row)

pointwise_same : (xs ys : List ℕ) → pointwise nat_eq xs ys ≡ true → xs ≡ ys
pointwise_same [] [] e = refl
pointwise_same [] (y ∷ ys) e = absurd cc
pointwise_same (x ∷ xs) [] e = absurd cc
pointwise_same (x ∷ xs) (y ∷ ys) e =
    let parts = and_parts (x == y) (pointwise nat_eq xs ys) e in
    let first : x ≡ y = eqb-true x y parts.0 in
    let rest = pointwise_same xs ys parts.1 in
    cc

-- what begins with some bytes is those and the others
begins : (text front : List ℕ) → starts_with nat_eq text front ≡ true → text ≡ front ++ drop (length front) text
begins text front e =
    let same = pointwise_same front (take (length front) text) e in
    sym (take-append-drop (length front) text) ∙ ap (λ (before : List ℕ). before ++ drop (length front) text) (sym same)

-- the first token behind a keyword, and the number that it writes
pub record StatesNumber (text : List ℕ) (front : List ℕ) (z : ℤ) : Type 0 where
  pub token : List ℕ
  pub spelled : text ≡ front ++ token
  pub writes : Writes token z

after_is : (text front : List ℕ) (z : ℤ) → number_after front text ≡ Some z → StatesNumber text front z
after_is text front z e =
    elim (cases_Bool (starts_with nat_eq text front)) [
      | inl same ↦
          let there : number_of (drop (length front) text) ≡ Some z = rw same at e in
          record { token = drop (length front) text; spelled = begins text front same; writes = number_is (drop (length front) text) z there }
      | inr none ↦ absurd (let no : None ≡ Some z = rw none at e in cc)
    ]

behind_space : (token : List ℕ) (z : ℤ) → Writes token z → tokens_of (32 ∷ token) ≡ token ∷ []
behind_space token z writes = one_token token (number_token token z writes)

dimension_heading : (more : List ℕ) → line_of (codes "DIMENSION : " ++ more) ≡ Heading (Some (keyword.Key key.Dimension)) (tokens_of (32 ∷ more))
dimension_heading more = refl

capacity_heading : (more : List ℕ) → line_of (codes "CAPACITY : " ++ more) ≡ Heading (Some (keyword.Key key.Capacity)) (tokens_of (32 ∷ more))
capacity_heading more = refl

name_heading : (more : List ℕ) → line_of (codes "NAME :" ++ more) ≡ Heading (Some keyword.Remark) (tokens_of more)
name_heading more = refl

comment_heading : (more : List ℕ) → line_of (codes "COMMENT :" ++ more) ≡ Heading (Some keyword.Remark) (tokens_of more)
comment_heading more = refl

-- the line of the dimension
pub dimension_line : (text : List ℕ) (z : ℤ) → number_after (codes "DIMENSION : ") text ≡ Some z → (token : List ℕ) × (line_of text ≡ Heading (Some (keyword.Key key.Dimension)) (token ∷ [])) × Writes token z
dimension_line text z e =
    let is = after_is text (codes "DIMENSION : ") z e in
    (is.token, ap line_of is.spelled ∙ dimension_heading is.token ∙ ap (Heading (Some (keyword.Key key.Dimension))) (behind_space is.token z is.writes), is.writes)

-- the line of the capacity
pub capacity_line : (text : List ℕ) (z : ℤ) → number_after (codes "CAPACITY : ") text ≡ Some z → (token : List ℕ) × (line_of text ≡ Heading (Some (keyword.Key key.Capacity)) (token ∷ [])) × Writes token z
capacity_line text z e =
    let is = after_is text (codes "CAPACITY : ") z e in
    (is.token, ap line_of is.spelled ∙ capacity_heading is.token ∙ ap (Heading (Some (keyword.Key key.Capacity))) (behind_space is.token z is.writes), is.writes)

-- a line of a remark
pub remark_line : (text : List ℕ) → is_remark text ≡ true → (tokens : List (List ℕ)) × (line_of text ≡ Heading (Some keyword.Remark) tokens)
remark_line text e =
    elim (or_cases (starts_with nat_eq text (codes "NAME :")) (starts_with nat_eq text (codes "COMMENT :")) e) [
      | inl named ↦ (tokens_of (drop 6 text), ap line_of (begins text (codes "NAME :") named) ∙ name_heading (drop 6 text))
      | inr comment ↦ (tokens_of (drop 9 text), ap line_of (begins text (codes "COMMENT :") comment) ∙ comment_heading (drop 9 text))
    ]

-- the lines that are spelled without any freedom
pub type_line : line_of (codes "TYPE : CVRP") ≡ Heading (Some (keyword.Key key.Problem)) (codes "CVRP" ∷ [])
type_line = refl

-- the line of the metric
pub metric_line : line_of (codes "EDGE_WEIGHT_TYPE : EUC_2D") ≡ Heading (Some (keyword.Key key.WeightKind)) (codes "EUC_2D" ∷ [])
metric_line = refl

-- the line before the points
pub points_line : line_of (codes "NODE_COORD_SECTION") ≡ Heading (Some (keyword.Key key.NodeCoord)) []
points_line = refl

-- the line before the demands
pub demands_line : line_of (codes "DEMAND_SECTION") ≡ Heading (Some (keyword.Key key.Demand)) []
demands_line = refl

-- the line before the depot
pub depots_line : line_of (codes "DEPOT_SECTION") ≡ Heading (Some (keyword.Key key.Depot)) []
depots_line = refl

-- the line behind the depot
pub depots_end : line_of (codes "-1") ≡ Data (codes "-1" ∷ [])
depots_end = refl

-- the last line
pub end_line : line_of (codes "EOF") ≡ Heading (Some keyword.End) []
end_line = refl
