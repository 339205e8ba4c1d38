-- What the value of an option is, and the number in it.
use Rattle.std.proofs.Common.{◌≡◌, ◌≢◌, ◌∙◌, ◌↔◌, Bool, IsTrue, is_some, subst, ◌+◌, ◌<◌, ◌≤◌, ◌++◌, ◌∷◌, [], ℕ, List, Bor, Option, None, Some, MatchOption, inl, inr, length, take, ap, refl, sym, arith, length-append, unwrap_or}
use Rattle.std.proofs.lemmas.List.{append_cancel_left, take_all, take_at}
use Rattle.std.specs.Io.{StartsWith}
use Rattle.std.specs.List.{HoldsAt}
use Rattle.std.specs.Option.{ForSome}
use Rattle.vrp_command_request.specs.Arguments.{HasArgumentFrom}
use Rattle.vrp_command_request.specs.Given.{GivesAt, GivesEither, GivesNext, GivesValue, IsBehind, IsGiven, IsGivenForm, IsGivenNumber, IsNamedBy, IsNumberOr, IsReadFrom}
use Rattle.vrp_command_request.specs.declared.options.Format.{Format}

-- what is known where there is no value
pub none_case : {X : Type 0} (r : Option X) (P : Type 0) (Q : X → Type 0) → MatchOption r P Q → ((x : X) → r ≡ Some x → ⊥) → P
none_case None P Q known never = known
none_case (Some x) P Q known never = absurd (never x refl)

-- a text is no longer than itself
none_longer : (name value : List ℕ) → name ≡ name ++ 61 ∷ value → ⊥
none_longer name value is = absurd (omega (arith, ap length is, length-append {A = ℕ}))

-- the argument behind one of this name is the value that it gives
pub from_next : (arguments : List (Bor (List ℕ))) (name : List ℕ) (at : ℕ) → HoldsAt (λ given. given.now ≡ name) arguments at → (next : Option (Bor (List ℕ)))
    → MatchOption next (length arguments ≤ at + 1) (λ value. GivesNext arguments at value.now)
    → IsGiven (GivesAt arguments name at) next
from_next arguments name at named None last = λ value gives. elim gives [
  | inl next ↦ (let more = next.1.0 in absurd (omega (arith, last, more)))
  | inr within ↦ none_longer name value (sym (named (record { ref_ptr = (0, 0); now = [] })) ∙ within (record { ref_ptr = (0, 0); now = [] }))
]
from_next arguments name at named (Some value) known = inl (named, known)

-- the number in a value that is given is given
pub given_number : (gives : List ℕ → Type 0) (value : Option (Bor (List ℕ))) (number : Option ℕ) → IsGiven gives value → IsReadFrom value number → IsGivenNumber gives number
given_number gives None None given read = given
given_number gives None (Some n) given read = cc
given_number gives (Some text) None given read = absurd read
given_number gives (Some text) (Some n) given read = (text.now, given, read)

-- and it is taken before the default
pub number_or : (gives : List ℕ → Type 0) (value : Option (Bor (List ℕ))) (number : Option ℕ) (default : ℕ) → IsGiven gives value → IsReadFrom value number → IsNumberOr gives default (unwrap_or number default)
number_or gives None None default given read = inr (given, refl)
number_or gives None (Some n) default given read = cc
number_or gives (Some text) None default given read = absurd read
number_or gives (Some text) (Some n) default given read = inl (text.now, given, read)

-- what holds of the number and of the default holds of the one that is taken
pub holds_or : (P : ℕ → Type 0) (number : Option ℕ) (default : ℕ) → ForSome number P → P default → P (unwrap_or number default)
holds_or P None default some known = known
holds_or P (Some n) default some known = some n refl

-- the value behind a name is what is behind '=' in the rest of the argument
pub behind_of : (name argument rest : List ℕ) (value : Option (Bor (List ℕ))) → argument ≡ name ++ rest → MatchOption value ((text : List ℕ) → rest ≢ 61 ∷ text) (λ text. rest ≡ 61 ∷ text.now)
    → IsGiven (IsBehind argument name) value
behind_of name argument rest None is none = λ text same. none text (append_cancel_left name rest (61 ∷ text) (sym is ∙ same))
behind_of name argument rest (Some text) is known = is ∙ ap (λ (l : List ℕ). name ++ l) known

-- where the name gives no value, the value is what the alias gives
pub by_alias : (arguments : List (Bor (List ℕ))) (name alias : List ℕ) (value : Option (Bor (List ℕ))) → ((text : List ℕ) → GivesValue arguments name text → ⊥) → IsGiven (GivesValue arguments alias) value
    → IsGiven (GivesEither arguments name alias) value
by_alias arguments name alias None none given = λ text gives. elim gives [
  | inl first ↦ none text first
  | inr second ↦ given text second
]
by_alias arguments name alias (Some text) none given = inr given

-- an argument begins with the name of the option that it gives a value to
begins : (arguments : List (Bor (List ℕ))) (name : List ℕ) (at : ℕ) (value : List ℕ) → GivesAt arguments name at value → HoldsAt (λ given. StartsWith given.now name) arguments at
begins arguments name at value (inl next) = λ d. ap (take (length name)) (next.0 d) ∙ take_all (length name) name (omega arith)
begins arguments name at value (inr within) = λ d. ap (take (length name)) (within d) ∙ take_at name (61 ∷ value) (length name) refl

pub given_from : (arguments : List (Bor (List ℕ))) (name value : List ℕ) → GivesValue arguments name value → HasArgumentFrom arguments name
given_from arguments name value gives = (gives.0, gives.1, begins arguments name gives.0 value gives.2)

-- the form that a given value names is given
pub given_form : (gives : List ℕ → Type 0) (value : Option (Bor (List ℕ))) (form : Format) → IsGiven gives value → IsNamedBy value form → IsGivenForm gives form
given_form gives None form given named = inr (given, named)
given_form gives (Some text) form given named = inl (subst gives named given)

-- there is a value where one is given
pub some_given : (gives : List ℕ → Type 0) (value : Option (Bor (List ℕ))) (some : Bool) → IsGiven gives value → some ≡ is_some value → IsTrue some ↔ ((text : List ℕ) × gives text)
some_given gives None some given is = ((λ yes. cc), λ one. absurd (given one.0 one.1))
some_given gives (Some text) some given is = ((λ yes. (text.now, given)), λ one. is)
