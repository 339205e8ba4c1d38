-- Laws about all files: each has exactly one meaning.
use Rattle.std.specs.Prelude.{◌≡◌, ◌⊎◌, ℕ, Option, List}
use Rattle.vrp_model.specs.Problem.{Problem}
use Rattle.vrp_text.specs.Meaning.{MeansProblem, MeansRefusal}
use Rattle.vrp_text.specs.declared.error.TextError.{TextError}

-- any two problems that the bytes mean, with this node chosen, are equal
abbrev pub AtMostOneProblem : List ℕ → Option ℕ → Type 0
AtMostOneProblem bytes chosen = (p q : Problem) → MeansProblem bytes chosen p → MeansProblem bytes chosen q → p ≡ q

-- any two refusals that the bytes mean, with this node chosen, are equal
abbrev pub AtMostOneRefusal : List ℕ → Option ℕ → Type 0
AtMostOneRefusal bytes chosen = (e f : TextError) → MeansRefusal bytes chosen e → MeansRefusal bytes chosen f → e ≡ f

-- the bytes don't mean both a problem and a refusal
abbrev pub NotBoth : List ℕ → Option ℕ → Type 0
NotBoth bytes chosen = (p : Problem) (e : TextError) → MeansProblem bytes chosen p → MeansRefusal bytes chosen e → ⊥

-- the bytes mean a problem, or a refusal
abbrev pub ProblemOrRefusal : List ℕ → Option ℕ → Type 0
ProblemOrRefusal bytes chosen = ((p : Problem) × MeansProblem bytes chosen p) ⊎ ((e : TextError) × MeansRefusal bytes chosen e)
