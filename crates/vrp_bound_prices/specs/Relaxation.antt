-- A problem whose plans bound those of another.
use Rattle.std.specs.Prelude.{◌≡◌, ℕ, ◌+◌, ◌*◌, ◌≤◌, List}
use Rattle.vrp_model.specs.Problem.{Problem, place_count}
use Rattle.vrp_model.specs.Word.{IsPrefix, IsLawfulWord, word_cost}

-- The same places and trucks. Each prefix of p is a prefix of q. Each feasible word of p is feasible in q, and its cost there
-- plus the rewards is at most `scale` times its cost in p plus the charges.
pub record IsRelaxation (p q : Problem) (scale charges rewards : ℕ) : Type 0 where
  pub same_places : place_count q ≡ place_count p
  pub same_trucks : q.trucks ≡ p.trucks
  pub prefixes : (prefix : List ℕ) → IsPrefix p prefix → IsPrefix q prefix
  pub lawful : (word : List ℕ) → IsLawfulWord p word → IsLawfulWord q word
  pub cheaper : (word : List ℕ) → IsLawfulWord p word → word_cost q word + rewards ≤ scale * word_cost p word + charges

-- a problem and a relaxation of it
pub record RelaxationOf : Type 0 where
  pub problem : Problem
  pub relaxed : Problem
  pub scale : ℕ
  pub charges : ℕ
  pub rewards : ℕ

-- a problem and its relaxation with this scale, these charges and rewards
abbrev pub relaxation_of : Problem → Problem → ℕ → ℕ → ℕ → RelaxationOf
relaxation_of problem relaxed scale charges rewards =
    record { problem = problem; relaxed = relaxed; scale = scale; charges = charges; rewards = rewards }

-- an invariant of every relaxation that is made
abbrev pub Bounds : RelaxationOf → Type 0
Bounds r = IsRelaxation r.problem r.relaxed r.scale r.charges r.rewards
