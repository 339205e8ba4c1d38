-- When a plan under a prefix may be of use, by what its bound answers.
use Rattle.std.proofs.Common.{◌≡◌, ◌⊎◌, inl, inr, ℕ, ◌≤◌, ◌<◌, true, false, true≢false, Option, Some, List, refl, sym, arith}
use Rattle.std.specs.Prelude.{◌↔◌, IsTrue}
use Rattle.vrp_model.specs.Problem.{IsProblem, Problem}
use Rattle.vrp_model.specs.Word.{HasNoCompletion}
use Rattle.vrp_search_tree.specs.Low.{IsLow}
use Rattle.vrp_search_tree.specs.Pruned.{MayBeOfUse}
use Rattle.vrp_search_tree.proofs.OneLow.{one_low}

-- the same fact on either side of a test that failed, or held
never : (P : Type 0) → (P → ⊥) → IsTrue false ↔ P
never P none = (λ yes. absurd (let is : false ≡ true = yes in true≢false (sym is)), λ is. absurd (none is))

pub no_completion_of_no_use : (p : Problem) (among prefix : List ℕ) (least own : ℕ) → HasNoCompletion p prefix → IsTrue false ↔ MayBeOfUse p among prefix least own
no_completion_of_no_use p among prefix least own no_completion = never (MayBeOfUse p among prefix least own) (λ may. may.alive no_completion)

pub none_of_no_use : (p : Problem) (among prefix : List ℕ) (low : Option ℕ) (least own : ℕ) → IsProblem p → IsLow p among prefix low → ((some : ℕ) → low ≡ Some some → ⊥) → IsTrue false ↔ MayBeOfUse p among prefix least own
none_of_no_use p among prefix low least own problem is none = never (MayBeOfUse p among prefix least own) (λ may. none may.low (one_low p among prefix low (Some may.low) problem is may.is_low))

pub costly_of_no_use : (p : Problem) (among prefix : List ℕ) (low least own : ℕ) → IsProblem p → IsLow p among prefix (Some low) → (least < low) ⊎ (own ≤ low) → IsTrue false ↔ MayBeOfUse p among prefix least own
costly_of_no_use p among prefix low least own problem is costly = never (MayBeOfUse p among prefix least own) (λ may.
    let same = one_low p among prefix (Some low) (Some may.low) problem is may.is_low in
    let equal : low ≡ may.low = cc (same) in
    let no_more = may.no_more in
    let cheaper = may.cheaper in
    elim costly [
      | inl above ↦ omega (arith, above, equal, no_more)
      | inr no_less ↦ omega (arith, no_less, equal, cheaper)
    ])

pub may_be_of_use : (p : Problem) (among prefix : List ℕ) (low least own : ℕ) → (HasNoCompletion p prefix → ⊥) → IsLow p among prefix (Some low) → low ≤ least → low < own → IsTrue true ↔ MayBeOfUse p among prefix least own
may_be_of_use p among prefix low least own alive is no_more cheaper = (λ yes. record { alive = alive; low = low; is_low = is; no_more = no_more; cheaper = cheaper }, λ may. refl)
