-- How many routes a word opens behind a prefix.
use Rattle.std.proofs.Common.{◌≡◌, ℕ, zero, suc, ◌+◌, ◌<◌, List, [], ◌∷◌, ◌++◌, length, refl, ap, inl, inr, append_assoc, append-nil, arith}
use Rattle.std.proofs.lemmas.Bool.{cases_lt}
use Rattle.vrp_model.specs.Problem.{Problem}
use Rattle.vrp_model.specs.Word.{IsLawfulWord, last_symbol, routes_of}
use Rattle.vrp_model.proofs.PrefixWithSymbol.{closed_is_open, routes_at_depot}
use Rattle.vrp_model.proofs.LastRoute.{last_symbol_with, routes_with}
use Rattle.vrp_bound.proofs.ServedBehind.{prefix_of, with_symbol}

-- the routes that are opened by symbols behind this place
abbrev pub opened : ℕ → List ℕ → ℕ
opened at [] = 0
opened zero (zero ∷ more) = opened zero more
opened zero (suc k ∷ more) = 1 + opened (suc k) more
opened (suc j) (k ∷ more) = opened k more

opened_there : (at k : ℕ) (more : List ℕ) → 0 < at → opened at (k ∷ more) ≡ opened k more
opened_there zero k more some = absurd (omega (arith, some))
opened_there (suc j) k more some = refl

opened_here : (at k : ℕ) (more : List ℕ) → at ≡ 0 → opened at (suc k ∷ more) ≡ 1 + opened (suc k) more
opened_here zero k more none = refl
opened_here (suc j) k more none = absurd (omega (arith, none))

-- a word has the prefix's routes, and those that are opened behind it
pub routes_behind : (p : Problem) (prefix more : List ℕ) → IsLawfulWord p (prefix ++ more) → length (routes_of (prefix ++ more)) ≡ length (routes_of prefix) + opened (last_symbol prefix) more
routes_behind p prefix [] lawful = omega (arith, ap (λ (w : List ℕ). length (routes_of w)) (append-nil prefix))
routes_behind p prefix (zero ∷ more) lawful =
    let after = with_symbol p prefix more 0 lawful in
    let is_open = closed_is_open p prefix (prefix_of p (prefix ++ 0 ∷ []) more after) in
    let before = prefix_of p prefix (0 ∷ more) lawful in
    let rest = routes_behind p (prefix ++ 0 ∷ []) more after in
    omega (
      arith,
      rest,
      ap (λ (w : List ℕ). length (routes_of w)) (append_assoc prefix (0 ∷ []) more),
      ap length (routes_at_depot prefix before.stops is_open),
      ap (λ n. opened n more) (last_symbol_with prefix 0),
      opened_there (last_symbol prefix) 0 more is_open,
    )
routes_behind p prefix (suc k ∷ more) lawful =
    let after = with_symbol p prefix more (suc k) lawful in
    let before = prefix_of p prefix (suc k ∷ more) lawful in
    let rest = routes_behind p (prefix ++ suc k ∷ []) more after in
    let whole = ap (λ (w : List ℕ). length (routes_of w)) (append_assoc prefix (suc k ∷ []) more) in
    let on = ap (λ n. opened n more) (last_symbol_with prefix (suc k)) in
    let more_routes = routes_with prefix (suc k) before.stops (omega arith) in
    elim (cases_lt 0 (last_symbol prefix)) [
      | inl is_open ↦ omega (arith, rest, whole, on, more_routes.stays is_open, opened_there (last_symbol prefix) (suc k) more is_open)
      | inr closed ↦ (let none : last_symbol prefix ≡ 0 = omega (arith, closed) in omega (arith, rest, whole, on, more_routes.starts none, opened_here (last_symbol prefix) k more none))
    ]
