-- The callers of a new register.
use Rattle.std.proofs.Common.{◌≡◌, ◌∙◌, ℕ, ◌<◌, List, length, refl, subst, arith}
use Rattle.std.specs.List.{range_with_len}
use Rattle.std.proofs.lemmas.List.{get_or-map, length-map}
use Rattle.std.proofs.lemmas.List.FromFn.{length-range_with_len}
use Rattle.vrp_model.specs.Word.{IsPrefix}
use Rattle.vrp_sharing.specs.Caller.{CallerState, RegisterState, newcomers}
use Rattle.vrp_sharing.specs.Costs.{newcomer}
use Rattle.vrp_search_tree.specs.Cutting.{IsCutting, NumberedWord}
use Rattle.vrp_answer.specs.Outcomes.{Search, words_of}
use Rattle.vrp_solver.specs.Inner.Workers.{ArePrefixes, AreNewCallers}

pub new_callers : (register : RegisterState) (opening count : ℕ) → AreNewCallers register (newcomers register.table opening count)
new_callers register opening count = λ k d lt.
    let make : ℕ → CallerState = λ number. record { table = register.table; known = newcomer number opening } in
    let within : k < length (range_with_len 0 count) = omega (arith, lt, length-map (range_with_len 0 count) make) in
    rw (get_or-map make (range_with_len 0 count) k 0 d within) (refl, refl)

pub many_callers : (register : RegisterState) (opening count : ℕ) → length (newcomers register.table opening count) ≡ count
many_callers register opening count =
    let make : ℕ → CallerState = λ number. record { table = register.table; known = newcomer number opening } in
    length-map (range_with_len 0 count) make ∙ length-range_with_len 0 count

-- the pieces of a cutting are prefixes
pub are_prefixes : (s : Search) (put : List NumberedWord) → IsCutting s.problem (words_of put) → ArePrefixes s put
are_prefixes s put cutting = λ k d lt.
    subst (IsPrefix s.problem) (get_or-map (λ (p : NumberedWord). p.word) put k d d.word lt) (cutting.each k d.word (omega (arith, lt, length-map put (λ (p : NumberedWord). p.word))))
