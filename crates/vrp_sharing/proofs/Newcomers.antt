-- Callers that have made no offer yet.
use Rattle.std.proofs.Common.{◌≡◌, ℕ, ◌+◌, List, [], ◌∷◌, ◌++◌, length, take, drop, refl, sym, subst, ◌∙◌, arith}
use Rattle.std.specs.List.{All, range_with_len}
use Rattle.std.proofs.Math.Seq.{take-append_seam}
use Rattle.std.proofs.lemmas.List.{length-map}
use Rattle.std.proofs.lemmas.List.Elements.{All-map}
use Rattle.std.proofs.lemmas.List.FromFn.{length-range_with_len, map-range_with_len_more}
use Rattle.atomic_table.specs.Seated.{TableId}
use Rattle.vrp_sharing.specs.Costs.{newcomer}
use Rattle.vrp_sharing.specs.Caller.{AreCallersOf, CallerState, IsCallerOf, RegisterState, newcomers}

-- one more caller
pub newcomers_more : (table : TableId) (opening n : ℕ) → newcomers table opening (n + 1) ≡ newcomers table opening n ++ record { table = table; known = newcomer n opening } ∷ []
newcomers_more table opening n = map-range_with_len_more (λ k. record { table = table; known = newcomer k opening }) 0 n n (omega arith)

-- they are callers of their register
pub newcomers_are_callers : (register : RegisterState) (opening n : ℕ) → All (IsCallerOf register) (newcomers register.table opening n)
newcomers_are_callers register opening n = All-map (IsCallerOf register) (λ number. record { table = register.table; known = newcomer number opening }) (range_with_len 0 n) (λ k d lt. refl)

pub length-newcomers : (table : TableId) (opening n : ℕ) → length (newcomers table opening n) ≡ n
length-newcomers table opening n = length-map (range_with_len 0 n) (λ number. record { table = table; known = newcomer number opening }) ∙ length-range_with_len 0 n

-- all callers of a register, after each was written back to its place
pub written_back : (register : RegisterState) (count : ℕ) (before after : List CallerState) → count ≡ register.callers → length after ≡ count → All (IsCallerOf register) after → AreCallersOf register (take count (after ++ drop (length after) before))
written_back register count before after all long are =
    let same : take count (after ++ drop (length after) before) ≡ after = subst (λ n. take n (after ++ drop (length after) before) ≡ after) long (take-append_seam after (drop (length after) before)) in
    subst (AreCallersOf register) (sym same) (long ∙ all, are)
