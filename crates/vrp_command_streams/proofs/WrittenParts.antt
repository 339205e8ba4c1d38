-- A part of a list and what follows it.
use Rattle.std.proofs.Common.{◌≤◌, ◌+◌, ◌-◌, ℕ, List, Option, length, take, drop, arith, length-drop}
use Rattle.std.specs.Io.KnownBytes.{Appends}
use Rattle.std.proofs.KnownBytes.{Appends-trans}
use Rattle.std.proofs.Math.Seq.{take-add}
use Rattle.std.proofs.lemmas.List.{take_rest}

-- what is taken of the rest of a list that begins at some place lies within the list
pub written_within : (all : List ℕ) (written more : ℕ) → written ≤ length all → more ≤ length (take (length all - written) (drop written all)) → written + more ≤ length all
written_within all written more within bounded =
    let fewer = rw (take_rest all written, length-drop written all) at bounded in
    omega (arith, within, fewer)

-- a part is written, and then one of the rest
pub written_on : (old mid new : Option (List ℕ)) (all : List ℕ) (written more : ℕ) → Appends old mid (take written all)
    → Appends mid new (take more (take (length all - written) (drop written all))) → Appends old new (take (written + more) all)
written_on old mid new all written more begun next =
    rw (take-add written more all) (Appends-trans old mid new (take written all) (take more (drop written all)) begun (rw (take_rest all written) at next))
