-- One clause on an answer from others.
use Rattle.std.specs.Prelude.{IfNone, IfOk, IfSome, Option, Some, None, Result, Ok, Err}

-- of what is answered, from two facts
pub if_both : {T E : Type 0} (r : Result (Option T) E) (P Q R : T → Type 0) → ((x : T) → P x → Q x → R x) → IfOk r (λ o. IfSome o P) → IfOk r (λ o. IfSome o Q) → IfOk r (λ o. IfSome o R)
if_both (Ok (Some x)) P Q R goes p q = goes x p q
if_both (Ok None) P Q R goes p q = tt
if_both (Err e) P Q R goes p q = tt

-- where nothing is answered
pub if_none : {T E : Type 0} (r : Result (Option T) E) (P Q : Type 0) → (P → Q) → IfOk r (λ o. IfNone o P) → IfOk r (λ o. IfNone o Q)
if_none (Ok (Some x)) P Q goes p = tt
if_none (Ok None) P Q goes p = goes p
if_none (Err e) P Q goes p = tt
