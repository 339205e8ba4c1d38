-- How a file is refused, and the error when no instance can be made from it.
use Rattle.std.specs.Prelude.{◌≢◌, IfErr, Result}
use Rattle.vrp_model.specs.declared.instance.InstanceError.{InstanceError}
use Rattle.vrp_model.specs.declared.instance.InstanceError.TheVariants as refusal
use Rattle.vrp_text.specs.declared.error.TextError.{TextError}
use Rattle.vrp_text.specs.declared.error.TextError.TheVariants as error

abbrev pub refusal_of : InstanceError → TextError
refusal_of refusal.OutOfMemory = error.OutOfMemory
refusal_of (refusal.DepotDemand node) = error.Instance (refusal.DepotDemand node)
refusal_of (refusal.NotADepot node) = error.Instance (refusal.NotADepot node)
refusal_of (refusal.DemandOverCapacity node) = error.Instance (refusal.DemandOverCapacity node)

-- a refusal is for this reason, or for lack of memory
abbrev pub Refuses : {X : Type 0} → Result X TextError → (TextError → Type 0) → Type 0
Refuses result is = IfErr result (λ refused. refused ≢ error.OutOfMemory → is refused)
