-- The refusal that a request for an instance means.
use Rattle.std.specs.Prelude.{◌≡◌, true, false}
use Rattle.vrp_model.specs.Request.{Request, is_listed, NoDepotHasDemand, IsLowestDepotWithDemand, IsLowestTooHeavy, IsAcceptable}
use Rattle.vrp_model.specs.declared.instance.InstanceError.{InstanceError}
use Rattle.vrp_model.specs.declared.instance.InstanceError.TheVariants.{DepotDemand, NotADepot, DemandOverCapacity, OutOfMemory}

-- The first of three faults, in this order. Lack of memory is not a fault of the request.
abbrev pub IsRefusal : Request → InstanceError → Type 0
IsRefusal request (DepotDemand node) = IsLowestDepotWithDemand request.depots request.demands node
IsRefusal request (NotADepot node) =
    NoDepotHasDemand request.depots request.demands × (node ≡ request.chosen) × (is_listed request.depots node ≡ false)
IsRefusal request (DemandOverCapacity node) =
    NoDepotHasDemand request.depots request.demands × (is_listed request.depots request.chosen ≡ true)
    × IsLowestTooHeavy request.depots request.demands request.capacity node
IsRefusal request OutOfMemory = IsAcceptable request
