-- What comes of a pass.
use Rattle.vrp_priced_routes.specs.declared.pass.Pass.{Pass}
use Rattle.vrp_priced_routes.specs.declared.fault.PassFault.{PassFault}
use Rattle.vrp_priced_routes.specs.declared.pass.Passed.{Passed}
use Rattle.vrp_priced_routes.specs.declared.pass.Passed.TheVariants.{Closed, Met, Refused}

-- a fact of the labels and arcs, if labels were closed
abbrev pub IfPassed : Passed → (Pass → Type 0) → Type 0
IfPassed (Closed pass) P = P pass
IfPassed (Met limit) P = Unit {0}
IfPassed (Refused fault) P = Unit {0}

-- a fact of the fault, if the prices were refused
abbrev pub IfRefused : Passed → (PassFault → Type 0) → Type 0
IfRefused (Closed pass) P = Unit {0}
IfRefused (Met limit) P = Unit {0}
IfRefused (Refused fault) P = P fault
