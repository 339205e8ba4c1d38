-- What comes of extending labels.
use Rattle.std.specs.Prelude.{List, Vec}
use Rattle.std.specs.Global.{Global}
use Rattle.vrp_routes.specs.declared.label.Label.{Label}
use Rattle.vrp_routes.specs.declared.level.Extended.{Extended}
use Rattle.vrp_routes.specs.declared.level.Extended.TheVariants.{Labels, Met}
use Rattle.vrp_routes.specs.declared.level.Parts.{Parts}
use Rattle.vrp_routes.specs.declared.level.Parts.TheVariants.{Found, Stopped}

-- a fact of the labels, where there are some
abbrev pub IfLabels : {X : Type 0} → Extended X → (List (Label X) → Type 0) → Type 0
IfLabels (Labels labels) P = P labels.items
IfLabels (Met limit) P = Unit {0}

-- a fact of the parts, where there are some
abbrev pub IfParts : {X : Type 0} → Parts X → (List (Vec (Label X) Global) → Type 0) → Type 0
IfParts (Found parts found) P = P parts.items
IfParts (Stopped limit) P = Unit {0}
