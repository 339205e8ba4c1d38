-- What comes of closing.
use Rattle.std.specs.Prelude.{List}
use Rattle.vrp_labels.specs.declared.closing.Closing.{Closing}
use Rattle.vrp_labels.specs.declared.closing.Closing.TheVariants.{Closed, Met}
use Rattle.vrp_labels.specs.declared.label.Label.{Label}

-- a fact of the labels that are kept, if no limit was met
abbrev pub IfClosed : Closing → (List (List Label) → Type 0) → Type 0
IfClosed (Closed kept) P = P kept
IfClosed (Met limit) P = Unit {0}
