-- The texts of refused files.
use Rattle.std.specs.Prelude.{ℕ, List, ◌++◌, codes, decimal}
use Rattle.std.specs.Fmt.{signed_decimal}
use Rattle.vrp_model.specs.declared.instance.InstanceError.{InstanceError}
use Rattle.vrp_model.specs.declared.instance.InstanceError.TheVariants as instance
use Rattle.vrp_text.specs.Keyword.{key_text}
use Rattle.vrp_text.specs.declared.error.TextError.{TextError}
use Rattle.vrp_text.specs.declared.error.TextError.TheVariants as text

abbrev pub on_line : ℕ → List ℕ → List ℕ
on_line line what = codes "line " ++ decimal line ++ what

abbrev pub at_node : ℕ → List ℕ → List ℕ
at_node node what = codes "node " ++ decimal node ++ what

abbrev pub instance_text : InstanceError → List ℕ
instance_text (instance.DepotDemand node) = at_node node (codes ": a depot has a demand")
instance_text (instance.NotADepot node) = at_node node (codes ": not a depot")
instance_text (instance.DemandOverCapacity node) = at_node node (codes ": demand above capacity")
instance_text instance.OutOfMemory = codes "out of memory"

abbrev pub refusal_text : TextError → List ℕ
refusal_text (text.DataOutside line) = on_line line (codes ": data outside a section")
refusal_text (text.UnknownKeyword line) = on_line line (codes ": unknown keyword")
refusal_text (text.Repeated line) = on_line line (codes ": repeated keyword")
refusal_text (text.BadValue line) = on_line line (codes ": bad value")
refusal_text (text.Unsupported line) = on_line line (codes ": not supported")
refusal_text (text.BadNumber line) = on_line line (codes ": bad number")
refusal_text (text.NotWhole line) = on_line line (codes ": number is not whole")
refusal_text (text.Missing key) = codes "missing " ++ key_text key
refusal_text (text.WrongCount key) = codes "wrong count in " ++ key_text key
refusal_text (text.BadNode key node) = codes "bad node " ++ signed_decimal node ++ codes " in " ++ key_text key
refusal_text (text.Instance refusal) = instance_text refusal
refusal_text text.TooLong = codes "input too long"
refusal_text text.OutOfMemory = codes "out of memory"
