-- What the fields of a path lead to.
use Rattle.std.specs.Prelude.{ℕ, List, [], ◌∷◌, Option, Some, None}
use Rattle.cl_value.specs.Data.{Data, rec}
use Rattle.cl_syntax.specs.Paths.{Along}
use Rattle.cl_syntax.specs.declared.paths.Path.{Path}
use Rattle.cl_syntax.specs.declared.paths.Root.{Root}
use Rattle.cl_syntax.specs.declared.paths.Root.TheVariants as root
use Rattle.cl_application.specs.App.{record_named}
use Rattle.cl_application.specs.declared.applications.App.{App}
use Rattle.cl_eval.specs.Operators.{field_place, list_of, part_at}
use Rattle.cl_eval.specs.Slots.{Slots, Env, value_named}

-- the part at a place, where there is a place
abbrev pub part_at_place : Option ℕ → List Data → Option Data
part_at_place None ds = None
part_at_place (Some n) ds = part_at n ds

-- the value of a field; None where the value is no record that has it
abbrev pub field_of : App → List ℕ → Data → Option Data
field_of app f (rec r ds) = part_at_place (field_place f (record_named r app)) (list_of ds)
field_of app f d = None

-- the same of a value that may not be there
abbrev pub field_at : App → List ℕ → Option Data → Option Data
field_at app f None = None
field_at app f (Some d) = field_of app f d

-- the value behind fields that are taken in turn
abbrev pub dig : App → Along → Option Data → Option Data
dig app [] o = o
dig app (f ∷ along) o = dig app along (field_at app f o)

-- the value of a variable or a slot
abbrev pub root_value : Root → Slots → Env → Option Data
root_value (root.Variable x) slots env = value_named x env
root_value (root.Slot x) slots env = value_named x slots

-- the value at a path; None where there is none
abbrev pub value_at : App → Path → Slots → Env → Option Data
value_at app p slots env = dig app p.fields (root_value p.root slots env)
