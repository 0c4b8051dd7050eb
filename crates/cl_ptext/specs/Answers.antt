-- What the program answers, against what the definitions say. Out of memory says nothing.
use Rattle.std.specs.Prelude.{◌≡◌, Option, Some, None, Result, Ok, Err}
use Rattle.cl_value.specs.Data.{Data}
use Rattle.cl_value.specs.Value.{data_of}
use Rattle.cl_value.specs.declared.Value.{Value}
use Rattle.cl_eval.specs.declared.metering.Stop.{Stop}
use Rattle.cl_eval.specs.declared.metering.Stop.TheVariants as stop
use Rattle.cl_ptext.specs.Methods.{Reading, Object, Nothing, Trap}
use Rattle.cl_ptext.specs.declared.accepting.Accepted.{Accepted}
use Rattle.cl_ptext.specs.declared.accepting.Accepted.TheVariants as accepted

-- an object, none, or a trap
abbrev pub ReadsAs : Result (Option Value) Stop → Reading → Type 0
ReadsAs (Ok (Some v)) r = r ≡ Object (data_of v)
ReadsAs (Ok None) r = r ≡ Nothing
ReadsAs (Err (stop.Trap kind)) r = r ≡ Trap kind
ReadsAs (Err stop.Memory) r = Unit {0}

-- what accepting a text answers is this reading
abbrev pub Accepts : Accepted → Reading → Type 0
Accepts (accepted.Object v) r = r ≡ Object (data_of v)
Accepts accepted.Refused r = r ≡ Nothing
Accepts (accepted.Trap kind) r = r ≡ Trap kind
Accepts accepted.Memory r = Unit {0}

-- what is true of an object that was read
abbrev pub IfObject : Accepted → (Data → Type 0) → Type 0
IfObject (accepted.Object v) P = P (data_of v)
IfObject accepted.Refused P = Unit {0}
IfObject (accepted.Trap kind) P = Unit {0}
IfObject accepted.Memory P = Unit {0}

-- the object of the program, as a reading
abbrev pub object_if : Option Value → Reading
object_if None = Nothing
object_if (Some v) = Object (data_of v)
