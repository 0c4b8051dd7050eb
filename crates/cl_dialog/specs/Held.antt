-- What the program holds and answers, in the words of the definitions.
use Rattle.std.specs.Prelude.{◌≡◌, ℕ, List, Option, option_map}
use Rattle.cl_dialog.specs.Exits.{ExitAt, Runs, Unset}
use Rattle.cl_dialog.specs.declared.dialogs.Query.{Query}
use Rattle.cl_dialog.specs.declared.exits.Exit.{Exit}
use Rattle.cl_dialog.specs.declared.exits.Exit.TheVariants as exit
use Rattle.cl_value.specs.Data.{Data}
use Rattle.cl_value.specs.Value.{data_of}

-- a query as its name with its value
abbrev pub query_of : Query → List ℕ × Option Data
query_of q = (q.name, option_map data_of q.value)

-- an answer is what the exit comes to; memory may be wanting
abbrev pub Exits : Exit → ExitAt → Type 0
Exits (exit.Arguments vs) (Runs ds) = vs ≡ ds
Exits (exit.Arguments vs) (Unset x) = ⊥
Exits (exit.Unset y) (Runs ds) = ⊥
Exits (exit.Unset y) (Unset x) = y ≡ x
Exits exit.Memory e = Unit {0}
