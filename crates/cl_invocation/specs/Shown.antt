-- What the program's values stand for.
use Rattle.std.specs.Prelude.{List, [], Option, None, Some, option_map, map}
use Rattle.std.specs.Borrow.{Bor}
use Rattle.cl_invocation.specs.declared.invocation.Invocation as code
use Rattle.cl_invocation.specs.declared.invocation.Invocation.TheVariants as variant
use Rattle.cl_invocation.specs.Words.{Text, Invocation, run, check, bench}

-- the texts behind references
abbrev pub texts : List (Bor Text) → List Text
texts = map (λ word. word.now)

-- the text behind a reference, if there is one
abbrev pub text : Option (Bor Text) → Option Text
text = option_map (λ word. word.now)

-- an invocation as it is shown to callers
abbrev pub invocation : code.Invocation → Invocation
invocation (variant.Run application wire budget) = run application.now (text wire) budget
invocation (variant.Check application) = check application.now
invocation (variant.Bench items) = bench items

-- the values of an argument, of which there may be none
abbrev pub values : Option (Bor (List (Bor Text))) → List Text
values None = []
values (Some given) = texts given.now
