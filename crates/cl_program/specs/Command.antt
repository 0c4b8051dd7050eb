-- The words of the command line, and the lines that are said of a command.
use Rattle.std.specs.Prelude.{◌≡◌, ℕ, List, [], ◌∷◌, ◌++◌, codes, ◌+◌, ◌*◌, Option, None, Some, option_and_then}
use Rattle.std.specs.Fmt.{decimal}
use Rattle.cl_cover.specs.PathText.{path_text}
use Rattle.cl_invocation.specs.Words.{Invocation, run, check, bench, invocation_of}
use Rattle.cl_load.specs.Reason.{Reason, refused, uncovered}
use Rattle.cl_session.specs.declared.totals.Totals.{Totals}

-- the words run this application, with this wire and this budget where they give one
abbrev pub IsRun : (words : List (List ℕ)) → (name : List ℕ) → (wire : Option (List ℕ)) → (budget : Option ℕ) → Type 0
IsRun words name wire budget = invocation_of words ≡ Some (run name wire budget)

-- the words check this application
abbrev pub IsCheck : (words : List (List ℕ)) → (name : List ℕ) → Type 0
IsCheck words name = invocation_of words ≡ Some (check name)

-- the words run the bench of so many items
abbrev pub IsBench : (words : List (List ℕ)) → (items : ℕ) → Type 0
IsBench words items = invocation_of words ≡ Some (bench items)

-- these words are no command
abbrev pub IsNoCommand : List (List ℕ) → Type 0
IsNoCommand words = invocation_of words ≡ None

-- the file of the application; a bench has none
abbrev pub application_of : Invocation → Option (List ℕ)
application_of (run name wire budget) = Some name
application_of (check name) = Some name
application_of (bench items) = None

-- the words name this file as an application's
abbrev pub Names : (words : List (List ℕ)) → (name : List ℕ) → Type 0
Names words name = option_and_then application_of (invocation_of words) ≡ Some name

-- the line of how the program is used
abbrev pub usage_line : List ℕ
usage_line = codes "usage: clim_run run APP [--wire NAME] [--budget N] | check APP | bench N" ++ 10 ∷ []

-- the line of an application that loads
abbrev pub loads_line : List ℕ
loads_line = codes "loads" ++ 10 ∷ []

-- the line of a refusal of this number, at this offset of the text
abbrev pub refusal_line : ℕ → ℕ → List ℕ
refusal_line number offset = codes "refused " ++ decimal number ++ codes " at " ++ decimal offset ++ 10 ∷ []

-- the line of a path as text that an update at this offset reads and does not cover
abbrev pub uncovered_line : ℕ → List ℕ → List ℕ
uncovered_line offset path = codes "refused 11 at " ++ decimal offset ++ codes " path " ++ path ++ 10 ∷ []

-- the line of why a text does not load
abbrev pub reason_line : Reason → List ℕ
reason_line (refused number at) = refusal_line number at
reason_line (uncovered u) = uncovered_line u.form (path_text u.path)

-- `bench N gestures G kept K moved M`
abbrev pub bench_head : (items kept moved : ℕ) → List ℕ
bench_head items kept moved = codes "bench " ++ decimal items ++ codes " gestures " ++ decimal (2 * items + 2)
    ++ codes " kept " ++ decimal kept ++ codes " moved " ++ decimal moved

-- ` drawn D erased E`
abbrev pub bench_tail : (drawn erased : ℕ) → List ℕ
bench_tail drawn erased = codes " drawn " ++ decimal drawn ++ codes " erased " ++ decimal erased ++ 10 ∷ []

-- the line of a bench of so many items, with the sums over what was told of its pane
abbrev pub bench_line : ℕ → Totals → List ℕ
bench_line items t = bench_head items t.kept t.moved ++ bench_tail t.drawn t.erased
