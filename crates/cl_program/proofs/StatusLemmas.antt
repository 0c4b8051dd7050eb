-- When a status is due.
use Rattle.std.proofs.Common.{◌≡◌, refl, ◌<◌, ◌≤◌, ℕ, List, [], ◌∷◌, ◌++◌, length, sym, ◌∙◌, ap, arith, append_assoc, append-nil, Some, None, Option, inl, inr, subst}
use Rattle.std.specs.Prelude.{◌⊎◌, Result, Ok, Err, option_and_then, option_map}
use Rattle.std.specs.Io.KnownBytes.{Consumes, IsAtEnd}
use Rattle.cl_application.specs.declared.applications.App.{App}
use Rattle.cl_frame.specs.Ground.{Ground}
use Rattle.cl_gesture.specs.Lines.{ended, pieces, held_from}
use Rattle.cl_gesture.proofs.Cutting.{pieces-further}
use Rattle.cl_invocation.specs.Words.{Invocation, run, check, bench, invocation_of}
use Rattle.cl_gen.specs.Workload.{application_text}
use Rattle.cl_load.specs.Application.{IsApplication, IsReason}
use Rattle.cl_load.specs.Reason.{Reason}
use Rattle.cl_load.specs.Types.{Bounds}
use Rattle.cl_load.proofs.OneOutcome.{one_outcome}
use Rattle.cl_outside.specs.Causes.{Rose}
use Rattle.cl_session.specs.declared.serving.End.{End}
use Rattle.cl_session.specs.declared.serving.End.TheVariants as end
use Rattle.cl_program.specs.Command.{IsBench, IsCheck, IsNoCommand, IsRun, Names, application_of}
use Rattle.cl_program.specs.Hosts.{HostMeanings}
use Rattle.cl_program.specs.Run.{AppFaultRose, IsLoaded, MakesText, NamesText, Opens, ReadToEnd, ReadToLimit, Refuses, Serves}
use Rattle.cl_program.specs.Statuses.{DeclaresApplication, HasFewLines, HasManyLines, HasRefusal}
use Rattle.cl_program.specs.Surroundings.{Placed, Streams}
use Rattle.cl_program.specs.Texts.{IsTextOf, first_bytes}

-- ---- the words

-- words name one file at most
pub one_name : (words : List (List ℕ)) (a b : List ℕ) → Names words a → Names words b → a ≡ b
one_name words a b p q = let both : Some a ≡ Some b = sym p ∙ q in cc

named : (words : List (List ℕ)) (i : Invocation) (name : List ℕ) → invocation_of words ≡ Some i → application_of i ≡ Some name → Names words name
named words i name e f = ap (option_and_then application_of) e ∙ f

pub run_named : (words : List (List ℕ)) (name : List ℕ) (wire : Option (List ℕ)) (budget : Option ℕ) → IsRun words name wire budget → Names words name
run_named words name wire budget is = named words (run name wire budget) name is refl

pub check_named : (words : List (List ℕ)) (name : List ℕ) → IsCheck words name → Names words name
check_named words name is = named words (check name) name is refl

-- words that are a command are not none
pub none_named : (words : List (List ℕ)) (name : List ℕ) → IsNoCommand words → Names words name → ⊥
none_named words name none is = let both : option_and_then application_of None ≡ Some name = ap (option_and_then application_of) (sym none) ∙ is in cc

abbrev is_run : Invocation → ℕ
is_run (run name wire budget) = 0
is_run (check name) = 1
is_run (bench items) = 2

-- words that run an application do not check one
pub not_checked : (words : List (List ℕ)) (name other : List ℕ) (wire : Option (List ℕ)) (budget : Option ℕ) → IsRun words name wire budget → IsCheck words other → ⊥
not_checked words name other wire budget r c =
    let same : Some (run name wire budget) ≡ Some (check other) = sym r ∙ c in
    let both : Some 0 ≡ Some 1 = ap (option_map is_run) same in
    cc

abbrev items_of : Invocation → ℕ
items_of (run name wire budget) = 0
items_of (check name) = 0
items_of (bench items) = items

some_number : (a b : ℕ) → ◌≡◌ {A = Option ℕ} (Some a) (Some b) → a ≡ b
some_number a b e = cc

-- words run one bench at most
pub one_bench : (words : List (List ℕ)) (a b : ℕ) → IsBench words a → IsBench words b → a ≡ b
one_bench words a b p q = some_number a b (ap (option_map items_of) (sym p ∙ q))

-- a bench is a command, and names no file
pub none_benched : (words : List (List ℕ)) (items : ℕ) → IsNoCommand words → IsBench words items → ⊥
none_benched words items none is = let both : None ≡ Some (bench items) = sym none ∙ is in cc

pub bench_unnamed : (words : List (List ℕ)) (items : ℕ) (name : List ℕ) → IsBench words items → Names words name → ⊥
bench_unnamed words items name is names =
    let both : option_and_then application_of (Some (bench items)) ≡ Some name = ap (option_and_then application_of) (sym is) ∙ names in cc

-- the fault of the application's name rose
pub fault_named : (words : List (List ℕ)) (old new : Placed) (name : List ℕ) → AppFaultRose words old new → Names words name → Rose (old.app_faults name) (new.app_faults name)
fault_named words old new name r is =
    subst (λ (n : List ℕ). Rose (old.app_faults n) (new.app_faults n)) (one_name words r.name name r.command is) r.rose

-- ---- the text

apart : (app : App) (reason : Reason) (a b : Result App Reason) → a ≡ Ok app → b ≡ Err reason → a ≡ b → ⊥
apart app reason a b x y same = cc

-- a text that has a refusal declares no application
not_both : (bounds : Bounds) (text : List ℕ) (app : App) (reason : Reason) → IsApplication bounds text app → IsReason bounds text reason → ⊥
not_both bounds text app reason is refusal =
    apart app reason (Ok app) (Err reason) refl refl (one_outcome bounds text (Ok app) (Err reason) is refusal)

none_declared : (bounds : Bounds) (file : Option (Option (List ℕ))) (text : List ℕ) (reason : Reason) → IsTextOf file text → IsReason bounds text reason
    → DeclaresApplication bounds file → ⊥
none_declared bounds None text reason of refusal d = d
none_declared bounds (Some None) text reason of refusal d = d
none_declared bounds (Some (Some bytes)) text reason of refusal d =
    let P : List ℕ → Type 0 = λ xs. IsApplication bounds xs d.0 in not_both bounds text d.0 reason (subst P (sym of) d.1) refusal

some_declared : (bounds : Bounds) (file : Option (Option (List ℕ))) (text : List ℕ) (app : App) (reason : Reason) → IsTextOf file text → IsApplication bounds text app
    → HasRefusal bounds file reason → ⊥
some_declared bounds None text app reason of is d = d
some_declared bounds (Some None) text app reason of is d = d
some_declared bounds (Some (Some bytes)) text app reason of is d =
    let P : List ℕ → Type 0 = λ xs. IsApplication bounds xs app in not_both bounds (first_bytes bytes) app reason (subst P of is) d

given_declares : (bounds : Bounds) (words : List (List ℕ)) (place : Placed) (text name : List ℕ) (reason : Reason) → IsReason bounds text reason
    → Names words name → DeclaresApplication bounds (place.file name) → NamesText words place text ⊎ MakesText words text → ⊥
given_declares bounds words place text name reason refusal is d (inl n) =
    let same : name ≡ n.name = one_name words name n.name is n.command in
    let P : List ℕ → Type 0 = λ n. DeclaresApplication bounds (place.file n) in
    none_declared bounds (place.file n.name) text reason n.of_file refusal (subst P same d)
given_declares bounds words place text name reason refusal is d (inr m) = bench_unnamed words m.items name m.command is

given_makes : (bounds : Bounds) (words : List (List ℕ)) (place : Placed) (text : List ℕ) (items : ℕ) (reason : Reason) (app : App) → IsReason bounds text reason
    → IsBench words items → IsApplication bounds (application_text items) app → NamesText words place text ⊎ MakesText words text → ⊥
given_makes bounds words place text items reason app refusal is d (inl n) = bench_unnamed words items n.name is n.command
given_makes bounds words place text items reason app refusal is d (inr m) =
    let same : text ≡ application_text items = m.made ∙ ap application_text (one_bench words m.items items m.command is) in
    let P : List ℕ → Type 0 = λ xs. IsReason bounds xs reason in
    not_both bounds (application_text items) app reason d (subst P same refusal)

given_commands : (words : List (List ℕ)) (place : Placed) (text : List ℕ) → IsNoCommand words → NamesText words place text ⊎ MakesText words text → ⊥
given_commands words place text none (inl n) = none_named words n.name none n.command
given_commands words place text none (inr m) = none_benched words m.items none m.command

-- a text that is refused declares no application
pub refused_declares : (bounds : Bounds) (words : List (List ℕ)) (place : Placed) (old new : Streams) (name : List ℕ)
    → Refuses bounds words place old new → Names words name → DeclaresApplication bounds (place.file name) → ⊥
refused_declares bounds words place old new name said is d =
    given_declares bounds words place said.refused.text name said.reason said.refused.refusal is d said.refused.given

-- the text of a bench that is refused declares no application
pub refused_makes : (bounds : Bounds) (words : List (List ℕ)) (place : Placed) (old new : Streams) (items : ℕ) (app : App)
    → Refuses bounds words place old new → IsBench words items → IsApplication bounds (application_text items) app → ⊥
refused_makes bounds words place old new items app said is d =
    given_makes bounds words place said.refused.text items said.reason app said.refused.refusal is d said.refused.given

-- words whose text is refused are a command
pub refused_commands : (bounds : Bounds) (words : List (List ℕ)) (place : Placed) (old new : Streams) → Refuses bounds words place old new → IsNoCommand words → ⊥
refused_commands bounds words place old new said none = given_commands words place said.refused.text none said.refused.given

-- a text that was opened is not refused
pub opened_declares : (hosts : HostMeanings) (words : List (List ℕ)) (place : Placed) (wire : Option (List ℕ)) (g : Ground) (name : List ℕ) (reason : Reason)
    → Opens hosts words place wire g → Names words name → HasRefusal hosts.bounds (place.file name) reason → ⊥
opened_declares hosts words place wire g name reason o is d =
    let same : name ≡ o.name = one_name words name o.name is (run_named words o.name wire o.budget o.command) in
    let P : List ℕ → Type 0 = λ n. HasRefusal hosts.bounds (place.file n) reason in
    some_declared hosts.bounds (place.file o.name) o.text g.app reason o.of_file o.declared (subst P same d)

-- nor is one that was loaded
pub loaded_declares : (bounds : Bounds) (words : List (List ℕ)) (place : Placed) (name : List ℕ) (reason : Reason)
    → IsLoaded bounds words place → Names words name → HasRefusal bounds (place.file name) reason → ⊥
loaded_declares bounds words place name reason o is d =
    let same : name ≡ o.name = one_name words name o.name is (check_named words o.name o.command) in
    let P : List ℕ → Type 0 = λ n. HasRefusal bounds (place.file n) reason in
    some_declared bounds (place.file o.name) o.text o.app reason o.of_file o.declared (subst P same d)

-- the text of a bench that was run is not refused
pub bench_declares : (bounds : Bounds) (words : List (List ℕ)) (items other : ℕ) (app : App) (reason : Reason)
    → IsBench words items → IsApplication bounds (application_text items) app → IsBench words other → IsReason bounds (application_text other) reason → ⊥
bench_declares bounds words items other app reason is declared also refusal =
    let same : application_text items ≡ application_text other = ap application_text (one_bench words items other is also) in
    let Q : List ℕ → Type 0 = λ xs. IsApplication bounds xs app in
    not_both bounds (application_text other) app reason (subst Q same declared) refusal

-- an application that is checked is not opened
pub opened_checked : (hosts : HostMeanings) (words : List (List ℕ)) (place : Placed) (wire : Option (List ℕ)) (g : Ground) (name : List ℕ) → Opens hosts words place wire g → IsCheck words name → ⊥
opened_checked hosts words place wire g name o is = not_checked words o.name name wire o.budget o.command is

-- ---- the gestures

pub more_lines : (left_old left_new : Option (List ℕ)) (read further : List ℕ) → Consumes left_old left_new (read ++ further) → held_from [] read ≡ []
    → length (ended read) ≡ 1000000 → 0 < length further → HasFewLines left_old → ⊥
more_lines None left_new read further c whole lines more few = few
more_lines (Some bytes) None read further c whole lines more few = c
more_lines (Some bytes) (Some rest) read [] c whole lines more few = omega (arith, more)
more_lines (Some bytes) (Some rest) read (byte ∷ further) c whole lines more few =
    let same : bytes ≡ read ++ byte ∷ (further ++ rest) = c ∙ append_assoc read (byte ∷ further) rest in
    let P : List ℕ → Type 0 = λ xs. length (pieces xs) ≤ 1000000 in
    let small : length (pieces (read ++ byte ∷ (further ++ rest))) ≤ 1000000 = subst P same few in
    omega (arith, pieces-further read byte (further ++ rest) whole, lines, small)

-- a further byte behind a million lines is a line more
pub limit_passed : (hosts : HostMeanings) (words : List (List ℕ)) (p q : Placed) (old new : Streams) (how : End) → how ≡ end.TooMany
    → Serves hosts words p q old new how → HasFewLines old.left → ⊥
limit_passed hosts words p q old new end.TooMany e s few =
    let r : ReadToLimit s.g old new s.device_old s.device_new s.totals = s.went in
    more_lines old.left new.left r.read r.further r.consumed r.whole r.lines r.more few
limit_passed hosts words p q old new end.Done e s few = cc
limit_passed hosts words p q old new end.ReadFault e s few = cc
limit_passed hosts words p q old new end.OutputFault e s few = cc

few_lines : (left_old left_new : Option (List ℕ)) (read : List ℕ) → Consumes left_old left_new read → IsAtEnd left_new
    → length (pieces read) ≤ 1000000 → HasManyLines left_old → ⊥
few_lines None left_new read c at_end few many = many
few_lines (Some bytes) None read c at_end few many = c
few_lines (Some bytes) (Some rest) read c at_end few many =
    let same : bytes ≡ read = c ∙ (ap (λ xs. read ++ xs) at_end ∙ append-nil read) in
    let P : List ℕ → Type 0 = λ xs. 1000000 < length (pieces xs) in
    let long : 1000000 < length (pieces read) = subst P same many in
    omega (arith, few, long)

-- gestures that were read to their end are at most a million lines
pub end_reached : (hosts : HostMeanings) (words : List (List ℕ)) (p q : Placed) (old new : Streams) (how : End) → how ≡ end.Done
    → Serves hosts words p q old new how → HasManyLines old.left → ⊥
end_reached hosts words p q old new end.Done e s many =
    let r : ReadToEnd s.g old new s.device_old s.device_new s.totals = s.went in few_lines old.left new.left r.read r.consumed r.at_end r.few many
end_reached hosts words p q old new end.TooMany e s many = cc
end_reached hosts words p q old new end.ReadFault e s many = cc
end_reached hosts words p q old new end.OutputFault e s many = cc
