-- The functions and displays that a text declares have names.
use Rattle.std.proofs.Common.{◌≡◌, ℕ, Bool, true, false, if◌then◌else◌, List, [], ◌∷◌, ◌++◌, refl, ap, ◌∙◌}
use Rattle.std.specs.Prelude.{Option, Some, None, is_some, option_and_then}
use Rattle.std.specs.Option.{IfSome}
use Rattle.std.specs.Str.{bytes_eq}
use Rattle.cl_table.specs.Names.{named, with_first}
use Rattle.cl_forms.specs.Datum.{Datum, number, literal, word, quoted, stray, list, parts_of}
use Rattle.cl_forms.specs.Naming.{name_in, some_if, names_counted}
use Rattle.cl_forms.specs.Words.{is_name}
use Rattle.cl_forms.specs.Keys.{section_values}
use Rattle.cl_forms.specs.declared.keys.Key.TheVariants.{Slots, Panes}
use Rattle.cl_forms.specs.Outer.{Outer, declared_name, behind_name}
use Rattle.cl_forms.specs.declared.outer.DeclarationKind.{DeclarationKind}
use Rattle.cl_forms.specs.declared.outer.DeclarationKind.TheVariants.{Record, PresentationType, HostType, PresentMethod, AcceptMethod, Command, Translator, CommandTranslator, Dialog, Frame}
use Rattle.cl_forms.specs.declared.outer.DeclarationKind.TheVariants as kind
use Rattle.cl_forms.specs.declared.outer.OuterKind.{OuterKind}
use Rattle.cl_forms.specs.declared.outer.OuterKind.TheVariants.{Declared, Planned, Unknown, Headless}
use Rattle.cl_words.specs.Heads.{is_operator}
use Rattle.cl_words.specs.TypeNames.{is_standard_type}
use Rattle.cl_words.specs.Arguments.{arguments_behind}
use Rattle.cl_words.specs.Signatures.{parameters_counted, part_name, with_callee, with_type, with_slot, with_slots, with_pane, with_panes, with_sections}
use Rattle.cl_words.specs.Signatures.{is_global_table, with_command, with_dialog, with_table}
use Rattle.cl_words.specs.Signatures.{with_declaration, with_outer_kind, with_outer, with_outers, signatures_of, nothing_declared, function_count}
use Rattle.cl_words.specs.declared.signatures.Signatures.{Signatures}
use Rattle.cl_words.specs.declared.signatures.Callee.{Callee}
use Rattle.cl_words.specs.declared.signatures.CalleeKind.{CalleeKind}
use Rattle.cl_words.specs.declared.signatures.TypeKind.{TypeKind}
use Rattle.cl_words.specs.declared.signatures.TypeKind.TheVariants as type
use Rattle.cl_words.specs.declared.signatures.CalleeKind.TheVariants.{Function, Display}
use Rattle.cl_grammar.specs.Heads.{CallsNames}
use Rattle.cl_grammar.proofs.Spelled.{same_word, found_one}

-- each word of the table is a name
abbrev pub AreNamed : {D : Type 0} → List (List ℕ × D) → Type 0
AreNamed [] = Unit {0}
AreNamed (e ∷ es) = (is_name e.0 ≡ true) × AreNamed es

one_more : {D : Type 0} (es : List (List ℕ × D)) (x : List ℕ) (v : D) → AreNamed es → is_name x ≡ true → AreNamed (es ++ (x, v) ∷ [])
one_more [] x v h k = (k, tt)
one_more (e ∷ es) x v h k = (h.0, one_more es x v h.1 k)

pub found_named : {D : Type 0} (x : List ℕ) (es : List (List ℕ × D)) (d : D) → AreNamed es → named x es ≡ Some d → is_name x ≡ true
found_named x [] d h e = cc
found_named x (f ∷ es) d h e =
    found_one (bytes_eq x f.0) f.1 (named x es) d (is_name x ≡ true) (λ i. ap is_name (same_word x f.0 i) ∙ h.0) (found_named x es d h.1) e

name_named : (d : Datum) → IfSome (name_in d) (λ x. is_name x ≡ true)
name_named (word s at) = found (is_name s) refl
  where
    found : (b : Bool) → is_name s ≡ b → IfSome (some_if b s) (λ x. is_name x ≡ true)
    found true e = e
    found false e = tt
name_named (number z at) = tt
name_named (literal s at) = tt
name_named (quoted s at name_at) = tt
name_named (stray at) = tt
name_named (list ds at) = tt

-- each function and display that is declared has a name
abbrev DeclaresNamed : Signatures → Type 0
DeclaresNamed w = AreNamed w.callees

either_named : (b : Bool) (v w : Signatures) → DeclaresNamed v → DeclaresNamed w → DeclaresNamed (if b then v else w)
either_named true v w h k = h
either_named false v w h k = k

first_named : {D : Type 0} (b : Bool) (es fs : List (List ℕ × D)) → AreNamed es → AreNamed fs → AreNamed (if b then es else fs)
first_named true es fs h k = h
first_named false es fs h k = k

callee_named : (w : Signatures) (kind : CalleeKind) (name : Option (List ℕ)) (count : Option ℕ) → DeclaresNamed w → IfSome name (λ x. is_name x ≡ true)
    → DeclaresNamed (with_callee w kind name count)
callee_named w kind None count h k = h
callee_named w kind (Some x) count h k =
    let c : Callee = record { name = x; kind = kind; count = count } in
    either_named (is_operator x) w (record w { callees = with_first (λ (d : Callee). d.name) w.callees c }) h
    (first_named (is_some (named x w.callees)) w.callees (w.callees ++ (x, c) ∷ []) h (one_more w.callees x c h k))

type_named : (w : Signatures) (kind : TypeKind) (name : Option (List ℕ)) (count : Option ℕ) → DeclaresNamed w → DeclaresNamed (with_type w kind name count)
type_named w kind None count h = h
type_named w kind (Some x) count h = either_named (is_standard_type x) w _ h h

slot_named : (w : Signatures) (name : Option (List ℕ)) → DeclaresNamed w → DeclaresNamed (with_slot w name)
slot_named w None h = h
slot_named w (Some x) h = h

table_named : (w : Signatures) (name : Option (List ℕ)) → DeclaresNamed w → DeclaresNamed (with_table w name)
table_named w None h = h
table_named w (Some x) h = either_named (is_global_table x) w _ h h

command_named : (w : Signatures) (name : Option (List ℕ)) (arguments : Option (List (List ℕ))) → DeclaresNamed w → DeclaresNamed (with_command w name arguments)
command_named w None arguments h = h
command_named w (Some x) arguments h = h

dialog_named : (w : Signatures) (name : Option (List ℕ)) → DeclaresNamed w → DeclaresNamed (with_dialog w name)
dialog_named w None h = h
dialog_named w (Some x) h = h

pane_named : (w : Signatures) (name : Option (List ℕ)) → DeclaresNamed w → DeclaresNamed (with_pane w name)
pane_named w None h = h
pane_named w (Some x) h = h

slots_named : (w : Signatures) (ds : List Datum) → DeclaresNamed w → DeclaresNamed (with_slots w ds)
slots_named w [] h = h
slots_named w (d ∷ ds) h = slots_named (with_slot w (part_name (parts_of d))) ds (slot_named w (part_name (parts_of d)) h)

panes_named : (w : Signatures) (ds : List Datum) → DeclaresNamed w → DeclaresNamed (with_panes w ds)
panes_named w [] h = h
panes_named w (d ∷ ds) h = panes_named (with_pane w (part_name (parts_of d))) ds (pane_named w (part_name (parts_of d)) h)

sections_named : (w : Signatures) (ds : List Datum) → DeclaresNamed w → DeclaresNamed (with_sections w ds)
sections_named w [] h = h
sections_named w (d ∷ ds) h =
    let slots : Signatures = with_slots w (section_values Slots d) in
    sections_named (with_panes slots (section_values Panes d)) ds (panes_named slots (section_values Panes d) (slots_named w (section_values Slots d) h))

outer_named : (d : Option Datum) → IfSome (option_and_then name_in d) (λ x. is_name x ≡ true)
outer_named (Some d) = name_named d
outer_named None = tt

declaration_named : (w : Signatures) (k : DeclarationKind) (o : Outer) → DeclaresNamed w → DeclaresNamed (with_declaration w k o)
declaration_named w Record o h = type_named w type.Record (declared_name o) (names_counted (behind_name o)) h
declaration_named w PresentationType o h = type_named w type.User (declared_name o) (parameters_counted (behind_name o)) h
declaration_named w HostType o h = type_named w type.Host (declared_name o) None h
declaration_named w PresentMethod o h = h
declaration_named w AcceptMethod o h = h
declaration_named w kind.Function o h = callee_named w Function (declared_name o) (parameters_counted (behind_name o)) h (outer_named o.name)
declaration_named w kind.Display o h = callee_named w Display (declared_name o) (parameters_counted (behind_name o)) h (outer_named o.name)
declaration_named w kind.CommandTable o h = table_named w (declared_name o) h
declaration_named w Command o h = command_named w (declared_name o) (arguments_behind (behind_name o)) h
declaration_named w Translator o h = h
declaration_named w CommandTranslator o h = h
declaration_named w Dialog o h = dialog_named w (declared_name o) h
declaration_named w Frame o h = sections_named w (behind_name o) h

kind_named : (w : Signatures) (k : OuterKind) (o : Outer) → DeclaresNamed w → DeclaresNamed (with_outer_kind w k o)
kind_named w (Declared k) o h = declaration_named w k o h
kind_named w (Planned at) o h = h
kind_named w (Unknown at) o h = h
kind_named w Headless o h = h

outers_named : (w : Signatures) (os : List Outer) → DeclaresNamed w → DeclaresNamed (with_outers w os)
outers_named w [] h = h
outers_named w (o ∷ os) h = outers_named (with_outer w o) os (kind_named w o.kind o h)

pub callees_named : (forms : List Outer) → AreNamed (signatures_of forms).callees
callees_named forms = outers_named nothing_declared forms tt

counted_named : (x : List ℕ) (es : List (List ℕ × Callee)) (o : Option Callee) (count : Option ℕ) → AreNamed es → named x es ≡ o
    → function_count o ≡ Some count → is_name x ≡ true
counted_named x es (Some c) count h e i = found_named x es c h e
counted_named x es None count h e i = cc

pub declared_named : (forms : List Outer) → CallsNames (signatures_of forms)
declared_named forms x count e =
    let w : Signatures = signatures_of forms in
    counted_named x w.callees (named x w.callees) count (callees_named forms) refl e
