-- The fault that is found first in the forms of a text is the one of least offset.
use Rattle.std.proofs.Common.{◌≡◌, ◌≤◌, ℕ, suc, arith, List, [], ◌∷◌, All, Contains, IfErr, refl, sym, ap, ◌∙◌, subst, le_of_eq, le_of_lt}
use Rattle.std.specs.Prelude.{Option, Some, None, Result, Ok, Err}
use Rattle.std.proofs.lemmas.List.Elements.{All-nil, All-cons, All-contains, All-weaker}
use Rattle.cl_forms.specs.Datum.{Datum}
use Rattle.cl_forms.specs.Outer.{outer_in, outers_of}
use Rattle.cl_forms.specs.declared.outer.DeclarationKind.{DeclarationKind}
use Rattle.cl_forms.specs.declared.outer.DeclarationKind.TheVariants.{Record, PresentationType, HostType, PresentMethod, AcceptMethod, Function, Display, CommandTable, Command}
use Rattle.cl_forms.specs.declared.outer.DeclarationKind.TheVariants.{Translator, CommandTranslator, Dialog, Frame}
use Rattle.cl_forms.specs.declared.outer.OuterKind.{OuterKind}
use Rattle.cl_forms.specs.declared.outer.OuterKind.TheVariants.{Declared, Planned, Unknown, Headless}
use Rattle.cl_expressions.specs.Load.{Load, Notes, Fault, after, ◌>>=◌, give}
use Rattle.cl_words.specs.declared.signatures.Signatures.{Signatures}
use Rattle.cl_declare.specs.Declarations.{parse_declared, parse_kind, parse_declaration, parse_each_declaration, parse_declarations, nothing_declared}
use Rattle.cl_declare.specs.declared.declarations.Declarations.{Declarations}
use Rattle.cl_declare.specs.declared.translator_shapes.TranslatorKind.TheVariants as translator
use Rattle.cl_faults.specs.Faults.{StandsIn, IsBefore, AreInOrder, HasFault, IsLeastFault}
use Rattle.cl_faults.proofs.FaultLemmas.{FaultsAt, outcome}
use Rattle.cl_faults.proofs.DataFaults.{CoversEach}
use Rattle.cl_faults.proofs.DeclarationFaults.{record_faults, function_faults, display_faults, declaration_faults}
use Rattle.cl_faults.proofs.CommandFaults.{command_table_faults, command_faults}
use Rattle.cl_faults.proofs.TranslatorFaults.{translator_faults}
use Rattle.cl_faults.proofs.DialogFaults.{dialog_faults}
use Rattle.cl_faults.proofs.FrameFaults.{frame_faults}
use Rattle.cl_faults.proofs.UserTypeFaults.{user_type_faults, host_type_faults, method_faults}

-- what a form comes to, and what forms come to, behind what was declared before
abbrev read : Signatures → Datum → Declarations → Load Declarations
read w d s = parse_declaration w (outer_in d) s

abbrev read_all : Signatures → List Datum → Declarations → Load Declarations
read_all w ds s = parse_each_declaration w (outers_of ds) s

abbrev Reading : Type 0
Reading = Result (Declarations × Notes) Fault

stands : (d : Datum) (r : Reading) (n o : ℕ) → IfErr r (λ fault. StandsIn fault.1 d) → r ≡ Err (n, o)
    → StandsIn o d
stands d r n o h e = subst (λ (q : Reading). IfErr q (λ fault. StandsIn fault.1 d)) e h

pub faults_stand_in_their_form : (w : Signatures) (d : Datum) (s : Declarations) (u : Notes) (n o : ℕ)
    → parse_declaration w (outer_in d) s u ≡ Err (n, o) → StandsIn o d
faults_stand_in_their_form w d s u n o e =
    stands d (read w d s u) n o ((declaration_faults {P = λ p. StandsIn p d} w d s (λ p h. h)).stand u) e

same_one : (a b : Fault) → ◌≡◌ {A = Option Fault} (Some a) (Some b) → a ≡ b
same_one a b h = cc

-- ---- the fault of a declaration does not depend on what was read before

abbrev fault_in : {A : Type 0} → Result A Fault → Option Fault
fault_in (Ok x) = None
fault_in (Err fault) = Some fault

-- at any offset
abbrev Anywhere : ℕ → Type 0
Anywhere o = Unit {0}

anywhere : (ds : List Datum) → CoversEach Anywhere ds
anywhere [] = tt
anywhere (d ∷ ds) = (λ o s. tt, anywhere ds)

given_same : {A B : Type 0} (f g : A → B) (r s : Result (A × Notes) Fault) → outcome r ≡ outcome s
    → fault_in (after r (λ x. give (f x))) ≡ fault_in (after s (λ x. give (g x)))
given_same f g (Ok x) (Ok y) h = refl
given_same f g (Ok x) (Err b) h = cc
given_same f g (Err a) (Ok y) h = cc
given_same f g (Err a) (Err b) h = cc

-- the same fault, or none
abbrev SameFault : Load Declarations → Load Declarations → Type 0
SameFault m k = (u v : Notes) → fault_in (m u) ≡ fault_in (k v)

row_same : {A : Type 0} {m : Load A} (f g : A → Declarations) → FaultsAt Anywhere m
    → SameFault (m >>= λ x. give (f x)) (m >>= λ x. give (g x))
row_same {m} f g h = λ u v. given_same f g (m u) (m v) (h.steady u v)

declared_same : (w : Signatures) (kind : DeclarationKind) (at : ℕ) (ds : List Datum) (s t : Declarations)
    → SameFault (parse_declared w kind at ds s) (parse_declared w kind at ds t)
declared_same w Record at ds s t = row_same _ _ (record_faults at ds tt)
declared_same w PresentationType at ds s t = row_same _ _ (user_type_faults w at ds tt (anywhere ds))
declared_same w HostType at ds s t = row_same _ _ (host_type_faults at ds tt)
declared_same w PresentMethod at ds s t = row_same _ _ (method_faults w at ds tt (anywhere ds))
declared_same w AcceptMethod at ds s t = row_same _ _ (method_faults w at ds tt (anywhere ds))
declared_same w Function at ds s t = row_same _ _ (function_faults w at ds tt (anywhere ds))
declared_same w Display at ds s t = row_same _ _ (display_faults w at ds tt (anywhere ds))
declared_same w CommandTable at ds s t = row_same _ _ (command_table_faults w at ds tt)
declared_same w Command at ds s t = row_same _ _ (command_faults w at ds tt (anywhere ds))
declared_same w Translator at ds s t = row_same _ _ (translator_faults w translator.Object at ds tt (anywhere ds))
declared_same w CommandTranslator at ds s t = row_same _ _ (translator_faults w translator.Command at ds tt (anywhere ds))
declared_same w Dialog at ds s t = row_same _ _ (dialog_faults w at ds tt (anywhere ds))
declared_same w Frame at ds s t = row_same _ _ (frame_faults w at ds tt (anywhere ds))

kind_same : (w : Signatures) (kind : OuterKind) (at : ℕ) (ds : List Datum) (s t : Declarations)
    → SameFault (parse_kind w kind at ds s) (parse_kind w kind at ds t)
kind_same w (Declared kind) at ds s t = declared_same w kind at ds s t
kind_same w (Planned head_at) at ds s t = λ u v. refl
kind_same w (Unknown head_at) at ds s t = λ u v. refl
kind_same w Headless at ds s t = λ u v. refl

declaration_same : (w : Signatures) (d : Datum) (s t : Declarations)
    → SameFault (read w d s) (read w d t)
declaration_same w d s t = kind_same w (outer_in d).kind (outer_in d).at (outer_in d).parts s t

-- ---- the first fault

-- no fault of the datum has an offset below this one
abbrev NoneBelow : Signatures → ℕ → Datum → Type 0
NoneBelow w o d = (s : Declarations) (u : Notes) (m p : ℕ) → read w d s u ≡ Err (m, p) → o ≤ p

faultless : (a b : Reading) (x : Declarations × Notes) (fault : Fault) → fault_in a ≡ fault_in b → a ≡ Ok x
    → b ≡ Err fault → ⊥
faultless a b x fault h e f = let g : None ≡ Some fault = sym (ap fault_in e) ∙ h ∙ ap fault_in f in cc

same_offset : (a b : Reading) (n o m p : ℕ) → fault_in a ≡ fault_in b → a ≡ Err (n, o)
    → b ≡ Err (m, p) → o ≡ p
same_offset a b n o m p h e f =
    let g : ◌≡◌ {A = Option Fault} (Some (n, o)) (Some (m, p)) = sym (ap fault_in e) ∙ h ∙ ap fault_in f in
    ap (λ k. k.1) (same_one (n, o) (m, p) g)

least_from : (w : Signatures) (d : Datum) (ds : List Datum) (s : Declarations) (u : Notes) (n o : ℕ) → All (IsBefore d) ds
    → ((x : Declarations × Notes) → read_all w ds x.0 x.1 ≡ Err (n, o) → All (NoneBelow w o) ds)
    → (r : Reading) → read w d s u ≡ r → after r (λ t. read_all w ds t) ≡ Err (n, o)
    → All (NoneBelow w o) (d ∷ ds)
least_from w d ds s u n o before rest (Ok x) e h =
    All-cons (NoneBelow w o) d ds
    (λ t v m p f. absurd (faultless (read w d s u) (read w d t v) x (m, p) (declaration_same w d s t u v) e f)) (rest x h)
least_from w d ds s u n o before rest (Err fault) e h =
    let found : read w d s u ≡ Err (n, o) = e ∙ h in
    All-cons (NoneBelow w o) d ds
    (λ t v m p f. le_of_eq (same_offset (read w d s u) (read w d t v) n o m p (declaration_same w d s t u v) found f))
    (All-weaker (IsBefore d) (NoneBelow w o)
    (λ c b t v m p f. le_of_lt (b o p (faults_stand_in_their_form w d s u n o found) (faults_stand_in_their_form w c t v m p f))) ds before)

least : (w : Signatures) (ds : List Datum) (s : Declarations) (u : Notes) (n o : ℕ) → AreInOrder ds → read_all w ds s u ≡ Err (n, o)
    → All (NoneBelow w o) ds
least w [] s u n o i h = All-nil (NoneBelow w o)
least w (d ∷ ds) s u n o i h =
    least_from w d ds s u n o i.0 (λ x k. least w ds x.0 x.1 n o i.1 k) (read w d s u) refl h

-- ---- the fault that is found is that of one of the data

found_in : (r : Reading) (fault : Fault) → fault_in r ≡ Some fault → r ≡ Err fault
found_in (Ok x) fault h = cc
found_in (Err other) fault h = cc

always : (w : Signatures) (d : Datum) (s : Declarations) (u : Notes) (n o : ℕ) → read w d s u ≡ Err (n, o) → HasFault w d n o
always w d s u n o e = λ t v.
    found_in (read w d t v) (n, o) (sym (declaration_same w d s t u v) ∙ ap fault_in e)

-- one of the data that has the fault
abbrev Owner : Signatures → List Datum → (n o : ℕ) → Type 0
Owner w ds n o = (d : Datum) × (Contains ds d × HasFault w d n o)

owner_from : (w : Signatures) (d : Datum) (ds : List Datum) (s : Declarations) (u : Notes) (n o : ℕ)
    → ((x : Declarations × Notes) → read_all w ds x.0 x.1 ≡ Err (n, o) → Owner w ds n o)
    → (r : Reading) → read w d s u ≡ r → after r (λ t. read_all w ds t) ≡ Err (n, o)
    → Owner w (d ∷ ds) n o
owner_from w d ds s u n o rest (Ok x) e h =
    let later = rest x h in
    (later.0, ((suc later.1.0.0, omega (arith, later.1.0.1), later.1.0.2), later.1.1))
owner_from w d ds s u n o rest (Err fault) e h = (d, ((0, omega arith, refl), always w d s u n o (e ∙ h)))

owner : (w : Signatures) (ds : List Datum) (s : Declarations) (u : Notes) (n o : ℕ) → read_all w ds s u ≡ Err (n, o) → Owner w ds n o
owner w [] s u n o h = cc
owner w (d ∷ ds) s u n o h =
    owner_from w d ds s u n o (λ x k. owner w ds x.0 x.1 n o k) (read w d s u) refl h

pub first_fault_has_least_offset : (w : Signatures) (ds : List Datum) (u : Notes) (n o : ℕ) → AreInOrder ds
    → parse_declarations w (outers_of ds) u ≡ Err (n, o) → IsLeastFault w ds n o
first_fault_has_least_offset w ds u n o i h =
    let one = owner w ds nothing_declared u n o h in
    record {
      form = one.0;
      stands = one.1.0;
      has = one.1.1;
      least = λ d s v m p c f. All-contains (NoneBelow w o) ds d (least w ds nothing_declared u n o i h) c s v m p f;
    }
