-- A text has one outcome: it declares one application, or it has one first refusal.
use Rattle.std.proofs.Common.{◌≡◌, ◌++◌, inl, inr, List, ℕ, [], ◌∷◌, length, subst, refl, sym, ap, ◌∙◌, arith}
use Rattle.std.specs.Prelude.{Result, Ok, Err}
use Rattle.cl_sexp.specs.declared.Token.{Token}
use Rattle.cl_sexp.specs.Tokens.{tokens_of}
use Rattle.std.specs.Prelude.{Option, Some, None}
use Rattle.cl_application.specs.declared.applications.App.{App}
use Rattle.cl_forms.specs.Datum.{Datum}
use Rattle.cl_forms.specs.Tree.{Tree, Trees, none, item, trees_of, spelled_all}
use Rattle.cl_forms.specs.Spelled.{lexemes}
use Rattle.cl_forms.proofs.OneTree.{one_forest}
use Rattle.cl_expressions.specs.Load.{Fault, Notes, nothing_noted}
use Rattle.cl_declare.specs.declared.declarations.Declarations.{Declarations}
use Rattle.cl_declare.specs.declared.frames.FrameForm.{FrameForm}
use Rattle.cl_phases.specs.SlotReads.{Functions}
use Rattle.cl_cover.specs.Updates.{uncovered_of}
use Rattle.cl_cover.specs.declared.updates.Uncovered.{Uncovered}
use Rattle.cl_load.specs.Application.{AreForms, IsUnreadable, ComesTo, HasOutcome, LoadsAs, data_of}
use Rattle.cl_load.specs.Outcome.{Comes, IsVerdict, Outcome, Settled, parse}
use Rattle.cl_lattice.specs.Firsts.{offset_of}
use Rattle.cl_phases.specs.Earlier.{earlier}
use Rattle.cl_load.specs.Reason.{Reason, refused, uncovered}
use Rattle.cl_opening.specs.Readings.{CommandReads, DialogReads, Finds, FindsReading, IsFirstReading, NoneReads, TypeReads, command_offset, dialog_offset}
use Rattle.cl_load.specs.Refusals.{app_in, faults, first_fault, form_faults, frame_faults, numbered, type_faults}
use Rattle.cl_load.specs.Types.{Bounds}
use Rattle.cl_load.proofs.TypeLemmas.{large_once, list_once, misfit_once}
use Rattle.cl_load.proofs.RingLemmas.{ring_once}

-- trees in a row
abbrev parse_in : Trees → List Tree
parse_in none = []
parse_in (item t ts) = t ∷ parse_in ts

in_row_trees : (ts : List Tree) → parse_in (trees_of ts) ≡ ts
in_row_trees [] = refl
in_row_trees (t ∷ ts) = ap (λ us. t ∷ us) (in_row_trees ts)

same_tokens : (x : Result (List Token) (ℕ × ℕ)) (s t : List Token) → x ≡ Ok s → x ≡ Ok t → s ≡ t
same_tokens x s t p q = cc

no_tokens : (x : Result (List Token) (ℕ × ℕ)) (s : List Token) (fault : ℕ × ℕ) → x ≡ Ok s → x ≡ Err fault → ⊥
no_tokens x s fault p q = cc

same_fault : (x : Result (List Token) (ℕ × ℕ)) (s t : ℕ × ℕ) → x ≡ Err s → x ≡ Err t → s ≡ t
same_fault x s t p q = cc

-- a text has one tree of forms
same_forms : (bytes : List ℕ) (forms others : List Tree) → AreForms bytes forms → AreForms bytes others → forms ≡ others
same_forms bytes forms others a b =
    let t : a.tokens ≡ b.tokens = same_tokens (tokens_of bytes) a.tokens b.tokens a.read b.read in
    let spell : spelled_all (trees_of forms) ≡ spelled_all (trees_of others) = sym a.spelled ∙ ap (lexemes bytes) t ∙ b.spelled in
    let trees : trees_of forms ≡ trees_of others = one_forest (trees_of forms) (trees_of others) spell in
    sym (in_row_trees forms) ∙ ap parse_in trees ∙ in_row_trees others

first_once : (fs : Functions) (frames : List FrameForm) (m n : ℕ) → IsFirstReading fs frames m → IsFirstReading fs frames n → m ≡ n
first_once fs [] m n x y = absurd x
first_once fs (f ∷ more) m n (inl x) (inl y) = x.1 ∙ sym y.1
first_once fs (f ∷ more) m n (inl x) (inr y) = absurd (y.0 x.0)
first_once fs (f ∷ more) m n (inr x) (inl y) = absurd (x.0 y.0)
first_once fs (f ∷ more) m n (inr x) (inr y) = first_once fs more m n x.1 y.1

none_first : (fs : Functions) (frames : List FrameForm) (at : ℕ) → IsFirstReading fs frames at → NoneReads fs frames → ⊥
none_first fs [] at x u = x
none_first fs (f ∷ more) at (inl x) u = u.0 x.0
none_first fs (f ∷ more) at (inr x) u = none_first fs more at x.1 u.1

found_once : (fs : Functions) (frames : List FrameForm) (r q : Option ℕ) → Finds fs frames r → Finds fs frames q → r ≡ q
found_once fs frames (Some m) (Some n) x y = ap (λ (at : ℕ). Some at) (first_once fs frames m n x y)
found_once fs frames (Some m) None x y = absurd (none_first fs frames m x y)
found_once fs frames None (Some n) x y = absurd (none_first fs frames n y x)
found_once fs frames None None x y = refl

reading_once : (s : Declarations) (r q : Option ℕ) → FindsReading s r → FindsReading s q → r ≡ q
reading_once s r q x y =
    let frame : x.frame ≡ y.frame = found_once s.functions s.frames x.frame y.frame x.frame_found y.frame_found in
    let user_type : x.user_type ≡ y.user_type = list_once (TypeReads s.functions) offset_of s.types x.user_type y.user_type x.type_found y.type_found in
    let command : x.command ≡ y.command =
    list_once (CommandReads s.functions) command_offset s.commands x.command y.command x.command_found y.command_found in
    let dialog : x.dialog ≡ y.dialog =
    list_once (DialogReads s.functions) dialog_offset s.dialogs x.dialog y.dialog x.dialog_found y.dialog_found in
    x.first ∙ ap (λ (o : Option ℕ). earlier o (earlier x.user_type (earlier x.command x.dialog))) frame
    ∙ ap (λ (o : Option ℕ). earlier y.frame (earlier o (earlier x.command x.dialog))) user_type
    ∙ ap (λ (o : Option ℕ). earlier y.frame (earlier y.user_type (earlier o x.dialog))) command
    ∙ ap (λ (o : Option ℕ). earlier y.frame (earlier y.user_type (earlier y.command o))) dialog ∙ sym y.first

same_app : (app : Option App) (a b : App) → app ≡ Some a → app ≡ Some b → ◌≡◌ {A = Result App Fault} (Ok a) (Ok b)
same_app app a b p q = cc

-- one fault, or one application
verdict_once : (first : Option Fault) (app : Option App) (a b : Result App Fault) → IsVerdict first app a → IsVerdict first app b → a ≡ b
verdict_once (Some fault) app a b x y = x ∙ sym y
verdict_once None app (Ok a) (Ok b) x y = same_app app a b x y
verdict_once None app (Ok a) (Err g) x y = absurd y
verdict_once None app (Err f) b x y = absurd x

-- the same is the first of two rows where their first parts are the same, and have a fault or more of the same behind them
first_by : (xs ys zs : List (Option Fault)) → (first_fault xs ≡ None → first_fault ys ≡ first_fault zs) → first_fault (xs ++ ys) ≡ first_fault (xs ++ zs)
first_by [] ys zs h = h refl
first_by (None ∷ xs) ys zs h = first_by xs ys zs h
first_by (Some f ∷ xs) ys zs h = refl

numbered_same : (n : ℕ) (r : Option ℕ) (ys zs : List (Option Fault)) → (r ≡ None → first_fault ys ≡ first_fault zs)
    → first_fault (numbered n r ∷ ys) ≡ first_fault (numbered n r ∷ zs)
numbered_same n None ys zs h = h refl
numbered_same n (Some at) ys zs h = refl

numbered_by : (n : ℕ) (r q : Option ℕ) (ys zs : List (Option Fault)) → r ≡ q → (r ≡ None → first_fault ys ≡ first_fault zs)
    → first_fault (numbered n r ∷ ys) ≡ first_fault (numbered n q ∷ zs)
numbered_by n r q ys zs e h = subst (λ (p : Option ℕ). first_fault (numbered n r ∷ ys) ≡ first_fault (numbered n p ∷ zs)) e (numbered_same n r ys zs h)

-- one fault is the first
faults_once : (bounds : Bounds) (length : ℕ) (ds : List Datum) (s : Declarations) (notes : Notes) (a b : Result App Fault) (x : Settled bounds length ds s notes a) (y : Settled bounds length ds s notes b)
    → first_fault (faults bounds length ds s notes x.ring x.misfit x.large x.reading) ≡ first_fault (faults bounds length ds s notes y.ring y.misfit y.large y.reading)
faults_once bounds length ds s notes a b x y =
    first_by (form_faults ds notes) (type_faults x.ring x.misfit x.large ++ frame_faults bounds length s x.reading)
    (type_faults y.ring y.misfit y.large ++ frame_faults bounds length s y.reading) λ clear.
    let ring : x.ring ≡ y.ring = ring_once bounds s x.ring y.ring (x.ring_found clear) (y.ring_found clear) in
    numbered_by 9 x.ring y.ring _ _ ring λ no.
    let none : y.ring ≡ None = sym ring ∙ no in
    let misfit : x.misfit ≡ y.misfit = misfit_once s notes x.misfit y.misfit (x.misfit_found clear no) (y.misfit_found clear none) in
    numbered_by 6 x.misfit y.misfit _ _ misfit λ fits.
    let free : y.misfit ≡ None = sym misfit ∙ fits in
    let large : x.large ≡ y.large = large_once bounds s notes x.large y.large (x.large_found clear no fits) (y.large_found clear none free) in
    numbered_by 13 x.large y.large _ _ large λ small.
    numbered_by 10 x.reading y.reading _ _
    (reading_once s x.reading y.reading (x.reading_found clear no fits small) (y.reading_found clear none free (sym large ∙ small))) (λ quiet. refl)

settled_once : (bounds : Bounds) (length : ℕ) (ds : List Datum) (s : Declarations) (notes : Notes) (a b : Result App Fault) → Settled bounds length ds s notes a → Settled bounds length ds s notes b → a ≡ b
settled_once bounds length ds s notes a b x y =
    verdict_once (first_fault (faults bounds length ds s notes y.ring y.misfit y.large y.reading)) (app_in s s.frames) a b
    (subst (λ first. IsVerdict first (app_in s s.frames) a) (faults_once bounds length ds s notes a b x y) x.verdict) y.verdict

comes_once : (bounds : Bounds) (length : ℕ) (ds : List Datum) (r : Result (Declarations × Notes) Fault) (a b : Result App Fault) → Comes bounds length ds r a → Comes bounds length ds r b → a ≡ b
comes_once bounds length ds (Err fault) a b x y = x ∙ sym y
comes_once bounds length ds (Ok r) a b x y = settled_once bounds length ds r.0 r.1 a b x y

come_once : (bounds : Bounds) (bytes : List ℕ) (a b : Result App (ℕ × ℕ)) → ComesTo bounds bytes a → ComesTo bounds bytes b → a ≡ b
come_once bounds bytes a b x y =
    let same : x.forms ≡ y.forms = same_forms bytes x.forms y.forms x.read y.read in
    comes_once bounds (length bytes) (data_of y.forms) (parse (data_of y.forms) nothing_noted) a b
    (subst (λ (fs : List Tree). Outcome bounds (length bytes) (data_of fs) a) same x.comes) y.comes

-- what has forms is readable
readable : (bounds : Bounds) (bytes : List ℕ) (number at : ℕ) (a : Result App (ℕ × ℕ)) → IsUnreadable bytes number at → ComesTo bounds bytes a → ⊥
readable bounds bytes number at a (inl x) y = omega (arith, x.long, y.read.short)
readable bounds bytes number at a (inr x) y = no_tokens (tokens_of bytes) y.read.tokens (number, at) y.read.read x.fault

unread_once : (bytes : List ℕ) (m j n k : ℕ) → IsUnreadable bytes m j → IsUnreadable bytes n k → ◌≡◌ {A = ℕ × ℕ} (m, j) (n, k)
unread_once bytes m j n k (inl x) (inl y) = rw (x.refused.0, x.refused.1, y.refused.0, y.refused.1) refl
unread_once bytes m j n k (inl x) (inr y) = absurd (omega (arith, x.long, y.short))
unread_once bytes m j n k (inr x) (inl y) = absurd (omega (arith, y.long, x.short))
unread_once bytes m j n k (inr x) (inr y) = same_fault (tokens_of bytes) (m, j) (n, k) x.fault y.fault

declared_once : (bounds : Bounds) (bytes : List ℕ) (a b : Result App (ℕ × ℕ)) → HasOutcome bounds bytes a → HasOutcome bounds bytes b → a ≡ b
declared_once bounds bytes (Ok a) (Ok b) x y = come_once bounds bytes (Ok a) (Ok b) x y
declared_once bounds bytes (Ok a) (Err (n, k)) x (inl y) = absurd (readable bounds bytes n k (Ok a) y x)
declared_once bounds bytes (Ok a) (Err (n, k)) x (inr y) = come_once bounds bytes (Ok a) (Err (n, k)) x y
declared_once bounds bytes (Err (m, j)) (Ok b) (inl x) y = absurd (readable bounds bytes m j (Ok b) x y)
declared_once bounds bytes (Err (m, j)) (Ok b) (inr x) y = come_once bounds bytes (Err (m, j)) (Ok b) x y
declared_once bounds bytes (Err (m, j)) (Err (n, k)) (inl x) (inl y) = ap (λ fault. Err fault) (unread_once bytes m j n k x y)
declared_once bounds bytes (Err (m, j)) (Err (n, k)) (inl x) (inr y) = absurd (readable bounds bytes m j (Err (n, k)) x y)
declared_once bounds bytes (Err (m, j)) (Err (n, k)) (inr x) (inl y) = absurd (readable bounds bytes n k (Err (m, j)) y x)
declared_once bounds bytes (Err (m, j)) (Err (n, k)) (inr x) (inr y) = come_once bounds bytes (Err (m, j)) (Err (n, k)) x y

-- ---- what a text loads as

ok_same : (a b : App) → ◌≡◌ {A = Result App Fault} (Ok a) (Ok b) → a ≡ b
ok_same a b e = cc

err_same : (f g : Fault) → ◌≡◌ {A = Result App Fault} (Err f) (Err g) → f ≡ g
err_same f g e = cc

ok_err : (a : App) (f : Fault) → ◌≡◌ {A = Result App Fault} (Ok a) (Err f) → ⊥
ok_err a f e = cc

none_some : (o : Option Uncovered) (u : Uncovered) → o ≡ None → o ≡ Some u → ⊥
none_some o u p q = cc

some_same : (o : Option Uncovered) (u v : Uncovered) → o ≡ Some u → o ≡ Some v → u ≡ v
some_same o u v p q = cc

-- one application is declared
one_declared : (bounds : Bounds) (bytes : List ℕ) (a b : App) → HasOutcome bounds bytes (Ok a) → HasOutcome bounds bytes (Ok b) → a ≡ b
one_declared bounds bytes a b x y = ok_same a b (declared_once bounds bytes (Ok a) (Ok b) x y)

not_both : (bounds : Bounds) (bytes : List ℕ) (app : App) (n k : ℕ) → HasOutcome bounds bytes (Ok app) → HasOutcome bounds bytes (Err (n, k)) → ⊥
not_both bounds bytes app n k x y = ok_err app (n, k) (declared_once bounds bytes (Ok app) (Err (n, k)) x y)

moved : (a b : App) (o : Option Uncovered) → a ≡ b → uncovered_of a ≡ o → uncovered_of b ≡ o
moved a b o e h = subst (λ (c : App). uncovered_of c ≡ o) e h

pub one_outcome : (bounds : Bounds) (bytes : List ℕ) (a b : Result App Reason) → LoadsAs bounds bytes a → LoadsAs bounds bytes b → a ≡ b
one_outcome bounds bytes (Ok a) (Ok b) x y = ap (λ (c : App). Ok c) (one_declared bounds bytes a b x.0 y.0)
one_outcome bounds bytes (Ok a) (Err (refused n k)) x y = absurd (not_both bounds bytes a n k x.0 y)
one_outcome bounds bytes (Ok a) (Err (uncovered u)) x y =
    absurd (none_some (uncovered_of y.0) u (moved a y.0 None (one_declared bounds bytes a y.0 x.0 y.1.0) x.1) y.1.1)
one_outcome bounds bytes (Err (refused m j)) (Ok b) x y = absurd (not_both bounds bytes b m j y.0 x)
one_outcome bounds bytes (Err (refused m j)) (Err (refused n k)) x y =
    ap (λ (f : Fault). Err (refused f.0 f.1)) (err_same (m, j) (n, k) (declared_once bounds bytes (Err (m, j)) (Err (n, k)) x y))
one_outcome bounds bytes (Err (refused m j)) (Err (uncovered v)) x y = absurd (not_both bounds bytes y.0 m j y.1.0 x)
one_outcome bounds bytes (Err (uncovered u)) (Ok b) x y =
    absurd (none_some (uncovered_of b) u y.1 (moved x.0 b (Some u) (one_declared bounds bytes x.0 b x.1.0 y.0) x.1.1))
one_outcome bounds bytes (Err (uncovered u)) (Err (refused n k)) x y = absurd (not_both bounds bytes x.0 n k x.1.0 y)
one_outcome bounds bytes (Err (uncovered u)) (Err (uncovered v)) x y =
    ap (λ (w : Uncovered). Err (uncovered w))
    (some_same (uncovered_of y.0) u v (moved x.0 y.0 (Some u) (one_declared bounds bytes x.0 y.0 x.1.0 y.1.0) x.1.1) y.1.1)
