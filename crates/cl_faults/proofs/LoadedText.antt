-- What a text that loads has, and what is told of one that does not.
use Rattle.std.proofs.Common.{◌≡◌, ◌++◌, ℕ, List, [], ◌∷◌, length, inr, refl, sym, ap, arith, ◌∙◌}
use Rattle.std.specs.Prelude.{Option, Some, None, Result, Ok, Err}
use Rattle.std.proofs.Math.Path.{subst}
use Rattle.cl_application.specs.declared.applications.App.{App}
use Rattle.cl_forms.specs.Datum.{Datum, datums_of}
use Rattle.cl_forms.specs.Outer.{outers_of}
use Rattle.cl_forms.specs.Tree.{Tree, trees_of}
use Rattle.cl_words.specs.Signatures.{signatures_of}
use Rattle.cl_words.specs.declared.signatures.Signatures.{Signatures}
use Rattle.cl_expressions.specs.Load.{Fault, Notes, nothing_noted}
use Rattle.cl_declare.specs.declared.declarations.Declarations.{Declarations}
use Rattle.cl_phases.specs.Limits.{first_past}
use Rattle.cl_phases.specs.Twice.{first_twice}
use Rattle.cl_grammar.specs.Lies.{LieInText}
use Rattle.cl_grammar.specs.Unnamed.{IsNoted}
use Rattle.cl_grammar.proofs.TextLies.{text_lies}
use Rattle.cl_text_grammar.specs.FormBlames.{IsFirst}
use Rattle.cl_declaration_grammar.specs.Texts.{TextUnnamed}
use Rattle.cl_declaration_grammar.proofs.TextVerdicts.{text_told, text_refused, text_noted}
use Rattle.cl_load.specs.Application.{AreForms, data_of, IsApplication, IsRefusal}
use Rattle.cl_load.specs.Outcome.{IsVerdict, Settled, Comes, parse}
use Rattle.cl_load.specs.Refusals.{numbered, first_fault, app_in, form_faults, frame_faults, type_faults}
use Rattle.cl_load.specs.Types.{Bounds}
use Rattle.cl_faults.specs.Loaded.{DataBlame, DataUnnamed, IsDeclared, IsFirstUnnamed}

data_lie : (bytes : List ℕ) (forms : List Tree) → AreForms bytes forms → LieInText (datums_of (data_of forms))
data_lie bytes forms r = text_lies bytes r.tokens (trees_of forms) r.read r.spelled

no_error : {A B : Type 0} {x : A} {y : B} → ◌≡◌ {A = Result A B} (Ok x) (Err y) → ⊥
no_error e = cc

-- ---- what loads

-- where a verdict is an application, no name is noted
none_noted : (past twice unknown : Option ℕ) (more : List (Option Fault)) (a : Option App) (app : App)
    → IsVerdict (first_fault (numbered 13 past ∷ numbered 7 twice ∷ numbered 8 unknown ∷ more)) a (Ok app) → unknown ≡ None
none_noted (Some at) twice unknown more a app h = absurd (no_error h)
none_noted None (Some at) unknown more a app h = absurd (no_error h)
none_noted None None (Some at) more a app h = absurd (no_error h)
none_noted None None None more a app h = refl

none_some : {A : Type 0} {x : A} → ◌≡◌ {A = Option A} None (Some x) → ⊥
none_some e = cc

some_same : {A : Type 0} {x y : A} → ◌≡◌ {A = Option A} (Some x) (Some y) → x ≡ y
some_same e = cc

-- a name that is not declared is told where nothing is past a limit or declared twice
told : (past twice unknown : Option ℕ) (at : ℕ) (more : List (Option Fault)) → past ≡ None → twice ≡ None → unknown ≡ Some at
    → first_fault (numbered 13 past ∷ numbered 7 twice ∷ numbered 8 unknown ∷ more) ≡ Some (8, at)
told None None (Some k) at more a b c = ap (λ q. Some (8, q)) (some_same c)
told None None None at more a b c = absurd (none_some c)
told None (Some p) unknown at more a b c = absurd (none_some (sym b))
told (Some p) twice unknown at more a b c = absurd (none_some (sym a))

-- what was read is what there is to read
abbrev Reads : List Datum → Declarations → Notes → Type 0
Reads ds s notes = (parse ds nothing_noted ≡ Ok (s, notes)) × (notes.unknown ≡ None)

abbrev Read : List Datum → Type 0
Read ds = (s : Declarations) × (notes : Notes) × Reads ds s notes

outcome_read : (bounds : Bounds) (size : ℕ) (ds : List Datum) (app : App) (r : Result (Declarations × Notes) Fault) → parse ds nothing_noted ≡ r
    → Comes bounds size ds r (Ok app) → Read ds
outcome_read bounds size ds app (Err fault) e h = absurd (no_error h)
outcome_read bounds size ds app (Ok x) e h =
    let more : List (Option Fault) = type_faults h.ring h.misfit h.large ++ frame_faults bounds size x.0 h.reading in
    (x.0, x.1, (e, none_noted (first_past ds) (first_twice (outers_of ds)) x.1.unknown more (app_in x.0 x.0.frames) app h.verdict))

module _ (bytes : List ℕ) (forms : List Tree) (r : AreForms bytes forms) where
  abbrev ds : List Datum
  ds = data_of forms

  abbrev w : Signatures
  w = signatures_of (outers_of ds)

  read_named : (s : Declarations) (notes : Notes) → Reads ds s notes → (at : ℕ) → DataUnnamed ds at → ⊥
  read_named s notes h at b =
      (subst (IsNoted (TextUnnamed w ds) None) h.1 (text_noted w ds nothing_noted (data_lie bytes forms r) notes s h.0)) at b

  read_declared : Read ds → IsDeclared bytes
  read_declared h = record {
    forms = forms;
    read = r;
    blameless = λ number at b. text_refused w ds nothing_noted (data_lie bytes forms r) h.1 h.0 number at b h.2.0;
    named = read_named h.0 h.1 h.2;
  }

  -- ---- what does not load

  pub blame_refused : (bounds : Bounds) (number at : ℕ) → IsFirst (DataBlame ds) number at → IsRefusal bounds bytes number at
  blame_refused bounds number at i =
      inr (record {
        forms = forms;
        read = r;
        comes = subst (λ o. Comes bounds (length bytes) ds o (Err (number, at))) (sym ((text_told w ds nothing_noted (data_lie bytes forms r) number at).1 i)) refl;
      })

  -- nothing is blamed, so something is read
  unblamed_read : ((number p : ℕ) → DataBlame ds number p → ⊥) → (o : Result (Declarations × Notes) Fault) → parse ds nothing_noted ≡ o
      → (x : Declarations × Notes) × (o ≡ Ok x)
  unblamed_read h (Ok x) e = (x, refl)
  unblamed_read h (Err fault) e =
      absurd (h fault.0 fault.1 ((text_told w ds nothing_noted (data_lie bytes forms r) fault.0 fault.1).0 e).blamed)

  -- the least of the names is the one that is noted
  least_noted : (at : ℕ) → IsFirstUnnamed ds at → (unknown : Option ℕ) → IsNoted (TextUnnamed w ds) None unknown → unknown ≡ Some at
  least_noted at i None h = absurd (h at i.unnamed)
  least_noted at i (Some first) h =
      let e : first ≡ at = omega (arith, h.1 at i.unnamed, i.least first h.0) in ap Some e

  settled : (bounds : Bounds) (at : ℕ) (s : Declarations) (notes : Notes) → IsFirstUnnamed ds at → notes.unknown ≡ Some at
      → Settled bounds (length bytes) ds s notes (Err (8, at))
  settled bounds at s notes i e =
      let some : first_fault (form_faults ds notes) ≡ None → ⊥ =
      λ f. none_some (sym f ∙ told (first_past ds) (first_twice (outers_of ds)) notes.unknown at [] i.bounded i.once e) in
      record {
        ring = None;
        ring_found = λ f. absurd (some f);
        misfit = None;
        misfit_found = λ f no. absurd (some f);
        large = None;
        large_found = λ f no fits. absurd (some f);
        reading = None;
        reading_found = λ f no fits small. absurd (some f);
        verdict = subst (λ f. IsVerdict f (app_in s s.frames) (Err (8, at)))
            (sym (told (first_past ds) (first_twice (outers_of ds)) notes.unknown at
            (type_faults None None None ++ frame_faults bounds (length bytes) s None) i.bounded i.once e)) refl;
      }

  noted_refused : (bounds : Bounds) (at : ℕ) → IsFirstUnnamed ds at → (x : Declarations × Notes) → parse ds nothing_noted ≡ Ok x → IsRefusal bounds bytes 8 at
  noted_refused bounds at i x e =
      inr (record {
        forms = forms;
        read = r;
        comes = subst (λ o. Comes bounds (length bytes) ds o (Err (8, at))) (sym e)
            (settled bounds at x.0 x.1 i (least_noted at i x.1.unknown (text_noted w ds nothing_noted (data_lie bytes forms r) x.1 x.0 e)));
      })

  pub unnamed_refused : (bounds : Bounds) (at : ℕ) → IsFirstUnnamed ds at → IsRefusal bounds bytes 8 at
  unnamed_refused bounds at i =
      let x : (x : Declarations × Notes) × (parse ds nothing_noted ≡ Ok x) = unblamed_read i.blameless (parse ds nothing_noted) refl in
      noted_refused bounds at i x.0 x.1

pub loaded_declared : (bounds : Bounds) (bytes : List ℕ) (app : App) → IsApplication bounds bytes app → IsDeclared bytes
loaded_declared bounds bytes app h =
    read_declared bytes h.0.forms h.0.read (outcome_read bounds (length bytes) (data_of h.0.forms) app (parse (data_of h.0.forms) nothing_noted) refl h.0.comes)
