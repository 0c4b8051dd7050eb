-- The reading of a form: what it is, and what is noted of it; or its first fault.
use Rattle.std.specs.Prelude.{◌≡◌, ℕ, Bool, true, false, List, [], length, Option, Some, None, Result, Ok, Err}
use Rattle.std.specs.List.{insert}
use Rattle.cl_syntax.specs.TypeSpecTree.{TypeSpecTree}
use Rattle.cl_syntax.specs.declared.type_decls.PlacedSpec.{PlacedSpec}
use Rattle.cl_forms.specs.declared.refusals.FormRefusal.{FormRefusal}
use Rattle.cl_forms.specs.declared.refusals.FormRefusal.TheVariants.{Refused, Memory}

-- the number of a refusal, and its offset
abbrev pub Fault : Type 0
Fault = ℕ × ℕ

-- what is noted: the offset of the first name that is not declared, and the type specifiers in the order of the text
pub record Notes : Type 0 where
  pub unknown : Option ℕ
  pub specifiers : List PlacedSpec

-- before anything is read
abbrev pub nothing_noted : Notes
nothing_noted = record { unknown = None; specifiers = [] }

-- a reading: what is read with what is noted then, or its first fault
abbrev pub Load : Type 0 → Type 0
Load A = Notes → Result (A × Notes) Fault

-- what is read behind a reading, unless that failed
abbrev pub after : {A B : Type 0} → Result (A × Notes) Fault → (A → Load B) → Result (B × Notes) Fault
after (Ok x) f = f x.0 x.1
after (Err fault) f = Err fault

-- one reading behind another, which sees what the first read and noted
infixl 10 ◌>>=◌
abbrev pub ◌>>=◌ : {A B : Type 0} → Load A → (A → Load B) → Load B
(m >>= f) notes = after (m notes) f

-- what is read, with nothing more noted
abbrev pub give : {A : Type 0} → A → Load A
give x notes = Ok (x, notes)

-- a fault
abbrev pub refuse : {A : Type 0} → ℕ → ℕ → Load A
refuse number at notes = Err (number, at)

-- the first one stays
abbrev pub first_of : Option ℕ → ℕ → Option ℕ
first_of None at = Some at
first_of (Some earlier) at = Some earlier

-- a name is noted at this offset unless it is known
abbrev pub unless : Bool → ℕ → Notes → Notes
unless true at notes = notes
unless false at notes = record notes { unknown = first_of notes.unknown at }

-- a name that is known, or stands at this offset
abbrev pub noted : Bool → ℕ → Load (Unit {0})
noted known at notes = Ok (tt, unless known at notes)

-- a type specifier at a place among the others
abbrev pub with_specifier : ℕ → TypeSpecTree → List (List ℕ) → ℕ → Notes → Notes
with_specifier place spec parameters at notes =
    record notes { specifiers = insert notes.specifiers place (record { spec = spec; parameters = parameters; at = at }) }

-- a type specifier that is read, with the parameters around it and its offset, is noted before those that stand in it
abbrev pub placed : List (List ℕ) → ℕ → Load TypeSpecTree → Load TypeSpecTree
placed parameters at m notes = after (m notes) λ spec later. Ok (spec, with_specifier (length notes.specifiers) spec parameters at later)

-- what the program answers
abbrev pub Gives : {A B : Type 0} → (A → B) → Result A FormRefusal → Notes → Result (B × Notes) Fault → Type 0
Gives f (Ok x) notes r = r ≡ Ok (f x, notes)
Gives f (Err (Refused number at)) notes r = r ≡ Err (number, at)
Gives f (Err Memory) notes r = Unit {0}

-- where the program holds what is meant
abbrev pub itself : {A : Type 0} → A → A
itself x = x
