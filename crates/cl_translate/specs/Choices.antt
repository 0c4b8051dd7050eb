-- The choice: the first that applies among all that come into question.
use Rattle.std.specs.Prelude.{◌+◌, ℤ, ℕ, if◌then◌else◌, List, [], ◌∷◌, ◌++◌, map, filter, reverse, Option, Some, None, option_map, codes}
use Rattle.std.specs.List.{flat_map}
use Rattle.cl_application.specs.declared.declarations.TranslatorDecl.{TranslatorDecl}
use Rattle.cl_record.specs.Labels.{LabelAt}
use Rattle.cl_record.specs.Touches.{TouchAt, touch_of_label}
use Rattle.cl_syntax.specs.TypeSpecTree.{TypeSpecTree, name_of, plain_type}
use Rattle.cl_table.specs.Names.{named}
use Rattle.cl_value.specs.Data.{Data, int, symbol, list, items_of}
use Rattle.cl_value.specs.Value.{data_of}
use Rattle.cl_translators.specs.Order.{digits, is_for}
use Rattle.cl_translators.specs.declared.declarations.GestureName.{GestureName}
use Rattle.cl_translators.specs.declared.declarations.GestureName.TheVariants as gesture
use Rattle.cl_translators.specs.declared.declarations.TranslatorPlace.{TranslatorPlace}
use Rattle.cl_translate.specs.Applies.{is_itself, precedence_of, translated}
use Rattle.cl_translate.specs.Scenes.{Scene}
use Rattle.cl_translate.specs.declared.choosing.Choice.{Choice}

-- an answer, or another where there is none
abbrev pub or_else : {R : Type 0} → Option R → Option R → Option R
or_else None other = other
or_else (Some r) other = Some r

-- the first answer in a list; None: nothing has one
abbrev pub first_answer : {A R : Type 0} → (A → Option R) → List A → Option R
first_answer f [] = None
first_answer f (x ∷ xs) = or_else (f x) (first_answer f xs)

-- ---- what is tried

-- a declared translator, or the identity translator
pub data Translator : Type 0 where
  declared : TranslatorPlace → Translator
  identity : Translator

-- the identity translator has the gesture `select`
abbrev pub identities : GestureName → List Translator
identities gesture.Select = identity ∷ []
identities gesture.Describe = []
identities gesture.Menu = []
identities gesture.Edit = []
identities gesture.Delete = []

-- the declared translators for a gesture and a type with this precedence list whose priority has one high part: earlier place of the from-type's
-- name in the list, then in the order in which they stand
abbrev pub gathered_high : List TranslatorPlace → GestureName → (precedence : List (List ℕ)) → (high : ℕ) → List TranslatorPlace
gathered_high ts g precedence high = flat_map (λ from. filter (is_for g from high) ts) precedence

-- those of all: greater high part of the priority first
abbrev pub gathered : List TranslatorPlace → GestureName → (precedence : List (List ℕ)) → List TranslatorPlace
gathered ts g precedence = flat_map (gathered_high ts g precedence) digits

-- all translators for a gesture and the name of a type, the identity translator last
abbrev pub translators_for : Scene → GestureName → List ℕ → List Translator
translators_for s g x = map (λ t. declared t) (gathered s.translators g (precedence_of s x)) ++ identities g

-- what a declaration of the application gives, if there is one
abbrev pub given_by : Scene → TypeSpecTree → Data → Option TranslatorDecl → Option Data
given_by s context d None = None
given_by s context d (Some t) = translated s context t d

-- what a translator gives for a candidate in a context; None where it does not apply
abbrev pub gives : Scene → TypeSpecTree → TouchAt → Translator → Option Data
gives s context c (declared p) = given_by s context c.object (named p.name s.app.translators)
gives s context c identity = if is_itself s context (name_of c.spec) c.object then Some c.object else None

-- the same of a declared translator
abbrev pub place_gives : Scene → TypeSpecTree → TouchAt → TranslatorPlace → Option Data
place_gives s context c p = gives s context c (declared p)

-- ---- candidates

-- a place of a pane as an object
abbrev pub blank_area : List ℕ → (x y : ℤ) → TouchAt
blank_area pane x y = record { object = list (items_of (symbol pane ∷ int x ∷ int y ∷ [])); spec = plain_type (codes "blank-area") }

-- the presentations that were touched, the latest begun first, and last the blank area
abbrev pub candidates : List LabelAt → TouchAt → List TouchAt
candidates touched blank = map touch_of_label (reverse touched) ++ blank ∷ []

-- ---- all three

-- a candidate and a translator for it
pub record Trial : Type 0 where
  pub candidate : TouchAt
  pub translator : Translator

-- the translators for a candidate
abbrev pub trials_of : Scene → GestureName → TouchAt → List Trial
trials_of s g c = map (λ t. record { candidate = c; translator = t }) (translators_for s g (name_of c.spec))

-- for each candidate its translators
abbrev pub trials_in : Scene → GestureName → List TouchAt → List Trial
trials_in s g cs = flat_map (trials_of s g) cs

-- what a trial gives in a context
abbrev pub trial_gives : Scene → TypeSpecTree → Trial → Option Data
trial_gives s context t = gives s context t.candidate t.translator

-- a trial in a context with its number
pub record ContextTrial : Type 0 where
  pub number : ℕ
  pub context : TypeSpecTree
  pub trial : Trial

-- for each context from this number on, the innermost first, its trials
abbrev pub trials : Scene → GestureName → ℕ → List TypeSpecTree → List TouchAt → List ContextTrial
trials s g n [] cs = []
trials s g n (context ∷ contexts) cs =
    map (λ t. record { number = n; context = context; trial = t }) (trials_in s g cs) ++ trials s g (n + 1) contexts cs

-- the number of a context, and what is given in it
pub record Given : Type 0 where
  pub number : ℕ
  pub value : Data

-- what a trial gives, with the number of its context
abbrev pub tried : Scene → ContextTrial → Option Given
tried s t = option_map (λ v. record { number = t.number; value = v }) (trial_gives s t.context t.trial)

-- the choice: the first that a trial gives
abbrev pub chosen : Scene → GestureName → (contexts : List TypeSpecTree) → (candidates : List TouchAt) → Option Given
chosen s g contexts cs = first_answer (tried s) (trials s g 0 contexts cs)

-- what the program's choice says
abbrev pub given_of : Choice → Given
given_of c = record { number = c.number; value = data_of c.value }
