-- The parts of a translator, as its form has them.
use Rattle.std.specs.Prelude.{List, [], ◌∷◌, Option, Some, None}
use Rattle.cl_forms.specs.Datum.{Datum, parts_of}

-- its name, its from-type, its to-type or its command, its keys, its parameters and its body
pub record TranslatorForm : Type 0 where
  pub name : Datum
  pub from : Datum
  pub to : Datum
  pub keys : List Datum
  pub parameters : Datum
  pub body : Datum

-- by what stands in the list of types: the from-type, the to-type or the command, and the keys
abbrev pub form_typed : (name : Datum) → List Datum → (parameters body : Datum) → Option TranslatorForm
form_typed n (from ∷ to ∷ keys) ps e = Some (record { name = n; from = from; to = to; keys = keys; parameters = ps; body = e })
form_typed n (from ∷ []) ps e = None
form_typed n [] ps e = None

-- `NAME (FROM TO KEY VALUE ...) (PARAMETER) BODY`
abbrev pub translator_form : List Datum → Option TranslatorForm
translator_form (n ∷ types ∷ ps ∷ e ∷ []) = form_typed n (parts_of types) ps e
translator_form parts = None
