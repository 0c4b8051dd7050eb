-- The shape of a translator, but for the forms in it.
use Rattle.std.specs.Prelude.{ℕ, ℤ, pos, negsuc, nat_lt, if◌then◌else◌, List, [], ◌∷◌, Option, Some, None, option_map, option_and_then, codes}
use Rattle.std.specs.Str.{bytes_eq}
use Rattle.cl_forms.specs.Datum.{Datum, parts_of}
use Rattle.cl_forms.specs.Keys.{Keyed, values_of}
use Rattle.cl_forms.specs.Naming.{name_in}
use Rattle.cl_forms.specs.declared.keys.Key.{Key}
use Rattle.cl_forms.specs.declared.keys.Key.TheVariants as key
use Rattle.cl_bodies.specs.TypeArguments.{text_behind}
use Rattle.cl_translators.specs.declared.declarations.GestureName.{GestureName}
use Rattle.cl_translators.specs.declared.declarations.GestureName.TheVariants as gesture
use Rattle.cl_declare.specs.CommandTables.{table_or_global}
use Rattle.cl_declare.specs.Frames.{number_in}
use Rattle.cl_declare.specs.TranslatorForms.{TranslatorForm}
use Rattle.cl_declare.specs.TypeShapes.{described, found, name_alone, name_behind}
use Rattle.cl_declare.specs.declared.translator_shapes.TranslatorKeys.{TranslatorKeys}
use Rattle.cl_declare.specs.declared.translator_shapes.TranslatorKind.{TranslatorKind}
use Rattle.cl_declare.specs.declared.translator_shapes.TranslatorKind.TheVariants.{Object, Command}
use Rattle.cl_declare.specs.declared.translator_shapes.TranslatorShape.{TranslatorShape}

-- the keys that a translator may have
abbrev pub translator_keys : List Key
translator_keys = key.CommandTable ∷ key.Gesture ∷ key.Priority ∷ key.Documentation ∷ key.Tester ∷ []

-- ---- what the keys say

-- the gesture of this name
abbrev pub gesture_named : List ℕ → Option GestureName
gesture_named x =
    if bytes_eq x (codes "select") then Some gesture.Select
    else (if bytes_eq x (codes "describe") then Some gesture.Describe
    else (if bytes_eq x (codes "menu") then Some gesture.Menu
    else (if bytes_eq x (codes "edit") then Some gesture.Edit
    else (if bytes_eq x (codes "delete") then Some gesture.Delete else None))))

-- the gesture behind its key, `select` where the key does not stand; None where something else stands behind it
abbrev pub gesture_behind : Option (List Datum) → Option GestureName
gesture_behind None = Some gesture.Select
gesture_behind (Some ds) = option_and_then gesture_named (name_alone ds)

-- a priority is a number from 0 to 99
abbrev pub priority_of : ℤ → Option ℕ
priority_of (pos n) = if nat_lt n 100 then Some n else None
priority_of (negsuc n) = None

-- the priority that stands alone
abbrev pub priority_alone : List Datum → Option ℕ
priority_alone (d ∷ []) = option_and_then priority_of (number_in d)
priority_alone ds = None

-- the priority behind its key, 0 where the key does not stand; None where something else stands behind it
abbrev pub priority_behind : Option (List Datum) → Option ℕ
priority_behind None = Some 0
priority_behind (Some ds) = priority_alone ds

-- what the keys say, where something fit stands behind each
abbrev pub keys_with : List ℕ → Option (Option (List ℕ)) → Option GestureName → Option ℕ → Option (Option (List ℕ)) → Option TranslatorKeys
keys_with x (Some table) (Some g) (Some n) (Some t) =
    Some (record { table = table_or_global table; gesture = g; priority = n; documentation = described x t })
keys_with x (Some table) (Some g) (Some n) None = None
keys_with x (Some table) (Some g) None t = None
keys_with x (Some table) None n t = None
keys_with x None g n t = None

-- what the keys of a translator of this name say, beside its tester; its documentation is the name where none is given
abbrev pub keys_said : List ℕ → List Keyed → Option TranslatorKeys
keys_said x ks =
    keys_with x (name_behind (values_of key.CommandTable ks)) (gesture_behind (values_of key.Gesture ks))
    (priority_behind (values_of key.Priority ks)) (text_behind (values_of key.Documentation ks))

-- ---- the whole

-- the name of the command, where it is one to a command; None where something else stands there
abbrev pub command_in : TranslatorKind → Datum → Option (Option (List ℕ))
command_in Object d = Some None
command_in Command d = found (name_in d)

-- by the name, the command and the parameter; None where one of them, or what a key says, is wrong
abbrev pub shape_named : Option (List ℕ) → Option (Option (List ℕ)) → Option (List ℕ) → List Keyed → Option TranslatorShape
shape_named (Some x) (Some command) (Some p) ks = option_map (λ k. record { name = x; command = command; parameter = p; keys = k }) (keys_said x ks)
shape_named (Some x) (Some command) None ks = None
shape_named (Some x) None parameter ks = None
shape_named None command parameter ks = None

-- the name, the command, the one parameter and what the keys say; None where the translator is wrong by itself
abbrev pub translator_shape : TranslatorKind → TranslatorForm → List Keyed → Option TranslatorShape
translator_shape kind f ks = shape_named (name_in f.name) (command_in kind f.to) (name_alone (parts_of f.parameters)) ks
