-- The shape of a user type, but for what it inherits from.
use Rattle.std.specs.Prelude.{ℕ, ◌+◌, Bool, true, if◌then◌else◌, List, [], ◌∷◌, length, Option, Some, None}
use Rattle.cl_forms.specs.Datum.{Datum, parts_of}
use Rattle.cl_forms.specs.Keys.{Keyed, values_of}
use Rattle.cl_forms.specs.Naming.{fits, name_in}
use Rattle.cl_forms.specs.declared.keys.Key.{Key}
use Rattle.cl_forms.specs.declared.keys.Key.TheVariants as key
use Rattle.cl_words.specs.Signatures.{function_in}
use Rattle.cl_words.specs.declared.signatures.Signatures.{Signatures}
use Rattle.cl_bodies.specs.TypeArguments.{text_behind}
use Rattle.cl_declare.specs.Names.{is_name_list}
use Rattle.cl_declare.specs.declared.type_shapes.TypeShape.{TypeShape}

-- the keys that a user type may have
abbrev pub type_keys : List Key
type_keys = key.InheritFrom ∷ key.Satisfies ∷ key.Description ∷ []

-- the name that stands alone
abbrev pub name_alone : List Datum → Option (List ℕ)
name_alone (d ∷ []) = name_in d
name_alone ds = None

-- a name that has to be there, as one behind a key
abbrev pub found : Option (List ℕ) → Option (Option (List ℕ))
found None = None
found (Some x) = Some (Some x)

-- the name behind a key, where the key stands; None where something else stands behind it
abbrev pub name_behind : Option (List Datum) → Option (Option (List ℕ))
name_behind None = Some None
name_behind (Some ds) = found (name_alone ds)

-- a function that is declared takes the value and so many arguments
abbrev pub takes_value_and : Option (Option ℕ) → ℕ → Bool
takes_value_and None n = true
takes_value_and (Some count) n = fits count (n + 1)

-- no predicate, or a function that takes the value and so many arguments, as far as this can be told
abbrev pub is_predicate : Signatures → Option (List ℕ) → ℕ → Bool
is_predicate w None n = true
is_predicate w (Some f) n = takes_value_and (function_in w f) n

-- the text that is given, or this name where none is
abbrev pub described : List ℕ → Option (List ℕ) → List ℕ
described x None = x
described x (Some t) = t

-- the shape of a user type of this name with so many parameters; None where one of its keys is wrong
abbrev pub shape_with : Signatures → List ℕ → ℕ → Option (Option (List ℕ)) → Option (Option (List ℕ)) → Option TypeShape
shape_with w x n (Some f) (Some t) = if is_predicate w f n then Some (record { name = x; satisfies = f; description = described x t }) else None
shape_with w x n (Some f) None = None
shape_with w x n None t = None

-- by the name, with so many parameters
abbrev pub shape_named : Signatures → Option (List ℕ) → ℕ → List Keyed → Option TypeShape
shape_named w None n ks = None
shape_named w (Some x) n ks = shape_with w x n (name_behind (values_of key.Satisfies ks)) (text_behind (values_of key.Description ks))

-- the name, the predicate and the description, which is the name where none is given; None where the type is wrong by itself
abbrev pub type_shape : Signatures → Datum → Datum → List Keyed → Option TypeShape
type_shape w d ps ks = if is_name_list ps then shape_named w (name_in d) (length (parts_of ps)) ks else None
