-- The parts of a text that are looked at, in the order of the text: which of them is to blame, and which name is not declared.
use Rattle.std.specs.Prelude.{◌≡◌, ◌⊎◌, ℕ, false, List, [], ◌∷◌, None}
use Rattle.cl_words.specs.Signatures.{command_in, display_in, function_in, pane_in, table_in, type_in}
use Rattle.cl_words.specs.declared.signatures.Signatures.{Signatures}
use Rattle.cl_declare.specs.Methods.{may_have_methods}
use Rattle.cl_grammar.specs.Sights.{Seen}
use Rattle.cl_grammar.specs.Blames.{BlamesAny}
use Rattle.cl_grammar.specs.Unnamed.{UnnamedAny}
use Rattle.cl_text_grammar.specs.Types.{TypePart, TypeBlames, TypeUnnamed}
use Rattle.cl_text_grammar.specs.FormSights.{FormSeen, shape_seen, act_seen}
use Rattle.cl_text_grammar.specs.FormBlames.{FormBlamesAny}
use Rattle.cl_text_grammar.specs.FormUnnamed.{FormUnnamedAny}

-- a part that is looked at
pub data Part : Type 0 where
  -- a form that is refused by itself, with the number of the refusal and its offset
  refused : ℕ → ℕ → Part
  -- what is looked at of a type
  specifier : List TypePart → Part
  -- the name of a type that a method is for, with its offset
  method_name : List ℕ → ℕ → Part
  -- the name of a function, with its offset
  function_name : List ℕ → ℕ → Part
  -- the name of a display, with its offset
  display_name : List ℕ → ℕ → Part
  -- the name of a command table, with its offset
  table_name : List ℕ → ℕ → Part
  -- the name of a command, with its offset
  command_name : List ℕ → ℕ → Part
  -- the name of a pane, with its offset
  pane_name : List ℕ → ℕ → Part
  -- expressions
  expressions : List Seen → Part
  -- display forms
  shapes : List FormSeen → Part
  -- statements
  acts : List FormSeen → Part

-- one of them
abbrev pub SomeOf : (Part → Type 0) → List Part → Type 0
SomeOf P [] = ⊥
SomeOf P (p ∷ ps) = P p ⊎ SomeOf P ps

-- the part, or a form in it, is blamed with this number at this offset
abbrev pub PartBlames : Signatures → ℕ → ℕ → Part → Type 0
PartBlames w n o (refused number at) = (n ≡ number) × (o ≡ at)
PartBlames w n o (specifier ts) = TypeBlames ts n o
PartBlames w n o (method_name x at) = ⊥
PartBlames w n o (function_name x at) = ⊥
PartBlames w n o (display_name x at) = ⊥
PartBlames w n o (table_name x at) = ⊥
PartBlames w n o (command_name x at) = ⊥
PartBlames w n o (pane_name x at) = ⊥
PartBlames w n o (expressions qs) = BlamesAny w qs n o
PartBlames w n o (shapes fs) = FormBlamesAny (shape_seen w) w fs n o
PartBlames w n o (acts fs) = FormBlamesAny act_seen w fs n o

-- the part is a name at this offset that is not declared, or has one
abbrev pub PartUnnamed : Signatures → ℕ → Part → Type 0
PartUnnamed w o (refused number at) = ⊥
PartUnnamed w o (specifier ts) = TypeUnnamed w ts o
PartUnnamed w o (method_name x at) = (may_have_methods (type_in w x) ≡ false) × (o ≡ at)
PartUnnamed w o (function_name x at) = (function_in w x ≡ None) × (o ≡ at)
PartUnnamed w o (display_name x at) = (display_in w x ≡ None) × (o ≡ at)
PartUnnamed w o (table_name x at) = (table_in w x ≡ false) × (o ≡ at)
PartUnnamed w o (command_name x at) = (command_in w x ≡ false) × (o ≡ at)
PartUnnamed w o (pane_name x at) = (pane_in w x ≡ false) × (o ≡ at)
PartUnnamed w o (expressions qs) = UnnamedAny w qs o
PartUnnamed w o (shapes fs) = FormUnnamedAny (shape_seen w) w fs o
PartUnnamed w o (acts fs) = FormUnnamedAny act_seen w fs o

-- the form at this offset has counts, kinds or keys that it may not have
abbrev pub wrong : ℕ → List Part
wrong at = refused 6 at ∷ []

-- what is not built yet stands at this offset
abbrev pub planned : ℕ → Part
planned at = refused 0 at
