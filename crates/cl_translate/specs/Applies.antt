-- When a translator applies to an object in an input context, and what it gives.
use Rattle.std.specs.Prelude.{ℕ, Bool, true, false, ◌&&◌, if◌then◌else◌, List, [], ◌∷◌, Option, Some, None, codes}
use Rattle.std.specs.Str.{bytes_eq}
use Rattle.cl_application.specs.declared.declarations.TranslatorDecl.{TranslatorDecl}
use Rattle.cl_eval.specs.Evaluated.{outcome_of_eval, own_limits, value_in}
use Rattle.cl_syntax.specs.ExprTree.{ExprTree}
use Rattle.cl_syntax.specs.TypeSpecTree.{TypeSpecTree, name_of, plain_type}
use Rattle.cl_tables.specs.Lookups.{is_accessible}
use Rattle.cl_value.specs.Data.{Data, int, bool, text, symbol, null, list, rec, none, item}
use Rattle.cl_translate.specs.Heads.{heads, some_listed}
use Rattle.cl_translate.specs.Scenes.{Scene}

-- ---- testers and bodies

-- what an expression comes to where the parameter is the object; none where it traps
abbrev pub value_on : Scene → TranslatorDecl → Data → ExprTree → Option Data
value_on s t d e = value_in (outcome_of_eval own_limits s.app s.slots ((t.parameter, d) ∷ []) e)

-- whether a value is there and is true
abbrev pub is_true : Option Data → Bool
is_true None = false
is_true (Some (bool b)) = b
is_true (Some (int n)) = false
is_true (Some (text x)) = false
is_true (Some (symbol x)) = false
is_true (Some null) = false
is_true (Some (list ds)) = false
is_true (Some (rec x ds)) = false

-- whether a tester, if there is one, comes to true
abbrev pub passes : Scene → TranslatorDecl → Data → Option ExprTree → Bool
passes s t d None = true
passes s t d (Some e) = is_true (value_on s t d e)

-- the symbol of a command before a list of arguments; none where it is no list
abbrev pub command_with : List ℕ → Data → Option Data
command_with x (list ds) = Some (list (item (symbol x) ds))
command_with x (int n) = None
command_with x (bool b) = None
command_with x (text y) = None
command_with x (symbol y) = None
command_with x null = None
command_with x (rec y ds) = None

-- the value of the body, or the command of this name with it as its arguments
abbrev pub result_by : Option (List ℕ) → Option Data → Option Data
result_by command None = None
result_by None (Some d) = Some d
result_by (Some x) (Some d) = command_with x d

-- what a translator gives for an object
abbrev pub result_of : Scene → TranslatorDecl → Data → Option Data
result_of s t d = result_by t.command (value_on s t d t.body)

-- ---- input contexts

-- the context of a command
abbrev pub command_type : TypeSpecTree
command_type = plain_type (codes "command")

-- whether a value is a command that is accessible and enabled
abbrev pub may_run : Scene → Data → Bool
may_run s (list (item (symbol x) ds)) = is_accessible x s.commands && s.enabled x
may_run s (list none) = false
may_run s (list (item (int n) ds)) = false
may_run s (list (item (bool b) ds)) = false
may_run s (list (item (text y) ds)) = false
may_run s (list (item null ds)) = false
may_run s (list (item (list es) ds)) = false
may_run s (list (item (rec y es) ds)) = false
may_run s (int n) = false
may_run s (bool b) = false
may_run s (text y) = false
may_run s (symbol y) = false
may_run s null = false
may_run s (rec y ds) = false

-- in the context `command` a command alone fits: with all its arguments, accessible and enabled
abbrev pub fits : Scene → TypeSpecTree → Data → Bool
fits s context d = if bytes_eq (name_of context) (codes "command") then s.holds d command_type && may_run s d else true

-- the precedence list of a type, by its name
abbrev pub precedence_of : Scene → List ℕ → List (List ℕ)
precedence_of s x = s.hierarchy.precedence x

-- ---- what applies

-- a value that is a member of the to-type and fits the context; none else
abbrev pub if_fits : Scene → (context to : TypeSpecTree) → Option Data → Option Data
if_fits s context to None = None
if_fits s context to (Some v) = if s.holds v to && fits s context v then Some v else None

-- what a translator gives for an object in a context, beside its gesture, its table and the name of its from-type: the object is a member of its
-- from-type, its tester comes to true, and what it gives is a member of its to-type that fits the context
abbrev pub outcome : Scene → TypeSpecTree → TranslatorDecl → Data → Option Data
outcome s context t d = if s.holds d t.from && passes s t d t.tester then if_fits s context t.to (result_of s t d) else None

-- the same where its to-type is a subtype of the context
abbrev pub translated : Scene → TypeSpecTree → TranslatorDecl → Data → Option Data
translated s context t d = if s.hierarchy.subtype t.to context then outcome s context t d else None

-- an object of a type of this name is given as it is: some head of the context is in the precedence list of that name, and the object is a member
-- of the context and fits
abbrev pub is_itself : Scene → TypeSpecTree → List ℕ → Data → Bool
is_itself s context x d = some_listed (precedence_of s x) (heads context) && (s.holds d context && fits s context d)
