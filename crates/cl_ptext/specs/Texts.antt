-- The text of a value by its type. A type is given by its expansion, beside the specifier that it is of, which has the separator. Only present methods
-- enter forms. Each text stands behind the bytes that are there.
use Rattle.std.specs.Prelude.{ℕ, Bool, true, false, List, [], ◌∷◌, ◌++◌, Option, Some, None, if◌then◌else◌, ◌||◌}
use Rattle.cl_application.specs.App.{present_method}
use Rattle.cl_application.specs.declared.declarations.MethodDecl.{MethodDecl}
use Rattle.cl_eval.specs.Meaning.{Go, means}
use Rattle.cl_eval.specs.Outcome.{Outcome, Run, after, give, ◌>>=◌}
use Rattle.cl_eval.specs.Slots.{Slots}
use Rattle.cl_eval.specs.declared.metering.Limits.{Limits}
use Rattle.cl_lattice.specs.Expanded.{Expanded, ExpandedTypes}
use Rattle.cl_lattice.specs.Expanded as type
use Rattle.cl_lattice.specs.Members.{is_member, is_null, is_one_of}
use Rattle.cl_print.specs.Plain.{plain_of}
use Rattle.cl_print.specs.Printed.{escape}
use Rattle.cl_syntax.specs.TypeSpecTree.{TypeSpecTree, TypeArgTrees}
use Rattle.cl_value.specs.Data.{Data, Items, none, item, bool, int, list, null, rec, symbol, text}
use Rattle.cl_ptext.specs.Book.{Book, args_of, behind_first, first_spec, inherited_spec, inner_spec, separator_of}
use Rattle.cl_ptext.specs.Hosts.{NameEntries, name_of_number}
use Rattle.cl_ptext.specs.Methods.{predicates_of, presented}
use Rattle.cl_ptext.specs.Parts.{has_mark}
use Rattle.cl_ptext.specs.Words.{is_empty}

-- what is put behind bytes
abbrev pub Writes : Type 0
Writes = List ℕ → Run (List ℕ)

-- the plain form of a value
abbrev pub plain : Data → Writes
plain d out = give (out ++ plain_of d)

-- in quotes where it is empty or has a space, a comma, a `"` or a `\`
abbrev pub quoted : List ℕ → List ℕ
quoted x = if is_empty x || has_mark x then 34 ∷ (escape x ++ 34 ∷ []) else x

-- a text, in quotes where it has to be; the plain form of any other value
abbrev pub string_text : Data → Writes
string_text (int z) out = plain (int z) out
string_text (bool b) out = plain (bool b) out
string_text (text x) out = give (out ++ quoted x)
string_text (symbol x) out = plain (symbol x) out
string_text null out = plain null out
string_text (list ds) out = plain (list ds) out
string_text (rec x ds) out = plain (rec x ds) out

-- a separator behind what is there, but before the first part
abbrev pub before_part : (first : Bool) → ℕ → List ℕ → List ℕ
before_part true separator out = out
before_part false separator out = out ++ separator ∷ []

-- the texts of values, a separator before each but the first
abbrev pub each_joined : (first : Bool) → ℕ → (Data → Writes) → Items → Writes
each_joined first separator write none out = give out
each_joined first separator write (item d ds) out = write d (before_part first separator out) >>= λ more. each_joined false separator write ds more

-- the parts of a list, joined
abbrev pub list_text : ℕ → (Data → Writes) → Data → Writes
list_text separator write (int z) out = plain (int z) out
list_text separator write (bool b) out = plain (bool b) out
list_text separator write (text x) out = plain (text x) out
list_text separator write (symbol x) out = plain (symbol x) out
list_text separator write null out = plain null out
list_text separator write (list ds) out = each_joined true separator write ds out
list_text separator write (rec x ds) out = plain (rec x ds) out

-- the name, where there is one, else the plain form
abbrev pub name_or_plain : Option (List ℕ) → Data → Writes
name_or_plain None d out = plain d out
name_or_plain (Some x) d out = give (out ++ x)

-- the first name of a number of a host type, else the plain form
abbrev pub host_text : NameEntries → Data → Writes
host_text names (int z) out = name_or_plain (name_of_number z names) (int z) out
host_text names (bool b) out = plain (bool b) out
host_text names (text x) out = plain (text x) out
host_text names (symbol x) out = plain (symbol x) out
host_text names null out = plain null out
host_text names (list ds) out = plain (list ds) out
host_text names (rec x ds) out = plain (rec x ds) out

-- by a present method, where there is one, else in the other way
abbrev pub method_or : Go → ℕ → Option MethodDecl → (Data → Writes) → Data → Writes
method_or go level None other d out = other d out
method_or go level (Some m) other d out = presented go level m d >>= λ x. give (out ++ x)

abbrev mutual
  -- by the meaning of expressions at a level
  pub text_of : Book → Go → ℕ → Expanded → TypeSpecTree → Data → Writes
  text_of b go level type.everything s d out = plain d out
  text_of b go level type.nothing s d out = plain d out
  text_of b go level type.boolean s d out = plain d out
  text_of b go level type.symbols s d out = plain d out
  text_of b go level type.blank_area s d out = plain d out
  text_of b go level type.command s d out = plain d out
  text_of b go level type.dialog_choice s d out = plain d out
  text_of b go level (type.integer low high) s d out = plain d out
  text_of b go level (type.string n) s d out = string_text d out
  text_of b go level (type.member cs) s d out = plain d out
  text_of b go level (type.subset cs) s d out = list_text (separator_of s) plain d out
  text_of b go level (type.sequence t) s d out = list_text (separator_of s) (text_of b go level t (inner_spec s)) d out
  text_of b go level (type.some_of ts) s d out = text_by_some b go level ts (args_of s) d out
  text_of b go level (type.each_of ts) s d out = text_by_first b go level ts (args_of s) d out
  text_of b go level (type.null_or t) s d out = if is_null d then plain d out else text_of b go level t (inner_spec s) d out
  text_of b go level (type.token_or xs t) s d out = if is_one_of xs d then plain d out else text_of b go level t (inner_spec s) d out
  text_of b go level (type.record_type x) s d out = method_or go level (present_method x b.app) plain d out
  text_of b go level (type.host x low high) s d out = host_text (b.hosts x) d out
  text_of b go level (type.user x vs f t) s d out = method_or go level (present_method x b.app) (text_of b go level t (inherited_spec b x s)) d out
  text_of b go level (type.unknown x vs) s d out = plain d out

  -- by the first part of which the value is a member
  pub text_by_some : Book → Go → ℕ → ExpandedTypes → TypeArgTrees → Data → Writes
  text_by_some b go level type.none args d out = plain d out
  text_by_some b go level (type.part t ts) args d out =
      if is_member b.world (predicates_of b.app) d t then text_of b go level t (first_spec args) d out
      else text_by_some b go level ts (behind_first args) d out

  -- by the first part
  pub text_by_first : Book → Go → ℕ → ExpandedTypes → TypeArgTrees → Data → Writes
  text_by_first b go level type.none args d out = plain d out
  text_by_first b go level (type.part t ts) args d out = text_of b go level t (first_spec args) d out

-- the text of a value by itself, from no cost
unfoldable pub outcome_of_text : Book → Limits → Slots → Expanded → TypeSpecTree → Data → Outcome Data
outcome_of_text b limits slots t s d = after (text_of b (means limits.depth limits.budget b.app slots) 0 t s d [] 0 0) (λ x. give (text x))
