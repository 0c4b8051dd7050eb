-- How commands and command tables are written behind their heads.
use Rattle.std.specs.Prelude.{◌≡◌, ℕ, false, List, [], ◌∷◌, Option, Some, None, codes}
use Rattle.cl_table.specs.Names.{with_first}
use Rattle.cl_syntax.specs.ExprTree.{ExprTree}
use Rattle.cl_syntax.specs.TypeSpecTree.{TypeSpecTree}
use Rattle.cl_forms.specs.Datum.{Datum, Datums, literal, word, list, item, in_order, offset}
use Rattle.cl_forms.specs.Naming.{name_in}
use Rattle.cl_words.specs.Signatures.{global_table}
use Rattle.cl_words.specs.declared.signatures.Signatures.{Signatures}
use Rattle.cl_expressions.specs.Scopes.{Names}
use Rattle.cl_application.specs.declared.declarations.ArgumentDecl.{ArgumentDecl}
use Rattle.cl_application.specs.declared.declarations.DefaultDecl.{DefaultDecl}
use Rattle.cl_declare.specs.CommandShapes.{given_or_made, is_command_type}
use Rattle.cl_declare.specs.Commands.{ArgumentTable}
use Rattle.cl_grammar.specs.Writes.{Writes}
use Rattle.cl_text_grammar.specs.WritesNames.{WritesNameList}
use Rattle.cl_text_grammar.specs.WritesTypes.{WritesType}

-- ---- the head of a command

-- the table, the command-line name and the keystroke of a command, as far as they are there, write its keys: in any order, each once at most
pub data WritesCommandKeys : Option (List ℕ) → Option (List ℕ) → Option (List ℕ) → List Datum → Type 0 where
  no_key : WritesCommandKeys None None None []
  -- :command-table TABLE
  its_table : {c : List ℕ} {t k : Option (List ℕ)} {n : Datum} {ds : List Datum} {key_at : ℕ} → name_in n ≡ Some c → WritesCommandKeys None t k ds
      → WritesCommandKeys (Some c) t k (word (codes ":command-table") key_at ∷ n ∷ ds)
  -- :name TEXT
  its_line_name : {c k : Option (List ℕ)} {s : List ℕ} {ds : List Datum} {key_at text_at : ℕ} → WritesCommandKeys c None k ds
      → WritesCommandKeys c (Some s) k (word (codes ":name") key_at ∷ literal s text_at ∷ ds)
  -- :keystroke NAME
  its_keystroke : {c t : Option (List ℕ)} {k : List ℕ} {n : Datum} {ds : List Datum} {key_at : ℕ} → name_in n ≡ Some k → WritesCommandKeys c t None ds
      → WritesCommandKeys c t (Some k) (word (codes ":keystroke") key_at ∷ n ∷ ds)

-- the name of a command, with its table, its command-line name and its keystroke, as far as they are there, writes a datum
pub data WritesCommandHead : List ℕ → Option (List ℕ) → Option (List ℕ) → Option (List ℕ) → Datum → Type 0 where
  -- NAME
  alone : {x s : List ℕ} {at : ℕ} → name_in (word s at) ≡ Some x → WritesCommandHead x None None None (word s at)
  -- (NAME KEY VALUE ...)
  with_its_keys : {x : List ℕ} {c t k : Option (List ℕ)} {n : Datum} {ds : Datums} {at : ℕ} → name_in n ≡ Some x → WritesCommandKeys c t k (in_order ds)
      → WritesCommandHead x c t k (list (item n ds) at)

-- ---- arguments

-- the default and the prompt of an argument, as far as they are there, write its keys: in any order, each once at most
pub data WritesArgumentKeys : Option DefaultDecl → Option (List ℕ) → List Datum → Type 0 where
  no_argument_key : WritesArgumentKeys None None []
  -- :default E
  its_default : {v : ExprTree} {p : Option (List ℕ)} {e : Datum} {ds : List Datum} {key_at : ℕ} → Writes v e → WritesArgumentKeys None p ds
      → WritesArgumentKeys (Some (record { value = v; at = offset e })) p (word (codes ":default") key_at ∷ e ∷ ds)
  -- :prompt TEXT
  its_prompt : {v : Option DefaultDecl} {s : List ℕ} {ds : List Datum} {key_at text_at : ℕ} → WritesArgumentKeys v None ds
      → WritesArgumentKeys v (Some s) (word (codes ":prompt") key_at ∷ literal s text_at ∷ ds)

-- arguments of a command write data, one each
pub data WritesCommandArguments (w : Signatures) : List ArgumentDecl → List Datum → Type 0 where
  no_argument : WritesCommandArguments w [] []
  -- (NAME TYPE KEY VALUE ...): a type that is not named `command`; where no prompt is given, that which is made from the name
  one_argument : {x : List ℕ} {s : TypeSpecTree} {v : Option DefaultDecl} {p : Option (List ℕ)} {others : List ArgumentDecl} {n t : Datum} {keys : Datums}
      {ds : List Datum} {at : ℕ} → name_in n ≡ Some x → WritesType w [] s t → is_command_type t ≡ false → WritesArgumentKeys v p (in_order keys)
      → WritesCommandArguments w others ds
      → WritesCommandArguments w (record { name = x; spec = s; default = v; prompt = given_or_made p x; at = at } ∷ others)
      (list (item n (item t keys)) at ∷ ds)

-- arguments behind others: of two of one name the first counts
abbrev pub with_arguments : ArgumentTable → List ArgumentDecl → ArgumentTable
with_arguments table [] = table
with_arguments table (a ∷ more) = with_arguments (with_first (λ d. d.name) table a) more

-- ---- command tables

-- the tables that a command table inherits from write its keys
pub data WritesParents : Names → List Datum → Type 0 where
  -- no key: it inherits from the table that each text has
  no_parents : WritesParents (global_table ∷ []) []
  -- :inherit-from (TABLE ...)
  its_parents : {xs : Names} {d : Datum} {key_at : ℕ} → WritesNameList xs d → WritesParents xs (word (codes ":inherit-from") key_at ∷ d ∷ [])
