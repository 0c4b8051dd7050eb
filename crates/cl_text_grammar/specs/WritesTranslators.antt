-- How a translator is written behind its head: its keys in any order, each once at most.
use Rattle.std.specs.Prelude.{◌≡◌, ℕ, pos, ◌<◌, List, [], ◌∷◌, Option, Some, None, unwrap_or, codes}
use Rattle.cl_syntax.specs.ExprTree.{ExprTree}
use Rattle.cl_syntax.specs.TypeSpecTree.{TypeSpecTree, plain_type}
use Rattle.cl_forms.specs.Datum.{Datum, Datums, number, literal, word, list, item, in_order}
use Rattle.cl_forms.specs.Naming.{name_in}
use Rattle.cl_words.specs.declared.signatures.Signatures.{Signatures}
use Rattle.cl_translators.specs.declared.declarations.GestureName.{GestureName}
use Rattle.cl_translators.specs.declared.declarations.GestureName.TheVariants.{Select, Describe, Menu, Edit, Delete}
use Rattle.cl_application.specs.declared.declarations.TranslatorDecl.{TranslatorDecl}
use Rattle.cl_declare.specs.CommandTables.{table_or_global}
use Rattle.cl_declare.specs.TypeShapes.{described}
use Rattle.cl_declare.specs.declared.translator_shapes.TranslatorKind.{TranslatorKind}
use Rattle.cl_declare.specs.declared.translator_shapes.TranslatorKind.TheVariants.{Object, Command}
use Rattle.cl_grammar.specs.Writes.{Writes}
use Rattle.cl_text_grammar.specs.WritesNames.{WritesNameList}
use Rattle.cl_text_grammar.specs.WritesTypes.{WritesType}

-- a gesture writes its name
pub data WritesGesture : GestureName → Datum → Type 0 where
  select : {at : ℕ} → WritesGesture Select (word (codes "select") at)
  describe : {at : ℕ} → WritesGesture Describe (word (codes "describe") at)
  menu : {at : ℕ} → WritesGesture Menu (word (codes "menu") at)
  edit : {at : ℕ} → WritesGesture Edit (word (codes "edit") at)
  delete : {at : ℕ} → WritesGesture Delete (word (codes "delete") at)

-- the table, the gesture, the priority, the documentation and the tester, as far as they are there, write the keys of a translator
pub data WritesTranslatorKeys : Option (List ℕ) → Option GestureName → Option ℕ → Option (List ℕ) → Option ExprTree → List Datum → Type 0 where
  no_key : WritesTranslatorKeys None None None None None []
  -- :command-table TABLE
  its_table : {c : List ℕ} {g : Option GestureName} {p : Option ℕ} {t : Option (List ℕ)} {v : Option ExprTree} {n : Datum} {ds : List Datum} {key_at : ℕ}
      → name_in n ≡ Some c → WritesTranslatorKeys None g p t v ds → WritesTranslatorKeys (Some c) g p t v (word (codes ":command-table") key_at ∷ n ∷ ds)
  -- :gesture GESTURE
  its_gesture : {c : Option (List ℕ)} {g : GestureName} {p : Option ℕ} {t : Option (List ℕ)} {v : Option ExprTree} {n : Datum} {ds : List Datum} {key_at : ℕ}
      → WritesGesture g n → WritesTranslatorKeys c None p t v ds → WritesTranslatorKeys c (Some g) p t v (word (codes ":gesture") key_at ∷ n ∷ ds)
  -- :priority NUMBER: from 0 to 99
  its_priority : {c : Option (List ℕ)} {g : Option GestureName} {p : ℕ} {t : Option (List ℕ)} {v : Option ExprTree} {ds : List Datum} {key_at number_at : ℕ}
      → p < 100 → WritesTranslatorKeys c g None t v ds → WritesTranslatorKeys c g (Some p) t v (word (codes ":priority") key_at ∷ number (pos p) number_at ∷ ds)
  -- :documentation TEXT
  its_documentation : {c : Option (List ℕ)} {g : Option GestureName} {p : Option ℕ} {s : List ℕ} {v : Option ExprTree} {ds : List Datum} {key_at text_at : ℕ}
      → WritesTranslatorKeys c g p None v ds → WritesTranslatorKeys c g p (Some s) v (word (codes ":documentation") key_at ∷ literal s text_at ∷ ds)
  -- :tester E
  its_tester : {c : Option (List ℕ)} {g : Option GestureName} {p : Option ℕ} {t : Option (List ℕ)} {v : ExprTree} {e : Datum} {ds : List Datum} {key_at : ℕ}
      → Writes v e → WritesTranslatorKeys c g p t None ds → WritesTranslatorKeys c g p t (Some v) (word (codes ":tester") key_at ∷ e ∷ ds)

-- what a translator of this kind gives writes a datum: its type, and the command where it gives one
pub data WritesTarget (w : Signatures) : TranslatorKind → TypeSpecTree → Option (List ℕ) → Datum → Type 0 where
  -- TYPE
  its_type : {s : TypeSpecTree} {d : Datum} → WritesType w [] s d → WritesTarget w Object s None d
  -- COMMAND
  its_command : {x : List ℕ} {n : Datum} → name_in n ≡ Some x → WritesTarget w Command (plain_type (codes "command")) (Some x) n

-- a translator of this kind, declared at this offset, writes what stands behind the head
pub data WritesTranslator (w : Signatures) (kind : TranslatorKind) (at : ℕ) : TranslatorDecl → List Datum → Type 0 where
  -- NAME (FROM TO KEY VALUE ...) (PARAMETER) BODY: in the table that each text has, by `select`, with the priority 0, under its name and with no tester where
  -- no key says another
  its_parts : {x y : List ℕ} {from to : TypeSpecTree} {command c t : Option (List ℕ)} {g : Option GestureName} {p : Option ℕ} {v : Option ExprTree}
      {body : ExprTree} {n f d parameters e : Datum} {keys : Datums} {types_at : ℕ} → name_in n ≡ Some x → WritesType w [] from f
      → WritesTarget w kind to command d → WritesTranslatorKeys c g p t v (in_order keys) → WritesNameList (y ∷ []) parameters → Writes body e
      → WritesTranslator w kind at
      (record {
        name = x;
        from = from;
        to = to;
        command = command;
        table = table_or_global c;
        gesture = unwrap_or g Select;
        priority = unwrap_or p 0;
        documentation = described x t;
        tester = v;
        parameter = y;
        body = body;
        at = at;
      })
      (n ∷ list (item f (item d keys)) types_at ∷ parameters ∷ e ∷ [])
