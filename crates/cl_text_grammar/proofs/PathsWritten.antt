-- What is read of a datum as a path writes it.
use Rattle.std.proofs.Common.{◌≡◌, ℕ, List, [], ◌∷◌, refl, sym}
use Rattle.std.specs.Prelude.{Option, Some, codes}
use Rattle.std.proofs.Math.Path.{subst}
use Rattle.cl_syntax.specs.ExprTree.{ExprTree, expr_trees_of}
use Rattle.cl_forms.specs.Datum.{Datum, Datums, number, literal, word, quoted, stray, list, none, item, offset}
use Rattle.cl_forms.specs.Words.{is_name}
use Rattle.cl_words.specs.Heads.{head_named}
use Rattle.cl_words.specs.Signatures.{slot_in}
use Rattle.cl_words.specs.declared.heads.Head.{Head}
use Rattle.cl_words.specs.declared.heads.Head.TheVariants as head
use Rattle.cl_words.specs.declared.heads.Special.TheVariants as special
use Rattle.cl_words.specs.declared.signatures.Signatures.{Signatures}
use Rattle.cl_expressions.specs.Load.{Load}
use Rattle.cl_expressions.specs.Scopes.{Names, among}
use Rattle.cl_expressions.specs.Expressions.{parse_slot, parse_get}
use Rattle.cl_bodies.specs.Paths.{parse_path_head, parse_path_form, parse_path, path_subs, parse_each_path}
use Rattle.cl_grammar.proofs.Endings.{Ends, gives, refuses, chooses, notes_then, binds, asks_name}
use Rattle.cl_grammar.proofs.Spelled.{head_stands}
use Rattle.cl_text_grammar.specs.WritesUpdates.{WritesPath, a_variable, a_slot, a_field, WritesPaths, no_path, one_path}

module _ (w : Signatures) where
  abbrev PathEnds : Datum → Names → Type 0
  PathEnds d env = Ends (λ t. WritesPath t d) (parse_path w d env)

  -- each of these parts, as a path
  abbrev PathParts : Datums → Type 0
  PathParts none = Unit {0}
  PathParts (item d ds) = ((env : Names) → PathEnds d env) × PathParts ds

  -- what is read writes a list of the word and of the parts behind it
  abbrev FormEnds : List ℕ → ℕ → ℕ → Datums → Load ExprTree → Type 0
  FormEnds x h at ds m = Ends (λ t. WritesPath t (list (item (word x h) ds) at)) m

  spelled_so : (y x : List ℕ) (h at : ℕ) (ds : Datums) (m : Load ExprTree) → x ≡ y → FormEnds y h at ds m → FormEnds x h at ds m
  spelled_so y x h at ds m e i = subst (λ z. FormEnds z h at ds m) (sym e) i

  slot_ends : (h at : ℕ) (ds : Datums) → FormEnds (codes "slot") h at ds (parse_slot w at (path_subs w ds))
  slot_ends h at (item n none) = asks_name at n λ x e. notes_then (slot_in w x) (offset n) (gives (a_slot e))
  slot_ends h at none = refuses
  slot_ends h at (item n (item d ds)) = refuses

  field_ends : (h at : ℕ) (ds : Datums) (env : Names) → PathParts ds → FormEnds (codes "get") h at ds (parse_get at (path_subs w ds) env)
  field_ends h at (item p (item f none)) env k = asks_name at f λ x e. binds (k.0 env) λ t i. gives (a_field i e)
  field_ends h at none env k = refuses
  field_ends h at (item p none) env k = refuses
  field_ends h at (item p (item f (item d ds))) env k = refuses

  head_ends : (o : Option Head) (x : List ℕ) (h at : ℕ) (ds : Datums) (env : Names) → head_named x ≡ o → PathParts ds
      → FormEnds x h at ds (parse_path_head w o h at (path_subs w ds) env)
  head_ends (Some (head.Special special.Slot)) x h at ds env e k =
      spelled_so (codes "slot") x h at ds (parse_slot w at (path_subs w ds)) (head_stands w x (head.Special special.Slot) e).spelled (slot_ends h at ds)
  head_ends (Some (head.Special special.Get)) x h at ds env e k =
      spelled_so (codes "get") x h at ds (parse_get at (path_subs w ds) env) (head_stands w x (head.Special special.Get) e).spelled
      (field_ends h at ds env k)
  head_ends o x h at ds env e k = refuses

  listed_ends : (ds : Datums) (at : ℕ) (env : Names) → PathParts ds → Ends (λ t. WritesPath t (list ds at)) (parse_path_form w at (path_subs w ds) env)
  listed_ends none at env k = refuses
  listed_ends (item (word x h) ds) at env k = head_ends (head_named x) x h at ds env refl k.1
  listed_ends (item (number z h) ds) at env k = refuses
  listed_ends (item (literal s h) ds) at env k = refuses
  listed_ends (item (quoted s h name_at) ds) at env k = refuses
  listed_ends (item (stray h) ds) at env k = refuses
  listed_ends (item (list es h) ds) at env k = refuses

  mutual
    path_ends : (d : Datum) (env : Names) → PathEnds d env
    path_ends (word x at) env = chooses (is_name x) (λ e. notes_then (among x env) at (gives (a_variable e))) (λ e. refuses)
    path_ends (list ds at) env = listed_ends ds at env (parts_end ds)
    path_ends (number z at) env = refuses
    path_ends (literal s at) env = refuses
    path_ends (quoted s at name_at) env = refuses
    path_ends (stray at) env = refuses

    parts_end : (ds : Datums) → PathParts ds
    parts_end none = tt
    parts_end (item d ds) = (λ env. path_ends d env, parts_end ds)

  pub paths_end : (ds : List Datum) (env : Names) → Ends (λ ts. WritesPaths (expr_trees_of ts) ds) (parse_each_path w ds env)
  paths_end [] env = gives no_path
  paths_end (d ∷ ds) env = binds (path_ends d env) λ t i. binds (paths_end ds env) λ ts j. gives (one_path i j)
