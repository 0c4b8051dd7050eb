-- What is read of a dialog writes it.
use Rattle.std.proofs.Common.{◌≡◌, ℕ, Bool, true, false, if◌then◌else◌, List, [], ◌∷◌, refl, sym, ap, ◌∙◌}
use Rattle.std.specs.Prelude.{Option, Some, None, is_some, not, map, option_and_then, codes}
use Rattle.std.proofs.Math.Path.{subst}
use Rattle.std.proofs.lemmas.Slice.Eq.{bytes_eq-Decides, slice_eq-Decides}
use Rattle.cl_table.specs.Names.{with_first}
use Rattle.cl_forms.specs.Datum.{Datum, Datums, number, literal, word, quoted, stray, list, none, item, in_order, parts_of, offset}
use Rattle.cl_forms.specs.Keys.{Keyed, values_of, keyed_pairs}
use Rattle.cl_forms.specs.Naming.{name_in, symbol_of}
use Rattle.cl_forms.specs.declared.keys.Key.TheVariants as key
use Rattle.cl_words.specs.Arguments.{first_symbol, first_symbols}
use Rattle.cl_words.specs.Signatures.{arguments_of}
use Rattle.cl_words.specs.declared.signatures.Signatures.{Signatures}
use Rattle.cl_expressions.specs.Load.{Load}
use Rattle.cl_expressions.specs.Scopes.{Names, in_sight}
use Rattle.cl_application.specs.declared.declarations.DialogDecl.{DialogDecl}
use Rattle.cl_application.specs.declared.declarations.QueryDecl.{QueryDecl}
use Rattle.cl_declare.specs.DialogShapes.{query_keys, dialog_keys, is_choice, may_name_query, are_together, is_query, are_queries, name_given, are_asked, shape_named, dialog_shape}
use Rattle.cl_declare.specs.Dialogs.{QueryTable, note_dialog_keys, condition_of, parse_keyed_query, parse_query, parse_queries, dialog_of, parse_shaped, parse_keyed, parse_dialog}
use Rattle.cl_declare.specs.TypeShapes.{name_alone, found, name_behind}
use Rattle.cl_declare.specs.declared.dialog_shapes.DialogShape.{DialogShape}
use Rattle.cl_grammar.specs.Heads.{CallsNames}
use Rattle.cl_grammar.proofs.Endings.{Ends, gives, refuses, chooses, binds, ends_weaker}
use Rattle.cl_grammar.proofs.Spelled.{false_true, both_parts, name_is, some_same, nothing_found}
use Rattle.cl_text_grammar.specs.WritesDialogs.{WritesQueries, no_query, one_query, with_queries, AskFor}
use Rattle.cl_text_grammar.specs.WritesDeclarations.{of_dialog, WritesDeclared, a_dialog}
use Rattle.cl_text_grammar.proofs.DialogKeysWritten.{Fine, dialog_keys_written, query_keys_end}
use Rattle.cl_text_grammar.proofs.FramesWritten.{any_ends}

-- ---- queries

denied : (b : Bool) → not b ≡ true → b ≡ false
denied true e = absurd (false_true e)
denied false e = refl

some_named : (o : Option (List ℕ)) → may_name_query o ≡ true → is_some o ≡ true
some_named (Some x) e = refl
some_named None e = absurd (false_true e)

module _ (w : Signatures) (names : CallsNames w) (xs : Names) where
  -- one query more, and what it writes
  record QueryRead (d : Datum) (table more : QueryTable) : Type 0 where
    query : QueryDecl
    named : query.name ≡ first_symbol (parts_of d)
    added : more ≡ with_first (λ q. q.name) table query
    written : (others : List QueryDecl) (ds : List Datum) → WritesQueries others ds → WritesQueries (query ∷ others) (d ∷ ds)

  keyed_query_ends : (n : Datum) (keys : Datums) (at : ℕ) (o : Option (List Keyed)) (table : QueryTable) → name_in n ≡ Some (symbol_of n)
      → is_choice (symbol_of n) ≡ false → keyed_pairs query_keys [] (in_order keys) ≡ o → are_together o ≡ true
      → Ends (QueryRead (list (item n keys) at) table) (parse_keyed_query w xs at n o table)
  keyed_query_ends n keys at (Some ks) table e f g t =
      binds (query_keys_end w names xs ks (in_order keys) g t) λ c i.
      gives (record {
        query = record { name = symbol_of n; condition = condition_of c; at = at };
        named = refl;
        added = refl;
        written = λ others ds l. one_query e f i l;
      })
  keyed_query_ends n keys at None table e f g t = absurd (false_true t)

  query_ends : (d : Datum) (table : QueryTable) → is_query (parts_of d) ≡ true → Ends (QueryRead d table) (parse_query w xs (offset d) (parts_of d) table)
  query_ends (list (item n keys) at) table l =
      let o : Option (List Keyed) = keyed_pairs query_keys [] (in_order keys) in
      let parts : (may_name_query (name_in n) ≡ true) × (are_together o ≡ true) = both_parts (may_name_query (name_in n)) (are_together o) l in
      let e : name_in n ≡ Some (symbol_of n) = name_is n (some_named (name_in n) parts.0) in
      keyed_query_ends n keys at o table e (denied (is_choice (symbol_of n)) (sym (ap may_name_query e) ∙ parts.0)) refl parts.1
  query_ends (list none at) table l = absurd (false_true l)
  query_ends (number z at) table l = absurd (false_true l)
  query_ends (literal s at) table l = absurd (false_true l)
  query_ends (word s at) table l = absurd (false_true l)
  query_ends (quoted s at name_at) table l = absurd (false_true l)
  query_ends (stray at) table l = absurd (false_true l)

  record QueriesRead (ds : List Datum) (table more : QueryTable) : Type 0 where
    all : List QueryDecl
    named : map (λ q. q.name) all ≡ first_symbols ds
    added : more ≡ with_queries table all
    written : WritesQueries all ds

  queries_end : (ds : List Datum) (table : QueryTable) → are_queries ds ≡ true → Ends (QueriesRead ds table) (parse_queries w xs ds table)
  queries_end [] table l = gives (record { all = []; named = refl; added = refl; written = no_query })
  queries_end (d ∷ ds) table l =
      let parts : (is_query (parts_of d) ≡ true) × (are_queries ds ≡ true) = both_parts (is_query (parts_of d)) (are_queries ds) l in
      binds (query_ends d table parts.0) λ more i.
      ends_weaker
      (λ t r. record {
        all = i.query ∷ r.all;
        named = λ j. i.named j ∷ r.named j;
        added = r.added ∙ ap (λ z. with_queries z r.all) i.added;
        written = i.written r.all ds r.written;
      })
      (queries_end ds more parts.1)

-- ---- the shape of a dialog

given_behind : (o : Option (List Datum)) (x : List ℕ) → option_and_then name_alone o ≡ Some x → name_behind o ≡ Some (Some x)
given_behind (Some ds) x e = ap found e
given_behind None x e = absurd (nothing_found e)

-- what is given by the name, the keys and the queries
record Shaped (w : Signatures) (n : Datum) (ks : List Keyed) (queries : List Datum) (s : DialogShape) : Type 0 where
  name : name_in n ≡ Some s.name
  keys : Fine (Some s.command) (Some s.pane) ks
  asked : are_asked (arguments_of w s.command) (first_symbols queries) ≡ true

module _ (w : Signatures) (n : Datum) (ks : List Keyed) (queries : List Datum) (s : DialogShape) where
  shape_asked : (x c p : List ℕ) (b : Bool) → name_in n ≡ Some x → name_given key.Command ks ≡ Some c → name_given key.Pane ks ≡ Some p
      → are_asked (arguments_of w c) (first_symbols queries) ≡ b → (if b then Some (record { name = x; command = c; pane = p }) else None) ≡ Some s
      → Shaped w n ks queries s
  shape_asked x c p true e1 e2 e3 h e =
      subst (Shaped w n ks queries) (some_same e)
      (record {
        name = e1;
        keys = record { command = given_behind (values_of key.Command ks) c e2; pane = given_behind (values_of key.Pane ks) p e3 };
        asked = h;
      })
  shape_asked x c p false e1 e2 e3 h e = absurd (nothing_found e)

  shape_is : (x c p : Option (List ℕ)) → name_in n ≡ x → name_given key.Command ks ≡ c → name_given key.Pane ks ≡ p
      → shape_named w x c p (first_symbols queries) ≡ Some s → Shaped w n ks queries s
  shape_is (Some x) (Some c) (Some p) e1 e2 e3 e = shape_asked x c p (are_asked (arguments_of w c) (first_symbols queries)) e1 e2 e3 refl e
  shape_is (Some x) (Some c) None e1 e2 e3 e = absurd (nothing_found e)
  shape_is (Some x) None p e1 e2 e3 e = absurd (nothing_found e)
  shape_is None c p e1 e2 e3 e = absurd (nothing_found e)

  shaped : dialog_shape w n ks queries ≡ Some s → Shaped w n ks queries s
  shaped e = shape_is (name_in n) (name_given key.Command ks) (name_given key.Pane ks) refl refl refl e

-- ---- the whole

module _ (w : Signatures) (names : CallsNames w) where
  ask_for : (c : List ℕ) (queries : List Datum) (qs : List QueryDecl) → are_asked (arguments_of w c) (first_symbols queries) ≡ true
      → map (λ q. q.name) qs ≡ first_symbols queries → AskFor w c qs
  ask_for c queries qs h i xs e =
      i ∙ sym ((slice_eq-Decides bytes_eq-Decides xs (first_symbols queries) (are_asked (Some xs) (first_symbols queries)) refl).0
      (sym (ap (λ o. are_asked o (first_symbols queries)) e) ∙ h))

  -- what is read writes the head with the parts behind it
  abbrev DialogEnds : ℕ → ℕ → List Datum → Load DialogDecl → Type 0
  DialogEnds h at ds m = Ends (λ d. WritesDeclared w at (of_dialog d) (word (codes "define-dialog") h ∷ ds)) m

  module _ (h at : ℕ) (n : Datum) (keys : Datums) (keys_at : ℕ) (queries : List Datum) where
    abbrev parts : List Datum
    parts = n ∷ list keys keys_at ∷ queries

    dialog_writes : (xs : Names) (ks : List Keyed) (s : DialogShape) (table : QueryTable) → keyed_pairs dialog_keys [] (in_order keys) ≡ Some ks
        → Shaped w n ks queries s → QueriesRead w names xs queries [] table
        → WritesDeclared w at (of_dialog (dialog_of s table at)) (word (codes "define-dialog") h ∷ parts)
    dialog_writes xs ks s table e i r =
        subst (λ t. WritesDeclared w at (of_dialog (dialog_of s t at)) (word (codes "define-dialog") h ∷ parts)) (sym r.added)
        (a_dialog i.name (dialog_keys_written ks (in_order keys) e (Some s.command) (Some s.pane) i.keys) r.written
        (ask_for s.command queries r.all i.asked r.named))

    shaped_ends : (ks : List Keyed) (o : Option DialogShape) → keyed_pairs dialog_keys [] (in_order keys) ≡ Some ks → dialog_shape w n ks queries ≡ o
        → are_queries queries ≡ true → DialogEnds h at parts (parse_shaped w at ks queries o)
    shaped_ends ks None e f l = refuses
    shaped_ends ks (Some s) e f l =
        binds (any_ends (note_dialog_keys w ks)) λ u i. binds (queries_end w names (in_sight (first_symbols queries) []) queries [] l) λ table r.
        gives (dialog_writes (in_sight (first_symbols queries) []) ks s table e (shaped w n ks queries s f) r)

    keyed_ends : (o : Option (List Keyed)) → keyed_pairs dialog_keys [] (in_order keys) ≡ o → are_queries queries ≡ true
        → DialogEnds h at parts (parse_keyed w at n o queries)
    keyed_ends None e l = refuses
    keyed_ends (Some ks) e l = shaped_ends ks (dialog_shape w n ks queries) e refl l

  -- no dialog has neither of its keys
  keyless_ends : (h at : ℕ) (ds queries : List Datum) (x : Option (List ℕ))
      → DialogEnds h at ds (parse_shaped w at [] queries (shape_named w x None None (first_symbols queries)))
  keyless_ends h at ds queries None = refuses
  keyless_ends h at ds queries (Some x) = refuses

  listed_ends : (h at : ℕ) (n keys : Datum) (queries : List Datum) → are_queries queries ≡ true
      → DialogEnds h at (n ∷ keys ∷ queries) (parse_keyed w at n (keyed_pairs dialog_keys [] (parts_of keys)) queries)
  listed_ends h at n (list es keys_at) queries l = keyed_ends h at n es keys_at queries (keyed_pairs dialog_keys [] (in_order es)) refl l
  listed_ends h at n (number z d_at) queries l = keyless_ends h at (n ∷ number z d_at ∷ queries) queries (name_in n)
  listed_ends h at n (literal s d_at) queries l = keyless_ends h at (n ∷ literal s d_at ∷ queries) queries (name_in n)
  listed_ends h at n (word s d_at) queries l = keyless_ends h at (n ∷ word s d_at ∷ queries) queries (name_in n)
  listed_ends h at n (quoted s d_at name_at) queries l = keyless_ends h at (n ∷ quoted s d_at name_at ∷ queries) queries (name_in n)
  listed_ends h at n (stray d_at) queries l = keyless_ends h at (n ∷ stray d_at ∷ queries) queries (name_in n)

  pub dialog_ends : (h at : ℕ) (ds : List Datum) → DialogEnds h at ds (parse_dialog w at ds)
  dialog_ends h at [] = refuses
  dialog_ends h at (n ∷ []) = refuses
  dialog_ends h at (n ∷ keys ∷ queries) = chooses (are_queries queries) (λ l. listed_ends h at n keys queries l) (λ e. refuses)
