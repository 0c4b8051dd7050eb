-- What is read of a command, or of a command table, writes it.
use Rattle.std.proofs.Common.{◌≡◌, ℕ, Bool, true, false, if◌then◌else◌, List, [], ◌∷◌, refl, sym, ap, ◌∙◌}
use Rattle.std.specs.Prelude.{Option, Some, None, not, ◌&&◌, ◌||◌, is_some, codes}
use Rattle.std.proofs.Math.Path.{subst}
use Rattle.cl_table.specs.Names.{with_first}
use Rattle.cl_syntax.specs.ActTree.{ActTree, act_trees_of}
use Rattle.cl_forms.specs.Datum.{Datum, Datums, number, literal, word, quoted, stray, list, none, item, in_order, parts_of, datums_of, offset}
use Rattle.cl_forms.specs.Keys.{Keyed, same_key, is_among, has_key, values_of, keyed_pairs}
use Rattle.cl_forms.specs.Naming.{name_in, symbol_of}
use Rattle.cl_forms.specs.declared.keys.Key.{Key}
use Rattle.cl_forms.specs.declared.keys.Key.TheVariants as key
use Rattle.cl_tables.specs.declared.declarations.TableDecl.{TableDecl}
use Rattle.cl_words.specs.declared.signatures.Signatures.{Signatures}
use Rattle.cl_expressions.specs.Load.{Load, ◌>>=◌, give}
use Rattle.cl_expressions.specs.Scopes.{in_sight}
use Rattle.cl_bodies.specs.Specifiers.{parse_type}
use Rattle.cl_bodies.specs.TypeArguments.{text_behind}
use Rattle.cl_application.specs.declared.declarations.ArgumentDecl.{ArgumentDecl}
use Rattle.cl_application.specs.declared.declarations.CommandDecl.{CommandDecl}
use Rattle.cl_declare.specs.CommandShapes.{head_name, head_keys, command_shape, argument_keys, is_command_type, has_prompt, is_argument, are_arguments}
use Rattle.cl_declare.specs.CommandTables.{table_or_global, note_tables, table_keys, parse_inheriting, parse_named_table, parse_table}
use Rattle.cl_declare.specs.Commands.{ArgumentTable, parse_default, prompt_of, parse_keyed_argument, parse_argument, parse_arguments}
use Rattle.cl_declare.specs.Commands.{argument_names, command_of, parse_shaped, parse_headed, parse_command}
use Rattle.cl_declare.specs.Frames.{behind}
use Rattle.cl_declare.specs.Names.{is_list, is_name_list}
use Rattle.cl_declare.specs.declared.command_shapes.CommandShape.{CommandShape}
use Rattle.cl_grammar.specs.Heads.{CallsNames}
use Rattle.cl_grammar.proofs.Endings.{Ends, gives, refuses, chooses, binds, ends_weaker}
use Rattle.cl_grammar.proofs.Spelled.{false_true, both_parts, name_is}
use Rattle.cl_grammar.proofs.Written.{expression_ends}
use Rattle.cl_text_grammar.specs.WritesActs.{WritesActs}
use Rattle.cl_text_grammar.specs.WritesCommands.{WritesCommandArguments, no_argument, one_argument, with_arguments, no_parents, its_parents}
use Rattle.cl_text_grammar.specs.WritesDeclarations.{of_command_table, of_command, WritesDeclared, a_command_table, a_command}
use Rattle.cl_text_grammar.proofs.NamesWritten.{name_list_written}
use Rattle.cl_text_grammar.proofs.TypesWritten.{type_ends}
use Rattle.cl_text_grammar.proofs.ActsWritten.{acts_end}
use Rattle.cl_text_grammar.proofs.CalleesWritten.{shown}
use Rattle.cl_text_grammar.proofs.CommandKeysWritten.{head_written, Shaped, shaped, DefaultRead, DefaultOf, read_argument_keys_written}
use Rattle.cl_text_grammar.proofs.FramesWritten.{any_ends}
use Rattle.cl_text_grammar.proofs.KeyWords.{key_word, IsPair, a_pair, ArePairs, no_pairs, more_pairs, StandApart, Keys, pairs_stand}

-- ---- command tables

-- the one key that a command table may have does not stand again
first_again : (b : Bool) (vs : List Datum) → (b || false) ≡ true → is_some (if b then Some vs else None) ≡ false → ⊥
first_again true vs i a = false_true (sym a)
first_again false vs i a = false_true i

again : (k : Keyed) (d v : Datum) (at : ℕ) (vs : List Datum) → IsPair table_keys k d v
    → has_key k.key (record { key = key.InheritFrom; at = at; values = vs } ∷ []) ≡ false → ⊥
again k d v at vs (a_pair {k = j} i) a = first_again (same_key j key.InheritFrom) vs i a

module _ (w : Signatures) where
  -- what is read writes the head with the parts behind it
  abbrev TableEnds : ℕ → ℕ → List Datum → Load TableDecl → Type 0
  TableEnds h at ds m = Ends (λ d. WritesDeclared w at (of_command_table d) (word (codes "define-command-table") h ∷ ds)) m

  module _ (h at : ℕ) (n : Datum) (x : List ℕ) (e : name_in n ≡ Some x) where
    inherited_ends : (key_at : ℕ) (v : Datum) (ks : List Keyed) (ds : List Datum) → ArePairs table_keys ks ds
        → StandApart [] (record { key = key.InheritFrom; at = key_at; values = v ∷ [] } ∷ ks)
        → TableEnds h at (n ∷ word (codes ":inherit-from") key_at ∷ v ∷ ds) (parse_inheriting w at x (Some (v ∷ [])))
    inherited_ends key_at v ks ds no_pairs a =
        chooses (is_name_list v)
        (λ f. binds (any_ends (note_tables w (parts_of v))) λ u j. gives (a_command_table e (its_parents (name_list_written v f)))) (λ f. refuses)
    inherited_ends key_at v ks ds (more_pairs {k} {d} {v = b} i j) a = absurd (again k d b key_at (v ∷ []) i a.1.0)

    key_ends : (k : Key) (key_at : ℕ) (v : Datum) (ks : List Keyed) (ds : List Datum) → is_among table_keys k ≡ true → ArePairs table_keys ks ds
        → StandApart [] (record { key = k; at = key_at; values = v ∷ [] } ∷ ks)
        → TableEnds h at (n ∷ word (key_word k) key_at ∷ v ∷ ds)
        (parse_inheriting w at x (values_of key.InheritFrom (record { key = k; at = key_at; values = v ∷ [] } ∷ ks)))
    key_ends key.InheritFrom key_at v ks ds i j a = inherited_ends key_at v ks ds j a
    key_ends key.Size key_at v ks ds i j a = absurd (false_true i)
    key_ends key.Slots key_at v ks ds i j a = absurd (false_true i)
    key_ends key.Panes key_at v ks ds i j a = absurd (false_true i)
    key_ends key.CommandTable key_at v ks ds i j a = absurd (false_true i)
    key_ends key.Name key_at v ks ds i j a = absurd (false_true i)
    key_ends key.Keystroke key_at v ks ds i j a = absurd (false_true i)
    key_ends key.Satisfies key_at v ks ds i j a = absurd (false_true i)
    key_ends key.Description key_at v ks ds i j a = absurd (false_true i)
    key_ends key.Separator key_at v ks ds i j a = absurd (false_true i)
    key_ends key.SingleBox key_at v ks ds i j a = absurd (false_true i)
    key_ends key.Default key_at v ks ds i j a = absurd (false_true i)
    key_ends key.Prompt key_at v ks ds i j a = absurd (false_true i)
    key_ends key.Gesture key_at v ks ds i j a = absurd (false_true i)
    key_ends key.Priority key_at v ks ds i j a = absurd (false_true i)
    key_ends key.Documentation key_at v ks ds i j a = absurd (false_true i)
    key_ends key.Tester key_at v ks ds i j a = absurd (false_true i)
    key_ends key.UniqueId key_at v ks ds i j a = absurd (false_true i)
    key_ends key.CacheValue key_at v ks ds i j a = absurd (false_true i)
    key_ends key.Command key_at v ks ds i j a = absurd (false_true i)
    key_ends key.Pane key_at v ks ds i j a = absurd (false_true i)
    key_ends key.When key_at v ks ds i j a = absurd (false_true i)
    key_ends key.Else key_at v ks ds i j a = absurd (false_true i)

    pair_ends : (d v : Datum) (k : Keyed) (ks : List Keyed) (ds : List Datum) → IsPair table_keys k d v → ArePairs table_keys ks ds → StandApart [] (k ∷ ks)
        → TableEnds h at (n ∷ d ∷ v ∷ ds) (parse_inheriting w at x (values_of key.InheritFrom (k ∷ ks)))
    pair_ends d v k ks ds (a_pair {k = j} {h = key_at} i) rest a = key_ends j key_at v ks ds i rest a

    pairs_end : (ks : List Keyed) (ds : List Datum) → ArePairs table_keys ks ds → StandApart [] ks
        → TableEnds h at (n ∷ ds) (parse_inheriting w at x (values_of key.InheritFrom ks))
    pairs_end ks ds no_pairs a = gives (a_command_table e no_parents)
    pairs_end ks ds (more_pairs {k} {ks = js} {d} {v} {ds = es} i j) a = pair_ends d v k js es i j a

  named_table_ends : (h at : ℕ) (n : Datum) (ds : List Datum) (x : Option (List ℕ)) (ks : Option (List Keyed)) → name_in n ≡ x → keyed_pairs table_keys [] ds ≡ ks
      → TableEnds h at (n ∷ ds) (parse_named_table w at x ks)
  named_table_ends h at n ds (Some x) (Some ks) e f =
      let k : Keys (ArePairs table_keys) [] ks ds = pairs_stand table_keys [] ks ds f in
      pairs_end h at n x e ks ds (subst (λ js. ArePairs table_keys js ds) (sym k.whole) k.stand) (subst (StandApart []) (sym k.whole) k.apart)
  named_table_ends h at n ds (Some x) None e f = refuses
  named_table_ends h at n ds None ks e f = refuses

  pub table_ends : (h at : ℕ) (ds : List Datum) → TableEnds h at ds (parse_table w at ds)
  table_ends h at [] = refuses
  table_ends h at (n ∷ ds) = named_table_ends h at n ds (name_in n) (keyed_pairs table_keys [] ds) refl refl

-- ---- arguments

denied : (b : Bool) → not b ≡ true → b ≡ false
denied true e = absurd (false_true e)
denied false e = refl

module _ (w : Signatures) (names : CallsNames w) where
  default_ends : (o : Option (List Datum)) → Ends (DefaultOf o) (parse_default w o)
  default_ends None = gives refl
  default_ends (Some []) = gives refl
  default_ends (Some (d ∷ ds)) =
      binds {P = λ v. DefaultRead d (Some v)}
      (binds (expression_ends w names d []) λ t i. gives (record { value = t; is = refl; written = i })) λ v i. gives i

  -- one argument more, and what it writes
  record ArgumentRead (d : Datum) (table more : ArgumentTable) : Type 0 where
    argument : ArgumentDecl
    added : more ≡ with_first (λ a. a.name) table argument
    written : (others : List ArgumentDecl) (ds : List Datum) → WritesCommandArguments w others ds → WritesCommandArguments w (argument ∷ others) (d ∷ ds)

  prompted_ends : (n t : Datum) (keys : Datums) (at : ℕ) (ks : List Keyed) (p : Option (Option (List ℕ))) (table : ArgumentTable) → is_some (name_in n) ≡ true
      → is_command_type t ≡ false → keyed_pairs argument_keys [] (in_order keys) ≡ Some ks → text_behind (values_of key.Prompt ks) ≡ p → is_some p ≡ true
      → Ends (ArgumentRead (list (item n (item t keys)) at) table)
      (parse_type w [] t >>= λ s. parse_default w (values_of key.Default ks) >>= λ v.
      give (with_first (λ d. d.name) table (record { name = symbol_of n; spec = s; default = v; prompt = prompt_of (symbol_of n) p; at = at })))
  prompted_ends n t keys at ks (Some p) table e f g h i =
      binds (type_ends w [] t) λ s j. binds (default_ends (values_of key.Default ks)) λ v k.
      gives (record {
        argument = _;
        added = refl;
        written = λ others ds l. one_argument (name_is n e) j f (read_argument_keys_written ks (in_order keys) g v p k h) l;
      })
  prompted_ends n t keys at ks None table e f g h i = absurd (false_true i)

  keyed_argument_ends : (n t : Datum) (keys : Datums) (at : ℕ) (o : Option (List Keyed)) (table : ArgumentTable) → is_some (name_in n) ≡ true
      → is_command_type t ≡ false → keyed_pairs argument_keys [] (in_order keys) ≡ o → has_prompt o ≡ true
      → Ends (ArgumentRead (list (item n (item t keys)) at) table) (parse_keyed_argument w at n t o table)
  keyed_argument_ends n t keys at (Some ks) table e f g i =
      prompted_ends n t keys at ks (text_behind (values_of key.Prompt ks)) table e f g refl i
  keyed_argument_ends n t keys at None table e f g i = absurd (false_true i)

  argument_ends : (d : Datum) (table : ArgumentTable) → is_argument (parts_of d) ≡ true → Ends (ArgumentRead d table) (parse_argument w (offset d) (parts_of d) table)
  argument_ends (list (item n (item t keys)) at) table l =
      let o : Option (List Keyed) = keyed_pairs argument_keys [] (in_order keys) in
      let parts : (is_some (name_in n) ≡ true) × ((not (is_command_type t) && has_prompt o) ≡ true) =
      both_parts (is_some (name_in n)) (not (is_command_type t) && has_prompt o) l in
      let others : (not (is_command_type t) ≡ true) × (has_prompt o ≡ true) = both_parts (not (is_command_type t)) (has_prompt o) parts.1 in
      keyed_argument_ends n t keys at o table parts.0 (denied (is_command_type t) others.0) refl others.1
  argument_ends (list none at) table l = absurd (false_true l)
  argument_ends (list (item n none) at) table l = absurd (false_true l)
  argument_ends (number z at) table l = absurd (false_true l)
  argument_ends (literal s at) table l = absurd (false_true l)
  argument_ends (word s at) table l = absurd (false_true l)
  argument_ends (quoted s at name_at) table l = absurd (false_true l)
  argument_ends (stray at) table l = absurd (false_true l)

  record ArgumentsRead (ds : List Datum) (table more : ArgumentTable) : Type 0 where
    all : List ArgumentDecl
    added : more ≡ with_arguments table all
    written : WritesCommandArguments w all ds

  arguments_end : (ds : List Datum) (table : ArgumentTable) → are_arguments ds ≡ true → Ends (ArgumentsRead ds table) (parse_arguments w ds table)
  arguments_end [] table l = gives (record { all = []; added = refl; written = no_argument })
  arguments_end (d ∷ ds) table l =
      let parts : (is_argument (parts_of d) ≡ true) × (are_arguments ds ≡ true) = both_parts (is_argument (parts_of d)) (are_arguments ds) l in
      binds (argument_ends d table parts.0) λ more i.
      ends_weaker
      (λ t r. record { all = i.argument ∷ r.all; added = r.added ∙ ap (λ z. with_arguments z r.all) i.added; written = i.written r.all ds r.written })
      (arguments_end ds more parts.1)

  -- ---- commands

  -- what is read writes the head with the parts behind it
  abbrev CommandEnds : ℕ → ℕ → List Datum → Load CommandDecl → Type 0
  CommandEnds h at ds m = Ends (λ d. WritesDeclared w at (of_command d) (word (codes "define-command") h ∷ ds)) m

  command_writes : (h at : ℕ) (n : Datum) (es : Datums) (list_at : ℕ) (body : List Datum) (ks : List Keyed) (s : CommandShape) (table : ArgumentTable)
      (ss : List ActTree) → head_keys n ≡ Some ks → Shaped n ks s → ArgumentsRead (in_order es) [] table → WritesActs (act_trees_of ss) body
      → WritesDeclared w at (of_command (command_of s table ss at)) (word (codes "define-command") h ∷ n ∷ list es list_at ∷ body)
  command_writes h at n es list_at body ks s table ss e i r k =
      subst
      (λ a. WritesDeclared w at (of_command (command_of s a ss at)) (word (codes "define-command") h ∷ n ∷ list es list_at ∷ body)) (sym r.added)
      (subst
      (λ c. WritesDeclared w at
      (of_command (command_of (record { name = s.name; table = c; line_name = s.line_name; keystroke = s.keystroke }) (with_arguments [] r.all) ss at))
      (word (codes "define-command") h ∷ n ∷ list es list_at ∷ body)) i.tabled
      (subst
      (λ t. WritesDeclared w at
      (of_command (command_of (record { name = s.name; table = table_or_global i.table; line_name = t; keystroke = s.keystroke }) (with_arguments [] r.all) ss at))
      (word (codes "define-command") h ∷ n ∷ list es list_at ∷ body)) i.lined
      (a_command (head_written n s.name ks i.table i.line_name s.keystroke i.name e i.fine) r.written k)))

  shaped_ends : (h at : ℕ) (n : Datum) (es : Datums) (list_at : ℕ) (body : List Datum) (ks : List Keyed) (o : Option CommandShape) → head_keys n ≡ Some ks
      → command_shape (head_name n) ks ≡ o → are_arguments (in_order es) ≡ true
      → CommandEnds h at (n ∷ list es list_at ∷ body) (parse_shaped w at ks (in_order es) body o)
  shaped_ends h at n es list_at body ks None e f l = refuses
  shaped_ends h at n es list_at body ks (Some s) e f l =
      binds (any_ends (note_tables w (behind key.CommandTable ks))) λ u i. binds (arguments_end (in_order es) [] l) λ table r.
      binds (acts_end w names (datums_of body) (in_sight (argument_names (in_order es)) [])) λ ss k.
      gives (command_writes h at n es list_at body ks s table ss e (shaped n ks s (head_name n) refl f) r (subst (WritesActs (act_trees_of ss)) (shown body) k))

  headed_ends : (h at : ℕ) (n : Datum) (es : Datums) (list_at : ℕ) (body : List Datum) (o : Option (List Keyed)) → head_keys n ≡ o
      → are_arguments (in_order es) ≡ true → CommandEnds h at (n ∷ list es list_at ∷ body) (parse_headed w at n o (in_order es) body)
  headed_ends h at n es list_at body None e l = refuses
  headed_ends h at n es list_at body (Some ks) e l = shaped_ends h at n es list_at body ks (command_shape (head_name n) ks) e refl l

  listed_ends : (h at : ℕ) (n arguments : Datum) (body : List Datum) → is_list arguments ≡ true → are_arguments (parts_of arguments) ≡ true
      → CommandEnds h at (n ∷ arguments ∷ body) (parse_headed w at n (head_keys n) (parts_of arguments) body)
  listed_ends h at n (list es list_at) body e l = headed_ends h at n es list_at body (head_keys n) refl l
  listed_ends h at n (number z d_at) body e l = absurd (false_true e)
  listed_ends h at n (literal s d_at) body e l = absurd (false_true e)
  listed_ends h at n (word s d_at) body e l = absurd (false_true e)
  listed_ends h at n (quoted s d_at name_at) body e l = absurd (false_true e)
  listed_ends h at n (stray d_at) body e l = absurd (false_true e)

  pub command_ends : (h at : ℕ) (ds : List Datum) → CommandEnds h at ds (parse_command w at ds)
  command_ends h at [] = refuses
  command_ends h at (n ∷ []) = refuses
  command_ends h at (n ∷ arguments ∷ body) =
      chooses (is_list arguments && are_arguments (parts_of arguments))
      (λ e. let parts : (is_list arguments ≡ true) × (are_arguments (parts_of arguments) ≡ true) =
      both_parts (is_list arguments) (are_arguments (parts_of arguments)) e in
      listed_ends h at n arguments body parts.0 parts.1) (λ e. refuses)
