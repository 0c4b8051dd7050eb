-- What is looked at of commands and command tables lies in them.
use Rattle.std.proofs.Common.{ℕ, ◌≤◌, ◌&&◌, is_some, List, [], ◌∷◌, ◌++◌, arith}
use Rattle.std.specs.Prelude.{Option, Some, None}
use Rattle.std.specs.Option.{IfSome}
use Rattle.cl_forms.specs.Datum.{Datum, parts_of, offset}
use Rattle.cl_forms.specs.Keys.{Keyed, keyed_pairs, values_of}
use Rattle.cl_forms.specs.Naming.{name_in}
use Rattle.cl_forms.specs.Outer.{behind_first}
use Rattle.cl_forms.specs.declared.keys.Key.TheVariants as key
use Rattle.cl_words.specs.declared.signatures.Signatures.{Signatures}
use Rattle.cl_expressions.specs.Scopes.{in_sight}
use Rattle.cl_declare.specs.Commands.{argument_names}
use Rattle.cl_declare.specs.CommandShapes.{are_arguments, argument_keys, command_keys, command_shape, head_keys, head_name}
use Rattle.cl_declare.specs.CommandTables.{table_keys}
use Rattle.cl_declare.specs.Frames.{behind, or_nothing}
use Rattle.cl_declare.specs.Names.{is_list, is_name_list}
use Rattle.cl_grammar.specs.Lies.{Lies}
use Rattle.cl_grammar.proofs.Bounds.{Within}
use Rattle.cl_grammar.proofs.Lying.{LieList, own_lies, datum_rises, datum_earlier}
use Rattle.cl_text_grammar.specs.FormSights.{forms_seen}
use Rattle.cl_text_grammar.proofs.FormsLie.{forms_lie}
use Rattle.cl_text_grammar.proofs.TypesLie.{type_lies}
use Rattle.cl_declaration_grammar.specs.Parts.{refused, table_name, acts, wrong}
use Rattle.cl_declaration_grammar.specs.Commands.{table_seen, tables_seen, inheriting_seen, named_table_seen, command_table_seen, default_seen}
use Rattle.cl_declaration_grammar.specs.Commands.{keyed_argument_seen, argument_seen, arguments_seen, shaped_command_seen, headed_seen, command_seen}
use Rattle.cl_declaration_grammar.proofs.PartsLie.{LieParts, parts_later, parts_joined, one_lies, when_lies, list_rises}
use Rattle.cl_declaration_grammar.proofs.KeysLie.{LieKeys, list_earlier, pairs_lie, inside, keys_rise, values_lie}

-- ---- command tables

table_lies : (at : ℕ) (o : Option (List ℕ)) (from to : ℕ) → Within from at to → LieParts from (table_seen at o) to
table_lies at None from to h = omega (arith, h.0, h.1)
table_lies at (Some x) from to h = one_lies (table_name x at) from to h

pub tables_lie : (ds : List Datum) (from to : ℕ) → LieList from ds to → LieParts from (tables_seen ds) to
tables_lie [] from to h = h
tables_lie (d ∷ ds) from to h =
    parts_joined (table_seen (offset d) (name_in d)) (tables_seen ds) from h.0 to (table_lies (offset d) (name_in d) from h.0 (own_lies d from h.0 h.1))
    (tables_lie ds h.0 to h.2)

inheriting_lies : (at : ℕ) (o : Option (List Datum)) (from to : ℕ) → Within from at to → IfSome o (λ vs. LieList from vs to) → LieParts from (inheriting_seen at o) to
inheriting_lies at None from to a h = omega (arith, a.0, a.1)
inheriting_lies at (Some []) from to a h = one_lies (refused 6 at) from to a
inheriting_lies at (Some (d ∷ ds)) from to a h =
    when_lies (is_name_list d) (tables_seen (parts_of d)) (wrong at) from to
    (parts_later (tables_seen (parts_of d)) from h.0 to (list_rises ds h.0 to h.2) (tables_lie (parts_of d) from h.0 (inside d from h.0 h.1)))
    (one_lies (refused 6 at) from to a)

named_table_lies : (at : ℕ) (x : Option (List ℕ)) (ks : Option (List Keyed)) (from to : ℕ) → Within from at to → IfSome ks (λ s. LieKeys from s to)
    → LieParts from (named_table_seen at x ks) to
named_table_lies at (Some x) (Some ks) from to a h = inheriting_lies at (values_of key.InheritFrom ks) from to a (values_lie key.InheritFrom ks from to h)
named_table_lies at (Some x) None from to a h = one_lies (refused 6 at) from to a
named_table_lies at None ks from to a h = one_lies (refused 6 at) from to a

pub command_table_lies : (at : ℕ) (ds : List Datum) (from to : ℕ) → Within from at to → LieList from ds to → LieParts from (command_table_seen at ds) to
command_table_lies at [] from to a h = one_lies (refused 6 at) from to a
command_table_lies at (n ∷ ds) from to a h =
    named_table_lies at (name_in n) (keyed_pairs table_keys [] ds) from to a (pairs_lie table_keys [] ds from h.0 to (datum_rises n from h.0 h.1) h.2)

-- ---- arguments

default_lies : (o : Option (List Datum)) (from to : ℕ) → from ≤ to → IfSome o (λ vs. LieList from vs to) → LieParts from (default_seen o) to
default_lies None from to e h = e
default_lies (Some []) from to e h = e
default_lies (Some (d ∷ ds)) from to e h = (to, (h.0, h.1, list_rises ds h.0 to h.2), omega arith)

-- what stands behind a key, or nothing
behind_lies : (o : Option (List Datum)) (from to : ℕ) → from ≤ to → IfSome o (λ vs. LieList from vs to) → LieList from (or_nothing o) to
behind_lies None from to e h = e
behind_lies (Some vs) from to e h = h

others_lie : (ds : List Datum) (from to : ℕ) → LieList from ds to → LieList from (behind_first ds) to
others_lie [] from to h = h
others_lie (d ∷ ds) from to h = list_earlier ds from h.0 to (datum_rises d from h.0 h.1) h.2

head_keys_lie : (d : Datum) (from to : ℕ) → Lies from d to → IfSome (head_keys d) (λ ks. LieKeys from ks to)
head_keys_lie d from to h =
    pairs_lie command_keys [] (behind_first (parts_of d)) from from to (omega arith) (others_lie (parts_of d) from to (inside d from to h))

module _ (w : Signatures) where
  keyed_argument_lies : (t : Datum) (o : Option (List Keyed)) (from next to : ℕ) → Lies from t next → next ≤ to → IfSome o (λ ks. LieKeys next ks to)
      → LieParts from (keyed_argument_seen w t o) to
  keyed_argument_lies t None from next to l e h = omega (arith, datum_rises t from next l, e)
  keyed_argument_lies t (Some ks) from next to l e h =
      (next, type_lies w [] t from next l, default_lies (values_of key.Default ks) next to e (values_lie key.Default ks next to h))

  argument_lies : (ds : List Datum) (from to : ℕ) → LieList from ds to → LieParts from (argument_seen w ds) to
  argument_lies (n ∷ t ∷ ds) from to h =
      keyed_argument_lies t (keyed_pairs argument_keys [] ds) from h.2.0 to (datum_earlier t from h.0 h.2.0 (datum_rises n from h.0 h.1) h.2.1)
      (list_rises ds h.2.0 to h.2.2) (pairs_lie argument_keys [] ds h.2.0 h.2.0 to (omega arith) h.2.2)
  argument_lies [] from to h = h
  argument_lies (n ∷ []) from to h = list_rises (n ∷ []) from to h

  arguments_lie : (ds : List Datum) (from to : ℕ) → LieList from ds to → LieParts from (arguments_seen w ds) to
  arguments_lie [] from to h = h
  arguments_lie (d ∷ ds) from to h =
      parts_joined (argument_seen w (parts_of d)) (arguments_seen w ds) from h.0 to (argument_lies (parts_of d) from h.0 (inside d from h.0 h.1))
      (arguments_lie ds h.0 to h.2)

  -- ---- commands

  shaped_lies : (ks : List Keyed) (arguments body : List Datum) (from middle next to : ℕ) → LieKeys from ks middle → LieList middle arguments next
      → LieList next body to → LieParts from (shaped_command_seen w ks arguments body) to
  shaped_lies ks arguments body from middle next to h i k =
      parts_joined (tables_seen (behind key.CommandTable ks)) (arguments_seen w arguments ++ acts (forms_seen (in_sight (argument_names arguments) []) body) ∷ [])
      from middle to
      (tables_lie (behind key.CommandTable ks) from middle
      (behind_lies (values_of key.CommandTable ks) from middle (keys_rise ks from middle h) (values_lie key.CommandTable ks from middle h)))
      (parts_joined (arguments_seen w arguments) (acts (forms_seen (in_sight (argument_names arguments) []) body) ∷ []) middle next to
      (arguments_lie arguments middle next i) (to, forms_lie (in_sight (argument_names arguments) []) body next to k, omega arith))

  headed_lies : (at : ℕ) (h : Datum) (o : Option (List Keyed)) (arguments body : List Datum) (from middle next to : ℕ) → Within from at to
      → IfSome o (λ ks. LieKeys from ks middle) → LieList middle arguments next → LieList next body to → LieParts from (headed_seen w at h o arguments body) to
  headed_lies at h None arguments body from middle next to a e i k = one_lies (refused 6 at) from to a
  headed_lies at h (Some ks) arguments body from middle next to a e i k =
      when_lies (is_some (command_shape (head_name h) ks)) (shaped_command_seen w ks arguments body) (wrong at) from to
      (shaped_lies ks arguments body from middle next to e i k) (one_lies (refused 6 at) from to a)

  pub command_lies : (at : ℕ) (ds : List Datum) (from to : ℕ) → Within from at to → LieList from ds to → LieParts from (command_seen w at ds) to
  command_lies at (h ∷ arguments ∷ body) from to a k =
      when_lies (is_list arguments && are_arguments (parts_of arguments)) (headed_seen w at h (head_keys h) (parts_of arguments) body) (wrong at) from to
      (headed_lies at h (head_keys h) (parts_of arguments) body from k.0 k.2.0 to a (head_keys_lie h from k.0 k.1) (inside arguments k.0 k.2.0 k.2.1) k.2.2)
      (one_lies (refused 6 at) from to a)
  command_lies at [] from to a k = one_lies (refused 6 at) from to a
  command_lies at (h ∷ []) from to a k = one_lies (refused 6 at) from to a
