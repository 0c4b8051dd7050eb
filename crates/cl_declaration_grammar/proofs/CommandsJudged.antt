-- The readings of commands and command tables answer to what is looked at of them.
use Rattle.std.proofs.Common.{ℕ, ◌&&◌, is_some, if◌then◌else◌, List, [], ◌∷◌, ◌++◌}
use Rattle.std.specs.Prelude.{Option, Some, None}
use Rattle.cl_forms.specs.Datum.{Datum, parts_of, offset}
use Rattle.cl_forms.specs.Keys.{Keyed, keyed_pairs, values_of}
use Rattle.cl_forms.specs.Naming.{name_in}
use Rattle.cl_forms.specs.declared.keys.Key.TheVariants as key
use Rattle.cl_words.specs.declared.signatures.Signatures.{Signatures}
use Rattle.cl_expressions.specs.Scopes.{in_sight}
use Rattle.cl_declare.specs.CommandShapes.{are_arguments, argument_keys, command_shape, head_keys, head_name}
use Rattle.cl_declare.specs.CommandTables.{note_named_table, note_tables, table_keys, parse_inheriting, parse_named_table, parse_table}
use Rattle.cl_declare.specs.Commands.{ArgumentTable, parse_default, parse_keyed_argument, parse_argument, parse_arguments, argument_names}
use Rattle.cl_declare.specs.Commands.{parse_shaped, parse_headed, parse_command}
use Rattle.cl_declare.specs.Frames.{behind}
use Rattle.cl_declare.specs.Names.{is_list, is_name_list}
use Rattle.cl_declare.specs.declared.command_shapes.CommandShape.{CommandShape}
use Rattle.cl_grammar.proofs.Judging.{Any}
use Rattle.cl_text_grammar.specs.FormSights.{forms_seen}
use Rattle.cl_text_grammar.specs.Types.{type_seen}
use Rattle.cl_declaration_grammar.specs.Parts.{specifier, acts, wrong}
use Rattle.cl_declaration_grammar.specs.Commands.{table_seen, tables_seen, inheriting_seen, named_table_seen, command_table_seen, default_seen}
use Rattle.cl_declaration_grammar.specs.Commands.{keyed_argument_seen, argument_seen, arguments_seen, shaped_command_seen, headed_seen, command_seen}
use Rattle.cl_declaration_grammar.proofs.Judging.{Judges, joined, then_given, ended}
use Rattle.cl_declaration_grammar.proofs.PartsJudged.{expression_part, type_part, chosen, is_wrong, table_name_judged, acts_part}

module _ (w : Signatures) where
  -- ---- command tables

  table_judged : (at : ℕ) (o : Option (List ℕ)) → Judges w (table_seen at o) Any (note_named_table w at o)
  table_judged at None = ended w
  table_judged at (Some x) = table_name_judged w x at

  pub tables_judged : (ds : List Datum) → Judges w (tables_seen ds) Any (note_tables w ds)
  tables_judged [] = ended w
  tables_judged (d ∷ ds) =
      joined w (table_seen (offset d) (name_in d)) (tables_seen ds) (table_judged (offset d) (name_in d)) λ u i. tables_judged ds

  inheriting_judged : (at : ℕ) (x : List ℕ) (o : Option (List Datum)) → Judges w (inheriting_seen at o) Any (parse_inheriting w at x o)
  inheriting_judged at x None = ended w
  inheriting_judged at x (Some []) = is_wrong w at
  inheriting_judged at x (Some (d ∷ ds)) = chosen w (is_name_list d) (then_given w _ (tables_judged (parts_of d))) (is_wrong w at)

  named_table_judged : (at : ℕ) (x : Option (List ℕ)) (ks : Option (List Keyed)) → Judges w (named_table_seen at x ks) Any (parse_named_table w at x ks)
  named_table_judged at (Some x) (Some ks) = inheriting_judged at x (values_of key.InheritFrom ks)
  named_table_judged at (Some x) None = is_wrong w at
  named_table_judged at None ks = is_wrong w at

  pub command_table_judged : (at : ℕ) (ds : List Datum) → Judges w (command_table_seen at ds) Any (parse_table w at ds)
  command_table_judged at [] = is_wrong w at
  command_table_judged at (n ∷ ds) = named_table_judged at (name_in n) (keyed_pairs table_keys [] ds)

  -- ---- arguments

  default_judged : (o : Option (List Datum)) → Judges w (default_seen o) Any (parse_default w o)
  default_judged None = ended w
  default_judged (Some []) = ended w
  default_judged (Some (d ∷ ds)) = then_given w _ (then_given w _ (expression_part w d []))

  keyed_argument_judged : (at : ℕ) (n t : Datum) (o : Option (List Keyed)) (table : ArgumentTable)
      → Judges w (keyed_argument_seen w t o) Any (parse_keyed_argument w at n t o table)
  keyed_argument_judged at n t None table = ended w
  keyed_argument_judged at n t (Some ks) table =
      joined w (specifier (type_seen w [] t) ∷ []) (default_seen (values_of key.Default ks)) (type_part w [] t) λ s i.
      then_given w _ (default_judged (values_of key.Default ks))

  argument_judged : (at : ℕ) (ds : List Datum) (table : ArgumentTable) → Judges w (argument_seen w ds) Any (parse_argument w at ds table)
  argument_judged at (n ∷ t ∷ ds) table = keyed_argument_judged at n t (keyed_pairs argument_keys [] ds) table
  argument_judged at [] table = ended w
  argument_judged at (n ∷ []) table = ended w

  arguments_judged : (ds : List Datum) (table : ArgumentTable) → Judges w (arguments_seen w ds) Any (parse_arguments w ds table)
  arguments_judged [] table = ended w
  arguments_judged (d ∷ ds) table =
      joined w (argument_seen w (parts_of d)) (arguments_seen w ds) (argument_judged (offset d) (parts_of d) table) λ more i. arguments_judged ds more

  -- ---- commands

  shaped_judged : (at : ℕ) (ks : List Keyed) (arguments body : List Datum) (o : Option CommandShape)
      → Judges w (if is_some o then shaped_command_seen w ks arguments body else wrong at) Any (parse_shaped w at ks arguments body o)
  shaped_judged at ks arguments body None = is_wrong w at
  shaped_judged at ks arguments body (Some c) =
      joined w (tables_seen (behind key.CommandTable ks)) (arguments_seen w arguments ++ acts (forms_seen (in_sight (argument_names arguments) []) body) ∷ [])
      (tables_judged (behind key.CommandTable ks)) λ u i.
      joined w (arguments_seen w arguments) (acts (forms_seen (in_sight (argument_names arguments) []) body) ∷ []) (arguments_judged arguments []) λ table j.
      then_given w _ (acts_part w body (in_sight (argument_names arguments) []))

  headed_judged : (at : ℕ) (h : Datum) (o : Option (List Keyed)) (arguments body : List Datum)
      → Judges w (headed_seen w at h o arguments body) Any (parse_headed w at h o arguments body)
  headed_judged at h None arguments body = is_wrong w at
  headed_judged at h (Some ks) arguments body = shaped_judged at ks arguments body (command_shape (head_name h) ks)

  pub command_judged : (at : ℕ) (ds : List Datum) → Judges w (command_seen w at ds) Any (parse_command w at ds)
  command_judged at (h ∷ arguments ∷ body) =
      chosen w (is_list arguments && are_arguments (parts_of arguments)) (headed_judged at h (head_keys h) (parts_of arguments) body) (is_wrong w at)
  command_judged at [] = is_wrong w at
  command_judged at (h ∷ []) = is_wrong w at
