-- The faults of commands and command tables stand in them.
use Rattle.std.proofs.Common.{ℕ, ◌&&◌, List, [], ◌∷◌}
use Rattle.std.specs.Prelude.{Option, Some, None}
use Rattle.std.specs.Option.{IfSome}
use Rattle.cl_forms.specs.Datum.{Datum, parts_of, offset, datums_of}
use Rattle.cl_forms.specs.Keys.{Keyed, keyed_pairs, values_of}
use Rattle.cl_forms.specs.Naming.{name_in}
use Rattle.cl_forms.specs.declared.keys.Key.TheVariants as key
use Rattle.cl_words.specs.Signatures.{table_in}
use Rattle.cl_words.specs.declared.signatures.Signatures.{Signatures}
use Rattle.cl_expressions.specs.Scopes.{in_sight}
use Rattle.cl_declare.specs.CommandShapes.{are_arguments, argument_keys, command_shape, head_keys, head_name}
use Rattle.cl_declare.specs.CommandTables.{note_named_table, note_tables, table_keys, parse_inheriting, parse_named_table, parse_table}
use Rattle.cl_declare.specs.Commands.{ArgumentTable, parse_default, parse_keyed_argument, parse_argument, parse_arguments, argument_names}
use Rattle.cl_declare.specs.Commands.{parse_shaped, parse_headed, parse_command}
use Rattle.cl_declare.specs.Frames.{behind}
use Rattle.cl_declare.specs.Names.{is_list, is_name_list}
use Rattle.cl_declare.specs.declared.command_shapes.CommandShape.{CommandShape}
use Rattle.cl_faults.proofs.FaultLemmas.{FaultsAt, gives, refuses, notes, binds, chooses}
use Rattle.cl_faults.proofs.ExpressionFaults.{Covers, expr_faults}
use Rattle.cl_faults.proofs.DataFaults.{CoversEach, covers_parts, covers_datums}
use Rattle.cl_faults.proofs.KeyFaults.{CoversKeys, pairs_covered, values_covered}
use Rattle.cl_faults.proofs.StatementFaults.{acts_faults}
use Rattle.cl_faults.proofs.TypeFaults.{type_faults}

module _ {P : ℕ → Type 0} where
  -- ---- command tables

  table_faults : (w : Signatures) (at : ℕ) (name : Option (List ℕ)) → FaultsAt P (note_named_table w at name)
  table_faults w at None = gives
  table_faults w at (Some x) = notes (table_in w x) at

  pub tables_faults : (w : Signatures) (ds : List Datum) → FaultsAt P (note_tables w ds)
  tables_faults w [] = gives
  tables_faults w (d ∷ ds) = binds (table_faults w (offset d) (name_in d)) λ u. tables_faults w ds

  inheriting_faults : (w : Signatures) (at : ℕ) (x : List ℕ) (o : Option (List Datum)) → P at → FaultsAt P (parse_inheriting w at x o)
  inheriting_faults w at x None h = gives
  inheriting_faults w at x (Some []) h = refuses h
  inheriting_faults w at x (Some (d ∷ ds)) h = chooses (is_name_list d) (binds (tables_faults w (parts_of d)) λ u. gives) (refuses h)

  named_table_faults : (w : Signatures) (at : ℕ) (x : Option (List ℕ)) (ks : Option (List Keyed)) → P at → FaultsAt P (parse_named_table w at x ks)
  named_table_faults w at (Some x) (Some ks) h = inheriting_faults w at x (values_of key.InheritFrom ks) h
  named_table_faults w at (Some x) None h = refuses h
  named_table_faults w at None ks h = refuses h

  pub command_table_faults : (w : Signatures) (at : ℕ) (ds : List Datum) → P at → FaultsAt P (parse_table w at ds)
  command_table_faults w at [] h = refuses h
  command_table_faults w at (n ∷ keys) h = named_table_faults w at (name_in n) (keyed_pairs table_keys [] keys) h

  -- ---- arguments

  default_faults : (w : Signatures) (o : Option (List Datum)) → IfSome o (CoversEach P) → FaultsAt P (parse_default w o)
  default_faults w None c = gives
  default_faults w (Some []) c = gives
  default_faults w (Some (d ∷ ds)) c = binds (binds (expr_faults w d [] c.0) λ v. gives) λ v. gives

  keyed_argument_faults : (w : Signatures) (at : ℕ) (n t : Datum) (o : Option (List Keyed)) (table : ArgumentTable) → Covers P t → IfSome o (CoversKeys P)
      → FaultsAt P (parse_keyed_argument w at n t o table)
  keyed_argument_faults w at n t None table b c = gives
  keyed_argument_faults w at n t (Some ks) table b c =
      binds (type_faults w [] t b) λ s. binds (default_faults w (values_of key.Default ks) (values_covered P key.Default ks c)) λ v. gives

  argument_faults : (w : Signatures) (at : ℕ) (ds : List Datum) (table : ArgumentTable) → CoversEach P ds → FaultsAt P (parse_argument w at ds table)
  argument_faults w at (n ∷ t ∷ keys) table c =
      keyed_argument_faults w at n t (keyed_pairs argument_keys [] keys) table c.1.0 (pairs_covered P argument_keys [] keys tt c.1.1)
  argument_faults w at [] table c = gives
  argument_faults w at (n ∷ []) table c = gives

  arguments_faults : (w : Signatures) (ds : List Datum) (table : ArgumentTable) → CoversEach P ds → FaultsAt P (parse_arguments w ds table)
  arguments_faults w [] table c = gives
  arguments_faults w (d ∷ ds) table c =
      binds (argument_faults w (offset d) (parts_of d) table (covers_parts d c.0)) λ more. arguments_faults w ds more c.1

  -- ---- commands

  shaped_faults : (w : Signatures) (at : ℕ) (ks : List Keyed) (arguments body : List Datum) (o : Option CommandShape) → P at → CoversEach P arguments
      → CoversEach P body → FaultsAt P (parse_shaped w at ks arguments body o)
  shaped_faults w at ks arguments body None h a b = refuses h
  shaped_faults w at ks arguments body (Some c) h a b =
      binds (tables_faults w (behind key.CommandTable ks)) λ u. binds (arguments_faults w arguments [] a) λ table.
      binds (acts_faults w (datums_of body) (in_sight (argument_names arguments) []) (covers_datums P body b)) λ acts. gives

  headed_faults : (w : Signatures) (at : ℕ) (n : Datum) (o : Option (List Keyed)) (arguments body : List Datum) → P at → CoversEach P arguments
      → CoversEach P body → FaultsAt P (parse_headed w at n o arguments body)
  headed_faults w at n None arguments body h a b = refuses h
  headed_faults w at n (Some ks) arguments body h a b = shaped_faults w at ks arguments body (command_shape (head_name n) ks) h a b

  pub command_faults : (w : Signatures) (at : ℕ) (ds : List Datum) → P at → CoversEach P ds → FaultsAt P (parse_command w at ds)
  command_faults w at [] h c = refuses h
  command_faults w at (n ∷ []) h c = refuses h
  command_faults w at (n ∷ arguments ∷ body) h c =
      chooses (is_list arguments && are_arguments (parts_of arguments))
      (headed_faults w at n (head_keys n) (parts_of arguments) body h (covers_parts arguments c.1.0) c.1.1) (refuses h)
