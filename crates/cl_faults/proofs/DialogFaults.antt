-- The faults of dialogs stand in them.
use Rattle.std.proofs.Common.{ℕ, List, [], ◌∷◌}
use Rattle.std.specs.Prelude.{Option, Some, None}
use Rattle.std.specs.Option.{IfSome}
use Rattle.cl_forms.specs.Datum.{Datum, parts_of, offset}
use Rattle.cl_forms.specs.Keys.{Keyed, same_key, keyed_pairs}
use Rattle.cl_forms.specs.Naming.{name_in}
use Rattle.cl_forms.specs.declared.keys.Key.TheVariants as key
use Rattle.cl_words.specs.Arguments.{first_symbols}
use Rattle.cl_words.specs.Signatures.{pane_in}
use Rattle.cl_words.specs.declared.signatures.Signatures.{Signatures}
use Rattle.cl_expressions.specs.Scopes.{Names, in_sight}
use Rattle.cl_declare.specs.DialogShapes.{are_queries, dialog_keys, dialog_shape, query_keys}
use Rattle.cl_declare.specs.Dialogs.{note_pane, note_command_behind, note_pane_behind, note_dialog_key, note_dialog_keys, parse_when, parse_else}
use Rattle.cl_declare.specs.Dialogs.{parse_query_key, parse_query_keys, no_condition, QueryTable, parse_keyed_query, parse_query, parse_queries}
use Rattle.cl_declare.specs.Dialogs.{parse_shaped, parse_keyed, parse_dialog}
use Rattle.cl_declare.specs.declared.dialog_shapes.DialogShape.{DialogShape}
use Rattle.cl_declare.specs.declared.dialogs.Condition.{Condition}
use Rattle.cl_faults.proofs.FaultLemmas.{FaultsAt, gives, refuses, notes, binds, chooses}
use Rattle.cl_faults.proofs.ExpressionFaults.{expr_faults}
use Rattle.cl_faults.proofs.DataFaults.{CoversEach, covers_parts}
use Rattle.cl_faults.proofs.KeyFaults.{CoversKeys, pairs_covered}
use Rattle.cl_faults.proofs.TranslatorFaults.{named_faults}

module _ {P : ℕ → Type 0} where
  -- ---- the command and the pane

  pane_faults : (w : Signatures) (at : ℕ) (name : Option (List ℕ)) → FaultsAt P (note_pane w at name)
  pane_faults w at None = gives
  pane_faults w at (Some x) = notes (pane_in w x) at

  command_behind_faults : (w : Signatures) (ds : List Datum) → FaultsAt P (note_command_behind w ds)
  command_behind_faults w [] = gives
  command_behind_faults w (d ∷ ds) = named_faults w (offset d) (name_in d)

  pane_behind_faults : (w : Signatures) (ds : List Datum) → FaultsAt P (note_pane_behind w ds)
  pane_behind_faults w [] = gives
  pane_behind_faults w (d ∷ ds) = pane_faults w (offset d) (name_in d)

  key_faults : (w : Signatures) (k : Keyed) → FaultsAt P (note_dialog_key w k)
  key_faults w k = chooses (same_key k.key key.Command) (command_behind_faults w k.values) (pane_behind_faults w k.values)

  keys_faults : (w : Signatures) (ks : List Keyed) → FaultsAt P (note_dialog_keys w ks)
  keys_faults w [] = gives
  keys_faults w (k ∷ ks) = binds (key_faults w k) λ u. keys_faults w ks

  -- ---- queries

  when_faults : (w : Signatures) (xs : Names) (ds : List Datum) (c : Condition) → CoversEach P ds → FaultsAt P (parse_when w xs ds c)
  when_faults w xs [] c h = gives
  when_faults w xs (d ∷ ds) c h = binds (expr_faults w d xs h.0) λ t. gives {x = record c { when = Some t }}

  else_faults : (w : Signatures) (ds : List Datum) (c : Condition) → CoversEach P ds → FaultsAt P (parse_else w ds c)
  else_faults w [] c h = gives
  else_faults w (d ∷ ds) c h = binds (binds (expr_faults w d [] h.0) λ t. gives) λ v. gives {x = record c { otherwise = Some v }}

  query_key_faults : (w : Signatures) (xs : Names) (k : Keyed) (c : Condition) → CoversEach P k.values → FaultsAt P (parse_query_key w xs k c)
  query_key_faults w xs k c h = chooses (same_key k.key key.When) (when_faults w xs k.values c h) (else_faults w k.values c h)

  query_keys_faults : (w : Signatures) (xs : Names) (ks : List Keyed) (c : Condition) → CoversKeys P ks → FaultsAt P (parse_query_keys w xs ks c)
  query_keys_faults w xs [] c h = gives
  query_keys_faults w xs (k ∷ ks) c h = binds (query_key_faults w xs k c h.0.1) λ more. query_keys_faults w xs ks more h.1

  keyed_query_faults : (w : Signatures) (xs : Names) (at : ℕ) (n : Datum) (o : Option (List Keyed)) (table : QueryTable) → IfSome o (CoversKeys P)
      → FaultsAt P (parse_keyed_query w xs at n o table)
  keyed_query_faults w xs at n None table h = gives
  keyed_query_faults w xs at n (Some ks) table h = binds (query_keys_faults w xs ks no_condition h) λ c. gives

  query_faults : (w : Signatures) (xs : Names) (at : ℕ) (ds : List Datum) (table : QueryTable) → CoversEach P ds → FaultsAt P (parse_query w xs at ds table)
  query_faults w xs at [] table h = gives
  query_faults w xs at (n ∷ keys) table h =
      keyed_query_faults w xs at n (keyed_pairs query_keys [] keys) table (pairs_covered P query_keys [] keys tt h.1)

  queries_faults : (w : Signatures) (xs : Names) (ds : List Datum) (table : QueryTable) → CoversEach P ds → FaultsAt P (parse_queries w xs ds table)
  queries_faults w xs [] table h = gives
  queries_faults w xs (d ∷ ds) table h =
      binds (query_faults w xs (offset d) (parts_of d) table (covers_parts d h.0)) λ more. queries_faults w xs ds more h.1

  -- ---- the whole

  shaped_faults : (w : Signatures) (at : ℕ) (ks : List Keyed) (queries : List Datum) (o : Option DialogShape) → P at → CoversEach P queries
      → FaultsAt P (parse_shaped w at ks queries o)
  shaped_faults w at ks queries None h c = refuses h
  shaped_faults w at ks queries (Some s) h c =
      binds (keys_faults w ks) λ u. binds (queries_faults w (in_sight (first_symbols queries) []) queries [] c) λ table. gives

  keyed_faults : (w : Signatures) (at : ℕ) (n : Datum) (o : Option (List Keyed)) (queries : List Datum) → P at → CoversEach P queries
      → FaultsAt P (parse_keyed w at n o queries)
  keyed_faults w at n None queries h c = refuses h
  keyed_faults w at n (Some ks) queries h c = shaped_faults w at ks queries (dialog_shape w n ks queries) h c

  pub dialog_faults : (w : Signatures) (at : ℕ) (ds : List Datum) → P at → CoversEach P ds → FaultsAt P (parse_dialog w at ds)
  dialog_faults w at [] h c = refuses h
  dialog_faults w at (n ∷ []) h c = refuses h
  dialog_faults w at (n ∷ keys ∷ queries) h c =
      chooses (are_queries queries) (keyed_faults w at n (keyed_pairs dialog_keys [] (parts_of keys)) queries h c.1.1) (refuses h)
