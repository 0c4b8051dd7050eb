-- The readings of dialogs answer to what is looked at of them.
use Rattle.std.proofs.Common.{ℕ, is_some, if◌then◌else◌, List, [], ◌∷◌}
use Rattle.std.specs.Prelude.{Option, Some, None}
use Rattle.cl_forms.specs.Datum.{Datum, parts_of, offset}
use Rattle.cl_forms.specs.Keys.{Keyed, same_key, keyed_pairs}
use Rattle.cl_forms.specs.Naming.{name_in}
use Rattle.cl_forms.specs.declared.keys.Key.TheVariants as key
use Rattle.cl_words.specs.Arguments.{first_symbols}
use Rattle.cl_words.specs.declared.signatures.Signatures.{Signatures}
use Rattle.cl_expressions.specs.Scopes.{Names, in_sight}
use Rattle.cl_declare.specs.DialogShapes.{are_queries, dialog_keys, dialog_shape, query_keys}
use Rattle.cl_declare.specs.Dialogs.{note_pane, note_command_behind, note_pane_behind, note_dialog_key, note_dialog_keys, parse_when, parse_else}
use Rattle.cl_declare.specs.Dialogs.{parse_query_key, parse_query_keys, no_condition, QueryTable, parse_keyed_query, parse_query, parse_queries}
use Rattle.cl_declare.specs.Dialogs.{parse_shaped, parse_keyed, parse_dialog}
use Rattle.cl_declare.specs.declared.dialog_shapes.DialogShape.{DialogShape}
use Rattle.cl_declare.specs.declared.dialogs.Condition.{Condition}
use Rattle.cl_grammar.proofs.Judging.{Any}
use Rattle.cl_declaration_grammar.specs.Parts.{wrong}
use Rattle.cl_declaration_grammar.specs.Dialogs.{pane_name_seen, command_behind_seen, pane_behind_seen, dialog_key_seen, dialog_keys_seen, condition_seen}
use Rattle.cl_declaration_grammar.specs.Dialogs.{query_key_seen, query_keys_seen, keyed_query_seen, query_seen, queries_seen, shaped_dialog_seen}
use Rattle.cl_declaration_grammar.specs.Dialogs.{keyed_dialog_seen, dialog_seen}
use Rattle.cl_declaration_grammar.proofs.Judging.{Judges, joined, then_given, ended}
use Rattle.cl_declaration_grammar.proofs.PartsJudged.{expression_part, chosen, is_wrong, pane_name_judged}
use Rattle.cl_declaration_grammar.proofs.TranslatorsJudged.{named_judged}

module _ (w : Signatures) where
  -- ---- the command and the pane

  pane_judged : (at : ℕ) (o : Option (List ℕ)) → Judges w (pane_name_seen at o) Any (note_pane w at o)
  pane_judged at None = ended w
  pane_judged at (Some x) = pane_name_judged w x at

  command_behind_judged : (ds : List Datum) → Judges w (command_behind_seen ds) Any (note_command_behind w ds)
  command_behind_judged [] = ended w
  command_behind_judged (d ∷ ds) = named_judged w (offset d) (name_in d)

  pane_behind_judged : (ds : List Datum) → Judges w (pane_behind_seen ds) Any (note_pane_behind w ds)
  pane_behind_judged [] = ended w
  pane_behind_judged (d ∷ ds) = pane_judged (offset d) (name_in d)

  key_judged : (k : Keyed) → Judges w (dialog_key_seen k) Any (note_dialog_key w k)
  key_judged k = chosen w (same_key k.key key.Command) (command_behind_judged k.values) (pane_behind_judged k.values)

  keys_judged : (ks : List Keyed) → Judges w (dialog_keys_seen ks) Any (note_dialog_keys w ks)
  keys_judged [] = ended w
  keys_judged (k ∷ ks) = joined w (dialog_key_seen k) (dialog_keys_seen ks) (key_judged k) λ u i. keys_judged ks

  -- ---- queries

  module _ (xs : Names) where
    when_judged : (ds : List Datum) (c : Condition) → Judges w (condition_seen xs ds) Any (parse_when w xs ds c)
    when_judged [] c = ended w
    when_judged (d ∷ ds) c = then_given w _ (expression_part w d xs)

    else_judged : (ds : List Datum) (c : Condition) → Judges w (condition_seen [] ds) Any (parse_else w ds c)
    else_judged [] c = ended w
    else_judged (d ∷ ds) c = then_given w _ (then_given w _ (expression_part w d []))

    query_key_judged : (k : Keyed) (c : Condition) → Judges w (query_key_seen xs k) Any (parse_query_key w xs k c)
    query_key_judged k c = chosen w (same_key k.key key.When) (when_judged k.values c) (else_judged k.values c)

    query_keys_judged : (ks : List Keyed) (c : Condition) → Judges w (query_keys_seen xs ks) Any (parse_query_keys w xs ks c)
    query_keys_judged [] c = ended w
    query_keys_judged (k ∷ ks) c =
        joined w (query_key_seen xs k) (query_keys_seen xs ks) (query_key_judged k c) λ more i. query_keys_judged ks more

    keyed_query_judged : (at : ℕ) (n : Datum) (o : Option (List Keyed)) (table : QueryTable)
        → Judges w (keyed_query_seen xs o) Any (parse_keyed_query w xs at n o table)
    keyed_query_judged at n None table = ended w
    keyed_query_judged at n (Some ks) table = then_given w _ (query_keys_judged ks no_condition)

    query_judged : (at : ℕ) (ds : List Datum) (table : QueryTable) → Judges w (query_seen xs ds) Any (parse_query w xs at ds table)
    query_judged at [] table = ended w
    query_judged at (n ∷ keys) table = keyed_query_judged at n (keyed_pairs query_keys [] keys) table

    queries_judged : (ds : List Datum) (table : QueryTable) → Judges w (queries_seen xs ds) Any (parse_queries w xs ds table)
    queries_judged [] table = ended w
    queries_judged (d ∷ ds) table =
        joined w (query_seen xs (parts_of d)) (queries_seen xs ds) (query_judged (offset d) (parts_of d) table) λ more i. queries_judged ds more

  -- ---- the whole

  shaped_judged : (at : ℕ) (ks : List Keyed) (queries : List Datum) (o : Option DialogShape)
      → Judges w (if is_some o then shaped_dialog_seen ks queries else wrong at) Any (parse_shaped w at ks queries o)
  shaped_judged at ks queries None = is_wrong w at
  shaped_judged at ks queries (Some s) =
      joined w (dialog_keys_seen ks) (queries_seen (in_sight (first_symbols queries) []) queries) (keys_judged ks) λ u i.
      then_given w _ (queries_judged (in_sight (first_symbols queries) []) queries [])

  keyed_judged : (at : ℕ) (n : Datum) (o : Option (List Keyed)) (queries : List Datum)
      → Judges w (keyed_dialog_seen w at n o queries) Any (parse_keyed w at n o queries)
  keyed_judged at n None queries = is_wrong w at
  keyed_judged at n (Some ks) queries = shaped_judged at ks queries (dialog_shape w n ks queries)

  pub dialog_judged : (at : ℕ) (ds : List Datum) → Judges w (dialog_seen w at ds) Any (parse_dialog w at ds)
  dialog_judged at (n ∷ keys ∷ queries) =
      chosen w (are_queries queries) (keyed_judged at n (keyed_pairs dialog_keys [] (parts_of keys)) queries) (is_wrong w at)
  dialog_judged at [] = is_wrong w at
  dialog_judged at (n ∷ []) = is_wrong w at
