-- What is looked at of dialogs lies in them.
use Rattle.std.proofs.Common.{ℕ, ◌+◌, ◌≤◌, is_some, List, [], ◌∷◌, arith}
use Rattle.std.specs.Prelude.{Option, Some, None}
use Rattle.std.specs.Option.{IfSome}
use Rattle.cl_forms.specs.Datum.{Datum, parts_of, offset}
use Rattle.cl_forms.specs.Keys.{Keyed, same_key, keyed_pairs}
use Rattle.cl_forms.specs.Naming.{name_in}
use Rattle.cl_forms.specs.declared.keys.Key.TheVariants as key
use Rattle.cl_words.specs.Arguments.{first_symbols}
use Rattle.cl_words.specs.declared.signatures.Signatures.{Signatures}
use Rattle.cl_expressions.specs.Scopes.{Names, in_sight}
use Rattle.cl_declare.specs.DialogShapes.{are_queries, dialog_keys, dialog_shape, query_keys}
use Rattle.cl_grammar.proofs.Bounds.{Within}
use Rattle.cl_grammar.proofs.Lying.{LieList, own_lies, datum_rises}
use Rattle.cl_declaration_grammar.specs.Parts.{refused, pane_name, wrong}
use Rattle.cl_declaration_grammar.specs.Translators.{command_name_seen}
use Rattle.cl_declaration_grammar.specs.Dialogs.{pane_name_seen, command_behind_seen, pane_behind_seen, dialog_key_seen, dialog_keys_seen, condition_seen}
use Rattle.cl_declaration_grammar.specs.Dialogs.{query_key_seen, query_keys_seen, keyed_query_seen, query_seen, queries_seen, shaped_dialog_seen}
use Rattle.cl_declaration_grammar.specs.Dialogs.{keyed_dialog_seen, dialog_seen}
use Rattle.cl_declaration_grammar.proofs.KeysLie.{LieKey, LieKeys, pairs_lie, inside}
use Rattle.cl_declaration_grammar.proofs.PartsLie.{LieParts, parts_earlier, parts_later, parts_joined, one_lies, when_lies, list_rises}
use Rattle.cl_declaration_grammar.proofs.TranslatorsLie.{named_lies}

-- ---- the command and the pane

pane_lies : (at : ℕ) (o : Option (List ℕ)) (from to : ℕ) → Within from at to → LieParts from (pane_name_seen at o) to
pane_lies at None from to h = omega (arith, h.0, h.1)
pane_lies at (Some x) from to h = one_lies (pane_name x at) from to h

command_behind_lies : (ds : List Datum) (from to : ℕ) → LieList from ds to → LieParts from (command_behind_seen ds) to
command_behind_lies [] from to h = h
command_behind_lies (d ∷ ds) from to h =
    parts_later (command_name_seen (offset d) (name_in d)) from h.0 to (list_rises ds h.0 to h.2)
    (named_lies (offset d) (name_in d) from h.0 (own_lies d from h.0 h.1))

pane_behind_lies : (ds : List Datum) (from to : ℕ) → LieList from ds to → LieParts from (pane_behind_seen ds) to
pane_behind_lies [] from to h = h
pane_behind_lies (d ∷ ds) from to h =
    parts_later (pane_name_seen (offset d) (name_in d)) from h.0 to (list_rises ds h.0 to h.2)
    (pane_lies (offset d) (name_in d) from h.0 (own_lies d from h.0 h.1))

key_lies : (k : Keyed) (from to : ℕ) → LieKey from k to → LieParts from (dialog_key_seen k) to
key_lies k from to h =
    when_lies (same_key k.key key.Command) (command_behind_seen k.values) (pane_behind_seen k.values) from to
    (parts_earlier (command_behind_seen k.values) from (k.at + 1) to (omega (arith, h.0.0)) (command_behind_lies k.values (k.at + 1) to h.1))
    (parts_earlier (pane_behind_seen k.values) from (k.at + 1) to (omega (arith, h.0.0)) (pane_behind_lies k.values (k.at + 1) to h.1))

keys_lie : (ks : List Keyed) (from to : ℕ) → LieKeys from ks to → LieParts from (dialog_keys_seen ks) to
keys_lie [] from to h = h
keys_lie (k ∷ ks) from to h = parts_joined (dialog_key_seen k) (dialog_keys_seen ks) from h.0 to (key_lies k from h.0 h.1) (keys_lie ks h.0 to h.2)

-- ---- queries

condition_lies : (xs : Names) (ds : List Datum) (from to : ℕ) → LieList from ds to → LieParts from (condition_seen xs ds) to
condition_lies xs [] from to h = h
condition_lies xs (d ∷ ds) from to h = (to, (h.0, h.1, list_rises ds h.0 to h.2), omega arith)

module _ (xs : Names) where
  query_key_lies : (k : Keyed) (from to : ℕ) → LieKey from k to → LieParts from (query_key_seen xs k) to
  query_key_lies k from to h =
      when_lies (same_key k.key key.When) (condition_seen xs k.values) (condition_seen [] k.values) from to
      (parts_earlier (condition_seen xs k.values) from (k.at + 1) to (omega (arith, h.0.0)) (condition_lies xs k.values (k.at + 1) to h.1))
      (parts_earlier (condition_seen [] k.values) from (k.at + 1) to (omega (arith, h.0.0)) (condition_lies [] k.values (k.at + 1) to h.1))

  query_keys_lie : (ks : List Keyed) (from to : ℕ) → LieKeys from ks to → LieParts from (query_keys_seen xs ks) to
  query_keys_lie [] from to h = h
  query_keys_lie (k ∷ ks) from to h =
      parts_joined (query_key_seen xs k) (query_keys_seen xs ks) from h.0 to (query_key_lies k from h.0 h.1) (query_keys_lie ks h.0 to h.2)

  keyed_query_lies : (o : Option (List Keyed)) (from to : ℕ) → from ≤ to → IfSome o (λ ks. LieKeys from ks to) → LieParts from (keyed_query_seen xs o) to
  keyed_query_lies None from to e h = e
  keyed_query_lies (Some ks) from to e h = query_keys_lie ks from to h

  query_lies : (ds : List Datum) (from to : ℕ) → LieList from ds to → LieParts from (query_seen xs ds) to
  query_lies [] from to h = h
  query_lies (n ∷ keys) from to h =
      keyed_query_lies (keyed_pairs query_keys [] keys) from to (list_rises (n ∷ keys) from to h)
      (pairs_lie query_keys [] keys from h.0 to (datum_rises n from h.0 h.1) h.2)

  queries_lie : (ds : List Datum) (from to : ℕ) → LieList from ds to → LieParts from (queries_seen xs ds) to
  queries_lie [] from to h = h
  queries_lie (d ∷ ds) from to h =
      parts_joined (query_seen xs (parts_of d)) (queries_seen xs ds) from h.0 to (query_lies (parts_of d) from h.0 (inside d from h.0 h.1))
      (queries_lie ds h.0 to h.2)

-- ---- the whole

shaped_lies : (ks : List Keyed) (queries : List Datum) (from middle to : ℕ) → LieKeys from ks middle → LieList middle queries to
    → LieParts from (shaped_dialog_seen ks queries) to
shaped_lies ks queries from middle to h i =
    parts_joined (dialog_keys_seen ks) (queries_seen (in_sight (first_symbols queries) []) queries) from middle to (keys_lie ks from middle h)
    (queries_lie (in_sight (first_symbols queries) []) queries middle to i)

module _ (w : Signatures) where
  keyed_lies : (at : ℕ) (n : Datum) (o : Option (List Keyed)) (queries : List Datum) (from middle to : ℕ) → Within from at to
      → IfSome o (λ ks. LieKeys from ks middle) → LieList middle queries to → LieParts from (keyed_dialog_seen w at n o queries) to
  keyed_lies at n None queries from middle to a h i = one_lies (refused 6 at) from to a
  keyed_lies at n (Some ks) queries from middle to a h i =
      when_lies (is_some (dialog_shape w n ks queries)) (shaped_dialog_seen ks queries) (wrong at) from to (shaped_lies ks queries from middle to h i)
      (one_lies (refused 6 at) from to a)

  pub dialog_lies : (at : ℕ) (ds : List Datum) (from to : ℕ) → Within from at to → LieList from ds to → LieParts from (dialog_seen w at ds) to
  dialog_lies at (n ∷ keys ∷ queries) from to a k =
      when_lies (are_queries queries) (keyed_dialog_seen w at n (keyed_pairs dialog_keys [] (parts_of keys)) queries) (wrong at) from to
      (keyed_lies at n (keyed_pairs dialog_keys [] (parts_of keys)) queries from k.2.0 to a
      (pairs_lie dialog_keys [] (parts_of keys) from k.0 k.2.0 (datum_rises n from k.0 k.1) (inside keys k.0 k.2.0 k.2.1)) k.2.2)
      (one_lies (refused 6 at) from to a)
  dialog_lies at [] from to a k = one_lies (refused 6 at) from to a
  dialog_lies at (n ∷ []) from to a k = one_lies (refused 6 at) from to a
