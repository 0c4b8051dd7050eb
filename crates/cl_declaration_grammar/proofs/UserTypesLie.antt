-- What is looked at of user types lies in them.
use Rattle.std.proofs.Common.{ℕ, ◌+◌, ◌≤◌, is_some, List, [], ◌∷◌, arith}
use Rattle.std.specs.Prelude.{Option, Some, None}
use Rattle.std.specs.Option.{IfSome}
use Rattle.cl_forms.specs.Datum.{Datum, parts_of, offset}
use Rattle.cl_forms.specs.Keys.{Keyed, keyed_pairs}
use Rattle.cl_forms.specs.Naming.{name_in}
use Rattle.cl_forms.specs.declared.keys.Key.{Key}
use Rattle.cl_forms.specs.declared.keys.Key.TheVariants as key
use Rattle.cl_words.specs.declared.signatures.Signatures.{Signatures}
use Rattle.cl_expressions.specs.Scopes.{Names}
use Rattle.cl_declare.specs.Names.{names_of}
use Rattle.cl_declare.specs.TypeShapes.{type_keys, type_shape}
use Rattle.cl_grammar.proofs.Bounds.{Within}
use Rattle.cl_grammar.proofs.Lying.{LieList, own_lies, datum_rises}
use Rattle.cl_text_grammar.proofs.TypesLie.{type_lies}
use Rattle.cl_declaration_grammar.specs.Parts.{refused, function_name, wrong}
use Rattle.cl_declaration_grammar.specs.UserTypes.{inherited_seen, keyed_type_seen, predicate_name_seen, predicate_seen, type_key_seen, type_keys_seen}
use Rattle.cl_declaration_grammar.specs.UserTypes.{user_type_seen}
use Rattle.cl_declaration_grammar.proofs.PartsLie.{LieParts, parts_earlier, parts_joined, one_lies, when_lies, list_rises}
use Rattle.cl_declaration_grammar.proofs.KeysLie.{LieKey, LieKeys, pairs_lie}

predicate_name_lies : (at : ℕ) (o : Option (List ℕ)) (from to : ℕ) → Within from at to → LieParts from (predicate_name_seen at o) to
predicate_name_lies at None from to h = omega (arith, h.0, h.1)
predicate_name_lies at (Some x) from to h = one_lies (function_name x at) from to h

predicate_lies : (ds : List Datum) (from to : ℕ) → LieList from ds to → LieParts from (predicate_seen ds) to
predicate_lies [] from to h = h
predicate_lies (d ∷ ds) from to h =
    let own : Within from (offset d) h.0 = own_lies d from h.0 h.1 in
    predicate_name_lies (offset d) (name_in d) from to (own.0, omega (arith, own.1, list_rises ds h.0 to h.2))

module _ (w : Signatures) where
  module _ (ps : Names) where
    inherited_lies : (ds : List Datum) (from to : ℕ) → LieList from ds to → LieParts from (inherited_seen w ps ds) to
    inherited_lies [] from to h = h
    inherited_lies (d ∷ ds) from to h = (h.0, type_lies w ps d from h.0 h.1, list_rises ds h.0 to h.2)

    type_key_lies : (k : Key) (at : ℕ) (ds : List Datum) (from to : ℕ) → LieKey from (record { key = k; at = at; values = ds }) to
        → LieParts from (type_key_seen w ps (record { key = k; at = at; values = ds })) to
    type_key_lies key.InheritFrom at ds from to h =
        parts_earlier (inherited_seen w ps ds) from (at + 1) to (omega (arith, h.0.0)) (inherited_lies ds (at + 1) to h.1)
    type_key_lies key.Satisfies at ds from to h = parts_earlier (predicate_seen ds) from (at + 1) to (omega (arith, h.0.0)) (predicate_lies ds (at + 1) to h.1)
    type_key_lies key.Size at ds from to h = omega (arith, h.0.0, h.0.1)
    type_key_lies key.Slots at ds from to h = omega (arith, h.0.0, h.0.1)
    type_key_lies key.Panes at ds from to h = omega (arith, h.0.0, h.0.1)
    type_key_lies key.CommandTable at ds from to h = omega (arith, h.0.0, h.0.1)
    type_key_lies key.Name at ds from to h = omega (arith, h.0.0, h.0.1)
    type_key_lies key.Keystroke at ds from to h = omega (arith, h.0.0, h.0.1)
    type_key_lies key.Description at ds from to h = omega (arith, h.0.0, h.0.1)
    type_key_lies key.Separator at ds from to h = omega (arith, h.0.0, h.0.1)
    type_key_lies key.SingleBox at ds from to h = omega (arith, h.0.0, h.0.1)
    type_key_lies key.Default at ds from to h = omega (arith, h.0.0, h.0.1)
    type_key_lies key.Prompt at ds from to h = omega (arith, h.0.0, h.0.1)
    type_key_lies key.Gesture at ds from to h = omega (arith, h.0.0, h.0.1)
    type_key_lies key.Priority at ds from to h = omega (arith, h.0.0, h.0.1)
    type_key_lies key.Documentation at ds from to h = omega (arith, h.0.0, h.0.1)
    type_key_lies key.Tester at ds from to h = omega (arith, h.0.0, h.0.1)
    type_key_lies key.UniqueId at ds from to h = omega (arith, h.0.0, h.0.1)
    type_key_lies key.CacheValue at ds from to h = omega (arith, h.0.0, h.0.1)
    type_key_lies key.Command at ds from to h = omega (arith, h.0.0, h.0.1)
    type_key_lies key.Pane at ds from to h = omega (arith, h.0.0, h.0.1)
    type_key_lies key.When at ds from to h = omega (arith, h.0.0, h.0.1)
    type_key_lies key.Else at ds from to h = omega (arith, h.0.0, h.0.1)

    type_keys_lie : (ks : List Keyed) (from to : ℕ) → LieKeys from ks to → LieParts from (type_keys_seen w ps ks) to
    type_keys_lie [] from to h = h
    type_keys_lie (k ∷ ks) from to h =
        parts_joined (type_key_seen w ps k) (type_keys_seen w ps ks) from h.0 to (type_key_lies k.key k.at k.values from h.0 h.1) (type_keys_lie ks h.0 to h.2)

  keyed_type_lies : (at : ℕ) (n ps : Datum) (o : Option (List Keyed)) (from to : ℕ) → Within from at to → IfSome o (λ ks. LieKeys from ks to)
      → LieParts from (keyed_type_seen w at n ps o) to
  keyed_type_lies at n ps None from to h k = one_lies (refused 6 at) from to h
  keyed_type_lies at n ps (Some ks) from to h k =
      when_lies (is_some (type_shape w n ps ks)) (type_keys_seen w (names_of (parts_of ps)) ks) (wrong at) from to
      (type_keys_lie (names_of (parts_of ps)) ks from to k) (one_lies (refused 6 at) from to h)

  pub user_type_lies : (at : ℕ) (ds : List Datum) (from to : ℕ) → Within from at to → LieList from ds to → LieParts from (user_type_seen w at ds) to
  user_type_lies at (n ∷ ps ∷ keys) from to a k =
      let before : from ≤ k.2.0 = omega (arith, datum_rises n from k.0 k.1, datum_rises ps k.0 k.2.0 k.2.1) in
      keyed_type_lies at n ps (keyed_pairs type_keys [] keys) from to a (pairs_lie type_keys [] keys from k.2.0 to before k.2.2)
  user_type_lies at [] from to a k = one_lies (refused 6 at) from to a
  user_type_lies at (n ∷ []) from to a k = one_lies (refused 6 at) from to a
