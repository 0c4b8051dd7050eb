-- The readings of user types answer to what is looked at of them.
use Rattle.std.proofs.Common.{ℕ, is_some, if◌then◌else◌, List, [], ◌∷◌}
use Rattle.std.specs.Prelude.{Option, Some, None}
use Rattle.cl_forms.specs.Datum.{Datum, parts_of, offset}
use Rattle.cl_forms.specs.Keys.{Keyed, keyed_pairs}
use Rattle.cl_forms.specs.Naming.{name_in}
use Rattle.cl_forms.specs.declared.keys.Key.{Key}
use Rattle.cl_forms.specs.declared.keys.Key.TheVariants as key
use Rattle.cl_words.specs.declared.signatures.Signatures.{Signatures}
use Rattle.cl_expressions.specs.Scopes.{Names}
use Rattle.cl_declare.specs.Names.{names_of}
use Rattle.cl_declare.specs.Types.{Inherited, note_function, note_predicate, parse_inherited, parse_type_key, parse_type_keys, parse_type_keyed}
use Rattle.cl_declare.specs.Types.{parse_type_shaped, parse_user_type, type_of}
use Rattle.cl_declare.specs.TypeShapes.{type_keys, type_shape}
use Rattle.cl_declare.specs.declared.type_shapes.TypeShape.{TypeShape}
use Rattle.cl_grammar.proofs.Judging.{Any}
use Rattle.cl_declaration_grammar.specs.Parts.{wrong}
use Rattle.cl_declaration_grammar.specs.UserTypes.{inherited_seen, keyed_type_seen, predicate_name_seen, predicate_seen, type_key_seen, type_keys_seen}
use Rattle.cl_declaration_grammar.specs.UserTypes.{user_type_seen}
use Rattle.cl_declaration_grammar.proofs.Judging.{Judges, joined, then_given, ended}
use Rattle.cl_declaration_grammar.proofs.PartsJudged.{type_part, is_wrong, function_name_judged}

module _ (w : Signatures) where
  predicate_name_judged : (at : ℕ) (o : Option (List ℕ)) → Judges w (predicate_name_seen at o) Any (note_function w at o)
  predicate_name_judged at None = ended w
  predicate_name_judged at (Some x) = function_name_judged w x at

  predicate_judged : (ds : List Datum) → Judges w (predicate_seen ds) Any (note_predicate w ds)
  predicate_judged [] = ended w
  predicate_judged (d ∷ ds) = predicate_name_judged (offset d) (name_in d)

  module _ (ps : Names) where
    inherited_judged : (ds : List Datum) (i : Inherited) → Judges w (inherited_seen w ps ds) Any (parse_inherited w ps ds i)
    inherited_judged [] i = ended w
    inherited_judged (d ∷ ds) i = then_given w (λ t. Some t) (type_part w ps d)

    type_key_judged : (k : Key) (at : ℕ) (ds : List Datum) (i : Inherited)
        → Judges w (type_key_seen w ps (record { key = k; at = at; values = ds })) Any (parse_type_key w ps (record { key = k; at = at; values = ds }) i)
    type_key_judged key.InheritFrom at ds i = inherited_judged ds i
    type_key_judged key.Satisfies at ds i = then_given w (λ u. i) (predicate_judged ds)
    type_key_judged key.Size at ds i = ended w
    type_key_judged key.Slots at ds i = ended w
    type_key_judged key.Panes at ds i = ended w
    type_key_judged key.CommandTable at ds i = ended w
    type_key_judged key.Name at ds i = ended w
    type_key_judged key.Keystroke at ds i = ended w
    type_key_judged key.Description at ds i = ended w
    type_key_judged key.Separator at ds i = ended w
    type_key_judged key.SingleBox at ds i = ended w
    type_key_judged key.Default at ds i = ended w
    type_key_judged key.Prompt at ds i = ended w
    type_key_judged key.Gesture at ds i = ended w
    type_key_judged key.Priority at ds i = ended w
    type_key_judged key.Documentation at ds i = ended w
    type_key_judged key.Tester at ds i = ended w
    type_key_judged key.UniqueId at ds i = ended w
    type_key_judged key.CacheValue at ds i = ended w
    type_key_judged key.Command at ds i = ended w
    type_key_judged key.Pane at ds i = ended w
    type_key_judged key.When at ds i = ended w
    type_key_judged key.Else at ds i = ended w

    type_keys_judged : (ks : List Keyed) (i : Inherited) → Judges w (type_keys_seen w ps ks) Any (parse_type_keys w ps ks i)
    type_keys_judged [] i = ended w
    type_keys_judged (k ∷ ks) i =
        joined w (type_key_seen w ps k) (type_keys_seen w ps ks) (type_key_judged k.key k.at k.values i) λ more j. type_keys_judged ks more

  shaped_type_judged : (at : ℕ) (ps : Datum) (ks : List Keyed) (o : Option TypeShape)
      → Judges w (if is_some o then type_keys_seen w (names_of (parts_of ps)) ks else wrong at) Any (parse_type_shaped w at ps ks o)
  shaped_type_judged at ps ks None = is_wrong w at
  shaped_type_judged at ps ks (Some t) = then_given w (λ i. type_of t (names_of (parts_of ps)) i at) (type_keys_judged (names_of (parts_of ps)) ks None)

  keyed_type_judged : (at : ℕ) (n ps : Datum) (o : Option (List Keyed)) → Judges w (keyed_type_seen w at n ps o) Any (parse_type_keyed w at n ps o)
  keyed_type_judged at n ps None = is_wrong w at
  keyed_type_judged at n ps (Some ks) = shaped_type_judged at ps ks (type_shape w n ps ks)

  pub user_type_judged : (at : ℕ) (ds : List Datum) → Judges w (user_type_seen w at ds) Any (parse_user_type w at ds)
  user_type_judged at (n ∷ ps ∷ keys) = keyed_type_judged at n ps (keyed_pairs type_keys [] keys)
  user_type_judged at [] = is_wrong w at
  user_type_judged at (n ∷ []) = is_wrong w at
