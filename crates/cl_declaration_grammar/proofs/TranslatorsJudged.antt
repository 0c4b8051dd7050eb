-- The readings of translators answer to what is looked at of them.
use Rattle.std.proofs.Common.{ℕ, List, [], ◌∷◌, ◌++◌}
use Rattle.std.specs.Prelude.{Option, Some, None, codes}
use Rattle.cl_syntax.specs.TypeSpecTree.{plain_type}
use Rattle.cl_forms.specs.Datum.{Datum, offset}
use Rattle.cl_forms.specs.Keys.{Keyed, keyed_pairs}
use Rattle.cl_forms.specs.Naming.{name_in}
use Rattle.cl_forms.specs.declared.keys.Key.{Key}
use Rattle.cl_forms.specs.declared.keys.Key.TheVariants as key
use Rattle.cl_words.specs.declared.signatures.Signatures.{Signatures}
use Rattle.cl_expressions.specs.Scopes.{Names}
use Rattle.cl_declare.specs.TranslatorForms.{TranslatorForm, translator_form}
use Rattle.cl_declare.specs.TranslatorShapes.{translator_keys, translator_shape}
use Rattle.cl_declare.specs.Translators.{Tester, note_command, parse_target, parse_tester, parse_translator_key, parse_translator_keys}
use Rattle.cl_declare.specs.Translators.{parse_shaped, parse_keyed, parse_formed, parse_translator}
use Rattle.cl_declare.specs.declared.translator_shapes.TranslatorKind.{TranslatorKind}
use Rattle.cl_declare.specs.declared.translator_shapes.TranslatorKind.TheVariants.{Object, Command}
use Rattle.cl_declare.specs.declared.translator_shapes.TranslatorShape.{TranslatorShape}
use Rattle.cl_grammar.specs.Sights.{expression}
use Rattle.cl_grammar.proofs.Judging.{Any}
use Rattle.cl_text_grammar.specs.Types.{type_seen}
use Rattle.cl_declaration_grammar.specs.Parts.{specifier, expressions}
use Rattle.cl_declaration_grammar.specs.Translators.{command_name_seen, target_seen, tester_seen, translator_key_seen, translator_keys_seen}
use Rattle.cl_declaration_grammar.specs.Translators.{shaped_translator_seen, keyed_translator_seen, formed_translator_seen, translator_seen}
use Rattle.cl_declaration_grammar.proofs.CommandsJudged.{tables_judged}
use Rattle.cl_declaration_grammar.proofs.Judging.{Judges, joined, then_given, ended}
use Rattle.cl_declaration_grammar.proofs.PartsJudged.{expression_part, type_part, is_wrong, command_name_judged}

module _ (w : Signatures) where
  pub named_judged : (at : ℕ) (o : Option (List ℕ)) → Judges w (command_name_seen at o) Any (note_command w at o)
  named_judged at None = ended w
  named_judged at (Some x) = command_name_judged w x at

  target_judged : (kind : TranslatorKind) (d : Datum) → Judges w (target_seen w kind d) Any (parse_target w kind d)
  target_judged Object d = type_part w [] d
  target_judged Command d = then_given w (λ u. plain_type (codes "command")) (named_judged (offset d) (name_in d))

  -- ---- keys

  module _ (xs : Names) where
    tester_judged : (ds : List Datum) (t : Tester) → Judges w (tester_seen xs ds) Any (parse_tester w xs ds t)
    tester_judged [] t = ended w
    tester_judged (d ∷ ds) t = then_given w (λ e. Some e) (expression_part w d xs)

    key_judged : (k : Key) (at : ℕ) (ds : List Datum) (t : Tester)
        → Judges w (translator_key_seen xs (record { key = k; at = at; values = ds })) Any
        (parse_translator_key w xs (record { key = k; at = at; values = ds }) t)
    key_judged key.CommandTable at ds t = then_given w (λ u. t) (tables_judged w ds)
    key_judged key.Tester at ds t = tester_judged ds t
    key_judged key.Size at ds t = ended w
    key_judged key.Slots at ds t = ended w
    key_judged key.Panes at ds t = ended w
    key_judged key.Name at ds t = ended w
    key_judged key.Keystroke at ds t = ended w
    key_judged key.InheritFrom at ds t = ended w
    key_judged key.Satisfies at ds t = ended w
    key_judged key.Description at ds t = ended w
    key_judged key.Separator at ds t = ended w
    key_judged key.SingleBox at ds t = ended w
    key_judged key.Default at ds t = ended w
    key_judged key.Prompt at ds t = ended w
    key_judged key.Gesture at ds t = ended w
    key_judged key.Priority at ds t = ended w
    key_judged key.Documentation at ds t = ended w
    key_judged key.UniqueId at ds t = ended w
    key_judged key.CacheValue at ds t = ended w
    key_judged key.Command at ds t = ended w
    key_judged key.Pane at ds t = ended w
    key_judged key.When at ds t = ended w
    key_judged key.Else at ds t = ended w

    keys_judged : (ks : List Keyed) (t : Tester) → Judges w (translator_keys_seen xs ks) Any (parse_translator_keys w xs ks t)
    keys_judged [] t = ended w
    keys_judged (k ∷ ks) t =
        joined w (translator_key_seen xs k) (translator_keys_seen xs ks) (key_judged k.key k.at k.values t) λ more i. keys_judged ks more

  -- ---- the whole

  module _ (kind : TranslatorKind) (at : ℕ) where
    shaped_judged : (f : TranslatorForm) (ks : List Keyed) (o : Option TranslatorShape)
        → Judges w (shaped_translator_seen w kind at f ks o) Any (parse_shaped w kind at f ks o)
    shaped_judged f ks None = is_wrong w at
    shaped_judged f ks (Some s) =
        joined w (specifier (type_seen w [] f.from) ∷ [])
        (target_seen w kind f.to ++ (translator_keys_seen (s.parameter ∷ []) ks ++ expressions (expression (s.parameter ∷ []) f.body ∷ []) ∷ []))
        (type_part w [] f.from) λ from i.
        joined w (target_seen w kind f.to) (translator_keys_seen (s.parameter ∷ []) ks ++ expressions (expression (s.parameter ∷ []) f.body ∷ []) ∷ [])
        (target_judged kind f.to) λ to j.
        joined w (translator_keys_seen (s.parameter ∷ []) ks) (expressions (expression (s.parameter ∷ []) f.body ∷ []) ∷ [])
        (keys_judged (s.parameter ∷ []) ks None) λ tester k.
        then_given w _ (expression_part w f.body (s.parameter ∷ []))

    keyed_judged : (f : TranslatorForm) (o : Option (List Keyed)) → Judges w (keyed_translator_seen w kind at f o) Any (parse_keyed w kind at f o)
    keyed_judged f None = is_wrong w at
    keyed_judged f (Some ks) = shaped_judged f ks (translator_shape kind f ks)

    formed_judged : (o : Option TranslatorForm) → Judges w (formed_translator_seen w kind at o) Any (parse_formed w kind at o)
    formed_judged None = is_wrong w at
    formed_judged (Some f) = keyed_judged f (keyed_pairs translator_keys [] f.keys)

    pub translator_judged : (ds : List Datum) → Judges w (translator_seen w kind at ds) Any (parse_translator w kind at ds)
    translator_judged ds = formed_judged (translator_form ds)
