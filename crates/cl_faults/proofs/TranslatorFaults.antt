-- The faults of translators stand in them.
use Rattle.std.proofs.Common.{ℕ, List, [], ◌∷◌}
use Rattle.std.specs.Prelude.{Option, Some, None}
use Rattle.std.specs.Option.{IfSome}
use Rattle.cl_forms.specs.Datum.{Datum, parts_of, offset}
use Rattle.cl_forms.specs.Keys.{Keyed, keyed_pairs}
use Rattle.cl_forms.specs.Naming.{name_in}
use Rattle.cl_forms.specs.declared.keys.Key.{Key}
use Rattle.cl_forms.specs.declared.keys.Key.TheVariants as key
use Rattle.cl_words.specs.Signatures.{command_in}
use Rattle.cl_words.specs.declared.signatures.Signatures.{Signatures}
use Rattle.cl_expressions.specs.Scopes.{Names, in_sight}
use Rattle.cl_declare.specs.TranslatorForms.{TranslatorForm, form_typed}
use Rattle.cl_declare.specs.TranslatorShapes.{translator_keys, translator_shape}
use Rattle.cl_declare.specs.Translators.{Tester, note_command, parse_target, parse_tester, parse_translator_key, parse_translator_keys}
use Rattle.cl_declare.specs.Translators.{parse_shaped, parse_keyed, parse_formed, parse_translator}
use Rattle.cl_declare.specs.declared.translator_shapes.TranslatorKind.{TranslatorKind}
use Rattle.cl_declare.specs.declared.translator_shapes.TranslatorKind.TheVariants.{Object, Command}
use Rattle.cl_declare.specs.declared.translator_shapes.TranslatorShape.{TranslatorShape}
use Rattle.cl_faults.proofs.FaultLemmas.{FaultsAt, gives, refuses, notes, binds}
use Rattle.cl_faults.proofs.ExpressionFaults.{Covers, expr_faults}
use Rattle.cl_faults.proofs.DataFaults.{CoversEach, covers_parts}
use Rattle.cl_faults.proofs.KeyFaults.{CoversKeys, pairs_covered}
use Rattle.cl_faults.proofs.TypeFaults.{type_faults}
use Rattle.cl_faults.proofs.CommandFaults.{tables_faults}

module _ {P : ℕ → Type 0} where
  pub named_faults : (w : Signatures) (at : ℕ) (name : Option (List ℕ)) → FaultsAt P (note_command w at name)
  named_faults w at None = gives
  named_faults w at (Some x) = notes (command_in w x) at

  target_faults : (w : Signatures) (kind : TranslatorKind) (d : Datum) → Covers P d → FaultsAt P (parse_target w kind d)
  target_faults w Object d c = type_faults w [] d c
  target_faults w Command d c = binds (named_faults w (offset d) (name_in d)) λ u. gives

  -- ---- keys

  tester_faults : (w : Signatures) (xs : Names) (ds : List Datum) (t : Tester) → CoversEach P ds → FaultsAt P (parse_tester w xs ds t)
  tester_faults w xs [] t c = gives
  tester_faults w xs (d ∷ ds) t c = binds (expr_faults w d xs c.0) λ e. gives

  key_faults : (w : Signatures) (xs : Names) (k : Key) (at : ℕ) (ds : List Datum) (t : Tester) → CoversEach P ds
      → FaultsAt P (parse_translator_key w xs (record { key = k; at = at; values = ds }) t)
  key_faults w xs key.CommandTable at ds t c = binds (tables_faults w ds) λ u. gives
  key_faults w xs key.Tester at ds t c = tester_faults w xs ds t c
  key_faults w xs key.Size at ds t c = gives
  key_faults w xs key.Slots at ds t c = gives
  key_faults w xs key.Panes at ds t c = gives
  key_faults w xs key.Name at ds t c = gives
  key_faults w xs key.Keystroke at ds t c = gives
  key_faults w xs key.InheritFrom at ds t c = gives
  key_faults w xs key.Satisfies at ds t c = gives
  key_faults w xs key.Description at ds t c = gives
  key_faults w xs key.Separator at ds t c = gives
  key_faults w xs key.SingleBox at ds t c = gives
  key_faults w xs key.Default at ds t c = gives
  key_faults w xs key.Prompt at ds t c = gives
  key_faults w xs key.Gesture at ds t c = gives
  key_faults w xs key.Priority at ds t c = gives
  key_faults w xs key.Documentation at ds t c = gives
  key_faults w xs key.UniqueId at ds t c = gives
  key_faults w xs key.CacheValue at ds t c = gives
  key_faults w xs key.Command at ds t c = gives
  key_faults w xs key.Pane at ds t c = gives
  key_faults w xs key.When at ds t c = gives
  key_faults w xs key.Else at ds t c = gives

  keys_faults : (w : Signatures) (xs : Names) (ks : List Keyed) (t : Tester) → CoversKeys P ks → FaultsAt P (parse_translator_keys w xs ks t)
  keys_faults w xs [] t c = gives
  keys_faults w xs (k ∷ ks) t c = binds (key_faults w xs k.key k.at k.values t c.0.1) λ more. keys_faults w xs ks more c.1

  -- ---- the whole

  module _ (w : Signatures) (kind : TranslatorKind) (at : ℕ) (h : P at) where
    shaped_faults : (f : TranslatorForm) (ks : List Keyed) (shape : Option TranslatorShape) → Covers P f.from → Covers P f.to → Covers P f.body
        → CoversKeys P ks → FaultsAt P (parse_shaped w kind at f ks shape)
    shaped_faults f ks None a b e c = refuses h
    shaped_faults f ks (Some s) a b e c =
        binds (type_faults w [] f.from a) λ from. binds (target_faults w kind f.to b) λ to.
        binds (keys_faults w (in_sight (s.parameter ∷ []) []) ks None c) λ tester.
        binds (expr_faults w f.body (in_sight (s.parameter ∷ []) []) e) λ body. gives

    keyed_faults : (f : TranslatorForm) (ks : Option (List Keyed)) → Covers P f.from → Covers P f.to → Covers P f.body → IfSome ks (CoversKeys P)
        → FaultsAt P (parse_keyed w kind at f ks)
    keyed_faults f None a b e c = refuses h
    keyed_faults f (Some ks) a b e c = shaped_faults f ks (translator_shape kind f ks) a b e c

    typed_faults : (n : Datum) (types : List Datum) (ps e : Datum) → CoversEach P types → Covers P e
        → FaultsAt P (parse_formed w kind at (form_typed n types ps e))
    typed_faults n (f ∷ d ∷ keys) ps e c b =
        keyed_faults (record { name = n; from = f; to = d; keys = keys; parameters = ps; body = e }) (keyed_pairs translator_keys [] keys) c.0 c.1.0 b
        (pairs_covered P translator_keys [] keys tt c.1.1)
    typed_faults n (f ∷ []) ps e c b = refuses h
    typed_faults n [] ps e c b = refuses h

  pub translator_faults : (w : Signatures) (kind : TranslatorKind) (at : ℕ) (ds : List Datum) → P at → CoversEach P ds
      → FaultsAt P (parse_translator w kind at ds)
  translator_faults w kind at (n ∷ types ∷ ps ∷ e ∷ []) h c = typed_faults w kind at h n (parts_of types) ps e (covers_parts types c.1.0) c.1.1.1.0
  translator_faults w kind at ds h c = refuses h
