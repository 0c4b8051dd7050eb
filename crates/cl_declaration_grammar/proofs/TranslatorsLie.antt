-- What is looked at of translators lies in them.
use Rattle.std.proofs.Common.{ℕ, ◌+◌, ◌≤◌, List, [], ◌∷◌, ◌++◌, arith}
use Rattle.std.specs.Prelude.{Option, Some, None}
use Rattle.std.specs.Option.{IfSome}
use Rattle.cl_forms.specs.Datum.{Datum, parts_of, offset}
use Rattle.cl_forms.specs.Keys.{Keyed, keyed_pairs}
use Rattle.cl_forms.specs.Naming.{name_in}
use Rattle.cl_forms.specs.declared.keys.Key.{Key}
use Rattle.cl_forms.specs.declared.keys.Key.TheVariants as key
use Rattle.cl_words.specs.declared.signatures.Signatures.{Signatures}
use Rattle.cl_expressions.specs.Scopes.{Names}
use Rattle.cl_declare.specs.TranslatorForms.{TranslatorForm, form_typed}
use Rattle.cl_declare.specs.TranslatorShapes.{translator_keys, translator_shape}
use Rattle.cl_declare.specs.declared.translator_shapes.TranslatorKind.{TranslatorKind}
use Rattle.cl_declare.specs.declared.translator_shapes.TranslatorKind.TheVariants.{Object, Command}
use Rattle.cl_declare.specs.declared.translator_shapes.TranslatorShape.{TranslatorShape}
use Rattle.cl_grammar.specs.Lies.{Lies}
use Rattle.cl_grammar.specs.Sights.{expression}
use Rattle.cl_grammar.proofs.Bounds.{Within}
use Rattle.cl_grammar.proofs.Lying.{LieList, own_lies, datum_rises, datum_earlier}
use Rattle.cl_text_grammar.proofs.TypesLie.{type_lies}
use Rattle.cl_declaration_grammar.specs.Parts.{refused, command_name, expressions}
use Rattle.cl_declaration_grammar.specs.Commands.{tables_seen}
use Rattle.cl_declaration_grammar.specs.Translators.{command_name_seen, target_seen, tester_seen, translator_key_seen, translator_keys_seen}
use Rattle.cl_declaration_grammar.specs.Translators.{shaped_translator_seen, keyed_translator_seen, formed_translator_seen, translator_seen}
use Rattle.cl_declaration_grammar.proofs.CommandsLie.{tables_lie}
use Rattle.cl_declaration_grammar.proofs.KeysLie.{LieKey, LieKeys, pairs_lie, inside}
use Rattle.cl_declaration_grammar.proofs.PartsLie.{LieParts, parts_earlier, parts_joined, one_lies, list_rises}

pub named_lies : (at : ℕ) (o : Option (List ℕ)) (from to : ℕ) → Within from at to → LieParts from (command_name_seen at o) to
named_lies at None from to h = omega (arith, h.0, h.1)
named_lies at (Some x) from to h = one_lies (command_name x at) from to h

-- ---- keys

module _ (xs : Names) where
  tester_lies : (ds : List Datum) (from to : ℕ) → LieList from ds to → LieParts from (tester_seen xs ds) to
  tester_lies [] from to h = h
  tester_lies (d ∷ ds) from to h = (to, (h.0, h.1, list_rises ds h.0 to h.2), omega arith)

  key_lies : (k : Key) (at : ℕ) (ds : List Datum) (from to : ℕ) → LieKey from (record { key = k; at = at; values = ds }) to
      → LieParts from (translator_key_seen xs (record { key = k; at = at; values = ds })) to
  key_lies key.CommandTable at ds from to h = parts_earlier (tables_seen ds) from (at + 1) to (omega (arith, h.0.0)) (tables_lie ds (at + 1) to h.1)
  key_lies key.Tester at ds from to h = parts_earlier (tester_seen xs ds) from (at + 1) to (omega (arith, h.0.0)) (tester_lies ds (at + 1) to h.1)
  key_lies key.Size at ds from to h = omega (arith, h.0.0, h.0.1)
  key_lies key.Slots at ds from to h = omega (arith, h.0.0, h.0.1)
  key_lies key.Panes at ds from to h = omega (arith, h.0.0, h.0.1)
  key_lies key.Name at ds from to h = omega (arith, h.0.0, h.0.1)
  key_lies key.Keystroke at ds from to h = omega (arith, h.0.0, h.0.1)
  key_lies key.InheritFrom at ds from to h = omega (arith, h.0.0, h.0.1)
  key_lies key.Satisfies at ds from to h = omega (arith, h.0.0, h.0.1)
  key_lies key.Description at ds from to h = omega (arith, h.0.0, h.0.1)
  key_lies key.Separator at ds from to h = omega (arith, h.0.0, h.0.1)
  key_lies key.SingleBox at ds from to h = omega (arith, h.0.0, h.0.1)
  key_lies key.Default at ds from to h = omega (arith, h.0.0, h.0.1)
  key_lies key.Prompt at ds from to h = omega (arith, h.0.0, h.0.1)
  key_lies key.Gesture at ds from to h = omega (arith, h.0.0, h.0.1)
  key_lies key.Priority at ds from to h = omega (arith, h.0.0, h.0.1)
  key_lies key.Documentation at ds from to h = omega (arith, h.0.0, h.0.1)
  key_lies key.UniqueId at ds from to h = omega (arith, h.0.0, h.0.1)
  key_lies key.CacheValue at ds from to h = omega (arith, h.0.0, h.0.1)
  key_lies key.Command at ds from to h = omega (arith, h.0.0, h.0.1)
  key_lies key.Pane at ds from to h = omega (arith, h.0.0, h.0.1)
  key_lies key.When at ds from to h = omega (arith, h.0.0, h.0.1)
  key_lies key.Else at ds from to h = omega (arith, h.0.0, h.0.1)

  keys_lie : (ks : List Keyed) (from to : ℕ) → LieKeys from ks to → LieParts from (translator_keys_seen xs ks) to
  keys_lie [] from to h = h
  keys_lie (k ∷ ks) from to h =
      parts_joined (translator_key_seen xs k) (translator_keys_seen xs ks) from h.0 to (key_lies k.key k.at k.values from h.0 h.1) (keys_lie ks h.0 to h.2)

-- ---- the whole

module _ (w : Signatures) where
  target_lies : (kind : TranslatorKind) (d : Datum) (from to : ℕ) → Lies from d to → LieParts from (target_seen w kind d) to
  target_lies Object d from to h = (to, type_lies w [] d from to h, omega arith)
  target_lies Command d from to h = named_lies (offset d) (name_in d) from to (own_lies d from to h)

  module _ (kind : TranslatorKind) (at : ℕ) where
    -- its parts lie one behind the other
    shaped_lies : (f : TranslatorForm) (ks : List Keyed) (o : Option TranslatorShape) (from second third middle last to : ℕ) → Within from at to
        → Lies from f.from second → Lies second f.to third → LieKeys third ks middle → Lies middle f.body last → last ≤ to
        → LieParts from (shaped_translator_seen w kind at f ks o) to
    shaped_lies f ks None from second third middle last to a g h i j k = one_lies (refused 6 at) from to a
    shaped_lies f ks (Some s) from second third middle last to a g h i j k = (
      second,
      type_lies w [] f.from from second g,
      parts_joined (target_seen w kind f.to) (translator_keys_seen (s.parameter ∷ []) ks ++ expressions (expression (s.parameter ∷ []) f.body ∷ []) ∷ [])
          second third to
          (target_lies kind f.to second third h)
          (parts_joined (translator_keys_seen (s.parameter ∷ []) ks) (expressions (expression (s.parameter ∷ []) f.body ∷ []) ∷ []) third middle to
          (keys_lie (s.parameter ∷ []) ks third middle i) (to, (last, j, k), omega arith)),
    )

    keyed_lies : (f : TranslatorForm) (o : Option (List Keyed)) (from second third middle last to : ℕ) → Within from at to → Lies from f.from second
        → Lies second f.to third → IfSome o (λ ks. LieKeys third ks middle) → Lies middle f.body last → last ≤ to
        → LieParts from (keyed_translator_seen w kind at f o) to
    keyed_lies f None from second third middle last to a g h i j k = one_lies (refused 6 at) from to a
    keyed_lies f (Some ks) from second third middle last to a g h i j k =
        shaped_lies f ks (translator_shape kind f ks) from second third middle last to a g h i j k

    typed_lies : (n : Datum) (types : List Datum) (ps e : Datum) (from start middle last to : ℕ) → Within from at to → from ≤ start → LieList start types middle
        → Lies middle e last → last ≤ to → LieParts from (formed_translator_seen w kind at (form_typed n types ps e)) to
    typed_lies n (f ∷ d ∷ keys) ps e from start middle last to a b h j k =
        keyed_lies (record { name = n; from = f; to = d; keys = keys; parameters = ps; body = e }) (keyed_pairs translator_keys [] keys) from h.0 h.2.0 middle last to
        a (datum_earlier f from start h.0 b h.1) h.2.1 (pairs_lie translator_keys [] keys h.2.0 h.2.0 middle (omega arith) h.2.2) j k
    typed_lies n (f ∷ []) ps e from start middle last to a b h j k = one_lies (refused 6 at) from to a
    typed_lies n [] ps e from start middle last to a b h j k = one_lies (refused 6 at) from to a

    pub translator_lies : (ds : List Datum) (from to : ℕ) → Within from at to → LieList from ds to → LieParts from (translator_seen w kind at ds) to
    translator_lies (n ∷ types ∷ ps ∷ e ∷ []) from to a k =
        typed_lies n (parts_of types) ps e from k.0 k.2.0 k.2.2.2.0 to a (datum_rises n from k.0 k.1) (inside types k.0 k.2.0 k.2.1)
        (datum_earlier e k.2.0 k.2.2.0 k.2.2.2.0 (datum_rises ps k.2.0 k.2.2.0 k.2.2.1) k.2.2.2.1) k.2.2.2.2
    translator_lies [] from to a k = one_lies (refused 6 at) from to a
    translator_lies (n ∷ []) from to a k = one_lies (refused 6 at) from to a
    translator_lies (n ∷ types ∷ []) from to a k = one_lies (refused 6 at) from to a
    translator_lies (n ∷ types ∷ ps ∷ []) from to a k = one_lies (refused 6 at) from to a
    translator_lies (n ∷ types ∷ ps ∷ e ∷ d ∷ ds) from to a k = one_lies (refused 6 at) from to a
