-- What is read of a translator writes it.
use Rattle.std.proofs.Common.{◌≡◌, ℕ, List, [], ◌∷◌, refl, sym, ◌∙◌}
use Rattle.std.specs.Prelude.{Option, Some, None, option_map}
use Rattle.std.proofs.Math.Path.{subst}
use Rattle.cl_syntax.specs.ExprTree.{ExprTree}
use Rattle.cl_syntax.specs.TypeSpecTree.{TypeSpecTree}
use Rattle.cl_forms.specs.Datum.{Datum, Datums, number, literal, word, quoted, stray, list, none, item, in_order, parts_of, offset}
use Rattle.cl_forms.specs.Keys.{Keyed, keyed_pairs}
use Rattle.cl_forms.specs.Naming.{name_in}
use Rattle.cl_words.specs.declared.signatures.Signatures.{Signatures}
use Rattle.cl_expressions.specs.Load.{Load}
use Rattle.cl_expressions.specs.Scopes.{in_sight}
use Rattle.cl_application.specs.declared.declarations.TranslatorDecl.{TranslatorDecl}
use Rattle.cl_declare.specs.TranslatorForms.{TranslatorForm}
use Rattle.cl_declare.specs.TranslatorShapes.{translator_keys, keys_said, command_in, shape_named, translator_shape}
use Rattle.cl_declare.specs.Translators.{note_command, parse_target, Tester, translator_of, parse_shaped, parse_keyed, parse_translator}
use Rattle.cl_declare.specs.TypeShapes.{name_alone}
use Rattle.cl_declare.specs.declared.translator_shapes.TranslatorKeys.{TranslatorKeys}
use Rattle.cl_declare.specs.declared.translator_shapes.TranslatorKind.{TranslatorKind}
use Rattle.cl_declare.specs.declared.translator_shapes.TranslatorKind.TheVariants.{Object, Command}
use Rattle.cl_declare.specs.declared.translator_shapes.TranslatorShape.{TranslatorShape}
use Rattle.cl_grammar.specs.Heads.{CallsNames}
use Rattle.cl_grammar.specs.Writes.{Writes}
use Rattle.cl_grammar.proofs.Endings.{Ends, gives, refuses, binds, ends_weaker}
use Rattle.cl_grammar.proofs.Spelled.{some_same, nothing_found}
use Rattle.cl_grammar.proofs.Written.{expression_ends}
use Rattle.cl_text_grammar.specs.WritesTypes.{WritesType}
use Rattle.cl_text_grammar.specs.WritesTranslators.{WritesTarget, its_type, its_command, WritesTranslator, its_parts}
use Rattle.cl_text_grammar.proofs.FramesWritten.{any_ends}
use Rattle.cl_text_grammar.proofs.KeyWords.{name_there}
use Rattle.cl_text_grammar.proofs.MethodsWritten.{alone_written}
use Rattle.cl_text_grammar.proofs.TranslatorKeysWritten.{keys_of, KeysSaid, said, tester_alone, Read, keys_end}
use Rattle.cl_text_grammar.proofs.TypesWritten.{type_ends}

-- ---- the shape of a translator

-- what is given by the name, the command, the parameter and the keys
record Shaped (kind : TranslatorKind) (f : TranslatorForm) (ks : List Keyed) (s : TranslatorShape) : Type 0 where
  name : name_in f.name ≡ Some s.name
  command : command_in kind f.to ≡ Some s.command
  parameter : name_alone (parts_of f.parameters) ≡ Some s.parameter
  keys : KeysSaid s.name ks s.keys

module _ (kind : TranslatorKind) (f : TranslatorForm) (ks : List Keyed) (s : TranslatorShape) where
  shape_keyed : (x : List ℕ) (c : Option (List ℕ)) (p : List ℕ) (o : Option TranslatorKeys) → name_in f.name ≡ Some x → command_in kind f.to ≡ Some c
      → name_alone (parts_of f.parameters) ≡ Some p → keys_said x ks ≡ o
      → option_map (λ k. record { name = x; command = c; parameter = p; keys = k }) o ≡ Some s → Shaped kind f ks s
  shape_keyed x c p (Some k) e1 e2 e3 e4 e =
      subst (Shaped kind f ks) (some_same e) (record { name = e1; command = e2; parameter = e3; keys = said x ks k e4 })
  shape_keyed x c p None e1 e2 e3 e4 e = absurd (nothing_found e)

  shape_of_parts : (x : Option (List ℕ)) (c : Option (Option (List ℕ))) (p : Option (List ℕ)) → name_in f.name ≡ x → command_in kind f.to ≡ c
      → name_alone (parts_of f.parameters) ≡ p → shape_named x c p ks ≡ Some s → Shaped kind f ks s
  shape_of_parts (Some x) (Some c) (Some p) e1 e2 e3 e = shape_keyed x c p (keys_said x ks) e1 e2 e3 refl e
  shape_of_parts (Some x) (Some c) None e1 e2 e3 e = absurd (nothing_found e)
  shape_of_parts (Some x) None p e1 e2 e3 e = absurd (nothing_found e)
  shape_of_parts None c p e1 e2 e3 e = absurd (nothing_found e)

  shaped : translator_shape kind f ks ≡ Some s → Shaped kind f ks s
  shaped e = shape_of_parts (name_in f.name) (command_in kind f.to) (name_alone (parts_of f.parameters)) refl refl refl e

-- ---- the whole

module _ (w : Signatures) (names : CallsNames w) where
  target_ends : (kind : TranslatorKind) (d : Datum) (c : Option (List ℕ)) → command_in kind d ≡ Some c
      → Ends (λ s. WritesTarget w kind s c d) (parse_target w kind d)
  target_ends Object d c e = ends_weaker (λ s i. subst (λ o. WritesTarget w Object s o d) (some_same e) (its_type i)) (type_ends w [] d)
  target_ends Command d c e =
      name_there (λ o. Ends (λ s. WritesTarget w Command s o d) (parse_target w Command d)) d (name_in d) c refl e
      λ x f. binds (any_ends (note_command w (offset d) (name_in d))) λ u i. gives (its_command f)

  module _ (kind : TranslatorKind) (at : ℕ) where
    -- what is read writes the parts behind the head
    abbrev TranslatorEnds : List Datum → Load TranslatorDecl → Type 0
    TranslatorEnds ds m = Ends (λ d. WritesTranslator w kind at d ds) m

    module _ (n from to parameters e : Datum) (keys : Datums) (types_at : ℕ) where
      abbrev parts : List Datum
      parts = n ∷ list (item from (item to keys)) types_at ∷ parameters ∷ e ∷ []

      abbrev form : TranslatorForm
      form = record { name = n; from = from; to = to; keys = in_order keys; parameters = parameters; body = e }

      translator_writes : (ks : List Keyed) (s : TranslatorShape) (from_type to_type : TypeSpecTree) (tester : Tester) (body : ExprTree)
          (i : Shaped kind form ks s) → WritesType w [] from_type from → WritesTarget w kind to_type s.command to
          → Read i.keys.table i.keys.gesture i.keys.priority i.keys.documentation ks (in_order keys) None tester → Writes body e
          → WritesTranslator w kind at (translator_of s from_type to_type tester body at) parts
      translator_writes ks s from_type to_type tester body i j k r b =
          subst
          (λ o. WritesTranslator w kind at
          (translator_of (record { name = s.name; command = s.command; parameter = s.parameter; keys = o }) from_type to_type tester body at) parts)
          i.keys.is
          (subst
          (λ o. WritesTranslator w kind at
          (translator_of
          (record {
            name = s.name;
            command = s.command;
            parameter = s.parameter;
            keys = keys_of s.name i.keys.table i.keys.gesture i.keys.priority i.keys.documentation;
          })
          from_type to_type o body at)
          parts)
          (sym (r.added ∙ tester_alone r.taken))
          (its_parts i.name j k r.written (alone_written parameters s.parameter i.parameter) b))

      shaped_ends : (ks : List Keyed) (o : Option TranslatorShape) → keyed_pairs translator_keys [] (in_order keys) ≡ Some ks → translator_shape kind form ks ≡ o
          → TranslatorEnds parts (parse_shaped w kind at form ks o)
      shaped_ends ks None f g = refuses
      shaped_ends ks (Some s) f g =
          let i : Shaped kind form ks s = shaped kind form ks s g in
          binds (type_ends w [] from) λ from_type j. binds (target_ends kind to s.command i.command) λ to_type k.
          binds
          (keys_end w names (in_sight (s.parameter ∷ []) []) ks (in_order keys) f i.keys.table i.keys.gesture i.keys.priority i.keys.documentation None i.keys.fine)
          λ tester r. binds (expression_ends w names e (in_sight (s.parameter ∷ []) [])) λ body b.
          gives (translator_writes ks s from_type to_type tester body i j k r b)

      keyed_ends : (o : Option (List Keyed)) → keyed_pairs translator_keys [] (in_order keys) ≡ o → TranslatorEnds parts (parse_keyed w kind at form o)
      keyed_ends None f = refuses
      keyed_ends (Some ks) f = shaped_ends ks (translator_shape kind form ks) f refl

    pub translator_ends : (ds : List Datum) → TranslatorEnds ds (parse_translator w kind at ds)
    translator_ends (n ∷ list (item from (item to keys)) types_at ∷ parameters ∷ e ∷ []) =
        keyed_ends n from to parameters e keys types_at (keyed_pairs translator_keys [] (in_order keys)) refl
    translator_ends (n ∷ list (item from none) types_at ∷ parameters ∷ e ∷ []) = refuses
    translator_ends (n ∷ list none types_at ∷ parameters ∷ e ∷ []) = refuses
    translator_ends (n ∷ number z types_at ∷ parameters ∷ e ∷ []) = refuses
    translator_ends (n ∷ literal s types_at ∷ parameters ∷ e ∷ []) = refuses
    translator_ends (n ∷ word s types_at ∷ parameters ∷ e ∷ []) = refuses
    translator_ends (n ∷ quoted s types_at name_at ∷ parameters ∷ e ∷ []) = refuses
    translator_ends (n ∷ stray types_at ∷ parameters ∷ e ∷ []) = refuses
    translator_ends [] = refuses
    translator_ends (n ∷ []) = refuses
    translator_ends (n ∷ types ∷ []) = refuses
    translator_ends (n ∷ types ∷ parameters ∷ []) = refuses
    translator_ends (n ∷ types ∷ parameters ∷ e ∷ d ∷ ds) = refuses
