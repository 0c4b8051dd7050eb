-- What is read of a user type writes it.
use Rattle.std.proofs.Common.{◌≡◌, ℕ, suc, Bool, true, false, if◌then◌else◌, List, [], ◌∷◌, ◌++◌, refl, sym, ap, ◌∙◌}
use Rattle.std.specs.Prelude.{Option, Some, None, length, codes}
use Rattle.std.proofs.Math.Path.{subst}
use Rattle.cl_syntax.specs.TypeSpecTree.{TypeSpecTree}
use Rattle.cl_syntax.specs.declared.type_decls.TypeDecl.{TypeDecl}
use Rattle.cl_forms.specs.Datum.{Datum, number, literal, word, quoted, stray, list, parts_of}
use Rattle.cl_forms.specs.Keys.{Keyed, is_among, values_of, keyed_pairs}
use Rattle.cl_forms.specs.Naming.{name_in}
use Rattle.cl_forms.specs.declared.keys.Key.{Key}
use Rattle.cl_forms.specs.declared.keys.Key.TheVariants as key
use Rattle.cl_words.specs.declared.signatures.Signatures.{Signatures}
use Rattle.cl_expressions.specs.Load.{Load}
use Rattle.cl_expressions.specs.Scopes.{Names}
use Rattle.cl_bodies.specs.TypeArguments.{text_behind}
use Rattle.cl_declare.specs.Names.{names_of, is_name_list}
use Rattle.cl_declare.specs.TypeShapes.{type_keys, found, name_behind, is_predicate, described, shape_with, shape_named, type_shape}
use Rattle.cl_declare.specs.Types.{Inherited, note_predicate, parse_type_keys, type_of, parse_type_shaped, parse_type_keyed, parse_user_type}
use Rattle.cl_declare.specs.declared.type_shapes.TypeShape.{TypeShape}
use Rattle.cl_grammar.proofs.Endings.{Ends, gives, refuses, binds, ends_weaker}
use Rattle.cl_grammar.proofs.Spelled.{false_true, some_same, nothing_found}
use Rattle.cl_text_grammar.specs.WritesTypes.{WritesType}
use Rattle.cl_text_grammar.specs.WritesUserTypes.{WritesTypeKeys, no_key, a_supertype, a_predicate, a_description}
use Rattle.cl_text_grammar.specs.WritesDeclarations.{of_user_type, WritesDeclared, a_user_type}
use Rattle.cl_text_grammar.proofs.NamesWritten.{name_list_written}
use Rattle.cl_text_grammar.proofs.TypesWritten.{type_ends}
use Rattle.cl_text_grammar.proofs.KeyWords.{key_word, IsPair, a_pair, ArePairs, no_pairs, more_pairs, StandApart, Keys, pairs_stand, has_last, stood_before}
use Rattle.cl_text_grammar.proofs.FramesWritten.{any_ends}

-- the type that is inherited from, where one more may be given
abbrev with_inherited : Inherited → Option TypeSpecTree → Inherited
with_inherited i None = i
with_inherited i (Some s) = Some s

inherited_alone : (o : Option TypeSpecTree) → with_inherited None o ≡ o
inherited_alone None = refl
inherited_alone (Some s) = refl

module _ (w : Signatures) (ps : Names) where
  -- ---- rows

  predicate_row : (v : Datum) (o f : Option (List ℕ)) (i : Option TypeSpecTree) (t : Option (List ℕ)) (h : ℕ) (ds : List Datum) → name_in v ≡ o
      → found o ≡ Some f → is_predicate w f (length ps) ≡ true → WritesTypeKeys w ps i None t ds → WritesTypeKeys w ps i f t (word (codes ":satisfies") h ∷ v ∷ ds)
  predicate_row v (Some x) f i t h ds e g p r =
      let same : Some x ≡ f = some_same g in
      subst (λ o. WritesTypeKeys w ps i o t (word (codes ":satisfies") h ∷ v ∷ ds)) same
      (a_predicate e (subst (λ o. is_predicate w o (length ps) ≡ true) (sym same) p) r)
  predicate_row v None f i t h ds e g p r = absurd (nothing_found g)

  description_row : (v : Datum) (i : Option TypeSpecTree) (f t : Option (List ℕ)) (h : ℕ) (ds : List Datum) → text_behind (Some (v ∷ [])) ≡ Some t
      → WritesTypeKeys w ps i f None ds → WritesTypeKeys w ps i f t (word (codes ":description") h ∷ v ∷ ds)
  description_row (literal s at) i f t h ds e r =
      subst (λ o. WritesTypeKeys w ps i f o (word (codes ":description") h ∷ literal s at ∷ ds)) (some_same e) (a_description r)
  description_row (number z at) i f t h ds e r = absurd (nothing_found e)
  description_row (word s at) i f t h ds e r = absurd (nothing_found e)
  description_row (quoted s at name_at) i f t h ds e r = absurd (nothing_found e)
  description_row (stray at) i f t h ds e r = absurd (nothing_found e)
  description_row (list es at) i f t h ds e r = absurd (nothing_found e)

  -- ---- all keys

  -- the predicate and the description, as far as they are there, are these
  record Fine (f t : Option (List ℕ)) (ks : List Keyed) : Type 0 where
    predicate : name_behind (values_of key.Satisfies ks) ≡ Some f
    description : text_behind (values_of key.Description ks) ≡ Some t
    fits : is_predicate w f (length ps) ≡ true

  -- the type that is read of a datum
  record TypeRead (d : Datum) (i : Inherited) : Type 0 where
    spec : TypeSpecTree
    is : i ≡ Some spec
    written : WritesType w ps spec d

  -- the type that is read of the keys, and what is written so
  record Read (f t : Option (List ℕ)) (ks : List Keyed) (ds : List Datum) (i more : Inherited) : Type 0 where
    taken : Option TypeSpecTree
    none_taken : values_of key.InheritFrom ks ≡ None → taken ≡ None
    added : more ≡ with_inherited i taken
    written : WritesTypeKeys w ps taken f t ds

  -- whatever stood before, all keys are read
  abbrev AllRead : List Keyed → List Datum → Type 0
  AllRead ks ds = (f t : Option (List ℕ)) (i : Inherited) → Fine f t ks → Ends (Read f t ks ds i) (parse_type_keys w ps ks i)

  abbrev keyed : Key → ℕ → Datum → Keyed
  keyed k h v = record { key = k; at = h; values = v ∷ [] }

  module _ (h : ℕ) (v : Datum) (so_far ks : List Keyed) (ds : List Datum) (rest : AllRead ks ds) where
    abbrev KeyEnds : Key → Type 0
    KeyEnds k = StandApart so_far (keyed k h v ∷ ks) → AllRead (keyed k h v ∷ ks) (word (key_word k) h ∷ v ∷ ds)

    supertype_ends : KeyEnds key.InheritFrom
    supertype_ends a f t i g =
        let no_other : values_of key.InheritFrom ks ≡ None =
        stood_before key.InheritFrom (so_far ++ keyed key.InheritFrom h v ∷ []) ks a.1 (has_last key.InheritFrom so_far (keyed key.InheritFrom h v) refl) in
        binds {P = TypeRead v} (binds (type_ends w ps v) λ s k. gives (record { spec = s; is = refl; written = k })) λ j k.
        ends_weaker
        (λ m r. record {
          taken = Some k.spec;
          none_taken = λ e. absurd (nothing_found (sym e));
          added = r.added ∙ (ap (with_inherited j) (r.none_taken no_other) ∙ k.is);
          written = a_supertype k.written (subst (λ o. WritesTypeKeys w ps o f t ds) (r.none_taken no_other) r.written);
        })
        (rest f t j (record { predicate = g.predicate; description = g.description; fits = g.fits }))

    predicate_ends : KeyEnds key.Satisfies
    predicate_ends a f t i g =
        let no_other : values_of key.Satisfies ks ≡ None =
        stood_before key.Satisfies (so_far ++ keyed key.Satisfies h v ∷ []) ks a.1 (has_last key.Satisfies so_far (keyed key.Satisfies h v) refl) in
        binds {P = λ j. j ≡ i} (binds (any_ends (note_predicate w (v ∷ []))) λ u k. gives refl) λ j k.
        subst (λ j. Ends (Read f t (keyed key.Satisfies h v ∷ ks) (word (codes ":satisfies") h ∷ v ∷ ds) i) (parse_type_keys w ps ks j)) (sym k)
        (ends_weaker
        (λ m r. record {
          taken = r.taken;
          none_taken = r.none_taken;
          added = r.added;
          written = predicate_row v (name_in v) f r.taken t h ds refl g.predicate g.fits r.written;
        })
        (rest None t i (record { predicate = ap name_behind no_other; description = g.description; fits = refl })))

    description_ends : KeyEnds key.Description
    description_ends a f t i g =
        let no_other : values_of key.Description ks ≡ None =
        stood_before key.Description (so_far ++ keyed key.Description h v ∷ []) ks a.1 (has_last key.Description so_far (keyed key.Description h v) refl) in
        record {
          ends = (ends_weaker
              (λ m r. record {
                taken = r.taken;
                none_taken = r.none_taken;
                added = r.added;
                written = description_row v r.taken f t h ds g.description r.written;
              })
              (rest f None i (record { predicate = g.predicate; description = ap text_behind no_other; fits = g.fits }))).ends;
        }

    key_ends : (k : Key) → is_among type_keys k ≡ true → KeyEnds k
    key_ends key.InheritFrom i a = supertype_ends a
    key_ends key.Satisfies i a = predicate_ends a
    key_ends key.Description i a = description_ends a
    key_ends key.Size i a = absurd (false_true i)
    key_ends key.Slots i a = absurd (false_true i)
    key_ends key.Panes i a = absurd (false_true i)
    key_ends key.CommandTable i a = absurd (false_true i)
    key_ends key.Name i a = absurd (false_true i)
    key_ends key.Keystroke i a = absurd (false_true i)
    key_ends key.Separator i a = absurd (false_true i)
    key_ends key.SingleBox i a = absurd (false_true i)
    key_ends key.Default i a = absurd (false_true i)
    key_ends key.Prompt i a = absurd (false_true i)
    key_ends key.Gesture i a = absurd (false_true i)
    key_ends key.Priority i a = absurd (false_true i)
    key_ends key.Documentation i a = absurd (false_true i)
    key_ends key.Tester i a = absurd (false_true i)
    key_ends key.UniqueId i a = absurd (false_true i)
    key_ends key.CacheValue i a = absurd (false_true i)
    key_ends key.Command i a = absurd (false_true i)
    key_ends key.Pane i a = absurd (false_true i)
    key_ends key.When i a = absurd (false_true i)
    key_ends key.Else i a = absurd (false_true i)

  pair_ends : (d v : Datum) (k : Keyed) (so_far ks : List Keyed) (ds : List Datum) → IsPair type_keys k d v → AllRead ks ds → StandApart so_far (k ∷ ks)
      → AllRead (k ∷ ks) (d ∷ v ∷ ds)
  pair_ends d v k so_far ks ds (a_pair {k = j} {h} i) rest a = key_ends h v so_far ks ds rest j i a

  nothing_read : AllRead [] []
  nothing_read f t i g =
      gives (record {
        taken = None;
        none_taken = λ e. refl;
        added = refl;
        written = subst (λ o. WritesTypeKeys w ps None o t []) (some_same g.predicate)
            (subst (λ o. WritesTypeKeys w ps None None o []) (some_same g.description) no_key);
      })

  pairs_end : (so_far ks : List Keyed) (ds : List Datum) → ArePairs type_keys ks ds → StandApart so_far ks → AllRead ks ds
  pairs_end so_far ks ds no_pairs a = nothing_read
  pairs_end so_far ks ds (more_pairs {k} {ks = js} {d} {v} {ds = es} i j) a = pair_ends d v k so_far js es i (pairs_end (so_far ++ k ∷ []) js es j a.1) a

-- ---- a user type

names_counted : (ds : List Datum) → length ds ≡ length (names_of ds)
names_counted [] = refl
names_counted (d ∷ ds) = ap (λ n. suc n) (names_counted ds)

module _ (w : Signatures) where
  record Shaped (n ps : Datum) (ks : List Keyed) (s : TypeShape) : Type 0 where
    parameters : is_name_list ps ≡ true
    name : name_in n ≡ Some s.name
    predicate : name_behind (values_of key.Satisfies ks) ≡ Some s.satisfies
    text : Option (List ℕ)
    description : text_behind (values_of key.Description ks) ≡ Some text
    described_so : described s.name text ≡ s.description
    fits : is_predicate w s.satisfies (length (parts_of ps)) ≡ true

  shape_predicated : (b : Bool) (n ps : Datum) (ks : List Keyed) (s : TypeShape) (x : List ℕ) (f t : Option (List ℕ)) → is_name_list ps ≡ true
      → name_in n ≡ Some x → name_behind (values_of key.Satisfies ks) ≡ Some f → text_behind (values_of key.Description ks) ≡ Some t
      → is_predicate w f (length (parts_of ps)) ≡ b
      → (if b then Some (record { name = x; satisfies = f; description = described x t }) else None) ≡ Some s → Shaped n ps ks s
  shape_predicated true n ps ks s x f t l e1 e2 e3 p e =
      subst (Shaped n ps ks) (some_same e)
      (record { parameters = l; name = e1; predicate = e2; text = t; description = e3; described_so = refl; fits = p })
  shape_predicated false n ps ks s x f t l e1 e2 e3 p e = absurd (nothing_found e)

  shape_keyed : (n ps : Datum) (ks : List Keyed) (s : TypeShape) (x : List ℕ) (f t : Option (Option (List ℕ))) → is_name_list ps ≡ true → name_in n ≡ Some x
      → name_behind (values_of key.Satisfies ks) ≡ f → text_behind (values_of key.Description ks) ≡ t
      → shape_with w x (length (parts_of ps)) f t ≡ Some s → Shaped n ps ks s
  shape_keyed n ps ks s x (Some f) (Some t) l e1 e2 e3 e =
      shape_predicated (is_predicate w f (length (parts_of ps))) n ps ks s x f t l e1 e2 e3 refl e
  shape_keyed n ps ks s x (Some f) None l e1 e2 e3 e = absurd (nothing_found e)
  shape_keyed n ps ks s x None t l e1 e2 e3 e = absurd (nothing_found e)

  shape_of_name : (n ps : Datum) (ks : List Keyed) (s : TypeShape) (x : Option (List ℕ)) → is_name_list ps ≡ true → name_in n ≡ x
      → shape_named w x (length (parts_of ps)) ks ≡ Some s → Shaped n ps ks s
  shape_of_name n ps ks s (Some x) l e1 e =
      shape_keyed n ps ks s x (name_behind (values_of key.Satisfies ks)) (text_behind (values_of key.Description ks)) l e1 refl refl e
  shape_of_name n ps ks s None l e1 e = absurd (nothing_found e)

  shaped : (n ps : Datum) (ks : List Keyed) (s : TypeShape) (b : Bool) → is_name_list ps ≡ b
      → (if b then shape_named w (name_in n) (length (parts_of ps)) ks else None) ≡ Some s → Shaped n ps ks s
  shaped n ps ks s true l e = shape_of_name n ps ks s (name_in n) l refl e
  shaped n ps ks s false l e = absurd (nothing_found e)

  fine : (n ps : Datum) (ks : List Keyed) (s : TypeShape) (h : Shaped n ps ks s) → Fine w (names_of (parts_of ps)) s.satisfies h.text ks
  fine n ps ks s h = record {
    predicate = h.predicate;
    description = h.description;
    fits = subst (λ count. is_predicate w s.satisfies count ≡ true) (names_counted (parts_of ps)) h.fits;
  }

  -- what is read writes the head with the parts behind it
  abbrev TypeEnds : ℕ → ℕ → List Datum → Load TypeDecl → Type 0
  TypeEnds h at ds m = Ends (λ d. WritesDeclared w at (of_user_type d) (word (codes "define-presentation-type") h ∷ ds)) m

  type_writes : (h at : ℕ) (n ps : Datum) (ds : List Datum) (ks : List Keyed) (s : TypeShape) (i : Inherited) (j : Shaped n ps ks s)
      → Read w (names_of (parts_of ps)) s.satisfies j.text ks ds None i
      → WritesDeclared w at (of_user_type (type_of s (names_of (parts_of ps)) i at)) (word (codes "define-presentation-type") h ∷ n ∷ ps ∷ ds)
  type_writes h at n ps ds ks s i j r =
      subst
      (λ o. WritesDeclared w at (of_user_type (type_of s (names_of (parts_of ps)) o at)) (word (codes "define-presentation-type") h ∷ n ∷ ps ∷ ds))
      (sym (r.added ∙ inherited_alone r.taken))
      (subst
      (λ t. WritesDeclared w at (of_user_type (type_of (record { name = s.name; satisfies = s.satisfies; description = t }) (names_of (parts_of ps)) r.taken at))
      (word (codes "define-presentation-type") h ∷ n ∷ ps ∷ ds))
      j.described_so (a_user_type j.name (name_list_written ps j.parameters) r.written))

  shaped_ends : (h at : ℕ) (n ps : Datum) (ds : List Datum) (ks : List Keyed) (o : Option TypeShape) → Keys (ArePairs type_keys) [] ks ds
      → type_shape w n ps ks ≡ o → TypeEnds h at (n ∷ ps ∷ ds) (parse_type_shaped w at ps ks o)
  shaped_ends h at n ps ds ks None k e = refuses
  shaped_ends h at n ps ds ks (Some s) k e =
      let i : Shaped n ps ks s = shaped n ps ks s (is_name_list ps) refl e in
      binds
      (pairs_end w (names_of (parts_of ps)) [] ks ds (subst (λ js. ArePairs type_keys js ds) (sym k.whole) k.stand) (subst (StandApart []) (sym k.whole) k.apart)
      s.satisfies i.text None (fine n ps ks s i))
      λ j r. gives (type_writes h at n ps ds ks s j i r)

  keyed_ends : (h at : ℕ) (n ps : Datum) (ds : List Datum) (o : Option (List Keyed)) → keyed_pairs type_keys [] ds ≡ o
      → TypeEnds h at (n ∷ ps ∷ ds) (parse_type_keyed w at n ps o)
  keyed_ends h at n ps ds None e = refuses
  keyed_ends h at n ps ds (Some ks) e = shaped_ends h at n ps ds ks (type_shape w n ps ks) (pairs_stand type_keys [] ks ds e) refl

  pub user_type_ends : (h at : ℕ) (ds : List Datum) → TypeEnds h at ds (parse_user_type w at ds)
  user_type_ends h at [] = refuses
  user_type_ends h at (n ∷ []) = refuses
  user_type_ends h at (n ∷ ps ∷ ds) = keyed_ends h at n ps ds (keyed_pairs type_keys [] ds) refl
