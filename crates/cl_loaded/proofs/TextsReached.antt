-- Texts on slots that agree where a specifier reaches, by an induction over the specifier beside its expansion.
use Rattle.std.proofs.Common.{◌≡◌, ℕ, zero, suc, ◌++◌, inl, inr, if◌then◌else◌, List, [], ◌∷◌, Option, Some, None, refl, sym, subst}
use Rattle.cl_value.specs.Data.{Data}
use Rattle.cl_syntax.specs.StandardTypes.{standard_named}
use Rattle.cl_syntax.specs.TypeSpecTree.{TypeSpecTree, specifier, Constant, Any, Param, Spec, Names, TypeArgTrees, none, argument}
use Rattle.cl_syntax.specs.declared.callees.Callee.{Callee}
use Rattle.cl_syntax.specs.declared.callees.Callee.TheVariants as callee
use Rattle.cl_syntax.specs.declared.paths.Path.{Path}
use Rattle.cl_syntax.specs.declared.type_decls.TypeDecl.{TypeDecl}
use Rattle.cl_syntax.specs.declared.type_names.StandardType.{StandardType}
use Rattle.cl_syntax.specs.declared.type_names.StandardType.TheVariants as standard
use Rattle.cl_syntax.specs.declared.type_specs.TypeOptions.{TypeOptions}
use Rattle.cl_table.specs.Names.{named}
use Rattle.cl_application.specs.App.{present_method}
use Rattle.cl_application.specs.declared.applications.App.{App}
use Rattle.cl_application.specs.declared.declarations.MethodDecl.{MethodDecl}
use Rattle.cl_eval.specs.Meaning.{Go, means}
use Rattle.cl_eval.specs.Outcome.{give, lift, ◌>>=◌}
use Rattle.cl_eval.specs.PathValues.{value_at}
use Rattle.cl_eval.specs.ReadPaths.{InInherited, InMethod, Reads, ReadsArgs, ReadsSpec, Within}
use Rattle.cl_eval.specs.Slots.{Slots}
use Rattle.cl_eval.specs.declared.metering.Limits.{Limits}
use Rattle.cl_lattice.specs.Arguments.{Given, given, tokens_in, values_of}
use Rattle.cl_lattice.specs.Expanded.{Expanded, ExpandedTypes}
use Rattle.cl_lattice.specs.Expanded as type
use Rattle.cl_lattice.specs.Expansion.{Own, expand, expand_parts, expansion, most_levels, named_type, next_spec, of_first, own_type, own_within, standard_type}
use Rattle.cl_lattice.specs.Members.{is_member, is_null, is_one_of}
use Rattle.cl_lattice.specs.World.{World, kind_named}
use Rattle.cl_lattice.specs.declared.declared_types.TypeKind.{TypeKind}
use Rattle.cl_lattice.specs.declared.declared_types.TypeKind.TheVariants as kind
use Rattle.cl_lattice.specs.declared.declared_types.UserType.{UserType}
use Rattle.cl_ptext.specs.Book.{Book, args_there, behind_first, inherited_in, inherited_spec, separator_of, spec_there}
use Rattle.cl_ptext.specs.Methods.{bytes_in, predicates_of}
use Rattle.cl_ptext.specs.Texts.{Writes, list_text, method_or, plain, text_by_first, text_by_some, text_of}
use Rattle.cl_reuse.proofs.ValueLemmas.{inside, same-values}
use Rattle.cl_reuse.specs.ReadValues.{AgreeOnSpec}
use Rattle.cl_loaded.proofs.TextsNamed.{Declares}

-- the same value, or none in both, at each path that what is called reads
abbrev AgreeOnCallee : App → Callee → (slots other : Slots) → Type 0
AgreeOnCallee app c slots other = (p : Path) (n : ℕ) → Within n app p c → value_at app p slots [] ≡ value_at app p other []

-- the same at each path that the specifiers among arguments reach
abbrev AgreeOnArgs : App → TypeArgTrees → (slots other : Slots) → Type 0
AgreeOnArgs app ts slots other = (p : Path) (n : ℕ) → ReadsArgs (Within n app p) ts → value_at app p slots [] ≡ value_at app p other []

-- what the user types of a world inherit from is declared
abbrev pub AreDeclared : App → World → Type 0
AreDeclared app w = (x : List ℕ) (u : UserType) → kind_named x w ≡ Some (kind.User u) → Declares app.types x u

abbrev Alike : (Data → Writes) → (Data → Writes) → Type 0
Alike write write' = (d : Data) (out : List ℕ) → write d out ≡ write' d out

module _ (b : Book) (limits : Limits) (slots other : Slots) where
  abbrev here : Go
  here = means limits.depth limits.budget b.app slots

  abbrev there : Go
  there = means limits.depth limits.budget b.app other

  -- the same texts by an expanded type beside a specifier
  abbrev pub SameText : Expanded → TypeSpecTree → Type 0
  SameText t s = Alike (text_of b here 0 t s) (text_of b there 0 t s)

  -- each part does so beside its specifier
  abbrev SameParts : ExpandedTypes → Option (TypeSpecTree × TypeArgTrees) → Type 0
  SameParts type.none o = Unit {0}
  SameParts (type.part t ts) o = SameText t (spec_there o) × SameParts ts (next_spec (args_there o))

  -- ---- what is called

  inherited-agree : (x : List ℕ) (d : TypeDecl) → named x b.app.types ≡ Some d → AgreeOnCallee b.app (callee.Inherited x) slots other
      → AgreeOnSpec b.app d.inherit_from slots other
  inherited-agree x d found a p n h =
      inside b.app slots other (λ q m. ReadsSpec (Within m b.app q) d.inherit_from) [] [] []
      (λ q m slot k. a q (suc m) (subst (λ (o : Option TypeDecl). InInherited (Within m b.app q) q o) (sym found) (slot, k))) p n h

  body-same : (x : List ℕ) (m : MethodDecl) → present_method x b.app ≡ Some m → AgreeOnCallee b.app (callee.PresentMethod x) slots other
      → (d : Data) → here 0 ((m.parameter, d) ∷ []) m.body ≡ there 0 ((m.parameter, d) ∷ []) m.body
  body-same x m found a d =
      same-values b.app slots other limits.depth limits.budget 0 ((m.parameter, d) ∷ []) ((m.parameter, d) ∷ []) m.body
      (inside b.app slots other (λ q n. Reads (Within n b.app q) q [] m.body) ((m.parameter, d) ∷ []) [] []
      (λ q n slot k. a q (suc n) (subst (λ (o : Option MethodDecl). InMethod (Within n b.app q) q o) (sym found) (slot, k))))

  by-method : (o : Option MethodDecl) (write write' : Data → Writes)
      → ((m : MethodDecl) → o ≡ Some m → (d : Data) → here 0 ((m.parameter, d) ∷ []) m.body ≡ there 0 ((m.parameter, d) ∷ []) m.body)
      → Alike write write' → Alike (method_or here 0 o write) (method_or there 0 o write')
  by-method None write write' g same d out = same d out
  by-method (Some m) write write' g same d out = λ i. (g m refl d i >>= λ e. lift (bytes_in e)) >>= λ x. give (out ++ x)

  method-same : (x : List ℕ) (write write' : Data → Writes) → AgreeOnCallee b.app (callee.PresentMethod x) slots other
      → Alike write write' → Alike (method_or here 0 (present_method x b.app) write) (method_or there 0 (present_method x b.app) write')
  method-same x write write' a same = by-method (present_method x b.app) write write' (λ m found. body-same x m found a) same

  -- ---- the parts of a specifier

  some-same : (es : ExpandedTypes) (args : TypeArgTrees) → SameParts es (next_spec args)
      → Alike (text_by_some b here 0 es args) (text_by_some b there 0 es args)
  some-same type.none args a d out = refl
  some-same (type.part t es) args a d out =
      λ i. if is_member b.world (predicates_of b.app) d t then a.0 d out i else some-same es (behind_first args) a.1 d out i

  first-same : (es : ExpandedTypes) (args : TypeArgTrees) → SameParts es (next_spec args)
      → Alike (text_by_first b here 0 es args) (text_by_first b there 0 es args)
  first-same type.none args a d out = refl
  first-same (type.part t es) args a d out = a.0 d out

  sequence-same : (x : List ℕ) (vs : List (Option Data)) (es : ExpandedTypes) (ts : TypeArgTrees) (o : TypeOptions) → SameParts es (next_spec ts)
      → SameText (of_first type.sequence x vs es) (specifier x ts o)
  sequence-same x vs type.none ts o a d out = refl
  sequence-same x vs (type.part t es) ts o a d out =
      λ i. list_text (separator_of (specifier x ts o)) (λ e more. a.0 e more i) d out

  null-same : (x : List ℕ) (vs : List (Option Data)) (es : ExpandedTypes) (ts : TypeArgTrees) (o : TypeOptions) → SameParts es (next_spec ts)
      → SameText (of_first type.null_or x vs es) (specifier x ts o)
  null-same x vs type.none ts o a d out = refl
  null-same x vs (type.part t es) ts o a d out = λ i. if is_null d then plain d out else a.0 d out i

  token-same : (x : List ℕ) (vs : List (Option Data)) (xs : List (List ℕ)) (es : ExpandedTypes) (ts : TypeArgTrees) (o : TypeOptions)
      → SameParts es (next_spec ts) → SameText (of_first (type.token_or xs) x vs es) (specifier x ts o)
  token-same x vs xs type.none ts o a d out = refl
  token-same x vs xs (type.part t es) ts o a d out = λ i. if is_one_of xs d then plain d out else a.0 d out i

  standard-same : (t : StandardType) (x : List ℕ) (vs : List (Option Data)) (xs : List (List ℕ)) (es : ExpandedTypes) (ts : TypeArgTrees)
      (o : TypeOptions) → SameParts es (next_spec ts) → SameText (standard_type t x vs xs es) (specifier x ts o)
  standard-same standard.T x vs xs es ts o a d out = refl
  standard-same standard.Nil x vs xs es ts o a d out = refl
  standard-same standard.Boolean x vs xs es ts o a d out = refl
  standard-same standard.Integer x vs xs es ts o a d out = refl
  standard-same standard.String x vs xs es ts o a d out = refl
  standard-same standard.Symbol x vs xs es ts o a d out = refl
  standard-same standard.Member x vs xs es ts o a d out = refl
  standard-same standard.Subset x vs xs es ts o a d out = refl
  standard-same standard.Sequence x vs xs es ts o a d out = sequence-same x vs es ts o a d out
  standard-same standard.Or x vs xs es ts o a d out = some-same es ts a d out
  standard-same standard.And x vs xs es ts o a d out = first-same es ts a d out
  standard-same standard.NullOrType x vs xs es ts o a d out = null-same x vs es ts o a d out
  standard-same standard.TokenOrType x vs xs es ts o a d out = token-same x vs xs es ts o a d out
  standard-same standard.BlankArea x vs xs es ts o a d out = refl
  standard-same standard.Command x vs xs es ts o a d out = refl
  standard-same standard.DialogChoice x vs xs es ts o a d out = refl

  -- ---- specifiers

  -- the user types that are found by name do so beside each specifier of theirs
  abbrev SameOwn : Own → Type 0
  SameOwn own = (u : UserType) (x : List ℕ) (vs : List (Option Data)) (ts : TypeArgTrees) (o : TypeOptions) → kind_named x b.world ≡ Some (kind.User u)
      → AgreeOnSpec b.app (specifier x ts o) slots other → SameText (own u x vs) (specifier x ts o)

  named-same : (own : Own) → SameOwn own → (st : Option StandardType) (k : Option TypeKind) (x : List ℕ) (ts : TypeArgTrees) (o : TypeOptions)
      → kind_named x b.world ≡ k → AgreeOnSpec b.app (specifier x ts o) slots other
      → (vs : List (Option Data)) (xs : List (List ℕ)) (es : ExpandedTypes) → SameParts es (next_spec ts)
      → SameText (named_type own st k x vs xs es) (specifier x ts o)
  named-same own same (Some t) k x ts o e a vs xs es parts d out = standard-same t x vs xs es ts o parts d out
  named-same own same None None x ts o e a vs xs es parts d out = refl
  named-same own same None (Some kind.Record) x ts o e a vs xs es parts d out =
      method-same x plain plain (λ p n h. a p n (inl h)) (λ f more. refl) d out
  named-same own same None (Some (kind.Host low high)) x ts o e a vs xs es parts d out = refl
  named-same own same None (Some (kind.User u)) x ts o e a vs xs es parts d out = same u x vs ts o e a d out

  module _ (own : Own) (same : SameOwn own) where
    mutual
      pub spec-same : (g : Given) (s : TypeSpecTree) → AgreeOnSpec b.app s slots other → SameText (expand b.world own g s) s
      spec-same g (specifier x ts o) a =
          named-same own same (standard_named x) (kind_named x b.world) x ts o refl a (values_of g ts) (tokens_in ts) (expand_parts b.world own g ts)
          (parts-same g ts (λ p n h. a p n (inr (inl h))))

      parts-same : (g : Given) (ts : TypeArgTrees) → AgreeOnArgs b.app ts slots other → SameParts (expand_parts b.world own g ts) (next_spec ts)
      parts-same g none a = tt
      parts-same g (argument (Constant d) ts) a = parts-same g ts (λ p n h. a p n (inr h))
      parts-same g (argument Any ts) a = parts-same g ts (λ p n h. a p n (inr h))
      parts-same g (argument (Param x) ts) a = parts-same g ts (λ p n h. a p n (inr h))
      parts-same g (argument (Spec s) ts) a = (spec-same g s (λ p n h. a p n (inl h)), parts-same g ts (λ p n h. a p n (inr h)))
      parts-same g (argument (Names xs) ts) a = parts-same g ts (λ p n h. a p n (inr h))

  own-same : AreDeclared b.app b.world → (n : ℕ) → SameOwn (own_within n b.world)
  own-same declared zero u x vs ts o e a = λ d out. refl
  own-same declared (suc n) u x vs ts o e a =
      let t : Expanded = expand b.world (own_within n b.world) (given u.parameters vs) u.inherit_from in
      let one : Declares b.app.types x u = declared x u e in
      let reached : AgreeOnSpec b.app u.inherit_from slots other =
      subst (λ (s : TypeSpecTree). AgreeOnSpec b.app s slots other) one.inherits
      (inherited-agree x one.decl one.found (λ p n h. a p n (inr (inr h)))) in
      let inner : SameText t u.inherit_from =
      spec-same (own_within n b.world) (own-same declared n) (given u.parameters vs) u.inherit_from reached in
      method-same x (text_of b here 0 t (inherited_spec b x (specifier x ts o))) (text_of b there 0 t (inherited_spec b x (specifier x ts o)))
      (λ p n h. a p n (inl h))
      (subst (λ (k : Option TypeKind). SameText t (inherited_in (specifier x ts o) k)) (sym e) inner)

  own-type-same : AreDeclared b.app b.world → SameOwn (own_type b.world)
  unfolding own_type
  own-type-same declared u x vs ts o e a = own-same declared most_levels u x vs ts o e a

  pub expansion-same : AreDeclared b.app b.world → (s : TypeSpecTree) → AgreeOnSpec b.app s slots other → SameText (expansion b.world [] s) s
  expansion-same declared s a = spec-same (own_type b.world) (own-type-same declared) [] s a
