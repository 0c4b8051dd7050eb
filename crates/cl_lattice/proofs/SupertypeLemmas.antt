-- A type is a subtype of each type of its precedence list whose name may stand alone.
use Rattle.std.proofs.Common.{◌≡◌, ℕ, zero, suc, Bool, true, false, List, [], ◌∷◌, ◌++◌, refl, ap, sym, subst, ◌∙◌}
use Rattle.std.specs.Prelude.{Option, Some, None, ◌&&◌, ◌||◌, if◌then◌else◌, codes}
use Rattle.std.specs.Str.{bytes_eq}
use Rattle.std.proofs.lemmas.Slice.Eq.{bytes_eq-Decides}
use Rattle.cl_value.specs.Data.{Data}
use Rattle.cl_syntax.specs.StandardTypes.{standard_named}
use Rattle.cl_syntax.specs.TypeSpecTree.{TypeSpecTree, specifier, Constant, Any, Param, Spec, Names, TypeArgTrees, none, argument, name_of, plain_type}
use Rattle.cl_syntax.specs.declared.type_names.StandardType.{StandardType}
use Rattle.cl_syntax.specs.declared.type_names.StandardType.TheVariants as standard
use Rattle.cl_syntax.specs.declared.type_specs.TypeOptions.{TypeOptions}
use Rattle.cl_lattice.specs.Arguments.{Given, given, tokens_in, values_of}
use Rattle.cl_lattice.specs.Expanded.{Expanded, ExpandedTypes}
use Rattle.cl_lattice.specs.Expanded as type
use Rattle.cl_lattice.specs.Expansion.{expand_parts, expansion, most_levels, named_type, own_type, standard_type}
use Rattle.cl_lattice.specs.Laws.{AllFit}
use Rattle.cl_lattice.specs.Members.{is_token}
use Rattle.cl_lattice.specs.Precedence.{last_kept, part_names, supertypes, standard_precedence, listed, joined, precedence_by, precedence_within, precedence}
use Rattle.cl_lattice.specs.Rings.{IsUserType}
use Rattle.cl_lattice.specs.Subtypes.{IsSubtype, SomeIsSubtype, in_everything, of_nothing, of_integers, of_strings, some_part, some_here, some_later, of_user, of_host}
use Rattle.cl_lattice.specs.Supertypes.{is_none_given, standard_stands_alone, stands_alone_by, stands_alone, is_empty, is_bare_by, is_bare, parts_bare, supers_bare, AllBare}
use Rattle.cl_lattice.specs.World.{World, kind_named}
use Rattle.cl_lattice.specs.declared.declared_types.TypeKind.{TypeKind}
use Rattle.cl_lattice.specs.declared.declared_types.TypeKind.TheVariants as kind
use Rattle.cl_lattice.specs.declared.declared_types.UserType.{UserType}
use Rattle.cl_lattice.proofs.ExpansionLemmas.{own_is}
use Rattle.cl_lattice.proofs.SubtypeReflexive.{reflexive}

-- ---- names in lists

by_either : (C : Type 0) (a b : Bool) → (a || b) ≡ true → (a ≡ true → C) → (b ≡ true → C) → C
by_either C true b h f g = f refl
by_either C false b h f g = g h

by_both : (C : Type 0) (a b : Bool) → (a && b) ≡ true → (a ≡ true → b ≡ true → C) → C
by_both C true b h f = f refl h
by_both C false b h f = cc

same : (x y : List ℕ) → bytes_eq x y ≡ true → x ≡ y
same x y h = (bytes_eq-Decides x y).0 h

or_right : (a b : Bool) → b ≡ true → (a || b) ≡ true
or_right true b h = refl
or_right false b h = h

or_left : (a b : Bool) → a ≡ true → (a || b) ≡ true
or_left true b h = refl
or_left false b h = cc

kept_by : (b : Bool) (x : List ℕ) (xs : List (List ℕ)) (y : List ℕ) → (is_token (last_kept xs) y ≡ true → is_token xs y ≡ true)
    → is_token (if b then last_kept xs else x ∷ last_kept xs) y ≡ true → is_token (x ∷ xs) y ≡ true
kept_by true x xs y more h = or_right (bytes_eq x y) (is_token xs y) (more h)
kept_by false x xs y more h =
    by_either (is_token (x ∷ xs) y ≡ true) (bytes_eq x y) (is_token (last_kept xs) y) h (or_left (bytes_eq x y) (is_token xs y))
    (λ k. or_right (bytes_eq x y) (is_token xs y) (more k))

-- a name that is kept was there
kept : (xs : List (List ℕ)) (y : List ℕ) → is_token (last_kept xs) y ≡ true → is_token xs y ≡ true
kept [] y h = h
kept (x ∷ xs) y h = kept_by (is_token xs x) x xs y (kept xs y) h

-- a name of two lists behind one another is in one of them
by_list : (C : Type 0) (xs ys : List (List ℕ)) (y : List ℕ) → is_token (xs ++ ys) y ≡ true → (is_token xs y ≡ true → C) → (is_token ys y ≡ true → C) → C
by_list C [] ys y h f g = g h
by_list C (x ∷ xs) ys y h f g =
    by_either C (bytes_eq x y) (is_token (xs ++ ys) y) h (λ k. f (or_left (bytes_eq x y) (is_token xs y) k))
    (λ k. by_list C xs ys y k (λ l. f (or_right (bytes_eq x y) (is_token xs y) l)) g)

-- a name of a list that may not be there
by_listed : (C : Type 0) (o : Option (List (List ℕ))) (y : List ℕ) → is_token (listed o) y ≡ true → ((ys : List (List ℕ)) → o ≡ Some ys → is_token ys y ≡ true → C) → C
by_listed C None y h f = cc
by_listed C (Some ys) y h f = f ys refl h

-- ---- what is below a name

abbrev Lists : Type 0
Lists = List ℕ → Option (List (List ℕ))

-- an expanded type is below the type of a name
abbrev Below : World → Expanded → List ℕ → Type 0
Below w a y = IsSubtype a (expansion w [] (plain_type y))

below_t : (w : World) (a : Expanded) (y : List ℕ) → codes "t" ≡ y → Below w a y
below_t w a y e = subst (λ (x : List ℕ). Below w a x) e (in_everything a)

-- what is said of all specifiers below some level
abbrev Holds : World → Lists → Type 0
Holds w f =
    (s : TypeSpecTree) (ys : List (List ℕ)) → is_bare w s ≡ true → f (name_of s) ≡ Some ys → (y : List ℕ) → is_token ys y ≡ true → stands_alone w y ≡ true → (g : Given)
    → Below w (expansion w g s) y

-- some part of an `and`
parts_below : (w : World) (f : Lists) → Holds w f → (ts : TypeArgTrees) → parts_bare w ts ≡ true → (y : List ℕ) → is_token (joined f (part_names ts)) y ≡ true
    → stands_alone w y ≡ true → (g : Given) → SomeIsSubtype (expand_parts w (own_type w) g ts) (expansion w [] (plain_type y))
parts_below w f holds none bare y h alone g = cc
parts_below w f holds (argument (Constant d) ts) bare y h alone g = parts_below w f holds ts bare y h alone g
parts_below w f holds (argument Any ts) bare y h alone g = parts_below w f holds ts bare y h alone g
parts_below w f holds (argument (Param x) ts) bare y h alone g = parts_below w f holds ts bare y h alone g
parts_below w f holds (argument (Names xs) ts) bare y h alone g = parts_below w f holds ts bare y h alone g
parts_below w f holds (argument (Spec s) ts) bare y h alone g =
    let b = expansion w [] (plain_type y) in
    let rest = expand_parts w (own_type w) g ts in
    by_both (SomeIsSubtype (type.part (expansion w g s) rest) b) (is_bare w s) (parts_bare w ts) bare
    (λ first_bare rest_bare. by_list (SomeIsSubtype (type.part (expansion w g s) rest) b) (listed (f (name_of s))) (joined f (part_names ts)) y h
    (λ k. by_listed (SomeIsSubtype (type.part (expansion w g s) rest) b) (f (name_of s)) y k
    (λ ys e l. some_here (expansion w g s) rest b (holds s ys first_bare e y l alone g)))
    (λ k. some_later (expansion w g s) rest b (parts_below w f holds ts rest_bare y k alone g)))

-- what a user type inherits from, where its name is `and`, or another one
supers_by : (w : World) (f : Lists) → Holds w f → (x : List ℕ) (ts : TypeArgTrees) (o : TypeOptions) (b : Bool) → bytes_eq x (codes "and") ≡ b
    → (if b then parts_bare w ts else is_bare w (specifier x ts o)) ≡ true → (y : List ℕ) → is_token (joined f (if b then part_names ts else x ∷ [])) y ≡ true
    → stands_alone w y ≡ true → (g : Given) → Below w (expansion w g (specifier x ts o)) y
supers_by w f holds x ts o true e bare y h alone g =
    let is_and : codes "and" ≡ x = sym (same x (codes "and") e) in
    subst (λ (z : List ℕ). Below w (expansion w g (specifier z ts o)) y) is_and
    (some_part (expand_parts w (own_type w) g ts) (expansion w [] (plain_type y)) (parts_below w f holds ts bare y h alone g))
supers_by w f holds x ts o false e bare y h alone g =
    by_list (Below w (expansion w g (specifier x ts o)) y) (listed (f x)) [] y h
    (λ k. by_listed (Below w (expansion w g (specifier x ts o)) y) (f x) y k (λ ys d l. holds (specifier x ts o) ys bare d y l alone g))
    (λ k. cc)

supers_below : (w : World) (f : Lists) → Holds w f → (s : TypeSpecTree) → supers_bare w s ≡ true → (y : List ℕ) → is_token (joined f (supertypes s)) y ≡ true
    → stands_alone w y ≡ true → (g : Given) → Below w (expansion w g s) y
supers_below w f holds (specifier x ts o) bare y h alone g = supers_by w f holds x ts o (bytes_eq x (codes "and")) refl bare y h alone g

-- ---- a type is below its own name

standard_below : (t : StandardType) (x : List ℕ) (vs : List (Option Data)) (xs : List (List ℕ)) (ps : ExpandedTypes) → standard_stands_alone t ≡ true
    → IsSubtype (standard_type t x vs xs ps) (standard_type t x [] [] type.none)
standard_below standard.T x vs xs ps h = in_everything type.everything
standard_below standard.Nil x vs xs ps h = of_nothing type.nothing
standard_below standard.Boolean x vs xs ps h = reflexive type.boolean
standard_below standard.Integer x vs xs ps h = of_integers _ _ None None refl refl
standard_below standard.String x vs xs ps h = of_strings _
standard_below standard.Symbol x vs xs ps h = reflexive type.symbols
standard_below standard.Member x vs xs ps h = cc
standard_below standard.Subset x vs xs ps h = cc
standard_below standard.Sequence x vs xs ps h = cc
standard_below standard.Or x vs xs ps h = cc
standard_below standard.And x vs xs ps h = cc
standard_below standard.NullOrType x vs xs ps h = cc
standard_below standard.TokenOrType x vs xs ps h = cc
standard_below standard.BlankArea x vs xs ps h = reflexive type.blank_area
standard_below standard.Command x vs xs ps h = reflexive type.command
standard_below standard.DialogChoice x vs xs ps h = reflexive type.dialog_choice

user_below : (w : World) (u : UserType) (x : List ℕ) (ts : TypeArgTrees) (b : Bool) → is_none_given u.parameters ≡ b → b ≡ true → (if b then is_empty ts else true) ≡ true → (g : Given)
    → IsSubtype (own_type w u x (values_of g ts)) (own_type w u x [])
user_below w u x none b e d bare g = reflexive (own_type w u x [])
user_below w u x (argument a ts) true e d bare g = cc
user_below w u x (argument a ts) false e d bare g = cc

-- a specifier is below its name, where that may stand alone
own_below : (w : World) (x : List ℕ) (ts : TypeArgTrees) (t : Option StandardType) (k : Option TypeKind) (g : Given) (xs : List (List ℕ)) (ps : ExpandedTypes)
    → is_bare_by t k ts ≡ true → stands_alone_by t k ≡ true → IsSubtype (named_type (own_type w) t k x (values_of g ts) xs ps) (named_type (own_type w) t k x [] [] type.none)
own_below w x ts (Some t) k g xs ps bare alone = standard_below t x (values_of g ts) xs ps alone
own_below w x ts None None g xs ps bare alone = cc
own_below w x ts None (Some kind.Record) g xs ps bare alone = reflexive (type.record_type x)
own_below w x ts None (Some (kind.Host low high)) g xs ps bare alone = reflexive (type.host x low high)
own_below w x ts None (Some (kind.User u)) g xs ps bare alone = user_below w u x ts (is_none_given u.parameters) refl alone bare g

same_below : (w : World) (x : List ℕ) (ts : TypeArgTrees) (o : TypeOptions) (y : List ℕ) → x ≡ y → is_bare w (specifier x ts o) ≡ true → stands_alone w y ≡ true → (g : Given)
    → Below w (expansion w g (specifier x ts o)) y
same_below w x ts o y e bare alone g =
    subst (λ (z : List ℕ). stands_alone w z ≡ true → Below w (expansion w g (specifier x ts o)) z) e
    (λ a. own_below w x ts (standard_named x) (kind_named x w) g (tokens_in ts) (expand_parts w (own_type w) g ts) bare a) alone

-- ---- a type is below the names of its list

some_same : {A : Type 0} (a b : A) → Some a ≡ Some b → a ≡ b
some_same a b e = ap (λ o. elim o [ None ↦ a | Some c ↦ c ]) e

of_two : (C : Type 0) (x z y : List ℕ) → is_token (x ∷ z ∷ []) y ≡ true → (x ≡ y → C) → (z ≡ y → C) → C
of_two C x z y h f g =
    by_either C (bytes_eq x y) (is_token (z ∷ []) y) h (λ k. f (same x y k)) (λ k. by_either C (bytes_eq z y) false k (λ l. g (same z y l)) (λ l. cc))

of_standard : (C : Type 0) (b : Bool) (x z y : List ℕ) → is_token (if b then x ∷ [] else x ∷ z ∷ []) y ≡ true → (x ≡ y → C) → (z ≡ y → C) → C
of_standard C true x z y h f g = by_either C (bytes_eq x y) false h (λ k. f (same x y k)) (λ k. cc)
of_standard C false x z y h f g = of_two C x z y h f g

below_by : (w : World) → AllFit w → AllBare w → (f : Lists) → Holds w f → (x : List ℕ) (ts : TypeArgTrees) (o : TypeOptions) (t : Option StandardType) (k : Option TypeKind)
    → standard_named x ≡ t → kind_named x w ≡ k → (ys : List (List ℕ)) → is_bare w (specifier x ts o) ≡ true → precedence_by f t k x ≡ Some ys → (y : List ℕ)
    → is_token ys y ≡ true → stands_alone w y ≡ true → (g : Given) → Below w (expansion w g (specifier x ts o)) y
below_by w fit all f holds x ts o (Some t) k et ek ys bare e y h alone g =
    of_standard (Below w (expansion w g (specifier x ts o)) y) (bytes_eq x (codes "t")) x (codes "t") y
    (subst (λ (zs : List (List ℕ)). is_token zs y ≡ true) (sym (some_same (standard_precedence x) ys e)) h)
    (λ d. same_below w x ts o y d bare alone g) (λ d. below_t w (expansion w g (specifier x ts o)) y d)
below_by w fit all f holds x ts o None None et ek ys bare e y h alone g = cc
below_by w fit all f holds x ts o None (Some kind.Record) et ek ys bare e y h alone g =
    of_two (Below w (expansion w g (specifier x ts o)) y) x (codes "t") y
    (subst (λ (zs : List (List ℕ)). is_token zs y ≡ true) (sym (some_same (x ∷ codes "t" ∷ []) ys e)) h)
    (λ d. same_below w x ts o y d bare alone g) (λ d. below_t w (expansion w g (specifier x ts o)) y d)
below_by w fit all f holds x ts o None (Some (kind.Host low high)) et ek ys bare e y h alone g =
    let a = expansion w g (specifier x ts o) in
    let is : a ≡ type.host x low high = λ i. named_type (own_type w) (et i) (ek i) x (values_of g ts) (tokens_in ts) (expand_parts w (own_type w) g ts) in
    let number : Below w (type.host x low high) (codes "integer") =
    of_host x low high (type.integer None None) (of_integers (Some low) (Some high) None None refl refl) in
    by_either (Below w a y) (bytes_eq x y) (is_token (codes "integer" ∷ codes "t" ∷ []) y)
    (subst (λ (zs : List (List ℕ)). is_token zs y ≡ true) (sym (some_same (x ∷ codes "integer" ∷ codes "t" ∷ []) ys e)) h)
    (λ k. same_below w x ts o y (same x y k) bare alone g)
    (λ k. of_two (Below w a y) (codes "integer") (codes "t") y k
    (λ d. subst (λ (z : List ℕ). Below w a z) d (subst (λ (c : Expanded). Below w c (codes "integer")) (sym is) number)) (λ d. below_t w a y d))
below_by w fit all f holds x ts o None (Some (kind.User u)) et ek ys bare e y h alone g =
    let a = expansion w g (specifier x ts o) in
    let vs : List (Option Data) = values_of g ts in
    let user : IsUserType w x u = record { own = et; declared = ek } in
    let inherited : Expanded = expansion w (given u.parameters vs) u.inherit_from in
    let is : a ≡ type.user x vs u.satisfies inherited =
    (λ i. named_type (own_type w) (et i) (ek i) x vs (tokens_in ts) (expand_parts w (own_type w) g ts)) ∙ own_is w fit x u user vs in
    let lists : List (List ℕ) = joined f (supertypes u.inherit_from) in
    by_either (Below w a y) (bytes_eq x y) (is_token lists y)
    (kept (x ∷ lists) y (subst (λ (zs : List (List ℕ)). is_token zs y ≡ true) (sym (some_same (last_kept (x ∷ lists)) ys e)) h))
    (λ k. same_below w x ts o y (same x y k) bare alone g)
    (λ k. subst (λ (c : Expanded). Below w c y) (sym is)
    (of_user x vs u.satisfies inherited (expansion w [] (plain_type y))
    (supers_below w f holds u.inherit_from (all.bare_each x u user) y k alone (given u.parameters vs))))

listed_by : (n : ℕ) (w : World) → AllFit w → AllBare w → Holds w (precedence_within n w)
listed_by zero w fit all s ys bare e y h alone g = cc
listed_by (suc n) w fit all (specifier x ts o) ys bare e y h alone g =
    below_by w fit all (precedence_within n w) (listed_by n w fit all) x ts o (standard_named x) (kind_named x w) refl refl ys bare e y h alone g

pub listed_below : (w : World) → AllFit w → AllBare w → (s : TypeSpecTree) → is_bare w s ≡ true → (ys : List (List ℕ)) → precedence w (name_of s) ≡ Some ys → (y : List ℕ)
    → is_token ys y ≡ true → stands_alone w y ≡ true → IsSubtype (expansion w [] s) (expansion w [] (plain_type y))
unfolding precedence
listed_below w fit all s bare ys e y h alone = listed_by most_levels w fit all s ys bare e y h alone []
