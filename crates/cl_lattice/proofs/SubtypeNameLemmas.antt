-- A declared type takes only types of its own name.
use Rattle.std.proofs.Common.{◌≡◌, ℕ, ℤ, true, false, List, [], refl, ap, sym, subst, ◌∙◌}
use Rattle.std.specs.Prelude.{Option, Some, None, ◌==◌}
use Rattle.std.specs.Cmp.Lexicographic.{pointwise}
use Rattle.std.proofs.lemmas.Slice.Eq.{bytes_eq-Decides}
use Rattle.cl_value.specs.Data.{Data}
use Rattle.cl_syntax.specs.StandardTypes.{standard_named}
use Rattle.cl_syntax.specs.TypeSpecTree.{TypeSpecTree, specifier, name_of}
use Rattle.cl_syntax.specs.declared.type_names.StandardType.{StandardType}
use Rattle.cl_lattice.specs.Arguments.{Given, given, tokens_in, values_of}
use Rattle.cl_lattice.specs.Expanded.{Expanded}
use Rattle.cl_lattice.specs.Expanded as type
use Rattle.cl_lattice.specs.Expansion.{declared_type, expand_parts, expansion, named_type, own_type}
use Rattle.cl_lattice.specs.Laws.{AllFit}
use Rattle.cl_lattice.specs.SubtypeHeads.{has_name, head_type}
use Rattle.cl_lattice.specs.SubtypeRows.{is_alone}
use Rattle.cl_lattice.specs.Subtypes.{IsSubtype, itself}
use Rattle.cl_lattice.specs.SubtypeWays.{ByHeads, BySecond}
use Rattle.cl_lattice.specs.World.{World, kind_named}
use Rattle.cl_lattice.specs.declared.declared_types.TypeKind.{TypeKind}
use Rattle.cl_lattice.specs.declared.declared_types.TypeKind.TheVariants as kind
use Rattle.cl_lattice.specs.declared.heads.Head.{Head}
use Rattle.cl_lattice.specs.declared.heads.Head.TheVariants as head
use Rattle.cl_lattice.proofs.SubtypeHeadLemmas.{own_head}

-- the name of a declared type
abbrev own_name : Expanded → Option (List ℕ)
own_name (type.record_type x) = Some x
own_name (type.host x low high) = Some x
own_name (type.user x vs f t) = Some x
own_name (type.unknown x vs) = Some x
own_name t = None

some_same : {A : Type 0} (a b : A) → Some a ≡ Some b → a ≡ b
some_same a b e = ap (λ o. elim o [ None ↦ a | Some c ↦ c ]) e

equal : (y x : List ℕ) → x ≡ y → pointwise ◌==◌ y x ≡ true
equal y x e = (bytes_eq-Decides y x).1 (sym e)

named_record : (a : Expanded) (x : List ℕ) → ByHeads a (type.record_type x) → own_name a ≡ Some x
named_record (type.record_type y) x h = ap Some h
named_record a x h = absurd h

named_host : (a : Expanded) (x : List ℕ) (low high : ℤ) → ByHeads a (type.host x low high) → own_name a ≡ Some x
named_host (type.host y low' high') x low high h = ap Some h.0
named_host a x low high h = absurd h

named_user : (a : Expanded) (x : List ℕ) (vs : List (Option Data)) (f : Option (List ℕ)) (t : Expanded) → ByHeads a (type.user x vs f t) → own_name a ≡ Some x
named_user (type.user y ws g u) x vs f t h = ap own_name h
named_user a x vs f t h = absurd h

named_unknown : (a : Expanded) (x : List ℕ) (vs : List (Option Data)) → ByHeads a (type.unknown x vs) → own_name a ≡ Some x
named_unknown (type.unknown y ws) x vs h = ap Some h.0
named_unknown a x vs h = absurd h

-- what a name stands for takes only types of that name
declared_named : (w : World) → AllFit w → (y : List ℕ) → standard_named y ≡ None → (k : Option TypeKind) → kind_named y w ≡ k → (vs : List (Option Data)) (a : Expanded)
    → BySecond a (declared_type (own_type w) k y vs) → own_name a ≡ Some y
declared_named w f y plain None e vs a h = named_unknown a y vs h
declared_named w f y plain (Some kind.Record) e vs a h = named_record a y h
declared_named w f y plain (Some (kind.Host low high)) e vs a h = named_host a y low high h
declared_named w f y plain (Some (kind.User u)) e vs a h =
    let t : Expanded = expansion w (given u.parameters vs) u.inherit_from in
    named_user a y vs u.satisfies t (subst (λ (b : Expanded). BySecond a b) (own_head w f y u plain e vs) h)

second_named : (w : World) → AllFit w → (s : TypeSpecTree) → standard_named (name_of s) ≡ None → (a : Expanded) → BySecond a (expansion w [] s) → own_name a ≡ Some (name_of s)
second_named w f (specifier y ts o) plain a h =
    declared_named w f y plain (kind_named y w) refl (values_of [] ts) a
    (subst (λ (t : Option StandardType). BySecond a (named_type (own_type w) t (kind_named y w) y (values_of [] ts) (tokens_in ts) (expand_parts w (own_type w) [] ts))) plain h)

declared_alone : (w : World) → AllFit w → (y : List ℕ) → standard_named y ≡ None → (k : Option TypeKind) → kind_named y w ≡ k → (vs : List (Option Data))
    → is_alone (declared_type (own_type w) k y vs) ≡ true
declared_alone w f y plain None e vs = refl
declared_alone w f y plain (Some kind.Record) e vs = refl
declared_alone w f y plain (Some (kind.Host low high)) e vs = refl
declared_alone w f y plain (Some (kind.User u)) e vs = ap is_alone (own_head w f y u plain e vs)

-- a declared type is its own only part
pub second_alone : (w : World) → AllFit w → (s : TypeSpecTree) → standard_named (name_of s) ≡ None → is_alone (expansion w [] s) ≡ true
second_alone w f (specifier y ts o) plain =
    ap (λ (t : Option StandardType). is_alone (named_type (own_type w) t (kind_named y w) y (values_of [] ts) (tokens_in ts) (expand_parts w (own_type w) [] ts))) plain
    ∙ (declared_alone w f y plain (kind_named y w) refl (values_of [] ts))

head_named : (w : World) (g : Given) (h : Head) (y : List ℕ) → own_name (head_type w g h) ≡ Some y → has_name h y ≡ true
head_named w g (head.Record x) y e = equal y x.now (some_same x.now y e)
head_named w g (head.Host x low high) y e = equal y x.now (some_same x.now y e)
head_named w g (head.User x ts u) y e = equal y x.now (some_same x.now y e)
head_named w g (head.Unknown x ts) y e = equal y x.now (some_same x.now y e)
head_named w g head.Everything y e = cc
head_named w g head.Nothing y e = cc
head_named w g head.Boolean y e = cc
head_named w g head.Symbols y e = cc
head_named w g head.BlankArea y e = cc
head_named w g head.Command y e = cc
head_named w g head.DialogChoice y e = cc
head_named w g (head.Integer low high) y e = cc
head_named w g (head.Text n) y e = cc
head_named w g (head.Member ts) y e = cc
head_named w g (head.Subset ts) y e = cc
head_named w g (head.Sequence s) y e = cc
head_named w g (head.SomeOf ts) y e = cc
head_named w g (head.EachOf ts) y e = cc
head_named w g (head.NullOr s) y e = cc
head_named w g (head.TokenOr ts s) y e = cc

-- a declared type of another name is no way
pub another_below : (w : World) → AllFit w → (s : TypeSpecTree) → standard_named (name_of s) ≡ None → (h : Head) → has_name h (name_of s) ≡ false → (g : Given)
    → BySecond (head_type w g h) (expansion w [] s) → ⊥
another_below w f s plain h other g b =
    let named : has_name h (name_of s) ≡ true = head_named w g h (name_of s) (second_named w f s plain (head_type w g h) b) in
    cc

record_is : (w : World) (s : TypeSpecTree) → standard_named (name_of s) ≡ None → kind_named (name_of s) w ≡ Some kind.Record → expansion w [] s ≡ type.record_type (name_of s)
record_is w (specifier y ts o) plain k = λ i. named_type (own_type w) (plain i) (k i) y (values_of [] ts) (tokens_in ts) (expand_parts w (own_type w) [] ts)

-- a record is below the one of its name
pub record_below : (w : World) (s : TypeSpecTree) → standard_named (name_of s) ≡ None → (x : List ℕ) → kind_named x w ≡ Some kind.Record → pointwise ◌==◌ (name_of s) x ≡ true
    → IsSubtype (type.record_type x) (expansion w [] s)
record_below w s plain x declared same =
    let names : name_of s ≡ x = (bytes_eq-Decides (name_of s) x).0 same in
    let whole : expansion w [] s ≡ type.record_type x = record_is w s plain (ap (λ y. kind_named y w) names ∙ declared) ∙ ap type.record_type names in
    subst (λ (t : Expanded). IsSubtype (type.record_type x) t) (sym whole) (itself (type.record_type x) refl)
