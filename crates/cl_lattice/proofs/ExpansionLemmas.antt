-- The expansion of a user type: it holds the expansion of what it inherits from.
use Rattle.std.proofs.Common.{◌≡◌, ℕ, zero, suc, ◌≤◌, true, List, ◌∷◌, refl, ap, subst, arith, ◌∙◌}
use Rattle.std.specs.Prelude.{Option, Some, None, is_some}
use Rattle.cl_value.specs.Data.{Data}
use Rattle.cl_syntax.specs.StandardTypes.{standard_named}
use Rattle.cl_syntax.specs.TypeSpecTree.{TypeSpecTree, specifier, Constant, Any, Param, Spec, Names, TypeArgTrees, none, argument}
use Rattle.cl_syntax.specs.declared.type_names.StandardType.{StandardType}
use Rattle.cl_syntax.specs.declared.type_specs.TypeArg.{TypeArg}
use Rattle.cl_syntax.specs.declared.type_specs.TypeArg.TheVariants as arg
use Rattle.cl_lattice.specs.Arguments.{Given, given, tokens_in, trees_of, values_of}
use Rattle.cl_lattice.specs.Expanded.{Expanded, ExpandedTypes}
use Rattle.cl_lattice.specs.Expanded as type
use Rattle.cl_lattice.specs.Expansion.{Own, named_type, expand, expand_parts, own_within, own_type, expansion, next_spec, next_parts}
use Rattle.cl_lattice.specs.Laws.{AllFit}
use Rattle.cl_lattice.specs.Rings.{IsUserType}
use Rattle.cl_lattice.specs.Sizes.{both, sized_arg, sized_args, inherited_by, inherited_size, nodes_within, fits, is_small, most_depth}
use Rattle.cl_lattice.specs.World.{World, kind_named}
use Rattle.cl_lattice.specs.declared.declared_types.TypeKind.{TypeKind}
use Rattle.cl_lattice.specs.declared.declared_types.TypeKind.TheVariants as kind
use Rattle.cl_lattice.specs.declared.declared_types.UserType.{UserType}

-- two sizes together are there where both are
pub both_some : (a b : Option ℕ) → is_some (both a b) ≡ true → (is_some a ≡ true) × (is_some b ≡ true)
both_some None b h = cc
both_some (Some m) None h = cc
both_some (Some m) (Some n) h = (refl, refl)

-- two ways to say what user types are give one type, where they agree on it
same_named : (own other : Own) (t : Option StandardType) (k : Option TypeKind) (x : List ℕ) (vs : List (Option Data)) (xs : List (List ℕ)) (ps : ExpandedTypes)
    → ((u : UserType) → inherited_by t k ≡ Some u.inherit_from → own u x vs ≡ other u x vs) → named_type own t k x vs xs ps ≡ named_type other t k x vs xs ps
same_named own other (Some t) k x vs xs ps h = refl
same_named own other None None x vs xs ps h = refl
same_named own other None (Some kind.Record) x vs xs ps h = refl
same_named own other None (Some (kind.Host low high)) x vs xs ps h = refl
same_named own other None (Some (kind.User u)) x vs xs ps h = h u refl

-- the parts of a specifier, where each is expanded in the same way
same_parts : (w : World) (own other : Own) (g : Given) (size : TypeSpecTree → Option ℕ) → ((s : TypeSpecTree) → is_some (size s) ≡ true → expand w own g s ≡ expand w other g s)
    → (ts : TypeArgTrees) → is_some (sized_args size ts) ≡ true → expand_parts w own g ts ≡ expand_parts w other g ts
same_parts w own other g size same none h = refl
same_parts w own other g size same (argument (Constant d) ts) h = same_parts w own other g size same ts (both_some (sized_arg size (Constant d)) (sized_args size ts) h).1
same_parts w own other g size same (argument Any ts) h = same_parts w own other g size same ts (both_some (sized_arg size Any) (sized_args size ts) h).1
same_parts w own other g size same (argument (Param x) ts) h = same_parts w own other g size same ts (both_some (sized_arg size (Param x)) (sized_args size ts) h).1
same_parts w own other g size same (argument (Names xs) ts) h = same_parts w own other g size same ts (both_some (sized_arg size (Names xs)) (sized_args size ts) h).1
same_parts w own other g size same (argument (Spec s) ts) h =
    let first : expand w own g s ≡ expand w other g s = same s (both_some (size s) (sized_args size ts) h).0 in
    let rest : expand_parts w own g ts ≡ expand_parts w other g ts = same_parts w own other g size same ts (both_some (size s) (sized_args size ts) h).1 in
    λ i. type.part (first i) (rest i)

-- a specifier that nests at most so many names is expanded in the same way through more user types
pub stable : (k : ℕ) (w : World) (s : TypeSpecTree) → is_some (nodes_within k w s) ≡ true → (n : ℕ) → k ≤ n → (g : Given)
    → expand w (own_within n w) g s ≡ expand w (own_within (suc n) w) g s
stable zero w s h n l g = cc
stable (suc k) w (specifier x ts o) h zero l g = absurd (omega arith)
stable (suc k) w (specifier x ts o) h (suc n) l g =
    let inherited = inherited_size (nodes_within k w) (inherited_by (standard_named x) (kind_named x w)) in
    let sized = both_some (sized_args (nodes_within k w) ts) inherited (both_some (Some 1) (both (sized_args (nodes_within k w) ts) inherited) h).1 in
    let parts : expand_parts w (own_within (suc n) w) g ts ≡ expand_parts w (own_within (suc (suc n)) w) g ts =
    same_parts w (own_within (suc n) w) (own_within (suc (suc n)) w) g (nodes_within k w) (λ s e. stable k w s e (suc n) (omega (arith, l)) g) ts sized.0 in
    let vs : List (Option Data) = values_of g ts in
    ap (λ ps. named_type (own_within (suc n) w) (standard_named x) (kind_named x w) x vs (tokens_in ts) ps) parts
    ∙ same_named (own_within (suc n) w) (own_within (suc (suc n)) w) (standard_named x) (kind_named x w) x vs (tokens_in ts)
    (expand_parts w (own_within (suc (suc n)) w) g ts)
    (λ u e. ap (λ t. type.user x vs u.satisfies t)
    (stable k w u.inherit_from (subst (λ i. is_some (inherited_size (nodes_within k w) i) ≡ true) e sized.1) n (omega (arith, l)) (given u.parameters vs)))

small_some : (o : Option ℕ) → is_small o ≡ true → is_some o ≡ true
small_some None h = h
small_some (Some n) h = refl

fits_some : (w : World) (s : TypeSpecTree) → fits w s ≡ true → is_some (nodes_within most_depth w s) ≡ true
unfolding fits
fits_some w s h = small_some (nodes_within most_depth w s) h

-- a user type holds its name, its arguments, its predicate, and the expansion of what it inherits from
pub own_is : (w : World) → AllFit w → (x : List ℕ) (u : UserType) → IsUserType w x u → (vs : List (Option Data))
    → own_type w u x vs ≡ type.user x vs u.satisfies (expansion w (given u.parameters vs) u.inherit_from)
unfolding own_type
own_is w f x u i vs =
    ap (λ t. type.user x vs u.satisfies t) (stable most_depth w u.inherit_from (fits_some w u.inherit_from (f.fits_each x u i)) most_depth (omega arith) (given u.parameters vs))

-- the parts of a specifier are the first one and those behind it
pub parts_next : (w : World) (own : Own) (g : Given) (ts : TypeArgTrees) → expand_parts w own g ts ≡ next_parts w own g (next_spec ts)
parts_next w own g none = refl
parts_next w own g (argument (Constant d) ts) = parts_next w own g ts
parts_next w own g (argument Any ts) = parts_next w own g ts
parts_next w own g (argument (Param x) ts) = parts_next w own g ts
parts_next w own g (argument (Spec s) ts) = refl
parts_next w own g (argument (Names xs) ts) = parts_next w own g ts

-- the same where the first argument is a specifier
pub parts_first : (w : World) (own : Own) (g : Given) (args more : List TypeArg) (first : TypeArg) (s : TypeSpecTree) → args ≡ first ∷ more → first ≡ arg.Spec s
    → expand_parts w own g (trees_of args) ≡ type.part (expand w own g s) (expand_parts w own g (trees_of more))
parts_first w own g args more first s e h = ap (λ v. expand_parts w own g (trees_of v)) e ∙ ap (λ v. expand_parts w own g (trees_of (v ∷ more))) h

-- an argument that is no specifier is no part
pub parts_later : (w : World) (own : Own) (g : Given) (args more : List TypeArg) (first : TypeArg) → args ≡ first ∷ more → ((s : TypeSpecTree) → first ≡ arg.Spec s → ⊥)
    → expand_parts w own g (trees_of args) ≡ expand_parts w own g (trees_of more)
parts_later w own g args more (arg.Constant v) e h = ap (λ x. expand_parts w own g (trees_of x)) e
parts_later w own g args more arg.Any e h = ap (λ x. expand_parts w own g (trees_of x)) e
parts_later w own g args more (arg.Param x) e h = ap (λ x. expand_parts w own g (trees_of x)) e
parts_later w own g args more (arg.Spec s) e h = absurd (h s refl)
parts_later w own g args more (arg.Names xs) e h = ap (λ x. expand_parts w own g (trees_of x)) e
