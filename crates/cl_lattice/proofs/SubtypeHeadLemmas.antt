-- Heads of types stand for what the specifiers expand to.
use Rattle.std.proofs.Common.{◌≡◌, ℕ, List, ◌↔◌, refl, ap}
use Rattle.std.specs.Prelude.{Option, Some, None}
use Rattle.cl_value.specs.Data.{Data}
use Rattle.cl_syntax.specs.StandardTypes.{standard_named}
use Rattle.cl_syntax.specs.TypeSpecTree.{TypeSpecTree, Constant, Any, Param, Spec, Names, TypeArgTrees, none, argument}
use Rattle.cl_lattice.specs.Arguments.{Given, given}
use Rattle.cl_lattice.specs.Expanded.{Expanded}
use Rattle.cl_lattice.specs.Expanded as type
use Rattle.cl_lattice.specs.Expansion.{Own, expand, expand_parts, expansion, of_first, own_type}
use Rattle.cl_lattice.specs.Laws.{AllFit}
use Rattle.cl_lattice.specs.World.{World, kind_named}
use Rattle.cl_lattice.specs.declared.declared_types.TypeKind.TheVariants as kind
use Rattle.cl_lattice.specs.declared.declared_types.UserType.{UserType}
use Rattle.cl_lattice.specs.SubtypeHeads.{first_part, user_type}
use Rattle.cl_lattice.proofs.ExpansionLemmas.{own_is}

-- what is made of the first specifier; unknown where there is none
abbrev pub made : (Expanded → Expanded) → List ℕ → List (Option Data) → World → Own → Given → Option TypeSpecTree → Expanded
made make x vs w own g None = type.unknown x vs
made make x vs w own g (Some s) = make (expand w own g s)

pub first_made : (make : Expanded → Expanded) (x : List ℕ) (vs : List (Option Data)) (w : World) (own : Own) (g : Given) (ts : TypeArgTrees)
    → of_first make x vs (expand_parts w own g ts) ≡ made make x vs w own g (first_part ts)
first_made make x vs w own g none = refl
first_made make x vs w own g (argument (Constant d) ts) = first_made make x vs w own g ts
first_made make x vs w own g (argument Any ts) = first_made make x vs w own g ts
first_made make x vs w own g (argument (Param y) ts) = first_made make x vs w own g ts
first_made make x vs w own g (argument (Spec s) ts) = refl
first_made make x vs w own g (argument (Names xs) ts) = first_made make x vs w own g ts

-- a user type of the world holds what it inherits from
pub own_head : (w : World) → AllFit w → (x : List ℕ) (u : UserType) → standard_named x ≡ None → kind_named x w ≡ Some (kind.User u) → (vs : List (Option Data))
    → own_type w u x vs ≡ type.user x vs u.satisfies (expansion w (given u.parameters vs) u.inherit_from)
own_head w f x u s k vs = own_is w f x u (record { own = s; declared = k }) vs

-- two user types of the world are the same where their names and their arguments are
pub same_user : (w : World) (x y : List ℕ) (u v : UserType) → kind_named x w ≡ Some (kind.User u) → kind_named y w ≡ Some (kind.User v) → (vs ws : List (Option Data))
    → ((x ≡ y) × (vs ≡ ws)) ↔ (user_type w x vs u ≡ user_type w y ws v)
same_user w x y u v k l vs ws = (
  λ h.
      let names : x ≡ y = h.0 in
      let values : vs ≡ ws = h.1 in
      let kinds : kind_named x w ≡ kind_named y w = ap (λ z. kind_named z w) names in
      let same : u ≡ v = cc in
      λ i. user_type w (names i) (values i) (same i),
  λ h. (cc, cc),
)
