-- What is found of a name.
use Rattle.std.proofs.Common.{◌≡◌, Bool, true, false, List, [], ◌∷◌, ◌++◌, Option, Some, None, refl, ap}
use Rattle.cl_value.specs.Data.{Data}
use Rattle.cl_syntax.specs.declared.sites.Site.{Site}
use Rattle.cl_damage.specs.Children.{Child, has_name}
use Rattle.cl_damage.specs.Touched.{Partner, found_after, found_here, last_named, or_else, partner}

-- it has the name that is looked for
abbrev pub is_partner : {A : Type 0} → Option (Site × Data) → Child A → Bool
is_partner None o = false
is_partner (Some name) o = has_name name o

-- the children are those before it, it, and those after it; and it has the name
pub record Splits {A : Type 0} (name : Option (Site × Data)) (os : List (Child A)) (p : Partner A) : Type 0 where
  pub whole : os ≡ p.before ++ p.it ∷ p.after
  pub named : is_partner name p.it ≡ true

abbrev pub IfFound : {A : Type 0} → Option (Site × Data) → List (Child A) → Option (Partner A) → Type 0
IfFound name os None = Unit {0}
IfFound name os (Some p) = Splits name os p

module _ {A : Type 0} (name : Site × Data) (o : Child A) (os : List (Child A)) where
  after-splits : (p : Option (Partner A)) → IfFound (Some name) os p → IfFound (Some name) (o ∷ os) (found_after o p)
  after-splits None h = tt
  after-splits (Some p) h = record { whole = ap (λ (ks : List (Child A)). o ∷ ks) h.whole; named = h.named }

  here-splits : (b : Bool) → has_name name o ≡ b → IfFound (Some name) (o ∷ os) (found_here b o os)
  here-splits false e = tt
  here-splits true e = record { whole = refl; named = e }

  else-splits : (p q : Option (Partner A)) → IfFound (Some name) (o ∷ os) p → IfFound (Some name) (o ∷ os) q
      → IfFound (Some name) (o ∷ os) (or_else p q)
  else-splits None q h k = k
  else-splits (Some p) q h k = h

named-splits : {A : Type 0} (name : Site × Data) (os : List (Child A)) → IfFound (Some name) os (last_named name os)
named-splits name [] = tt
named-splits name (o ∷ os) =
    else-splits name o os (found_after o (last_named name os)) (found_here (has_name name o) o os)
    (after-splits name o os (last_named name os) (named-splits name os)) (here-splits name o os (has_name name o) refl)

pub partner-splits : {A : Type 0} (name : Option (Site × Data)) (os : List (Child A)) → IfFound name os (partner name os)
partner-splits None os = tt
partner-splits (Some name) os = named-splits name os
