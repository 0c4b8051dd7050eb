use Rattle.std.proofs.Common.{ℕ, Option, inl, inr, subst}
use Rattle.cl_lattice.specs.Firsts.{IsFirst, IsTooLarge, InheritsTooMuch, offset_of}
use Rattle.cl_lattice.proofs.BuildingLemmas.{ring_found}
use Rattle.cl_lattice.proofs.building.check.Goals as goal

pub returns-in-Some-first_large : goal.returns-in-Some-first_large
returns-in-Some-first_large c = (
  ring_found c.args.decls.now c.args.known.now c.in_ok-at.field-0 c.requires c.in_default.is c.in_ok-at.ensures,
  inl (subst (λ (o : Option ℕ). IsFirst (IsTooLarge c.args.known.now) (λ p. p.at) c.args.decls.now.specs.now o) c.in-Some-first_large.is c.first_large.ensures),
)

pub returns-in-Some-first_large_type : goal.returns-in-Some-first_large_type
returns-in-Some-first_large_type c = (
  ring_found c.args.decls.now c.args.known.now c.in_ok-at.field-0 c.requires c.in_default.is c.in_ok-at.ensures,
  inr (
    subst (λ (o : Option ℕ). IsFirst (IsTooLarge c.args.known.now) (λ p. p.at) c.args.decls.now.specs.now o) c.in_default-first_large.is c.first_large.ensures,
    subst (λ (o : Option ℕ). IsFirst (InheritsTooMuch c.args.known.now) offset_of c.args.decls.now.types.now o) c.in-Some-first_large_type.is c.first_large_type.ensures,
  ),
)
