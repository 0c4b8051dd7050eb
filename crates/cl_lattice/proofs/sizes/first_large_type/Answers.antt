use Rattle.std.proofs.Common.{◌≡◌, ◌∙◌, sym, ap, true, Option, List, ℕ}
use Rattle.cl_syntax.specs.TypeSpecTree.{TypeSpecTree}
use Rattle.cl_lattice.specs.Firsts.{InheritsTooMuch, is_past, offset_of}
use Rattle.cl_lattice.specs.RingSearch.{inherited}
use Rattle.cl_lattice.proofs.BuildingEntries.{next_entry}
use Rattle.cl_lattice.proofs.BuildingFirsts.{first_goes_on, first_stops}
use Rattle.cl_lattice.proofs.sizes.first_large_type.Goals as goal

pub returns-then-is_past : goal.returns-then-is_past
returns-then-is_past c =
    let e = next_entry c.args.types.now c.loop-place.place c.in-Some.decl.now c.in-Some.ensures in
    let is : c.is_past.result ≡ is_past c.args.known.now (inherited c.args.known.now c.in-Some.decl.now.name) =
    c.is_past.ensures ∙ ap (λ (s : Option TypeSpecTree). is_past c.args.known.now s) (c.inherited.ensures ∙ ap (λ (x : List ℕ). inherited c.args.known.now x) c.as_slice.ensures) in
    first_stops (InheritsTooMuch c.args.known.now) offset_of c.args.types.now c.loop-place.place (e.0, c.in-Some.decl.now) e.1 (sym is ∙ c.if-is_past.true) c.loop-place.invariant

pub loop-place-preserved : goal.loop-place-preserved
loop-place-preserved c =
    let e = next_entry c.args.types.now c.loop-place.place c.in-Some.decl.now c.in-Some.ensures in
    let is : c.is_past.result ≡ is_past c.args.known.now (inherited c.args.known.now c.in-Some.decl.now.name) =
    c.is_past.ensures ∙ ap (λ (s : Option TypeSpecTree). is_past c.args.known.now s) (c.inherited.ensures ∙ ap (λ (x : List ℕ). inherited c.args.known.now x) c.as_slice.ensures) in
    first_goes_on (InheritsTooMuch c.args.known.now) offset_of c.args.types.now c.loop-place.place (e.0, c.in-Some.decl.now) e.1
    (λ past. let yes : c.is_past.result ≡ true = is ∙ past in cc)
    c.loop-place.invariant
