use Rattle.std.proofs.Common.{[], List, Bool, length, ap, sym, subst, ◌∙◌}
use Rattle.cl_lattice.specs.Expansion.{expansion}
use Rattle.cl_lattice.specs.SubtypeRows.{TellsAll, parts_of}
use Rattle.cl_lattice.specs.Subtypes.{IsSubtype}
use Rattle.cl_lattice.proofs.SubtypeFillLemmas.{last_tells}
use Rattle.cl_lattice.proofs.lattices.Lattice.subtype.Goals as goal

pub returns-in-Some : goal.returns-in-Some
returns-in-Some c =
    let a = expansion c.args.self.now [] c.args.a.now in
    let u = expansion c.args.self.now [] c.args.b.now in
    let rs = c.as_slice.result.now in
    let told : TellsAll (IsSubtype a) (parts_of u) rs = subst (λ (v : List Bool). TellsAll (IsSubtype a) (parts_of u) v) (sym c.as_slice.ensures.value) c.in-Some.ensures in
    last_tells (IsSubtype a) u rs c.count.result c.answer_before.result told (c.count.ensures ∙ ap length (sym c.as_slice.ensures.value)) c.answer_before.ensures
