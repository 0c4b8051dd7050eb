use Rattle.std.proofs.Common.{[], ◌∷◌, List, false, length, subst}
use Rattle.std.specs.Prelude.{◌||◌}
use Rattle.cl_lattice.specs.Arguments.{given_by}
use Rattle.cl_lattice.specs.Expanded.{Expanded}
use Rattle.cl_lattice.specs.SubtypeHeads.{head_type}
use Rattle.cl_lattice.specs.SubtypeRows.{KnownTells, row_of}
use Rattle.cl_lattice.specs.Subtypes.{IsSubtype}
use Rattle.cl_lattice.proofs.SubtypeFillLemmas.{adds_none, alone_agrees, alone_parts, finish_alone, own_tells, put_told}
use Rattle.cl_lattice.proofs.lattices.Lattice.fill_alone.Goals as goal

pub returns : goal.returns
returns c =
    let a = head_type c.args.self.now (given_by c.args.bound.now) c.args.first.now in
    let t = head_type c.args.self.now [] c.args.second.now in
    let f = row_of c.args.known.now.firsts.now in
    let rs = c.args.known.now.inner.now in
    let x = c.args.out.now.items in
    let ready : KnownTells a (t ∷ []) (length x) f rs = subst (λ (v : List Expanded). KnownTells a v (length x) f rs) (alone_parts t c.requires.alone) c.requires.known in
    let own = c.at-own.ensures a t [] (own_tells a t (IsSubtype a) [] x x f rs c.count.result ready (adds_none (IsSubtype a) x) c.count.ensures) in
    let heads = c.heads_meet-heads.ensures (alone_agrees a t false c.requires.alone) in
    put_told a t x x c.put.new.answers.items (c.heads_meet-heads.result || c.at-own.result) c.or.result c.put.result c.or.ensures c.put.ensures.same c.put.ensures.grown
    (finish_alone a t x c.heads_meet-heads.result c.at-own.result c.requires.alone heads own)
