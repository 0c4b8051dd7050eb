use Rattle.std.proofs.Common.{sym, subst}
use Rattle.cl_record.specs.Branches.{UpdateAt}
use Rattle.cl_record.specs.Ranges.{StaysInRange}
use Rattle.cl_record.specs.Trees.{update, trees_of}
use Rattle.cl_record.proofs.Ranges.{moves-piece}
use Rattle.cl_record.proofs.branches.Piece.shift.Goals as goal

pub join_shifts-self-inside-requires : goal.join_shifts-self-inside-requires
join_shifts-self-inside-requires g c =
    let body = c.self.inside.body.value in
    let fits = subst (λ (s : UpdateAt _). StaysInRange g.L.Leaf.bounds g.L.Leaf.moved_by c.args.by (update s.head s.place (trees_of s.inside))) (sym c.self.view_is) c.requires in
    (moves-piece g.L.Leaf.bounds g.L.Leaf.moved_by g.met.L.Leaf.moves_bounds c.args.by c.self.inside.place body.head (trees_of body.inside) c.self.invariant.sound fits).shift

pub invariant_of-self : goal.invariant_of-self
invariant_of-self g c =
    let body = c.self.inside.body.value in
    let fits = subst (λ (s : UpdateAt _). StaysInRange g.L.Leaf.bounds g.L.Leaf.moved_by c.args.by (update s.head s.place (trees_of s.inside))) (sym c.self.view_is) c.requires in
    rw c.join_shifts-self-inside.ensures
    (record { sound = (moves-piece g.L.Leaf.bounds g.L.Leaf.moved_by g.met.L.Leaf.moves_bounds c.args.by c.self.inside.place body.head (trees_of body.inside) c.self.invariant.sound fits).sound })
