use Rattle.cl_region.proofs.Cuts.{added_holds, added_pieces}
use Rattle.cl_region.proofs.Joins.{put_in_holds, put_in_pieces, some_piece}
use Rattle.cl_region.proofs.regions.Region.add.Goals as goal

pub put_in-requires : goal.put_in-requires
put_in-requires c = (
  some_piece c.args.rect c.is_empty.result c.is_empty.ensures.cells c.if-is_empty.false,
  rw (← c.as_slice.ensures.value) (c.is_apart.ensures.0 c.if-is_apart.true),
  c.self.invariant,
)

pub returns-then-is_apart-clause-cells : goal.returns-then-is_apart-clause-cells
returns-then-is_apart-clause-cells c = rw (← c.self.view_is) (put_in_holds c.put_in.result c.args.rect c.self.inside.rects.items
    c.put_in.new.rects.items c.put_in.ensures.pieces)

pub invariant_of-self : goal.invariant_of-self
invariant_of-self c =
    put_in_pieces c.put_in.result c.args.rect c.self.inside.rects.items c.put_in.new.rects.items
    c.put_in.ensures.pieces c.put_in.ensures.unchanged c.self.invariant

pub invariant_of-self-2 : goal.invariant_of-self-2
invariant_of-self-2 c =
    rw (c.in_ok-extend_from_slice.ensures.items, c.as_slice-3.ensures.value)
    (added_pieces c.self.inside.rects.items c.in_ok-new.new.items c.args.rect
    (rw (← c.as_slice-2.ensures.value) c.in_ok-new.ensures.cells) c.self.invariant c.in_ok-new.ensures.pieces)

pub returns-clause-cells : goal.returns-clause-cells
returns-clause-cells c =
    λ x y. rw (c.in_ok-extend_from_slice.ensures.items, c.as_slice-3.ensures.value, ← c.self.view_is)
    (added_holds c.self.inside.rects.items c.in_ok-new.new.items c.args.rect (rw (← c.as_slice-2.ensures.value) c.in_ok-new.ensures.cells) x y)
