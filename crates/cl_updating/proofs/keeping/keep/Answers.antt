use Rattle.std.proofs.Common.{◌≡◌, ◌∙◌, ap, sym, subst, refl, Ok}
use Rattle.cl_region.specs.Places.{IsInRange, move_rect}
use Rattle.cl_region.specs.declared.rects.Shift.{Shift}
use Rattle.cl_medium.specs.Items.{Item, move_item}
use Rattle.cl_eval.specs.Agrees.{Comes, always}
use Rattle.cl_record.specs.Branches.{UpdateAt}
use Rattle.cl_record.specs.Heads.{HeadAt, move_head}
use Rattle.cl_record.specs.Marks.{history_marks}
use Rattle.cl_display.specs.Drawings.{drawing_of}
use Rattle.cl_display.specs.Updates.{key_of, leave_update}
use Rattle.cl_reuse.specs.Keeping.{kept_part, shift_at}
use Rattle.cl_updating.specs.Openings.{opening_of}
use Rattle.cl_updating.proofs.KeepingLemmas.{head-kept, range-kept}
use Rattle.cl_updating.proofs.keeping.keep.Goals as goal

pub copy_at-requires : goal.copy_at-requires
copy_at-requires c =
    let head = c.args.old.now.piece.now.head in
    subst (λ (v : Shift). IsInRange (move_rect v head.measures.extent)) (sym c.shift-by.ensures) (range-kept head (opening_of c.args.opening.now) c.requires.kept)

pub put_piece-requires-clause-range : goal.put_piece-requires-clause-range
put_piece-requires-clause-range c =
    let head = c.args.old.now.piece.now.head in
    subst (λ (p : UpdateAt Item). IsInRange (move_rect p.place p.head.measures.extent)) (sym c.in_ok-copy_at.ensures)
    (subst (λ (v : Shift). IsInRange (move_rect v head.measures.extent)) (sym c.shift-by.ensures) (range-kept head (opening_of c.args.opening.now) c.requires.kept))

pub returns : goal.returns
returns c =
    let old = c.args.old.now.piece.now in
    let key = key_of c.args.opening.now.key.now in
    let piece : c.in_ok-copy_at.field-0 ≡ record old { place = shift_at old.head (opening_of c.args.opening.now) } =
    c.in_ok-copy_at.ensures ∙ ap (λ (v : Shift). record old { place = v }) c.shift-by.ensures in
    let head = head-kept (shift_at old.head (opening_of c.args.opening.now)) key old.head (opening_of c.args.opening.now) c.requires.same refl c.requires.kept in
    subst (λ (h : HeadAt). Comes (always (drawing_of c.put_piece.new.drawing)) c.put_piece.result
    (Ok (leave_update h (kept_part (shift_at old.head (opening_of c.args.opening.now)) old.head (history_marks move_item old.inside)) (drawing_of c.args.drawing.now))))
    head
    (subst (λ (p : UpdateAt Item). Comes (always (drawing_of c.put_piece.new.drawing)) c.put_piece.result
    (Ok (leave_update (move_head p.place p.head) (kept_part p.place p.head (history_marks move_item p.inside)) (drawing_of c.args.drawing.now))))
    piece c.put_piece.ensures)
