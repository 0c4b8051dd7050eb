use Rattle.std.proofs.Common.{◌≡◌, ◌∙◌, ap, sym, ◌+◌, Ok}
use Rattle.cl_medium.specs.Items.{move_item}
use Rattle.cl_record.specs.Heads.{HeadAt, MeasuresAt, measures_of}
use Rattle.cl_record.specs.Marks.{marks_of}
use Rattle.cl_record.specs.Trees.{trees_of, update}
use Rattle.cl_display.specs.Drawings.{PartAt, join_parts, part_of}
use Rattle.cl_updating.specs.Putting.{cursor_at_end, measured_part}
use Rattle.cl_updating.proofs.KeepingLemmas.{came-part, part-piece}
use Rattle.cl_updating.proofs.keeping.put_piece.Goals as goal

pub returns : goal.returns
returns c =
    let piece = c.args.piece in
    let drawing = c.args.drawing.now in
    let marks = marks_of move_item (update piece.head piece.place (trees_of piece.inside)) in
    let measures : measures_of c.measures-measures.result ≡ piece.head.measures = c.measures-measures.ensures ∙ ap (λ (h : HeadAt). h.measures) c.head.ensures in
    let end = c.end_cursor-end.ensures ∙ (λ i. cursor_at_end (c.place-by.ensures i) (measures i) drawing.ambient) in
    let weight = ap (λ (m : MeasuresAt). drawing.weight + m.weight) measures in
    let put = came-part _ _ c.in_ok-put_record.ensures in
    let inner = (λ i. measured_part (c.place-by.ensures i) (measures i) marks) ∙ part-piece piece.head piece.place (trees_of piece.inside) in
    let part = sym put ∙ ap (λ (p : PartAt). join_parts (part_of drawing.part) p) inner in
    sym (λ i. Ok (record { ambient = end i; weight = weight i; siblings = drawing.siblings; part = part i }))
