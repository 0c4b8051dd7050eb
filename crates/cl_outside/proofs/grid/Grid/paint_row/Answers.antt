use Rattle.std.proofs.Common.{ℕ, length, take, subst}
use Rattle.cl_outside.specs.MemoryDevice.{IsPut, IsFilled}
use Rattle.cl_outside.proofs.Spans.{IsPainted-stretch}
use Rattle.cl_outside.proofs.grid.Grid.paint_row.Goals as goal

pub returns : goal.returns
returns c = λ height.
    let values = take c.min-count.result c.args.glyphs.now in
    IsPainted-stretch c.args.self.now c.paint.new.self c.args.x c.args.y c.args.ink c.args.width height c.min-count.result c.args.glyphs.now
    (rw c.from.ensures at c.min-count.ensures) c.requires.column c.requires.width
    (subst (λ (n : ℕ). IsPut c.args.self.now.glyphs c.paint.new.self.glyphs n values) c.place.ensures c.paint.ensures.glyphs)
    (subst (λ (n : ℕ). IsFilled c.args.self.now.inks c.paint.new.self.inks n (length values) c.args.ink) c.place.ensures c.paint.ensures.inks)
