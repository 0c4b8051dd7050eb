use Rattle.std.proofs.Common.{arith}
use Rattle.cl_outside.proofs.Spans.{Paints-told}
use Rattle.cl_outside.proofs.Untold.{CutShort-untold}
use Rattle.cl_outside.proofs.mem_device.MemDeviceDevice.span.Goals as goal

pub returns-then-y-self-clause-shows : goal.returns-then-y-self-clause-shows
returns-then-y-self-clause-shows c =
    rw (← c.self.view_is) (Paints-told c.self.inside.cleared c.self.inside.broken _ _ c.args.x c.args.y c.args.ink c.args.glyphs.now c.if-self.true (rw (← c.self.view_is) at c.requires.whole) (c.paint_row.ensures c.self.inside.height))

pub returns-then-next_fails-clause-sends : goal.returns-then-next_fails-clause-sends
returns-then-next_fails-clause-sends c = rw (← c.self.view_is, c.fail.ensures.answer) (CutShort-untold _ _ _ (omega arith) c.fail.ensures.count)
