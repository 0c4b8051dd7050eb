use Rattle.std.proofs.Common.{arith}
use Rattle.cl_ansi.proofs.Pictures.{span_sent}
use Rattle.cl_ansi.proofs.Untold.{Sends-untold}
use Rattle.cl_ansi.proofs.ansi_device.AnsiDeviceDevice.span.Goals as goal

pub returns-clause-sends : goal.returns-clause-sends
returns-clause-sends g c = Sends-untold c.send_shown.result _ _ _ (omega arith) c.send_shown.ensures.cause

pub returns-clause-shows : goal.returns-clause-shows
returns-clause-shows g c =
    span_sent c.args.self.now c.send_shown.new.self c.args.x c.args.y c.args.ink c.args.glyphs.now c.send_shown.result (omega arith) (omega arith)
    c.requires.span c.requires.whole c.send_shown.ensures
