use Rattle.cl_outside.proofs.Untold.{CutShort-untold, some-mended}
use Rattle.cl_outside.proofs.mem_device.MemDeviceDevice.clear.Goals as goal

pub returns-then-next_fails-clause-sends : goal.returns-then-next_fails-clause-sends
returns-then-next_fails-clause-sends c =
    rw (← c.self.view_is, c.fail.ensures.answer) (CutShort-untold _ _ _ (some-mended c.self.inside.broken _ _) c.fail.ensures.count)
