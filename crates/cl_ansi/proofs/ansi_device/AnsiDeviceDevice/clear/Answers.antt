use Rattle.std.proofs.Common.{refl, subst, sym}
use Rattle.cl_outside.specs.declared.answers.Sent.TheVariants.{Done, Failed}
use Rattle.cl_outside.proofs.Untold.{some-mended}
use Rattle.cl_ansi.specs.Sequences.{clear_bytes}
use Rattle.cl_ansi.specs.Terminal.{Terminal, Writes}
use Rattle.cl_ansi.proofs.Pictures.{cleared_blank, cleared_whole}
use Rattle.cl_ansi.proofs.Untold.{Sends-untold}
use Rattle.cl_ansi.proofs.ansi_device.AnsiDeviceDevice.clear.Goals as goal

pub returns-in-Failed-clause-sends : goal.returns-in-Failed-clause-sends
returns-in-Failed-clause-sends g c = Sends-untold Failed _ _ _ (some-mended c.args.self.now.broken _ _) c.in-Failed.ensures.cause

pub returns-in-Done-clause-shows : goal.returns-in-Done-clause-shows
returns-in-Done-clause-shows g c = (
  cleared_blank c.args.self.now _ c.args.width c.args.height
      (subst (λ (t : Terminal). Writes c.args.self.now t clear_bytes Done) (sym c.self.view_is) c.in-Done.ensures),
  refl,
  refl,
)

pub returns-in-Done-clause-clears : goal.returns-in-Done-clause-clears
returns-in-Done-clause-clears g c =
    cleared_whole c.args.self.now _ c.args.width c.args.height
    (subst (λ (t : Terminal). Writes c.args.self.now t clear_bytes Done) (sym c.self.view_is) c.in-Done.ensures)
