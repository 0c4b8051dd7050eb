use Rattle.std.proofs.Common.{arith}
use Rattle.std.proofs.lemmas.Bool.Decides.{nat_tests}
use Rattle.cl_outside.specs.Play.{op_of}
use Rattle.cl_raster.proofs.Readings.{no_other-bytes}
use Rattle.cl_raster.proofs.Replays.{acts_other}
use Rattle.cl_raster.proofs.playing.act.Goals.{in_default-via-then-line-lt2, in_default-via-else-line-lt2+in-67+in_default-1, in_default-via-else-line-lt2+in-83+in_default-1, in_default-via-else-line-lt2+in_default-1}
use Rattle.cl_raster.proofs.playing.act.Goals as goal

pub returns-in_default : goal.returns-in_default
returns-in_default c =
    acts_other c.args.shown (op_of c.args.line.now)
    (no_other-bytes c.args.line.now
    (λ long letter space. elim c.in_default.branch [
      | in_default-via-then-line-lt2 w ↦ grind (arith, nat_tests)
      | in_default-via-else-line-lt2+in-67+in_default-1 w ↦ grind (arith, nat_tests)
      | in_default-via-else-line-lt2+in-83+in_default-1 w ↦ grind (arith, nat_tests)
      | in_default-via-else-line-lt2+in_default-1 w ↦ grind (arith, nat_tests)
    ])
    (λ long letter space. elim c.in_default.branch [
      | in_default-via-then-line-lt2 w ↦ grind (arith, nat_tests)
      | in_default-via-else-line-lt2+in-67+in_default-1 w ↦ grind (arith, nat_tests)
      | in_default-via-else-line-lt2+in-83+in_default-1 w ↦ grind (arith, nat_tests)
      | in_default-via-else-line-lt2+in_default-1 w ↦ grind (arith, nat_tests)
    ]))
