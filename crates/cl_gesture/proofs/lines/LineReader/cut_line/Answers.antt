use Rattle.std.proofs.Common.{take, arith}
use Rattle.std.proofs.lemmas.List.{length-take-le}
use Rattle.cl_gesture.proofs.Cutting.{ended-short}
use Rattle.cl_gesture.proofs.lines.LineReader.cut_line.Goals as goal

-- src/lines.rt:131:30
pub overflow_add-self : goal.overflow_add-self
overflow_add-self g c =
    let ahead = c.next_cut.new.ahead in let n = c.in-Line.length in
    let short = ended-short c.in-Line.ensures.cut.1.read (take n ahead) c.in-Line.ensures.cut.1.cut.0 in
    omega (arith, short, length-take-le n ahead (omega (arith, c.in-Line.ensures.cut.0)))
