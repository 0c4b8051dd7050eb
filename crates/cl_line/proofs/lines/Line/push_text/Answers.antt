use Rattle.std.proofs.Common.{refl, ap, arith, length, length-append}
use Rattle.cl_line.specs.Elements.{typed}
use Rattle.cl_line.proofs.TypedLemmas.{length-typed}
use Rattle.cl_line.proofs.lines.Line.push_text.Goals as goal

pub returns-then-text-len : goal.returns-then-text-len
returns-then-text-len c =
    let whole = length-append c.args.self.now (typed c.args.text.now) in
    (refl, omega (arith, whole, length-typed c.args.text.now, ap length c.self.view_is, c.len.ensures, c.if-text-len.true))
