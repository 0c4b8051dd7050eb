use Rattle.std.proofs.lemmas.Bool.{false≢true}
use Rattle.std.proofs.Common.{refl}
use Rattle.cl_raster.proofs.Readings.{is_clear, no_clear-height, no_clear-size, no_clear-width}
use Rattle.cl_raster.proofs.lines.read_clear.Goals as goal

pub returns-in_err-width : goal.returns-in_err-width
returns-in_err-width c = rw c.from_residual.ensures (no_clear-width c.args.text.now c.in_err-width.ensures)

pub returns-in_err-height : goal.returns-in_err-height
returns-in_err-height c =
    rw c.from_residual-in_err-height.ensures
    (no_clear-height c.args.text.now c.in_ok-width.text.now c.in_ok-width.width c.in_ok-width.ensures.0 c.in_ok-width.ensures.1 c.in_err-height.ensures)

pub returns-then-is_size : goal.returns-then-is_size
returns-then-is_size c =
    let size = c.if-is_size.ensures.0 refl in
    (is_clear c.args.text.now c.in_ok-width.text.now c.in_ok-width.width c.in_ok-height.height c.in_ok-width.ensures.1 c.in_ok-height.ensures.1 size, size)

pub returns : goal.returns
returns c =
    no_clear-size c.args.text.now c.in_ok-width.text.now c.in_ok-width.width c.in_ok-height.height c.in_ok-width.ensures.0 c.in_ok-height.ensures.0
    c.in_ok-width.ensures.1 c.in_ok-height.ensures.1 (λ size. false≢true (c.if-is_size.ensures.1 size))
