use Rattle.cl_raster.proofs.Readings.{begins_none-number, begins_none-space}
use Rattle.cl_raster.proofs.lines.leading_numeral.Goals as goal

pub returns-in_err-front : goal.returns-in_err-front
returns-in_err-front c = rw c.from_residual.ensures (begins_none-space c.args.text.now c.in_err-front.ensures)

pub returns-in_err-numeral : goal.returns-in_err-numeral
returns-in_err-numeral c =
    rw c.from_residual-in_err-numeral.ensures
    (begins_none-number c.args.text.now c.in_ok-front.front.now c.in_ok-front.rest.now c.in_ok-front.ensures c.in_err-numeral.ensures)
