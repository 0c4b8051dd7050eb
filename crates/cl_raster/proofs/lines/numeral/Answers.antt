use Rattle.std.proofs.lemmas.Bool.{false≢true}
use Rattle.cl_raster.proofs.Readings.{no_number-bytes, no_number-other, no_number-text}
use Rattle.cl_raster.proofs.lines.numeral.Goals as goal

pub returns-in_default : goal.returns-in_default
returns-in_default c = no_number-bytes c.args.text.now c.in_default.ensures.cases.0

pub returns-in_default-parse : goal.returns-in_default-parse
returns-in_default-parse c =
    no_number-text c.args.text.now c.in-Ok.digits.now c.in_default-parse.field-0 c.in-Ok.ensures.cases.0 c.in_default-parse.ensures.value.0

pub returns : goal.returns
returns c =
    no_number-other c.args.text.now c.in-Ok.digits.now c.in-Ok-parse.number c.in-Ok.ensures.cases.0 c.in-Ok-parse.ensures.value.0
    (λ e. false≢true (c.if-is_spelled.ensures.1 e))
