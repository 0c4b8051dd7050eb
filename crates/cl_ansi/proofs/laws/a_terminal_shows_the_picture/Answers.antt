use Rattle.cl_ansi.proofs.Screens.{clears_blank, spans_paint}
use Rattle.cl_ansi.proofs.laws.a_terminal_shows_the_picture.Goals as goal

pub returns-clause-clears : goal.returns-clause-clears
returns-clause-clears c = clears_blank

pub returns-clause-spans : goal.returns-clause-spans
returns-clause-spans c = spans_paint
