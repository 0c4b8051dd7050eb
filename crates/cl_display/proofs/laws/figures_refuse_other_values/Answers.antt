use Rattle.cl_display.proofs.FigureLemmas.{refused-figure}
use Rattle.cl_display.proofs.laws.figures_refuse_other_values.Goals as goal

pub returns : goal.returns
returns c = refused-figure
