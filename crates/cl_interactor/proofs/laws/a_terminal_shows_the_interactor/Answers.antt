use Rattle.cl_interactor.proofs.Shown.{all_rows_show}
use Rattle.cl_interactor.proofs.laws.a_terminal_shows_the_interactor.Goals as goal

pub returns : goal.returns
returns c = all_rows_show
