use Rattle.cl_cover.proofs.CoverLemmas.{covered_values, none_is_all, some_is_read}
use Rattle.cl_cover.proofs.laws.covered_paths_are_begun.Goals as goal

pub returns-clause-none : goal.returns-clause-none
returns-clause-none c = none_is_all

pub returns-clause-some : goal.returns-clause-some
returns-clause-some c = some_is_read

pub returns-clause-values : goal.returns-clause-values
returns-clause-values c = covered_values
