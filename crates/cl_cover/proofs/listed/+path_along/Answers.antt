use Rattle.cl_cover.proofs.ListedLemmas.{none_of_many}
use Rattle.cl_cover.proofs.listed.+path_along.Goals as goal

pub path_taken-returns-in-len2-up : goal.path_taken-returns-in-len2-up
path_taken-returns-in-len2-up t c = none_of_many c.args.field.now c.args.parts.now c.args.along.now c.in-len2-up.len_at_least
