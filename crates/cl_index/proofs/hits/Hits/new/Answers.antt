use Rattle.cl_index.proofs.Walked.{all_after}
use Rattle.cl_index.specs.Found.{overlaps}
use Rattle.cl_index.proofs.hits.Hits.new.Goals as goal

pub returns : goal.returns
returns c = all_after (overlaps c.args.rect) c.args.bounds.now
