use Rattle.cl_redisplay.specs.Paint.{pane_cell}
use Rattle.cl_redisplay.proofs.TouchedPictures.{touched-whole}
use Rattle.cl_redisplay.proofs.laws.all_touched_is_the_whole_area.Goals as goal

pub returns : goal.returns
returns c = λ area marks. touched-whole (pane_cell area marks) area
