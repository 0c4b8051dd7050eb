use Rattle.cl_ptext.specs.TextLaws.{same_slots}
use Rattle.cl_ptext.proofs.laws.texts_see_what_methods_name.Goals as goal

pub returns : goal.returns
returns c = same_slots
