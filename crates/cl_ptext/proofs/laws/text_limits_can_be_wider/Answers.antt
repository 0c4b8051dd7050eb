use Rattle.cl_ptext.specs.TextLaws.{wider_text}
use Rattle.cl_ptext.proofs.laws.text_limits_can_be_wider.Goals as goal

pub returns : goal.returns
returns c = wider_text
