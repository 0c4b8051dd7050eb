use Rattle.cl_ptext.specs.TextLaws.{kept_text}
use Rattle.cl_ptext.proofs.laws.texts_keep_to_their_limits.Goals as goal

pub returns : goal.returns
returns c = kept_text
