use Rattle.cl_display.proofs.DisplayLemmas.{members-drawn}
use Rattle.cl_display.proofs.laws.what_is_presented_is_a_member.Goals as goal

pub returns : goal.returns
returns c = members-drawn
