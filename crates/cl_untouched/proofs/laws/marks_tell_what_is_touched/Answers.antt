use Rattle.std.proofs.Common.{ap}
use Rattle.cl_damage.specs.Keeps.{Keeps}
use Rattle.cl_untouched.specs.Among.{if_ended}
use Rattle.cl_untouched.proofs.ToldKeeps.{keeps-told, touched-told}
use Rattle.cl_untouched.proofs.laws.marks_tell_what_is_touched.Goals as goal

pub returns-clause-kept : goal.returns-clause-kept
returns-clause-kept c = λ old drawn. ap (λ (ks : Keeps). if_ended drawn.outcome ks) (keeps-told old drawn.walk)

pub returns-clause-touched : goal.returns-clause-touched
returns-clause-touched c = touched-told
