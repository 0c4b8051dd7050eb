use Rattle.cl_faults.proofs.FirstFault.{faults_stand_in_their_form}
use Rattle.cl_faults.proofs.laws.faults_stand_in_their_form.Goals as goal

pub returns : goal.returns
returns c w d s notes n o e = faults_stand_in_their_form w d s notes n o e
