use Rattle.cl_reuse.proofs.DrawLemmas.{same-forms}
use Rattle.cl_reuse.proofs.laws.read_values_alone_matter_to_displays.Goals as goal

pub returns : goal.returns
returns c = λ depth allowed level app types forms slots env other_slots other_env sees agree s cost deepest.
    λ i. same-forms app slots other_slots types sees depth allowed level env other_env forms agree s i cost deepest
