use Rattle.std.proofs.Common.{◌≡◌, ◌∙◌, sym}
use Rattle.cl_eval.specs.Meaning.{means}
use Rattle.cl_eval.specs.Outcome.{Gives}
use Rattle.cl_eval.proofs.LimitLemmas.{goes-means}
use Rattle.cl_eval.proofs.SameLemmas.{same-whole}
use Rattle.cl_eval.proofs.laws.read_values_alone_matter.Goals as goal

pub returns-clause-same_limits : goal.returns-clause-same_limits
returns-clause-same_limits c = λ depth budget level app t slots env other_slots other_env agree cost reach.
    λ i. same-whole app slots other_slots depth budget level env other_env t (λ p n h. agree p (record { calls = n; reads = h })) i cost reach

pub returns-clause-other_limits : goal.returns-clause-other_limits
returns-clause-other_limits c = λ depth budget other_depth other_budget level app t slots env other_slots other_env agree from below d cost reach ends cheap shallow.
    let same : means depth budget app slots level env t ≡ means depth budget app other_slots level other_env t =
    same-whole app slots other_slots depth budget level env other_env t (λ p n h. agree p (record { calls = n; reads = h })) in
    let second : means depth budget app other_slots level other_env t from below ≡ Gives d cost reach = sym (λ i. same i from below) ∙ ends in
    (goes-means depth budget other_depth other_budget app other_slots level other_env t from below d cost reach second).same cheap shallow
