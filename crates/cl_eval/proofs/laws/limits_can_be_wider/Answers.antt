use Rattle.std.proofs.Common.{◌+◌, ◌≤◌, arith}
use Rattle.cl_eval.proofs.LimitLemmas.{goes-means}
use Rattle.cl_eval.proofs.laws.limits_can_be_wider.Goals as goal

pub returns : goal.returns
returns c = λ depth budget wider_depth wider_budget app slots env t d cost reach p cheap shallow.
    let within : reach ≤ 0 + wider_depth = omega (arith, shallow) in
    (goes-means depth budget wider_depth wider_budget app slots 0 env t 0 0 d cost reach p).same cheap within
