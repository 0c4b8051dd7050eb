use Rattle.std.proofs.Common.{◌≡◌, ◌≤◌, ◌-◌, length, take, drop, arith, ap, ◌∙◌}
use Rattle.std.proofs.lemmas.List.{length-take}
use Rattle.cl_gesture.proofs.Buffer.{drop_part}
use Rattle.cl_gesture.proofs.ahead.Ahead.skip.Goals as goal

pub returns : goal.returns
returns c =
    let s = c.self.inside in let n = c.args.count in let part = take (s.end - s.start) (drop s.start s.bytes.items) in
    let same : length part ≡ length c.args.self.now = ap length c.self.view_is in
    let short : n ≤ s.end - s.start = omega (arith, length-take (s.end - s.start) (drop s.start s.bytes.items)) in
    drop_part n s.start s.end s.bytes.items short ∙ ap (drop n) c.self.view_is
