use Rattle.std.proofs.Common.{arith, rules}
use Rattle.std.proofs.lemmas.Int.{to_z-of_z}
use mir.Syntax.{w64}
use mir.Val.{SFits}
use Rattle.cl_index.specs.Found.{is_at}
use Rattle.cl_index.proofs.Walked.{all_before}
use Rattle.cl_index.proofs.hits.HitsAt.new.Goals as goal

pub returns : goal.returns
returns c =
    let a : SFits w64 c.args.x = search rules in
    let b : SFits w64 c.args.y = search rules in
    rw (to_z-of_z w64 c.args.x a, to_z-of_z w64 c.args.y b) (all_before (is_at c.args.x c.args.y) c.len.result c.args.bounds.now (omega (arith, c.len.ensures)))
