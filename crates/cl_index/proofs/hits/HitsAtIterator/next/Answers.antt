use Rattle.std.proofs.Common.{◌∙◌, ap, arith, length, rules, sym}
use Rattle.std.proofs.lemmas.Int.{to_z-of_z}
use mir.Syntax.{w64}
use mir.Val.{SFits}
use Rattle.cl_index.specs.Found.{is_at}
use Rattle.cl_index.proofs.Walked.{next_before}
use Rattle.cl_index.proofs.hits.HitsAtIterator.next.Goals as goal

pub returns-clause-steps : goal.returns-clause-steps
returns-clause-steps c =
    let x = c.self.inside.x in
    let y = c.self.inside.y in
    let a : SFits w64 x = search rules in
    let b : SFits w64 y = search rules in
    let found = rw (to_z-of_z w64 x a, to_z-of_z w64 y b) at (sym c.in_ok-place.ensures) in
    sym c.self.view_is ∙ next_before (is_at x y) c.self.inside.end c.self.inside.bounds.now c.in_ok-place.place found

pub returns-clause-goes : goal.returns-clause-goes
returns-clause-goes c = record {
  on = λ e. (tt, tt, omega (arith, ap length (returns-clause-steps c)));
  keeps = tt;
  rests = λ e. tt;
}
