use Rattle.std.proofs.Common.{◌∙◌, ap, arith, length, sym}
use Rattle.cl_index.specs.Found.{overlaps}
use Rattle.cl_index.proofs.Walked.{next_after}
use Rattle.cl_index.proofs.hits.HitsIterator.next.Goals as goal

pub overflow_add-self : goal.overflow_add-self
overflow_add-self c =
    let v = next_after (overlaps c.self.inside.rect) c.self.inside.from c.self.inside.bounds.now c.in_ok-place.place (sym c.in_ok-place.ensures.first) in
    omega (arith, v.0, c.in_ok-place.ensures.inside)

pub returns-clause-steps : goal.returns-clause-steps
returns-clause-steps c =
    let v = next_after (overlaps c.self.inside.rect) c.self.inside.from c.self.inside.bounds.now c.in_ok-place.place (sym c.in_ok-place.ensures.first) in
    sym c.self.view_is ∙ v.1

pub returns-clause-goes : goal.returns-clause-goes
returns-clause-goes c = record {
  on = λ e. (tt, tt, omega (arith, ap length (returns-clause-steps c)));
  keeps = tt;
  rests = λ e. tt;
}
