use Rattle.std.proofs.Common.{◌≡◌, ◌+◌, ◌*◌, [], drop, true}
use Rattle.cl_value.specs.Value.{parts_of}
use Rattle.cl_lattice.specs.Expanded.{weight, weight_all}
use Rattle.cl_lattice.specs.MemberRows.{parts_under}
use Rattle.cl_lattice.specs.Weights.{first_weight}
use Rattle.cl_ptext.specs.Presenting.{declared_in, expanded, inherited_by, parts_in, standard_in, text_by}
use Rattle.cl_ptext.specs.Texts.{each_joined}
use Rattle.cl_ptext.proofs.writing.Presenter.+text.Given as goal

abbrev pub decreases-write : goal.decreases-write
decreases-write g l = 4 * weight (expanded l.self.now.book.now l.bound.now l.spec.now) + 2

abbrev pub decreases-write_standard : goal.decreases-write_standard
decreases-write_standard g l = 4 * weight (standard_in l.self.now.book.now l.standard [] l.bound.now l.spec.now) + 1

abbrev pub decreases-write_declared : goal.decreases-write_declared
decreases-write_declared g l = 4 * weight (declared_in l.self.now.book.now l.bound.now l.spec.now) + 1

abbrev pub decreases-write_user : goal.decreases-write_user
decreases-write_user g l = 4 * weight (inherited_by l.self.now.book.now l.bound.now l.spec.now l.user.now) + 3

abbrev pub decreases-write_sequence : goal.decreases-write_sequence
decreases-write_sequence g l = 4 * first_weight (parts_in l.self.now.book.now l.bound.now l.spec.now) + 4

abbrev pub decreases-write_joined : goal.decreases-write_joined
decreases-write_joined g l = 4 * weight (expanded l.self.now.book.now l.bound.now l.joint.now.inner.now) + 3

abbrev pub decreases-write_some : goal.decreases-write_some
decreases-write_some g l = 4 * weight_all (parts_under l.self.now.book.now.lattice.now l.bound.now l.args.now) + 3

abbrev pub decreases-write_first : goal.decreases-write_first
decreases-write_first g l = 4 * weight_all (parts_under l.self.now.book.now.lattice.now l.bound.now l.args.now) + 3

abbrev pub decreases-write_beside : goal.decreases-write_beside
decreases-write_beside g l = 4 * first_weight (parts_in l.self.now.book.now l.bound.now l.spec.now) + 3

abbrev pub invariant-write_joined-loop-value : goal.invariant-write_joined-loop-value
invariant-write_joined-loop-value g l = record {
  text : each_joined l.first l.joint.separator (text_by g.H.Hosts.entries l.self (expanded l.self.book.now l.bound l.joint.inner.now) l.joint.inner.now) (parts_of (drop l.value-index l.values))
      l.writing.bytes.items l.writing.meter.cost l.writing.meter.deepest
      ≡ each_joined true l.joint.separator (text_by g.H.Hosts.entries l.self (expanded l.self.book.now l.bound l.joint.inner.now) l.joint.inner.now) (parts_of l.values)
      l.initial.writing.bytes.items l.initial.writing.meter.cost l.initial.writing.meter.deepest;
  ledger : l.steps + l.initial.writing.meter.cost ≡ l.initial.steps + l.writing.meter.cost;
}
