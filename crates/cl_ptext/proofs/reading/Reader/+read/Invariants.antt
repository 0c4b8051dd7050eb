use Rattle.std.proofs.Common.{◌≡◌, ◌+◌, ◌*◌, [], map}
use Rattle.std.specs.Prelude.{option_map}
use Rattle.cl_value.specs.Value.{data_of}
use Rattle.cl_lattice.specs.Expanded.{weight, weight_all}
use Rattle.cl_lattice.specs.MemberRows.{parts_under}
use Rattle.cl_lattice.specs.Weights.{first_weight}
use Rattle.cl_ptext.specs.Parts.{pieces, pieces_left}
use Rattle.cl_ptext.specs.Presenting.{declared_in, element_read, expanded, inherited_by, parts_in, standard_in}
use Rattle.cl_ptext.specs.Readings.{each_read}
use Rattle.cl_ptext.proofs.Measures.{element_weight, left_length}
use Rattle.cl_ptext.proofs.reading.Reader.+read.Given as goal

abbrev pub decreases-read : goal.decreases-read
decreases-read g l = 6 * weight (expanded l.self.now.book.now l.bound.now l.spec.now) + 3

abbrev pub decreases-read_row : goal.decreases-read_row
decreases-read_row g l = 6 * weight (expanded l.self.now.book.now l.bound.now l.spec.now) + 2

abbrev pub decreases-read_standard : goal.decreases-read_standard
decreases-read_standard g l = 6 * weight (standard_in l.self.now.book.now l.standard [] l.bound.now l.spec.now) + 1

abbrev pub decreases-read_declared : goal.decreases-read_declared
decreases-read_declared g l = 6 * weight (declared_in l.self.now.book.now l.bound.now l.spec.now) + 1

abbrev pub decreases-read_user : goal.decreases-read_user
decreases-read_user g l = 6 * weight (inherited_by l.self.now.book.now l.bound.now l.spec.now l.user.now) + 4

abbrev pub decreases-read_sequence : goal.decreases-read_sequence
decreases-read_sequence g l = 6 * first_weight (parts_in l.self.now.book.now l.bound.now l.spec.now) + 6

abbrev pub decreases-read_each : goal.decreases-read_each
decreases-read_each g l = 6 * element_weight l.self.now.book.now l.bound.now l.element.now + 5

abbrev pub decreases-read_part : goal.decreases-read_part
decreases-read_part g l = 6 * element_weight l.self.now.book.now l.bound.now l.element.now + 4

abbrev pub decreases-read_some : goal.decreases-read_some
decreases-read_some g l = 6 * weight_all (parts_under l.self.now.book.now.lattice.now l.bound.now l.args.now) + 4

abbrev pub decreases-read_first : goal.decreases-read_first
decreases-read_first g l = 6 * weight_all (parts_under l.self.now.book.now.lattice.now l.bound.now l.args.now) + 4

abbrev pub decreases-read_beside : goal.decreases-read_beside
decreases-read_beside g l = 6 * first_weight (parts_in l.self.now.book.now l.bound.now l.spec.now) + 4

abbrev pub invariant-read_each-loop-rest : goal.invariant-read_each-loop-rest
invariant-read_each-loop-rest g l =
    each_read (element_read g.H.Hosts.entries l.self l.bound l.element) (pieces_left l.separator (option_map (λ b. b.now) l.rest)) (map data_of l.values.items)
    ≡ each_read (element_read g.H.Hosts.entries l.self l.bound l.element) (pieces l.separator l.text) []

abbrev pub decreases-read_each-loop-rest : goal.decreases-read_each-loop-rest
decreases-read_each-loop-rest g l = left_length (option_map (λ b. b.now) l.rest)
