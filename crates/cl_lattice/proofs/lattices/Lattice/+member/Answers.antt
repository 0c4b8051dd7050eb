use Rattle.std.proofs.Common.{rules, ◌≡◌, ◌+◌, ◌*◌, ◌≤◌, arith, sym, ap, refl, ◌∙◌}
use Rattle.std.specs.Prelude.{Some}
use Rattle.cl_value.specs.Data.{size_of, size_of_items}
use Rattle.cl_value.specs.Value.{data_of, parts_of}
use Rattle.cl_value.proofs.Parts.{part_size}
use Rattle.cl_table.specs.Names.{named}
use Rattle.cl_lattice.specs.Arguments.{given_by, trees_of, values_of}
use Rattle.cl_lattice.specs.Expanded.{weight}
use Rattle.cl_lattice.specs.Expansion.{expansion, expand_parts, next_parts, own_type}
use Rattle.cl_lattice.specs.Weights.{args_weight, first_weight}
use Rattle.cl_lattice.specs.World.{World}
use Rattle.cl_lattice.proofs.ExpansionLemmas.{parts_next}
use Rattle.cl_lattice.proofs.MemberLemmas.{declared_user}
use Rattle.cl_lattice.proofs.WeightLemmas.{less_type, less_value, span_some, within_span}
use Rattle.cl_lattice.proofs.lattices.Lattice.+member.Goals as goal

pub all_hold-member_under-held-requires : goal.all_hold-member_under-held-requires
all_hold-member_under-held-requires g t c κs within =
    let part = part_size c.args.values.now c.loop-value.value-index c.value-item.result c.loop-value-test.true in
    let size : size_of (data_of c.value-item.result) ≤ size_of_items (parts_of c.args.values.now) = rw c.value-item.is part in
    let more = 4 * weight (expansion c.args.self.now (given_by c.args.bound.now) c.args.spec.now) in
    let less = less_type c.args.self.now (size_of (data_of c.value-item.result)) (size_of_items (parts_of c.args.values.now)) (more + 2) (more + 3) size (omega arith) in
    (search (rules, less), within)

pub declared_holds-returns-in-User : goal.declared_holds-returns-in-User
declared_holds-returns-in-User g t c =
    let found = c.in-Some.ensures ∙ ap (λ (v : World). named c.args.name.now v.types) c.self.view_is in
    rw (declared_user c.args.self.now c.all_fit.ensures c.args.name.now c.requires c.in-Some.declared.now c.in-User.user found c.in-User.is (values_of (given_by c.args.bound.now) (trees_of c.args.args.now)))
    (c.user_holds.ensures c.args.name.now)

pub fit_command-fit-requires : goal.fit_command-fit-requires
fit_command-fit-requires g t c κs within =
    let found = sym (c.in-Some.ensures ∙ ap (λ (v : World). named c.args.name.now v.commands) c.self.view_is) in
    let span = within_span c.args.self.now c.args.name.now c.in-Some.command.now found in
    let values = size_of_items (parts_of c.args.values.now) in
    let less = less_value c.args.self.now values (1 + values) (4 * args_weight c.args.self.now c.in-Some.command.now.args + 3) 0 (omega arith) (omega (arith, span)) in
    (search (rules, less), within)

pub sequence_holds-all_hold-requires : goal.sequence_holds-all_hold-requires
sequence_holds-all_hold-requires g t c κs within =
    let w = c.args.self.now in
    let given = given_by c.args.bound.now in
    let ps = expand_parts w (own_type w) given (trees_of c.args.args.now) in
    let first : ps ≡ next_parts w (own_type w) given (Some (c.in-Some.spec.now, trees_of c.in-Some.field-0-1.now)) =
    parts_next w (own_type w) given (trees_of c.args.args.now) ∙ ap (next_parts w (own_type w) given) (sym c.in-Some.ensures) in
    let heavy : first_weight ps ≡ weight (expansion w given c.in-Some.spec.now) = ap first_weight first in
    let values = size_of_items (parts_of c.as_slice.result.now) in
    let whole : size_of (data_of c.args.value.now) ≡ 1 + values = rw (c.in-List.is, c.as_slice.ensures) refl in
    let less = less_value w values (size_of (data_of c.args.value.now)) (4 * weight (expansion w given c.in-Some.spec.now) + 3) (4 * first_weight ps + 3)
    (omega (arith, whole)) (omega (arith, heavy, span_some w)) in
    (search (rules, less), within)
