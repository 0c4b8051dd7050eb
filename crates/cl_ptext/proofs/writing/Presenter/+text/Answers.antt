use Rattle.std.proofs.Common.{rules, ◌≡◌, ◌+◌, ◌*◌, ◌<◌, ◌∷◌, suc, drop, drop-cons, arith, ap, sym, ◌∙◌}
use Rattle.std.specs.Prelude.{Some}
use Rattle.std.proofs.lemmas.Result.{err_from_is_err_and}
use Rattle.cl_eval.proofs.CostLemmas.{grows-at}
use Rattle.cl_eval.specs.Agrees.{always}
use Rattle.cl_eval.specs.Standpoint.{meaning_at}
use Rattle.cl_lattice.specs.Arguments.{trees_of}
use Rattle.cl_lattice.specs.Expanded.{weight}
use Rattle.cl_lattice.specs.Expansion.{next_spec}
use Rattle.cl_lattice.specs.MemberRows.{parts_under}
use Rattle.cl_lattice.specs.World.{kind_named}
use Rattle.cl_lattice.specs.declared.declared_types.TypeKind.TheVariants as kind
use Rattle.cl_syntax.specs.TypeSpecTree.{name_of}
use Rattle.cl_value.specs.Value.{data_of, parts_of}
use Rattle.cl_value.specs.declared.Value.{Value}
use Rattle.cl_ptext.specs.Book.{args_of}
use Rattle.cl_ptext.specs.Presenting.{book_of, declared_in, expanded, inherited_by, text_by}
use Rattle.cl_ptext.proofs.CostLemmas.{joined-rises, some-rises, stop-joined, text-rises}
use Rattle.cl_ptext.proofs.PartTypes.{sequence_is, user_is}
use Rattle.cl_ptext.proofs.writing.Presenter.+text.Goals as goal

pub write_declared-write_user-requires : goal.write_declared-write_user-requires
write_declared-write_user-requires g t c κs within =
    let k = c.args.self.now.book.now in
    let b = c.args.bound.now in
    let s = c.args.spec.now in
    let u = c.in-User.user in
    let found : kind_named (name_of s) k.lattice.now ≡ Some (kind.User u) = sym (rw (c.in-User.is, c.as_slice-name.ensures, c.name.ensures) at c.in-Some.ensures) in
    let less : 4 * weight (inherited_by k b s u) + 3 < 4 * weight (declared_in k b s) + 1 = rw (user_is k c.all_fit.ensures b s c.requires.standard u found) (omega arith) in
    (search (rules, less), (within.0, (within.1, (c.requires.level, found))))

pub write_declared-returns-in-User-clause-text : goal.write_declared-returns-in-User-clause-text
write_declared-returns-in-User-clause-text g t c =
    let k = c.args.self.now.book.now in
    let b = c.args.bound.now in
    let s = c.args.spec.now in
    let u = c.in-User.user in
    let found : kind_named (name_of s) k.lattice.now ≡ Some (kind.User u) = sym (rw (c.in-User.is, c.as_slice-name.ensures, c.name.ensures) at c.in-Some.ensures) in
    rw (user_is k c.all_fit.ensures b s c.requires.standard u found, found) c.write_user.ensures.text

pub write_joined-returns-in_err-put_separator-clause-text : goal.write_joined-returns-in_err-put_separator-clause-text
write_joined-returns-in_err-put_separator-clause-text g t c =
    let p = err_from_is_err_and c.from_residual.result c.from_residual.ensures.1 in
    let k = c.args.self.now.book.now in
    let s = c.args.joint.now.inner.now in
    let here = c.args.self.now.here.now in
    rw (p.1, p.2, ← c.loop-value.invariant.text)
    (joined-rises c.loop-value.first c.args.joint.now.separator (text_by g.H.Hosts.entries c.args.self.now (expanded k c.args.bound.now s) s)
    (text-rises (book_of g.H.Hosts.entries k) (meaning_at here) (grows-at here) here.level (expanded k c.args.bound.now s) s)
    (parts_of (drop c.loop-value.value-index c.args.values.now)) c.loop-value.writing.bytes.items c.loop-value.writing.meter.cost c.loop-value.writing.meter.deepest)

pub write_joined-returns-in_err-write-clause-text : goal.write_joined-returns-in_err-write-clause-text
write_joined-returns-in_err-write-clause-text g t c =
    let p = err_from_is_err_and c.from_residual-in_err-write.result c.from_residual-in_err-write.ensures.1 in
    let k = c.args.self.now.book.now in
    let s = c.args.joint.now.inner.now in
    let here = c.args.self.now.here.now in
    let at = c.loop-value.value-index in
    let rest = drop (suc at) c.args.values.now in
    let step : drop at c.args.values.now ≡ c.value-item.result ∷ rest =
    drop-cons c.args.values.now at c.value-item.result c.loop-value-test.true ∙ ap (λ (v : Value). v ∷ rest) (sym c.value-item.is) in
    rw (p.1, p.2, ← c.loop-value.invariant.text, step)
    (stop-joined {A = Unit {0}} {B = Unit {0}} (always c.write.new.writing.bytes.items) (always c.write.new.writing.bytes.items) c.loop-value.first c.args.joint.now.separator (text_by g.H.Hosts.entries c.args.self.now (expanded k c.args.bound.now s) s)
    (text-rises (book_of g.H.Hosts.entries k) (meaning_at here) (grows-at here) here.level (expanded k c.args.bound.now s) s)
    (data_of c.value-item.result) (parts_of rest) c.loop-value.writing.bytes.items c.in_err-write.field-0.0 c.write.new.writing.meter
    c.loop-value.writing.meter.cost c.loop-value.writing.meter.deepest
    (rw c.in_ok-put_separator.ensures at c.in_err-write.ensures.text))

pub write_sequence-returns-in-List-clause-text : goal.write_sequence-returns-in-List-clause-text
write_sequence-returns-in-List-clause-text g t c =
    let next : next_spec (args_of c.args.spec.now) ≡ Some (c.in-Some.inner.now, trees_of c.in-Some.field-0-1.now) = sym (rw c.args_of.ensures at c.in-Some.ensures) in
    rw (sequence_is g.H.Hosts.entries c.args.self.now c.args.bound.now c.args.spec.now (data_of c.args.value.now) _ next, c.in-List.is, ← c.separator_of.ensures, ← c.as_slice.ensures)
    c.write_joined.ensures.text

pub write_some-returns-in-Memory-clause-text : goal.write_some-returns-in-Memory-clause-text
write_some-returns-in-Memory-clause-text g t c =
    let k = c.args.self.now.book.now in
    let here = c.args.self.now.here.now in
    some-rises (book_of g.H.Hosts.entries k) (meaning_at here) (grows-at here) here.level (parts_under k.lattice.now c.args.bound.now c.args.args.now) (trees_of c.args.args.now) (data_of c.args.value.now)
    c.args.writing.now.bytes.items c.args.writing.now.meter.cost c.args.writing.now.meter.deepest
