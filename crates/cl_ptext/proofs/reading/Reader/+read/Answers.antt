use Rattle.std.proofs.Common.{rules, ◌≡◌, ◌+◌, ◌*◌, ◌<◌, arith, sym}
use Rattle.std.specs.Prelude.{Some}
use Rattle.cl_lattice.specs.Expanded.{weight}
use Rattle.cl_lattice.specs.World.{kind_named}
use Rattle.cl_lattice.specs.declared.declared_types.TypeKind.TheVariants as kind
use Rattle.cl_syntax.specs.StandardTypes.{standard_named}
use Rattle.cl_syntax.specs.TypeSpecTree.{name_of}
use Rattle.cl_ptext.specs.Presenting.{declared_in, inherited_by}
use Rattle.cl_ptext.proofs.PartTypes.{standard_is, user_is}
use Rattle.cl_ptext.proofs.reading.Reader.+read.Goals as goal

pub read_declared-read_user-requires : goal.read_declared-read_user-requires
read_declared-read_user-requires g t c κs within =
    let k = c.args.self.now.book.now in
    let b = c.args.bound.now in
    let s = c.args.spec.now in
    let u = c.in-User.user in
    let found : kind_named (name_of s) k.lattice.now ≡ Some (kind.User u) = sym (rw (c.in-User.is, c.as_slice-name.ensures, c.name.ensures) at c.in-Some.ensures) in
    let less : 6 * weight (inherited_by k b s u) + 4 < 6 * weight (declared_in k b s) + 1 = rw (user_is k c.all_fit.ensures b s c.requires u found) (omega arith) in
    (search (rules, less), (within, found))

pub read_declared-returns-in-User : goal.read_declared-returns-in-User
read_declared-returns-in-User g t c =
    let k = c.args.self.now.book.now in
    let b = c.args.bound.now in
    let s = c.args.spec.now in
    let u = c.in-User.user in
    let found : kind_named (name_of s) k.lattice.now ≡ Some (kind.User u) = sym (rw (c.in-User.is, c.as_slice-name.ensures, c.name.ensures) at c.in-Some.ensures) in
    rw (user_is k c.all_fit.ensures b s c.requires u found, found) c.read_user.ensures

pub read_row-returns-in-Some : goal.read_row-returns-in-Some
read_row-returns-in-Some g t c =
    let s = c.args.spec.now in
    let named : standard_named (name_of s) ≡ Some c.in-Some.standard = sym (rw c.name.ensures at c.in-Some.ensures) in
    rw (standard_is c.args.self.now.book.now c.args.bound.now s c.in-Some.standard named) (c.read_standard.ensures (name_of s))
