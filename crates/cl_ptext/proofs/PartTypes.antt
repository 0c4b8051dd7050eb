-- The parts of a specifier beside its expansion: the first one and those behind it.
use Rattle.std.proofs.Common.{◌≡◌, List, ap, ◌∙◌}
use Rattle.std.specs.Prelude.{ℕ, Option, Some, None}
use Rattle.cl_lattice.proofs.ExpansionLemmas as expansion
use Rattle.cl_lattice.specs.Arguments.{given_by, tokens_in, trees_of, values_of}
use Rattle.cl_lattice.specs.Expanded.{user}
use Rattle.cl_lattice.specs.Expansion.{declared_type, expand_parts, named_type, next_parts, next_spec, own_type}
use Rattle.cl_lattice.specs.Laws.{AllFit}
use Rattle.cl_lattice.specs.MemberRows.{parts_under}
use Rattle.cl_lattice.specs.World.{World, kind_named}
use Rattle.cl_lattice.specs.declared.arguments.Bound.{Bound}
use Rattle.cl_lattice.specs.declared.declared_types.TypeKind.TheVariants as kind
use Rattle.cl_lattice.specs.declared.declared_types.UserType.{UserType}
use Rattle.cl_syntax.specs.StandardTypes.{standard_named}
use Rattle.cl_syntax.specs.TypeSpecTree.{TypeArgTrees, TypeSpecTree, name_of, specifier}
use Rattle.cl_syntax.specs.declared.type_names.StandardType.{StandardType}
use Rattle.cl_syntax.specs.declared.type_specs.TypeArg.{TypeArg}
use Rattle.cl_ptext.specs.Book.{args_of, inner_spec, separator_of, spec_there}
use Rattle.cl_ptext.specs.Hosts.{NameEntries}
use Rattle.cl_ptext.specs.Presenting.{declared_in, expanded, inherited_by, parts_in, sequence_by, standard_in}
use Rattle.cl_ptext.specs.declared.books.TypeBook.{TypeBook}
use Rattle.cl_ptext.specs.declared.writing.Presenter.{Presenter}
use Rattle.cl_value.specs.Data.{Data}

pub parts_next : (w : World) (b : Bound) (ts : List TypeArg) → parts_under w b ts ≡ next_parts w (own_type w) (given_by b) (next_spec (trees_of ts))
parts_next w b ts = expansion.parts_next w (own_type w) (given_by b) (trees_of ts)

pub parts_of_spec : {H : Type 0} → (k : TypeBook H) (b : Bound) (s : TypeSpecTree) → parts_in k b s ≡ next_parts k.lattice.now (own_type k.lattice.now) (given_by b)
    (next_spec (args_of s))
parts_of_spec k b s = expansion.parts_next k.lattice.now (own_type k.lattice.now) (given_by b) (args_of s)

-- ---- specifiers by their names

pub standard_is : {H : Type 0} → (k : TypeBook H) (b : Bound) (s : TypeSpecTree) (t : StandardType) → standard_named (name_of s) ≡ Some t
    → expanded k b s ≡ standard_in k t (name_of s) b s
standard_is k b (specifier x ts o) t e =
    let w = k.lattice.now in
    ap (λ i. named_type (own_type w) i (kind_named x w) x (values_of (given_by b) ts) (tokens_in ts) (expand_parts w (own_type w) (given_by b) ts)) e

pub declared_is : {H : Type 0} → (k : TypeBook H) (b : Bound) (s : TypeSpecTree) → standard_named (name_of s) ≡ None → expanded k b s ≡ declared_in k b s
declared_is k b (specifier x ts o) e =
    let w = k.lattice.now in
    ap (λ i. named_type (own_type w) i (kind_named x w) x (values_of (given_by b) ts) (tokens_in ts) (expand_parts w (own_type w) (given_by b) ts)) e

-- a user type that is declared
pub user_is : {H : Type 0} → (k : TypeBook H) → AllFit k.lattice.now → (b : Bound) (s : TypeSpecTree) → standard_named (name_of s) ≡ None → (u : UserType) → kind_named
    (name_of s) k.lattice.now ≡ Some (kind.User u)
    → declared_in k b s ≡ user (name_of s) (values_of (given_by b) (args_of s)) u.satisfies (inherited_by k b s u)
user_is k f b s plain u found =
    let w = k.lattice.now in
    let vs = values_of (given_by b) (args_of s) in
    ap (λ o. declared_type (own_type w) o (name_of s) vs) found ∙ expansion.own_is w f (name_of s) u (record { own = plain; declared = found }) vs

-- the parts of a list, by the next specifier
pub sequence_is : {H : Type 0} → (entries : H → List ℕ → NameEntries) (p : Presenter H) (b : Bound) (s : TypeSpecTree) (d : Data)
    (o : Option (TypeSpecTree × TypeArgTrees)) → next_spec (args_of s) ≡ o
    → sequence_by entries p (parts_in p.book.now b s) (separator_of s) (inner_spec s) d
    ≡ sequence_by entries p (next_parts p.book.now.lattice.now (own_type p.book.now.lattice.now) (given_by b) o) (separator_of s) (spec_there o) d
sequence_is entries p b s d o e =
    let w = p.book.now.lattice.now in
    ap (λ ps. sequence_by entries p ps (separator_of s) (inner_spec s) d) (parts_of_spec p.book.now b s)
    ∙ ap (λ n. sequence_by entries p (next_parts w (own_type w) (given_by b) n) (separator_of s) (spec_there n) d) e
