-- Texts and readings by the program's parts.
use Rattle.std.specs.Prelude.{ℕ, ◌++◌, Bool, List, [], Option, Result, if◌then◌else◌}
use Rattle.cl_application.specs.App.{accept_method, present_method}
use Rattle.cl_application.specs.declared.declarations.MethodDecl.{MethodDecl}
use Rattle.cl_eval.specs.Agrees.{Agrees, always}
use Rattle.cl_eval.specs.Outcome.{give, ◌>>=◌}
use Rattle.cl_eval.specs.Standpoint.{meaning_at}
use Rattle.cl_eval.specs.declared.metering.Stop.{Stop}
use Rattle.cl_lattice.specs.Arguments.{constants, given, given_by, tokens_in, trees_of, values_of}
use Rattle.cl_lattice.specs.Expanded.{Expanded, ExpandedTypes, none, part}
use Rattle.cl_lattice.specs.Expansion.{declared_type, expand_parts, expansion, own_type, standard_type}
use Rattle.cl_lattice.specs.World.{kind_named}
use Rattle.cl_lattice.specs.declared.arguments.Bound.{Bound}
use Rattle.cl_lattice.specs.declared.declared_types.UserType.{UserType}
use Rattle.cl_syntax.specs.TypeSpecTree.{TypeArgTrees, TypeSpecTree, name_of}
use Rattle.cl_syntax.specs.declared.type_names.StandardType.{StandardType}
use Rattle.cl_value.specs.Data.{Data}
use Rattle.cl_ptext.specs.Book.{Book, args_of, inner_spec, separator_of}
use Rattle.cl_ptext.specs.Hosts.{NameEntries}
use Rattle.cl_ptext.specs.Methods.{Reading, Nothing, presented}
use Rattle.cl_ptext.specs.Parts.{pieces}
use Rattle.cl_ptext.specs.Readings.{Reads, constant_read, each_read, method_read, nothing_read, only_members, or_else, read_by_first, read_by_some, reading, row_read}
use Rattle.cl_ptext.specs.Texts.{Writes, list_text, method_or, plain, text_by_first, text_by_some, text_of}
use Rattle.cl_ptext.specs.declared.books.TypeBook.{TypeBook}
use Rattle.cl_ptext.specs.declared.putting.Writing.{Writing}
use Rattle.cl_ptext.specs.declared.reading.Element.{Element}
use Rattle.cl_ptext.specs.declared.reading.Element.TheVariants as element
use Rattle.cl_ptext.specs.declared.reading.Reader.{Reader}
use Rattle.cl_ptext.specs.declared.writing.Presenter.{Presenter}

-- what the definitions are given by a book of the program, by the names of its host types
abbrev pub book_of : {H : Type 0} → (H → List ℕ → NameEntries) → TypeBook H → Book
book_of entries k = record { app = k.app.now; world = k.lattice.now; hosts = entries k.hosts.now }

-- ---- specifiers with what is given for the parameters of the declaration around them

-- the expansion of a specifier
abbrev pub expanded : {H : Type 0} → TypeBook H → Bound → TypeSpecTree → Expanded
expanded k bound s = expansion k.lattice.now (given_by bound) s

-- the parts of a specifier
abbrev pub parts_in : {H : Type 0} → TypeBook H → Bound → TypeSpecTree → ExpandedTypes
parts_in k bound s = expand_parts k.lattice.now (own_type k.lattice.now) (given_by bound) (args_of s)

-- the row of a standard type, by the arguments of a specifier
abbrev pub standard_in : {H : Type 0} → TypeBook H → StandardType → List ℕ → Bound → TypeSpecTree → Expanded
standard_in k t x bound s = standard_type t x (values_of (given_by bound) (args_of s)) (tokens_in (args_of s)) (parts_in k bound s)

-- a declared type
abbrev pub declared_in : {H : Type 0} → TypeBook H → Bound → TypeSpecTree → Expanded
declared_in k bound s = declared_type (own_type k.lattice.now) (kind_named (name_of s) k.lattice.now) (name_of s) (values_of (given_by bound) (args_of s))

-- what a user type inherits from
abbrev pub inherited_by : {H : Type 0} → TypeBook H → Bound → TypeSpecTree → UserType → Expanded
inherited_by k bound s u = expansion k.lattice.now (given u.parameters (values_of (given_by bound) (args_of s))) u.inherit_from

-- what was put behind bytes
abbrev pub WritesAs : Result (Unit {0}) Stop → Writing → Writing → Writes → Type 0
WritesAs result old new writes = Agrees (always new.bytes.items) result new.meter (writes old.bytes.items old.meter.cost old.meter.deepest)

-- ---- texts

-- the text of a value by an expanded type, beside its specifier
abbrev pub text_by : {H : Type 0} → (H → List ℕ → NameEntries) → Presenter H → Expanded → TypeSpecTree → Data → Writes
text_by entries p t s d = text_of (book_of entries p.book.now) (meaning_at p.here.now) p.here.now.level t s d

-- the rows that look at parts
abbrev pub sequence_by : {H : Type 0} → (H → List ℕ → NameEntries) → Presenter H → ExpandedTypes → (separator : ℕ) → TypeSpecTree → Data → Writes
sequence_by entries p none separator s d = plain d
sequence_by entries p (part t ts) separator s d = list_text separator (text_by entries p t s) d

-- plain for what is taken beside the first part, else by that part
abbrev pub beside_by : {H : Type 0} → (H → List ℕ → NameEntries) → Presenter H → Bool → ExpandedTypes → TypeSpecTree → Data → Writes
beside_by entries p beside none s d = plain d
beside_by entries p beside (part t ts) s d = if beside then plain d else text_by entries p t (inner_spec s) d

-- by the first part of which the value is a member
abbrev pub some_by : {H : Type 0} → (H → List ℕ → NameEntries) → Presenter H → ExpandedTypes → TypeArgTrees → Data → Writes
some_by entries p ts args d = text_by_some (book_of entries p.book.now) (meaning_at p.here.now) p.here.now.level ts args d

-- by the first part
abbrev pub first_by : {H : Type 0} → (H → List ℕ → NameEntries) → Presenter H → ExpandedTypes → TypeArgTrees → Data → Writes
first_by entries p ts args d = text_by_first (book_of entries p.book.now) (meaning_at p.here.now) p.here.now.level ts args d

-- by a present method
abbrev pub method_by : {H : Type 0} → Presenter H → MethodDecl → Data → Writes
method_by p m d out = presented (meaning_at p.here.now) p.here.now.level m d >>= λ x. give (out ++ x)

-- by the present method of a user type, else by what it inherits from
abbrev pub user_by : {H : Type 0} → (H → List ℕ → NameEntries) → Presenter H → List ℕ → Expanded → TypeSpecTree → Data → Writes
user_by entries p x t s d = method_or (meaning_at p.here.now) p.here.now.level (present_method x p.book.now.app.now) (text_by entries p t s) d

-- by the present method of a record, else the plain form
abbrev pub record_by : {H : Type 0} → Presenter H → List ℕ → Data → Writes
record_by p x d = method_or (meaning_at p.here.now) p.here.now.level (present_method x p.book.now.app.now) plain d

-- ---- readings

-- what a text reads as by an expanded type, beside its specifier
abbrev pub reading_by : {H : Type 0} → (H → List ℕ → NameEntries) → Reader H → Expanded → TypeSpecTree → Reads
reading_by entries r t s x = reading (book_of entries r.book.now) r.slots.now t s x

-- what a text reads as by the row of an expanded type, a member or not
abbrev pub row_by : {H : Type 0} → (H → List ℕ → NameEntries) → Reader H → Expanded → TypeSpecTree → Reads
row_by entries r t s x = row_read (book_of entries r.book.now) r.slots.now t s x

-- an object that is no member of the expanded type is nothing
abbrev pub only_by : {H : Type 0} → (H → List ℕ → NameEntries) → Reader H → Expanded → Reading → Reading
only_by entries r t x = only_members (book_of entries r.book.now) t x

-- by a part of a list
abbrev pub element_read : {H : Type 0} → (H → List ℕ → NameEntries) → Reader H → Bound → Element → Reads
element_read entries r bound (element.Constant args) x = constant_read (constants (values_of (given_by bound) (trees_of args.now))) x
element_read entries r bound (element.Member s) x = reading_by entries r (expanded r.book.now bound s.now) s.now x

-- the rows that look at parts
abbrev pub sequence_read : {H : Type 0} → (H → List ℕ → NameEntries) → Reader H → ExpandedTypes → TypeSpecTree → Reads
sequence_read entries r none s x = Nothing
sequence_read entries r (part t ts) s x = each_read (reading_by entries r t (inner_spec s)) (pieces (separator_of s) x) []

-- what is taken beside the first part, else what that part reads
abbrev pub beside_read : {H : Type 0} → (H → List ℕ → NameEntries) → Reader H → Option Data → ExpandedTypes → TypeSpecTree → Reads
beside_read entries r beside none s x = Nothing
beside_read entries r beside (part t ts) s x = or_else beside (reading_by entries r t (inner_spec s) x)

-- by the first part that reads it, or that traps
abbrev pub some_read : {H : Type 0} → (H → List ℕ → NameEntries) → Reader H → ExpandedTypes → TypeArgTrees → Reads
some_read entries r ts args x = read_by_some (book_of entries r.book.now) r.slots.now ts args x

-- by the first part
abbrev pub first_read : {H : Type 0} → (H → List ℕ → NameEntries) → Reader H → ExpandedTypes → TypeArgTrees → Reads
first_read entries r ts args x = read_by_first (book_of entries r.book.now) r.slots.now ts args x

-- by the accept method of a user type, else by what it inherits from
abbrev pub user_read : {H : Type 0} → (H → List ℕ → NameEntries) → Reader H → List ℕ → Expanded → TypeSpecTree → Reads
user_read entries r n t s x = method_read (book_of entries r.book.now) r.slots.now (accept_method n r.book.now.app.now) (reading_by entries r t s) x

-- by the accept method of a record, else nothing
abbrev pub record_read : {H : Type 0} → (H → List ℕ → NameEntries) → Reader H → List ℕ → Reads
record_read entries r n x = method_read (book_of entries r.book.now) r.slots.now (accept_method n r.book.now.app.now) nothing_read x
