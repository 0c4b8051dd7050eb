-- What a text reads as by a type. A type is given by its expansion, beside the specifier that it is of, which has the separator. At each level an object that
-- is no member of the type is nothing.
use Rattle.std.specs.Prelude.{ℕ, ℤ, nat_le, Bool, true, false, List, [], ◌∷◌, ◌++◌, length, Option, Some, None, if◌then◌else◌, codes}
use Rattle.cl_application.specs.App.{accept_method}
use Rattle.cl_application.specs.declared.declarations.MethodDecl.{MethodDecl}
use Rattle.cl_eval.specs.Slots.{Slots}
use Rattle.cl_host.specs.Names.{first_named}
use Rattle.cl_lattice.specs.Expanded.{Expanded, ExpandedTypes}
use Rattle.cl_lattice.specs.Expanded as type
use Rattle.cl_lattice.specs.Members.{is_member}
use Rattle.cl_syntax.specs.TypeSpecTree.{TypeSpecTree, TypeArgTrees}
use Rattle.cl_value.specs.Data.{Data, bool, int, list, null, text, items_of}
use Rattle.cl_ptext.specs.Book.{Book, args_of, behind_first, first_spec, inherited_spec, inner_spec, separator_of}
use Rattle.cl_ptext.specs.Hosts.{NameEntries}
use Rattle.cl_ptext.specs.Methods.{Reading, Object, Nothing, Trap, accepted, predicates_of}
use Rattle.cl_ptext.specs.Parts.{part_in, pieces}
use Rattle.cl_ptext.specs.Words.{constant_in, number_in, same_word, symbol_in, token_in}

-- how a text is read
abbrev pub Reads : Type 0
Reads = List ℕ → Reading

-- the object that was found, or nothing
abbrev pub found : Option Data → Reading
found None = Nothing
found (Some d) = Object d

-- the first object, else what comes of the other way
abbrev pub or_else : Option Data → Reading → Reading
or_else None other = other
or_else (Some d) other = Object d

-- an object, if something is true of it, or nothing
abbrev pub if_holds : Bool → Data → Reading
if_holds true d = Object d
if_holds false d = Nothing

-- an object that is no member is nothing
abbrev pub only_members : Book → Expanded → Reading → Reading
only_members b t (Object d) = if_holds (is_member b.world (predicates_of b.app) d t) d
only_members b t Nothing = Nothing
only_members b t (Trap kind) = Trap kind

-- `Yes` is true, `No` is false
abbrev pub boolean_in : List ℕ → Option Data
boolean_in x = if same_word (codes "Yes") x then Some (bool true) else (if same_word (codes "No") x then Some (bool false) else None)

-- `None` is null
abbrev pub null_in : List ℕ → Option Data
null_in x = if same_word (codes "None") x then Some null else None

-- the number of a name, where there is one, as a value
abbrev pub number_of_name : Option ℤ → Option Data
number_of_name None = None
number_of_name (Some z) = Some (int z)

-- the number of a name of a host type, compared by its bytes; no reader is asked for more than 64
abbrev pub host_number : NameEntries → List ℕ → Option Data
host_number names x = if nat_le (length x) 64 then number_of_name (first_named x names) else None

-- a reading, and then one that is given its object
abbrev pub and_then : Reading → (Data → Reading) → Reading
and_then (Object d) f = f d
and_then Nothing f = Nothing
and_then (Trap kind) f = Trap kind

-- what a part reads as; nothing where its text is wrong
abbrev pub part_read : Reads → Option (List ℕ) → Reading
part_read read None = Nothing
part_read read (Some x) = read x

-- the list of what each piece reads as, behind those that are there: the first that reads as nothing, or that traps, ends it
abbrev pub each_read : Reads → List (List ℕ) → List Data → Reading
each_read read [] ds = Object (list (items_of ds))
each_read read (p ∷ ps) ds = and_then (part_read read (part_in p)) (λ d. each_read read ps (ds ++ d ∷ []))

-- the constant that a text is, or nothing
abbrev pub constant_read : List Data → Reads
constant_read cs x = found (constant_in cs x)

-- by an accept method, where there is one, else in the other way
abbrev pub method_read : Book → Slots → Option MethodDecl → Reads → Reads
method_read b slots None other x = other x
method_read b slots (Some m) other x = accepted b.app slots m x

-- each text reads as nothing
abbrev pub nothing_read : Reads
nothing_read x = Nothing

-- the other way, where the first one reads nothing
abbrev pub if_nothing : Reading → Reading → Reading
if_nothing (Object d) other = Object d
if_nothing Nothing other = other
if_nothing (Trap kind) other = Trap kind

-- at each level an object that is no member is nothing
abbrev pub members_read : Book → Expanded → Reads → Reads
members_read b t read x = only_members b t (read x)

abbrev mutual
  -- the rows of the table of types
  pub row_read : Book → Slots → Expanded → TypeSpecTree → Reads
  row_read b slots type.everything s x = Nothing
  row_read b slots type.nothing s x = Nothing
  row_read b slots type.boolean s x = found (boolean_in x)
  row_read b slots type.symbols s x = found (symbol_in x)
  row_read b slots type.blank_area s x = Nothing
  row_read b slots type.command s x = Nothing
  row_read b slots type.dialog_choice s x = Nothing
  row_read b slots (type.integer low high) s x = found (number_in x)
  row_read b slots (type.string n) s x = Object (text x)
  row_read b slots (type.member cs) s x = constant_read cs x
  row_read b slots (type.subset cs) s x = each_read (constant_read cs) (pieces (separator_of s) x) []
  row_read b slots (type.sequence t) s x = each_read (members_read b t (row_read b slots t (inner_spec s))) (pieces (separator_of s) x) []
  row_read b slots (type.some_of ts) s x = read_by_some b slots ts (args_of s) x
  row_read b slots (type.each_of ts) s x = read_by_first b slots ts (args_of s) x
  row_read b slots (type.null_or t) s x = or_else (null_in x) (members_read b t (row_read b slots t (inner_spec s)) x)
  row_read b slots (type.token_or xs t) s x = or_else (token_in xs x) (members_read b t (row_read b slots t (inner_spec s)) x)
  row_read b slots (type.record_type n) s x = method_read b slots (accept_method n b.app) nothing_read x
  row_read b slots (type.host n low high) s x = or_else (host_number (b.hosts n) x) (found (number_in x))
  row_read b slots (type.user n vs f t) s x = method_read b slots (accept_method n b.app) (members_read b t (row_read b slots t (inherited_spec b n s))) x
  row_read b slots (type.unknown n vs) s x = Nothing

  -- the first part that reads it, or that traps
  pub read_by_some : Book → Slots → ExpandedTypes → TypeArgTrees → Reads
  read_by_some b slots type.none args x = Nothing
  read_by_some b slots (type.part t ts) args x = if_nothing (members_read b t (row_read b slots t (first_spec args)) x) (read_by_some b slots ts (behind_first args) x)

  -- by the first part
  pub read_by_first : Book → Slots → ExpandedTypes → TypeArgTrees → Reads
  read_by_first b slots type.none args x = Nothing
  read_by_first b slots (type.part t ts) args x = members_read b t (row_read b slots t (first_spec args)) x

-- what a text reads as
abbrev pub reading : Book → Slots → Expanded → TypeSpecTree → Reads
reading b slots t s x = members_read b t (row_read b slots t s) x
