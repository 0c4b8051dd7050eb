-- A text keeps to its limits: neither its cost nor its reach passes them.
use Rattle.std.proofs.Common.{ℕ, Bool, true, false, List, [], ◌∷◌, ◌++◌}
use Rattle.std.specs.Prelude.{Option, Some, None}
use Rattle.cl_application.specs.App.{present_method}
use Rattle.cl_application.specs.declared.declarations.MethodDecl.{MethodDecl}
use Rattle.cl_eval.proofs.KeepLemmas.{GoKeeps, Keeps, keeps-choice, keeps-give, keeps-lift, keeps-then}
use Rattle.cl_eval.specs.Meaning.{Go}
use Rattle.cl_eval.specs.Outcome.{give, lift}
use Rattle.cl_lattice.specs.Expanded.{Expanded, ExpandedTypes}
use Rattle.cl_lattice.specs.Expanded as type
use Rattle.cl_lattice.specs.Members.{is_member, is_null, is_one_of}
use Rattle.cl_print.specs.Plain.{plain_of}
use Rattle.cl_syntax.specs.TypeSpecTree.{TypeArgTrees, TypeSpecTree}
use Rattle.cl_value.specs.Data.{Data, Items, bool, int, item, list, none, null, rec, symbol, text}
use Rattle.cl_ptext.specs.Book.{Book, args_of, behind_first, first_spec, inherited_spec, inner_spec, separator_of}
use Rattle.cl_ptext.specs.Hosts.{NameEntries, name_of_number}
use Rattle.cl_ptext.specs.Methods.{bytes_in, predicates_of, presented}
use Rattle.cl_ptext.specs.Texts.{Writes, before_part, each_joined, host_text, list_text, method_or, name_or_plain, plain, quoted, string_text, text_by_first, text_by_some, text_of}

-- what puts a text keeps to the limits
abbrev pub WritesKeep : ℕ → ℕ → (Data → Writes) → Type 0
WritesKeep budget depth write = (d : Data) (out : List ℕ) → Keeps budget depth (write d out)

-- the plain form keeps to the limits
plain-keeps : (budget depth : ℕ) → WritesKeep budget depth plain
plain-keeps budget depth d out = keeps-give budget depth (out ++ plain_of d)

-- joined texts keep to the limits, if what puts each does
joined-keeps : (budget depth : ℕ) (first : Bool) (s : ℕ) (write : Data → Writes) → WritesKeep budget depth write → (ds : Items) (out : List ℕ) → Keeps budget depth
    (each_joined first s write ds out)
joined-keeps budget depth first s write g none out = keeps-give budget depth out
joined-keeps budget depth first s write g (item d ds) out =
    keeps-then budget depth (write d (before_part first s out)) (λ more. each_joined false s write ds more) (g d (before_part first s out))
    (λ more. joined-keeps budget depth false s write g ds more)

-- the text of a list keeps to the limits, if what puts each part does
list-keeps : (budget depth : ℕ) (s : ℕ) (write : Data → Writes) → WritesKeep budget depth write → WritesKeep budget depth (list_text s write)
list-keeps budget depth s write g (int z) out = plain-keeps budget depth (int z) out
list-keeps budget depth s write g (bool b) out = plain-keeps budget depth (bool b) out
list-keeps budget depth s write g (text x) out = plain-keeps budget depth (text x) out
list-keeps budget depth s write g (symbol x) out = plain-keeps budget depth (symbol x) out
list-keeps budget depth s write g null out = plain-keeps budget depth null out
list-keeps budget depth s write g (list ds) out = joined-keeps budget depth true s write g ds out
list-keeps budget depth s write g (rec x ds) out = plain-keeps budget depth (rec x ds) out

-- a text by `string` keeps to the limits
string-keeps : (budget depth : ℕ) → WritesKeep budget depth string_text
string-keeps budget depth (int z) out = plain-keeps budget depth (int z) out
string-keeps budget depth (bool b) out = plain-keeps budget depth (bool b) out
string-keeps budget depth (text x) out = keeps-give budget depth (out ++ quoted x)
string-keeps budget depth (symbol x) out = plain-keeps budget depth (symbol x) out
string-keeps budget depth null out = plain-keeps budget depth null out
string-keeps budget depth (list ds) out = plain-keeps budget depth (list ds) out
string-keeps budget depth (rec x ds) out = plain-keeps budget depth (rec x ds) out

-- a name, or else the plain form, keeps to the limits
name-keeps : (budget depth : ℕ) (o : Option (List ℕ)) → WritesKeep budget depth (name_or_plain o)
name-keeps budget depth None d out = plain-keeps budget depth d out
name-keeps budget depth (Some x) d out = keeps-give budget depth (out ++ x)

-- a text by a host type keeps to the limits
host-keeps : (budget depth : ℕ) (names : NameEntries) → WritesKeep budget depth (host_text names)
host-keeps budget depth names (int z) out = name-keeps budget depth (name_of_number z names) (int z) out
host-keeps budget depth names (bool b) out = plain-keeps budget depth (bool b) out
host-keeps budget depth names (text x) out = plain-keeps budget depth (text x) out
host-keeps budget depth names (symbol x) out = plain-keeps budget depth (symbol x) out
host-keeps budget depth names null out = plain-keeps budget depth null out
host-keeps budget depth names (list ds) out = plain-keeps budget depth (list ds) out
host-keeps budget depth names (rec x ds) out = plain-keeps budget depth (rec x ds) out

-- a text by a present method keeps to the limits, if the other way does too
method-keeps : (budget depth : ℕ) (go : Go) (level : ℕ) → GoKeeps budget depth level go → (m : Option MethodDecl) (other : Data → Writes) → WritesKeep budget depth other
    → WritesKeep budget depth (method_or go level m other)
method-keeps budget depth go level g None other h d out = h d out
method-keeps budget depth go level g (Some m) other h d out =
    keeps-then budget depth (presented go level m d) (λ x. give (out ++ x))
    (keeps-then budget depth (go level ((m.parameter, d) ∷ []) m.body) (λ e. lift (bytes_in e)) (g ((m.parameter, d) ∷ []) m.body) (λ e. keeps-lift budget depth (bytes_in e))) (λ x. keeps-give budget depth (out ++ x))

mutual
  -- a text by a type keeps to the limits
  pub text-keeps : (budget depth : ℕ) (b : Book) (go : Go) (level : ℕ) → GoKeeps budget depth level go → (t : Expanded) (s : TypeSpecTree) → WritesKeep budget depth
      (text_of b go level t s)
  text-keeps budget depth b go level g type.everything s d out = plain-keeps budget depth d out
  text-keeps budget depth b go level g type.nothing s d out = plain-keeps budget depth d out
  text-keeps budget depth b go level g type.boolean s d out = plain-keeps budget depth d out
  text-keeps budget depth b go level g type.symbols s d out = plain-keeps budget depth d out
  text-keeps budget depth b go level g type.blank_area s d out = plain-keeps budget depth d out
  text-keeps budget depth b go level g type.command s d out = plain-keeps budget depth d out
  text-keeps budget depth b go level g type.dialog_choice s d out = plain-keeps budget depth d out
  text-keeps budget depth b go level g (type.integer low high) s d out = plain-keeps budget depth d out
  text-keeps budget depth b go level g (type.string n) s d out = string-keeps budget depth d out
  text-keeps budget depth b go level g (type.member cs) s d out = plain-keeps budget depth d out
  text-keeps budget depth b go level g (type.subset cs) s d out = list-keeps budget depth (separator_of s) plain (plain-keeps budget depth) d out
  text-keeps budget depth b go level g (type.sequence t) s d out =
      list-keeps budget depth (separator_of s) (text_of b go level t (inner_spec s)) (text-keeps budget depth b go level g t (inner_spec s)) d out
  text-keeps budget depth b go level g (type.some_of ts) s d out = some-keeps budget depth b go level g ts (args_of s) d out
  text-keeps budget depth b go level g (type.each_of ts) s d out = first-keeps budget depth b go level g ts (args_of s) d out
  text-keeps budget depth b go level g (type.null_or t) s d out =
      keeps-choice budget depth (is_null d) (plain d out) (text_of b go level t (inner_spec s) d out) (plain-keeps budget depth d out)
      (text-keeps budget depth b go level g t (inner_spec s) d out)
  text-keeps budget depth b go level g (type.token_or xs t) s d out =
      keeps-choice budget depth (is_one_of xs d) (plain d out) (text_of b go level t (inner_spec s) d out) (plain-keeps budget depth d out)
      (text-keeps budget depth b go level g t (inner_spec s) d out)
  text-keeps budget depth b go level g (type.record_type x) s d out = method-keeps budget depth go level g (present_method x b.app) plain (plain-keeps budget depth) d out
  text-keeps budget depth b go level g (type.host x low high) s d out = host-keeps budget depth (b.hosts x) d out
  text-keeps budget depth b go level g (type.user x vs f t) s d out =
      method-keeps budget depth go level g (present_method x b.app) (text_of b go level t (inherited_spec b x s))
      (text-keeps budget depth b go level g t (inherited_spec b x s)) d out
  text-keeps budget depth b go level g (type.unknown x vs) s d out = plain-keeps budget depth d out

  -- a text by the first part of which the value is a member keeps to the limits
  pub some-keeps : (budget depth : ℕ) (b : Book) (go : Go) (level : ℕ) → GoKeeps budget depth level go → (ts : ExpandedTypes) (args : TypeArgTrees)
      → WritesKeep budget depth (text_by_some b go level ts args)
  some-keeps budget depth b go level g type.none args d out = plain-keeps budget depth d out
  some-keeps budget depth b go level g (type.part t ts) args d out =
      keeps-choice budget depth (is_member b.world (predicates_of b.app) d t) (text_of b go level t (first_spec args) d out)
      (text_by_some b go level ts (behind_first args) d out) (text-keeps budget depth b go level g t (first_spec args) d out)
      (some-keeps budget depth b go level g ts (behind_first args) d out)

  -- a text by the first part keeps to the limits
  pub first-keeps : (budget depth : ℕ) (b : Book) (go : Go) (level : ℕ) → GoKeeps budget depth level go → (ts : ExpandedTypes) (args : TypeArgTrees)
      → WritesKeep budget depth (text_by_first b go level ts args)
  first-keeps budget depth b go level g type.none args d out = plain-keeps budget depth d out
  first-keeps budget depth b go level g (type.part t ts) args d out = text-keeps budget depth b go level g t (first_spec args) d out
