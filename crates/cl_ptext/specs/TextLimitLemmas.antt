-- A text that ends under some limits ends so under all limits that its cost and its reach do not pass.
use Rattle.std.proofs.Common.{ℕ, Bool, true, false, List, [], ◌∷◌, ◌++◌}
use Rattle.std.specs.Prelude.{Option, Some, None}
use Rattle.cl_application.specs.App.{present_method}
use Rattle.cl_application.specs.declared.declarations.MethodDecl.{MethodDecl}
use Rattle.cl_eval.proofs.LimitLemmas.{Goes, GoGoes, goes-give, goes-lift, goes-then, goes-choice}
use Rattle.cl_eval.specs.Meaning.{Go}
use Rattle.cl_eval.specs.Outcome.{give, lift}
use Rattle.cl_lattice.specs.Expanded.{Expanded, ExpandedTypes}
use Rattle.cl_lattice.specs.Expanded as type
use Rattle.cl_lattice.specs.Members.{is_member, is_null, is_one_of}
use Rattle.cl_print.specs.Plain.{plain_of}
use Rattle.cl_syntax.specs.TypeSpecTree.{TypeArgTrees, TypeSpecTree}
use Rattle.cl_value.specs.Data.{Data, Items, bool, int, item, list, none, null, rec, symbol, text}
use Rattle.cl_ptext.specs.Book.{Book, args_of, behind_first, first_spec, inherited_spec, inner_spec, separator_of}
use Rattle.cl_ptext.specs.Hosts.{NameEntries, name_of_number}
use Rattle.cl_ptext.specs.Methods.{bytes_in, predicates_of, presented}
use Rattle.cl_ptext.specs.Texts.{Writes, before_part, each_joined, host_text, list_text, method_or, name_or_plain, plain, quoted, string_text, text_by_first, text_by_some, text_of}

-- the same in two ways, within the limits of the second
abbrev pub WritesGo : ℕ → ℕ → (Data → Writes) → (Data → Writes) → Type 0
WritesGo budget depth write write' = (d : Data) (out : List ℕ) → Goes budget depth (write d out) (write' d out)

-- the plain form goes the same way under both limits
plain-goes : (budget depth : ℕ) → WritesGo budget depth plain plain
plain-goes budget depth d out = goes-give budget depth (out ++ plain_of d)

-- joined texts go the same way under both limits, if what puts each does
joined-goes : (budget depth : ℕ) (first : Bool) (s : ℕ) (write write' : Data → Writes) → WritesGo budget depth write write' → (ds : Items) (out : List ℕ)
    → Goes budget depth (each_joined first s write ds out) (each_joined first s write' ds out)
joined-goes budget depth first s write write' g none out = goes-give budget depth out
joined-goes budget depth first s write write' g (item d ds) out =
    goes-then budget depth (write d (before_part first s out)) (write' d (before_part first s out)) (λ more. each_joined false s write ds more)
    (λ more. each_joined false s write' ds more)
    (g d (before_part first s out)) (λ more. joined-goes budget depth false s write write' g ds more)

-- the text of a list goes the same way under both limits, if what puts each part does
list-goes : (budget depth : ℕ) (s : ℕ) (write write' : Data → Writes) → WritesGo budget depth write write' → WritesGo budget depth (list_text s write) (list_text s write')
list-goes budget depth s write write' g (int z) out = plain-goes budget depth (int z) out
list-goes budget depth s write write' g (bool b) out = plain-goes budget depth (bool b) out
list-goes budget depth s write write' g (text x) out = plain-goes budget depth (text x) out
list-goes budget depth s write write' g (symbol x) out = plain-goes budget depth (symbol x) out
list-goes budget depth s write write' g null out = plain-goes budget depth null out
list-goes budget depth s write write' g (list ds) out = joined-goes budget depth true s write write' g ds out
list-goes budget depth s write write' g (rec x ds) out = plain-goes budget depth (rec x ds) out

-- a text by `string` goes the same way under both limits
string-goes : (budget depth : ℕ) → WritesGo budget depth string_text string_text
string-goes budget depth (int z) out = plain-goes budget depth (int z) out
string-goes budget depth (bool b) out = plain-goes budget depth (bool b) out
string-goes budget depth (text x) out = goes-give budget depth (out ++ quoted x)
string-goes budget depth (symbol x) out = plain-goes budget depth (symbol x) out
string-goes budget depth null out = plain-goes budget depth null out
string-goes budget depth (list ds) out = plain-goes budget depth (list ds) out
string-goes budget depth (rec x ds) out = plain-goes budget depth (rec x ds) out

-- a name, or else the plain form, goes the same way under both limits
name-goes : (budget depth : ℕ) (o : Option (List ℕ)) → WritesGo budget depth (name_or_plain o) (name_or_plain o)
name-goes budget depth None d out = plain-goes budget depth d out
name-goes budget depth (Some x) d out = goes-give budget depth (out ++ x)

-- a text by a host type goes the same way under both limits
host-goes : (budget depth : ℕ) (names : NameEntries) → WritesGo budget depth (host_text names) (host_text names)
host-goes budget depth names (int z) out = name-goes budget depth (name_of_number z names) (int z) out
host-goes budget depth names (bool b) out = plain-goes budget depth (bool b) out
host-goes budget depth names (text x) out = plain-goes budget depth (text x) out
host-goes budget depth names (symbol x) out = plain-goes budget depth (symbol x) out
host-goes budget depth names null out = plain-goes budget depth null out
host-goes budget depth names (list ds) out = plain-goes budget depth (list ds) out
host-goes budget depth names (rec x ds) out = plain-goes budget depth (rec x ds) out

-- a text by a present method goes the same way under both limits, if the other way does too
method-goes : (budget depth : ℕ) (go go' : Go) (level : ℕ) → GoGoes budget depth level go go' → (m : Option MethodDecl) (other other' : Data → Writes)
    → WritesGo budget depth other other'
    → WritesGo budget depth (method_or go level m other) (method_or go' level m other')
method-goes budget depth go go' level g None other other' h d out = h d out
method-goes budget depth go go' level g (Some m) other other' h d out =
    goes-then budget depth (presented go level m d) (presented go' level m d) (λ x. give (out ++ x)) (λ x. give (out ++ x))
    (goes-then budget depth (go level ((m.parameter, d) ∷ []) m.body) (go' level ((m.parameter, d) ∷ []) m.body) (λ e. lift (bytes_in e)) (λ e. lift (bytes_in e))
    (g ((m.parameter, d) ∷ []) m.body) (λ e. goes-lift budget depth (bytes_in e)))
    (λ x. goes-give budget depth (out ++ x))

mutual
  -- a text by a type goes the same way under both limits
  pub text-goes : (budget depth : ℕ) (b : Book) (go go' : Go) (level : ℕ) → GoGoes budget depth level go go' → (t : Expanded) (s : TypeSpecTree)
      → WritesGo budget depth (text_of b go level t s) (text_of b go' level t s)
  text-goes budget depth b go go' level g type.everything s d out = plain-goes budget depth d out
  text-goes budget depth b go go' level g type.nothing s d out = plain-goes budget depth d out
  text-goes budget depth b go go' level g type.boolean s d out = plain-goes budget depth d out
  text-goes budget depth b go go' level g type.symbols s d out = plain-goes budget depth d out
  text-goes budget depth b go go' level g type.blank_area s d out = plain-goes budget depth d out
  text-goes budget depth b go go' level g type.command s d out = plain-goes budget depth d out
  text-goes budget depth b go go' level g type.dialog_choice s d out = plain-goes budget depth d out
  text-goes budget depth b go go' level g (type.integer low high) s d out = plain-goes budget depth d out
  text-goes budget depth b go go' level g (type.string n) s d out = string-goes budget depth d out
  text-goes budget depth b go go' level g (type.member cs) s d out = plain-goes budget depth d out
  text-goes budget depth b go go' level g (type.subset cs) s d out = list-goes budget depth (separator_of s) plain plain (plain-goes budget depth) d out
  text-goes budget depth b go go' level g (type.sequence t) s d out =
      list-goes budget depth (separator_of s) (text_of b go level t (inner_spec s)) (text_of b go' level t (inner_spec s))
      (text-goes budget depth b go go' level g t (inner_spec s)) d out
  text-goes budget depth b go go' level g (type.some_of ts) s d out = some-goes budget depth b go go' level g ts (args_of s) d out
  text-goes budget depth b go go' level g (type.each_of ts) s d out = first-goes budget depth b go go' level g ts (args_of s) d out
  text-goes budget depth b go go' level g (type.null_or t) s d out =
      goes-choice budget depth (is_null d) (plain d out) (plain d out) (text_of b go level t (inner_spec s) d out) (text_of b go' level t (inner_spec s) d out)
      (plain-goes budget depth d out) (text-goes budget depth b go go' level g t (inner_spec s) d out)
  text-goes budget depth b go go' level g (type.token_or xs t) s d out =
      goes-choice budget depth (is_one_of xs d) (plain d out) (plain d out) (text_of b go level t (inner_spec s) d out) (text_of b go' level t (inner_spec s) d out)
      (plain-goes budget depth d out) (text-goes budget depth b go go' level g t (inner_spec s) d out)
  text-goes budget depth b go go' level g (type.record_type x) s d out =
      method-goes budget depth go go' level g (present_method x b.app) plain plain (plain-goes budget depth) d out
  text-goes budget depth b go go' level g (type.host x low high) s d out = host-goes budget depth (b.hosts x) d out
  text-goes budget depth b go go' level g (type.user x vs f t) s d out =
      method-goes budget depth go go' level g (present_method x b.app) (text_of b go level t (inherited_spec b x s)) (text_of b go' level t (inherited_spec b x s))
      (text-goes budget depth b go go' level g t (inherited_spec b x s)) d out
  text-goes budget depth b go go' level g (type.unknown x vs) s d out = plain-goes budget depth d out

  -- a text by the first part of which the value is a member goes the same way under both limits
  pub some-goes : (budget depth : ℕ) (b : Book) (go go' : Go) (level : ℕ) → GoGoes budget depth level go go' → (ts : ExpandedTypes) (args : TypeArgTrees)
      → WritesGo budget depth (text_by_some b go level ts args) (text_by_some b go' level ts args)
  some-goes budget depth b go go' level g type.none args d out = plain-goes budget depth d out
  some-goes budget depth b go go' level g (type.part t ts) args d out =
      goes-choice budget depth (is_member b.world (predicates_of b.app) d t) (text_of b go level t (first_spec args) d out) (text_of b go' level t (first_spec args) d out)
      (text_by_some b go level ts (behind_first args) d out) (text_by_some b go' level ts (behind_first args) d out)
      (text-goes budget depth b go go' level g t (first_spec args) d out) (some-goes budget depth b go go' level g ts (behind_first args) d out)

  -- a text by the first part goes the same way under both limits
  pub first-goes : (budget depth : ℕ) (b : Book) (go go' : Go) (level : ℕ) → GoGoes budget depth level go go' → (ts : ExpandedTypes) (args : TypeArgTrees)
      → WritesGo budget depth (text_by_first b go level ts args) (text_by_first b go' level ts args)
  first-goes budget depth b go go' level g type.none args d out = plain-goes budget depth d out
  first-goes budget depth b go go' level g (type.part t ts) args d out = text-goes budget depth b go go' level g t (first_spec args) d out
