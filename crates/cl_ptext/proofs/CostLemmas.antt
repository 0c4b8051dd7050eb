-- The cost so far never falls where texts are put.
use Rattle.std.proofs.Common.{ℕ, Bool, true, false, List, refl, arith}
use Rattle.std.specs.Prelude.{◌++◌, Option, Some, None, Err, if◌then◌else◌}
use Rattle.cl_application.specs.App.{present_method}
use Rattle.cl_application.specs.declared.declarations.MethodDecl.{MethodDecl}
use Rattle.cl_eval.proofs.CostLemmas.{Grows, cost-after, grows-then, grows-lift}
use Rattle.cl_eval.specs.Agrees.{Agrees}
use Rattle.cl_eval.specs.Meaning.{Go}
use Rattle.cl_eval.specs.Outcome.{Run, give}
use Rattle.cl_eval.specs.Slots.{Env}
use Rattle.cl_eval.specs.declared.metering.Meter.{Meter}
use Rattle.cl_eval.specs.declared.metering.Stop.{Stop}
use Rattle.cl_eval.specs.declared.metering.Stop.TheVariants as stop
use Rattle.cl_lattice.specs.Expanded.{Expanded, ExpandedTypes}
use Rattle.cl_lattice.specs.Expanded as type
use Rattle.cl_lattice.specs.Members.{is_member, is_null, is_one_of}
use Rattle.cl_syntax.specs.ExprTree.{ExprTree}
use Rattle.cl_syntax.specs.TypeSpecTree.{TypeArgTrees, TypeSpecTree}
use Rattle.cl_value.specs.Data.{Data, Items, bool, int, item, list, none, null, rec, symbol, text}
use Rattle.cl_ptext.specs.Book.{Book, args_of, behind_first, first_spec, inherited_spec, inner_spec, separator_of}
use Rattle.cl_ptext.specs.Hosts.{NameEntries, name_of_number}
use Rattle.cl_ptext.specs.Methods.{bytes_in, predicates_of, presented}
use Rattle.cl_ptext.specs.Texts.{Writes, before_part, each_joined, host_text, list_text, method_or, name_or_plain, plain, string_text, text_by_first, text_by_some, text_of}

-- what never costs less than nothing
abbrev pub Rising : (Data → Writes) → Type 0
Rising write = (d : Data) (out : List ℕ) → Grows (write d out)

pub plain-rises : Rising plain
plain-rises d out c l = omega arith

pub joined-rises : (first : Bool) (s : ℕ) (write : Data → Writes) → Rising write → (ds : Items) (out : List ℕ) → Grows (each_joined first s write ds out)
joined-rises first s write g none out c l = omega arith
joined-rises first s write g (item d ds) out c l =
    grows-then (write d (before_part first s out)) (λ more. each_joined false s write ds more) (g d (before_part first s out)) (λ more. joined-rises false s write g ds more) c l

-- what stops at a part stops the whole
pub stop-joined : {A B : Type 0} → (f : A → List ℕ) (h : B → List ℕ) (first : Bool) (s : ℕ) (write : Data → Writes) → Rising write → (d : Data) (ds : Items)
    (out : List ℕ) (e : Stop) (m : Meter) (c l : ℕ)
    → Agrees f (Err e) m (write d (before_part first s out) c l) → Agrees h (Err e) m (each_joined first s write (item d ds) out c l)
stop-joined f h first s write g d ds out (stop.Trap k) m c l o = rw o refl
stop-joined f h first s write g d ds out stop.Memory m c l o =
    omega (arith, o, cost-after (write d (before_part first s out) c l) (λ more. each_joined false s write ds more) (λ more. joined-rises false s write g ds more))

list-rises : (s : ℕ) (write : Data → Writes) → Rising write → Rising (list_text s write)
list-rises s write g (int z) out c l = omega arith
list-rises s write g (bool b) out c l = omega arith
list-rises s write g (text x) out c l = omega arith
list-rises s write g (symbol x) out c l = omega arith
list-rises s write g null out c l = omega arith
list-rises s write g (list ds) out c l = joined-rises true s write g ds out c l
list-rises s write g (rec x ds) out c l = omega arith

string-rises : Rising string_text
string-rises (int z) out c l = omega arith
string-rises (bool b) out c l = omega arith
string-rises (text x) out c l = omega arith
string-rises (symbol x) out c l = omega arith
string-rises null out c l = omega arith
string-rises (list ds) out c l = omega arith
string-rises (rec x ds) out c l = omega arith

name-rises : (o : Option (List ℕ)) → Rising (name_or_plain o)
name-rises None d out c l = omega arith
name-rises (Some x) d out c l = omega arith

host-rises : (names : NameEntries) → Rising (host_text names)
host-rises names (int z) out c l = name-rises (name_of_number z names) (int z) out c l
host-rises names (bool b) out c l = omega arith
host-rises names (text x) out c l = omega arith
host-rises names (symbol x) out c l = omega arith
host-rises names null out c l = omega arith
host-rises names (list ds) out c l = omega arith
host-rises names (rec x ds) out c l = omega arith

-- the meaning of expressions does not lower the cost
abbrev pub Evaluating : Go → Type 0
Evaluating go = (level : ℕ) (env : Env) (t : ExprTree) → Grows (go level env t)

method-rises : (go : Go) → Evaluating go → (level : ℕ) (m : Option MethodDecl) (other : Data → Writes) → Rising other → Rising (method_or go level m other)
method-rises go e level None other g d out = g d out
method-rises go e level (Some m) other g d out =
    grows-then (presented go level m d) (λ x. give (out ++ x)) (grows-then (go level _ m.body) (λ v. _) (e level _ m.body) (λ v. grows-lift (bytes_in v))) (λ x c l. omega arith)

by_test : (b : Bool) (x y : Run (List ℕ)) → Grows x → Grows y → Grows (if b then x else y)
by_test true x y g h = g
by_test false x y g h = h

mutual
  pub text-rises : (b : Book) (go : Go) → Evaluating go → (level : ℕ) (t : Expanded) (s : TypeSpecTree) → Rising (text_of b go level t s)
  text-rises b go e level type.everything s d out c l = omega arith
  text-rises b go e level type.nothing s d out c l = omega arith
  text-rises b go e level type.boolean s d out c l = omega arith
  text-rises b go e level type.symbols s d out c l = omega arith
  text-rises b go e level type.blank_area s d out c l = omega arith
  text-rises b go e level type.command s d out c l = omega arith
  text-rises b go e level type.dialog_choice s d out c l = omega arith
  text-rises b go e level (type.integer low high) s d out c l = omega arith
  text-rises b go e level (type.string n) s d out c l = string-rises d out c l
  text-rises b go e level (type.member cs) s d out c l = omega arith
  text-rises b go e level (type.subset cs) s d out c l = list-rises (separator_of s) plain plain-rises d out c l
  text-rises b go e level (type.sequence t) s d out c l = list-rises (separator_of s) (text_of b go level t (inner_spec s)) (text-rises b go e level t (inner_spec s)) d out c l
  text-rises b go e level (type.some_of ts) s d out c l = some-rises b go e level ts (args_of s) d out c l
  text-rises b go e level (type.each_of ts) s d out c l = first-rises b go e level ts (args_of s) d out c l
  text-rises b go e level (type.null_or t) s d out c l =
      by_test (is_null d) (plain d out) (text_of b go level t (inner_spec s) d out) (plain-rises d out) (text-rises b go e level t (inner_spec s) d out) c l
  text-rises b go e level (type.token_or xs t) s d out c l =
      by_test (is_one_of xs d) (plain d out) (text_of b go level t (inner_spec s) d out) (plain-rises d out) (text-rises b go e level t (inner_spec s) d out) c l
  text-rises b go e level (type.record_type x) s d out c l = method-rises go e level (present_method x b.app) plain plain-rises d out c l
  text-rises b go e level (type.host x low high) s d out c l = host-rises (b.hosts x) d out c l
  text-rises b go e level (type.user x vs f t) s d out c l =
      method-rises go e level (present_method x b.app) (text_of b go level t (inherited_spec b x s)) (text-rises b go e level t (inherited_spec b x s)) d out c l
  text-rises b go e level (type.unknown x vs) s d out c l = omega arith

  pub some-rises : (b : Book) (go : Go) → Evaluating go → (level : ℕ) (ts : ExpandedTypes) (args : TypeArgTrees) → Rising (text_by_some b go level ts args)
  some-rises b go e level type.none args d out c l = omega arith
  some-rises b go e level (type.part t ts) args d out c l =
      by_test (is_member b.world (predicates_of b.app) d t) (text_of b go level t (first_spec args) d out) (text_by_some b go level ts (behind_first args) d out)
      (text-rises b go e level t (first_spec args) d out) (some-rises b go e level ts (behind_first args) d out) c l

  pub first-rises : (b : Book) (go : Go) → Evaluating go → (level : ℕ) (ts : ExpandedTypes) (args : TypeArgTrees) → Rising (text_by_first b go level ts args)
  first-rises b go e level type.none args d out c l = omega arith
  first-rises b go e level (type.part t ts) args d out c l = text-rises b go e level t (first_spec args) d out c l
