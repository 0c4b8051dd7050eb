-- Texts by two meanings that agree on the bodies of present methods.
use Rattle.std.proofs.Common.{◌≡◌, ℕ, Bool, true, false, List, [], ◌∷◌, ◌++◌, refl, if◌then◌else◌}
use Rattle.std.specs.Prelude.{Option, Some, None}
use Rattle.cl_application.specs.App.{present_method}
use Rattle.cl_application.specs.declared.declarations.MethodDecl.{MethodDecl}
use Rattle.cl_eval.specs.Meaning.{Go}
use Rattle.cl_eval.specs.Outcome.{give, lift, ◌>>=◌}
use Rattle.cl_lattice.specs.Expanded.{Expanded, ExpandedTypes}
use Rattle.cl_lattice.specs.Expanded as type
use Rattle.cl_lattice.specs.Members.{is_member, is_null, is_one_of}
use Rattle.cl_syntax.specs.TypeSpecTree.{TypeArgTrees, TypeSpecTree}
use Rattle.cl_value.specs.Data.{Data, Items, bool, int, item, list, none, null, rec, symbol, text}
use Rattle.cl_ptext.specs.Book.{Book, args_of, behind_first, first_spec, inherited_spec, inner_spec, separator_of}
use Rattle.cl_ptext.specs.Methods.{bytes_in, predicates_of}
use Rattle.cl_ptext.specs.Texts.{Writes, before_part, each_joined, list_text, method_or, plain, text_by_first, text_by_some, text_of}

-- two ways put the same behind the same bytes
abbrev pub Same : (Data → Writes) → (Data → Writes) → Type 0
Same write write' = (d : Data) (out : List ℕ) → write d out ≡ write' d out

-- the same body means the same, with its parameter bound
abbrev pub SameBodies : Book → ℕ → Go → Go → Type 0
SameBodies b level go go' =
    (x : List ℕ) (m : MethodDecl) → present_method x b.app ≡ Some m → (d : Data) → go level ((m.parameter, d) ∷ []) m.body ≡ go' level ((m.parameter, d) ∷ []) m.body

-- joined texts are the same, if what puts each is
joined-same : (first : Bool) (s : ℕ) (write write' : Data → Writes) → Same write write' → (ds : Items) (out : List ℕ)
    → each_joined first s write ds out ≡ each_joined first s write' ds out
joined-same first s write write' h none out = refl
joined-same first s write write' h (item d ds) out =
    λ i. h d (before_part first s out) i >>= λ more. joined-same false s write write' h ds more i

-- the text of a list is the same, if what puts each part is
list-same : (s : ℕ) (write write' : Data → Writes) → Same write write' → Same (list_text s write) (list_text s write')
list-same s write write' h (int z) out = refl
list-same s write write' h (bool b) out = refl
list-same s write write' h (text x) out = refl
list-same s write write' h (symbol x) out = refl
list-same s write write' h null out = refl
list-same s write write' h (list ds) out = joined-same true s write write' h ds out
list-same s write write' h (rec x ds) out = refl

-- a text by a present method is the same, if its body and the other way are
method-same : (go go' : Go) (level : ℕ) (o : Option MethodDecl) (other other' : Data → Writes)
    → ((m : MethodDecl) → o ≡ Some m → (d : Data) → go level ((m.parameter, d) ∷ []) m.body ≡ go' level ((m.parameter, d) ∷ []) m.body)
    → Same other other' → Same (method_or go level o other) (method_or go' level o other')
method-same go go' level None other other' g h d out = h d out
method-same go go' level (Some m) other other' g h d out = λ i. (g m refl d i >>= λ e. lift (bytes_in e)) >>= λ x. give (out ++ x)

mutual
  -- a text by a type is the same, if the bodies of present methods are
  pub text-same : (b : Book) (go go' : Go) (level : ℕ) → SameBodies b level go go' → (t : Expanded) (s : TypeSpecTree) → Same (text_of b go level t s) (text_of b go' level t s)
  text-same b go go' level g type.everything s d out = refl
  text-same b go go' level g type.nothing s d out = refl
  text-same b go go' level g type.boolean s d out = refl
  text-same b go go' level g type.symbols s d out = refl
  text-same b go go' level g type.blank_area s d out = refl
  text-same b go go' level g type.command s d out = refl
  text-same b go go' level g type.dialog_choice s d out = refl
  text-same b go go' level g (type.integer low high) s d out = refl
  text-same b go go' level g (type.string n) s d out = refl
  text-same b go go' level g (type.member cs) s d out = refl
  text-same b go go' level g (type.subset cs) s d out = refl
  text-same b go go' level g (type.sequence t) s d out =
      list-same (separator_of s) (text_of b go level t (inner_spec s)) (text_of b go' level t (inner_spec s)) (text-same b go go' level g t (inner_spec s)) d out
  text-same b go go' level g (type.some_of ts) s d out = some-same b go go' level g ts (args_of s) d out
  text-same b go go' level g (type.each_of ts) s d out = first-same b go go' level g ts (args_of s) d out
  text-same b go go' level g (type.null_or t) s d out = λ i. if is_null d then plain d out else text-same b go go' level g t (inner_spec s) d out i
  text-same b go go' level g (type.token_or xs t) s d out = λ i. if is_one_of xs d then plain d out else text-same b go go' level g t (inner_spec s) d out i
  text-same b go go' level g (type.record_type x) s d out = method-same go go' level (present_method x b.app) plain plain (g x) (λ e more. refl) d out
  text-same b go go' level g (type.host x low high) s d out = refl
  text-same b go go' level g (type.user x vs f t) s d out =
      method-same go go' level (present_method x b.app) (text_of b go level t (inherited_spec b x s)) (text_of b go' level t (inherited_spec b x s)) (g x)
      (text-same b go go' level g t (inherited_spec b x s)) d out
  text-same b go go' level g (type.unknown x vs) s d out = refl

  -- a text by the first part of which the value is a member is the same
  pub some-same : (b : Book) (go go' : Go) (level : ℕ) → SameBodies b level go go' → (ts : ExpandedTypes) (args : TypeArgTrees) → Same (text_by_some b go level ts args)
      (text_by_some b go' level ts args)
  some-same b go go' level g type.none args d out = refl
  some-same b go go' level g (type.part t ts) args d out =
      λ i. if is_member b.world (predicates_of b.app) d t then text-same b go go' level g t (first_spec args) d out i else some-same b go go' level g ts (behind_first args) d out i

  -- a text by the first part is the same
  pub first-same : (b : Book) (go go' : Go) (level : ℕ) → SameBodies b level go go' → (ts : ExpandedTypes) (args : TypeArgTrees) → Same (text_by_first b go level ts args)
      (text_by_first b go' level ts args)
  first-same b go go' level g type.none args d out = refl
  first-same b go go' level g (type.part t ts) args d out = text-same b go go' level g t (first_spec args) d out
