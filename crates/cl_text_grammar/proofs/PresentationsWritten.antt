-- What is read of an object with its type and its box writes it.
use Rattle.std.proofs.Common.{◌≡◌, ℕ, Bool, true, false, List, [], ◌∷◌, refl, sym}
use Rattle.std.specs.Prelude.{Option, Some, None, ◌||◌, option_and_then, codes}
use Rattle.std.proofs.Math.Path.{subst}
use denote.Enum.Bare.{same_true}
use Rattle.cl_forms.specs.contracts.keys.Key.{the_type}
use Rattle.cl_syntax.specs.PresentationTree.{PresentationTree}
use Rattle.cl_syntax.specs.ShapeTree.{ShapeTrees}
use Rattle.cl_syntax.specs.ShapeTree as shape
use Rattle.cl_forms.specs.Datum.{Datum, number, literal, word, quoted, stray, list, in_order, parts_of}
use Rattle.cl_forms.specs.Keys.{Keyed, same_key, is_among, values_of, keyed_pairs}
use Rattle.cl_forms.specs.Naming.{symbol_of}
use Rattle.cl_forms.specs.declared.keys.Key.{Key}
use Rattle.cl_forms.specs.declared.keys.Key.TheVariants as key
use Rattle.cl_words.specs.declared.signatures.Signatures.{Signatures}
use Rattle.cl_expressions.specs.Scopes.{Names}
use Rattle.cl_bodies.specs.Presentations.{presentation_keys, truth_named, single_box_of, single_box_in, parse_boxed, parse_presented}
use Rattle.cl_grammar.specs.Heads.{CallsNames}
use Rattle.cl_grammar.proofs.Endings.{Ends, gives, refuses, binds}
use Rattle.cl_grammar.proofs.Spelled.{Finds, nothing, word_is, of_some, some_same, nothing_found}
use Rattle.cl_grammar.proofs.Written.{expression_ends}
use Rattle.cl_text_grammar.specs.WritesShapes.{WritesBox, no_box, the_box, not_the_box, WritesPresentation, an_object}
use Rattle.cl_text_grammar.specs.WritesShapes.{WritesShapeForm, WritesShapes, a_presentation}
use Rattle.cl_text_grammar.proofs.KeyWords.{key_word, a_pair, ArePairs, no_pairs, more_pairs, StandApart, Keys, pairs_stand}
use Rattle.cl_text_grammar.proofs.TypesWritten.{type_ends}

-- ---- the box

abbrev truth_word : Bool → List ℕ
truth_word true = codes "true"
truth_word false = codes "false"

truth_words : (x : List ℕ) → Finds (λ b. x ≡ truth_word b) (truth_named x)
truth_words x = word_is true x (codes "true") (λ e. e) (word_is false x (codes "false") (λ e. e) nothing)

box_said : (b : Bool) (h at : ℕ) → WritesBox b (word (codes ":single-box") h ∷ word (truth_word b) at ∷ [])
box_said true h at = the_box
box_said false h at = not_the_box

box_named : (b : Bool) (h : ℕ) (v : Datum) → truth_named (symbol_of v) ≡ Some b → WritesBox b (word (codes ":single-box") h ∷ v ∷ [])
box_named b h (word x at) e =
    subst (λ y. WritesBox b (word (codes ":single-box") h ∷ word y at ∷ [])) (sym (of_some b (truth_named x) e (truth_words x))) (box_said b h at)
box_named b h (number z at) e = absurd (nothing_found e)
box_named b h (literal s at) e = absurd (nothing_found e)
box_named b h (quoted s at name_at) e = absurd (nothing_found e)
box_named b h (stray at) e = absurd (nothing_found e)
box_named b h (list ds at) e = absurd (nothing_found e)

-- ---- the key

true_false : true ≡ false → ⊥
true_false e = cc

first_holds : (b : Bool) → (b || false) ≡ true → b ≡ true
first_holds true e = refl
first_holds false e = e

only_key : (k : Key) → is_among presentation_keys k ≡ true → key.SingleBox ≡ k
only_key k e = sym (same_true the_type tt k key.SingleBox (first_holds (same_key k key.SingleBox) e))

-- the key with what stands behind it
abbrev keyed : Key → ℕ → Datum → Keyed
keyed k h v = record { key = k; at = h; values = v ∷ [] }

-- no second key stands behind it
no_second : (h g : ℕ) (v u : Datum) (k : Key) (ks : List Keyed) → key.SingleBox ≡ k → StandApart [] (keyed key.SingleBox h v ∷ keyed k g u ∷ ks) → ⊥
no_second h g v u k ks e a = true_false (subst (λ j. StandApart [] (keyed key.SingleBox h v ∷ keyed j g u ∷ ks)) (sym e) a).1.0

one_pair : (b : Bool) (h : ℕ) (v : Datum) (ks : List Keyed) (ds : List Datum) → ArePairs presentation_keys ks ds
    → StandApart [] (keyed key.SingleBox h v ∷ ks) → truth_named (symbol_of v) ≡ Some b → WritesBox b (word (codes ":single-box") h ∷ v ∷ ds)
one_pair b h v ks ds no_pairs a e = box_named b h v e
one_pair b h v ks ds (more_pairs {ks = js} (a_pair {k} {h = g} {v = u} i) more) a e = absurd (no_second h g v u k js (only_key k i) a)

pairs_boxed : (b : Bool) (ks : List Keyed) (ds : List Datum) → ArePairs presentation_keys ks ds → StandApart [] ks
    → single_box_of (values_of key.SingleBox ks) ≡ Some b → WritesBox b ds
pairs_boxed b ks ds no_pairs a e = subst (λ c. WritesBox c []) (some_same e) no_box
pairs_boxed b ks ds (more_pairs {ks = js} {ds = es} (a_pair {k} {h} {v} i) more) a e =
    subst
    (λ j. StandApart [] (keyed j h v ∷ js) → single_box_of (values_of key.SingleBox (keyed j h v ∷ js)) ≡ Some b → WritesBox b (word (key_word j) h ∷ v ∷ es))
    (only_key k i) (λ f g. one_pair b h v js es more f g) a e

keys_boxed : (b : Bool) (ds : List Datum) (o : Option (List Keyed)) → keyed_pairs presentation_keys [] ds ≡ o
    → option_and_then (λ ks. single_box_of (values_of key.SingleBox ks)) o ≡ Some b → WritesBox b ds
keys_boxed b ds None f e = absurd (nothing_found e)
keys_boxed b ds (Some ks) f e =
    let k : Keys (ArePairs presentation_keys) [] ks ds = pairs_stand presentation_keys [] ks ds f in
    pairs_boxed b k.more ds k.stand k.apart (subst (λ js. single_box_of (values_of key.SingleBox js) ≡ Some b) k.whole e)

boxed : (b : Bool) (ds : List Datum) → single_box_in ds ≡ Some b → WritesBox b ds
boxed b ds e = keys_boxed b ds (keyed_pairs presentation_keys [] ds) refl e

-- ---- the parts of the list

-- what is presented writes the parts of the datum, which is a list
abbrev pub WritesOpening : Signatures → PresentationTree → Datum → Type 0
WritesOpening w p (list ds at) = WritesPresentation w p (in_order ds)
WritesOpening w p (number z at) = ⊥
WritesOpening w p (literal s at) = ⊥
WritesOpening w p (word s at) = ⊥
WritesOpening w p (quoted s at name_at) = ⊥
WritesOpening w p (stray at) = ⊥

module _ (w : Signatures) (names : CallsNames w) where
  object_ends : (at : ℕ) (e s : Datum) (ds : List Datum) (o : Option Bool) (env : Names) → single_box_in ds ≡ o
      → Ends (λ p. WritesPresentation w p (e ∷ s ∷ ds)) (parse_boxed w at e s o env)
  object_ends at e s ds None env f = refuses
  object_ends at e s ds (Some b) env f =
      binds (expression_ends w names e env) λ t i. binds (type_ends w [] s) λ spec j. gives (an_object i j (boxed b ds f))

  parts_end : (at : ℕ) (ds : List Datum) (env : Names) → Ends (λ p. WritesPresentation w p ds) (parse_presented w at ds env)
  parts_end at [] env = refuses
  parts_end at (e ∷ []) env = refuses
  parts_end at (e ∷ s ∷ ds) env = object_ends at e s ds (single_box_in ds) env refl

  pub opening_ends : (at : ℕ) (d : Datum) (env : Names) → Ends (λ p. WritesOpening w p d) (parse_presented w at (parts_of d) env)
  opening_ends at (list ds list_at) env = parts_end at (in_order ds) env
  opening_ends at (number z d_at) env = refuses
  opening_ends at (literal s d_at) env = refuses
  opening_ends at (word s d_at) env = refuses
  opening_ends at (quoted s d_at name_at) env = refuses
  opening_ends at (stray d_at) env = refuses

-- behind the head, with its body, it writes a form
pub presentation_writes : (w : Signatures) (at : ℕ) (p : PresentationTree) (fs : ShapeTrees) (d : Datum) (ds : List Datum) (h : ℕ) → WritesOpening w p d
    → WritesShapes w fs ds → WritesShapeForm w at (shape.AsPresentation p fs) (word (codes "with-output-as-presentation") h ∷ d ∷ ds)
presentation_writes w at p fs (list es list_at) ds h i j = a_presentation i j
presentation_writes w at p fs (number z d_at) ds h i j = absurd i
presentation_writes w at p fs (literal s d_at) ds h i j = absurd i
presentation_writes w at p fs (word s d_at) ds h i j = absurd i
presentation_writes w at p fs (quoted s d_at name_at) ds h i j = absurd i
presentation_writes w at p fs (stray d_at) ds h i j = absurd i
