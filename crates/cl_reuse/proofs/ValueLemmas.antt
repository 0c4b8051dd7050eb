-- Expressions in the rows of display forms come to the same where the paths that they read have the same values.
use Rattle.std.proofs.Common.{◌≡◌, ℕ, ◌-◌, Bool, true, false, if◌then◌else◌, inl, inr, List, [], ◌∷◌, ◌++◌, Option, Some, None, refl}
use Rattle.cl_value.specs.Data.{Data}
use Rattle.cl_syntax.specs.ExprTree.{ExprTree, ExprTrees, none, part}
use Rattle.cl_syntax.specs.Paths.{Along}
use Rattle.cl_syntax.specs.TypeSpecTree.{TypeSpecTree}
use Rattle.cl_syntax.specs.declared.paths.Path.{Path}
use Rattle.cl_syntax.specs.declared.paths.Root.{Root}
use Rattle.cl_syntax.specs.declared.paths.Root.TheVariants as root
use Rattle.cl_syntax.specs.declared.sites.Site.{Site}
use Rattle.cl_application.specs.declared.applications.App.{App}
use Rattle.cl_eval.specs.Meaning.{Go, each, means, parts_of_list, truth_of}
use Rattle.cl_eval.specs.Operators.{elements, truth}
use Rattle.cl_eval.specs.Outcome.{give, lift, ◌>>=◌}
use Rattle.cl_eval.specs.PathValues.{dig, root_value, value_at}
use Rattle.cl_eval.specs.ReadPaths.{Apart, IsSlot, Reads, ReadsAmong, ReadsCache, ReadsId, ReadsSpec, Within}
use Rattle.cl_eval.specs.Slots.{Env, Slots, is_name, value_named}
use Rattle.cl_eval.specs.TypeMeanings.{Presents}
use Rattle.cl_eval.proofs.SameLemmas.{same-whole}
use Rattle.cl_display.specs.Presentations.{count_in, texts_on}
use Rattle.cl_display.specs.Siblings.{Siblings}
use Rattle.cl_display.specs.Updates.{cache_of, id_of}
use Rattle.cl_reuse.specs.ReadValues.{SeesReads}

module _ (app : App) (slots other : Slots) where
  -- the same values at these paths, each read through so many calls
  abbrev pub On : (Path → ℕ → Type 0) → Env → Env → Type 0
  On P e e' = (p : Path) (n : ℕ) → P p n → value_at app p slots e ≡ value_at app p other e'

  -- where a binding does not hide it
  hidden : (along : Along) (b : Bool) (d : Data) (o o' : Option Data) → (b ≡ false → dig app along o ≡ dig app along o')
      → dig app along (if b then Some d else o) ≡ dig app along (if b then Some d else o')
  hidden along true d o o' same = refl
  hidden along false d o o' same = same refl

  behind_root : (r : Root) (along : Along) (x : List ℕ) (d : Data) (e e' : Env)
      → (Apart x r → dig app along (root_value r slots e) ≡ dig app along (root_value r other e'))
      → dig app along (root_value r slots ((x, d) ∷ e)) ≡ dig app along (root_value r other ((x, d) ∷ e'))
  behind_root (root.Variable y) along x d e e' a = hidden along (is_name x y) d (value_named y e) (value_named y e') a
  behind_root (root.Slot y) along x d e e' a = a tt

  -- behind a binding of one value in both
  pub behind : (P : Path → ℕ → Type 0) (x : List ℕ) (d : Data) (e e' : Env) → On (λ p n. Apart x p.root × P p n) e e'
      → On P ((x, d) ∷ e) ((x, d) ∷ e')
  behind P x d e e' a p n h = behind_root p.root p.fields x d e e' (λ apart. a p n (apart, h))

  inside_root : (r : Root) (along : Along) (e o o' : Env) → (IsSlot r → dig app along (root_value r slots o) ≡ dig app along (root_value r other o'))
      → dig app along (root_value r slots e) ≡ dig app along (root_value r other e)
  inside_root (root.Variable y) along e o o' a = refl
  inside_root (root.Slot y) along e o o' a = a tt

  -- what is called with the same values reads slots alone
  pub inside : (P : Path → ℕ → Type 0) (e o o' : Env) → ((p : Path) (n : ℕ) → IsSlot p.root → P p n → value_at app p slots o ≡ value_at app p other o')
      → On P e e
  inside P e o o' a p n h = inside_root p.root p.fields e o o' (λ slot. a p n slot h)

  abbrev pub SameValues : Go → Go → ℕ → Type 0
  SameValues value value' level =
      (e e' : Env) (t : ExprTree) → On (λ p n. Reads (Within n app p) p [] t) e e' → value level e t ≡ value' level e' t

  pub same-values : (left budget level : ℕ) → SameValues (means left budget app slots) (means left budget app other) level
  same-values left budget level e e' t a = same-whole app slots other left budget level e e' t a

  module _ (value value' : Go) (level : ℕ) (v : SameValues value value' level) where
    pub same-tested : (e e' : Env) (t : ExprTree) → On (λ p n. Reads (Within n app p) p [] t) e e' → truth_of value level e t ≡ truth_of value' level e' t
    same-tested e e' t a = λ i. v e e' t a i >>= λ d. lift (truth d)

    pub same-listed : (e e' : Env) (t : ExprTree) → On (λ p n. Reads (Within n app p) p [] t) e e'
        → parts_of_list value level e t ≡ parts_of_list value' level e' t
    same-listed e e' t a = λ i. v e e' t a i >>= λ d. lift (elements d)

    pub same-each : (e e' : Env) (ts : ExprTrees) → On (λ p n. ReadsAmong (Within n app p) p [] ts) e e' → (ds : List Data)
        → each value level e ts ds ≡ each value' level e' ts ds
    same-each e e' none a ds = refl
    same-each e e' (part t ts) a ds =
        λ i. v e e' t (λ p n h. a p n (inl h)) i >>= λ d. same-each e e' ts (λ p n h. a p n (inr h)) (ds ++ d ∷ []) i

    pub same-id : (e e' : Env) (siblings : Siblings) (site : Site) (t : Option ExprTree) → On (λ p n. ReadsId (Within n app p) p t) e e'
        → id_of value level e siblings site t ≡ id_of value' level e' siblings site t
    same-id e e' siblings site None a = refl
    same-id e e' siblings site (Some t) a = v e e' t a

    pub same-cache : (e e' : Env) (ts : Option ExprTrees) → On (λ p n. ReadsCache (Within n app p) p ts) e e'
        → cache_of value level e ts ≡ cache_of value' level e' ts
    same-cache e e' None a = refl
    same-cache e e' (Some ts) a = λ i. same-each e e' ts a [] i >>= λ ds. give (Some ds)

  -- the texts of values
  pub same-texts : (presents : Presents) → SeesReads app presents → (budget left level : ℕ) (spec : TypeSpecTree) (e e' : Env)
      → On (λ p n. ReadsSpec (Within n app p) spec) e e' → (d : Data)
      → texts_on presents slots budget left level spec d ≡ texts_on presents other budget left level spec d
  same-texts presents sees budget left level spec e e' a d = λ i cost deepest.
      count_in level (sees.same (record { budget = budget - cost; depth = left }) slots other spec
      (inside (λ p n. ReadsSpec (Within n app p) spec) [] e e' (λ p n slot h. a p n h)) d i) cost deepest
