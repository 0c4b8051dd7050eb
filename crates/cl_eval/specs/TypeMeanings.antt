-- What the types of an application say of values: which are members of a type, what their texts are, and what texts read as; and which types
-- stand above which.
use Rattle.std.specs.Prelude.{◌≡◌, ◌≤◌, ℕ, Bool, true, List, [], ◌∷◌, Option, Some}
use Rattle.cl_value.specs.Data.{Data, text}
use Rattle.cl_syntax.specs.TypeSpecTree.{TypeSpecTree}
use Rattle.cl_application.specs.App.{present_method}
use Rattle.cl_application.specs.declared.applications.App.{App}
use Rattle.cl_application.specs.declared.declarations.MethodDecl.{MethodDecl}
use Rattle.cl_eval.specs.declared.metering.Limits.{Limits}
use Rattle.cl_eval.specs.Outcome.{Outcome, Gives, cost_of}
use Rattle.cl_eval.specs.Slots.{Slots}
use Rattle.cl_eval.specs.Statements.{Member}
use Rattle.cl_eval.specs.ReadPaths.{AgreeOn}

-- the text of a value by a type, on slots and under limits: the value that it is with its cost and its reach, or a trap
abbrev pub Presents : Type 0
Presents = Limits → Slots → TypeSpecTree → Data → Outcome Data

-- the object that a text reads as by a type, on slots; none where it reads as nothing, or an accept method ends with a trap
abbrev pub Reads : Type 0
Reads = Slots → TypeSpecTree → List ℕ → Option Data

-- what the types of an application mean: members, texts, precedence and subtypes
pub record TypeMeanings : Type 0 where
  pub holds : Member
  pub presents : Presents

-- which types stand above which: the precedence list of each by its name, without names where there is no such type, and which is a subtype
-- of which
pub record Hierarchy : Type 0 where
  pub precedence : List ℕ → List (List ℕ)
  pub subtype : TypeSpecTree → TypeSpecTree → Bool

-- ---- what texts keep to

-- a value that is a text
abbrev pub IsText : Data → Type 0
IsText (text bytes) = Unit {0}
IsText d = ⊥

-- the slots have the same values wherever a present method of the application reads one
abbrev pub AgreeInMethods : App → (slots other : Slots) → Type 0
AgreeInMethods app slots other =
    (x : List ℕ) (m : MethodDecl) → present_method x app ≡ Some m → (d : Data)
    → AgreeOn app m.body slots ((m.parameter, d) ∷ []) other ((m.parameter, d) ∷ [])

-- A value is a text, and its reach does not pass the depth of the limits. No cost passes their budget. What ends with a value under
-- some limits ends so under all limits that its cost and its reach do not pass. Slots count where present methods read them alone.
pub record AreTexts (app : App) (presents : Presents) : Type 0 where
  pub texts : (limits : Limits) (slots : Slots) (s : TypeSpecTree) (d x : Data) (cost reach : ℕ)
      → presents limits slots s d ≡ Gives x cost reach → IsText x × (reach ≤ limits.depth)
  pub paid : (limits : Limits) (slots : Slots) (s : TypeSpecTree) (d : Data) → cost_of (presents limits slots s d) ≤ limits.budget
  pub wider : (limits wider : Limits) (slots : Slots) (s : TypeSpecTree) (d x : Data) (cost reach : ℕ)
      → presents limits slots s d ≡ Gives x cost reach → cost ≤ wider.budget → reach ≤ wider.depth
      → presents wider slots s d ≡ Gives x cost reach
  pub sees : (limits : Limits) (slots other : Slots) → AgreeInMethods app slots other → (s : TypeSpecTree) (d : Data)
      → presents limits slots s d ≡ presents limits other s d

-- ---- what reading keeps to

-- what a text reads as is a member of the type
abbrev pub AreObjects : Member → Reads → Type 0
AreObjects holds reads = (slots : Slots) (s : TypeSpecTree) (x : List ℕ) (d : Data) → reads slots s x ≡ Some d → holds d s ≡ true
