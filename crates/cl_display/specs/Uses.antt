-- Which forms use the margin and the origin that a body starts with.
use Rattle.std.specs.Prelude.{◌≡◌, ℕ, ◌⊎◌, true}
use Rattle.cl_syntax.specs.ShapeTree as shape
use Rattle.cl_syntax.specs.ShapeTree.{ShapeTree, ShapeTrees}
use Rattle.cl_eval.specs.Outcome.{Outcome, Gives, Traps}
use Rattle.cl_eval.specs.Slots.{Env}
use Rattle.cl_display.specs.Drawings.{DrawingAt}
use Rattle.cl_display.specs.Fresh.{Allowance, Bodies, Draws}

-- this holds of the drawing at an end without a trap
abbrev pub EndsWith : (DrawingAt → Type 0) → Outcome DrawingAt → Type 0
EndsWith P (Gives t cost deepest) = P t
EndsWith P (Traps kind cost deepest) = Unit {0}

-- the second is used where the first is, neither more nor less
pub record UsesNeither (s t : DrawingAt) : Type 0 where
  pub margin : t.part.margin_used ≡ s.part.margin_used
  pub origin : t.part.origin_used ≡ s.part.origin_used

-- the margin is used, and the origin no more than before
pub record UsesMargin (s t : DrawingAt) : Type 0 where
  pub margin : t.part.margin_used ≡ true
  pub origin : t.part.origin_used ≡ s.part.origin_used

-- the margin is used no more than before, and the origin where something was drawn
pub record UsesOrigin (s t : DrawingAt) : Type 0 where
  pub margin : t.part.margin_used ≡ s.part.margin_used
  pub origin : (t.part ≡ s.part) ⊎ (t.part.origin_used ≡ true)

-- the margin is used
abbrev pub HasUsedMargin : DrawingAt → Type 0
HasUsedMargin t = t.part.margin_used ≡ true

-- none of the forms inside uses either
abbrev pub NoneUses : Draws → Type 0
NoneUses go = (level : ℕ) (env : Env) (f : ShapeTree) (s : DrawingAt) (cost deepest : ℕ)
    → EndsWith (UsesNeither s) (go level env f s cost deepest).outcome

-- none of the forms in the bodies of updates uses either
abbrev pub NoBodyUses : Bodies → Type 0
NoBodyUses bodies = (allowed : Allowance) (env : Env) (body : ShapeTrees) (s : DrawingAt) → EndsWith (UsesNeither s) (bodies.draw allowed env body s).outcome

-- the forms that use neither but by the forms inside
abbrev pub IsPlain : ShapeTree → Type 0
IsPlain (shape.WriteText t) = Unit {0}
IsPlain (shape.Ink t body) = Unit {0}
IsPlain (shape.Present t spec) = Unit {0}
IsPlain (shape.AsPresentation p body) = Unit {0}
IsPlain (shape.Update u body) = Unit {0}
IsPlain (shape.If t f g) = Unit {0}
IsPlain (shape.When t body) = Unit {0}
IsPlain (shape.Let bs body) = Unit {0}
IsPlain (shape.Dolist x t body) = Unit {0}
IsPlain (shape.Progn body) = Unit {0}
IsPlain (shape.Call f ts) = Unit {0}
IsPlain f = ⊥
