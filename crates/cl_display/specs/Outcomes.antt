-- What a draw comes to, and the updates that are opened on the way there.
use Rattle.std.specs.Prelude.{ℕ}
use Rattle.cl_eval.specs.Outcome.{Outcome, Gives, Traps, Run, after}
use Rattle.cl_display.specs.Drawings.{DrawingAt}
use Rattle.cl_display.specs.Walks.{Walk, done, ◌then◌}

-- the drawing at the end or the kind of a trap, and the updates that were opened before it
pub record DrawOutcome : Type 0 where
  pub outcome : Outcome DrawingAt
  pub walk : Walk

-- from the cost so far and the deepest level so far
abbrev pub Draw : Type 0
Draw = ℕ → ℕ → DrawOutcome

-- a draw without its walk
abbrev pub run_of : Draw → Run DrawingAt
run_of m cost deepest = (m cost deepest).outcome

-- a draw that opens no update
abbrev pub opens_none : Run DrawingAt → Draw
opens_none m cost deepest = record { outcome = m cost deepest; walk = done }

-- the walk of what follows; none follows a trap
abbrev pub walk_after : {A : Type 0} → Outcome A → (A → Draw) → Walk
walk_after (Gives x cost deepest) f = (f x cost deepest).walk
walk_after (Traps kind cost deepest) f = done

-- a draw with the value of expressions, which open no update
infixl 10 ◌>->◌
abbrev pub ◌>->◌ : {A : Type 0} → Run A → (A → Draw) → Draw
(m >-> f) cost deepest = record {
  outcome = after (m cost deepest) (λ x. run_of (f x));
  walk = walk_after (m cost deepest) f;
}

-- a draw from what another left, with the updates of both
infixl 10 ◌>>=◌
abbrev pub ◌>>=◌ : Draw → (DrawingAt → Draw) → Draw
(m >>= f) cost deepest = record {
  outcome = after (m cost deepest).outcome (λ s. run_of (f s));
  walk = (m cost deepest).walk then walk_after (m cost deepest).outcome f;
}
