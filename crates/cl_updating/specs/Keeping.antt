-- What is kept of old records, in the program.
use Rattle.std.specs.Prelude.{◌≡◌, ℕ, ◌+◌, max, Result, Ok, Err}
use Rattle.cl_eval.specs.declared.metering.Meter.{Meter}
use Rattle.cl_eval.specs.declared.metering.Stop.{Stop}
use Rattle.cl_eval.specs.declared.metering.Stop.TheVariants.{Trap, Memory}
use Rattle.cl_medium.specs.Items.{move_item}
use Rattle.cl_record.specs.Marks.{history_marks}
use Rattle.cl_display.specs.Drawings.{DrawingAt, drawing_of}
use Rattle.cl_display.specs.Updates.{key_of, leave_update}
use Rattle.cl_display.specs.declared.drawings.Drawing.{Drawing}
use Rattle.cl_reuse.specs.Keeping.{kept_head, kept_part, shift_at}
use Rattle.cl_updating.specs.Levels.{old_of}
use Rattle.cl_updating.specs.Openings.{opening_of}
use Rattle.cl_updating.specs.Tallies.{with_kept}
use Rattle.cl_updating.specs.declared.levels.Old.{Old}
use Rattle.cl_updating.specs.declared.openings.Opening.{Opening}
use Rattle.cl_updating.specs.declared.tallies.Tally.{Tally}

-- what is drawn where an old update is kept at an opening
abbrev pub kept_drawing : Old → Opening → DrawingAt → DrawingAt
kept_drawing old opening s = leave_update
    (kept_head (shift_at old.piece.now.head (opening_of opening)) (key_of opening.key.now) old.piece.now.head)
    (kept_part (shift_at old.piece.now.head (opening_of opening)) old.piece.now.head (history_marks move_item old.piece.now.inside)) s

-- an old update was kept: it stands behind what was drawn, its cost and its reach count as they were, and it is in the tally
pub record KeepsOld (level : ℕ) (old : Old) (opening : Opening) (before after : Drawing) (m n : Meter) (a b : Tally) : Type 0 where
  pub drawing : drawing_of after ≡ kept_drawing old opening (drawing_of before)
  pub cost : n.cost ≡ m.cost + old.piece.now.head.measures.cost
  pub deepest : n.deepest ≡ max m.deepest (level + old.piece.now.head.measures.reach)
  pub tally : b ≡ with_kept (old_of old) (opening_of opening) a

-- what is answered of it; only want of memory is in its way
abbrev pub KeepsUpdate : (level : ℕ) → Old → Opening → Drawing → Result (Unit {0}) Stop → Drawing → (m n : Meter) → (a b : Tally) → Type 0
KeepsUpdate level old opening before (Ok u) after m n a b = KeepsOld level old opening before after m n a b
KeepsUpdate level old opening before (Err (Trap k)) after m n a b = ⊥
KeepsUpdate level old opening before (Err Memory) after m n a b = Unit {0}
