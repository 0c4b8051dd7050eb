-- What the evaluation of a display answers, against what the definition says.
use Rattle.std.specs.Prelude.{◌≡◌, ◌≤◌, Bool, true, false}
use Rattle.cl_eval.specs.Outcome.{Outcome, Gives, Traps}
use Rattle.cl_medium.specs.Items.{move_item}
use Rattle.cl_record.specs.Counts.{count_of}
use Rattle.cl_record.specs.Marks.{history_marks}
use Rattle.cl_display.specs.Drawings.{DrawingAt}
use Rattle.cl_display.specs.declared.drawings.TheConstants.{MAX_WEIGHT}
use Rattle.cl_display.specs.declared.displays.Shown.{Shown}
use Rattle.cl_display.specs.declared.displays.Shown.TheVariants as shown
use Rattle.cl_display.specs.Script.{trap_history}

-- the history and the variant that belong to an outcome
abbrev pub Shows : Shown → Outcome DrawingAt → Type 0
Shows (shown.Built h) (Gives s cost deepest) = history_marks move_item h ≡ s.part.marks
Shows (shown.Built h) (Traps kind cost deepest) = ⊥
Shows (shown.Trapped h k) (Gives s cost deepest) = ⊥
Shows (shown.Trapped h k) (Traps kind cost deepest) = (k ≡ kind) × (history_marks move_item h ≡ trap_history kind)
Shows shown.Memory o = Unit {0}

-- whether there was no memory
abbrev pub met_memory : Shown → Bool
met_memory (shown.Built h) = false
met_memory (shown.Trapped h k) = false
met_memory shown.Memory = true

-- a history draws no more items than it may weigh
abbrev pub IsFew : Shown → Type 0
IsFew (shown.Built h) = count_of (history_marks move_item h) ≤ MAX_WEIGHT
IsFew (shown.Trapped h k) = count_of (history_marks move_item h) ≤ MAX_WEIGHT
IsFew shown.Memory = Unit {0}
