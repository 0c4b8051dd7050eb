-- The script of display forms: the marks of the history that they leave when they are evaluated once, from nothing.
use Rattle.std.specs.Prelude.{ℕ, List, [], ◌∷◌, ◌++◌, codes}
use Rattle.std.specs.Fmt.{decimal}
use Rattle.cl_syntax.specs.ShapeTree.{ShapeTree, shape_trees_of}
use Rattle.cl_eval.specs.declared.metering.Limits.{Limits}
use Rattle.cl_eval.specs.Outcome.{Outcome, Gives, Traps}
use Rattle.cl_eval.specs.Slots.{Slots, Env}
use Rattle.cl_eval.specs.Statements.{Member}
use Rattle.cl_eval.specs.TypeMeanings.{Presents}
use Rattle.cl_eval.specs.declared.programs.Program.{Program}
use Rattle.cl_medium.specs.Ambients.{ambient_start}
use Rattle.cl_medium.specs.Drawing.{text_leaf}
use Rattle.cl_medium.specs.Items.{Item}
use Rattle.cl_record.specs.Marks.{Mark, draw}
use Rattle.cl_display.specs.Drawings.{DrawingAt, blank_drawing}
use Rattle.cl_display.specs.declared.drawings.TheConstants.{MAX_WEIGHT}
use Rattle.cl_display.specs.Fresh.{Allowance, Scene, draws, in_order}
use Rattle.cl_display.specs.Outcomes.{DrawOutcome}

-- what a whole display is allowed
abbrev pub whole_allowance : Limits → Allowance
whole_allowance limits = record { budget = limits.budget; weight = MAX_WEIGHT }

-- display forms with these variables, from a blank drawing
unfoldable pub fresh : Limits → Scene → List ShapeTree → Env → DrawOutcome
fresh limits scene forms env =
    in_order (draws limits.depth (whole_allowance limits) scene) 0 env (shape_trees_of forms) blank_drawing 0 0

-- what the displays of a program are drawn of on these slots
abbrev pub scene_of : {T : Type 0} → (T → Member) → (T → Presents) → Program T → Slots → Scene
scene_of holds presents program slots = record {
  app = program.app.now;
  slots = slots;
  types = record { holds = holds program.types.now; presents = presents program.types.now };
}

-- the one mark of a display that trapped
abbrev pub trap_history : ℕ → List (Mark Item)
trap_history kind = draw (text_leaf ambient_start (codes "trap " ++ decimal kind)) ∷ []

-- the marks of the history that a display leaves
abbrev pub history_of : Outcome DrawingAt → List (Mark Item)
history_of (Gives s cost deepest) = s.part.marks
history_of (Traps kind cost deepest) = trap_history kind

-- the marks of these forms
abbrev pub script : Limits → Scene → List ShapeTree → Env → List (Mark Item)
script limits scene forms env = history_of (fresh limits scene forms env).outcome
