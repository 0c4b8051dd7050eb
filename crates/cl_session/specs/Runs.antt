-- The runs of commands, and what the handling of a gesture comes to.
use Rattle.std.specs.Prelude.{ℕ, Bool, false, if◌then◌else◌, List, [], ◌∷◌, ◌++◌, Option, Some, None, option_map, unwrap_or, codes}
use Rattle.std.specs.Fmt.{decimal}
use Rattle.std.specs.Str.{bytes_eq}
use Rattle.cl_application.specs.App.{dialog_named}
use Rattle.cl_application.specs.declared.applications.App.{App}
use Rattle.cl_application.specs.declared.declarations.ArgumentDecl.{ArgumentDecl}
use Rattle.cl_application.specs.declared.declarations.CommandDecl.{CommandDecl}
use Rattle.cl_dialog.specs.OpenDialog.{OpenDialog}
use Rattle.cl_dialog.specs.Opened.{opened}
use Rattle.cl_eval.specs.Outcome.{Outcome, Gives, Traps}
use Rattle.cl_eval.specs.Slots.{Env, Slots}
use Rattle.cl_eval.specs.Executed.{outcome_of_exec}
use Rattle.cl_eval.specs.declared.effects.Effects.{Effects}
use Rattle.cl_frame.specs.Ground.{Ground}
use Rattle.cl_parser.specs.Tokens.{Scene}
use Rattle.cl_session.specs.declared.handling.After.{After}
use Rattle.cl_session.specs.declared.handling.After.TheVariants as after
use Rattle.cl_session.specs.World.{Enabled, World}
use Rattle.cl_value.specs.Data.{Data}

-- what the handling of a gesture comes to: its own replies, the world then, what follows it, and its cost
pub record Handled : Type 0 where
  pub replies : List (List ℕ)
  pub world : World
  pub after : After
  pub cost : ℕ

-- these replies, and nothing changes
abbrev pub tell : World → (cost : ℕ) → List (List ℕ) → Handled
tell w cost replies = record { replies = replies; world = w; after = after.Nothing; cost = cost }

-- one reply, and nothing changes
abbrev pub refuse : World → (cost : ℕ) → List ℕ → Handled
refuse w cost reply = tell w cost (reply ∷ [])

-- `= TEXT` for each text that the command replied
abbrev pub text_lines : List (List ℕ) → List (List ℕ)
text_lines [] = []
text_lines (t ∷ ts) = (codes "= " ++ t) ∷ text_lines ts

-- the lines of a command that was run: `ok NAME` and its texts
abbrev pub ok_lines : List ℕ → List (List ℕ) → List (List ℕ)
ok_lines name replies = (codes "ok " ++ name) ∷ text_lines replies

-- the line of a command that trapped
abbrev pub command_trap_line : ℕ → List ℕ
command_trap_line kind = codes "! trap " ++ decimal kind

-- with one command switched on or off, if there is such a command
abbrev pub switched : List ℕ × Bool → Enabled → Enabled
switched s enabled x = if bytes_eq x s.0 then option_map (λ on. s.1) (enabled x) else enabled x

-- with commands switched on or off, one after another
abbrev pub all_switched : List (List ℕ × Bool) → Enabled → Enabled
all_switched [] enabled = enabled
all_switched (s ∷ ss) enabled = all_switched ss (switched s enabled)

-- the dialog of that name as it opens; none where no dialog was opened
abbrev pub opened_by : App → Option (List ℕ) → Option OpenDialog
opened_by app None = None
opened_by app (Some x) = option_map (opened app) (dialog_named x app)

-- the run of a command of this command-line name: an end without a trap commits the slots, what was switched on and off, and the dialog that
-- was opened last, if one was; and it empties the line. A trap leaves all of it.
abbrev pub run_command : App → List ℕ → World → Outcome Effects → Handled
run_command app name w (Gives effects cost deepest) = record {
  replies = ok_lines name effects.replies;
  world = record w {
    slots = effects.slots;
    line = [];
    enabled = all_switched effects.switches w.enabled;
    dialog = opened_by app effects.dialog;
  };
  after = after.Commit;
  cost = cost;
}
run_command app name w (Traps kind cost deepest) = refuse w cost (command_trap_line kind)

-- the arguments with their values, in front of others; the last is the nearest
abbrev pub bound : List (List ℕ × ArgumentDecl) → List Data → Env → Env
bound arguments [] env = env
bound [] (d ∷ ds) env = env
bound (a ∷ arguments) (d ∷ ds) env = bound arguments ds ((a.1.name, d) ∷ env)

-- what a command's statements come to with these arguments
abbrev pub command_outcome : Ground → CommandDecl → List Data → Slots → Outcome Effects
command_outcome g command ds slots = outcome_of_exec g.limits g.app g.types.holds command.body (bound command.arguments ds []) slots

-- the line of a token that gives no value for its argument, or of a line that is no gesture, with its number
abbrev pub bad_line : ℕ → List ℕ
bad_line number = codes "! bad " ++ decimal number

-- what arguments are read by
abbrev pub scene_at : Ground → Slots → Scene
scene_at g slots = record { app = g.app; holds = g.types.holds; reads = g.reads; slots = slots }

-- whether a command is enabled
abbrev pub is_on : World → CommandDecl → Bool
is_on w command = unwrap_or (w.enabled command.name) false
