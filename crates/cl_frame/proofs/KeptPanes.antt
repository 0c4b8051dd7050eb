-- What a display that ended kept of the old history of its pane.
use Rattle.std.proofs.Common.{◌≡◌, ◌∙◌, List, refl, sym}
use Rattle.cl_damage.specs.Keeps.{Keeps}
use Rattle.cl_display.specs.Drawings.{DrawingAt}
use Rattle.cl_display.specs.Outcomes.{DrawOutcome}
use Rattle.cl_eval.specs.Outcome.{Gives, Outcome, Traps}
use Rattle.cl_medium.specs.Items.{Item, move_item}
use Rattle.cl_record.specs.Marks.{history_marks}
use Rattle.cl_record.specs.Shifts.{still}
use Rattle.cl_record.specs.Trees.{Tree, trees_of}
use Rattle.cl_reuse.specs.Kept.{KeptAt}
use Rattle.cl_reuse.specs.Records.{records_of}
use Rattle.cl_untouched.specs.Among.{if_ended, keeps_among}
use Rattle.cl_untouched.specs.Keeps.{keeps_of}
use Rattle.cl_untouched.proofs.ToldKeeps.{keeps-told}
use Rattle.cl_updating.specs.Redisplays.{Redisplays}
use Rattle.cl_updating.specs.declared.redisplaying.Redisplayed.TheVariants as redisplayed
use Rattle.cl_updating.specs.declared.redisplaying.Reuse.{Reuse}

-- a display that was built ended
built-ended : (h : List (Tree Item)) (u : Reuse) (k : Keeps) (o : Outcome DrawingAt) (ks : List KeptAt) → Redisplays (redisplayed.Built h u k) o ks
    → (all : Keeps) → all ≡ if_ended o all
built-ended h u k (Gives s cost deepest) ks came all = refl
built-ended h u k (Traps kind cost deepest) ks came all = absurd came

-- so what it kept is told by the old marks
pub built-keeps : (h : List (Tree Item)) (u : Reuse) (k : Keeps) (drawn : DrawOutcome) (old : List (Tree Item)) (ks : List KeptAt)
    → Redisplays (redisplayed.Built h u k) drawn.outcome ks → k ≡ keeps_of still (trees_of old) drawn.walk
    → k ≡ keeps_among (history_marks move_item old) drawn
built-keeps h u k drawn old ks came kept =
    kept ∙ (sym (keeps-told old drawn.walk)
    ∙ built-ended h u k drawn.outcome ks came (keeps_of still (trees_of (records_of (history_marks move_item old))) drawn.walk))
