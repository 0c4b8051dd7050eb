-- What a display over an old history answers.
use Rattle.std.specs.Prelude.{◌≡◌, ◌≤◌, ℕ, Bool, true, false, List}
use Rattle.cl_application.specs.declared.applications.App.{App}
use Rattle.cl_cover.specs.Updates.{AreCovered}
use Rattle.cl_eval.specs.Outcome.{Outcome, Gives, Traps}
use Rattle.cl_eval.specs.TypeMeanings.{AreTexts, TypeMeanings}
use Rattle.cl_medium.specs.Items.{Item, item_bounds, move_item}
use Rattle.cl_record.specs.Counts.{count_of}
use Rattle.cl_record.specs.Marks.{history_marks}
use Rattle.cl_record.specs.Ranges.{AreSound}
use Rattle.cl_record.specs.Trees.{Tree, trees_of}
use Rattle.cl_display.specs.declared.drawings.Drawing.{Drawing}
use Rattle.cl_display.specs.Drawings.{DrawingAt}
use Rattle.cl_display.specs.Script.{trap_history}
use Rattle.cl_display.specs.declared.drawings.TheConstants.{MAX_WEIGHT}
use Rattle.cl_damage.specs.Keeps.{Keeps}
use Rattle.cl_reuse.specs.Kept.{KeptAt, count_moved, count_still, items_kept}
use Rattle.cl_reuse.specs.Once.{IsNamedOnce}
use Rattle.cl_reuse.specs.ReadValues.{SeesReads}
use Rattle.cl_reuse.specs.Recorded.{IsFaithfulHistory}
use Rattle.cl_reuse.specs.Sited.{AreApart}
use Rattle.cl_updating.specs.declared.redisplaying.Redisplayed.{Redisplayed}
use Rattle.cl_updating.specs.declared.redisplaying.Redisplayed.TheVariants as redisplayed
use Rattle.cl_updating.specs.declared.redisplaying.Reuse.{Reuse}
use Rattle.cl_updating.specs.declared.tallies.Tally.{Tally}

-- what reuse rests on in an application: the texts of its types, its caches, and its sites
pub record CanReuse (app : App) (types : TypeMeanings) : Type 0 where
  pub texts : AreTexts app types.presents
  pub sees : SeesReads app types.presents
  pub covered : AreCovered app
  pub apart : AreApart app

-- the numbers of what was kept
abbrev pub reuse_of : List KeptAt → Reuse
reuse_of ks = record { kept = count_still ks; moved = count_moved ks; items = items_kept ks }

-- the history and the variant that belong to an outcome, and the numbers of what was kept on the way to its end
abbrev pub Redisplays : Redisplayed → Outcome DrawingAt → List KeptAt → Type 0
Redisplays (redisplayed.Built h u k) (Gives s cost deepest) ks = (history_marks move_item h ≡ s.part.marks) × (u ≡ reuse_of ks)
Redisplays (redisplayed.Built h u k) (Traps kind cost deepest) ks = ⊥
Redisplays (redisplayed.Trapped h k) (Gives s cost deepest) ks = ⊥
Redisplays (redisplayed.Trapped h k) (Traps kind cost deepest) ks = (k ≡ kind) × (history_marks move_item h ≡ trap_history kind)
Redisplays redisplayed.Memory o ks = Unit {0}

-- whether there was no memory
abbrev pub met_memory : Redisplayed → Bool
met_memory (redisplayed.Built h u k) = false
met_memory (redisplayed.Trapped h k) = false
met_memory redisplayed.Memory = true

-- a history draws no more items than it may weigh
abbrev pub IsFewOf : Redisplayed → Type 0
IsFewOf (redisplayed.Built h u k) = count_of (history_marks move_item h) ≤ MAX_WEIGHT
IsFewOf (redisplayed.Trapped h k) = count_of (history_marks move_item h) ≤ MAX_WEIGHT
IsFewOf redisplayed.Memory = Unit {0}

-- a history is faithful
abbrev pub IsFaithfulOf : App → TypeMeanings → Redisplayed → Type 0
IsFaithfulOf app types (redisplayed.Built h u k) = IsFaithfulHistory app types h
IsFaithfulOf app types (redisplayed.Trapped h k) = IsFaithfulHistory app types h
IsFaithfulOf app types redisplayed.Memory = Unit {0}

-- what was kept, level by level
abbrev pub HasKeeps : Redisplayed → Keeps → Type 0
HasKeeps (redisplayed.Built h u k) ks = k ≡ ks
HasKeeps (redisplayed.Trapped h k) ks = Unit {0}
HasKeeps redisplayed.Memory ks = Unit {0}

-- a history has no update of one site and id twice at a level
abbrev pub IsOnceOf : Redisplayed → Type 0
IsOnceOf (redisplayed.Built h u k) = IsNamedOnce h
IsOnceOf (redisplayed.Trapped h k) = IsNamedOnce h
IsOnceOf redisplayed.Memory = Unit {0}

-- what was drawn to the end: its records hold together, and the numbers and what was kept are those of a tally
pub record IsBuiltOf (h : List (Tree Item)) (u : Reuse) (k : Keeps) (d : Drawing) (t : Tally) : Type 0 where
  pub history : h ≡ d.part.nodes
  pub sound : AreSound item_bounds move_item (trees_of h)
  pub reuse : u ≡ record { kept = t.kept; moved = t.moved; items = t.items }
  pub keeps : k ≡ t.keeps

-- a redisplay that ended has the records of its drawing, and what was kept of the old ones
abbrev pub IsBuilt : Redisplayed → Drawing → Tally → Type 0
IsBuilt (redisplayed.Built h u k) d t = IsBuiltOf h u k d t
IsBuilt (redisplayed.Trapped h k) d t = ⊥
IsBuilt redisplayed.Memory d t = ⊥

-- a display that trapped: its one record holds together
pub record IsTrappedOf (h : List (Tree Item)) (k kind : ℕ) : Type 0 where
  pub same : k ≡ kind
  pub marks : history_marks move_item h ≡ trap_history kind
  pub sound : AreSound item_bounds move_item (trees_of h)

-- a redisplay that trapped shows the trap alone
abbrev pub IsTrapped : Redisplayed → ℕ → Type 0
IsTrapped (redisplayed.Built h u k) kind = ⊥
IsTrapped (redisplayed.Trapped h k) kind = IsTrappedOf h k kind
IsTrapped redisplayed.Memory kind = Unit {0}
