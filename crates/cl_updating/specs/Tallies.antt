-- What was spent and kept so far.
use Rattle.std.specs.Prelude.{◌≡◌, ℕ, ◌+◌, if◌then◌else◌, List, [], ◌∷◌, ◌++◌, Some, None}
use Rattle.cl_display.specs.Walks.{OpeningAt}
use Rattle.cl_damage.specs.Keeps.{Keeps, none, opened, with_last}
use Rattle.cl_reuse.specs.Kept.{KeptAt, OldUpdate, costs, count_moved, count_still, is_still, items_kept, kept_here}
use Rattle.cl_untouched.specs.Keeps.{followed_by, moved_to}
use Rattle.cl_eval.specs.declared.metering.Stop.{Stop}
use Rattle.cl_eval.specs.declared.metering.Stop.TheVariants.{Trap, Memory}
use Rattle.cl_updating.specs.declared.tallies.Tally.{Tally}

-- ---- what is kept

-- what is kept of the updates of a level, at any depth: in a row, and level by level
pub record KeptIn : Type 0 where
  pub list : List KeptAt
  pub keeps : Keeps

-- nothing
abbrev pub nothing_kept : KeptIn
nothing_kept = record { list = []; keeps = none }

-- some of it, and then the rest
abbrev pub kept_then : KeptIn → KeptIn → KeptIn
kept_then first rest = record { list = first.list ++ rest.list; keeps = followed_by first.keeps rest.keeps }

-- one old update
abbrev pub kept_one : OldUpdate → OpeningAt → KeptIn
kept_one old o = record { list = kept_here old o ∷ []; keeps = opened (Some (moved_to old o)) none none }

-- in the body of one update that is drawn anew
abbrev pub kept_anew : KeptIn → KeptIn
kept_anew inside = record { list = inside.list; keeps = opened None inside.keeps none }

-- ---- tallies

-- keeps of updates of a level, behind which those of others are put one by one
abbrev pub put_behind : Keeps → Keeps → Keeps
put_behind before none = before
put_behind before (opened v inside rest) = put_behind (with_last before v inside) rest

-- one update more is kept
abbrev pub with_kept : OldUpdate → OpeningAt → Tally → Tally
with_kept old o t = record t {
  kept = (if is_still (kept_here old o) then 1 else 0) + t.kept;
  moved = (if is_still (kept_here old o) then 0 else 1) + t.moved;
  items = (kept_here old o).items + t.items;
  keeps = with_last t.keeps (Some (moved_to old o)) none;
}

-- Between two tallies this was kept, while a meter went from one cost to another: the steps are that cost without the costs of what was kept.
pub record Counts (k : KeptIn) (from to : ℕ) (old new : Tally) : Type 0 where
  pub steps : new.steps + (costs k.list + from) ≡ old.steps + to
  pub kept : new.kept ≡ count_still k.list + old.kept
  pub moved : new.moved ≡ count_moved k.list + old.moved
  pub items : new.items ≡ items_kept k.list + old.items
  pub keeps : new.keeps ≡ put_behind old.keeps k.keeps

-- a body trapped, and what was kept inside stands behind what was kept around it; or there was no memory
abbrev pub LeavesTrapped : Stop → (kind : ℕ) → (outer : Keeps) → (old new : Tally) → Type 0
LeavesTrapped (Trap k) kind outer old new = (k ≡ kind) × (new ≡ record old { keeps = with_last outer None old.keeps })
LeavesTrapped Memory kind outer old new = Unit {0}
