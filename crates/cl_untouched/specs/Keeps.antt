-- How far each update that a display opened was moved, if it was kept, level by level.
use Rattle.std.specs.Prelude.{if◌then◌else◌, Option, Some, None}
use Rattle.cl_region.specs.declared.rects.Shift.{Shift}
use Rattle.cl_medium.specs.Items.{Item}
use Rattle.cl_record.specs.Heads.{move_point}
use Rattle.cl_record.specs.Shifts.{still}
use Rattle.cl_record.specs.Trees.{Trees}
use Rattle.cl_record.specs.Trees as records
use Rattle.cl_display.specs.Walks.{OpeningAt, Walk, done, met}
use Rattle.cl_reuse.specs.Keeping.{may_keep, shift_to}
use Rattle.cl_reuse.specs.Kept.{OldUpdate, found}
use Rattle.cl_damage.specs.Keeps.{Keeps, none, opened}

-- how far an old update is moved that is kept at an opening
abbrev pub moved_to : OldUpdate → OpeningAt → Shift
moved_to old o = shift_to (move_point old.place old.head.measures.start) o.ambient

-- at an opening: the old update that is found is kept, where it may be; else what is inside is looked at, over what the old one holds
abbrev pub at_opening : Option OldUpdate → OpeningAt → (inside : Shift → Trees Item → Keeps) → (rest : Keeps) → Keeps
at_opening None o inside rest = opened None (inside still records.none) rest
at_opening (Some old) o inside rest =
    if may_keep old.head o then opened (Some (moved_to old o)) none rest else opened None (inside old.place old.inside) rest

-- of a walk, over old records that stand so far from the start
abbrev pub keeps_of : (at : Shift) → Trees Item → Walk → Keeps
keeps_of at old done = none
keeps_of at old (met o inside rest) =
    at_opening (found o.site o.id at old) o (λ there olds. keeps_of there olds inside) (keeps_of at old rest)

-- keeps of updates of a level, and then those of others
abbrev pub followed_by : Keeps → Keeps → Keeps
followed_by none more = more
followed_by (opened v inside rest) more = opened v inside (followed_by rest more)
