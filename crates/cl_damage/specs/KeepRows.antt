-- What the program keeps of updates, as it is seen.
use Rattle.std.specs.Prelude.{List, [], ◌∷◌, Option, None, Some}
use Rattle.cl_region.specs.declared.rects.Shift.{Shift}
use Rattle.cl_damage.specs.Keeps.{Keeps, none, opened}
use Rattle.cl_damage.specs.declared.keeps.Keep.{Keep}
use Rattle.cl_damage.specs.declared.keeps.Keep.TheVariants as keep

-- how far an update was moved that was kept
abbrev pub moved_of : Keep → Option Shift
moved_of (keep.Kept v) = Some v
moved_of (keep.Anew inside) = None

-- what holds of the updates inside of one; where it was kept, nothing is said of them
abbrev pub inside_of : Keep → Keeps
inside_of (keep.Kept v) = none
inside_of (keep.Anew inside) = inside

-- in a row
abbrev pub keeps_of : List Keep → Keeps
keeps_of [] = none
keeps_of (k ∷ ks) = opened (moved_of k) (inside_of k) (keeps_of ks)
