-- What a walk from the last record to the first one comes to.
use Rattle.std.specs.Prelude.{ℕ, zero, suc, List, [], ◌∷◌}
use Rattle.cl_value.specs.Value.{data_of}
use Rattle.cl_record.specs.Labels.{LabelAt}
use Rattle.cl_record.specs.Touches.{TouchAt}
use Rattle.cl_record.specs.declared.touches.Search.{Search}
use Rattle.cl_record.specs.declared.touches.Search.TheVariants as search
use Rattle.cl_record.specs.declared.touches.Touch.{Touch}

-- a label was found, or so many more are to be passed over
pub data Sought : Type 0 where
  found : LabelAt → Sought
  passed : ℕ → Sought

-- the label behind k others, or what is left of k behind all of them
abbrev pub seek : (k : ℕ) → List LabelAt → Sought
seek k [] = passed k
seek zero (l ∷ ls) = found l
seek (suc k) (l ∷ ls) = seek k ls

-- what the program's search came to
abbrev pub sought_of : Search → Sought
sought_of (search.Found l) = found l.now
sought_of (search.Passed k) = passed k

-- what the program's touch says
abbrev pub touch_of : Touch → TouchAt
touch_of t = record { object = data_of t.object.now; spec = t.spec.now }
