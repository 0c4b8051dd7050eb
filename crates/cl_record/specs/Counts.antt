-- How many items marks draw.
use Rattle.std.specs.Prelude.{ℕ, List, length}
use Rattle.cl_record.specs.Marks.{Mark}
use Rattle.cl_record.specs.Replays.{items_drawn}

-- how many items marks draw
abbrev pub count_of : {A : Type 0} → List (Mark A) → ℕ
count_of marks = length (items_drawn marks)
