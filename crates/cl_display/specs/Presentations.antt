-- Presentations: what is drawn between an opening and its end shows an object.
use Rattle.std.specs.Prelude.{ℕ, ◌+◌, ◌-◌, max, Bool, nat_le, if◌then◌else◌, [], ◌∷◌, ◌++◌, Result, Ok, Err}
use Rattle.cl_value.specs.Data.{Data, size_of, text}
use Rattle.cl_syntax.specs.TypeSpecTree.{TypeSpecTree}
use Rattle.cl_eval.specs.Outcome.{Outcome, Gives, Traps, Run}
use Rattle.cl_eval.specs.Slots.{Slots}
use Rattle.cl_eval.specs.Statements.{Member}
use Rattle.cl_eval.specs.TypeMeanings.{Presents}
use Rattle.cl_record.specs.Labels.{LabelAt}
use Rattle.cl_record.specs.Marks.{close, open_presentation}
use Rattle.cl_display.specs.Drawings.{DrawingAt, PartAt, join, start, write_text}

-- nothing, where a value is a member of a type, and else the kind of a trap
abbrev pub check_member : Member → TypeSpecTree → Data → Result (Unit {0}) ℕ
check_member holds spec d = if holds d spec then Ok tt else Err 1

-- an object of a type, which is sensitive all over its box or where its items are
abbrev pub label_of : TypeSpecTree → (single_box : Bool) → Data → LabelAt
label_of spec single_box d = record { object = d; spec = spec; single_box = single_box }

-- what the opening weighs: 1 and the size of the object
abbrev pub label_weight : Data → ℕ
label_weight d = size_of d + 1

-- a part, seen from outside: what was drawn in it presents an object
abbrev pub presented_part : LabelAt → PartAt → PartAt
presented_part label p = record p { marks = open_presentation label ∷ (p.marks ++ close ∷ []) }

-- the opening of a presentation, where all together do not weigh more than the most: a new part, at the cursor
abbrev pub enter_presentation : (most : ℕ) → Data → DrawingAt → Result DrawingAt ℕ
enter_presentation most d s =
    if nat_le (s.weight + label_weight d) most then Ok (start (record s { weight = s.weight + label_weight d })) else Err 10

-- its end: what was drawn in it stands behind the part around it
abbrev pub leave_presentation : LabelAt → (outer : PartAt) → DrawingAt → DrawingAt
leave_presentation label outer s = join outer (record s { part = presented_part label s.part })

-- a value that is a text is written
abbrev pub write_value : (most : ℕ) → DrawingAt → Data → Result DrawingAt ℕ
write_value most s (text bytes) = write_text most bytes s
write_value most s d = Err 1

-- the text inside, once the presentation is opened
abbrev pub write_inside : (most : ℕ) → Data → Result DrawingAt ℕ → Result DrawingAt ℕ
write_inside most x (Ok inner) = write_value most inner x
write_inside most x (Err k) = Err k

-- the end, once the text is written
abbrev pub leave_after : LabelAt → (outer : PartAt) → Result DrawingAt ℕ → Result DrawingAt ℕ
leave_after label outer (Ok end) = Ok (leave_presentation label outer end)
leave_after label outer (Err k) = Err k

-- a text at the cursor that presents an object
abbrev pub present_text : (most : ℕ) → LabelAt → DrawingAt → Data → Result DrawingAt ℕ
present_text most label s x = leave_after label s.part (write_inside most x (enter_presentation most label.object s))

-- ---- the texts of values

-- what a text comes to by itself, counted in where it is asked for: behind the cost so far, and below a level
abbrev pub count_in : {A : Type 0} → (level : ℕ) → Outcome A → Run A
count_in level (Gives x c reach) cost deepest = Gives x (cost + c) (max deepest (level + reach))
count_in level (Traps kind c reach) cost deepest = Traps kind (cost + c) deepest

-- the texts of values, at a level
abbrev pub Texts : Type 0
Texts = (level : ℕ) → TypeSpecTree → Data → Run Data

-- with what is left of the budget and of the levels
abbrev pub texts_on : Presents → Slots → (budget left : ℕ) → Texts
texts_on presents slots budget left level spec d cost deepest =
    count_in level (presents (record { budget = budget - cost; depth = left }) slots spec d) cost deepest
