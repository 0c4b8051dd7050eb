-- The fixed words that head forms, in one table.
use Rattle.std.specs.Prelude.{ℕ, Bool, if◌then◌else◌, is_some, option_map, List, Option, Some, None, codes}
use Rattle.std.specs.Str.{bytes_eq}
use Rattle.cl_syntax.specs.declared.operators.Operator.{Operator}
use Rattle.cl_syntax.specs.declared.operators.Operator.TheVariants as operator
use Rattle.cl_syntax.specs.declared.operators.Arithmetic.{Arithmetic}
use Rattle.cl_syntax.specs.declared.operators.Arithmetic.TheVariants.{Add, Subtract, Multiply, Least, Greatest, Quotient, Remainder}
use Rattle.cl_syntax.specs.declared.operators.Comparison.{Comparison}
use Rattle.cl_syntax.specs.declared.operators.Comparison.TheVariants.{Less, AtMost, Greater, AtLeast}
use Rattle.cl_syntax.specs.declared.operators.ListOperator.{ListOperator}
use Rattle.cl_syntax.specs.declared.operators.ListOperator.TheVariants as list
use Rattle.cl_syntax.specs.declared.operators.TextOperator.{TextOperator}
use Rattle.cl_syntax.specs.declared.operators.TextOperator.TheVariants as text
use Rattle.cl_syntax.specs.declared.figures.Figure.{Figure}
use Rattle.cl_syntax.specs.declared.figures.Figure.TheVariants as figure
use Rattle.cl_words.specs.declared.heads.Special.{Special}
use Rattle.cl_words.specs.declared.heads.Special.TheVariants as special
use Rattle.cl_words.specs.declared.heads.Control.{Control}
use Rattle.cl_words.specs.declared.heads.Control.TheVariants as control
use Rattle.cl_words.specs.declared.heads.Setting.{Setting}
use Rattle.cl_words.specs.declared.heads.Setting.TheVariants as setting
use Rattle.cl_words.specs.declared.heads.Writing.{Writing}
use Rattle.cl_words.specs.declared.heads.Writing.TheVariants as writing
use Rattle.cl_words.specs.declared.heads.Change.{Change}
use Rattle.cl_words.specs.declared.heads.Change.TheVariants as change
use Rattle.cl_words.specs.declared.heads.Planned.{Planned}
use Rattle.cl_words.specs.declared.heads.Planned.TheVariants as planned
use Rattle.cl_words.specs.declared.heads.Head.{Head}
use Rattle.cl_words.specs.declared.heads.Head.TheVariants as head

-- what the first names, as one of the second kind, else the other
abbrev pub named_or : {A B : Type 0} → (A → B) → Option A → Option B → Option B
named_or f (Some a) other = Some (f a)
named_or f None other = other

-- ---- operators over the values of their parts

-- the operator on two numbers that a word is
abbrev pub arithmetic_named : List ℕ → Option Arithmetic
arithmetic_named word =
    if bytes_eq word (codes "+") then Some Add
    else (if bytes_eq word (codes "-") then Some Subtract
    else (if bytes_eq word (codes "*") then Some Multiply
    else (if bytes_eq word (codes "min") then Some Least
    else (if bytes_eq word (codes "max") then Some Greatest
    else (if bytes_eq word (codes "div") then Some Quotient
    else (if bytes_eq word (codes "mod") then Some Remainder else None))))))

-- the comparison that a word is
abbrev pub comparison_named : List ℕ → Option Comparison
comparison_named word =
    if bytes_eq word (codes "<") then Some Less
    else (if bytes_eq word (codes "<=") then Some AtMost
    else (if bytes_eq word (codes ">") then Some Greater
    else (if bytes_eq word (codes ">=") then Some AtLeast else None)))

-- the operator on lists that a word is
abbrev pub list_operator_named : List ℕ → Option ListOperator
list_operator_named word =
    if bytes_eq word (codes "list") then Some list.List
    else (if bytes_eq word (codes "nth") then Some list.Nth
    else (if bytes_eq word (codes "rest") then Some list.Rest
    else (if bytes_eq word (codes "cons") then Some list.Cons
    else (if bytes_eq word (codes "append") then Some list.Append
    else (if bytes_eq word (codes "contains") then Some list.Contains
    else (if bytes_eq word (codes "range") then Some list.Range else None))))))

-- the operator on texts that a word is
abbrev pub text_operator_named : List ℕ → Option TextOperator
text_operator_named word =
    if bytes_eq word (codes "concat") then Some text.Concat
    else (if bytes_eq word (codes "subtext") then Some text.Subtext
    else (if bytes_eq word (codes "pad") then Some text.Pad
    else (if bytes_eq word (codes "text") then Some text.Written else None)))

-- the operator that a word is, where it is of no other kind
abbrev pub other_operator_named : List ℕ → Option Operator
other_operator_named word =
    if bytes_eq word (codes "not") then Some operator.Not
    else (if bytes_eq word (codes "=") then Some operator.Equal
    else (if bytes_eq word (codes "length") then Some operator.Length
    else (if bytes_eq word (codes "is-null") then Some operator.IsNull else None)))

-- the operator that a word is
abbrev pub operator_named : List ℕ → Option Operator
operator_named word =
    named_or (λ a. operator.Arithmetic a) (arithmetic_named word)
    (named_or (λ c. operator.Comparison c) (comparison_named word)
    (named_or (λ l. operator.List l) (list_operator_named word) (named_or (λ t. operator.Text t) (text_operator_named word) (other_operator_named word))))

-- how many parts an operator takes; None where it takes any number
abbrev pub list_count : ListOperator → Option ℕ
list_count list.List = None
list_count list.Nth = Some 2
list_count list.Rest = Some 1
list_count list.Cons = Some 2
list_count list.Append = Some 2
list_count list.Contains = Some 2
list_count list.Range = Some 2

-- how many parts an operator on texts takes
abbrev pub text_count : TextOperator → Option ℕ
text_count text.Concat = Some 2
text_count text.Subtext = Some 3
text_count text.Pad = Some 2
text_count text.Written = Some 1

-- how many parts each operator takes; None where it takes any number
abbrev pub count_of : Operator → Option ℕ
count_of (operator.Arithmetic a) = Some 2
count_of (operator.Comparison c) = Some 2
count_of (operator.List l) = list_count l
count_of (operator.Text t) = text_count t
count_of (operator.Record r) = None
count_of operator.Not = Some 1
count_of operator.Equal = Some 2
count_of operator.Length = Some 1
count_of operator.IsNull = Some 1

-- ---- the other heads that stand before expressions alone

-- slots and records
abbrev pub access_named : List ℕ → Option Special
access_named word =
    if bytes_eq word (codes "slot") then Some special.Slot
    else (if bytes_eq word (codes "make") then Some special.Make
    else (if bytes_eq word (codes "get") then Some special.Get
    else (if bytes_eq word (codes "with") then Some special.With else None)))

-- what goes through its parts, or through a list
abbrev pub walk_named : List ℕ → Option Special
walk_named word =
    if bytes_eq word (codes "and") then Some special.And
    else (if bytes_eq word (codes "or") then Some special.Or
    else (if bytes_eq word (codes "map") then Some special.Map
    else (if bytes_eq word (codes "filter") then Some special.Filter
    else (if bytes_eq word (codes "fold") then Some special.Fold else None))))

-- the other head of expressions that a word is
abbrev pub special_named : List ℕ → Option Special
special_named word = named_or (λ s. s) (access_named word) (walk_named word)

-- ---- heads of display forms and statements

-- what display forms and statements share
abbrev pub control_named : List ℕ → Option Control
control_named word =
    if bytes_eq word (codes "when") then Some control.When
    else (if bytes_eq word (codes "dolist") then Some control.Dolist
    else (if bytes_eq word (codes "progn") then Some control.Progn else None))

-- what a drawing form draws
abbrev pub figure_named : List ℕ → Option Figure
figure_named word =
    if bytes_eq word (codes "draw-point") then Some figure.Point
    else (if bytes_eq word (codes "draw-hline") then Some figure.HorizontalLine
    else (if bytes_eq word (codes "draw-vline") then Some figure.VerticalLine
    else (if bytes_eq word (codes "draw-box") then Some figure.Outline
    else (if bytes_eq word (codes "fill-box") then Some figure.Filled else None))))

-- how many parts a drawing form has: places, sizes, and a text
abbrev pub figure_count : Figure → ℕ
figure_count figure.Point = 3
figure_count figure.HorizontalLine = 3
figure_count figure.VerticalLine = 3
figure_count figure.Outline = 4
figure_count figure.Filled = 5

-- what a display form sets for its body
abbrev pub setting_named : List ℕ → Option Setting
setting_named word =
    if bytes_eq word (codes "indenting-output") then Some setting.Indent
    else (if bytes_eq word (codes "with-ink") then Some setting.Ink
    else (if bytes_eq word (codes "with-room-for-graphics") then Some setting.Room
    else (if bytes_eq word (codes "with-output-as-presentation") then Some setting.Presentation
    else (if bytes_eq word (codes "updating-output") then Some setting.Update else None))))

-- the display forms that write
abbrev pub writing_named : List ℕ → Option Writing
writing_named word =
    if bytes_eq word (codes "write-text") then Some writing.WriteText
    else (if bytes_eq word (codes "newline") then Some writing.Newline
    else (if bytes_eq word (codes "present") then Some writing.Present else None))

-- the statements that change or answer something
abbrev pub change_named : List ℕ → Option Change
change_named word =
    if bytes_eq word (codes "setf") then Some change.Setf
    else (if bytes_eq word (codes "reply") then Some change.Reply
    else (if bytes_eq word (codes "enable") then Some change.Enable
    else (if bytes_eq word (codes "disable") then Some change.Disable
    else (if bytes_eq word (codes "open-dialog") then Some change.OpenDialog else None))))

-- what is not built yet
abbrev pub planned_display : List ℕ → Option Planned
planned_display word =
    if bytes_eq word (codes "formatting-table") then Some planned.Display else None

-- the parts of tables, which are not built yet
abbrev pub planned_other : List ℕ → Option Planned
planned_other word =
    if bytes_eq word (codes "formatting-row") then Some planned.Part
    else (if bytes_eq word (codes "formatting-cell") then Some planned.Part else None)

-- the head that is not built yet that a word is
abbrev pub planned_named : List ℕ → Option Planned
planned_named word = named_or (λ p. p) (planned_display word) (planned_other word)

-- ---- all heads

-- what expressions, display forms and statements share
abbrev pub shared_named : List ℕ → Option Head
shared_named word =
    if bytes_eq word (codes "if") then Some head.If
    else (if bytes_eq word (codes "let") then Some head.Let else None)

-- what heads a display form or a statement, and no expression
abbrev pub form_head : List ℕ → Option Head
form_head word =
    named_or (λ c. head.Control c) (control_named word)
    (named_or (λ f. head.Figure f) (figure_named word)
    (named_or (λ s. head.Setting s) (setting_named word)
    (named_or (λ w. head.Writing w) (writing_named word)
    (named_or (λ c. head.Change c) (change_named word) (option_map (λ p. head.Planned p) (planned_named word))))))

-- the fixed head that a word is
abbrev pub head_named : List ℕ → Option Head
head_named word =
    named_or (λ h. h) (shared_named word)
    (named_or (λ o. head.Operator o) (operator_named word) (named_or (λ s. head.Special s) (special_named word) (form_head word)))

-- the fixed heads, which are no names of functions and displays
abbrev pub is_operator : List ℕ → Bool
is_operator word = is_some (head_named word)
