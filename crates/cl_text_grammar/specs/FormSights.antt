-- What a display form or a statement sees of its parts, in the order of the text; or what is wrong with the form itself.
use Rattle.std.specs.Prelude.{ℕ, ◌==◌, is_some, if◌then◌else◌, List, [], ◌∷◌, length, Option, Some, None, codes}
use Rattle.std.specs.Str.{bytes_eq}
use Rattle.cl_table.specs.Names.{named}
use Rattle.cl_forms.specs.Datum.{Datum, number, literal, word, quoted, stray, list, in_order, parts_of, offset}
use Rattle.cl_forms.specs.Naming.{name_in, symbol_of, fits}
use Rattle.cl_words.specs.Signatures.{display_in}
use Rattle.cl_words.specs.declared.signatures.Signatures.{Signatures}
use Rattle.cl_expressions.specs.Scopes.{Names, among}
use Rattle.cl_expressions.specs.Expressions.{is_binding, is_binding_list}
use Rattle.cl_bodies.specs.Presentations.{single_box_in}
use Rattle.cl_bodies.specs.Updates.{update_keys_in}
use Rattle.cl_grammar.specs.Heads.{fixed_heads}
use Rattle.cl_grammar.specs.Sights.{Seen, expression, slot_name, all_seen, names_behind, value_seen, names_bound, values_seen}
use Rattle.cl_text_grammar.specs.Types.{TypePart, type_seen}
use Rattle.cl_text_grammar.specs.UpdateSights.{keys_seen}

-- what has the names that statements look for
pub data NameSpace : Type 0 where
  commands : NameSpace
  dialogs : NameSpace

-- what is looked at: expressions, paths and names in them, what is looked at of a type, the name of a command or of a dialog with its offset, or a form
-- of the same language, with the variables that it sees
pub data FormSeen : Type 0 where
  expressions : List Seen → FormSeen
  specifier : List TypePart → FormSeen
  name_among : NameSpace → List ℕ → ℕ → FormSeen
  form : Names → Datum → FormSeen

-- what a form sees
pub data FormSight : Type 0 where
  -- the form has a number of parts that it may not have, or a part of the wrong kind
  Misshapen : FormSight
  -- the word at this offset heads no form of the language
  UnknownHead : ℕ → FormSight
  -- the word at this offset heads a form that is not built yet
  PlannedHead : ℕ → FormSight
  -- these parts, from left to right
  Sees : List FormSeen → FormSight

-- what a form sees, by the offset of its head, the variables that it sees and its parts
abbrev pub Row : Type 0
Row = ℕ → Names → List Datum → FormSight

-- the forms of a body
abbrev pub forms_seen : Names → List Datum → List FormSeen
forms_seen env [] = []
forms_seen env (d ∷ ds) = form env d ∷ forms_seen env ds

-- ---- rows of both languages

-- `(if TEST THEN ELSE)`
abbrev pub if_seen : Row
if_seen h env (a ∷ b ∷ c ∷ []) = Sees (expressions (expression env a ∷ []) ∷ form env b ∷ form env c ∷ [])
if_seen h env ds = Misshapen

-- `(when TEST FORM ...)`
abbrev pub when_seen : Row
when_seen h env [] = Misshapen
when_seen h env (a ∷ ds) = Sees (expressions (expression env a ∷ []) ∷ forms_seen env ds)

-- `(let ((NAME E) ...) FORM ...)`
abbrev pub let_seen : Row
let_seen h env [] = Misshapen
let_seen h env (bs ∷ ds) =
    if is_binding_list bs then Sees (expressions (values_seen env (parts_of bs)) ∷ forms_seen (names_bound env (parts_of bs)) ds) else Misshapen

-- `(dolist (NAME LIST) FORM ...)`: the body sees the name
abbrev pub dolist_seen : Row
dolist_seen h env [] = Misshapen
dolist_seen h env (b ∷ ds) =
    if is_binding (parts_of b) then Sees (expressions (value_seen env (parts_of b)) ∷ forms_seen (names_behind env (parts_of b)) ds) else Misshapen

-- `(progn FORM ...)`
abbrev pub progn_seen : Row
progn_seen h env ds = Sees (forms_seen env ds)

-- what is not built yet
abbrev pub planned_seen : Row
planned_seen h env ds = PlannedHead h

-- ---- rows of display forms

-- `(write-text E)`
abbrev pub write_seen : Row
write_seen h env (a ∷ []) = Sees (expressions (expression env a ∷ []) ∷ [])
write_seen h env ds = Misshapen

-- `(newline)`
abbrev pub newline_seen : Row
newline_seen h env [] = Sees []
newline_seen h env (d ∷ ds) = Misshapen

-- `(draw-point X Y CHARACTER)` and its kin
abbrev pub drawn_seen : ℕ → Row
drawn_seen count h env ds = if count == length ds then Sees (expressions (all_seen env ds) ∷ []) else Misshapen

-- `(indenting-output E FORM ...)`
abbrev pub indent_seen : Row
indent_seen h env [] = Misshapen
indent_seen h env (a ∷ ds) = Sees (expressions (expression env a ∷ []) ∷ forms_seen env ds)

-- `(with-ink E FORM ...)`
abbrev pub ink_seen : Row
ink_seen h env [] = Misshapen
ink_seen h env (a ∷ ds) = Sees (expressions (expression env a ∷ []) ∷ forms_seen env ds)

-- `(with-room-for-graphics FORM ...)`
abbrev pub room_seen : Row
room_seen h env ds = Sees (forms_seen env ds)

-- `(present E SPECIFIER)`: a display has no parameters of types
abbrev pub present_seen : Signatures → Row
present_seen w h env (a ∷ b ∷ []) = Sees (expressions (expression env a ∷ []) ∷ specifier (type_seen w [] b) ∷ [])
present_seen w h env ds = Misshapen

-- `E SPECIFIER KEY VALUE ...`, with keys that may stand there, and the forms of a body
abbrev pub presented_seen : Signatures → Names → List Datum → List Datum → FormSight
presented_seen w env (e ∷ s ∷ keys) ds =
    if is_some (single_box_in keys) then Sees (expressions (expression env e ∷ []) ∷ specifier (type_seen w [] s) ∷ forms_seen env ds) else Misshapen
presented_seen w env parts ds = Misshapen

-- `(with-output-as-presentation (E SPECIFIER :single-box BOOL) FORM ...)`
abbrev pub presentation_seen : Signatures → Row
presentation_seen w h env [] = Misshapen
presentation_seen w h env (a ∷ ds) = presented_seen w env (parts_of a) ds

-- `(:unique-id E :cache-value (list PATH ...))`, with keys that may stand there, and the forms of a body
abbrev pub updated_seen : Names → Datum → List Datum → FormSight
updated_seen env (list keys at) ds =
    if is_some (update_keys_in (in_order keys)) then Sees (expressions (keys_seen env (in_order keys)) ∷ forms_seen env ds) else Misshapen
updated_seen env (number z at) ds = Misshapen
updated_seen env (literal s at) ds = Misshapen
updated_seen env (word s at) ds = Misshapen
updated_seen env (quoted s at name_at) ds = Misshapen
updated_seen env (stray at) ds = Misshapen

-- `(updating-output (:unique-id E :cache-value (list PATH ...)) FORM ...)`
abbrev pub update_seen : Row
update_seen h env [] = Misshapen
update_seen h env (a ∷ ds) = updated_seen env a ds

-- `(DISPLAY E ...)`: as many parts as the display has parameters
abbrev pub call_seen : Option (Option ℕ) → Row
call_seen None h env ds = UnknownHead h
call_seen (Some count) h env ds = if fits count (length ds) then Sees (expressions (all_seen env ds) ∷ []) else Misshapen

-- the rows of display forms by their words
abbrev pub shape_rows : Signatures → List (List ℕ × Row)
shape_rows w =
    (codes "if", if_seen)
    ∷ (codes "when", when_seen)
    ∷ (codes "let", let_seen)
    ∷ (codes "dolist", dolist_seen)
    ∷ (codes "progn", progn_seen)
    ∷ (codes "write-text", write_seen)
    ∷ (codes "newline", newline_seen)
    ∷ (codes "draw-point", drawn_seen 3)
    ∷ (codes "draw-hline", drawn_seen 3)
    ∷ (codes "draw-vline", drawn_seen 3)
    ∷ (codes "draw-box", drawn_seen 4)
    ∷ (codes "fill-box", drawn_seen 5)
    ∷ (codes "indenting-output", indent_seen)
    ∷ (codes "with-ink", ink_seen)
    ∷ (codes "with-room-for-graphics", room_seen)
    ∷ (codes "present", present_seen w)
    ∷ (codes "with-output-as-presentation", presentation_seen w)
    ∷ (codes "updating-output", update_seen)
    ∷ (codes "formatting-table", planned_seen)
    ∷ []

-- one of the rows, or the name of a display: no other fixed head stands before a display form
abbrev pub shape_row_seen : Signatures → Option Row → List ℕ → Row
shape_row_seen w (Some row) x h env ds = row h env ds
shape_row_seen w None x h env ds = if among x fixed_heads then UnknownHead h else call_seen (display_in w x) h env ds

-- ---- rows of statements

-- `(slot NAME)`, and the value that is set
abbrev pub place_seen : List Datum → Names → Datum → FormSight
place_seen (s ∷ n ∷ []) env e =
    if bytes_eq (symbol_of s) (codes "slot")
    then elim (name_in n) [ None ↦ Misshapen | Some x ↦ Sees (expressions (slot_name x (offset n) ∷ expression env e ∷ []) ∷ []) ]
    else Misshapen
place_seen ds env e = Misshapen

-- `(setf (slot NAME) E)`
abbrev pub setf_seen : Row
setf_seen h env (a ∷ e ∷ []) = place_seen (parts_of a) env e
setf_seen h env ds = Misshapen

-- `(reply E)`
abbrev pub reply_seen : Row
reply_seen h env (a ∷ []) = Sees (expressions (expression env a ∷ []) ∷ [])
reply_seen h env ds = Misshapen

-- `(enable COMMAND)` and `(disable COMMAND)`
abbrev pub switch_seen : Row
switch_seen h env (n ∷ []) = elim (name_in n) [ None ↦ Misshapen | Some x ↦ Sees (name_among commands x (offset n) ∷ []) ]
switch_seen h env ds = Misshapen

-- `(open-dialog DIALOG)`
abbrev pub dialog_seen : Row
dialog_seen h env (n ∷ []) = elim (name_in n) [ None ↦ Misshapen | Some x ↦ Sees (name_among dialogs x (offset n) ∷ []) ]
dialog_seen h env ds = Misshapen

-- the rows of statements by their words
abbrev pub act_rows : List (List ℕ × Row)
act_rows =
    (codes "if", if_seen)
    ∷ (codes "when", when_seen)
    ∷ (codes "let", let_seen)
    ∷ (codes "dolist", dolist_seen)
    ∷ (codes "progn", progn_seen)
    ∷ (codes "setf", setf_seen)
    ∷ (codes "reply", reply_seen)
    ∷ (codes "enable", switch_seen)
    ∷ (codes "disable", switch_seen)
    ∷ (codes "open-dialog", dialog_seen)
    ∷ []

-- one of the rows: nothing else stands before a statement
abbrev pub act_row_seen : Option Row → Row
act_row_seen (Some row) h env ds = row h env ds
act_row_seen None h env ds = UnknownHead h

-- ---- forms by their heads

-- a form begins with a symbol
abbrev pub headed_seen : (List ℕ → Row) → Names → List Datum → FormSight
headed_seen row env (word x h ∷ ds) = row x h env ds
headed_seen row env [] = Misshapen
headed_seen row env (number z h ∷ ds) = Misshapen
headed_seen row env (literal s h ∷ ds) = Misshapen
headed_seen row env (quoted s h name_at ∷ ds) = Misshapen
headed_seen row env (stray h ∷ ds) = Misshapen
headed_seen row env (list es h ∷ ds) = Misshapen

-- what the display form of these parts sees
abbrev pub shape_seen : Signatures → Names → List Datum → FormSight
shape_seen w = headed_seen (λ x. shape_row_seen w (named x (shape_rows w)) x)

-- what the statement of these parts sees
abbrev pub act_seen : Names → List Datum → FormSight
act_seen = headed_seen (λ x. act_row_seen (named x act_rows))
