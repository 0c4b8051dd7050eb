-- What a form sees lies in it, part behind part.
use Rattle.std.proofs.Common.{ℕ, ◌+◌, ◌≤◌, ◌<◌, Bool, true, false, if◌then◌else◌, List, [], ◌∷◌, length, arith}
use Rattle.std.specs.Prelude.{Option, Some, None, is_some, ◌==◌, codes}
use Rattle.std.specs.Option.{IfSome}
use Rattle.std.specs.Str.{bytes_eq}
use Rattle.cl_table.specs.Names.{named}
use Rattle.cl_forms.specs.Datum.{Datum, Datums, number, literal, word, quoted, stray, list, none, item, in_order, parts_of, offset}
use Rattle.cl_forms.specs.Naming.{name_in, symbol_of, fits}
use Rattle.cl_words.specs.Signatures.{display_in}
use Rattle.cl_words.specs.declared.signatures.Signatures.{Signatures}
use Rattle.cl_expressions.specs.Scopes.{Names, among}
use Rattle.cl_expressions.specs.Expressions.{is_binding, is_binding_list}
use Rattle.cl_bodies.specs.Presentations.{single_box_in}
use Rattle.cl_bodies.specs.Updates.{update_keys_in}
use Rattle.cl_grammar.specs.Heads.{fixed_heads}
use Rattle.cl_grammar.specs.Lies.{Lies, LieAll}
use Rattle.cl_grammar.specs.Sights.{expression, slot_name, all_seen, names_behind, value_seen, names_bound, values_seen}
use Rattle.cl_grammar.proofs.Lying.{LieList, LieSeen, list_lies, own_lies, datum_rises, datum_earlier, seen_rises, seen_earlier, all_lie, value_lies, bound_lies}
use Rattle.cl_grammar.proofs.Spelled.{row_found}
use Rattle.cl_text_grammar.specs.Types.{type_seen}
use Rattle.cl_text_grammar.specs.UpdateSights.{keys_seen}
use Rattle.cl_text_grammar.specs.FormSights.{NameSpace, commands, dialogs, FormSeen, expressions, specifier, name_among, form, FormSight, Misshapen}
use Rattle.cl_text_grammar.specs.FormSights.{UnknownHead, PlannedHead, Sees, Row, forms_seen}
use Rattle.cl_text_grammar.specs.FormSights.{if_seen, when_seen, let_seen, dolist_seen, progn_seen, planned_seen, write_seen, newline_seen}
use Rattle.cl_text_grammar.specs.FormSights.{drawn_seen, indent_seen, ink_seen, room_seen, present_seen, presented_seen, presentation_seen, updated_seen, update_seen}
use Rattle.cl_text_grammar.specs.FormSights.{call_seen, shape_rows, shape_row_seen, place_seen, setf_seen, reply_seen, switch_seen, dialog_seen, act_rows, act_row_seen}
use Rattle.cl_text_grammar.specs.FormSights.{headed_seen, shape_seen, act_seen}
use Rattle.cl_text_grammar.proofs.TypePartsLie.{LieType, type_rises, type_earlier, type_later}
use Rattle.cl_text_grammar.proofs.TypesLie.{type_lies, all_rise}
use Rattle.cl_text_grammar.proofs.UpdatesLie.{keys_lie}

-- what is seen lies one behind another
abbrev pub LieForms : ℕ → List FormSeen → ℕ → Type 0
LieForms from [] to = from ≤ to
LieForms from (expressions qs ∷ ps) to = (next : ℕ) × LieSeen from qs next × LieForms next ps to
LieForms from (specifier ts ∷ ps) to = (next : ℕ) × LieType from ts next × LieForms next ps to
LieForms from (name_among k x at ∷ ps) to = (from ≤ at) × LieForms (at + 1) ps to
LieForms from (form env d ∷ ps) to = (next : ℕ) × Lies from d next × LieForms next ps to

abbrev pub LieFormSight : ℕ → FormSight → ℕ → Type 0
LieFormSight from Misshapen to = Unit {0}
LieFormSight from (UnknownHead h) to = (from ≤ h) × (h < to)
LieFormSight from (PlannedHead h) to = (from ≤ h) × (h < to)
LieFormSight from (Sees ps) to = LieForms from ps to

pub forms_rise : (ps : List FormSeen) (from to : ℕ) → LieForms from ps to → from ≤ to
forms_rise [] from to h = h
forms_rise (expressions qs ∷ ps) from to h = omega (arith, seen_rises qs from h.0 h.1, forms_rise ps h.0 to h.2)
forms_rise (specifier ts ∷ ps) from to h = omega (arith, type_rises ts from h.0 h.1, forms_rise ps h.0 to h.2)
forms_rise (name_among k x at ∷ ps) from to h = omega (arith, h.0, forms_rise ps (at + 1) to h.1)
forms_rise (form env d ∷ ps) from to h = omega (arith, datum_rises d from h.0 h.1, forms_rise ps h.0 to h.2)

pub forms_earlier : (ps : List FormSeen) (before from to : ℕ) → before ≤ from → LieForms from ps to → LieForms before ps to
forms_earlier [] before from to e h = omega (arith, e, h)
forms_earlier (expressions qs ∷ ps) before from to e h = (h.0, seen_earlier qs before from h.0 e h.1, h.2)
forms_earlier (specifier ts ∷ ps) before from to e h = (h.0, type_earlier ts before from h.0 e h.1, h.2)
forms_earlier (name_among k x at ∷ ps) before from to e h = (omega (arith, e, h.0), h.1)
forms_earlier (form env d ∷ ps) before from to e h = (h.0, datum_earlier d before from h.0 e h.1, h.2)

list_rises : (ds : List Datum) (from to : ℕ) → LieList from ds to → from ≤ to
list_rises [] from to h = h
list_rises (d ∷ ds) from to h = omega (arith, datum_rises d from h.0 h.1, list_rises ds h.0 to h.2)

-- ---- rows

-- what the row sees lies between its head and its end
abbrev LieRow : Row → Type 0
LieRow row = (h : ℕ) (env : Names) (ds : List Datum) (from to : ℕ) → h < from → LieList from ds to → LieFormSight h (row h env ds) to

pub forms_lie : (env : Names) (ds : List Datum) (from to : ℕ) → LieList from ds to → LieForms from (forms_seen env ds) to
forms_lie env [] from to h = h
forms_lie env (d ∷ ds) from to h = (h.0, h.1, forms_lie env ds h.0 to h.2)

when_lies : (b : Bool) (ps : List FormSeen) (from to : ℕ) → LieForms from ps to → LieFormSight from (if b then Sees ps else Misshapen) to
when_lies true ps from to h = h
when_lies false ps from to h = tt

-- one expression
one_lies : (env : Names) (d : Datum) (from next : ℕ) → Lies from d next → LieSeen from (expression env d ∷ []) next
one_lies env d from next h = (next, h, omega arith)

if_lies : LieRow if_seen
if_lies k env (a ∷ b ∷ c ∷ []) from to l h = (h.0, one_lies env a k h.0 (datum_earlier a k from h.0 (omega (arith, l)) h.1), h.2)
if_lies k env [] from to l h = tt
if_lies k env (a ∷ []) from to l h = tt
if_lies k env (a ∷ b ∷ []) from to l h = tt
if_lies k env (a ∷ b ∷ c ∷ d ∷ ds) from to l h = tt

when_row_lies : LieRow when_seen
when_row_lies k env [] from to l h = tt
when_row_lies k env (a ∷ ds) from to l h = (h.0, one_lies env a k h.0 (datum_earlier a k from h.0 (omega (arith, l)) h.1), forms_lie env ds h.0 to h.2)

let_lies : LieRow let_seen
let_lies k env [] from to l h = tt
let_lies k env (bs ∷ ds) from to l h =
    when_lies (is_binding_list bs) (expressions (values_seen env (parts_of bs)) ∷ forms_seen (names_bound env (parts_of bs)) ds) k to
    (h.0, seen_earlier (values_seen env (parts_of bs)) k from h.0 (omega (arith, l)) (bound_lies env bs from h.0 h.1), forms_lie (names_bound env (parts_of bs)) ds h.0 to h.2)

dolist_lies : LieRow dolist_seen
dolist_lies k env [] from to l h = tt
dolist_lies k env (b ∷ ds) from to l h =
    when_lies (is_binding (parts_of b)) (expressions (value_seen env (parts_of b)) ∷ forms_seen (names_behind env (parts_of b)) ds) k to
    (h.0, seen_earlier (value_seen env (parts_of b)) k from h.0 (omega (arith, l)) (value_lies env b from h.0 h.1), forms_lie (names_behind env (parts_of b)) ds h.0 to h.2)

progn_lies : LieRow progn_seen
progn_lies k env ds from to l h = forms_earlier (forms_seen env ds) k from to (omega (arith, l)) (forms_lie env ds from to h)

head_lies : (k from to : ℕ) (ds : List Datum) → k < from → LieList from ds to → (k ≤ k) × (k < to)
head_lies k from to ds l h = (omega arith, omega (arith, l, list_rises ds from to h))

planned_lies : LieRow planned_seen
planned_lies k env ds from to l h = head_lies k from to ds l h

write_lies : LieRow write_seen
write_lies k env (a ∷ []) from to l h = (h.0, one_lies env a k h.0 (datum_earlier a k from h.0 (omega (arith, l)) h.1), h.2)
write_lies k env [] from to l h = tt
write_lies k env (a ∷ b ∷ ds) from to l h = tt

newline_lies : LieRow newline_seen
newline_lies k env [] from to l h = omega (arith, l, h)
newline_lies k env (d ∷ ds) from to l h = tt

block_lies : (b : Bool) (k : ℕ) (env : Names) (ds : List Datum) (from to : ℕ) → k < from → LieList from ds to
    → LieFormSight k (if b then Sees (expressions (all_seen env ds) ∷ []) else Misshapen) to
block_lies b k env ds from to l h =
    when_lies b (expressions (all_seen env ds) ∷ []) k to (to, seen_earlier (all_seen env ds) k from to (omega (arith, l)) (all_lie env ds from to h), omega arith)

drawn_lies : (count : ℕ) → LieRow (drawn_seen count)
drawn_lies count k env ds from to l h = block_lies (count == length ds) k env ds from to l h

indent_lies : LieRow indent_seen
indent_lies k env [] from to l h = tt
indent_lies k env (a ∷ ds) from to l h = when_row_lies k env (a ∷ ds) from to l h

ink_lies : LieRow ink_seen
ink_lies k env [] from to l h = tt
ink_lies k env (a ∷ ds) from to l h = when_row_lies k env (a ∷ ds) from to l h

room_lies : LieRow room_seen
room_lies k env ds from to l h = progn_lies k env ds from to l h

module _ (w : Signatures) where
  present_lies : LieRow (present_seen w)
  present_lies k env (a ∷ b ∷ []) from to l h =
      (h.0, one_lies env a k h.0 (datum_earlier a k from h.0 (omega (arith, l)) h.1), (h.2.0, type_lies w [] b h.0 h.2.0 h.2.1, h.2.2))
  present_lies k env [] from to l h = tt
  present_lies k env (a ∷ []) from to l h = tt
  present_lies k env (a ∷ b ∷ c ∷ ds) from to l h = tt

  -- the object, its type and the body, where these end in order
  object_lies : (b : Bool) (e s : Datum) (keys : Datums) (ds : List Datum) (env : Names) (k from next to : ℕ) → k ≤ from → LieAll from (item e (item s keys)) next
      → LieList next ds to
      → LieFormSight k (if b then Sees (expressions (expression env e ∷ []) ∷ specifier (type_seen w [] s) ∷ forms_seen env ds) else Misshapen) to
  object_lies b e s keys ds env k from next to l h i =
      when_lies b (expressions (expression env e ∷ []) ∷ specifier (type_seen w [] s) ∷ forms_seen env ds) k to (
        h.0,
        one_lies env e k h.0 (datum_earlier e k from h.0 l h.1),
        (
          next,
          type_later (type_seen w [] s) h.0 h.2.0 next (all_rise keys h.2.0 next h.2.2) (type_lies w [] s h.0 h.2.0 h.2.1),
          forms_lie env ds next to i,
        ),
      )

  presented_lies : (a : Datum) (ds : List Datum) (env : Names) (k from next to : ℕ) → k < from → Lies from a next → LieList next ds to
      → LieFormSight k (presented_seen w env (parts_of a) ds) to
  presented_lies (list (item e (item s keys)) at) ds env k from next to l h i =
      object_lies (is_some (single_box_in (in_order keys))) e s keys ds env k (at + 1) next to (omega (arith, l, h.0)) h.2 i
  presented_lies (list none at) ds env k from next to l h i = tt
  presented_lies (list (item e none) at) ds env k from next to l h i = tt
  presented_lies (number z at) ds env k from next to l h i = tt
  presented_lies (literal s at) ds env k from next to l h i = tt
  presented_lies (word s at) ds env k from next to l h i = tt
  presented_lies (quoted s at name_at) ds env k from next to l h i = tt
  presented_lies (stray at) ds env k from next to l h i = tt

  presentation_lies : LieRow (presentation_seen w)
  presentation_lies k env [] from to l h = tt
  presentation_lies k env (a ∷ ds) from to l h = presented_lies a ds env k from h.0 to l h.1 h.2

updated_lies : (a : Datum) (ds : List Datum) (env : Names) (k from next to : ℕ) → k < from → Lies from a next → LieList next ds to
    → LieFormSight k (updated_seen env a ds) to
updated_lies (list keys at) ds env k from next to l h i =
    when_lies (is_some (update_keys_in (in_order keys))) (expressions (keys_seen env (in_order keys)) ∷ forms_seen env ds) k to (
      next,
      seen_earlier (keys_seen env (in_order keys)) k (at + 1) next (omega (arith, l, h.0))
          (keys_lie env (in_order keys) (at + 1) next (list_lies keys (at + 1) next h.2)),
      forms_lie env ds next to i,
    )
updated_lies (number z at) ds env k from next to l h i = tt
updated_lies (literal s at) ds env k from next to l h i = tt
updated_lies (word s at) ds env k from next to l h i = tt
updated_lies (quoted s at name_at) ds env k from next to l h i = tt
updated_lies (stray at) ds env k from next to l h i = tt

update_lies : LieRow update_seen
update_lies k env [] from to l h = tt
update_lies k env (a ∷ ds) from to l h = updated_lies a ds env k from h.0 to l h.1 h.2

call_lies : (o : Option (Option ℕ)) → LieRow (call_seen o)
call_lies None k env ds from to l h = head_lies k from to ds l h
call_lies (Some count) k env ds from to l h = block_lies (fits count (length ds)) k env ds from to l h

place_named : (name : Option (List ℕ)) (n e : Datum) (env : Names) (k from next to : ℕ) → k < from → Lies from n next → Lies next e to
    → LieFormSight k (elim name [ None ↦ Misshapen | Some x ↦ Sees (expressions (slot_name x (offset n) ∷ expression env e ∷ []) ∷ []) ]) to
place_named None n e env k from next to l h i = tt
place_named (Some x) n e env k from next to l h i =
    let own : (from ≤ offset n) × (offset n < next) = own_lies n from next h in
    (to, (omega (arith, l, own.0), (to, datum_earlier e (offset n + 1) next to (omega (arith, own.1)) i, omega arith)), omega arith)

place_chosen : (b : Bool) (name : Option (List ℕ)) (n e : Datum) (env : Names) (k from next to : ℕ) → k < from → Lies from n next → Lies next e to
    → LieFormSight k
    (if b then elim name [ None ↦ Misshapen | Some x ↦ Sees (expressions (slot_name x (offset n) ∷ expression env e ∷ []) ∷ []) ] else Misshapen) to
place_chosen true name n e env k from next to l h i = place_named name n e env k from next to l h i
place_chosen false name n e env k from next to l h i = tt

place_lies : (a e : Datum) (env : Names) (k from next to : ℕ) → k < from → Lies from a next → Lies next e to
    → LieFormSight k (place_seen (parts_of a) env e) to
place_lies (list (item s (item n none)) at) e env k from next to l h i =
    place_chosen (bytes_eq (symbol_of s) (codes "slot")) (name_in n) n e env k h.2.0 h.2.2.0 to (omega (arith, l, h.0, datum_rises s (at + 1) h.2.0 h.2.1)) h.2.2.1
    (datum_earlier e h.2.2.0 next to h.2.2.2 i)
place_lies (list none at) e env k from next to l h i = tt
place_lies (list (item s none) at) e env k from next to l h i = tt
place_lies (list (item s (item n (item d ds))) at) e env k from next to l h i = tt
place_lies (number z at) e env k from next to l h i = tt
place_lies (literal s at) e env k from next to l h i = tt
place_lies (word s at) e env k from next to l h i = tt
place_lies (quoted s at name_at) e env k from next to l h i = tt
place_lies (stray at) e env k from next to l h i = tt

forms_later : (ps : List FormSeen) (from to behind : ℕ) → to ≤ behind → LieForms from ps to → LieForms from ps behind
forms_later [] from to behind e h = omega (arith, e, h)
forms_later (expressions qs ∷ ps) from to behind e h = (h.0, h.1, forms_later ps h.0 to behind e h.2)
forms_later (specifier ts ∷ ps) from to behind e h = (h.0, h.1, forms_later ps h.0 to behind e h.2)
forms_later (name_among k x at ∷ ps) from to behind e h = (h.0, forms_later ps (at + 1) to behind e h.1)
forms_later (form env d ∷ ps) from to behind e h = (h.0, h.1, forms_later ps h.0 to behind e h.2)

sight_later : (s : FormSight) (from to behind : ℕ) → to ≤ behind → LieFormSight from s to → LieFormSight from s behind
sight_later Misshapen from to behind e h = tt
sight_later (UnknownHead k) from to behind e h = (h.0, omega (arith, e, h.1))
sight_later (PlannedHead k) from to behind e h = (h.0, omega (arith, e, h.1))
sight_later (Sees ps) from to behind e h = forms_later ps from to behind e h

setf_lies : LieRow setf_seen
setf_lies k env (a ∷ e ∷ []) from to l h = sight_later (place_seen (parts_of a) env e) k h.2.0 to h.2.2 (place_lies a e env k from h.0 h.2.0 l h.1 h.2.1)
setf_lies k env [] from to l h = tt
setf_lies k env (a ∷ []) from to l h = tt
setf_lies k env (a ∷ b ∷ c ∷ ds) from to l h = tt

reply_lies : LieRow reply_seen
reply_lies k env (a ∷ []) from to l h = (h.0, one_lies env a k h.0 (datum_earlier a k from h.0 (omega (arith, l)) h.1), h.2)
reply_lies k env [] from to l h = tt
reply_lies k env (a ∷ b ∷ ds) from to l h = tt

name_lies : (space : NameSpace) (name : Option (List ℕ)) (n : Datum) (k from next to : ℕ) → k < from → Lies from n next → next ≤ to
    → LieFormSight k (elim name [ None ↦ Misshapen | Some x ↦ Sees (name_among space x (offset n) ∷ []) ]) to
name_lies space None n k from next to l h e = tt
name_lies space (Some x) n k from next to l h e =
    let own : (from ≤ offset n) × (offset n < next) = own_lies n from next h in (omega (arith, l, own.0), omega (arith, own.1, e))

switch_lies : LieRow switch_seen
switch_lies k env (n ∷ []) from to l h = name_lies commands (name_in n) n k from h.0 to l h.1 h.2
switch_lies k env [] from to l h = tt
switch_lies k env (n ∷ d ∷ ds) from to l h = tt

dialog_lies : LieRow dialog_seen
dialog_lies k env (n ∷ []) from to l h = name_lies dialogs (name_in n) n k from h.0 to l h.1 h.2
dialog_lies k env [] from to l h = tt
dialog_lies k env (n ∷ d ∷ ds) from to l h = tt

-- ---- forms by their heads

unknown_or_call : (b : Bool) (o : Option (Option ℕ)) → LieRow (λ h env ds. if b then UnknownHead h else call_seen o h env ds)
unknown_or_call true o k env ds from to l h = head_lies k from to ds l h
unknown_or_call false o k env ds from to l h = call_lies o k env ds from to l h

shape_row_lies : (w : Signatures) (o : Option Row) (x : List ℕ) → IfSome o LieRow → LieRow (shape_row_seen w o x)
shape_row_lies w (Some row) x i k env ds from to l h = i k env ds from to l h
shape_row_lies w None x i k env ds from to l h = unknown_or_call (among x fixed_heads) (display_in w x) k env ds from to l h

act_row_lies : (o : Option Row) → IfSome o LieRow → LieRow (act_row_seen o)
act_row_lies (Some row) i k env ds from to l h = i k env ds from to l h
act_row_lies None i k env ds from to l h = head_lies k from to ds l h

sight_earlier : (s : FormSight) (before from to : ℕ) → before ≤ from → LieFormSight from s to → LieFormSight before s to
sight_earlier Misshapen before from to e h = tt
sight_earlier (UnknownHead k) before from to e h = (omega (arith, e, h.0), h.1)
sight_earlier (PlannedHead k) before from to e h = (omega (arith, e, h.0), h.1)
sight_earlier (Sees ps) before from to e h = forms_earlier ps before from to e h

-- what the forms of a language see lies in them
abbrev pub LieSights : (Names → List Datum → FormSight) → Type 0
LieSights seen = (env : Names) (ds : List Datum) (from to : ℕ) → LieList from ds to → LieFormSight from (seen env ds) to

headed_lie : (row : List ℕ → Row) → ((x : List ℕ) → LieRow (row x)) → LieSights (headed_seen row)
headed_lie row i env [] from to h = tt
headed_lie row i env (word x at ∷ ds) from to h =
    sight_earlier (row x at env ds) from at to h.1.0 (i x at env ds h.0 to h.1.1 h.2)
headed_lie row i env (number z at ∷ ds) from to h = tt
headed_lie row i env (literal s at ∷ ds) from to h = tt
headed_lie row i env (quoted s at name_at ∷ ds) from to h = tt
headed_lie row i env (stray at ∷ ds) from to h = tt
headed_lie row i env (list es at ∷ ds) from to h = tt

pub shapes_lie : (w : Signatures) → LieSights (shape_seen w)
shapes_lie w = headed_lie (λ x. shape_row_seen w (named x (shape_rows w)) x) (λ x. shape_row_lies w (named x (shape_rows w)) x
    (row_found LieRow x (shape_rows w) (
      if_lies,
      (
        when_row_lies,
        (
          let_lies,
          (
            dolist_lies,
            (
              progn_lies,
              (
                write_lies,
                (
                  newline_lies,
                  (
                    drawn_lies 3,
                    (
                      drawn_lies 3,
                      (
                        drawn_lies 3,
                        (
                          drawn_lies 4,
                          (
                            drawn_lies 5,
                            (indent_lies, (ink_lies, (room_lies, (present_lies w, (presentation_lies w, (update_lies, (planned_lies, tt))))))),
                          ),
                        ),
                      ),
                    ),
                  ),
                ),
              ),
            ),
          ),
        ),
      ),
    )))

pub acts_lie : LieSights act_seen
acts_lie = headed_lie (λ x. act_row_seen (named x act_rows)) (λ x. act_row_lies (named x act_rows)
    (row_found LieRow x act_rows
    (if_lies, (when_row_lies, (let_lies, (dolist_lies, (progn_lies, (setf_lies, (reply_lies, (switch_lies, (switch_lies, (dialog_lies, tt))))))))))))
