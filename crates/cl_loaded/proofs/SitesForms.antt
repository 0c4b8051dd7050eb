-- The updates that a display form opens stand at forms within it, each at its own.
use Rattle.std.proofs.Common.{◌≡◌, ◌≤◌, ◌<◌, ◌+◌, ℕ, zero, suc, drop, length, List, [], ◌∷◌, refl, arith, IfOk}
use Rattle.std.specs.Prelude.{◌==◌, Result, Ok, Err, Option, Some, None}
use Rattle.cl_syntax.specs.ShapeTree.{ShapeTree, shape_trees_of}
use Rattle.cl_syntax.specs.UpdateTree.{UpdateTree}
use Rattle.cl_syntax.specs.declared.figures.Figure.{Figure}
use Rattle.cl_syntax.specs.declared.sites.Site.{Site}
use Rattle.cl_forms.specs.Datum.{Datum, Datums, number, literal, word, quoted, stray, list, none, item, in_order, parts_of}
use Rattle.cl_forms.specs.Keys.{Keyed}
use Rattle.cl_forms.specs.Naming.{fits}
use Rattle.cl_words.specs.Heads.{figure_count, head_named}
use Rattle.cl_words.specs.Signatures.{display_in}
use Rattle.cl_words.specs.declared.heads.Control.{Control}
use Rattle.cl_words.specs.declared.heads.Control.TheVariants as control
use Rattle.cl_words.specs.declared.heads.Head.{Head}
use Rattle.cl_words.specs.declared.heads.Head.TheVariants as head
use Rattle.cl_words.specs.declared.heads.Planned.TheVariants as planned
use Rattle.cl_words.specs.declared.heads.Setting.{Setting}
use Rattle.cl_words.specs.declared.heads.Setting.TheVariants as setting
use Rattle.cl_words.specs.declared.heads.Writing.{Writing}
use Rattle.cl_words.specs.declared.heads.Writing.TheVariants as writing
use Rattle.cl_words.specs.declared.signatures.Signatures.{Signatures}
use Rattle.cl_expressions.specs.Expressions as expressions
use Rattle.cl_expressions.specs.Expressions.{Sub, is_binding_list, parse_binding}
use Rattle.cl_expressions.specs.Load.{Load, Notes, Fault}
use Rattle.cl_expressions.specs.Scopes.{Names}
use Rattle.cl_bodies.specs.Bodies as row
use Rattle.cl_bodies.specs.Bodies.{Part, finished, parse_each, parts_in, subs_of}
use Rattle.cl_bodies.specs.DisplayForms.{closed, display_forms, parse_call_counted, parse_draw, parse_newline, parse_own, parse_setting, parse_write, parse_writing}
use Rattle.cl_bodies.specs.Presentations.{parse_present, parse_presented}
use Rattle.cl_bodies.specs.Specifiers.{parse_type}
use Rattle.cl_bodies.specs.Updates.{nothing_said, parse_update_keyed, parse_update_keys, parse_update_list, update_keys_in}
use Rattle.cl_bodies.specs.declared.display_forms.Context.{Context}
use Rattle.cl_bodies.specs.declared.display_forms.Opening.{Opening}
use Rattle.cl_bodies.specs.declared.display_forms.Opening.TheVariants as opening
use Rattle.cl_bodies.specs.declared.own.Own.{Own}
use Rattle.cl_bodies.specs.declared.own.Own.TheVariants.{Whole, Before}
use Rattle.cl_grammar.specs.Lies.{Lies, LieAll}
use Rattle.cl_grammar.proofs.Endings.{Ends, gives, refuses, chooses, binds, ends_weaker}
use Rattle.cl_grammar.proofs.Lying.{datum_rises}
use Rattle.cl_reuse.specs.Sited.{Has, HaveIt, Sited}
use Rattle.cl_loaded.proofs.SitesLemmas.{Spaced, either, fewer, form_of, nothing, that_spaced, wider}

-- no query of a dialog
abbrev pub IsWritten : Site → Type 0
IsWritten s = s.query ≡ 0

-- the updates of a form, and of forms, from one place up to another
abbrev pub Stands : ℕ → ℕ → ShapeTree → Type 0
Stands from to f = Spaced form_of IsWritten from to (λ u. Has u f)

abbrev pub StandAll : ℕ → ℕ → List ShapeTree → Type 0
StandAll from to fs = Spaced form_of IsWritten from to (λ u. HaveIt u (shape_trees_of fs))

-- no update stands in the form
abbrev HasNone : ShapeTree → Type 0
HasNone f = (u : Sited) → Has u f → ⊥

none_stands : (from to : ℕ) (f : ShapeTree) → HasNone f → Stands from to f
none_stands from to f h = fewer from to h (nothing from to)

-- ---- readings of which nothing is asked

abbrev Any : {A : Type 0} → A → Type 0
Any x = Unit {0}

any_ok : {A : Type 0} (r : Result (A × Notes) Fault) → IfOk r (λ x. Any x.0)
any_ok (Ok x) = tt
any_ok (Err fault) = tt

pub anything : {A : Type 0} (m : Load A) → Ends Any m
anything m = record { ends = λ u. any_ok (m u) }

-- ---- parts

-- a part lies from one place up to another, and so does the form that it is
record StandsIn (from to : ℕ) (p : Part ShapeTree Context) : Type 0 where
  stands : (c : Context) (env : Names) → Ends (Stands from to) (p.form c env)
  rises : from ≤ to

-- parts lie so one behind another
abbrev PartsStand : ℕ → List (Part ShapeTree Context) → ℕ → Type 0
PartsStand from [] to = from ≤ to
PartsStand from (p ∷ ps) to = (next : ℕ) × StandsIn from next p × PartsStand next ps to

parts_rise : (ps : List (Part ShapeTree Context)) (from to : ℕ) → PartsStand from ps to → from ≤ to
parts_rise [] from to h = h
parts_rise (p ∷ ps) from to h = omega (arith, h.1.rises, parts_rise ps h.0 to h.2)

part_earlier : (p : Part ShapeTree Context) (before from to : ℕ) → before ≤ from → StandsIn from to p → StandsIn before to p
part_earlier p before from to b h = record {
  stands = λ c env. ends_weaker (λ f i. wider before from to to b (omega arith) i) (h.stands c env);
  rises = omega (arith, b, h.rises);
}

parts_earlier : (ps : List (Part ShapeTree Context)) (before from to : ℕ) → before ≤ from → PartsStand from ps to → PartsStand before ps to
parts_earlier [] before from to b h = omega (arith, b, h)
parts_earlier (p ∷ ps) before from to b h = (h.0, part_earlier p before from h.0 b h.1, h.2)

-- behind the first
parts_behind : (p : Part ShapeTree Context) (ps : List (Part ShapeTree Context)) (from to : ℕ) → PartsStand from (p ∷ ps) to → PartsStand from ps to
parts_behind p ps from to h = parts_earlier ps from h.0 to h.1.rises h.2

parts_dropped : (n : ℕ) (ps : List (Part ShapeTree Context)) (from to : ℕ) → PartsStand from ps to → PartsStand from (drop n ps) to
parts_dropped zero ps from to h = h
parts_dropped (suc n) [] from to h = h
parts_dropped (suc n) (p ∷ ps) from to h = parts_dropped n ps from to (parts_behind p ps from to h)

each_stand : (c : Context) (ps : List (Part ShapeTree Context)) (env : Names) (from to : ℕ) → PartsStand from ps to
    → Ends (StandAll from to) (parse_each c ps env)
each_stand c [] env from to h = gives (nothing from to)
each_stand c (p ∷ ps) env from to h =
    binds (h.1.stands c env) λ f i. binds (each_stand c ps env h.0 to h.2) λ fs j.
    gives (either from h.0 to i j h.1.rises (parts_rise ps h.0 to h.2))

-- ---- forms that choose, repeat and bind

if_stands : (c : Context) (at : ℕ) (ps : List (Part ShapeTree Context)) (env : Names) (from to : ℕ) → PartsStand from ps to
    → Ends (Stands from to) (row.parse_if display_forms c at ps env)
if_stands c at (a ∷ b ∷ d ∷ []) env from to h =
    binds (anything (a.sub.expr env)) λ t x. binds (h.2.1.stands c env) λ f i. binds (h.2.2.1.stands c env) λ g j.
    gives
    (wider from h.0 h.2.2.0 to h.1.rises h.2.2.2 (either h.0 h.2.0 h.2.2.0 i j h.2.1.rises h.2.2.1.rises))
if_stands c at ps env from to h = refuses

when_stands : (c : Context) (at : ℕ) (ps : List (Part ShapeTree Context)) (env : Names) (from to : ℕ) → PartsStand from ps to
    → Ends (Stands from to) (row.parse_when display_forms c at ps env)
when_stands c at [] env from to h = refuses
when_stands c at (a ∷ ps) env from to h =
    binds (anything (a.sub.expr env)) λ t x. binds (each_stand c ps env from to (parts_behind a ps from to h)) λ fs i. gives i

let_stands : (c : Context) (at : ℕ) (ps : List (Part ShapeTree Context)) (env : Names) (from to : ℕ) → PartsStand from ps to
    → Ends (Stands from to) (row.parse_let display_forms c at ps env)
let_stands c at [] env from to h = refuses
let_stands c at (a ∷ ps) env from to h =
    chooses (is_binding_list a.sub.shape)
    (λ y. binds (anything (a.sub.bound at env)) λ r x. binds (each_stand c ps r.1 from to (parts_behind a ps from to h)) λ fs i. gives i)
    (λ y. refuses)

dolist_stands : (w : Signatures) (c : Context) (at : ℕ) (ps : List (Part ShapeTree Context)) (env : Names) (from to : ℕ) → PartsStand from ps to
    → Ends (Stands from to) (row.parse_dolist display_forms w c at ps env)
dolist_stands w c at [] env from to h = refuses
dolist_stands w c at (a ∷ ps) env from to h =
    binds (anything (parse_binding w a.sub.shape at env)) λ b x.
    binds (each_stand c ps (b.name ∷ env) from to (parts_behind a ps from to h)) λ fs i. gives i

control_stands : (w : Signatures) (c : Context) (k : Control) (at : ℕ) (ps : List (Part ShapeTree Context)) (env : Names) (from to : ℕ)
    → PartsStand from ps to → Ends (Stands from to) (row.parse_control display_forms w c k at ps env)
control_stands w c control.When at ps env from to h = when_stands c at ps env from to h
control_stands w c control.Dolist at ps env from to h = dolist_stands w c at ps env from to h
control_stands w c control.Progn at ps env from to h = binds (each_stand c ps env from to h) λ fs i. gives i

-- ---- forms of expressions alone

call_none : (count : Option (Option ℕ)) (x : List ℕ) (head_at at : ℕ) (subs : List Sub) (env : Names)
    → Ends HasNone (parse_call_counted count x head_at at subs env)
call_none None x head_at at subs env = refuses
call_none (Some count) x head_at at subs env =
    chooses (fits count (length subs)) (λ y. binds (anything (expressions.parse_each subs env)) λ ts x. gives (λ u h. h)) (λ y. refuses)

draw_none : (figure : Figure) (at : ℕ) (subs : List Sub) (env : Names) → Ends HasNone (parse_draw figure at subs env)
draw_none figure at subs env =
    chooses (figure_count figure == length subs) (λ y. binds (anything (expressions.parse_each subs env)) λ ts x. gives (λ u h. h)) (λ y. refuses)

write_none : (at : ℕ) (subs : List Sub) (env : Names) → Ends HasNone (parse_write at subs env)
write_none at (a ∷ []) env = binds (anything (a.expr env)) λ t x. gives (λ u h. h)
write_none at subs env = refuses

newline_none : (at : ℕ) (subs : List Sub) → Ends HasNone (parse_newline at subs)
newline_none at [] = gives (λ u h. h)
newline_none at (a ∷ subs) = refuses

present_none : (w : Signatures) (at : ℕ) (subs : List Sub) (env : Names) → Ends HasNone (parse_present w at subs env)
present_none w at (a ∷ b ∷ []) env = binds (anything (a.expr env)) λ t x. binds (anything (parse_type w [] b.shape)) λ s y. gives (λ u h. h)
present_none w at subs env = refuses

writing_none : (w : Signatures) (k : Writing) (at : ℕ) (subs : List Sub) (env : Names) → Ends HasNone (parse_writing w k at subs env)
writing_none w writing.WriteText at subs env = write_none at subs env
writing_none w writing.Newline at subs env = newline_none at subs
writing_none w writing.Present at subs env = present_none w at subs env

-- ---- forms of their own

-- the update has the site of the form here
abbrev IsUpdateAt : ℕ → UpdateTree → Type 0
IsUpdateAt at u = (u.site.form ≡ at) × IsWritten u.site

-- an update has the site of its form
abbrev OpensAt : ℕ → Opening → Type 0
OpensAt at (opening.Indent t) = Unit {0}
OpensAt at (opening.Ink t) = Unit {0}
OpensAt at opening.Room = Unit {0}
OpensAt at (opening.Presentation p) = Unit {0}
OpensAt at (opening.Update u) = IsUpdateAt at u

abbrev OwnAt : ℕ → Own ShapeTree Opening Context → Type 0
OwnAt at (Whole f) = HasNone f
OwnAt at (Before o count c) = OpensAt at o

keyed_at : (w : Signatures) (at : ℕ) (ks : Option (List Keyed)) (env : Names)
    → Ends (IsUpdateAt at) (parse_update_keyed w at ks env)
keyed_at w at None env = refuses
keyed_at w at (Some ks) env = binds (anything (parse_update_keys w env ks nothing_said)) λ s x. gives (refl, refl)

list_at : (w : Signatures) (at : ℕ) (d : Datum) (env : Names) → Ends (IsUpdateAt at) (parse_update_list w at d env)
list_at w at (list ds place) env = keyed_at w at (update_keys_in (in_order ds)) env
list_at w at (number z place) env = refuses
list_at w at (literal s place) env = refuses
list_at w at (word s place) env = refuses
list_at w at (quoted s place name_at) env = refuses
list_at w at (stray place) env = refuses

setting_at : (w : Signatures) (c : Context) (s : Setting) (at : ℕ) (subs : List Sub) (env : Names)
    → Ends (OwnAt at) (parse_setting w c s at subs env)
setting_at w c setting.Indent at [] env = refuses
setting_at w c setting.Indent at (a ∷ subs) env = binds (anything (a.expr env)) λ t x. gives tt
setting_at w c setting.Ink at [] env = refuses
setting_at w c setting.Ink at (a ∷ subs) env = binds (anything (a.expr env)) λ t x. gives tt
setting_at w c setting.Room at subs env = gives tt
setting_at w c setting.Presentation at [] env = refuses
setting_at w c setting.Presentation at (a ∷ subs) env = binds (anything (parse_presented w at (parts_of a.shape) env)) λ p x. gives tt
setting_at w c setting.Update at [] env = refuses
setting_at w c setting.Update at (a ∷ subs) env = binds (list_at w at a.shape env) λ u e. gives e

own_at : (w : Signatures) (c : Context) (h : Head) (head_at at : ℕ) (subs : List Sub) (env : Names)
    → Ends (OwnAt at) (parse_own w c h head_at at subs env)
own_at w c (head.Figure f) head_at at subs env = binds (draw_none f at subs env) λ s i. gives i
own_at w c (head.Setting s) head_at at subs env = setting_at w c s at subs env
own_at w c (head.Writing k) head_at at subs env = binds (writing_none w k at subs env) λ s i. gives i
own_at w c (head.Planned planned.Display) head_at at subs env = refuses
own_at w c (head.Planned other) head_at at subs env = refuses
own_at w c other head_at at subs env = refuses

closed_stands : (o : Opening) (fs : List ShapeTree) (at to : ℕ) → OpensAt at o → at < to → StandAll (at + 1) to fs → Stands at to (closed o fs)
closed_stands (opening.Indent t) fs at to e l h = wider at (at + 1) to to (omega arith) (omega arith) h
closed_stands (opening.Ink t) fs at to e l h = wider at (at + 1) to to (omega arith) (omega arith) h
closed_stands opening.Room fs at to e l h = wider at (at + 1) to to (omega arith) (omega arith) h
closed_stands (opening.Presentation p) fs at to e l h = wider at (at + 1) to to (omega arith) (omega arith) h
closed_stands (opening.Update u) fs at to e l h = either at (at + 1) to (that_spaced form_of IsWritten at u (shape_trees_of fs) e.0 e.1) h (omega arith) (omega (arith, l))

finished_stands : (own : Own ShapeTree Opening Context) (ps : List (Part ShapeTree Context)) (env : Names) (at to : ℕ) → OwnAt at own
    → PartsStand (at + 1) ps to → Ends (Stands at to) (finished display_forms own ps env)
finished_stands (Whole f) ps env at to e h = gives (none_stands at to f e)
finished_stands (Before o count c) ps env at to e h =
    binds (each_stand c (drop count ps) env (at + 1) to (parts_dropped count ps (at + 1) to h)) λ fs i.
    gives (closed_stands o fs at to e (omega (arith, parts_rise ps (at + 1) to h)) i)

-- ---- forms by their heads

module _ (w : Signatures) where
  own_stands : (c : Context) (h : Head) (head_at : ℕ) (ps : List (Part ShapeTree Context)) (env : Names) (at to : ℕ) → PartsStand (at + 1) ps to
      → Ends (Stands at to) (row.parse_own display_forms w c h head_at at ps env)
  own_stands c h head_at ps env at to k =
      binds (own_at w c h head_at at (subs_of ps) env) λ own e. finished_stands own ps env at to e k

  sooner : {m : Load ShapeTree} (at to : ℕ) → Ends (Stands (at + 1) to) m → Ends (Stands at to) m
  sooner at to h = ends_weaker (λ f i. wider at (at + 1) to to (omega arith) (omega arith) i) h

  head_stands : (c : Context) (h : Option Head) (x : List ℕ) (head_at : ℕ) (ps : List (Part ShapeTree Context)) (env : Names) (at to : ℕ)
      → PartsStand (at + 1) ps to → Ends (Stands at to) (row.parse_head display_forms w c h x head_at at ps env)
  head_stands c None x head_at ps env at to k =
      ends_weaker (none_stands at to) (call_none (display_in w x) x head_at at (subs_of ps) env)
  head_stands c (Some head.If) x head_at ps env at to k = sooner at to (if_stands c at ps env (at + 1) to k)
  head_stands c (Some head.Let) x head_at ps env at to k = sooner at to (let_stands c at ps env (at + 1) to k)
  head_stands c (Some (head.Control r)) x head_at ps env at to k = sooner at to (control_stands w c r at ps env (at + 1) to k)
  head_stands c (Some other) x head_at ps env at to k = own_stands c other head_at ps env at to k

  headed_stands : (c : Context) (d : Datum) (ps : List (Part ShapeTree Context)) (env : Names) (at to : ℕ)
      → PartsStand (at + 1) ps to → Ends (Stands at to) (row.parse_headed display_forms w c d at ps env)
  headed_stands c (word x head_at) ps env at to k = head_stands c (head_named x) x head_at ps env at to k
  headed_stands c (number z head_at) ps env at to k = refuses
  headed_stands c (literal s head_at) ps env at to k = refuses
  headed_stands c (quoted s head_at name_at) ps env at to k = refuses
  headed_stands c (stray head_at) ps env at to k = refuses
  headed_stands c (list ds head_at) ps env at to k = refuses

  listed_stands : (c : Context) (ps : List (Part ShapeTree Context)) (env : Names) (at to : ℕ)
      → PartsStand (at + 1) ps to → Ends (Stands at to) (row.parse_listed display_forms w c at ps env)
  listed_stands c [] env at to k = refuses
  listed_stands c (p ∷ ps) env at to k = headed_stands c p.sub.shape ps env at to (parts_behind p ps (at + 1) to k)

  mutual
    form_stands : (d : Datum) (from to : ℕ) → Lies from d to → (c : Context) (env : Names)
        → Ends (Stands from to) (row.parse_form display_forms w c d env)
    form_stands (list ds at) from to h c env =
        ends_weaker (λ f i. wider from at to to h.0 (omega arith) i) (listed_stands c (parts_in display_forms w ds) env at to (parts_stand ds (at + 1) to h.2))
    form_stands (number z at) from to h c env = refuses
    form_stands (literal s at) from to h c env = refuses
    form_stands (quoted x at name_at) from to h c env = refuses
    form_stands (word x at) from to h c env = refuses
    form_stands (stray at) from to h c env = refuses

    parts_stand : (ds : Datums) (from to : ℕ) → LieAll from ds to → PartsStand from (parts_in display_forms w ds) to
    parts_stand none from to h = h
    parts_stand (item d ds) from to h =
        (h.0, record { stands = form_stands d from h.0 h.1; rises = datum_rises d from h.0 h.1 }, parts_stand ds h.0 to h.2)

  -- the forms of a body
  pub body_stands : (c : Context) (ds : Datums) (env : Names) (from to : ℕ) → LieAll from ds to
      → Ends (StandAll from to) (row.parse_body display_forms w c ds env)
  body_stands c ds env from to h = each_stand c (parts_in display_forms w ds) env from to (parts_stand ds from to h)
