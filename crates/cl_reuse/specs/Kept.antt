-- What is kept of old records where a display is drawn anew. The updates that the display opens are walked; what is opened inside one that is
-- kept is not looked at.
use Rattle.std.specs.Prelude.{◌≡◌, ℕ, ◌+◌, ◌-◌, ◌&&◌, Bool, if◌then◌else◌, List, [], ◌∷◌, ◌++◌, Option, Some, None}
use Rattle.std.specs.Ordering.{is_eq}
use Rattle.cl_value.specs.Data.{Data, order_of}
use Rattle.cl_region.specs.declared.rects.Shift.{Shift}
use Rattle.cl_syntax.specs.declared.sites.Site.{Site}
use Rattle.cl_medium.specs.Items.{Item, move_item}
use Rattle.cl_eval.specs.Outcome.{cost_of}
use Rattle.cl_record.specs.Counts.{count_of}
use Rattle.cl_record.specs.Heads.{HeadAt, Point, move_point}
use Rattle.cl_record.specs.Marks.{Mark, history_marks, marks_of_all}
use Rattle.cl_record.specs.Shifts.{join_shifts, still}
use Rattle.cl_record.specs.Trees.{Tree, Trees, leaf, none, presentation, tree, trees_of, update}
use Rattle.cl_display.specs.Outcomes.{DrawOutcome}
use Rattle.cl_display.specs.Siblings.{same_site}
use Rattle.cl_display.specs.Walks.{OpeningAt, Walk, done, met}
use Rattle.cl_reuse.specs.Keeping.{may_keep, same_number}

-- ---- old updates

-- what an update says of itself, where it stands, and what it holds
pub record OldUpdate : Type 0 where
  pub head : HeadAt
  pub place : Shift
  pub inside : Trees Item

-- the first, or the second where there is no first
abbrev pub or_then : Option OldUpdate → Option OldUpdate → Option OldUpdate
or_then None other = other
or_then (Some u) other = Some u

-- an update has this site and this id
abbrev pub is_that : Site → Data → HeadAt → Bool
is_that site id h = same_site site h.site && is_eq (order_of id h.id)

-- the first update of a level with this site and this id; what presentations hold stands at their level
abbrev mutual
  pub found_in : Site → Data → (at : Shift) → Tree Item → Option OldUpdate
  found_in site id at (leaf a) = None
  found_in site id at (presentation l p ts) = found site id (join_shifts p at) ts
  found_in site id at (update h p ts) = if is_that site id h then Some (record { head = h; place = join_shifts p at; inside = ts }) else None

  -- of trees in a row
  pub found : Site → Data → (at : Shift) → Trees Item → Option OldUpdate
  found site id at none = None
  found site id at (tree t ts) = or_then (found_in site id at t) (found site id at ts)

-- ---- kept

-- an update that is kept: where it began then, where it begins now, its cost, and the items inside
pub record KeptAt : Type 0 where
  pub was : Point
  pub now : Point
  pub cost : ℕ
  pub items : ℕ

-- an old update, kept at an opening
abbrev pub kept_here : OldUpdate → OpeningAt → KeptAt
kept_here old o = record {
  was = move_point old.place old.head.measures.start;
  now = record { x = o.ambient.x; y = o.ambient.y };
  cost = old.head.measures.cost;
  items = count_of (marks_of_all move_item old.inside);
}

-- at an opening: the old update that is found is kept, where it may be; else what is inside is looked at, over what the old one holds
abbrev pub kept_at : Option OldUpdate → OpeningAt → (Shift → Trees Item → List KeptAt) → List KeptAt
kept_at None o inside = inside still none
kept_at (Some old) o inside = if may_keep old.head o then kept_here old o ∷ [] else inside old.place old.inside

-- of a walk, over old records that stand so far from the start
abbrev pub kept_of : (at : Shift) → Trees Item → Walk → List KeptAt
kept_of at old done = []
kept_of at old (met o inside rest) = kept_at (found o.site o.id at old) o (λ there olds. kept_of there olds inside) ++ kept_of at old rest

-- of a display, over an old history
abbrev pub kept : List (Tree Item) → DrawOutcome → List KeptAt
kept old o = kept_of still (trees_of old) o.walk

-- ---- work and report

-- their costs together
abbrev pub costs : List KeptAt → ℕ
costs [] = 0
costs (k ∷ ks) = k.cost + costs ks

-- their items together
abbrev pub items_kept : List KeptAt → ℕ
items_kept [] = 0
items_kept (k ∷ ks) = k.items + items_kept ks

-- it stands where it stood
abbrev pub is_still : KeptAt → Bool
is_still k = same_number k.was.x k.now.x && same_number k.was.y k.now.y

-- how many stand where they stood
abbrev pub count_still : List KeptAt → ℕ
count_still [] = 0
count_still (k ∷ ks) = (if is_still k then 1 else 0) + count_still ks

-- how many stand elsewhere
abbrev pub count_moved : List KeptAt → ℕ
count_moved [] = 0
count_moved (k ∷ ks) = (if is_still k then 0 else 1) + count_moved ks

-- the cost of a display over an old history: that of what is drawn anew
abbrev pub work : List (Tree Item) → DrawOutcome → ℕ
work old o = cost_of o.outcome - costs (kept old o)

-- the four numbers of a display over an old history: what is kept where it stood, and what is moved; the items that are drawn, and those that are
-- erased, outside of what is kept
pub record ReportAt : Type 0 where
  pub kept : ℕ
  pub moved : ℕ
  pub drawn : ℕ
  pub erased : ℕ

-- these are the numbers of a display that ended with these marks
pub record IsReport (r : ReportAt) (old : List (Tree Item)) (o : DrawOutcome) (marks : List (Mark Item)) : Type 0 where
  pub still : r.kept ≡ count_still (kept old o)
  pub elsewhere : r.moved ≡ count_moved (kept old o)
  pub new : r.drawn + items_kept (kept old o) ≡ count_of marks
  pub gone : r.erased + items_kept (kept old o) ≡ count_of (history_marks move_item old)

-- the report of a display that ended with these marks
abbrev pub report_of : List (Tree Item) → DrawOutcome → List (Mark Item) → ReportAt
report_of old o marks = record {
  kept = count_still (kept old o);
  moved = count_moved (kept old o);
  drawn = count_of marks - items_kept (kept old o);
  erased = count_of (history_marks move_item old) - items_kept (kept old o);
}
