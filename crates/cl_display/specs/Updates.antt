-- Updates: what is drawn between an opening and its end is found again by its site and its id. The body is a draw of its own, which begins
-- with nothing, and is allowed what is left.
use Rattle.std.specs.Prelude.{ℕ, ◌+◌, max, pos, nat_le, if◌then◌else◌, List, [], ◌∷◌, ◌++◌, Option, Some, None, Result, Ok, Err, IfSome}
use Rattle.cl_value.specs.Data.{Data, int, items_of, size_of, size_of_items}
use Rattle.cl_value.specs.Value.{data_of}
use Rattle.cl_syntax.specs.ExprTree.{ExprTree, ExprTrees}
use Rattle.cl_syntax.specs.UpdateTree.{UpdateTree}
use Rattle.cl_syntax.specs.declared.sites.Site.{Site}
use Rattle.cl_eval.specs.Meaning.{Go, each}
use Rattle.cl_eval.specs.Outcome.{Outcome, Gives, Traps, Run, give, ◌>>=◌}
use Rattle.cl_eval.specs.Slots.{Env}
use Rattle.cl_medium.specs.Ambients.{AmbientAt}
use Rattle.cl_medium.specs.Items.{item_bounds}
use Rattle.cl_record.specs.Boxes.{extent_box}
use Rattle.cl_record.specs.Heads.{HeadAt, MeasuresAt}
use Rattle.cl_record.specs.Marks.{close, open_update}
use Rattle.cl_record.specs.Ranges.{HoldsCorners, HoldsPoint}
use Rattle.cl_display.specs.Drawings.{DrawingAt, PartAt, join_parts, start_part}
use Rattle.cl_display.specs.Siblings.{Siblings, count_at, is_taken, note}
use Rattle.cl_display.specs.Walks.{OpeningAt}
use Rattle.cl_display.specs.declared.updates.Key.{Key}

-- the site of an update, and what its id and the paths of its cache, if it has one, come to
pub record KeyAt : Type 0 where
  pub site : Site
  pub id : Data
  pub cache : Option (List Data)

-- the key of a form whose id and cache come to this
abbrev pub key_at : UpdateTree → Data → Option (List Data) → KeyAt
key_at u id cache = record { site = u.site; id = id; cache = cache }

-- what is seen of a key of the program
abbrev pub key_of : Key → KeyAt
key_of key = record { site = key.site; id = data_of key.id; cache = key.cache }

-- the value of the id; without an expression it is the number of the site's updates so far at the level
abbrev pub id_of : Go → ℕ → Env → Siblings → Site → Option ExprTree → Run Data
id_of value level env siblings site None = give (int (pos (count_at site siblings)))
id_of value level env siblings site (Some t) = value level env t

-- the values of the paths of the cache, if there is one
abbrev pub cache_of : Go → ℕ → Env → Option ExprTrees → Run (Option (List Data))
cache_of value level env None = give None
cache_of value level env (Some ts) = each value level env ts [] >>= λ ds. give (Some ds)

-- ---- the opening

-- what the values of a cache weigh, as one list; none where there is no cache
abbrev pub cache_weight : Option (List Data) → ℕ
cache_weight None = 0
cache_weight (Some ds) = size_of_items (items_of ds) + 1

-- what the opening weighs: 1, the size of the id, and that of the cache
abbrev pub key_weight : KeyAt → ℕ
key_weight key = size_of key.id + cache_weight key.cache + 1

-- the opening of an update that is not there yet, where all together do not weigh more than the most
abbrev pub enter_update : (most : ℕ) → KeyAt → DrawingAt → Result DrawingAt ℕ
enter_update most key s =
    if is_taken key.site key.id s.siblings then Err 8
    else (if nat_le (s.weight + key_weight key) most
    then Ok (record s { weight = s.weight + key_weight key; siblings = note key.site key.id s.siblings }) else Err 10)

-- nothing drawn yet, from there
abbrev pub enter_body : DrawingAt → DrawingAt
enter_body s = record { ambient = s.ambient; weight = 0; siblings = []; part = start_part s.ambient }

-- ---- the end

-- what a body came to that was drawn from there: the end, its cost and its reach
abbrev pub measures_at : AmbientAt → (end : DrawingAt) → (cost reach : ℕ) → MeasuresAt
measures_at before end cost reach = record {
  cost = cost;
  reach = reach;
  weight = end.weight;
  extent = end.part.extent;
  start = record { x = before.x; y = before.y };
  ink = before.ink;
  margin = if end.part.margin_used then Some before.margin else None;
  origin = if end.part.origin_used then Some (record { x = before.origin_x; y = before.origin_y }) else None;
  end = record { x = end.ambient.x; y = end.ambient.y };
}

-- what the update says of itself
abbrev pub head_at : KeyAt → AmbientAt → (end : DrawingAt) → (cost reach : ℕ) → HeadAt
head_at key before end cost reach = record {
  site = key.site;
  id = key.id;
  cache = key.cache;
  measures = measures_at before end cost reach;
}

-- a part, seen from outside: what was drawn in it is an update
abbrev pub updated_part : HeadAt → PartAt → PartAt
updated_part head p = record p { marks = open_update head ∷ (p.marks ++ close ∷ []) }

-- behind an update: the cursor stands where its body left it, and what was drawn in it stands behind the part around it
abbrev pub leave_update : HeadAt → (inner : PartAt) → DrawingAt → DrawingAt
leave_update head inner s = record {
  ambient = record s.ambient { x = head.measures.end.x; y = head.measures.end.y };
  weight = s.weight + head.measures.weight;
  siblings = s.siblings;
  part = join_parts s.part (updated_part head inner);
}

-- what a body comes to where it stands: it is counted in behind the cost so far, and below a level
abbrev pub end_update : KeyAt → (level : ℕ) → DrawingAt → Outcome DrawingAt → Run DrawingAt
end_update key level s (Gives end n reach) cost deepest =
    Gives (leave_update (head_at key s.ambient end n reach) end.part s) (cost + n) (max deepest (level + reach))
end_update key level s (Traps kind n reach) cost deepest = Traps kind (cost + n) deepest

-- the update as it is met: with what is left there of the budget, the weight and the depth
abbrev pub opening_at : KeyAt → DrawingAt → (budget weight depth : ℕ) → OpeningAt
opening_at key s budget weight depth = record {
  site = key.site;
  id = key.id;
  cache = key.cache;
  ambient = s.ambient;
  budget = budget;
  weight = weight;
  depth = depth;
}

-- ---- what a body that ended keeps to

-- its extent holds the cursor at the start and at the end, and all that was drawn
pub record IsAround (start end : DrawingAt) : Type 0 where
  pub first : HoldsPoint end.part.extent (record { x = start.ambient.x; y = start.ambient.y })
  pub last : HoldsPoint end.part.extent (record { x = end.ambient.x; y = end.ambient.y })
  pub inside : IfSome (extent_box item_bounds end.part.marks) (HoldsCorners end.part.extent)
