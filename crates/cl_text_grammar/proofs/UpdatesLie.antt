-- What is seen before the body of an update lies in it in order.
use Rattle.std.proofs.Common.{ℕ, ◌+◌, ◌≤◌, ◌<◌, Bool, true, false, if◌then◌else◌, List, [], ◌∷◌, arith}
use Rattle.std.specs.Prelude.{Option, Some, None, codes}
use Rattle.std.specs.Str.{bytes_eq}
use Rattle.cl_forms.specs.Datum.{Datum, Datums, number, literal, word, quoted, stray, list, none, item, in_order, parts_of, offset}
use Rattle.cl_forms.specs.Naming.{name_in, symbol_of}
use Rattle.cl_forms.specs.Words.{is_name}
use Rattle.cl_expressions.specs.Scopes.{Names}
use Rattle.cl_grammar.specs.Lies.{Lies, LieAll}
use Rattle.cl_grammar.specs.Sights.{Seen, expression, slot_name, refused}
use Rattle.cl_grammar.proofs.Lying.{LieList, LieSeen, list_lies, own_lies, datum_rises, seen_earlier, seen_later, seen_joined}
use Rattle.cl_text_grammar.specs.UpdateSights.{slot_path_seen, field_seen, path_seen, listed_path_seen, first_path_seen, paths_seen, cache_seen}
use Rattle.cl_text_grammar.specs.UpdateSights.{key_seen, keys_seen}
use Rattle.cl_text_grammar.proofs.TypesLie.{all_rise}

-- ---- paths

-- what is seen alone lies between these places
abbrev LieOne : ℕ → Seen → ℕ → Type 0
LieOne from s to = LieSeen from (s ∷ []) to

module _ (env : Names) where
  -- each of these parts, as a path
  abbrev PathsLie : Datums → Type 0
  PathsLie none = Unit {0}
  PathsLie (item d ds) = ((from to : ℕ) → Lies from d to → LieOne from (path_seen env d) to) × PathsLie ds

  variable_lies : (b : Bool) (x : List ℕ) (at from to : ℕ) → Lies from (word x at) to
      → LieOne from (if b then expression env (word x at) else refused 6 at) to
  variable_lies true x at from to h = (to, h, omega arith)
  variable_lies false x at from to h = (h.0, omega (arith, h.1))

  -- the parts of a path stand between the offset of the path and its end
  module _ (at from to : ℕ) (l : from ≤ at) (r : at < to) where
    abbrev itself_lies : LieOne from (refused 6 at) to
    itself_lies = (l, omega (arith, r))

    slot_named : (name : Option (List ℕ)) (n_at : ℕ) → from ≤ n_at → n_at < to
        → LieOne from (elim name [ None ↦ refused 6 at | Some x ↦ slot_name x n_at ]) to
    slot_named None n_at i j = itself_lies
    slot_named (Some x) n_at i j = (i, omega (arith, j))

    slot_lies : (ds : Datums) (next : ℕ) → at < next → LieAll next ds to → LieOne from (slot_path_seen at (in_order ds)) to
    slot_lies (item n none) next i h =
        let own : (next ≤ offset n) × (offset n < h.0) = own_lies n next h.0 h.1 in
        slot_named (name_in n) (offset n) (omega (arith, l, i, own.0)) (omega (arith, own.1, h.2))
    slot_lies none next i h = itself_lies
    slot_lies (item n (item d ds)) next i h = itself_lies

    field_named : (name : Option (List ℕ)) (s : Seen) → LieOne from s to → LieOne from (elim name [ None ↦ refused 6 at | Some x ↦ s ]) to
    field_named None s h = itself_lies
    field_named (Some x) s h = h

    field_lies : (ds : Datums) (next : ℕ) → at < next → LieAll next ds to → PathsLie ds
        → LieOne from (field_seen at (in_order ds) (first_path_seen env at ds)) to
    field_lies (item p (item f none)) next i h k =
        let rises : h.0 ≤ to = all_rise (item f none) h.0 to h.2 in
        field_named (name_in f) (path_seen env p)
        (seen_later (path_seen env p ∷ []) from h.0 to rises
        (seen_earlier (path_seen env p ∷ []) from next h.0 (omega (arith, l, i)) (k.0 next h.0 h.1)))
    field_lies none next i h k = itself_lies
    field_lies (item p none) next i h k = itself_lies
    field_lies (item p (item f (item d ds))) next i h k = itself_lies

    row_lies : (b c : Bool) (head_at next : ℕ) (ds : Datums) → at < head_at → head_at < next → LieAll next ds to → PathsLie ds
        → LieOne from
        (if b then slot_path_seen at (in_order ds) else (if c then field_seen at (in_order ds) (first_path_seen env at ds) else refused 5 head_at)) to
    row_lies true c head_at next ds i j h k = slot_lies ds next (omega (arith, i, j)) h
    row_lies false true head_at next ds i j h k = field_lies ds next (omega (arith, i, j)) h k
    row_lies false false head_at next ds i j h k = (omega (arith, l, i), omega (arith, j, all_rise ds next to h))

    listed_lies : (ds : Datums) → LieAll (at + 1) ds to → PathsLie ds → LieOne from (listed_path_seen env at ds) to
    listed_lies (item (word x head_at) ds) h k =
        row_lies (bytes_eq x (codes "slot")) (bytes_eq x (codes "get")) head_at h.0 ds (omega (arith, h.1.0)) h.1.1 h.2 k.1
    listed_lies none h k = itself_lies
    listed_lies (item (number z head_at) ds) h k = itself_lies
    listed_lies (item (literal s head_at) ds) h k = itself_lies
    listed_lies (item (quoted s head_at name_at) ds) h k = itself_lies
    listed_lies (item (stray head_at) ds) h k = itself_lies
    listed_lies (item (list es head_at) ds) h k = itself_lies

  mutual
    path_lies : (d : Datum) (from to : ℕ) → Lies from d to → LieOne from (path_seen env d) to
    path_lies (word x at) from to h = variable_lies (is_name x) x at from to h
    path_lies (list ds at) from to h = listed_lies at from to h.0 h.1 ds h.2 (parts_lie ds)
    path_lies (number z at) from to h = (h.0, omega (arith, h.1))
    path_lies (literal s at) from to h = (h.0, omega (arith, h.1))
    path_lies (quoted s at name_at) from to h = (h.0, omega (arith, h.1, h.2))
    path_lies (stray at) from to h = (h.0, omega (arith, h.1))

    parts_lie : (ds : Datums) → PathsLie ds
    parts_lie none = tt
    parts_lie (item d ds) = (λ from to h. path_lies d from to h, parts_lie ds)

  paths_lie : (ds : List Datum) (from to : ℕ) → LieList from ds to → LieSeen from (paths_seen env ds) to
  paths_lie [] from to h = h
  paths_lie (d ∷ ds) from to h =
      seen_joined (path_seen env d ∷ []) (paths_seen env ds) from h.0 to (path_lies d from h.0 h.1) (paths_lie ds h.0 to h.2)

  -- ---- keys

  cache_lies : (v : Datum) (from to : ℕ) → Lies from v to → LieSeen from (cache_seen env (parts_of v)) to
  cache_lies (list (item d ds) at) from to h =
      seen_earlier (paths_seen env (in_order ds)) from h.2.0 to (omega (arith, h.0, datum_rises d (at + 1) h.2.0 h.2.1))
      (paths_lie (in_order ds) h.2.0 to (list_lies ds h.2.0 to h.2.2))
  cache_lies (list none at) from to h = omega (arith, h.0, h.1)
  cache_lies (number z at) from to h = omega (arith, h.0, h.1)
  cache_lies (literal s at) from to h = omega (arith, h.0, h.1)
  cache_lies (word s at) from to h = omega (arith, h.0, h.1)
  cache_lies (quoted s at name_at) from to h = omega (arith, h.0, h.1, h.2)
  cache_lies (stray at) from to h = omega (arith, h.0, h.1)

  value_lies : (b : Bool) (v : Datum) (from to : ℕ) → Lies from v to
      → LieSeen from (if b then expression env v ∷ [] else cache_seen env (parts_of v)) to
  value_lies true v from to h = (to, h, omega arith)
  value_lies false v from to h = cache_lies v from to h

  pub keys_lie : (ds : List Datum) (from to : ℕ) → LieList from ds to → LieSeen from (keys_seen env ds) to
  keys_lie [] from to h = h
  keys_lie (k ∷ []) from to h = omega (arith, datum_rises k from h.0 h.1, h.2)
  keys_lie (k ∷ v ∷ ds) from to h =
      seen_joined (key_seen env (symbol_of k) v) (keys_seen env ds) from h.2.0 to
      (seen_earlier (key_seen env (symbol_of k) v) from h.0 h.2.0 (datum_rises k from h.0 h.1)
      (value_lies (bytes_eq (symbol_of k) (codes ":unique-id")) v h.0 h.2.0 h.2.1)) (keys_lie ds h.2.0 to h.2.2)
