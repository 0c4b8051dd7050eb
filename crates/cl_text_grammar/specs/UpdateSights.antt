-- What is looked at before the body of an update: what stands behind its keys, in the order of the text.
use Rattle.std.specs.Prelude.{ℕ, if◌then◌else◌, List, [], ◌∷◌, ◌++◌, Some, None, codes}
use Rattle.std.specs.Str.{bytes_eq}
use Rattle.cl_forms.specs.Datum.{Datum, Datums, number, literal, word, quoted, stray, list, none, item, in_order, parts_of, offset}
use Rattle.cl_forms.specs.Naming.{name_in, symbol_of}
use Rattle.cl_forms.specs.Words.{is_name}
use Rattle.cl_expressions.specs.Scopes.{Names}
use Rattle.cl_grammar.specs.Sights.{Seen, expression, slot_name, refused}

-- ---- paths: the variable or the slot that a path begins with, or what is wrong with it

-- a part is a name, where the path at this offset asks for one
abbrev pub where_path_named : ℕ → Datum → (List ℕ → Seen) → Seen
where_path_named at n seen = elim (name_in n) [ None ↦ refused 6 at | Some x ↦ seen x ]

-- `(slot NAME)`
abbrev pub slot_path_seen : ℕ → List Datum → Seen
slot_path_seen at (n ∷ []) = where_path_named at n λ x. slot_name x (offset n)
slot_path_seen at ds = refused 6 at

-- `(get PATH FIELD)`, by what is seen of the path in it
abbrev pub field_seen : ℕ → List Datum → Seen → Seen
field_seen at (p ∷ f ∷ []) inner = where_path_named at f λ x. inner
field_seen at ds inner = refused 6 at

-- by its head
abbrev pub path_row_seen : List ℕ → ℕ → ℕ → List Datum → Seen → Seen
path_row_seen x head_at at ds inner =
    if bytes_eq x (codes "slot") then slot_path_seen at ds
    else (if bytes_eq x (codes "get") then field_seen at ds inner else refused 5 head_at)

-- a form begins with a symbol
abbrev pub headed_path_seen : ℕ → Datum → List Datum → Seen → Seen
headed_path_seen at (word x head_at) ds inner = path_row_seen x head_at at ds inner
headed_path_seen at (number z head_at) ds inner = refused 6 at
headed_path_seen at (literal s head_at) ds inner = refused 6 at
headed_path_seen at (quoted s head_at name_at) ds inner = refused 6 at
headed_path_seen at (stray head_at) ds inner = refused 6 at
headed_path_seen at (list es head_at) ds inner = refused 6 at

abbrev mutual
  -- what is seen of a path
  pub path_seen : Names → Datum → Seen
  path_seen env (word x at) = if is_name x then expression env (word x at) else refused 6 at
  path_seen env (list ds at) = listed_path_seen env at ds
  path_seen env (number z at) = refused 6 at
  path_seen env (literal s at) = refused 6 at
  path_seen env (quoted s at name_at) = refused 6 at
  path_seen env (stray at) = refused 6 at

  -- what is seen of a path in parentheses
  pub listed_path_seen : Names → ℕ → Datums → Seen
  listed_path_seen env at none = refused 6 at
  listed_path_seen env at (item d ds) = headed_path_seen at d (in_order ds) (first_path_seen env at ds)

  -- what is seen of the first of these parts as a path
  pub first_path_seen : Names → ℕ → Datums → Seen
  first_path_seen env at none = refused 6 at
  first_path_seen env at (item d ds) = path_seen env d

-- all of them
abbrev pub paths_seen : Names → List Datum → List Seen
paths_seen env [] = []
paths_seen env (d ∷ ds) = path_seen env d ∷ paths_seen env ds

-- ---- keys

-- `(list PATH ...)`
abbrev pub cache_seen : Names → List Datum → List Seen
cache_seen env [] = []
cache_seen env (d ∷ ds) = paths_seen env ds

-- an expression behind `:unique-id`, and paths behind the other key
abbrev pub key_seen : Names → List ℕ → Datum → List Seen
key_seen env x v = if bytes_eq x (codes ":unique-id") then expression env v ∷ [] else cache_seen env (parts_of v)

-- what is seen behind each key, in their order
abbrev pub keys_seen : Names → List Datum → List Seen
keys_seen env [] = []
keys_seen env (k ∷ []) = []
keys_seen env (k ∷ v ∷ ds) = key_seen env (symbol_of k) v ++ keys_seen env ds
