-- `updating-output`: what stands before its body. First what makes the form itself wrong, then the values of the keys in the order of the text.
use Rattle.std.specs.Prelude.{ℕ, Bool, true, is_some, if◌then◌else◌, List, [], ◌∷◌, Option, Some, None, option_and_then, codes}
use Rattle.std.specs.Str.{bytes_eq}
use Rattle.cl_syntax.specs.ExprTree.{ExprTree, ExprTrees, expr_trees_of}
use Rattle.cl_syntax.specs.UpdateTree.{UpdateTree}
use Rattle.cl_forms.specs.Datum.{Datum, number, literal, word, quoted, stray, list, in_order, parts_of}
use Rattle.cl_forms.specs.Keys.{Keyed, keyed_pairs, values_of}
use Rattle.cl_forms.specs.Naming.{symbol_of}
use Rattle.cl_forms.specs.declared.keys.Key.{Key}
use Rattle.cl_forms.specs.declared.keys.Key.TheVariants as key
use Rattle.cl_expressions.specs.Load.{Load, ◌>>=◌, give, refuse}
use Rattle.cl_expressions.specs.Expressions.{parse_expression}
use Rattle.cl_expressions.specs.Scopes.{Names}
use Rattle.cl_words.specs.declared.signatures.Signatures.{Signatures}
use Rattle.cl_bodies.specs.Paths.{parse_each_path}

-- the keys that may stand before the body
abbrev pub update_keys : List Key
update_keys = key.UniqueId ∷ key.CacheValue ∷ []

-- ---- a list of paths

-- what stands behind the word `list`; None where another word or nothing begins the list
abbrev pub paths_behind : List Datum → Option (List Datum)
paths_behind [] = None
paths_behind (d ∷ ds) = if bytes_eq (symbol_of d) (codes "list") then Some ds else None

-- the paths of `(list PATH ...)`, which stands alone
abbrev pub paths_alone : List Datum → Option (List Datum)
paths_alone (d ∷ []) = paths_behind (parts_of d)
paths_alone ds = None

-- what stands behind the key is a list of paths, if the key stands
abbrev pub cache_fits : Option (List Datum) → Bool
cache_fits None = true
cache_fits (Some ds) = is_some (paths_alone ds)

-- the keys, where what stands behind the key of the cache is a list of paths
abbrev pub with_cache_fitting : List Keyed → Option (List Keyed)
with_cache_fitting ks = if cache_fits (values_of key.CacheValue ks) then Some ks else None

-- the keys; None where one is not known, stands twice, has no value, or asks for a list of paths that is none
abbrev pub update_keys_in : List Datum → Option (List Keyed)
update_keys_in ds = option_and_then with_cache_fitting (keyed_pairs update_keys [] ds)

-- ---- what the keys say

-- the id, and the paths of the cache, if they are there
pub record Said : Type 0 where
  pub id : Option ExprTree
  pub cache : Option ExprTrees

-- before a key is read
abbrev pub nothing_said : Said
nothing_said = record { id = None; cache = None }

-- the expression that stands first
abbrev pub parse_id : Signatures → Names → List Datum → Said → Load Said
parse_id w env [] s = give s
parse_id w env (d ∷ ds) s = parse_expression w d env >>= λ t. give (record s { id = Some t })

-- the paths of the cache, if there are any
abbrev pub parse_cache : Signatures → Names → Option (List Datum) → Said → Load Said
parse_cache w env None s = give s
parse_cache w env (Some ds) s = parse_each_path w ds env >>= λ ts. give (record s { cache = Some (expr_trees_of ts) })

-- what stands behind a key
abbrev pub parse_update_key : Signatures → Names → Key → List Datum → Said → Load Said
parse_update_key w env key.UniqueId ds s = parse_id w env ds s
parse_update_key w env other ds s = parse_cache w env (paths_alone ds) s

-- what the keys say, in their order
abbrev pub parse_update_keys : Signatures → Names → List Keyed → Said → Load Said
parse_update_keys w env [] s = give s
parse_update_keys w env (k ∷ ks) s = parse_update_key w env k.key k.values s >>= λ more. parse_update_keys w env ks more

-- ---- the whole

-- the update of the form at this offset
abbrev pub update_of : ℕ → Said → UpdateTree
update_of at s = record { site = record { form = at; query = 0 }; id = s.id; cache = s.cache }

-- the update that its keys make; wrong at this offset where the keys are
abbrev pub parse_update_keyed : Signatures → ℕ → Option (List Keyed) → Names → Load UpdateTree
parse_update_keyed w at None env = refuse 6 at
parse_update_keyed w at (Some ks) env = parse_update_keys w env ks nothing_said >>= λ s. give (update_of at s)

-- `(:unique-id E :cache-value (list PATH ...))`
abbrev pub parse_update_list : Signatures → ℕ → Datum → Names → Load UpdateTree
parse_update_list w at (list ds list_at) env = parse_update_keyed w at (update_keys_in (in_order ds)) env
parse_update_list w at (number z list_at) env = refuse 6 at
parse_update_list w at (literal s list_at) env = refuse 6 at
parse_update_list w at (word s list_at) env = refuse 6 at
parse_update_list w at (quoted s list_at name_at) env = refuse 6 at
parse_update_list w at (stray list_at) env = refuse 6 at
