-- What is read of the keys of an update writes them.
use Rattle.std.proofs.Common.{◌≡◌, ℕ, Bool, true, false, if◌then◌else◌, List, [], ◌∷◌, ◌++◌, refl, sym, ap, ◌∙◌}
use Rattle.std.specs.Prelude.{Option, Some, None, is_some, codes}
use Rattle.std.specs.Str.{bytes_eq}
use Rattle.std.proofs.Math.Path.{subst}
use Rattle.cl_syntax.specs.ExprTree.{ExprTree, ExprTrees, expr_trees_of}
use Rattle.cl_syntax.specs.ShapeTree.{ShapeTrees}
use Rattle.cl_syntax.specs.ShapeTree as shape
use Rattle.cl_syntax.specs.UpdateTree.{UpdateTree}
use Rattle.cl_forms.specs.Datum.{Datum, Datums, number, literal, word, quoted, stray, list, none, item, in_order, parts_of}
use Rattle.cl_forms.specs.Keys.{Keyed, values_of}
use Rattle.cl_forms.specs.declared.keys.Key.{Key}
use Rattle.cl_forms.specs.declared.keys.Key.TheVariants as key
use Rattle.cl_words.specs.declared.signatures.Signatures.{Signatures}
use Rattle.cl_expressions.specs.Scopes.{Names}
use Rattle.cl_bodies.specs.Updates.{update_keys, paths_behind, cache_fits, update_keys_in, Said, nothing_said, parse_cache}
use Rattle.cl_bodies.specs.Updates.{parse_update_keys, update_of, parse_update_keyed, parse_update_list}
use Rattle.cl_grammar.specs.Heads.{CallsNames}
use Rattle.cl_grammar.specs.Writes.{Writes}
use Rattle.cl_grammar.proofs.Endings.{Ends, gives, refuses, binds, ends_weaker}
use Rattle.cl_grammar.proofs.Spelled.{false_true, same_word, nothing_found}
use Rattle.cl_grammar.proofs.Written.{expression_ends}
use Rattle.cl_text_grammar.specs.WritesShapes.{WritesShapeForm, WritesShapes, an_updating}
use Rattle.cl_text_grammar.specs.WritesUpdates.{WritesUpdateKeys, no_key, its_id, its_cache, WritesUpdate, an_update}
use Rattle.cl_text_grammar.proofs.CommandKeysWritten.{keyed, stands_once}
use Rattle.cl_text_grammar.proofs.KeyWords.{key_word, IsPair, a_pair, ArePairs, no_pairs, more_pairs, StandApart}
use Rattle.cl_text_grammar.proofs.PathsWritten.{paths_end}
use Rattle.cl_text_grammar.proofs.UpdateKeys.{each_key, FittingKeys, keys_fit}

-- ---- what the keys say

-- the one, or the other where it is none
abbrev over : {A : Type 0} → Option A → Option A → Option A
over None x = x
over (Some y) x = Some y

-- an id and paths more
abbrev said_more : Said → Option ExprTree → Option ExprTrees → Said
said_more s i c = record { id = over i s.id; cache = over c s.cache }

alone : (i : Option ExprTree) (c : Option ExprTrees) → said_more nothing_said i c ≡ record { id = i; cache = c }
alone None None = refl
alone None (Some c) = refl
alone (Some i) None = refl
alone (Some i) (Some c) = refl

-- an id that is read of a datum
record IdRead (d : Datum) (s more : Said) : Type 0 where
  expression : ExprTree
  is : more ≡ record s { id = Some expression }
  written : Writes expression d

-- paths that are read of a datum
record CacheRead (d : Datum) (s more : Said) : Type 0 where
  paths : ExprTrees
  is : more ≡ record s { cache = Some paths }
  written : (i : Option ExprTree) (ds : List Datum) (h : ℕ) → WritesUpdateKeys i None ds
      → WritesUpdateKeys i (Some paths) (word (codes ":cache-value") h ∷ d ∷ ds)

-- what is read of the keys, and what is written so
record Read (ks : List Keyed) (ds : List Datum) (s more : Said) : Type 0 where
  id_taken : Option ExprTree
  cache_taken : Option ExprTrees
  no_id : values_of key.UniqueId ks ≡ None → id_taken ≡ None
  no_cache : values_of key.CacheValue ks ≡ None → cache_taken ≡ None
  added : more ≡ said_more s id_taken cache_taken
  written : WritesUpdateKeys id_taken cache_taken ds

module _ (w : Signatures) (names : CallsNames w) (env : Names) where
  -- ---- a list of paths

  listed_cache : (x : List ℕ) (h at : ℕ) (es : Datums) (s : Said) (b : Bool) → bytes_eq x (codes "list") ≡ b
      → is_some (if b then Some (in_order es) else None) ≡ true
      → Ends (CacheRead (list (item (word x h) es) at) s) (parse_cache w env (if b then Some (in_order es) else None) s)
  listed_cache x h at es s true e f =
      binds (paths_end w (in_order es) env) λ ts i.
      gives (record {
        paths = expr_trees_of ts;
        is = refl;
        written = λ o ds key_at j.
            subst (λ y. WritesUpdateKeys o (Some (expr_trees_of ts)) (word (codes ":cache-value") key_at ∷ list (item (word y h) es) at ∷ ds))
            (sym (same_word x (codes "list") e)) (its_cache i j);
      })
  listed_cache x h at es s false e f = absurd (false_true f)

  cache_ends : (v : Datum) (s : Said) → is_some (paths_behind (parts_of v)) ≡ true → Ends (CacheRead v s) (parse_cache w env (paths_behind (parts_of v)) s)
  cache_ends (list (item (word x h) es) at) s f = listed_cache x h at es s (bytes_eq x (codes "list")) refl f
  cache_ends (list none at) s f = absurd (false_true f)
  cache_ends (list (item (number z h) es) at) s f = absurd (false_true f)
  cache_ends (list (item (literal t h) es) at) s f = absurd (false_true f)
  cache_ends (list (item (quoted t h name_at) es) at) s f = absurd (false_true f)
  cache_ends (list (item (stray h) es) at) s f = absurd (false_true f)
  cache_ends (list (item (list ds h) es) at) s f = absurd (false_true f)
  cache_ends (number z at) s f = absurd (false_true f)
  cache_ends (literal t at) s f = absurd (false_true f)
  cache_ends (word t at) s f = absurd (false_true f)
  cache_ends (quoted t at name_at) s f = absurd (false_true f)
  cache_ends (stray at) s f = absurd (false_true f)

  -- ---- all keys

  -- whatever was said before, all keys are read
  abbrev AllRead : List Keyed → List Datum → Type 0
  AllRead ks ds = (s : Said) → cache_fits (values_of key.CacheValue ks) ≡ true → Ends (Read ks ds s) (parse_update_keys w env ks s)

  module _ (h : ℕ) (v : Datum) (so_far ks : List Keyed) (ds : List Datum) (rest : AllRead ks ds) where
    abbrev KeyEnds : Key → Type 0
    KeyEnds k = StandApart so_far (keyed k h v ∷ ks) → AllRead (keyed k h v ∷ ks) (word (key_word k) h ∷ v ∷ ds)

    id_key_ends : KeyEnds key.UniqueId
    id_key_ends a s f =
        let no_other : values_of key.UniqueId ks ≡ None = stands_once key.UniqueId h v so_far ks refl a in
        binds {P = IdRead v s} (binds (expression_ends w names v env) λ t k. gives (record { expression = t; is = refl; written = k })) λ j k.
        ends_weaker
        (λ m r. record {
          id_taken = Some k.expression;
          cache_taken = r.cache_taken;
          no_id = λ e. absurd (nothing_found (sym e));
          no_cache = λ e. r.no_cache e;
          added = r.added ∙ (ap (λ o. said_more j o r.cache_taken) (r.no_id no_other) ∙ ap (λ i. said_more i None r.cache_taken) k.is);
          written = its_id k.written (subst (λ o. WritesUpdateKeys o r.cache_taken ds) (r.no_id no_other) r.written);
        })
        (rest j f)

    cache_key_ends : KeyEnds key.CacheValue
    cache_key_ends a s f =
        let no_other : values_of key.CacheValue ks ≡ None = stands_once key.CacheValue h v so_far ks refl a in
        binds {P = CacheRead v s} (cache_ends v s f) λ j k.
        ends_weaker
        (λ m r. record {
          id_taken = r.id_taken;
          cache_taken = Some k.paths;
          no_id = λ e. r.no_id e;
          no_cache = λ e. absurd (nothing_found (sym e));
          added = r.added ∙ (ap (λ o. said_more j r.id_taken o) (r.no_cache no_other) ∙ ap (λ i. said_more i r.id_taken None) k.is);
          written = k.written r.id_taken ds h (subst (λ o. WritesUpdateKeys r.id_taken o ds) (r.no_cache no_other) r.written);
        })
        (rest j (ap cache_fits no_other))

  pair_ends : (d v : Datum) (k : Keyed) (so_far ks : List Keyed) (ds : List Datum) → IsPair update_keys k d v → AllRead ks ds → StandApart so_far (k ∷ ks)
      → AllRead (k ∷ ks) (d ∷ v ∷ ds)
  pair_ends d v k so_far ks ds (a_pair {k = j} {h} i) rest a = each_key (KeyEnds h v so_far ks ds rest) (id_key_ends h v so_far ks ds rest) (cache_key_ends h v so_far ks ds rest) j i a

  nothing_read : AllRead [] []
  nothing_read s f =
      gives (record { id_taken = None; cache_taken = None; no_id = λ e. refl; no_cache = λ e. refl; added = refl; written = no_key })

  pairs_end : (so_far ks : List Keyed) (ds : List Datum) → ArePairs update_keys ks ds → StandApart so_far ks → AllRead ks ds
  pairs_end so_far ks ds no_pairs a = nothing_read
  pairs_end so_far ks ds (more_pairs {k} {ks = js} {d} {v} {ds = es} i j) a = pair_ends d v k so_far js es i (pairs_end (so_far ++ k ∷ []) js es j a.1) a

  -- ---- the whole

  keyed_ends : (at : ℕ) (ds : List Datum) (o : Option (List Keyed)) → update_keys_in ds ≡ o
      → Ends (λ u. WritesUpdate at u ds) (parse_update_keyed w at o env)
  keyed_ends at ds None e = refuses
  keyed_ends at ds (Some ks) e =
      let k : FittingKeys ks ds = keys_fit ks ds e in
      binds (pairs_end [] ks ds k.pairs k.apart nothing_said k.fits) λ s r.
      gives (subst (λ t. WritesUpdate at (update_of at t) ds) (sym (r.added ∙ alone r.id_taken r.cache_taken)) (an_update r.written))

-- what is read writes the parts of the datum, which is a list
abbrev WritesOpening : ℕ → UpdateTree → Datum → Type 0
WritesOpening at u (list ds list_at) = WritesUpdate at u (in_order ds)
WritesOpening at u (number z d_at) = ⊥
WritesOpening at u (literal s d_at) = ⊥
WritesOpening at u (word s d_at) = ⊥
WritesOpening at u (quoted s d_at name_at) = ⊥
WritesOpening at u (stray d_at) = ⊥

pub update_ends : (w : Signatures) (names : CallsNames w) (at : ℕ) (d : Datum) (env : Names)
    → Ends (λ u. WritesOpening at u d) (parse_update_list w at d env)
update_ends w names at (list ds list_at) env = keyed_ends w names env at (in_order ds) (update_keys_in (in_order ds)) refl
update_ends w names at (number z d_at) env = refuses
update_ends w names at (literal s d_at) env = refuses
update_ends w names at (word s d_at) env = refuses
update_ends w names at (quoted s d_at name_at) env = refuses
update_ends w names at (stray d_at) env = refuses

-- behind the head, with its body, it writes a form
pub update_writes : (w : Signatures) (at : ℕ) (u : UpdateTree) (fs : ShapeTrees) (d : Datum) (ds : List Datum) (h : ℕ) → WritesOpening at u d
    → WritesShapes w fs ds → WritesShapeForm w at (shape.Update u fs) (word (codes "updating-output") h ∷ d ∷ ds)
update_writes w at u fs (list es list_at) ds h i j = an_updating i j
update_writes w at u fs (number z d_at) ds h i j = absurd i
update_writes w at u fs (literal s d_at) ds h i j = absurd i
update_writes w at u fs (word s d_at) ds h i j = absurd i
update_writes w at u fs (quoted s d_at name_at) ds h i j = absurd i
update_writes w at u fs (stray d_at) ds h i j = absurd i
