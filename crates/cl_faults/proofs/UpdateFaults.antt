-- The faults of what stands before the body of an update stand in it.
use Rattle.std.proofs.Common.{inl, inr, ℕ, Bool, true, false, if◌then◌else◌, List, [], ◌∷◌, refl}
use Rattle.std.specs.Prelude.{Option, Some, None, option_and_then, codes}
use Rattle.std.specs.Option.{IfSome}
use Rattle.std.specs.Str.{bytes_eq}
use Rattle.cl_syntax.specs.ExprTree.{expr_trees_of}
use Rattle.cl_forms.specs.Datum.{Datum, Datums, number, literal, word, quoted, stray, list, none, item, in_order, parts_of}
use Rattle.cl_forms.specs.Keys.{Keyed, values_of, keyed_pairs}
use Rattle.cl_forms.specs.Naming.{symbol_of}
use Rattle.cl_forms.specs.declared.keys.Key.{Key}
use Rattle.cl_forms.specs.declared.keys.Key.TheVariants as key
use Rattle.cl_expressions.specs.Expressions.{Sub}
use Rattle.cl_expressions.specs.Scopes.{Names}
use Rattle.cl_words.specs.Heads.{head_named}
use Rattle.cl_words.specs.declared.heads.Head.{Head}
use Rattle.cl_words.specs.declared.heads.Head.TheVariants as head
use Rattle.cl_words.specs.declared.heads.Special.TheVariants as special
use Rattle.cl_words.specs.declared.signatures.Signatures.{Signatures}
use Rattle.cl_bodies.specs.Paths.{parse_path_head, parse_path_headed, parse_path_form, parse_path, path_subs, parse_each_path}
use Rattle.cl_bodies.specs.Updates.{update_keys, paths_behind, paths_alone, cache_fits, with_cache_fitting, update_keys_in, Said, nothing_said, parse_id}
use Rattle.cl_bodies.specs.Updates.{parse_cache, parse_update_key, parse_update_keys, update_of, parse_update_keyed, parse_update_list}
use Rattle.cl_faults.proofs.FaultLemmas.{FaultsAt, gives, refuses, binds}
use Rattle.cl_faults.proofs.ExpressionFaults.{Covers, CoversAll, CoversParts, name_faults, slot_faults, get_faults, expr_faults, bound_faults}
use Rattle.cl_faults.proofs.DataFaults.{CoversEach, covers_order, covers_parts}
use Rattle.cl_faults.proofs.KeyFaults.{CoversKeys, pairs_covered}

-- what stands behind the keys that may stand there stands in the data
module _ (P : ℕ → Type 0) where
  behind_covered : (b : Bool) (ds : List Datum) → CoversEach P ds → IfSome (if b then Some ds else None) (CoversEach P)
  behind_covered true ds c = c
  behind_covered false ds c = tt

  paths_covered : (ds : List Datum) → CoversEach P ds → IfSome (paths_behind ds) (CoversEach P)
  paths_covered [] c = tt
  paths_covered (d ∷ ds) c = behind_covered (bytes_eq (symbol_of d) (codes "list")) ds c.1

  alone_covered : (ds : List Datum) → CoversEach P ds → IfSome (paths_alone ds) (CoversEach P)
  alone_covered (d ∷ []) c = paths_covered (parts_of d) (covers_parts d c.0)
  alone_covered [] c = tt
  alone_covered (d ∷ e ∷ ds) c = tt

  fitting_covered : (b : Bool) (ks : List Keyed) → CoversKeys P ks → IfSome (if b then Some ks else None) (CoversKeys P)
  fitting_covered true ks c = c
  fitting_covered false ks c = tt

  found_covered : (o : Option (List Keyed)) → IfSome o (CoversKeys P) → IfSome (option_and_then with_cache_fitting o) (CoversKeys P)
  found_covered None c = tt
  found_covered (Some ks) c = fitting_covered (cache_fits (values_of key.CacheValue ks)) ks c

module _ {P : ℕ → Type 0} where
  -- ---- paths

  path_head_faults : (w : Signatures) (o : Option Head) (head_at at : ℕ) (ps : List Sub) (env : Names) → P head_at → P at → CoversParts P ps
      → FaultsAt P (parse_path_head w o head_at at ps env)
  path_head_faults w (Some (head.Special special.Slot)) head_at at ps env g h k = slot_faults w at ps h
  path_head_faults w (Some (head.Special special.Get)) head_at at ps env g h k = get_faults at ps env h k
  path_head_faults w other head_at at ps env g h k = refuses g

  path_headed_faults : (w : Signatures) (d : Datum) (at : ℕ) (ps : List Sub) (env : Names) → Covers P d → P at → CoversParts P ps
      → FaultsAt P (parse_path_headed w d at ps env)
  path_headed_faults w (word x head_at) at ps env c h k = path_head_faults w (head_named x) head_at at ps env (c head_at refl) h k
  path_headed_faults w d at ps env c h k = refuses h

  path_form_faults : (w : Signatures) (at : ℕ) (ps : List Sub) (env : Names) → P at → CoversParts P ps → FaultsAt P (parse_path_form w at ps env)
  path_form_faults w at [] env h k = refuses h
  path_form_faults w at (p ∷ ps) env h k = path_headed_faults w p.shape at ps env k.0.shape h k.1

  mutual
    path_faults : (w : Signatures) (d : Datum) (env : Names) → Covers P d → FaultsAt P (parse_path w d env)
    path_faults w (word x at) env c = name_faults x at env (c at refl)
    path_faults w (list ds at) env c = path_form_faults w at (path_subs w ds) env (c at (inl refl)) (covers_path_subs w ds (λ o s. c o (inr s)))
    path_faults w (number z at) env c = refuses (c at refl)
    path_faults w (literal s at) env c = refuses (c at refl)
    path_faults w (quoted x at name_at) env c = refuses (c at (inl refl))
    path_faults w (stray at) env c = refuses (c at refl)

    covers_path_subs : (w : Signatures) (ds : Datums) → CoversAll P ds → CoversParts P (path_subs w ds)
    covers_path_subs w none c = tt
    covers_path_subs w (item d ds) c = (
      record {
        shape = λ o s. c o (inl s);
        expr = λ env. path_faults w d env (λ o s. c o (inl s));
        bound = λ at env h. bound_faults w d at env h (λ o s. c o (inl s));
      },
      covers_path_subs w ds (λ o s. c o (inr s)),
    )

  each_path_faults : (w : Signatures) (ds : List Datum) (env : Names) → CoversEach P ds → FaultsAt P (parse_each_path w ds env)
  each_path_faults w [] env c = gives
  each_path_faults w (d ∷ ds) env c = binds (path_faults w d env c.0) λ t. binds (each_path_faults w ds env c.1) λ ts. gives

  -- ---- keys

  id_faults : (w : Signatures) (env : Names) (ds : List Datum) (s : Said) → CoversEach P ds → FaultsAt P (parse_id w env ds s)
  id_faults w env [] s c = gives
  id_faults w env (d ∷ ds) s c = binds (expr_faults w d env c.0) λ t. gives {x = record s { id = Some t }}

  cache_faults : (w : Signatures) (env : Names) (o : Option (List Datum)) (s : Said) → IfSome o (CoversEach P) → FaultsAt P (parse_cache w env o s)
  cache_faults w env None s c = gives
  cache_faults w env (Some ds) s c = binds (each_path_faults w ds env c) λ ts. gives {x = record s { cache = Some (expr_trees_of ts) }}

  key_faults : (w : Signatures) (env : Names) (k : Key) (ds : List Datum) (s : Said) → CoversEach P ds → FaultsAt P (parse_update_key w env k ds s)
  key_faults w env key.UniqueId ds s c = id_faults w env ds s c
  key_faults w env other ds s c = cache_faults w env (paths_alone ds) s (alone_covered P ds c)

  keys_faults : (w : Signatures) (env : Names) (ks : List Keyed) (s : Said) → CoversKeys P ks → FaultsAt P (parse_update_keys w env ks s)
  keys_faults w env [] s c = gives
  keys_faults w env (k ∷ ks) s c = binds (key_faults w env k.key k.values s c.0.1) λ more. keys_faults w env ks more c.1

  -- ---- the whole

  keyed_faults : (w : Signatures) (at : ℕ) (o : Option (List Keyed)) (env : Names) → P at → IfSome o (CoversKeys P)
      → FaultsAt P (parse_update_keyed w at o env)
  keyed_faults w at None env h c = refuses h
  keyed_faults w at (Some ks) env h c = binds (keys_faults w env ks nothing_said c) λ s. gives {x = update_of at s}

  pub update_list_faults : (w : Signatures) (at : ℕ) (d : Datum) (env : Names) → P at → Covers P d → FaultsAt P (parse_update_list w at d env)
  update_list_faults w at (list ds list_at) env h c =
      keyed_faults w at (update_keys_in (in_order ds)) env h
      (found_covered P (keyed_pairs update_keys [] (in_order ds))
      (pairs_covered P update_keys [] (in_order ds) tt (covers_order ds (λ o s. c o (inr s)))))
  update_list_faults w at (number z d_at) env h c = refuses h
  update_list_faults w at (literal s d_at) env h c = refuses h
  update_list_faults w at (word s d_at) env h c = refuses h
  update_list_faults w at (quoted s d_at name_at) env h c = refuses h
  update_list_faults w at (stray d_at) env h c = refuses h
