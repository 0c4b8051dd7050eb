-- The keys of an update are read as what is seen of them tells.
use Rattle.std.proofs.Common.{◌≡◌, ℕ, Bool, true, false, if◌then◌else◌, List, [], ◌∷◌, ◌++◌, refl, ap}
use Rattle.std.specs.Prelude.{Some, None, is_some, codes}
use Rattle.std.specs.Str.{bytes_eq}
use Rattle.cl_syntax.specs.ExprTree.{expr_trees_of}
use Rattle.cl_forms.specs.Datum.{Datum, word, parts_of}
use Rattle.cl_forms.specs.Keys.{Keyed, values_of}
use Rattle.cl_forms.specs.Naming.{symbol_of}
use Rattle.cl_forms.specs.declared.keys.Key.{Key}
use Rattle.cl_forms.specs.declared.keys.Key.TheVariants as key
use Rattle.cl_words.specs.declared.signatures.Signatures.{Signatures}
use Rattle.cl_expressions.specs.Scopes.{Names}
use Rattle.cl_bodies.specs.Updates.{update_keys, paths_behind, cache_fits, update_keys_in, Said, nothing_said, parse_cache, parse_update_keys}
use Rattle.cl_grammar.specs.Sights.{expression}
use Rattle.cl_grammar.proofs.Judged.{expression_judged}
use Rattle.cl_grammar.proofs.Judging.{Any, Judges, joined, then_given, ended}
use Rattle.cl_grammar.proofs.Spelled.{false_true}
use Rattle.cl_text_grammar.specs.UpdateSights.{paths_seen, cache_seen, keys_seen}
use Rattle.cl_text_grammar.proofs.CommandKeysWritten.{keyed, stands_once}
use Rattle.cl_text_grammar.proofs.KeyWords.{key_word, IsPair, a_pair, ArePairs, no_pairs, more_pairs, StandApart}
use Rattle.cl_text_grammar.proofs.PathsJudged.{paths_judged}
use Rattle.cl_text_grammar.proofs.UpdateKeys.{each_key, FittingKeys, keys_fit}

module _ (w : Signatures) (env : Names) where
  listed_judged : (ds : List Datum) (s : Said) (b : Bool) → is_some (if b then Some ds else None) ≡ true
      → Judges w (paths_seen env ds) Any (parse_cache w env (if b then Some ds else None) s)
  listed_judged ds s true e = then_given (λ ts. record s { cache = Some (expr_trees_of ts) }) (paths_judged w ds env) λ ts i. tt
  listed_judged ds s false e = absurd (false_true e)

  cache_judged : (ds : List Datum) (s : Said) → is_some (paths_behind ds) ≡ true
      → Judges w (cache_seen env ds) Any (parse_cache w env (paths_behind ds) s)
  cache_judged [] s e = absurd (false_true e)
  cache_judged (d ∷ ds) s e = listed_judged ds s (bytes_eq (symbol_of d) (codes "list")) e

  -- whatever was said before, all keys are read so
  abbrev AllJudged : List Keyed → List Datum → Type 0
  AllJudged ks ds = (s : Said) → cache_fits (values_of key.CacheValue ks) ≡ true → Judges w (keys_seen env ds) Any (parse_update_keys w env ks s)

  module _ (h : ℕ) (v : Datum) (so_far ks : List Keyed) (ds : List Datum) (rest : AllJudged ks ds) where
    abbrev KeyJudged : Key → Type 0
    KeyJudged k = StandApart so_far (keyed k h v ∷ ks) → AllJudged (keyed k h v ∷ ks) (word (key_word k) h ∷ v ∷ ds)

    id_judged : KeyJudged key.UniqueId
    id_judged a s f =
        joined (expression env v ∷ []) (keys_seen env ds) (then_given {Q = Any} (λ t. record s { id = Some t }) (expression_judged w v env) λ t i. tt)
        λ more i. rest more f

    cache_key_judged : KeyJudged key.CacheValue
    cache_key_judged a s f =
        joined (cache_seen env (parts_of v)) (keys_seen env ds) (cache_judged (parts_of v) s f)
        λ more i. rest more (ap cache_fits (stands_once key.CacheValue h v so_far ks refl a))

  pair_judged : (d v : Datum) (k : Keyed) (so_far ks : List Keyed) (ds : List Datum) → IsPair update_keys k d v → AllJudged ks ds
      → StandApart so_far (k ∷ ks) → AllJudged (k ∷ ks) (d ∷ v ∷ ds)
  pair_judged d v k so_far ks ds (a_pair {k = j} {h} i) rest a =
      each_key (KeyJudged h v so_far ks ds rest) (id_judged h v so_far ks ds rest) (cache_key_judged h v so_far ks ds rest) j i a

  pairs_judged : (so_far ks : List Keyed) (ds : List Datum) → ArePairs update_keys ks ds → StandApart so_far ks → AllJudged ks ds
  pairs_judged so_far ks ds no_pairs a = λ s f. ended tt
  pairs_judged so_far ks ds (more_pairs {k} {ks = js} {d} {v} {ds = es} i j) a =
      pair_judged d v k so_far js es i (pairs_judged (so_far ++ k ∷ []) js es j a.1) a

  pub update_keys_judged : (ks : List Keyed) (ds : List Datum) → update_keys_in ds ≡ Some ks
      → Judges w (keys_seen env ds) Any (parse_update_keys w env ks nothing_said)
  update_keys_judged ks ds e = let k : FittingKeys ks ds = keys_fit ks ds e in pairs_judged [] ks ds k.pairs k.apart nothing_said k.fits
