-- The keys that may stand before the body of an update: those two, and behind the one a list of paths.
use Rattle.std.proofs.Common.{◌≡◌, Bool, true, false, if◌then◌else◌, List, [], refl, sym, ap, ◌∙◌}
use Rattle.std.specs.Prelude.{Option, Some, None, option_and_then}
use Rattle.std.proofs.Math.Path.{subst}
use Rattle.cl_forms.specs.Datum.{Datum}
use Rattle.cl_forms.specs.Keys.{Keyed, is_among, values_of, keyed_pairs}
use Rattle.cl_forms.specs.declared.keys.Key.{Key}
use Rattle.cl_forms.specs.declared.keys.Key.TheVariants as key
use Rattle.cl_bodies.specs.Updates.{update_keys, cache_fits, with_cache_fitting, update_keys_in}
use Rattle.cl_grammar.proofs.Spelled.{false_true, some_same, nothing_found}
use Rattle.cl_text_grammar.proofs.KeyWords.{ArePairs, StandApart, Keys, pairs_stand}

-- there are no other keys
pub each_key : (P : Key → Type 0) → P key.UniqueId → P key.CacheValue → (k : Key) → is_among update_keys k ≡ true → P k
each_key P i c key.UniqueId e = i
each_key P i c key.CacheValue e = c
each_key P i c key.Size e = absurd (false_true e)
each_key P i c key.Slots e = absurd (false_true e)
each_key P i c key.Panes e = absurd (false_true e)
each_key P i c key.CommandTable e = absurd (false_true e)
each_key P i c key.Name e = absurd (false_true e)
each_key P i c key.Keystroke e = absurd (false_true e)
each_key P i c key.InheritFrom e = absurd (false_true e)
each_key P i c key.Satisfies e = absurd (false_true e)
each_key P i c key.Description e = absurd (false_true e)
each_key P i c key.Separator e = absurd (false_true e)
each_key P i c key.SingleBox e = absurd (false_true e)
each_key P i c key.Default e = absurd (false_true e)
each_key P i c key.Prompt e = absurd (false_true e)
each_key P i c key.Gesture e = absurd (false_true e)
each_key P i c key.Priority e = absurd (false_true e)
each_key P i c key.Documentation e = absurd (false_true e)
each_key P i c key.Tester e = absurd (false_true e)
each_key P i c key.Command e = absurd (false_true e)
each_key P i c key.Pane e = absurd (false_true e)
each_key P i c key.When e = absurd (false_true e)
each_key P i c key.Else e = absurd (false_true e)

-- the keys stand in the data, each once at most, and what stands behind `:cache-value` is a list of paths
pub record FittingKeys (ks : List Keyed) (ds : List Datum) : Type 0 where
  pub pairs : ArePairs update_keys ks ds
  pub apart : StandApart [] ks
  pub fits : cache_fits (values_of key.CacheValue ks) ≡ true

fits_so : (b : Bool) (js ks : List Keyed) → cache_fits (values_of key.CacheValue js) ≡ b → (if b then Some js else None) ≡ Some ks
    → (js ≡ ks) × (cache_fits (values_of key.CacheValue ks) ≡ true)
fits_so true js ks e f = let same : js ≡ ks = some_same f in (same, ap (λ j. cache_fits (values_of key.CacheValue j)) (sym same) ∙ e)
fits_so false js ks e f = absurd (nothing_found f)

found_so : (o : Option (List Keyed)) (ks : List Keyed) → option_and_then with_cache_fitting o ≡ Some ks
    → (o ≡ Some ks) × (cache_fits (values_of key.CacheValue ks) ≡ true)
found_so None ks e = absurd (nothing_found e)
found_so (Some js) ks e =
    let found : (js ≡ ks) × (cache_fits (values_of key.CacheValue ks) ≡ true) = fits_so (cache_fits (values_of key.CacheValue js)) js ks refl e in
    (ap Some found.0, found.1)

pub keys_fit : (ks : List Keyed) (ds : List Datum) → update_keys_in ds ≡ Some ks → FittingKeys ks ds
keys_fit ks ds e =
    let found : (keyed_pairs update_keys [] ds ≡ Some ks) × (cache_fits (values_of key.CacheValue ks) ≡ true) =
    found_so (keyed_pairs update_keys [] ds) ks e in
    let k : Keys (ArePairs update_keys) [] ks ds = pairs_stand update_keys [] ks ds found.0 in
    record {
      pairs = subst (λ js. ArePairs update_keys js ds) (sym k.whole) k.stand;
      apart = subst (StandApart []) (sym k.whole) k.apart;
      fits = found.1;
    }
