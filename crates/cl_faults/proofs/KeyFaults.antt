-- What stands behind the keys of a form stands in the parts of the form.
use Rattle.std.proofs.Common.{ℕ, Bool, true, false, if◌then◌else◌, List, [], ◌∷◌, ◌++◌}
use Rattle.std.specs.Prelude.{Option, Some, None, option_and_then}
use Rattle.std.specs.Option.{IfSome}
use Rattle.cl_forms.specs.Datum.{Datum, offset, parts_of}
use Rattle.cl_forms.specs.Keys.{Keyed, same_key, has_key, values_of, key_in, keyed_as, section_of, section_in, pair_in, with_keyed, keyed_sections, keyed_pairs}
use Rattle.cl_forms.specs.declared.keys.Key.{Key}
use Rattle.cl_faults.proofs.ExpressionFaults.{Covers, covers_offset}
use Rattle.cl_faults.proofs.DataFaults.{CoversEach, covers_parts}

-- P holds of the key's offset, and of each that stands in what stands behind it
abbrev pub CoversKey : (ℕ → Type 0) → Keyed → Type 0
CoversKey P k = P k.at × CoversEach P k.values

abbrev pub CoversKeys : (ℕ → Type 0) → List Keyed → Type 0
CoversKeys P [] = Unit {0}
CoversKeys P (k ∷ ks) = CoversKey P k × CoversKeys P ks

module _ (P : ℕ → Type 0) where
  keyed_covered : (k : Option Key) (at : ℕ) (ds : List Datum) → P at → CoversEach P ds → IfSome (keyed_as k at ds) (CoversKey P)
  keyed_covered None at ds h c = tt
  keyed_covered (Some k) at ds h c = (h, c)

  listed_covered : (may_have : List Key) (ds : List Datum) → CoversEach P ds → IfSome (section_of may_have ds) (CoversKey P)
  listed_covered may_have [] c = tt
  listed_covered may_have (d ∷ ds) c = keyed_covered (key_in may_have d) (offset d) ds (covers_offset d c.0) c.1

  section_covered : (may_have : List Key) (d : Datum) → Covers P d → IfSome (section_in may_have d) (CoversKey P)
  section_covered may_have d c = listed_covered may_have (parts_of d) (covers_parts d c)

  pair_covered : (may_have : List Key) (d e : Datum) → Covers P d → Covers P e → IfSome (pair_in may_have d e) (CoversKey P)
  pair_covered may_have d e c b = keyed_covered (key_in may_have d) (offset d) (e ∷ []) (covers_offset d c) (b, tt)

  one_more : (ks : List Keyed) (k : Keyed) → CoversKeys P ks → CoversKey P k → CoversKeys P (ks ++ k ∷ [])
  one_more [] k c h = (h, tt)
  one_more (first ∷ ks) k c h = (c.0, one_more ks k c.1 h)

  unless_twice : (twice : Bool) (ks : List Keyed) → CoversKeys P ks → IfSome (if twice then None else Some ks) (CoversKeys P)
  unless_twice true ks c = tt
  unless_twice false ks c = c

  with_covered : (k : Option Keyed) (ks : List Keyed) → IfSome k (CoversKey P) → CoversKeys P ks → IfSome (with_keyed k ks) (CoversKeys P)
  with_covered None ks h c = tt
  with_covered (Some k) ks h c = unless_twice (has_key k.key ks) (ks ++ k ∷ []) (one_more ks k c h)

  then_covered : (f : List Keyed → Option (List Keyed)) (o : Option (List Keyed)) → IfSome o (CoversKeys P)
      → ((ks : List Keyed) → CoversKeys P ks → IfSome (f ks) (CoversKeys P)) → IfSome (option_and_then f o) (CoversKeys P)
  then_covered f None h g = tt
  then_covered f (Some ks) h g = g ks h

  pub sections_covered : (may_have : List Key) (so_far : List Keyed) (ds : List Datum) → CoversKeys P so_far → CoversEach P ds
      → IfSome (keyed_sections may_have so_far ds) (CoversKeys P)
  sections_covered may_have so_far [] h c = h
  sections_covered may_have so_far (d ∷ ds) h c =
      then_covered (λ more. keyed_sections may_have more ds) (with_keyed (section_in may_have d) so_far)
      (with_covered (section_in may_have d) so_far (section_covered may_have d c.0) h) (λ more k. sections_covered may_have more ds k c.1)

  pub pairs_covered : (may_have : List Key) (so_far : List Keyed) (ds : List Datum) → CoversKeys P so_far → CoversEach P ds
      → IfSome (keyed_pairs may_have so_far ds) (CoversKeys P)
  pairs_covered may_have so_far [] h c = h
  pairs_covered may_have so_far (d ∷ []) h c = tt
  pairs_covered may_have so_far (d ∷ e ∷ ds) h c =
      then_covered (λ more. keyed_pairs may_have more ds) (with_keyed (pair_in may_have d e) so_far)
      (with_covered (pair_in may_have d e) so_far (pair_covered may_have d e c.0 c.1.0) h) (λ more k. pairs_covered may_have more ds k c.1.1)

  -- ---- what stands behind one of the keys

  first_covered : (b : Bool) (vs : List Datum) (o : Option (List Datum)) → CoversEach P vs → IfSome o (CoversEach P)
      → IfSome (if b then Some vs else o) (CoversEach P)
  first_covered true vs o c h = c
  first_covered false vs o c h = h

  pub values_covered : (j : Key) (ks : List Keyed) → CoversKeys P ks → IfSome (values_of j ks) (CoversEach P)
  values_covered j [] c = tt
  values_covered j (k ∷ ks) c = first_covered (same_key j k.key) k.values (values_of j ks) c.0.1 (values_covered j ks c.1)
