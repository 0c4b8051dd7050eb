-- One more pair behind the keys that stand so far.
use Rattle.std.proofs.Common.{◌≡◌, ◌++◌, Bool, true, false, map, List, [], ◌∷◌, Option, Some, None, refl, sym, ap, ◌∙◌}
use Rattle.std.specs.Prelude.{if◌then◌else◌, option_and_then}
use Rattle.std.proofs.lemmas.List.{map_push}
use Rattle.cl_forms.specs.DatumView.{datum_of}
use Rattle.cl_forms.specs.KeyedView.{keyed_of}
use Rattle.cl_forms.specs.Keys.{Keyed, has_key, pair_in, with_keyed, keyed_pairs}
use Rattle.cl_forms.specs.declared.keys.Key.{Key}
use Rattle.cl_forms.specs.declared.keys.Keyed as program
use Rattle.cl_forms.specs.declared.datum.Datum as datum

passed : {A : Type 0} (b : Bool) (x y : A) → b ≡ false → (if b then x else y) ≡ y
passed true x y h = cc
passed false x y h = refl

pub pair_more : (may_have : List Key) (items : List program.Keyed) (rest more behind : List datum.Datum) (k v : datum.Datum) (one : program.Keyed)
    → rest ≡ k ∷ more → more ≡ v ∷ behind → Some (keyed_of one) ≡ pair_in may_have (datum_of k) (datum_of v) → has_key one.key (map keyed_of items) ≡ false
    → keyed_pairs may_have (map keyed_of (items ++ one ∷ [])) (map datum_of behind) ≡ keyed_pairs may_have (map keyed_of items) (map datum_of rest)
pair_more may_have items rest more behind k v one e f p h =
    let so_far : List Keyed = map keyed_of items in
    let next : List Keyed → Option (List Keyed) = λ ks. keyed_pairs may_have ks (map datum_of behind) in
    let whole : rest ≡ k ∷ v ∷ behind = e ∙ ap (λ ds. k ∷ ds) f in
    let added : with_keyed (Some (keyed_of one)) so_far ≡ Some (so_far ++ keyed_of one ∷ []) = passed (has_key one.key so_far) None (Some (so_far ++ keyed_of one ∷ [])) h in
    ap next (map_push keyed_of items one)
    ∙ sym (ap (λ ds. keyed_pairs may_have so_far (map datum_of ds)) whole ∙ ap (λ o. option_and_then next (with_keyed o so_far)) (sym p) ∙ ap (option_and_then next) added)
