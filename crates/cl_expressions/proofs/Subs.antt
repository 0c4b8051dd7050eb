-- The parts of a form.
use Rattle.std.proofs.Common.{◌≡◌, length, map, List, [], ◌∷◌, refl, ap, suc}
use Rattle.cl_forms.specs.Datum.{datums_of}
use Rattle.cl_forms.specs.DatumView.{datum_of}
use Rattle.cl_expressions.specs.Expressions.{subs}
use Rattle.cl_forms.specs.declared.datum.Datum as program
use Rattle.cl_words.specs.declared.signatures.Signatures.{Signatures}

-- a form has as many parts as data stand behind its head
pub subs_counted : (w : Signatures) (ds : List program.Datum) → length (subs w (datums_of (map datum_of ds))) ≡ length ds
subs_counted w [] = refl
subs_counted w (d ∷ ds) = ap suc (subs_counted w ds)
