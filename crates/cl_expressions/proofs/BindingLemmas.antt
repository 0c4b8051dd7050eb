-- One more binding.
use Rattle.std.proofs.Common.{◌≡◌, ◌<◌, ◌+◌, ◌++◌, ℕ, List, [], ◌∷◌, length, map, get_or, drop, append_assoc, refl, sym, ap, ◌∙◌}
use Rattle.std.proofs.lemmas.List.{drop_more}
use Rattle.std.specs.Prelude.{Result, Ok, Err}
use Rattle.cl_syntax.specs.declared.expressions.Binding.{Binding}
use Rattle.cl_forms.specs.Datum.{datums_of}
use Rattle.cl_forms.specs.DatumView.{datum_of}
use Rattle.cl_expressions.specs.Load.{Notes, Fault, after, give}
use Rattle.cl_expressions.specs.Scopes.{Names, in_sight}
use Rattle.cl_expressions.specs.Expressions.{Bound, parse_binding, parse_each_binding}
use Rattle.cl_forms.specs.declared.datum.Datum.{Datum}
use Rattle.cl_words.specs.declared.signatures.Signatures.{Signatures}
use Rattle.cl_expressions.proofs.Onto.{onto_bound}
use Rattle.cl_expressions.proofs.ScopeLemmas.{sight_more}

onto_join : (bs : List Binding) (b : Binding) (x : Result (Bound × Notes) Fault)
    → onto_bound bs (after x (λ r. give (b ∷ r.0, r.1))) ≡ onto_bound (bs ++ b ∷ []) x
onto_join bs b (Ok r) = ap (λ cs. Ok ((cs, r.0.1), r.1)) (sym (append_assoc bs (b ∷ []) r.0.0))
onto_join bs b (Err fault) = refl

pub bound_step : (w : Signatures) (at : ℕ) (ps : List Datum) (i : ℕ) (d : Datum) (b : Binding) (bs : List Binding) (xs env : Names) (s t : Notes)
    → i < length ps → d ≡ get_or ps i d → parse_binding w (datum_of d) at (in_sight xs env) s ≡ Ok (b, t)
    → onto_bound bs (parse_each_binding w (datums_of (map datum_of (drop i ps))) at (in_sight xs env) s)
    ≡ onto_bound (bs ++ b ∷ []) (parse_each_binding w (datums_of (map datum_of (drop (i + 1) ps))) at (in_sight (xs ++ b.name ∷ []) env) t)
bound_step w at ps i d b bs xs env s t l e h =
    let whole : drop i ps ≡ d ∷ drop (i + 1) ps = drop_more ps i d l ∙ ap (λ (c : Datum). c ∷ drop (i + 1) ps) (sym e) in
    rw (whole, sight_more xs b.name env, h) (onto_join bs b (parse_each_binding w (datums_of (map datum_of (drop (i + 1) ps))) at (b.name ∷ in_sight xs env) t))
