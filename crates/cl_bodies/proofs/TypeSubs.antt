-- The arguments of a specifier.
use Rattle.std.proofs.Common.{◌≡◌, ◌<◌, ◌+◌, ℕ, suc, length, map, get_or, drop, List, [], ◌∷◌, ◌++◌, append_assoc, refl, sym, ap, ◌∙◌}
use Rattle.std.proofs.Math.Path.{subst}
use Rattle.std.proofs.lemmas.List.{drop_more, map_push}
use Rattle.std.specs.Prelude.{Result, Ok, Err, Vec}
use Rattle.std.specs.declared.alloc.Global.{Global}
use Rattle.cl_syntax.specs.TypeSpec.{arg_tree_of}
use Rattle.cl_syntax.specs.declared.type_specs.TypeArg.{TypeArg}
use Rattle.cl_syntax.specs.declared.type_specs.TypeArg.TheVariants as arg
use Rattle.cl_syntax.specs.TypeSpecTree.{TypeArgTree, TypeSpecTree, Spec}
use Rattle.cl_forms.specs.Datum as datum
use Rattle.cl_forms.specs.Datum.{datums_of}
use Rattle.cl_forms.specs.DatumView.{datum_of}
use Rattle.cl_forms.specs.declared.datum.Datum.{Datum}
use Rattle.cl_expressions.specs.Load.{Fault, Gives, Notes, after, give}
use Rattle.cl_forms.specs.declared.refusals.FormRefusal.{FormRefusal}
use Rattle.cl_expressions.specs.Scopes.{Names}
use Rattle.cl_expressions.proofs.Onto.{onto}
use Rattle.cl_words.specs.declared.signatures.Signatures.{Signatures}
use Rattle.cl_bodies.specs.Specifiers.{parse_arguments, parse_at_most, parse_each_type, parse_tokens_and_type, parse_type, shapes, type_subs}
use Rattle.cl_bodies.specs.TypeViews.{args_of}
use Rattle.cl_bodies.specs.declared.specifiers.Takes.{Takes}
use Rattle.cl_bodies.specs.declared.specifiers.Takes.TheVariants as takes
use Rattle.cl_bodies.specs.declared.type_arguments.Wanted.TheVariants as wanted

pub shapes_of_subs : (w : Signatures) (ps : Names) (ds : List datum.Datum) → shapes (type_subs w ps (datums_of ds)) ≡ ds
shapes_of_subs w ps [] = refl
shapes_of_subs w ps (d ∷ ds) = ap (λ es. d ∷ es) (shapes_of_subs w ps ds)

-- as many as there are data
pub subs_counted : (w : Signatures) (ps : Names) (ds : List Datum) → length (type_subs w ps (datums_of (map datum_of ds))) ≡ length ds
subs_counted w ps [] = refl
subs_counted w ps (d ∷ ds) = ap suc (subs_counted w ps ds)

-- a list of tokens and a type are two parts
pub tokens_counts : (w : Signatures) (ps : Names) (at : ℕ) (ds : List Datum) (s : Notes) → (length ds ≡ 2 → ⊥)
    → parse_tokens_and_type at (type_subs w ps (datums_of (map datum_of ds))) s ≡ Err (6, at)
tokens_counts w ps at [] s h = refl
tokens_counts w ps at (a ∷ []) s h = refl
tokens_counts w ps at (a ∷ b ∷ []) s h = absurd (h refl)
tokens_counts w ps at (a ∷ b ∷ c ∷ ds) s h = refl

onto_join : {A : Type 0} → (xs : List A) (x : A) (r : Result (List A × Notes) Fault) → onto xs (after r (λ ys. give (x ∷ ys))) ≡ onto (xs ++ x ∷ []) r
onto_join xs x (Ok r) = ap (λ ys. Ok (ys, r.1)) (sym (append_assoc xs (x ∷ []) r.0))
onto_join xs x (Err fault) = refl

-- one more specifier among arguments
pub type_step : (w : Signatures) (ps : Names) (ds : List Datum) (i : ℕ) (d : Datum) (t : TypeSpecTree) (ts : List TypeArgTree) (s n : Notes)
    → i < length ds → d ≡ get_or ds i d → parse_type w ps (datum_of d) s ≡ Ok (t, n)
    → onto ts (parse_each_type (type_subs w ps (datums_of (map datum_of (drop i ds)))) s)
    ≡ onto (ts ++ Spec t ∷ []) (parse_each_type (type_subs w ps (datums_of (map datum_of (drop (i + 1) ds)))) n)
type_step w ps ds i d t ts s n in_range e h =
    let whole : drop i ds ≡ d ∷ drop (i + 1) ds = drop_more ds i d in_range ∙ ap (λ (c : Datum). c ∷ drop (i + 1) ds) (sym e) in
    rw (whole, h) (onto_join ts (Spec t) (parse_each_type (type_subs w ps (datums_of (map datum_of (drop (i + 1) ds)))) n))

-- the same, as the program puts it behind the others
pub type_pushed : (w : Signatures) (ps : Names) (ds : List Datum) (i : ℕ) (d : Datum) (t : TypeSpecTree) (as_read items : List TypeArg) (s n : Notes)
    → i < length ds → d ≡ get_or ds i d → parse_type w ps (datum_of d) s ≡ Ok (t, n) → items ≡ as_read ++ arg.Spec t ∷ []
    → onto (map arg_tree_of as_read) (parse_each_type (type_subs w ps (datums_of (map datum_of (drop i ds)))) s)
    ≡ onto (map arg_tree_of items) (parse_each_type (type_subs w ps (datums_of (map datum_of (drop (i + 1) ds)))) n)
type_pushed w ps ds i d t as_read items s n in_range e h pushed =
    let more : map arg_tree_of items ≡ map arg_tree_of as_read ++ Spec t ∷ [] = ap (map arg_tree_of) pushed ∙ map_push arg_tree_of as_read (arg.Spec t) in
    type_step w ps ds i d t (map arg_tree_of as_read) s n in_range e h
    ∙ ap (λ ts. onto ts (parse_each_type (type_subs w ps (datums_of (map datum_of (drop (i + 1) ds)))) n)) (sym more)

-- the row of a type with bounds, and that of one with a length
pub bounds_row : (w : Signatures) (ps : Names) (t : Takes) (at : ℕ) (ds : List datum.Datum) (r : Result (Vec TypeArg Global) FormRefusal) (s n : Notes) → t ≡ takes.Bounds
    → Gives args_of r n (parse_at_most 2 ps wanted.NumberOrStar at ds s) → Gives args_of r n (parse_arguments ps t at (type_subs w ps (datums_of ds)) s)
bounds_row w ps t at ds r s n e h =
    subst (λ k. Gives args_of r n (parse_arguments ps k at (type_subs w ps (datums_of ds)) s)) (sym e)
    (subst (λ es. Gives args_of r n (parse_at_most 2 ps wanted.NumberOrStar at es s)) (sym (shapes_of_subs w ps ds)) h)

pub length_row : (w : Signatures) (ps : Names) (t : Takes) (at : ℕ) (ds : List datum.Datum) (r : Result (Vec TypeArg Global) FormRefusal) (s n : Notes) → t ≡ takes.Length
    → Gives args_of r n (parse_at_most 1 ps wanted.Number at ds s) → Gives args_of r n (parse_arguments ps t at (type_subs w ps (datums_of ds)) s)
length_row w ps t at ds r s n e h =
    subst (λ k. Gives args_of r n (parse_arguments ps k at (type_subs w ps (datums_of ds)) s)) (sym e)
    (subst (λ es. Gives args_of r n (parse_at_most 1 ps wanted.Number at es s)) (sym (shapes_of_subs w ps ds)) h)
