-- A declaration that is refused.
use Rattle.std.proofs.Common.{◌≡◌, ◌<◌, ◌+◌, ℕ, length, map, get_or, drop, List, ◌∷◌, refl, sym, ap, ◌∙◌}
use Rattle.std.proofs.lemmas.List.{drop_more}
use Rattle.std.specs.Prelude.{Err}
use Rattle.cl_forms.specs.OuterView.{outer_of}
use Rattle.cl_forms.specs.declared.outer.Outer.{Outer}
use Rattle.cl_forms.specs.declared.refusals.FormRefusal.{FormRefusal}
use Rattle.cl_forms.specs.declared.refusals.FormRefusal.TheVariants.{Refused, Memory}
use Rattle.cl_words.specs.declared.signatures.Signatures.{Signatures}
use Rattle.cl_expressions.specs.Load.{Notes, Gives, itself}
use Rattle.cl_declare.specs.Declarations.{parse_declaration, parse_each_declaration, parse_declarations}
use Rattle.cl_expressions.specs.Leaves.{Leaves}
use Rattle.cl_declare.specs.declared.declarations.Declarations.{Declarations}

pub stopped : (B : Type 0) (e : FormRefusal) (w : Signatures) (os : List Outer) (i : ℕ) (o : Outer) (s t : Declarations) (n m first : Notes)
    → i < length os → o ≡ get_or os i o → parse_each_declaration w (map outer_of (drop i os)) s n ≡ parse_declarations w (map outer_of os) first
    → Leaves {B = B} (Err e) t m (parse_declaration w (outer_of o) s n) → Gives (itself {A = Declarations}) (Err e) m (parse_declarations w (map outer_of os) first)
stopped B (Refused number at) w os i o s t n m first l e same h =
    let whole : drop i os ≡ o ∷ drop (i + 1) os = drop_more os i o l ∙ ap (λ (p : Outer). p ∷ drop (i + 1) os) (sym e) in
    let there : parse_each_declaration w (map outer_of (drop i os)) s n ≡ Err (number, at) = rw (whole, h) refl in
    sym same ∙ there
stopped B Memory w os i o s t n m first l e same h = tt
