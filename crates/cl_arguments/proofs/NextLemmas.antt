-- Where an argument comes to stand one user type further.
use Rattle.std.proofs.Common.{◌≡◌, ◌<◌, ◌≤◌, ℕ, length, get_or, List, [], Some, None, refl, sym, ap, ◌∙◌}
use Rattle.std.specs.Prelude.{slice_get}
use Rattle.std.proofs.lemmas.Option.{slice_get-get_or, slice_get_past}
use Rattle.cl_syntax.specs.declared.type_decls.TypeDecl.{TypeDecl}
use Rattle.cl_arguments.specs.Probes.{in_parts, stands_at}
use Rattle.cl_arguments.specs.Misfits.{Types, next, user_type}
use Rattle.cl_arguments.specs.declared.probes.Put.{Put}
use Rattle.cl_arguments.specs.declared.probes.Probe.{Probe}

-- the parameter at a place
pub parameter_at : (xs ys : List (List ℕ)) (i : ℕ) (x : List ℕ) → xs ≡ ys → i < length xs → x ≡ get_or xs i x → Some x ≡ slice_get ys i
parameter_at xs ys i x same l e = ap Some e ∙ sym (slice_get-get_or xs i x l) ∙ ap (λ (zs : List (List ℕ)). slice_get zs i) same

-- past the parameters there is none
pub no_parameter_at : (xs ys : List (List ℕ)) (i : ℕ) → xs ≡ ys → length xs ≤ i → None ≡ slice_get ys i
no_parameter_at xs ys i same l = sym (slice_get_past xs i l) ∙ ap (λ (zs : List (List ℕ)). slice_get zs i) same

pub next_behind : (types : Types) (q : Probe) (d : TypeDecl) (put : Put) (p : List ℕ) → Some d ≡ user_type types q.name → q.put ≡ Some put → Some p ≡ slice_get d.parameters put.place
    → next types q ≡ in_parts (stands_at p put.kind) d.inherit_from
next_behind types q d put p e f g = rw (← e, f, ← g) refl

pub nowhere_next : (types : Types) (q : Probe) (d : TypeDecl) (put : Put) → Some d ≡ user_type types q.name → q.put ≡ Some put → None ≡ slice_get d.parameters put.place → next types q ≡ []
nowhere_next types q d put e f g = rw (← e, f, ← g) refl
