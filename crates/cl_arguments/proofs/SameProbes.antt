-- Equal probes are the same.
use Rattle.std.proofs.Common.{◌≡◌, Bool, true, false, Option, Some, None, refl, ap}
use Rattle.std.specs.Prelude.{◌&&◌, ◌==◌}
use Rattle.std.specs.Cmp.Lexicographic.{pointwise}
use Rattle.std.specs.Option.{option_eq}
use Rattle.std.proofs.lemmas.Bool.Decides.{Decides-eqb}
use Rattle.std.proofs.lemmas.Slice.Eq.{bytes_eq-Decides}
use Rattle.cl_arguments.specs.contracts.kinds.ArgumentKindPartialEq.TheImpl as kind_eq
use Rattle.cl_arguments.specs.contracts.probes.PutPartialEq.TheImpl as put_eq
use Rattle.cl_arguments.specs.contracts.probes.ProbePartialEq.TheImpl as probe_eq
use Rattle.cl_arguments.specs.declared.kinds.ArgumentKind.{ArgumentKind}
use Rattle.cl_arguments.specs.declared.kinds.ArgumentKind.TheVariants as kind
use Rattle.cl_arguments.specs.declared.probes.Put.{Put}
use Rattle.cl_arguments.specs.declared.probes.Probe.{Probe}

both : (a b : Bool) → (a && b) ≡ true → (a ≡ true) × (b ≡ true)
both true b h = (refl, h)
both false b h = cc

same_kind : (a b : ArgumentKind) → (kind_eq.ghosts).eq a b ≡ true → a ≡ b
same_kind kind.Number kind.Number h = refl
same_kind kind.Number kind.Any h = cc
same_kind kind.Number kind.Constant h = cc
same_kind kind.Any kind.Number h = cc
same_kind kind.Any kind.Any h = refl
same_kind kind.Any kind.Constant h = cc
same_kind kind.Constant kind.Number h = cc
same_kind kind.Constant kind.Any h = cc
same_kind kind.Constant kind.Constant h = refl

same_put : (p q : Put) → (put_eq.ghosts).eq p q ≡ true → p ≡ q
same_put p q h =
    let t = both (p.place == q.place) ((kind_eq.ghosts).eq p.kind q.kind) h in
    let place : p.place ≡ q.place = (Decides-eqb p.place q.place).0 t.0 in
    let kinds : p.kind ≡ q.kind = same_kind p.kind q.kind t.1 in
    λ i. record { place = place i; kind = kinds i }

same_puts : (a b : Option Put) → option_eq (put_eq.ghosts).eq a b ≡ true → a ≡ b
same_puts None None h = refl
same_puts None (Some q) h = cc
same_puts (Some p) None h = cc
same_puts (Some p) (Some q) h = ap Some (same_put p q h)

pub same_probe : (p q : Probe) → (probe_eq.ghosts).eq p q ≡ true → p ≡ q
same_probe p q h =
    let t = both (pointwise ◌==◌ p.name q.name) (option_eq (put_eq.ghosts).eq p.put q.put) h in
    let name : p.name ≡ q.name = (bytes_eq-Decides p.name q.name).0 t.0 in
    let put : p.put ≡ q.put = same_puts p.put q.put t.1 in
    λ i. record { name = name i; put = put i }
