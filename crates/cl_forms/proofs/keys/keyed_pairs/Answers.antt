use Rattle.std.proofs.Common.{map, sym, ap, ◌∙◌}
use Rattle.cl_forms.specs.KeyedView.{keyed_of}
use Rattle.cl_forms.specs.Keys.{has_key}
use Rattle.cl_forms.proofs.KeyLemmas.{pair_more}
use Rattle.cl_forms.proofs.keys.keyed_pairs.Goals as goal

pub loop-key-preserved : goal.loop-key-preserved
loop-key-preserved c =
    let new =
    ap (λ ks. has_key c.in-Some-pair_in.one.key (map keyed_of ks)) (sym c.as_slice.ensures.value) ∙ sym c.has_key.ensures ∙ c.if-has_key.false in
    rw c.in_ok-push.ensures.items
    (pair_more _ c.loop-key.keyed.items _ _ _ _ _ _ c.in-Some.ensures.cases.0 c.in-Some-split_first.ensures.cases.0 c.in-Some-pair_in.ensures new
    ∙ c.loop-key.invariant)
