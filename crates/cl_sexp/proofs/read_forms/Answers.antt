-- A gap is passed over, a token is put behind the others.
use Rattle.cl_sexp.proofs.Forward.{forward_gap, forward_token}
use Rattle.cl_sexp.proofs.read_forms.Goals as goal

pub loop-at-preserved-in-Gap : goal.loop-at-preserved-in-Gap
loop-at-preserved-in-Gap c = forward_gap _ _ _ _ _ c.loop-at.invariant c.in-Gap.ensures.value c.in-Gap.ensures.within.0 c.in-Gap.ensures.within.1

pub loop-at-preserved : goal.loop-at-preserved
loop-at-preserved c =
    rw (c.in_ok-push-in-Lexeme.ensures.items, c.behind-depth.ensures) (forward_token _ _ _ _ _ _ c.loop-at.invariant c.in-Lexeme.ensures.value c.in-Lexeme.ensures.within.0 c.in-Lexeme.ensures.within.1 c.in-Lexeme.ensures.nested)
