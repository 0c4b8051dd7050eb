use Rattle.std.proofs.Common.{◌∙◌, sym, arith, length-take, length-drop, length, drop, ◌-◌}
use Rattle.std.proofs.lemmas.Slice.Eq.{bytes_eq-Decides}
use Rattle.cl_redisplay.proofs.EvenRows.{even_later}
use Rattle.cl_redisplay.proofs.sending.is_even.Goals as goal

pub returns-in-len1-up : goal.returns-in-len1-up
returns-in-len1-up c = λ same.
    even_later c.args.inks.now _ _ (omega (arith, length-take (length c.args.inks.now - 1) (drop 1 c.args.inks.now), length-drop 1 c.args.inks.now)) (omega arith)
    ((bytes_eq-Decides _ _).0 (sym c.eq.ensures ∙ same))
