use Rattle.std.proofs.Common.{◌≡◌, ◌++◌, drop, map}
use Rattle.cl_redisplay.specs.Shown.{ink_digit}
use Rattle.cl_session.proofs.telling.digits.Given as goal

abbrev pub invariant-loop-ink : goal.invariant-loop-ink
invariant-loop-ink l = l.digits.items ++ map ink_digit (drop l.ink-index l.inks) ≡ map ink_digit l.inks
