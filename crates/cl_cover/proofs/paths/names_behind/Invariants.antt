use Rattle.std.proofs.Common.{◌≡◌, ◌∷◌, take}
use Rattle.cl_cover.proofs.paths.names_behind.Given as goal

abbrev pub invariant-loop-next : goal.invariant-loop-next
invariant-loop-next l = l.all ≡ l.name ∷ take l.next-index l.next-items
