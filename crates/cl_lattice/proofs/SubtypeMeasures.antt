-- The measure of a comparison: the weights of both types, the place of a function among those that compare the same two, and what is left of a list.
use Rattle.std.proofs.Common.{ℕ, ◌+◌, ◌*◌, ◌^◌}

abbrev pub measure : ℕ → ℕ → ℕ → ℕ
measure first second place = 2 ^ 64 * (16 * (first + second) + place)
