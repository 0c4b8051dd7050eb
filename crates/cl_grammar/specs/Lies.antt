-- Data lie in a text in order, at every depth: each from one place up to another, which it does not reach.
use Rattle.std.specs.Prelude.{ℕ, ◌+◌, ◌≤◌, ◌<◌}
use Rattle.cl_forms.specs.Datum.{Datum, Datums, number, literal, word, quoted, stray, list, none, item}

abbrev mutual
  -- the datum begins at a place or behind it, and ends before another
  pub Lies : ℕ → Datum → ℕ → Type 0
  Lies from (number z at) to = (from ≤ at) × (at < to)
  Lies from (literal s at) to = (from ≤ at) × (at < to)
  Lies from (word s at) to = (from ≤ at) × (at < to)
  Lies from (quoted s at name_at) to = (from ≤ at) × (at < name_at) × (name_at < to)
  Lies from (stray at) to = (from ≤ at) × (at < to)
  Lies from (list ds at) to = (from ≤ at) × (at < to) × LieAll (at + 1) ds to

  -- the data lie so one behind another
  pub LieAll : ℕ → Datums → ℕ → Type 0
  LieAll from none to = from ≤ to
  LieAll from (item d ds) to = (next : ℕ) × Lies from d next × LieAll next ds to

-- data lie so in a text
pub record LieInText (ds : Datums) : Type 0 where
  pub end : ℕ
  pub lie : LieAll 0 ds end
