-- How far a reader of lines reads its source.
use Rattle.std.specs.Prelude.{◌≡◌, ◌⊎◌, ◌+◌, ℕ, Option, List, [], ◌++◌}
use Rattle.std.specs.Io.KnownBytes.{Consumes}
use Rattle.cl_gesture.specs.Lines.{Piece, ended}

-- the last of one or more reads: before it the source stood at `mid` and had handed over the bytes `earlier`, and the reader may pass
-- over the lines that had ended by then
pub record LastRead {G : Type 0} (left : G → Option (List ℕ)) (calls : G → ℕ) (MayPass : List Piece → Type 0) (old new : G) (ahead : List ℕ) : Type 0 where
  pub mid : G
  pub earlier : List ℕ
  pub handed : Consumes (left old) (left mid) earlier
  pub once : calls new ≡ calls mid + 1
  pub passed : MayPass (ended (ahead ++ earlier))

-- the source was read no further than needed: not at all, or up to a last read, before which no line had ended but such as may be passed
-- over
abbrev pub ReadsNoFurther : {G : Type 0} → (G → Option (List ℕ)) → (G → ℕ) → (List Piece → Type 0) → G → G → List ℕ → Type 0
ReadsNoFurther left calls MayPass old new ahead = (new ≡ old) ⊎ LastRead left calls MayPass old new ahead

-- no line
abbrev pub AreNone : List Piece → Type 0
AreNone ps = ps ≡ []
