-- The text of an application, as it is read from a place.
use Rattle.std.specs.Prelude.{◌≡◌, ◌≤◌, ◌<◌, ◌⊎◌, ℕ, List, [], ◌++◌, length, take, Option, None, Some, ⊤}
use Rattle.std.specs.Io.KnownBytes.{Consumes, IsAtEnd}
use Rattle.cl_outside.specs.Causes.{Rose}
use Rattle.cl_program.specs.declared.texts.PieceRead.{PieceRead}
use Rattle.cl_program.specs.declared.texts.PieceRead.TheVariants as piece
use Rattle.cl_program.specs.declared.texts.TextRead.{TextRead}
use Rattle.cl_program.specs.declared.texts.TextRead.TheVariants as text

-- the most bytes that are read of a file: one more than a text may have
abbrev pub most_bytes : ℕ
most_bytes = 1048577

-- all bytes of a file, or the first 1,048,577 of them
unfoldable pub first_bytes : List ℕ → List ℕ
first_bytes bytes = take most_bytes bytes

-- the text of a file, where the file is told
abbrev pub IsTextOf : Option (Option (List ℕ)) → List ℕ → Type 0
IsTextOf None text = ⊤
IsTextOf (Some None) text = ⊥
IsTextOf (Some (Some bytes)) text = text ≡ first_bytes bytes

-- one read: more bytes behind those that were read before, at least one, or the end
pub record Grows (left_old left_new : Option (List ℕ)) (old new : List ℕ) : Type 0 where
  pub bytes : List ℕ
  pub some : 0 < length bytes
  pub consumed : Consumes left_old left_new bytes
  pub same : new ≡ old ++ bytes
  pub short : length new ≤ most_bytes

-- what one read of a file comes to
abbrev pub PieceOf : Option (List ℕ) → Option (List ℕ) → List ℕ → List ℕ → PieceRead → Type 0
PieceOf left_old left_new old new piece.More = Grows left_old left_new old new
PieceOf left_old left_new old new piece.End = Consumes left_old left_new [] × IsAtEnd left_new × (new ≡ old)
PieceOf left_old left_new old new piece.Failed = Unit {0}
PieceOf left_old left_new old new piece.Memory = Unit {0}

-- no count falls, and one rose where the read failed
abbrev pub PieceRose : ℕ → ℕ → PieceRead → Type 0
PieceRose before now piece.More = before ≤ now
PieceRose before now piece.End = before ≤ now
PieceRose before now piece.Failed = Rose before now
PieceRose before now piece.Memory = before ≤ now

-- all bytes that were left were read, or as many as are read at most
pub record ReadsAll (left_old left_new : Option (List ℕ)) (bytes : List ℕ) : Type 0 where
  pub consumed : Consumes left_old left_new bytes
  pub short : length bytes ≤ most_bytes
  pub all : IsAtEnd left_new ⊎ (length bytes ≡ most_bytes)

-- what the reading of an opened file comes to
abbrev pub ReadsOpened : Option (List ℕ) → Option (List ℕ) → TextRead → Type 0
ReadsOpened left_old left_new (text.Text bytes) = ReadsAll left_old left_new bytes.items
ReadsOpened left_old left_new text.Failed = Unit {0}
ReadsOpened left_old left_new text.Memory = Unit {0}

-- what the reading of a text by its name comes to
abbrev pub ReadsText : Option (Option (List ℕ)) → TextRead → Type 0
ReadsText file (text.Text bytes) = IsTextOf file bytes.items
ReadsText file text.Failed = Unit {0}
ReadsText file text.Memory = Unit {0}

-- no count falls, and one rose where the reading failed
abbrev pub TextRose : ℕ → ℕ → TextRead → Type 0
TextRose before now (text.Text bytes) = before ≤ now
TextRose before now text.Failed = Rose before now
TextRose before now text.Memory = before ≤ now
