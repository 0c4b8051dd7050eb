-- How the bytes of a stream are cut into lines, and what a reader with bytes ahead has read of it.
use Rattle.std.specs.Prelude.{◌≡◌, ◌≢◌, ◌==◌, ◌||◌, ◌≤◌, ℕ, All, Bool, true, false, if◌then◌else◌, Option, List, [], ◌∷◌, ◌++◌, length}
use Rattle.std.specs.List.{flat_map}
use Rattle.std.specs.Io.KnownBytes.{Consumes, IsAtEnd}

-- a line without the line feed that ended it, or 4,097 bytes without a line feed
pub data Piece : Type 0 where
  line : List ℕ → Piece
  long : List ℕ → Piece

-- the byte 10
abbrev pub line_feed : ℕ
line_feed = 10

-- the most bytes that a line has before its line feed
abbrev pub longest_line : ℕ
longest_line = 4096

-- the piece that a byte ends, after the bytes that are held of its line
abbrev pub ended_at : List ℕ → ℕ → List Piece
ended_at held byte =
    if byte == line_feed then line held ∷ [] else (if length held == longest_line then long (held ++ byte ∷ []) ∷ [] else [])

-- the bytes of the line that are held after a byte
abbrev pub held_after : List ℕ → ℕ → List ℕ
held_after held byte = if (byte == line_feed) || (length held == longest_line) then [] else held ++ byte ∷ []

-- the pieces that end in the bytes, where these bytes of a line were held before
abbrev pub ended_from : List ℕ → List ℕ → List Piece
ended_from held [] = []
ended_from held (byte ∷ bytes) = ended_at held byte ++ ended_from (held_after held byte) bytes

-- the bytes of an unended line that are held after the bytes
abbrev pub held_from : List ℕ → List ℕ → List ℕ
held_from held [] = held
held_from held (byte ∷ bytes) = held_from (held_after held byte) bytes

-- the pieces that end in the bytes
abbrev pub ended : List ℕ → List Piece
ended bytes = ended_from [] bytes

-- a last line, which no line feed ended; no bytes are no line
abbrev pub last_line : List ℕ → List Piece
last_line [] = []
last_line (byte ∷ bytes) = line (byte ∷ bytes) ∷ []

-- all pieces of a stream of these bytes
abbrev pub pieces : List ℕ → List Piece
pieces bytes = ended bytes ++ last_line (held_from [] bytes)

-- the source handed over some bytes, and `read` was read of what was ahead and of those
pub record Reads (old new : Option (List ℕ)) (ahead_old ahead_new read : List ℕ) : Type 0 where
  pub handed : List ℕ
  pub consumed : Consumes old new handed
  pub same : ahead_old ++ handed ≡ read ++ ahead_new

-- these bytes are these whole pieces: up to the stream's end where `finished`, and else each of them ended
abbrev pub AreCut : Bool → Option (List ℕ) → List ℕ → List ℕ → List Piece → Type 0
AreCut false now ahead read ps = (ended read ≡ ps) × (held_from [] read ≡ [])
AreCut true now ahead read ps = (pieces read ≡ ps) × IsAtEnd now × (ahead ≡ [])

-- these pieces, and nothing else, were read of what was ahead and of what the source handed over
pub record Lines (old new : Option (List ℕ)) (ahead_old ahead_new : List ℕ) (finished : Bool) (ps : List Piece) : Type 0 where
  pub read : List ℕ
  pub reads : Reads old new ahead_old ahead_new read
  pub cut : AreCut finished new ahead_new read ps

-- ---- laws of the cut

-- the bytes of a piece, with the line feed that ended it
abbrev pub bytes_of : Piece → List ℕ
bytes_of (line bytes) = bytes ++ line_feed ∷ []
bytes_of (long bytes) = bytes

-- a byte is no line feed
abbrev pub IsNoFeed : ℕ → Type 0
IsNoFeed byte = byte ≢ line_feed

-- a line of at most 4,096 bytes, or 4,097 bytes, and no line feed among them
abbrev pub IsPiece : Piece → Type 0
IsPiece (line bytes) = (length bytes ≤ longest_line) × All IsNoFeed bytes
IsPiece (long bytes) = (length bytes ≡ 4097) × All IsNoFeed bytes

-- nothing is lost and nothing is put in: the pieces that ended, joined, and then what is held, are the bytes
abbrev pub AreTheBytes : Type 0
AreTheBytes = (bytes : List ℕ) → flat_map bytes_of (ended bytes) ++ held_from [] bytes ≡ bytes

-- each piece is a line without a line feed that is short enough, or a long piece of exactly 4,097 bytes
abbrev pub AreWellCut : Type 0
AreWellCut = (bytes : List ℕ) → All IsPiece (pieces bytes)

-- there is no other way to cut: well-cut pieces, joined, and then bytes that a line may hold, are cut into these pieces again
abbrev pub IsTheOnlyCut : Type 0
IsTheOnlyCut =
    (ps : List Piece) (held : List ℕ) → All IsPiece ps → IsPiece (line held)
    → (ended (flat_map bytes_of ps ++ held) ≡ ps) × (held_from [] (flat_map bytes_of ps ++ held) ≡ held)
