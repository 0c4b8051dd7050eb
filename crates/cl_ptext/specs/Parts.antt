-- The parts of a text: it is cut at separators outside quotes.
use Rattle.std.specs.Prelude.{ℕ, ◌+◌, Bool, true, false, ◌&&◌, ◌||◌, ◌==◌, List, [], ◌∷◌, ◌++◌, Option, Some, None, if◌then◌else◌}
use Rattle.std.specs.List.{list_any}
use Rattle.cl_ptext.specs.Words.{is_empty}
use Rattle.cl_ptext.specs.declared.parts.Part.{Part}
use Rattle.cl_ptext.specs.declared.parts.Part.TheVariants as part
use Rattle.cl_ptext.specs.declared.pieces.Stage.{Stage}
use Rattle.cl_ptext.specs.declared.pieces.Stage.TheVariants.{Leading, Plain, Quoted, Escaped}

-- where a piece stands behind one more byte: only a `"` behind its leading spaces opens a quote, which the next `"` closes that no `\` gives
abbrev pub stage_behind : Stage → ℕ → Stage
stage_behind Leading b = if b == 32 then Leading else (if b == 34 then Quoted else Plain)
stage_behind Plain b = Plain
stage_behind Quoted b = if b == 34 then Plain else (if b == 92 then Escaped else Quoted)
stage_behind Escaped b = Quoted

-- whether a separator ends a piece there
abbrev pub may_end : Stage → Bool
may_end Leading = true
may_end Plain = true
may_end Quoted = false
may_end Escaped = false

-- the pieces of what is left of a text, where the first has these bytes so far
abbrev pub pieces_from : ℕ → Stage → List ℕ → List ℕ → List (List ℕ)
pieces_from separator stage piece [] = piece ∷ []
pieces_from separator stage piece (b ∷ bs) =
    if may_end stage && b == separator then piece ∷ pieces_from separator Leading [] bs
    else pieces_from separator (stage_behind stage b) (piece ++ b ∷ []) bs

-- the empty text has no piece
abbrev pub pieces : ℕ → List ℕ → List (List ℕ)
pieces separator [] = []
pieces separator (b ∷ bs) = pieces_from separator Leading [] (b ∷ bs)

-- the pieces behind a separator; none where no separator came
abbrev pub pieces_left : ℕ → Option (List ℕ) → List (List ℕ)
pieces_left separator None = []
pieces_left separator (Some bs) = pieces_from separator Leading [] bs

-- without the spaces at the start
abbrev pub behind_spaces : List ℕ → List ℕ
behind_spaces [] = []
behind_spaces (b ∷ bs) = if b == 32 then behind_spaces bs else b ∷ bs

-- one byte before the others, where these are no spaces at the end
abbrev pub before_end : ℕ → List ℕ → List ℕ
before_end b [] = if b == 32 then [] else b ∷ []
before_end b (c ∷ cs) = b ∷ c ∷ cs

-- without the spaces at the end
abbrev pub without_end : List ℕ → List ℕ
without_end [] = []
without_end (b ∷ bs) = before_end b (without_end bs)

-- what stands in quotes, from behind the first one on, behind what is there, without each `\` that gives the byte behind it; None where anything follows the
-- closing quote, or none comes
abbrev pub unquoted : (escaped : Bool) → List ℕ → List ℕ → Option (List ℕ)
unquoted escaped inside [] = None
unquoted true inside (b ∷ bs) = unquoted false (inside ++ b ∷ []) bs
unquoted false inside (b ∷ bs) =
    if b == 34 then (if is_empty bs then Some inside else None)
    else (if b == 92 then unquoted true inside bs else unquoted false (inside ++ b ∷ []) bs)

-- the text of a part without spaces at its ends
abbrev pub trimmed_part : List ℕ → Option (List ℕ)
trimmed_part [] = Some []
trimmed_part (b ∷ bs) = if b == 34 then unquoted false [] bs else Some (b ∷ bs)

-- the text of the part that a piece is; None where it reads as nothing
abbrev pub part_in : List ℕ → Option (List ℕ)
part_in piece = trimmed_part (without_end (behind_spaces piece))

-- a byte for which the text of a value of `string` stands in quotes: a space, a comma, a `"` or a `\`
abbrev pub is_mark : ℕ → Bool
is_mark b = b == 32 || b == 44 || b == 34 || b == 92

-- a text with such a byte
abbrev pub has_mark : List ℕ → Bool
has_mark x = list_any is_mark x

-- ---- pieces of the program

-- the length of the first piece
abbrev pub piece_length : ℕ → Stage → List ℕ → ℕ
piece_length separator stage [] = 0
piece_length separator stage (b ∷ bs) = if may_end stage && b == separator then 0 else 1 + piece_length separator (stage_behind stage b) bs

-- the bytes of a part
abbrev pub bytes_of : Part → List ℕ
bytes_of (part.Plain bytes) = bytes.now
bytes_of (part.Quoted bytes) = bytes.items

-- ---- what cutting leaves

-- pieces with a separator before each
abbrev pub each_behind : ℕ → List (List ℕ) → List ℕ
each_behind separator [] = []
each_behind separator (p ∷ ps) = separator ∷ (p ++ each_behind separator ps)

-- pieces with a separator between two
abbrev pub joined_pieces : ℕ → List (List ℕ) → List ℕ
joined_pieces separator [] = []
joined_pieces separator (p ∷ ps) = p ++ each_behind separator ps
