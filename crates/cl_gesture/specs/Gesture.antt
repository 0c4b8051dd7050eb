-- What a line of the stream says.
use Rattle.std.specs.Prelude.{◌≡◌, ◌≢◌, ◌==◌, ◌&&◌, ◌↔◌, ◌<◌, ◌≤◌, ◌++◌, All, not, ◌-◌, ℕ, Bool, true, nat_eq, nat_le, if◌then◌else◌, Option, Some, None, option_map, unwrap_or, List, [], ◌∷◌, length, take, codes}
use Rattle.std.specs.List.{list_all, list_any, ends_with, before_first, after_first}
use Rattle.std.specs.Str.{bytes_eq}
use Rattle.cl_gesture.specs.declared.answers.Gesture.{Gesture}
use Rattle.cl_gesture.specs.declared.answers.Gesture.TheVariants as gesture
use Rattle.cl_gesture.specs.declared.answers.PointAt.{PointAt}
use Rattle.cl_gesture.specs.Lines.{Piece, line, long}
use Rattle.cl_gesture.specs.Pointing.{◌>>=◌, gesture_named, coordinate_of, IsNameOf, WritesCoordinate}

-- nothing, no line of the grammar, or a gesture
pub data LineKind : Type 0 where
  idle : LineKind
  bad : LineKind
  does : Gesture → LineKind

-- without one carriage return at its end
abbrev pub without_return : List ℕ → List ℕ
without_return bytes = if ends_with nat_eq bytes (13 ∷ []) then take (length bytes - 1) bytes else bytes

-- an empty line, or a comment, which begins with `#`
abbrev pub is_idle : List ℕ → Bool
is_idle [] = true
is_idle (byte ∷ bytes) = nat_eq byte 35

-- a byte from 32 to 126
abbrev pub is_printable : ℕ → Bool
is_printable byte = nat_le 32 byte && nat_le byte 126

-- 1 or more bytes from 32 to 126
abbrev pub is_typable : List ℕ → Bool
is_typable bytes = not (length bytes == 0) && list_all is_printable bytes

-- a byte is a space
abbrev pub is_space : ℕ → Bool
is_space byte = nat_eq byte 32

-- a byte is no space
abbrev pub is_no_space : ℕ → Bool
is_no_space byte = not (is_space byte)

-- 1 or more bytes without a space
abbrev pub is_word : List ℕ → Bool
is_word bytes = not (length bytes == 0) && list_all is_no_space bytes

-- the verb of a line: what stands before its first space, or all of it
abbrev pub verb_of : List ℕ → List ℕ
verb_of bytes = before_first is_space bytes

-- what stands behind the first space; None: there is no space
abbrev pub rest_of : List ℕ → Option (List ℕ)
rest_of bytes = if list_any is_space bytes then Some (after_first is_space bytes) else None

-- a gesture whose verb stands alone
abbrev pub alone : Gesture → Option (List ℕ) → LineKind
alone g None = does g
alone g (Some rest) = bad

-- the name of a pane: one word
abbrev pub asking : Option (List ℕ) → LineKind
asking None = bad
asking (Some name) = if is_word name then does (gesture.History name) else bad

-- the name of a keystroke: one word
abbrev pub pressing : Option (List ℕ) → LineKind
pressing None = bad
pressing (Some name) = if is_word name then does (gesture.Stroke name) else bad

-- a text that can be typed
abbrev pub typing : Option (List ℕ) → LineKind
typing None = bad
typing (Some text) = if is_typable text then does (gesture.«Type» text) else bad

-- what is pointed at: a pane, a gesture, a column and a row, with one space between each two words
abbrev pub point_in : Option (List ℕ) → Option PointAt
point_in rest = do
  words ← rest
  behind ← rest_of words
  numbers ← rest_of behind
  row ← rest_of numbers
  named ← gesture_named (verb_of behind)
  x ← coordinate_of (verb_of numbers)
  y ← coordinate_of row
  if is_word (verb_of words) then Some (record { pane = verb_of words; gesture = named; x = x; y = y }) else None

-- a place of a pane that is pointed at
abbrev pub pointing : Option (List ℕ) → LineKind
pointing rest = unwrap_or (option_map (λ point. does (gesture.Point point)) (point_in rest)) bad

-- what a verb says, with what stands behind it
abbrev pub verb_says : List ℕ → Option (List ℕ) → LineKind
verb_says verb rest =
    if bytes_eq verb (codes "return") then alone gesture.Return rest else
    (if bytes_eq verb (codes "rubout") then alone gesture.Rubout rest else
    (if bytes_eq verb (codes "clear") then alone gesture.Clear rest else
    (if bytes_eq verb (codes "frame") then alone gesture.Frame rest else
    (if bytes_eq verb (codes "inks") then alone gesture.Inks rest else
    (if bytes_eq verb (codes "force") then alone gesture.Force rest else
    (if bytes_eq verb (codes "history") then asking rest else
    (if bytes_eq verb (codes "stroke") then pressing rest else
    (if bytes_eq verb (codes "type") then typing rest else
    (if bytes_eq verb (codes "point") then pointing rest else bad)))))))))

-- what a line says, byte for byte
abbrev pub says : List ℕ → LineKind
says bytes = if is_idle bytes then idle else verb_says (verb_of bytes) (rest_of bytes)

-- what a piece of the stream says; one that was cut is no line of the grammar, whatever it holds
abbrev pub kind_of : Piece → LineKind
kind_of (line bytes) = says (without_return bytes)
kind_of (long bytes) = bad

-- ---- law of the grammar

-- a byte from 32 to 126
abbrev pub IsPrintable : ℕ → Type 0
IsPrintable byte = (32 ≤ byte) × (byte ≤ 126)

-- a byte is no space
abbrev pub IsNoSpace : ℕ → Type 0
IsNoSpace byte = byte ≢ 32

-- a text that can be typed: 1 or more bytes from 32 to 126
abbrev pub IsTypable : List ℕ → Type 0
IsTypable text = (0 < length text) × All IsPrintable text

-- a name: 1 or more bytes without a space
abbrev pub IsWord : List ℕ → Type 0
IsWord name = (0 < length name) × All IsNoSpace name

-- `point`, the pane, a word that names the gesture, and two words that write the column and the row
pub record SpellsPoint (bytes : List ℕ) (point : PointAt) : Type 0 where
  pub gesture_word : List ℕ
  pub x_word : List ℕ
  pub y_word : List ℕ
  pub spelled : bytes ≡ codes "point " ++ (point.pane ++ 32 ∷ (gesture_word ++ 32 ∷ (x_word ++ 32 ∷ y_word)))
  pub pane : IsWord point.pane
  pub named : IsNameOf point.gesture gesture_word
  pub x : WritesCoordinate x_word point.x
  pub y : WritesCoordinate y_word point.y

-- the line is a spelling of the gesture
abbrev pub IsSpelling : List ℕ → Gesture → Type 0
IsSpelling bytes gesture.Return = bytes ≡ codes "return"
IsSpelling bytes gesture.Rubout = bytes ≡ codes "rubout"
IsSpelling bytes gesture.Clear = bytes ≡ codes "clear"
IsSpelling bytes gesture.Frame = bytes ≡ codes "frame"
IsSpelling bytes gesture.Inks = bytes ≡ codes "inks"
IsSpelling bytes gesture.Force = bytes ≡ codes "force"
IsSpelling bytes (gesture.History name) = (bytes ≡ codes "history " ++ name) × IsWord name
IsSpelling bytes (gesture.Stroke name) = (bytes ≡ codes "stroke " ++ name) × IsWord name
IsSpelling bytes (gesture.«Type» text) = (bytes ≡ codes "type " ++ text) × IsTypable text
IsSpelling bytes (gesture.Point point) = SpellsPoint bytes point

-- a line does a gesture exactly where it is a spelling of that gesture
abbrev pub AreSpelled : Type 0
AreSpelled = (bytes : List ℕ) (g : Gesture) → (says bytes ≡ does g) ↔ IsSpelling bytes g
