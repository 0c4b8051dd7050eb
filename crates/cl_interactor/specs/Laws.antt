-- What a terminal shows of the rows below a screen.
use Rattle.std.specs.Prelude.{◌≡◌, ℕ, zero, suc, ◌+◌, ◌<◌, ◌≤◌, ◌⊎◌, List, ◌++◌, codes, length, map, slice_index, take}
use Rattle.std.specs.List.{after_first, before_first}
use Rattle.cl_ansi.specs.Screen.{Screen, shown}
use Rattle.cl_interactor.specs.Rows.{interactor_bytes, is_feed, last_bytes, shown_byte}

-- a text as a row shows it
abbrev pub row_text : List ℕ → List ℕ
row_text text = map shown_byte (take 78 text)

-- the line in this place, counted from 0
abbrev pub line_in : ℕ → List ℕ → List ℕ
line_in zero lines = before_first is_feed lines
line_in (suc n) lines = line_in n (after_first is_feed lines)

-- the line that is typed, as its row shows it
abbrev pub typed_text : List ℕ → List ℕ
typed_text typed = row_text (codes "> " ++ last_bytes typed)

-- row y shows these glyphs, and nothing behind them
pub record ShowsRow (s : Screen) (y : ℕ) (glyphs : List ℕ) : Type 0 where
  pub text : (x : ℕ) → x < length glyphs → s.glyph_at x y ≡ slice_index glyphs x
  pub blank : (x : ℕ) → length glyphs ≤ x → s.glyph_at x y ≡ 32

-- the rows before one of them, and those from another one on, show what they did
pub record KeepsOutside (from to : ℕ) (old new : Screen) : Type 0 where
  pub glyphs : (x y : ℕ) → (y < from) ⊎ (to ≤ y) → new.glyph_at x y ≡ old.glyph_at x y
  pub inks : (x y : ℕ) → (y < from) ⊎ (to ≤ y) → new.ink_at x y ≡ old.ink_at x y

-- the six rows below a screen of this height show the line that is typed, what is expected and the first four lines of the replies, whatever they
-- showed before; nothing else changes, and the cursor stands behind what was typed
pub record ShowsInteractor (height : ℕ) (typed expected replies : List ℕ) (old new : Screen) : Type 0 where
  pub keeps : KeepsOutside height (height + 6) old new
  pub typed_row : ShowsRow new height (typed_text typed)
  pub expected_row : ShowsRow new (height + 1) (row_text expected)
  pub reply_rows : (n : ℕ) → n < 4 → ShowsRow new (height + 2 + n) (row_text (line_in n replies))
  pub row : new.row ≡ height
  pub column : new.column ≡ length (typed_text typed)

-- so it is for each height that a frame may have
abbrev pub AllRowsShow : Type 0
AllRowsShow = (s : Screen) (height : ℕ) (typed expected replies : List ℕ) → height ≤ 256
    → ShowsInteractor height typed expected replies s (shown s (interactor_bytes height typed expected replies))
