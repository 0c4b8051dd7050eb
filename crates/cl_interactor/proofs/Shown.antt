-- How a terminal shows the rows below a screen.
use Rattle.std.proofs.Common.{◌≡◌, ℕ, zero, suc, ◌+◌, ◌-◌, ◌<◌, ◌≤◌, ◌⊎◌, ◌^◌, inl, inr, List, [], ◌∷◌, ◌++◌, None, length, map, take, refl, sym, subst, ◌∙◌, ap, arith, append_assoc, append-nil, All}
use Rattle.std.proofs.lemmas.Bool.Decides.{nat_tests}
use Rattle.std.proofs.lemmas.List.Elements.{All-cons, All-nil}
use Rattle.std.specs.Fmt.{decimal, digits}
use Rattle.std.specs.List.{after_first, before_first}
use Rattle.std.specs.Prelude.{◌&&◌, ◌==◌, codes, nat_le, slice_index, if◌then◌else◌}
use Rattle.cl_outside.specs.Device.{IsGlyph, in_span}
use Rattle.cl_ansi.specs.Screen.{Screen, erased_from, put, shown}
use Rattle.cl_ansi.specs.Sequences.{csi}
use Rattle.cl_ansi.proofs.Glyphs.{put_column, put_glyphs, put_inks, putting}
use Rattle.cl_ansi.proofs.Sequences.{glyphs_stand, moved}
use Rattle.cl_interactor.specs.Laws.{AllRowsShow, KeepsOutside, ShowsInteractor, ShowsRow, line_in, row_text}
use Rattle.cl_interactor.specs.Rows.{interactor_bytes, is_feed, last_bytes, reply_rows, row_bytes, shown_byte}

-- ---- one row

byte_is_glyph : (b : ℕ) → IsGlyph (shown_byte b)
byte_is_glyph b = grind (arith, nat_tests)

glyphs_are : (bytes : List ℕ) → All IsGlyph (map shown_byte bytes)
glyphs_are [] = All-nil IsGlyph
glyphs_are (b ∷ bytes) = All-cons IsGlyph (shown_byte b) (map shown_byte bytes) (byte_is_glyph b) (glyphs_are bytes)

-- the cursor stands at the start of a row
abbrev at_row : Screen → ℕ → Screen
at_row s y = record s { column = 0; row = y; sequence = None }

-- what stands behind the cursor in its row is erased
abbrev erased : Screen → Screen
erased s = record s { glyph_at = erased_from s.column s.row 32 s.glyph_at; ink_at = erased_from s.column s.row 0 s.ink_at; sequence = None }

-- the screen behind a row
abbrev pub with_row : Screen → ℕ → List ℕ → Screen
with_row s y text = erased (putting (at_row s y) (row_text text))

first_column : codes "1" ≡ decimal (0 + 1)
unfolding digits
first_column = refl

pub row_shown : (s : Screen) (y : ℕ) (text rest : List ℕ) → y < 2 ^ 16 → shown s (row_bytes y text ++ rest) ≡ shown (with_row s y text) rest
row_shown s y text rest below =
    let behind : List ℕ = row_text text ++ (csi (codes "K") ++ rest) in
    let moving : List ℕ → List ℕ = λ column. csi (decimal (y + 1) ++ (codes ";" ++ (column ++ codes "H"))) ++ behind in
    let grouped : row_bytes y text ++ rest ≡ moving (codes "1") = simp append_assoc in
    ap (shown s) (grouped ∙ ap moving first_column) ∙ moved s 0 y behind (omega arith) below
    ∙ glyphs_stand (at_row s y) (row_text text) (csi (codes "K") ++ rest) (glyphs_are (take 78 text))

putting_row : (glyphs : List ℕ) (s : Screen) → (putting s glyphs).row ≡ s.row
putting_row [] s = refl
putting_row (glyph ∷ glyphs) s = putting_row glyphs (put s glyph)

-- what stands where, in a row of so many glyphs whose rest is erased
cell_here : (y n x v value blank old : ℕ) → v ≡ y → x < n → (if v == y && nat_le n x then blank else (if in_span 0 y n x v then value else old)) ≡ value
cell_here y n x v value blank old here inside = grind (arith, nat_tests)

cell_behind : (y n x v value blank old : ℕ) → v ≡ y → n ≤ x → (if v == y && nat_le n x then blank else (if in_span 0 y n x v then value else old)) ≡ blank
cell_behind y n x v value blank old here behind = grind (arith, nat_tests)

cell_beside : (y n x v value blank old : ℕ) → (v < y) ⊎ (y + 1 ≤ v) → (if v == y && nat_le n x then blank else (if in_span 0 y n x v then value else old)) ≡ old
cell_beside y n x v value blank old beside = grind (arith, nat_tests)

module _ (s : Screen) (y : ℕ) (text : List ℕ) where
  row_column : (putting (at_row s y) (row_text text)).column ≡ length (row_text text)
  row_column = omega (arith, put_column (at_row s y) (row_text text))

  row_row : (putting (at_row s y) (row_text text)).row ≡ y
  row_row = putting_row (row_text text) (at_row s y)

  row_glyph : (x v : ℕ) → (with_row s y text).glyph_at x v
      ≡ (if v == y && nat_le (length (row_text text)) x then 32 else (if in_span 0 y (length (row_text text)) x v then slice_index (row_text text) (x - 0) else s.glyph_at x v))
  row_glyph x v =
      let put = putting (at_row s y) (row_text text) in
      ap (λ (n : ℕ). if v == put.row && nat_le n x then 32 else put.glyph_at x v) row_column
      ∙ ap (λ (r : ℕ). if v == r && nat_le (length (row_text text)) x then 32 else put.glyph_at x v) row_row
      ∙ ap (λ (b : ℕ). if v == y && nat_le (length (row_text text)) x then 32 else b) (put_glyphs (at_row s y) (row_text text) x v)

  row_ink : (x v : ℕ) → (with_row s y text).ink_at x v
      ≡ (if v == y && nat_le (length (row_text text)) x then 0 else (if in_span 0 y (length (row_text text)) x v then s.ink else s.ink_at x v))
  row_ink x v =
      let put = putting (at_row s y) (row_text text) in
      ap (λ (n : ℕ). if v == put.row && nat_le n x then 0 else put.ink_at x v) row_column
      ∙ ap (λ (r : ℕ). if v == r && nat_le (length (row_text text)) x then 0 else put.ink_at x v) row_row
      ∙ ap (λ (b : ℕ). if v == y && nat_le (length (row_text text)) x then 0 else b) (put_inks (at_row s y) (row_text text) x v)

  pub row_shows : ShowsRow (with_row s y text) y (row_text text)
  row_shows = record {
    text = λ x inside.
        let here : x - 0 ≡ x = omega arith in
        row_glyph x y ∙ cell_here y (length (row_text text)) x y (slice_index (row_text text) (x - 0)) 32 (s.glyph_at x y) refl inside
        ∙ ap (slice_index (row_text text)) here;
    blank = λ x behind. row_glyph x y ∙ cell_behind y (length (row_text text)) x y (slice_index (row_text text) (x - 0)) 32 (s.glyph_at x y) refl behind;
  }

  pub row_keeps : KeepsOutside y (y + 1) s (with_row s y text)
  row_keeps = record {
    glyphs = λ x v beside. row_glyph x v ∙ cell_beside y (length (row_text text)) x v (slice_index (row_text text) (x - 0)) 32 (s.glyph_at x v) beside;
    inks = λ x v beside. row_ink x v ∙ cell_beside y (length (row_text text)) x v s.ink 0 (s.ink_at x v) beside;
  }

-- ---- rows one after another

keeps_nothing : (from : ℕ) (s : Screen) → KeepsOutside from from s s
keeps_nothing from s = record { glyphs = λ x y h. refl; inks = λ x y h. refl }

wider : (from to a b y : ℕ) → from ≤ a → b ≤ to → (y < from) ⊎ (to ≤ y) → (y < a) ⊎ (b ≤ y)
wider from to a b y lower upper (inl h) = inl (omega (arith, lower, h))
wider from to a b y lower upper (inr h) = inr (omega (arith, upper, h))

-- what both keep is kept
pub keeps_both : (from to a b c d : ℕ) (s t u : Screen) → from ≤ a → b ≤ to → from ≤ c → d ≤ to → KeepsOutside a b s t → KeepsOutside c d t u
    → KeepsOutside from to s u
keeps_both from to a b c d s t u a_in b_in c_in d_in first next = record {
  glyphs = λ x y h. next.glyphs x y (wider from to c d y c_in d_in h) ∙ first.glyphs x y (wider from to a b y a_in b_in h);
  inks = λ x y h. next.inks x y (wider from to c d y c_in d_in h) ∙ first.inks x y (wider from to a b y a_in b_in h);
}

-- a row that is kept shows what it did
pub still_shows : (from to y : ℕ) (glyphs : List ℕ) (s t : Screen) → (y < from) ⊎ (to ≤ y) → KeepsOutside from to s t → ShowsRow s y glyphs → ShowsRow t y glyphs
still_shows from to y glyphs s t beside keeps row = record {
  text = λ x inside. keeps.glyphs x y beside ∙ row.text x inside;
  blank = λ x behind. keeps.glyphs x y beside ∙ row.blank x behind;
}

-- the screen behind rows of replies
abbrev pub with_replies : Screen → (y rows : ℕ) → List ℕ → Screen
with_replies s y zero lines = s
with_replies s y (suc rows) lines = with_replies (with_row s y (before_first is_feed lines)) (y + 1) rows (after_first is_feed lines)

pub replies_shown : (s : Screen) (y rows : ℕ) (lines rest : List ℕ) → y + rows < 2 ^ 16
    → shown s (reply_rows y rows lines ++ rest) ≡ shown (with_replies s y rows lines) rest
replies_shown s y zero lines rest below = refl
replies_shown s y (suc rows) lines rest below =
    let first = before_first is_feed lines in
    let more = after_first is_feed lines in
    ap (shown s) (append_assoc (row_bytes y first) (reply_rows (y + 1) rows more) rest)
    ∙ row_shown s y first (reply_rows (y + 1) rows more ++ rest) (omega (arith, below))
    ∙ replies_shown (with_row s y first) (y + 1) rows more rest (omega (arith, below))

pub replies_keep : (s : Screen) (y rows : ℕ) (lines : List ℕ) → KeepsOutside y (y + rows) s (with_replies s y rows lines)
replies_keep s y zero lines = subst (λ (n : ℕ). KeepsOutside y n s s) (omega arith) (keeps_nothing y s)
replies_keep s y (suc rows) lines =
    let first = before_first is_feed lines in
    let more = after_first is_feed lines in
    keeps_both y (y + suc rows) y (y + 1) (y + 1) (y + 1 + rows) s (with_row s y first) (with_replies (with_row s y first) (y + 1) rows more)
    (omega arith) (omega arith) (omega arith) (omega arith) (row_keeps s y first) (replies_keep (with_row s y first) (y + 1) rows more)

pub reply_shows : (s : Screen) (y rows : ℕ) (lines : List ℕ) (n : ℕ) → n < rows → ShowsRow (with_replies s y rows lines) (y + n) (row_text (line_in n lines))
reply_shows s y zero lines n h = absurd (omega (arith, h))
reply_shows s y (suc rows) lines zero h =
    let first = before_first is_feed lines in
    let more = after_first is_feed lines in
    subst (λ (v : ℕ). ShowsRow (with_replies (with_row s y first) (y + 1) rows more) v (row_text first)) (omega arith)
    (still_shows (y + 1) (y + 1 + rows) y (row_text first) (with_row s y first) (with_replies (with_row s y first) (y + 1) rows more) (inl (omega arith))
    (replies_keep (with_row s y first) (y + 1) rows more) (row_shows s y first))
reply_shows s y (suc rows) lines (suc n) h =
    let first = before_first is_feed lines in
    let more = after_first is_feed lines in
    subst (λ (v : ℕ). ShowsRow (with_replies (with_row s y first) (y + 1) rows more) v (row_text (line_in n more))) (omega arith)
    (reply_shows (with_row s y first) (y + 1) rows more n (omega (arith, h)))

-- ---- all rows

module _ (s : Screen) (height : ℕ) (typed expected replies : List ℕ) (low : height ≤ 256) where
  abbrev line : List ℕ
  line = codes "> " ++ last_bytes typed

  abbrev asked : Screen
  asked = with_row s (height + 1) expected

  abbrev replied : Screen
  replied = with_replies asked (height + 2) 4 replies

  abbrev whole : Screen
  whole = with_row replied height line

  interactor_shown : shown s (interactor_bytes height typed expected replies) ≡ whole
  interactor_shown =
      row_shown s (height + 1) expected (reply_rows (height + 2) 4 replies ++ row_bytes height line) (omega (arith, low))
      ∙ replies_shown asked (height + 2) 4 replies (row_bytes height line) (omega (arith, low))
      ∙ ap (shown replied) (sym (append-nil (row_bytes height line)))
      ∙ row_shown replied height line [] (omega (arith, low))

  above_replies : KeepsOutside (height + 1) (height + 6) s replied
  above_replies =
      keeps_both (height + 1) (height + 6) (height + 1) (height + 1 + 1) (height + 2) (height + 2 + 4) s asked replied
      (omega arith) (omega arith) (omega arith) (omega arith) (row_keeps s (height + 1) expected) (replies_keep asked (height + 2) 4 replies)

  whole_shows : ShowsInteractor height typed expected replies s whole
  whole_shows = record {
    keeps = keeps_both height (height + 6) (height + 1) (height + 6) height (height + 1) s replied whole
        (omega arith) (omega arith) (omega arith) (omega arith) above_replies (row_keeps replied height line);
    typed_row = row_shows replied height line;
    expected_row = still_shows height (height + 1) (height + 1) (row_text expected) replied whole (inr (omega arith)) (row_keeps replied height line)
        (still_shows (height + 2) (height + 2 + 4) (height + 1) (row_text expected) asked replied (inl (omega arith)) (replies_keep asked (height + 2) 4 replies)
        (row_shows s (height + 1) expected));
    reply_rows = λ n h. still_shows height (height + 1) (height + 2 + n) (row_text (line_in n replies)) replied whole (inr (omega arith))
        (row_keeps replied height line) (reply_shows asked (height + 2) 4 replies n h);
    row = row_row replied height line;
    column = row_column replied height line;
  }

pub all_rows_show : AllRowsShow
all_rows_show s height typed expected replies low =
    subst (λ (t : Screen). ShowsInteractor height typed expected replies s t) (sym (interactor_shown s height typed expected replies low))
    (whole_shows s height typed expected replies low)
