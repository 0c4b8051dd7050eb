-- What a terminal shows of all bytes that it was sent.
use Rattle.std.proofs.Common.{◌≡◌, ℕ, ◌<◌, ◌^◌, Bool, false, true, Option, None, Some, is_some, List, [], ◌∷◌, ◌++◌, refl, sym, subst, ◌∙◌, ap}
use Rattle.std.specs.Io.KnownBytes.{Appends}
use Rattle.std.specs.Prelude.{◌||◌}
use Rattle.cl_outside.specs.Device.{Blanks, IsSpan, PaintsWhereCleared, SpanSent}
use Rattle.cl_outside.specs.Lent.{Lent}
use Rattle.cl_outside.specs.Writing.{Says}
use Rattle.cl_outside.specs.declared.answers.Sent.{Sent}
use Rattle.cl_outside.specs.declared.answers.Sent.TheVariants.{Done, Failed}
use Rattle.cl_ansi.specs.Screen.{Screen, blank_screen, part_of, shown, with_byte}
use Rattle.cl_ansi.specs.Sequences.{clear_bytes}
use Rattle.cl_ansi.specs.Terminal.{Clears, IsTelling, Terminal, Writes, picture_in, picture_of, screen_of, shown_bytes}
use Rattle.cl_ansi.proofs.Screens.{clears_blank, spans_paint}

-- bytes, and then others
pub shown_append : (s : Screen) (front back : List ℕ) → shown s (front ++ back) ≡ shown (shown s front) back
shown_append s [] back = refl
shown_append s (b ∷ front) back = shown_append (with_byte s b) front back

-- a screen that was told shows more bytes
pub screen_grown : (old new : Option (List ℕ)) (bytes : List ℕ) → is_some old ≡ true → Appends old new bytes → screen_of new ≡ shown (screen_of old) bytes
screen_grown None new bytes some sent = absurd (cc)
screen_grown (Some before) None bytes some sent = absurd sent
screen_grown (Some before) (Some after) bytes some sent = ap (shown blank_screen) sent ∙ shown_append blank_screen before bytes

-- ---- a sink that tells its bytes goes on with it

appended_tells : (old new : Option (List ℕ)) (bytes : List ℕ) → is_some old ≡ true → Appends old new bytes → is_some new ≡ true
appended_tells None new bytes some sent = absurd (cc)
appended_tells (Some before) None bytes some sent = absurd sent
appended_tells (Some before) (Some after) bytes some sent = refl

said_tells : (whole : Bool) (old new : Option (List ℕ)) (bytes : List ℕ) (x y : ℕ) → is_some old ≡ true → Says whole old new bytes x y → is_some new ≡ true
said_tells true old new bytes x y some says = appended_tells old new bytes some says
said_tells false old new bytes x y some says = appended_tells old new says.wrote.sent some says.wrote.appended

pub still_tells : (a b : Lent) (whole : Bool) (old new : Option (List ℕ)) (bytes : List ℕ) (x y : ℕ) → b ≡ a → IsTelling a.told old → Says whole old new bytes x y
    → IsTelling b.told new
still_tells a b whole old new bytes x y lent tells says = λ told. said_tells whole old new bytes x y (tells (sym (ap (λ (l : Lent). l.told) lent) ∙ told)) says

-- ---- the operations

-- a screen that was cleared is blank
pub blank_told : (told : Bool) (old new : Option (List ℕ)) (width height : ℕ) → IsTelling told old → Appends old new clear_bytes
    → Blanks width height (picture_in told new width height)
blank_told false old new width height tells sent = tt
blank_told true old new width height tells sent =
    subst (λ (s : Screen). Blanks width height (Some (part_of s width height))) (sym (screen_grown old new clear_bytes (tells refl) sent))
    (clears_blank.blank (screen_of old) width height)

paints_untold : (cleared : Bool) (x y ink : ℕ) (glyphs : List ℕ) → PaintsWhereCleared cleared None None x y ink glyphs
paints_untold true x y ink glyphs = tt
paints_untold false x y ink glyphs = refl

-- a span is painted where the terminal was cleared, and else nothing is sent
paints_cleared : (cleared : Bool) (t : Terminal) (s : Screen) (x y ink : ℕ) (glyphs : List ℕ) → t.cleared ≡ cleared → x < 2 ^ 16 → y < 2 ^ 16 → IsSpan ink glyphs
    → PaintsWhereCleared cleared (Some (part_of s t.width t.height)) (Some (part_of (shown s (shown_bytes t x y ink glyphs)) t.width t.height)) x y ink glyphs
paints_cleared true t s x y ink glyphs e below_x below_y span = (spans_paint t s x y ink glyphs below_x below_y span).painted e
paints_cleared false t s x y ink glyphs e below_x below_y span = rw e refl

pub paints_told : (told : Bool) (t : Terminal) (new : Option (List ℕ)) (x y ink : ℕ) (glyphs : List ℕ) → IsTelling told t.taken → x < 2 ^ 16 → y < 2 ^ 16
    → IsSpan ink glyphs → Appends t.taken new (shown_bytes t x y ink glyphs)
    → PaintsWhereCleared t.cleared (picture_in told t.taken t.width t.height) (picture_in told new t.width t.height) x y ink glyphs
paints_told false t new x y ink glyphs tells below_x below_y span sent = paints_untold t.cleared x y ink glyphs
paints_told true t new x y ink glyphs tells below_x below_y span sent =
    subst (λ (s : Screen). PaintsWhereCleared t.cleared (picture_in true t.taken t.width t.height) (Some (part_of s t.width t.height)) x y ink glyphs)
    (sym (screen_grown t.taken new (shown_bytes t x y ink glyphs) (tells refl) sent))
    (paints_cleared t.cleared t (screen_of t.taken) x y ink glyphs refl below_x below_y span)

-- ---- what was written

pub cleared_blank : (old new : Terminal) (width height : ℕ) → Writes old new clear_bytes Done → Blanks width height (picture_in new.told new.taken width height)
cleared_blank old new width height writes =
    subst (λ (told : Bool). Blanks width height (picture_in told new.taken width height)) (sym writes.told_is)
    (blank_told old.told old.taken new.taken width height writes.tells writes.sends)

true_behind : (b : Bool) → true ≡ (b || true)
true_behind true = refl
true_behind false = refl

pub cleared_whole : (old new : Terminal) (width height : ℕ) → Writes old new clear_bytes Done
    → Clears old (record new { broken = false; cleared = true; width = width; height = height }) width height Done
cleared_whole old new width height writes = record {
  told_is = writes.told_is;
  sends = writes.sends;
  cause = writes.cause;
  broken_is = refl;
  cleared_is = true_behind old.cleared;
  width_is = refl;
  height_is = refl;
}

pub span_told : (old new : Terminal) (x y ink : ℕ) (glyphs : List ℕ) → x < 2 ^ 16 → y < 2 ^ 16 → IsSpan ink glyphs
    → Writes old new (shown_bytes old x y ink glyphs) Done
    → PaintsWhereCleared old.cleared (picture_of old) (picture_of new) x y ink glyphs
span_told old new x y ink glyphs below_x below_y span writes =
    subst (λ (told : Bool). PaintsWhereCleared old.cleared (picture_of old) (picture_in told new.taken new.width new.height) x y ink glyphs) (sym writes.told_is)
    (subst (λ (width : ℕ). PaintsWhereCleared old.cleared (picture_of old) (picture_in old.told new.taken width new.height) x y ink glyphs) (sym writes.width_is)
    (subst (λ (height : ℕ). PaintsWhereCleared old.cleared (picture_of old) (picture_in old.told new.taken old.width height) x y ink glyphs) (sym writes.height_is)
    (paints_told old.told old new.taken x y ink glyphs writes.tells below_x below_y span writes.sends)))

-- a span of a terminal that is whole
pub span_sent : (old new : Terminal) (x y ink : ℕ) (glyphs : List ℕ) (sent : Sent) → x < 2 ^ 16 → y < 2 ^ 16 → IsSpan ink glyphs → old.broken ≡ false
    → Writes old new (shown_bytes old x y ink glyphs) sent
    → SpanSent old.cleared (picture_of old) (picture_of new) x y ink glyphs new.broken sent
span_sent old new x y ink glyphs Done below_x below_y span whole writes =
    (span_told old new x y ink glyphs below_x below_y span writes, writes.broken_is ∙ ap (λ b. b || false) whole)
span_sent old new x y ink glyphs Failed below_x below_y span whole writes = writes.broken_is ∙ ap (λ b. b || true) whole
