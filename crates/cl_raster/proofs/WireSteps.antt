-- What an operation that was sent whole does to the picture of a wire.
use Rattle.std.proofs.Common.{◌≡◌, ℕ, ◌<◌, ◌^◌, Bool, true, false, Option, None, Some, is_some, unwrap_or, List, [], ◌∷◌, length, refl, sym, ◌∙◌, ap, subst, arith, All}
use Rattle.std.proofs.lemmas.Bool.Decides.{nat_tests}
use Rattle.std.proofs.lemmas.List.Elements.{All-tail}
use Rattle.std.specs.Io.KnownBytes.{Appends}
use Rattle.std.specs.Prelude.{nat_le}
use Rattle.cl_outside.specs.Device.{Blanks, IsBlank, IsGlyph, IsSpan, PaintsWhereCleared, Picture}
use Rattle.cl_outside.specs.Operations.{Op, clears, shows, all_glyphs, mended, may_stand, op_bytes, op_line}
use Rattle.cl_outside.specs.Play.{Playing, acted, at_start, blank_picture, play, played, shown_picture, with_byte}
use Rattle.cl_raster.specs.Playback.{IsSize}
use Rattle.cl_raster.specs.Wires.{IsInStep, wire_picture}
use Rattle.cl_raster.proofs.Spelling.{no_feed-clear, no_feed-span, op_of-clear, op_of-span, played-append, played-line}

-- ---- operations that may stand

pub stands-clear : (w h : ℕ) → IsSize w h → may_stand (clears w h) ≡ true
stands-clear w h s = grind (arith, nat_tests, s)

all_glyphs-true : (bs : List ℕ) → All IsGlyph bs → all_glyphs bs ≡ true
all_glyphs-true [] h = refl
all_glyphs-true (b ∷ bs) h =
    let glyph : IsGlyph b = h 0 0 (omega arith) in
    let low : nat_le 32 b ≡ true = grind (arith, nat_tests, glyph) in
    let high : nat_le b 126 ≡ true = grind (arith, nat_tests, glyph) in
    rw (low, high) (all_glyphs-true bs (All-tail IsGlyph b bs h))

pub stands-span : (x y ink : ℕ) (glyphs : List ℕ) → IsSpan ink glyphs → may_stand (shows x y ink glyphs) ≡ true
stands-span x y ink glyphs s =
    let low : nat_le ink 7 ≡ true = grind (arith, nat_tests, s.0) in
    let some : nat_le 1 (length glyphs) ≡ true = grind (arith, nat_tests, s.1) in
    rw (low, some) (all_glyphs-true glyphs s.2)

-- ---- a line that was played

-- a blank picture, whatever was shown before
pub played-clear : (s : Playing) (w h : ℕ) → s.line ≡ [] → IsSize w h
    → played s (op_bytes (clears w h)) ≡ record { shown = Some (blank_picture w h); line = [] }
played-clear s w h e size =
    let below_w : w < 2 ^ 64 = omega (arith, size) in
    let below_h : h < 2 ^ 64 = omega (arith, size) in
    played-line s (op_line (clears w h)) e (no_feed-clear w h below_w below_h)
    ∙ ap (λ (o : Option Op). record { shown = acted s.shown o; line = [] }) (op_of-clear w h below_w below_h (stands-clear w h size))

pub played-mended : (s : Playing) (broken : Bool) (w h : ℕ) → (broken ≡ false → s.line ≡ []) → IsSize w h
    → played s (mended broken (op_bytes (clears w h))) ≡ record { shown = Some (blank_picture w h); line = [] }
played-mended s true w h e size = played-clear (with_byte s 10) w h refl size
played-mended s false w h e size = played-clear s w h (e refl) size

pub played-span : (s : Playing) (x y ink : ℕ) (glyphs : List ℕ) → s.line ≡ [] → x < 2 ^ 64 → y < 2 ^ 64 → IsSpan ink glyphs
    → played s (op_bytes (shows x y ink glyphs)) ≡ record { shown = acted s.shown (Some (shows x y ink glyphs)); line = [] }
played-span s x y ink glyphs e below_x below_y span =
    let below_ink : ink < 2 ^ 64 = omega (arith, span.0) in
    played-line s (op_line (shows x y ink glyphs)) e (no_feed-span x y ink glyphs below_x below_y below_ink span.2)
    ∙ ap (λ (o : Option Op). record { shown = acted s.shown o; line = [] })
    (op_of-span x y ink glyphs below_x below_y below_ink (stands-span x y ink glyphs span))

-- ---- a wire that grew

-- a told wire is played on
pub played-grown : (old new : Option (List ℕ)) (bytes : List ℕ) → is_some old ≡ true → Appends old new bytes
    → (is_some new ≡ true) × (played at_start (unwrap_or new []) ≡ played (played at_start (unwrap_or old [])) bytes)
played-grown None new bytes t a = absurd (grind (arith, t))
played-grown (Some xs) None bytes t a = absurd a
played-grown (Some xs) (Some ys) bytes t a = (refl, ap (played at_start) a ∙ played-append at_start xs bytes)

-- the state of a wire that is told behind a `clear`
pub cleared_state : (told broken cleared : Bool) (w h : ℕ) (old new : Option (List ℕ)) → IsInStep told broken cleared old → IsSize w h
    → Appends old new (mended broken (op_bytes (clears w h))) → told ≡ true
    → (is_some new ≡ true) × (played at_start (unwrap_or new []) ≡ record { shown = Some (blank_picture w h); line = [] })
cleared_state told broken cleared w h old new step size a t =
    let grown = played-grown old new (mended broken (op_bytes (clears w h))) (step.tells t) a in
    (grown.0, grown.1 ∙ played-mended (played at_start (unwrap_or old [])) broken w h (λ whole. (step.steady t whole).ended) size)

-- and behind a `span`
pub painted_state : (told cleared : Bool) (x y ink : ℕ) (glyphs : List ℕ) (old new : Option (List ℕ)) → IsInStep told false cleared old
    → x < 2 ^ 64 → y < 2 ^ 64 → IsSpan ink glyphs → Appends old new (op_bytes (shows x y ink glyphs)) → told ≡ true
    → (is_some new ≡ true) × (played at_start (unwrap_or new [])
    ≡ record { shown = acted (played at_start (unwrap_or old [])).shown (Some (shows x y ink glyphs)); line = [] })
painted_state told cleared x y ink glyphs old new step below_x below_y span a t =
    let grown = played-grown old new (op_bytes (shows x y ink glyphs)) (step.tells t) a in
    (grown.0, grown.1 ∙ played-span (played at_start (unwrap_or old [])) x y ink glyphs ((step.steady t refl).ended) below_x below_y span)

-- ---- a device in step

pub IsInStep-cleared : (told now broken cleared : Bool) (w h : ℕ) (old new : Option (List ℕ)) → now ≡ told → IsInStep told broken cleared old → IsSize w h
    → Appends old new (mended broken (op_bytes (clears w h))) → IsInStep now false true new
IsInStep-cleared told now broken cleared w h old new same step size a = record {
  tells = λ t. (cleared_state told broken cleared w h old new step size a (sym same ∙ t)).0;
  steady = λ t whole. let at = (cleared_state told broken cleared w h old new step size a (sym same ∙ t)).1 in
      record { ended = ap (λ (s : Playing). s.line) at; shown = ap (λ (s : Playing). is_some s.shown) at };
}

blanks_told : (told : Bool) (w h : ℕ) (taken : Option (List ℕ)) → (told ≡ true → (played at_start (unwrap_or taken [])).shown ≡ Some (blank_picture w h))
    → Blanks w h (wire_picture told false taken)
blanks_told true w h taken e =
    subst (λ (p : Picture). IsBlank w h p) (sym (ap shown_picture (e refl)))
    (record { width_is = refl; height_is = refl; glyph_is = λ x y less_x less_y. refl; ink_is = λ x y less_x less_y. refl })
blanks_told false w h taken e = tt

pub Blanks-cleared : (told now broken cleared : Bool) (w h : ℕ) (old new : Option (List ℕ)) → now ≡ told → IsInStep told broken cleared old → IsSize w h
    → Appends old new (mended broken (op_bytes (clears w h))) → Blanks w h (wire_picture now false new)
Blanks-cleared told now broken cleared w h old new same step size a =
    blanks_told now w h new
    (λ t. ap (λ (s : Playing). s.shown) (cleared_state told broken cleared w h old new step size a (sym same ∙ t)).1)

is_some-acted : (shown : Option Picture) (x y ink : ℕ) (glyphs : List ℕ) → is_some (acted shown (Some (shows x y ink glyphs))) ≡ is_some shown
is_some-acted None x y ink glyphs = refl
is_some-acted (Some p) x y ink glyphs = refl

pub IsInStep-painted : (told now cleared : Bool) (x y ink : ℕ) (glyphs : List ℕ) (old new : Option (List ℕ)) → now ≡ told → IsInStep told false cleared old
    → x < 2 ^ 64 → y < 2 ^ 64 → IsSpan ink glyphs → Appends old new (op_bytes (shows x y ink glyphs)) → IsInStep now false cleared new
IsInStep-painted told now cleared x y ink glyphs old new same step below_x below_y span a = record {
  tells = λ t. (painted_state told cleared x y ink glyphs old new step below_x below_y span a (sym same ∙ t)).0;
  steady = λ t whole. let at = (painted_state told cleared x y ink glyphs old new step below_x below_y span a (sym same ∙ t)).1 in
      record {
        ended = ap (λ (s : Playing). s.line) at;
        shown = ap (λ (s : Playing). is_some s.shown) at
            ∙ (is_some-acted (played at_start (unwrap_or old [])).shown x y ink glyphs ∙ (step.steady (sym same ∙ t) refl).shown);
      };
}

paints_acted : (cleared : Bool) (shown : Option Picture) (x y ink : ℕ) (glyphs : List ℕ) → is_some shown ≡ cleared
    → PaintsWhereCleared cleared (Some (shown_picture shown)) (Some (shown_picture (acted shown (Some (shows x y ink glyphs))))) x y ink glyphs
paints_acted true None x y ink glyphs h = absurd (grind (arith, h))
paints_acted false None x y ink glyphs h = refl
paints_acted true (Some p) x y ink glyphs h =
    record { width_is = refl; height_is = refl; glyph_is = λ u v less_u less_v. refl; ink_is = λ u v less_u less_v. refl }
paints_acted false (Some p) x y ink glyphs h = absurd (grind (arith, h))

paints_untold : (cleared : Bool) (x y ink : ℕ) (glyphs : List ℕ) → PaintsWhereCleared cleared None None x y ink glyphs
paints_untold true x y ink glyphs = tt
paints_untold false x y ink glyphs = refl

paints_told : (told cleared : Bool) (x y ink : ℕ) (glyphs : List ℕ) (old new : Option (List ℕ)) → IsInStep told false cleared old
    → (told ≡ true → (played at_start (unwrap_or new [])).shown ≡ acted (played at_start (unwrap_or old [])).shown (Some (shows x y ink glyphs)))
    → PaintsWhereCleared cleared (wire_picture told false old) (wire_picture told false new) x y ink glyphs
paints_told true cleared x y ink glyphs old new step e =
    subst (λ (shown : Option Picture). PaintsWhereCleared cleared (Some (play (unwrap_or old []))) (Some (shown_picture shown)) x y ink glyphs) (sym (e refl))
    (paints_acted cleared (played at_start (unwrap_or old [])).shown x y ink glyphs ((step.steady refl refl).shown))
paints_told false cleared x y ink glyphs old new step e = paints_untold cleared x y ink glyphs

pub Paints-sent : (told now broken cleared : Bool) (x y ink : ℕ) (glyphs : List ℕ) (old new : Option (List ℕ)) → now ≡ told → broken ≡ false
    → IsInStep told broken cleared old → x < 2 ^ 64 → y < 2 ^ 64 → IsSpan ink glyphs → Appends old new (op_bytes (shows x y ink glyphs))
    → PaintsWhereCleared cleared (wire_picture told broken old) (wire_picture now false new) x y ink glyphs
Paints-sent told now broken cleared x y ink glyphs old new same whole step below_x below_y span a =
    let here : IsInStep told false cleared old = rw whole at step in
    rw (same, whole) (paints_told told cleared x y ink glyphs old new here
    (λ t. ap (λ (s : Playing). s.shown) (painted_state told cleared x y ink glyphs old new here below_x below_y span a t).1))
