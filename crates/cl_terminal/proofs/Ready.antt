-- What a terminal still shows behind the rows below the screen, and that it shows the world.
use Rattle.std.proofs.Common.{◌≡◌, ◌⊎◌, ◌≤◌, ◌<◌, ◌+◌, ◌∙◌, ℕ, Bool, true, false, List, [], Option, ap, arith, inl, inr, refl, subst, sym}
use Rattle.std.specs.Prelude.{◌||◌}
use Rattle.cl_ansi.specs.Screen.{Screen, part_of, shown}
use Rattle.cl_ansi.specs.Terminal.{Terminal, Writes, picture_in, picture_of, screen_of}
use Rattle.cl_ansi.proofs.Pictures.{screen_grown}
use Rattle.cl_application.specs.Panes.{IsPlaced}
use Rattle.cl_application.specs.declared.applications.App.{App}
use Rattle.cl_eval.specs.Slots.{Slots}
use Rattle.cl_frame.specs.Ground.{Ground}
use Rattle.cl_frame.specs.Frames.{IsFrameOf}
use Rattle.cl_frame.proofs.ShownFrames.{cells_shown}
use Rattle.cl_interactor.specs.Expected.{expected_words}
use Rattle.cl_interactor.specs.Laws.{KeepsOutside}
use Rattle.cl_interactor.specs.Typed.{typed_so_far}
use Rattle.cl_interactor.proofs.Shown.{all_rows_show}
use Rattle.cl_outside.specs.Memory.{MemorySink}
use Rattle.cl_outside.specs.declared.answers.Sent.TheVariants.{Done}
use Rattle.cl_raster.specs.Raster.{Picture}
use Rattle.cl_redisplay.specs.Screens.{Agree, Follows, HasCells, Mirrors}
use Rattle.cl_session.specs.Naming.{sight_in}
use Rattle.cl_session.specs.Session.{world_of}
use Rattle.cl_session.specs.World.{World}
use Rattle.cl_session.specs.declared.sessions.Session.{Session}
use Rattle.cl_terminal.specs.Live.{IsReady}
use Rattle.cl_terminal.specs.Running.{ShowsAt, ShowsWorld}
use Rattle.cl_terminal.specs.Serving.{IsReadyAt, IsReadyBehind, closing_of}
use Rattle.cl_terminal.specs.Showing.{Shows, rows_in, said_bytes}
use Rattle.cl_terminal.specs.declared.flows.Closing.{Closing}
use Rattle.cl_terminal.specs.declared.flows.Closing.TheVariants as closing
use Rattle.cl_terminal.specs.declared.flows.Flow.{Flow}
use Rattle.cl_terminal.specs.declared.flows.Flow.TheVariants as flow

-- ---- the rows below the screen

no_bytes : (height : ℕ) (s : Screen) → KeepsOutside height height s s
no_bytes height s = record { glyphs = λ x y h. refl; inks = λ x y h. refl }

-- bytes that show the rows keep what stands above them
rows_keep : (app : App) (w : World) (said : Option MemorySink) (bytes : List ℕ) (s : Screen) → app.frame.height ≤ 256
    → (bytes ≡ rows_in app w said) ⊎ (bytes ≡ []) → (to : ℕ) × KeepsOutside app.frame.height to s (shown s bytes)
rows_keep app w said bytes s low (inl e) = (
  app.frame.height + 6,
  subst (λ (bs : List ℕ). KeepsOutside app.frame.height (app.frame.height + 6) s (shown s bs)) (sym e)
      (all_rows_show s app.frame.height (typed_so_far w.line) (expected_words app (sight_in app) w.line w.dialog) (said_bytes said) low).keeps,
)
rows_keep app w said bytes s low (inr e) =
    (app.frame.height, subst (λ (bs : List ℕ). KeepsOutside app.frame.height app.frame.height s (shown s bs)) (sym e) (no_bytes app.frame.height s))

-- a screen that was kept above a height shows the cells of a picture of that height
kept_cells : (height to : ℕ) (p : Picture) (s t : Screen) (columns rows : ℕ) → p.height ≡ height → KeepsOutside height to s t → HasCells p (part_of s columns rows)
    → HasCells p (part_of t columns rows)
kept_cells height to p s t columns rows same keeps has = record {
  width = has.width;
  height = has.height;
  cells = λ x y column row.
      let above : y < height = omega (arith, same, row) in
      ap (λ (glyph : ℕ). record { glyph = glyph; ink = t.ink_at x y }) (keeps.glyphs x y (inl above))
      ∙ ap (λ (ink : ℕ). record { glyph = s.glyph_at x y; ink = ink }) (keeps.inks x y (inl above))
      ∙ has.cells x y column row;
}

module _ (app : App) (w : World) (said : Option MemorySink) (p : Picture) (low : app.frame.height ≤ 256) (same : p.height ≡ app.frame.height) where
  mirrors_told : (told : Bool) (old new : Terminal) (bytes : List ℕ) → old.told ≡ told → Writes old new bytes Done
      → (bytes ≡ rows_in app w said) ⊎ (bytes ≡ []) → Mirrors p (picture_in told old.taken old.width old.height)
      → Mirrors p (picture_in told new.taken old.width old.height)
  mirrors_told false old new bytes e writes rows mirrors = tt
  mirrors_told true old new bytes e writes rows mirrors =
      let keeps = rows_keep app w said bytes (screen_of old.taken) low rows in
      subst (λ (s : Screen). HasCells p (part_of s old.width old.height)) (sym (screen_grown old.taken new.taken bytes (writes.tells e) writes.sends))
      (kept_cells app.frame.height keeps.0 p (screen_of old.taken) (shown (screen_of old.taken) bytes) old.width old.height same keeps.1 mirrors)

  mirrors_still : (old new : Terminal) (bytes : List ℕ) → Writes old new bytes Done → (bytes ≡ rows_in app w said) ⊎ (bytes ≡ [])
      → Mirrors p (picture_of old) → Mirrors p (picture_of new)
  mirrors_still old new bytes writes rows mirrors =
      subst (λ (told : Bool). Mirrors p (picture_in told new.taken new.width new.height)) (sym writes.told_is)
      (subst (λ (width : ℕ). Mirrors p (picture_in old.told new.taken width new.height)) (sym writes.width_is)
      (subst (λ (height : ℕ). Mirrors p (picture_in old.told new.taken old.width height)) (sym writes.height_is)
      (mirrors_told old.told old new bytes refl writes rows mirrors)))

  follows_still : (old new : Terminal) (bytes : List ℕ) → Writes old new bytes Done → (bytes ≡ rows_in app w said) ⊎ (bytes ≡ [])
      → Follows p old.broken old.cleared (picture_of old) → Follows p new.broken new.cleared (picture_of new)
  follows_still old new bytes writes rows follows = record {
    whole = writes.broken_is ∙ ap (λ (b : Bool). b || false) follows.whole;
    begun = writes.cleared_is ∙ follows.begun;
    mirrors = mirrors_still old new bytes writes rows follows.mirrors;
  }

  agree_still : (stale : Bool) (old new : Terminal) (bytes : List ℕ) → Writes old new bytes Done → (bytes ≡ rows_in app w said) ⊎ (bytes ≡ [])
      → Agree stale p old.broken old.cleared (picture_of old) → Agree stale p new.broken new.cleared (picture_of new)
  agree_still true old new bytes writes rows agree = tt
  agree_still false old new bytes writes rows agree = follows_still old new bytes writes rows agree

-- a session is ready behind the rows below its screen
pub rows_ready : (g : Ground) (slots : Slots) (session : Session) (w : World) (said : Option MemorySink) (old new : Terminal) → IsPlaced g.app.frame
    → IsReady g slots session old → Shows g.app w said old new Done → IsReady g slots session new
rows_ready g slots session w said old new placed ready shows = record {
  fits = ready.fits;
  agree = agree_still g.app w said session.frame.screen.raster placed.rows.1 ready.fits.frame.height session.frame.screen.stale old new shows.bytes
      shows.writes shows.rows ready.agree;
  breaks = λ stale. shows.writes.broken_is ∙ ap (λ (b : Bool). b || false) (ready.breaks stale);
}

-- ---- how serving goes on

pub ready_behind : (g : Ground) (slots : Slots) (session : Session) (t : Terminal) (f : Flow) → IsReady g slots session t
    → IsReadyBehind g slots session t (closing_of f)
ready_behind g slots session t flow.On ready = ready
ready_behind g slots session t flow.End ready = ready
ready_behind g slots session t flow.Fault ready = tt

-- ---- the world

cells_of : (app : App) (w : World) (p : Picture) (told : Bool) (t : Terminal) → t.told ≡ told → told ≡ true → Mirrors p (picture_in told t.taken t.width t.height)
    → HasCells p (part_of (screen_of t.taken) t.width t.height)
cells_of app w p true t e is mirrors = mirrors
cells_of app w p false t e is mirrors = absurd (cc)

whole_follows : (stale : Bool) (p : Picture) (t : Terminal) → stale ≡ false → Agree stale p t.broken t.cleared (picture_of t)
    → Follows p t.broken t.cleared (picture_of t)
whole_follows true p t e agree = absurd (cc)
whole_follows false p t e agree = agree

pub ready_shows : (g : Ground) (slots : Slots) (session : Session) (t : Terminal) → IsReady g slots session t → session.frame.screen.stale ≡ false
    → ShowsWorld g.app (world_of session slots) t
ready_shows g slots session t ready fresh = λ told.
    let p = session.frame.screen.raster in
    let follows = whole_follows session.frame.screen.stale p t fresh ready.agree in
    let has = cells_of g.app (world_of session slots) p t.told t refl told follows.mirrors in
    let frame : IsFrameOf g.app session.frame = ready.fits.frame in
    record {
      width_is = refl;
      height_is = refl;
      cells = λ x y column row.
          has.cells x y (omega (arith, frame.width, column)) (omega (arith, frame.height, row)) ∙ cells_shown g.app session.frame x y frame column row;
    }

pub shows_at : (g : Ground) (slots : Slots) (session : Session) (t : Terminal) (how : Closing) → IsReadyAt g slots session t how
    → ShowsAt g.app (world_of session slots) t how
shows_at g slots session t closing.Done ready = ready_shows g slots session t ready
shows_at g slots session t closing.ReadFault ready = ready_shows g slots session t ready
shows_at g slots session t closing.OutputFault ready = tt
shows_at g slots session t closing.TooLong ready = ready_shows g slots session t ready
