-- What is told of a frame and of its panes.
use Rattle.std.proofs.Common.{◌≡◌, ℕ, ◌+◌, ◌≤◌, Bool, true, false, List, [], ◌∷◌, ◌++◌, Option, Some, length, map, drop, refl, sym, ◌∙◌, ap, arith}
use Rattle.std.proofs.Common.{slice_get, ◌⊎◌, inl, inr, ⊎_elim}
use Rattle.std.proofs.lemmas.Bool.{cases_lt}
use Rattle.std.proofs.lemmas.List.{drop_all, length-map}
use Rattle.std.proofs.lemmas.Option.{slice_get-map}
use Rattle.std.specs.List.{position_from}
use Rattle.std.specs.Prelude.{if◌then◌else◌, min, option_map}
use Rattle.std.specs.Bool.{Decides}
use Rattle.std.specs.Char.{to_ascii_lowercase}
use Rattle.std.specs.Str.{bytes_eq, str_eq_ignore_ascii_case}
use Rattle.std.proofs.lemmas.Bool.Decides.{same_from_decides}
use Rattle.std.proofs.lemmas.Slice.Eq.{bytes_eq-Decides}
use Rattle.cl_application.specs.Panes.{declared_by, panes_of}
use Rattle.cl_application.specs.declared.applications.App.{App}
use Rattle.cl_application.specs.declared.declarations.PaneDecl.{PaneDecl}
use Rattle.cl_frame.specs.Frames.{IsFrameOf, marks_of_frame}
use Rattle.cl_frame.specs.Panes.{report_of_pane, shown_of_pane, shown_panes}
use Rattle.cl_frame.specs.declared.frames.Frame.{Frame}
use Rattle.cl_frame.specs.declared.panes.Pane.{Pane}
use Rattle.cl_frame.specs.declared.reports.PaneReport.{PaneReport}
use Rattle.cl_frame.proofs.SettledPanes.{drop_at}
use Rattle.cl_frame.proofs.ShownFrames.{frame_shown}
use Rattle.cl_redisplay.specs.Shown.{Shown, shown_ink_row, shown_row}
use Rattle.cl_session.specs.Step.{pane_lines, report_lines}
use Rattle.cl_session.specs.Telling.{is_pane_named}
use Rattle.cl_session.specs.Transcript.{line_bytes}
use Rattle.cl_session.proofs.WritingLemmas.{line_bytes-append}

-- a row of the screen, told of the panes that are declared
pub row_told : (app : App) (f : Frame) (y : ℕ) (row : List ℕ) → IsFrameOf app f → row ≡ shown_row (map shown_of_pane f.panes.items) f.screen.raster.width y
    → row ≡ shown_row (shown_panes (panes_of app) (marks_of_frame f)) app.frame.width y
row_told app f y row h e =
    e ∙ (ap (λ (n : ℕ). shown_row (map shown_of_pane f.panes.items) n y) h.width ∙ ap (λ (ss : List Shown). shown_row ss app.frame.width y) (sym (frame_shown app f h)))

pub ink_row_told : (app : App) (f : Frame) (y : ℕ) (row : List ℕ) → IsFrameOf app f → row ≡ shown_ink_row (map shown_of_pane f.panes.items) f.screen.raster.width y
    → row ≡ shown_ink_row (shown_panes (panes_of app) (marks_of_frame f)) app.frame.width y
ink_row_told app f y row h e =
    e ∙ (ap (λ (n : ℕ). shown_ink_row (map shown_of_pane f.panes.items) n y) h.width ∙ ap (λ (ss : List Shown). shown_ink_row ss app.frame.width y) (sym (frame_shown app f h)))

-- ---- lines of panes

-- the lines of a pane in a place, and of those behind it
pub pane_lines-next : (ds : List PaneDecl) (rs : List PaneReport) (k : ℕ) (d : PaneDecl) (r : PaneReport) → slice_get ds k ≡ Some d → slice_get rs k ≡ Some r
    → pane_lines (drop k ds) (drop k rs) ≡ report_lines d.name r ++ pane_lines (drop (k + 1) ds) (drop (k + 1) rs)
pane_lines-next ds rs k d r e f =
    ap (λ (xs : List PaneDecl). pane_lines xs (drop k rs)) (drop_at ds k d e) ∙ ap (λ (xs : List PaneReport). pane_lines (d ∷ drop (k + 1) ds) xs) (drop_at rs k r f)

none_of : (ds : List PaneDecl) → pane_lines ds [] ≡ []
none_of [] = refl
none_of (d ∷ ds) = refl

-- past the last pane or the last report there are none
pub pane_lines-end : (ds : List PaneDecl) (rs : List PaneReport) → (ds ≡ []) ⊎ (rs ≡ []) → pane_lines ds rs ≡ []
pane_lines-end ds rs (inl e) = ap (λ (xs : List PaneDecl). pane_lines xs rs) e
pane_lines-end ds rs (inr e) = ap (λ (xs : List PaneReport). pane_lines ds xs) e ∙ none_of ds

-- the same as bytes
pub lines-next : (ds : List PaneDecl) (rs : List PaneReport) (k : ℕ) (d : PaneDecl) (r : PaneReport) → slice_get ds k ≡ Some d → slice_get rs k ≡ Some r
    → line_bytes (pane_lines (drop k ds) (drop k rs)) ≡ line_bytes (report_lines d.name r) ++ line_bytes (pane_lines (drop (k + 1) ds) (drop (k + 1) rs))
lines-next ds rs k d r e f = ap line_bytes (pane_lines-next ds rs k d r e f) ∙ line_bytes-append (report_lines d.name r) (pane_lines (drop (k + 1) ds) (drop (k + 1) rs))

pub report_at : (panes : List Pane) (k : ℕ) (p : Pane) → slice_get panes k ≡ Some p → slice_get (map report_of_pane panes) k ≡ Some p.report
report_at panes k p e = slice_get-map report_of_pane panes k ∙ ap (λ (o : Option Pane). option_map report_of_pane o) e

-- behind the last pane, or the last report
pub lines-end : (app : App) (panes : List Pane) (k : ℕ) → min (length app.frame.panes) (length panes) ≤ k
    → line_bytes (pane_lines (drop k (panes_of app)) (drop k (map report_of_pane panes))) ≡ []
lines-end app panes k h =
    ap line_bytes (pane_lines-end (drop k (panes_of app)) (drop k (map report_of_pane panes))
    (⊎_elim (λ fewer. inl (drop_all k (panes_of app) (omega (arith, fewer, h, length-map app.frame.panes declared_by))))
    (λ more. inr (drop_all k (map report_of_pane panes) (omega (arith, more, h, length-map panes report_of_pane))))
    (cases_lt (length app.frame.panes) (length panes))))

-- ---- the place of a pane

chosen_yes : {A : Type 0} (b : Bool) (x y : A) → b ≡ true → (if b then x else y) ≡ x
chosen_yes true x y e = refl
chosen_yes false x y e = cc

chosen_no : {A : Type 0} (b : Bool) (x y : A) → b ≡ false → (if b then x else y) ≡ y
chosen_no false x y e = refl
chosen_no true x y e = cc

-- whether the pane has this name
pub named_as : (result : Bool) (name text : List ℕ) (d : PaneDecl) → text ≡ d.name
    → Decides result (map to_ascii_lowercase name ≡ map to_ascii_lowercase text) → result ≡ is_pane_named name d
named_as result name text d e test =
    same_from_decides result (bytes_eq (map to_ascii_lowercase name) (map to_ascii_lowercase text)) test (bytes_eq-Decides (map to_ascii_lowercase name) (map to_ascii_lowercase text))
    ∙ ap (λ (xs : List ℕ). str_eq_ignore_ascii_case name xs) e

-- the first of some panes has this name
pub found_at : (p : PaneDecl → Bool) (ds : List PaneDecl) (k : ℕ) (d : PaneDecl) → slice_get ds k ≡ Some d → p d ≡ true
    → position_from p k (drop k ds) ≡ Some k
found_at p ds k d e is =
    ap (λ (xs : List PaneDecl). position_from p k xs) (drop_at ds k d e) ∙ chosen_yes (p d) (Some k) (position_from p (k + 1) (drop (k + 1) ds)) is

-- it has not
pub passed_at : (p : PaneDecl → Bool) (ds : List PaneDecl) (k : ℕ) (d : PaneDecl) → slice_get ds k ≡ Some d → p d ≡ false
    → position_from p k (drop k ds) ≡ position_from p (k + 1) (drop (k + 1) ds)
passed_at p ds k d e other =
    ap (λ (xs : List PaneDecl). position_from p k xs) (drop_at ds k d e) ∙ chosen_no (p d) (Some k) (position_from p (k + 1) (drop (k + 1) ds)) other
