-- The panes of a frame that was just opened.
use Rattle.std.proofs.Common.{◌≡◌, ℕ, ◌+◌, ◌≤◌, true, All, List, [], ◌∷◌, ◌++◌, Some, length, map, drop, refl, sym, ◌∙◌, ap, subst, arith, append_assoc, slice_get}
use Rattle.std.proofs.lemmas.List.{length-map, map-append}
use Rattle.std.proofs.lemmas.List.Elements.{All-append, All-cons, All-head, All-nil, All-tail}
use Rattle.cl_application.specs.Panes.{IsPlaced, LieApart, LiesIn, lie_apart, panes_of}
use Rattle.cl_application.specs.declared.applications.App.{App}
use Rattle.cl_application.specs.declared.declarations.FrameDecl.{FrameDecl}
use Rattle.cl_application.specs.declared.declarations.PaneDecl.{PaneDecl}
use Rattle.cl_raster.specs.Raster.{Picture, blank_picture}
use Rattle.cl_record.specs.Counts.{count_of}
use Rattle.cl_redisplay.specs.Paint as paint
use Rattle.cl_redisplay.specs.Shown.{Apart, AreApart, Shown, areas_of}
use Rattle.cl_redisplay.specs.declared.areas.Area.{Area}
use Rattle.cl_redisplay.proofs.ShownLemmas.{Apart-parted, Shows-blank}
use Rattle.cl_frame.specs.Frames.{AreShown, IsFrameOf, IsBlankPane}
use Rattle.cl_frame.specs.Panes.{IsCounted, area_of, area_of_pane, marks_in, marks_of, marks_of_pane, shown_of_pane}
use Rattle.cl_frame.specs.declared.frames.Frame.{Frame}
use Rattle.cl_frame.specs.declared.panes.Pane.{Pane}
use Rattle.cl_frame.proofs.SettledPanes.{drop_at}

-- one pane more stands where it is declared
pub areas_next : (ds : List PaneDecl) (k : ℕ) (d : PaneDecl) (panes : List Pane) (p : Pane) (all : List Area) → slice_get ds k ≡ Some d → p.area ≡ area_of d
    → map area_of_pane panes ++ map area_of (drop k ds) ≡ all → map area_of_pane (panes ++ p ∷ []) ++ map area_of (drop (k + 1) ds) ≡ all
areas_next ds k d panes p all is e h =
    let rest : List Area = map area_of (drop (k + 1) ds) in
    ap (λ (xs : List Area). xs ++ rest) (map-append area_of_pane panes (p ∷ []))
    ∙ (append_assoc (map area_of_pane panes) (p.area ∷ []) rest
    ∙ (ap (λ (a : Area). map area_of_pane panes ++ a ∷ rest) e
    ∙ (ap (λ (xs : List PaneDecl). map area_of_pane panes ++ map area_of xs) (sym (drop_at ds k d is)) ∙ h)))

pub blank_next : (panes : List Pane) (p : Pane) → All IsBlankPane panes → IsBlankPane p → All IsBlankPane (panes ++ p ∷ [])
blank_next panes p h b = All-append IsBlankPane panes (p ∷ []) h (All-cons IsBlankPane p [] b (All-nil IsBlankPane))

-- the areas of panes that are shown are their own
areas_shown : (panes : List Pane) → areas_of (map shown_of_pane panes) ≡ map area_of_pane panes
areas_shown [] = refl
areas_shown (p ∷ panes) = ap (λ (areas : List Area). p.area ∷ areas) (areas_shown panes)

all_of_map : {A B : Type 0} (P : B → Type 0) (f : A → B) (xs : List A) → All P (map f xs) → All (λ x. P (f x)) xs
all_of_map P f [] h = All-nil (λ x. P (f x))
all_of_map P f (x ∷ xs) h =
    All-cons (λ y. P (f y)) x xs (All-head P (f x) (map f xs) h) (all_of_map P f xs (All-tail P (f x) (map f xs) h))

map_of_all : {A B : Type 0} (P : B → Type 0) (f : A → B) (xs : List A) → All (λ x. P (f x)) xs → All P (map f xs)
map_of_all P f [] h = All-nil P
map_of_all P f (x ∷ xs) h =
    All-cons P (f x) (map f xs) (All-head (λ y. P (f y)) x xs h) (map_of_all P f xs (All-tail (λ y. P (f y)) x xs h))

all_more : {A : Type 0} (P Q : A → Type 0) (xs : List A) → ((x : A) → P x → Q x) → All P xs → All Q xs
all_more P Q [] f h = All-nil Q
all_more P Q (x ∷ xs) f h = All-cons Q x xs (f x (All-head P x xs h)) (all_more P Q xs f (All-tail P x xs h))

lies_on : (f : FrameDecl) (raster : Picture) (d : PaneDecl) → raster.width ≡ f.width → raster.height ≡ f.height → f.width ≤ 512 → f.height ≤ 256
    → LiesIn f d → paint.LiesIn (area_of d) raster
lies_on f raster d w h most_columns most_rows lies = record {
  columns = omega (arith, lies.columns, w);
  rows = omega (arith, lies.rows, h);
  most_columns = omega (arith, most_columns, w);
  most_rows = omega (arith, most_rows, h);
}

apart_all : (d : PaneDecl) (ds : List PaneDecl) → All (λ q. lie_apart d q ≡ true) ds → All (Apart (area_of d)) (map area_of ds)
apart_all d ds h = map_of_all (Apart (area_of d)) area_of ds (all_more (λ q. lie_apart d q ≡ true) (λ q. Apart (area_of d) (area_of q)) ds (λ q e. Apart-parted (area_of d) (area_of q) e) h)

apart_panes : (ds : List PaneDecl) → LieApart ds → AreApart (map area_of ds)
apart_panes [] h = tt
apart_panes (d ∷ ds) h = (apart_all d ds h.0, apart_panes ds h.1)

no_marks : (p : Pane) → IsBlankPane p → marks_in (marks_of_pane p) ≡ []
no_marks p b = ap (λ h. marks_in (marks_of h)) b.0

none_counted : (p : Pane) → IsBlankPane p → IsCounted p
none_counted p b = b.1 ∙ sym (ap count_of (no_marks p b))

-- a blank screen shows blank panes
pub shown_blank : (app : App) (panes : List Pane) (raster : Picture) → IsPlaced app.frame → raster ≡ blank_picture app.frame.width app.frame.height
    → map area_of_pane panes ≡ map area_of (panes_of app) → All IsBlankPane panes → AreShown panes raster
shown_blank app panes raster placed e areas blank =
    let ds = panes_of app in
    let lies = all_more (LiesIn app.frame) (λ d. paint.LiesIn (area_of d) raster) ds
    (λ d. lies_on app.frame raster d (ap (λ (p : Picture). p.width) e) (ap (λ (p : Picture). p.height) e) placed.columns.1 placed.rows.1) placed.lie in
    let lie_areas = map_of_all (λ a. paint.LiesIn a raster) area_of ds lies in
    record {
      lie = all_of_map (λ a. paint.LiesIn a raster) area_of_pane panes (subst (λ (xs : List Area). All (λ a. paint.LiesIn a raster) xs) (sym areas) lie_areas);
      apart = subst AreApart (sym (areas_shown panes ∙ areas)) (apart_panes ds placed.apart);
      shows = rw e (Shows-blank app.frame.width app.frame.height (map shown_of_pane panes)
          (map_of_all (λ (s : Shown). s.marks ≡ []) shown_of_pane panes (all_more IsBlankPane (λ p. marks_in (marks_of_pane p) ≡ []) panes no_marks blank)));
      counted = all_more IsBlankPane IsCounted panes none_counted blank;
    }

-- a frame has as many panes as its application
pub frame_length : (app : App) (f : Frame) → IsFrameOf app f → length (panes_of app) ≡ length f.panes.items
frame_length app f h =
    let counted : length (map area_of_pane f.panes.items) ≡ length (map area_of (panes_of app)) = ap length h.areas in
    omega (arith, counted, length-map f.panes.items area_of_pane, length-map (panes_of app) area_of)
