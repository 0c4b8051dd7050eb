-- Panes on a screen, of which one is put in the place of another.
use Rattle.std.proofs.Common.{◌≡◌, ℕ, ◌<◌, All, List, Some, length, get_or, set, map, sym, ◌∙◌, ap, subst, arith, slice_get}
use Rattle.std.proofs.Math.Seq.{map-set_same}
use Rattle.std.proofs.lemmas.List.{get_or-map, length-map, map-set}
use Rattle.std.proofs.lemmas.List.Elements.{All-set}
use Rattle.std.proofs.lemmas.Option.{get_or_from_slice_get, slice_get_within}
use Rattle.cl_raster.specs.Raster.{Picture, SameSize}
use Rattle.cl_redisplay.specs.Paint.{LiesIn, Repaints}
use Rattle.cl_redisplay.specs.Shown.{Shown}
use Rattle.cl_redisplay.specs.declared.areas.Area.{Area}
use Rattle.cl_redisplay.proofs.ShownLemmas.{Shows-set, areas_of-set, lies_still}
use Rattle.cl_frame.specs.Frames.{AreShown}
use Rattle.cl_frame.specs.Panes.{IsCounted, area_of_pane, marks_in, marks_of_pane, shown_of_pane}
use Rattle.cl_frame.specs.declared.panes.Pane.{Pane}

module _ (panes : List Pane) (k : ℕ) (o p : Pane) (is : slice_get panes k ≡ Some o) (area : p.area ≡ o.area) where
  within : k < length panes
  within = slice_get_within panes k o is

  there : get_or panes k o ≡ o
  there = get_or_from_slice_get panes k o o is

  -- the areas of the panes stay
  pub areas_put : map area_of_pane (set panes k p) ≡ map area_of_pane panes
  areas_put = map-set_same area_of_pane panes k p o (area ∙ ap area_of_pane (sym there))

  shown_there : get_or (map shown_of_pane panes) k (shown_of_pane o) ≡ shown_of_pane o
  shown_there = get_or-map shown_of_pane panes k o (shown_of_pane o) within ∙ ap shown_of_pane there

  shown_area : (shown_of_pane p).area ≡ (get_or (map shown_of_pane panes) k (shown_of_pane o)).area
  shown_area = area ∙ ap (λ (s : Shown). s.area) (sym shown_there)

  -- a pane lies where it did
  pub lies_put : (raster : Picture) → All (λ q. LiesIn q.area raster) panes → LiesIn p.area raster
  lies_put raster h =
      subst (λ (a : Area). LiesIn a raster) (sym area) (subst (λ (q : Pane). LiesIn q.area raster) there (h k o within))

  lie_put : (old new : Picture) → SameSize old new → All (λ q. LiesIn q.area old) panes → All (λ q. LiesIn q.area new) (set panes k p)
  lie_put old new size h =
      All-set (λ q. LiesIn q.area new) panes k p (lies_still old new p.area size (lies_put old h))
      (λ i d inside. lies_still old new (get_or panes i d).area size (h i d inside))

  -- the screen shows the panes with this one, once its area is painted anew
  pub shown_put : (old new : Picture) → IsCounted p → AreShown panes old → Repaints old new p.area (marks_in (marks_of_pane p))
      → AreShown (set panes k p) new
  shown_put old new counted h paints =
      let same = map-set shown_of_pane panes k p in
      let inside : k < length (map shown_of_pane panes) = omega (arith, within, length-map panes shown_of_pane) in
      record {
        lie = lie_put old new paints.others.size h.lie;
        apart = rw same (rw (areas_of-set (map shown_of_pane panes) k (shown_of_pane o) (shown_of_pane p) shown_area) h.apart);
        shows = rw same (Shows-set old new (map shown_of_pane panes) k (shown_of_pane o) (shown_of_pane p) inside h.apart shown_area h.shows paints);
        counted = All-set IsCounted panes k p counted h.counted;
      }

  -- a pane that shows what the one before it did
  pub shown_kept : (raster : Picture) → shown_of_pane p ≡ shown_of_pane o → IsCounted p → AreShown panes raster → AreShown (set panes k p) raster
  shown_kept raster e counted h =
      let same = map-set_same shown_of_pane panes k p o (e ∙ ap shown_of_pane (sym there)) in
      record {
        lie = All-set (λ q. LiesIn q.area raster) panes k p (lies_put raster h.lie) h.lie;
        apart = rw same h.apart;
        shows = rw same h.shows;
        counted = All-set IsCounted panes k p counted h.counted;
      }
