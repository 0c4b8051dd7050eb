use Rattle.std.proofs.Common.{ap, pos}
use Rattle.cl_medium.specs.declared.areas.Area.{Area}
use Rattle.cl_medium.specs.Drawing.{box_leaf, fill_leaf, hline_leaf, point_leaf, vline_leaf}
use Rattle.cl_medium.proofs.Placed.{shapes_move}
use Rattle.cl_medium.proofs.laws.shapes_move_with_origin.Goals as goal

pub returns : goal.returns
returns c = record {
  points = λ v a b m x y byte. ap (λ (r : Area). point_leaf r byte) (shapes_move v a b x y (pos 1) (pos 1) m);
  hlines = λ v a b m x y n. ap (λ (r : Area). hline_leaf r) (shapes_move v a b x y n (pos 1) m);
  vlines = λ v a b m x y n. ap (λ (r : Area). vline_leaf r) (shapes_move v a b x y (pos 1) n m);
  boxes = λ v a b m x y w h. ap (λ (r : Area). box_leaf r) (shapes_move v a b x y w h m);
  fills = λ v a b m x y w h byte. ap (λ (r : Area). fill_leaf r byte) (shapes_move v a b x y w h m);
}
