use Rattle.std.proofs.Common.{arith, rules}
use Rattle.std.proofs.lemmas.Int.{ints}
use mir.Syntax.{w64}
use mir.Val.{SFits}
use Rattle.cl_region.proofs.Corners.{near}
use Rattle.cl_region.proofs.rects.Rect.fits.Goals as goal

pub returns : goal.returns
returns c =
    let a : SFits w64 c.args.self.now.x1 = search rules in
    let b : SFits w64 c.args.self.now.y1 = search rules in
    let d : SFits w64 c.args.self.now.x2 = search rules in
    let e : SFits w64 c.args.self.now.y2 = search rules in
    let v : SFits w64 c.args.by.dx = search rules in
    let w : SFits w64 c.args.by.dy = search rules in (
      (λ t. record {
        x1 = near _ _ (omega (arith, ints)) (c.fits_moved.ensures.0 c.if-not-fits_moved.false);
        y1 = near _ _ (omega (arith, ints)) (c.fits_moved-2.ensures.0 c.if-not-fits_moved-2.false);
        x2 = near _ _ (omega (arith, ints)) (c.fits_moved-3.ensures.0 c.if-not-fits_moved-3.false);
        y2 = near _ _ (omega (arith, ints)) (c.fits_moved-4.ensures.0 t);
      }),
      (λ f. c.fits_moved-4.ensures.1 (near _ _ (omega (arith, ints)) f.y2)),
    )
