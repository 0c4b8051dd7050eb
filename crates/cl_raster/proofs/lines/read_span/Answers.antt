use Rattle.std.proofs.lemmas.Bool.{false≢true}
use Rattle.std.proofs.Common.{refl}
use Rattle.cl_raster.proofs.Readings.{is_span, no_span-glyphs, no_span-ink, no_span-x, no_span-y}
use Rattle.cl_raster.proofs.lines.read_span.Goals as goal

pub returns-in_err-x : goal.returns-in_err-x
returns-in_err-x c = rw c.from_residual.ensures (no_span-x c.args.text.now c.in_err-x.ensures)

pub returns-in_err-y : goal.returns-in_err-y
returns-in_err-y c =
    rw c.from_residual-in_err-y.ensures
    (no_span-y c.args.text.now c.in_ok-x.text.now c.in_ok-x.x c.in_ok-x.ensures.0 c.in_ok-x.ensures.1 c.in_err-y.ensures)

pub returns-in_err-ink : goal.returns-in_err-ink
returns-in_err-ink c =
    rw c.from_residual-in_err-ink.ensures
    (no_span-ink c.args.text.now c.in_ok-x.text.now c.in_ok-y.text.now c.in_ok-x.x c.in_ok-y.y c.in_ok-x.ensures.0 c.in_ok-y.ensures.0
    c.in_ok-x.ensures.1 c.in_ok-y.ensures.1 c.in_err-ink.ensures)

pub returns-then-is_span : goal.returns-then-is_span
returns-then-is_span c =
    let span = c.if-is_span.ensures.0 refl in (
      is_span c.args.text.now c.in_ok-x.text.now c.in_ok-y.text.now c.in_ok-ink.glyphs.now c.in_ok-x.x c.in_ok-y.y c.in_ok-ink.ink
          c.in_ok-x.ensures.0 c.in_ok-y.ensures.0 c.in_ok-x.ensures.1 c.in_ok-y.ensures.1 c.in_ok-ink.ensures.1 span,
      span,
    )

pub returns : goal.returns
returns c =
    no_span-glyphs c.args.text.now c.in_ok-x.text.now c.in_ok-y.text.now c.in_ok-ink.glyphs.now c.in_ok-x.x c.in_ok-y.y c.in_ok-ink.ink
    c.in_ok-x.ensures.0 c.in_ok-y.ensures.0 c.in_ok-ink.ensures.0 c.in_ok-x.ensures.1 c.in_ok-y.ensures.1 c.in_ok-ink.ensures.1
    (λ span. false≢true (c.if-is_span.ensures.1 span))
