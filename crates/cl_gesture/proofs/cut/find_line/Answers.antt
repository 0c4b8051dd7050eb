use Rattle.std.proofs.Common.{◌≡◌, ℕ, length, take, arith, ap, sym, subst, ◌∙◌, All}
use Rattle.std.proofs.Math.Seq.{take-length}
use Rattle.std.proofs.lemmas.List.Elements.{All-same}
use Rattle.cl_gesture.specs.Lines.{IsNoFeed}
use Rattle.cl_gesture.proofs.Finding.{FoundIn-line, FoundIn-long}
use Rattle.cl_gesture.proofs.cut.find_line.Goals as goal

pub returns-then-bytes-at-eq10 : goal.returns-then-bytes-at-eq10
returns-then-bytes-at-eq10 c =
    FoundIn-line c.args.bytes.now c.loop-at.at (omega arith) (omega arith) c.loop-at.invariant c.if-bytes-at-eq10.true

pub returns-then-bytes-lt-CUT_AT : goal.returns-then-bytes-lt-CUT_AT
returns-then-bytes-lt-CUT_AT c =
    let bytes = c.args.bytes.now in let all : c.loop-at.at ≡ length bytes = omega arith in
    (omega arith, All-same IsNoFeed bytes (take c.loop-at.at bytes) (sym (ap (λ n. take n bytes) all ∙ take-length bytes)) c.loop-at.invariant)

pub returns-else-bytes-lt-CUT_AT : goal.returns-else-bytes-lt-CUT_AT
returns-else-bytes-lt-CUT_AT c =
    let bytes = c.args.bytes.now in let all : c.loop-at.at ≡ 4097 = omega arith in let P : ℕ → Type 0 = λ n. All IsNoFeed (take n bytes) in
    FoundIn-long bytes (omega arith) (subst P all c.loop-at.invariant)
