use Rattle.std.proofs.Common.{inl, List, ℕ, arith, refl, subst}
use Rattle.cl_gesture.specs.declared.cut.Found.TheVariants as found
use Rattle.cl_gesture.specs.Cut.{FoundIn}
use Rattle.cl_gesture.proofs.Finding.{CutOf-long, CutOf-ended, CutOf-failed, Looking-start, Looking-more, LastRead-fill}
use Rattle.cl_gesture.proofs.cut.next_cut.Goals as goal

pub returns-in-Long-clause-cut : goal.returns-in-Long-clause-cut
returns-in-Long-clause-cut g c =
    let P : List ℕ → Type 0 = λ bytes. FoundIn bytes found.Long in
    CutOf-long _ _ c.args.ahead.now c.loop-at.ahead 0 0 c.loop-at.invariant.0.reads (subst P c.as_slice.ensures c.in-Long.ensures)

pub returns-else-seen-eq0-clause-cut : goal.returns-else-seen-eq0-clause-cut
returns-else-seen-eq0-clause-cut g c =
    let P : List ℕ → Type 0 = λ bytes. FoundIn bytes found.Unended in
    CutOf-ended _ _ _ c.args.ahead.now c.loop-at.ahead c.fill.new.self 0 0 _ c.loop-at.invariant.0.reads (subst P c.as_slice.ensures c.in-Unended.ensures) c.in-Bytes-eq0.ensures.bytes c.in-Bytes-eq0.field-0-test (omega arith)

pub returns-in-Failed-clause-cut : goal.returns-in-Failed-clause-cut
returns-in-Failed-clause-cut g c =
    let P : List ℕ → Type 0 = λ bytes. FoundIn bytes found.Unended in
    CutOf-failed _ _ _ c.args.ahead.now c.loop-at.ahead c.fill.new.self _ _ _ c.loop-at.invariant.0.reads (subst P c.as_slice.ensures c.in-Unended.ensures) c.in-Failed.ensures.bytes c.loop-at.invariant.0.later c.in-Failed.ensures.cause

pub returns-in-Line-clause-reads : goal.returns-in-Line-clause-reads
returns-in-Line-clause-reads g c = c.loop-at.invariant.1

pub returns-in-Long-clause-reads : goal.returns-in-Long-clause-reads
returns-in-Long-clause-reads g c = c.loop-at.invariant.1

pub returns-else-seen-eq0-clause-reads : goal.returns-else-seen-eq0-clause-reads
returns-else-seen-eq0-clause-reads g c =
    let P : List ℕ → Type 0 = λ bytes. FoundIn bytes found.Unended in
    LastRead-fill g.G.Source.left g.G.Source.calls c.args.source.now c.loop-at.source c.fill.new.source c.args.ahead.now c.loop-at.ahead
    c.loop-at.invariant.0.reads (subst P c.as_slice.ensures c.in-Unended.ensures) c.in-Bytes-eq0.ensures.calls

pub returns-in-Failed-clause-reads : goal.returns-in-Failed-clause-reads
returns-in-Failed-clause-reads g c =
    let P : List ℕ → Type 0 = λ bytes. FoundIn bytes found.Unended in
    LastRead-fill g.G.Source.left g.G.Source.calls c.args.source.now c.loop-at.source c.fill.new.source c.args.ahead.now c.loop-at.ahead
    c.loop-at.invariant.0.reads (subst P c.as_slice.ensures c.in-Unended.ensures) c.in-Failed.ensures.calls

pub loop-at-init : goal.loop-at-init
loop-at-init g c = (Looking-start _ c.args.ahead.now _ _, inl refl)

pub loop-at-preserved : goal.loop-at-preserved
loop-at-preserved g c =
    let P : List ℕ → Type 0 = λ bytes. FoundIn bytes found.Unended in
    let none = subst P c.as_slice.ensures c.in-Unended.ensures in (
      Looking-more _ _ _ c.args.ahead.now c.loop-at.ahead c.fill.new.self _ _ _ _ _ _ _ _ _ c.loop-at.invariant.0 none c.in-Bytes.ensures.bytes c.in-Bytes.ensures.cause c.in-Bytes.ensures.lent c.len-seen.ensures,
      LastRead-fill g.G.Source.left g.G.Source.calls c.args.source.now c.loop-at.source c.fill.new.source c.args.ahead.now c.loop-at.ahead
          c.loop-at.invariant.0.reads none c.in-Bytes.ensures.calls,
    )
