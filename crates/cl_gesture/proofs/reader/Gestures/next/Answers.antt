use Rattle.std.proofs.Common.{inr, ◌∙◌, ℕ, List, Some, subst, refl, arith}
use Rattle.cl_gesture.specs.declared.lines.NextLine.TheVariants as next_line
use Rattle.cl_gesture.specs.Gesture.{idle, bad, kind_of, says, without_return}
use Rattle.cl_gesture.specs.LineReader as lines
use Rattle.cl_gesture.specs.Reader.{progress_of}
use Rattle.cl_gesture.specs.Said.{SaidOf, AnswerOf}
use Rattle.cl_gesture.proofs.Answering.{NextOf-line, idle-said, Came-from, Came-to, Came-on, ReadsToEnd-at, reads-turn}
use Rattle.cl_gesture.proofs.Stopped.{again-line, again-long, on-fault, on-limit}
use Rattle.cl_gesture.proofs.Turning.{Passed-more, ReadsTo-long, ReadsToFault-more, ReadsToLimit-more}
use Rattle.cl_gesture.proofs.reader.Gestures.next.Goals as goal

pub returns-in-Some-clause-reads : goal.returns-in-Some-clause-reads
returns-in-Some-clause-reads g c =
    let a = c.args.self.now in let b = c.loop-self.self in let at = progress_of g.G.Source.left g.G.Source.faults in
    reads-turn g.G.Source.left g.G.Source.faults g.G.Source.calls a.lines b.lines c.next.new.self next_line.Line (λ going. Came-to at a b c.loop-self.invariant.0 going)
    c.in-Line.ensures.again c.loop-self.invariant.3 c.in-Line.ensures.reads

pub returns-in-Some-clause-next : goal.returns-in-Some-clause-next
returns-in-Some-clause-next g c = λ going.
    let a = c.args.self.now in let b = c.loop-self.self in let at = progress_of g.G.Source.left g.G.Source.faults in
    let after = c.next.new.self in let reader = lines.progress_of g.G.Source.left g.G.Source.faults in
    let on = again-line (lines.stop_of b.lines) b.lines after c.in-Line.ensures.again in
    let P : List ℕ → Type 0 = λ bytes. SaidOf (says (without_return bytes)) c.read_line-said.result in
    let Q : ℕ → Type 0 = λ n. AnswerOf c.read_line-said.result n (Some c.in-Some.next) in
    NextOf-line (at a) (at b) (reader after) (lines.line_of after) c.read_line-said.result c.in-Some.next (Came-from at a b c.loop-self.invariant.0 going) on
    (c.in-Line.ensures.next on) (subst P c.line.ensures c.read_line-said.ensures) (subst Q c.count.ensures c.in-Some.ensures)

pub loop-self-preserved : goal.loop-self-preserved
loop-self-preserved g c =
    let a = c.args.self.now in let b = c.loop-self.self in let at = progress_of g.G.Source.left g.G.Source.faults in
    let after = c.next.new.self in let reader = lines.progress_of g.G.Source.left g.G.Source.faults in
    let came = c.loop-self.invariant.0 in
    let on = again-line (lines.stop_of b.lines) b.lines after c.in-Line.ensures.again in
    let P : List ℕ → Type 0 = λ bytes. SaidOf (says (without_return bytes)) c.read_line-said.result in
    let is_idle =
    idle-said (says (without_return (lines.line_of after))) c.read_line-said.result c.count.result (subst P c.line.ensures c.read_line-said.ensures) c.in_default.ensures in (
      inr (
        Came-on at a b came on,
        Passed-more kind_of idle (at a) (at b) (reader after) (lines.line_of after) (Came-to at a b came on) on (c.in-Line.ensures.next on) is_idle,
      ),
      c.in-Line.ensures.lent ∙ c.loop-self.invariant.1,
      omega (arith, c.in-Line.ensures.later, c.loop-self.invariant.2),
      reads-turn g.G.Source.left g.G.Source.faults g.G.Source.calls a.lines b.lines after next_line.Line (λ going. Came-to at a b came going)
          c.in-Line.ensures.again c.loop-self.invariant.3 c.in-Line.ensures.reads,
    )

pub returns-in-Long-clause-reads : goal.returns-in-Long-clause-reads
returns-in-Long-clause-reads g c =
    let a = c.args.self.now in let b = c.loop-self.self in let at = progress_of g.G.Source.left g.G.Source.faults in
    reads-turn g.G.Source.left g.G.Source.faults g.G.Source.calls a.lines b.lines c.next.new.self next_line.Long (λ going. Came-to at a b c.loop-self.invariant.0 going)
    c.in-Long.ensures.again c.loop-self.invariant.3 c.in-Long.ensures.reads

pub returns-in-Long-clause-next : goal.returns-in-Long-clause-next
returns-in-Long-clause-next g c = λ going.
    let a = c.args.self.now in let b = c.loop-self.self in let at = progress_of g.G.Source.left g.G.Source.faults in
    let after = c.next.new.self in let reader = lines.progress_of g.G.Source.left g.G.Source.faults in
    let on = again-long (lines.stop_of b.lines) b.lines after c.in-Long.ensures.again in (
      ReadsTo-long kind_of idle bad (at a) (at b) (reader after) (lines.line_of after) (Came-from at a b c.loop-self.invariant.0 going) on
          (c.in-Long.ensures.next on) refl,
      c.count-in-Long.ensures,
    )

pub returns-in-End-clause-reads : goal.returns-in-End-clause-reads
returns-in-End-clause-reads g c =
    let a = c.args.self.now in let b = c.loop-self.self in let at = progress_of g.G.Source.left g.G.Source.faults in
    reads-turn g.G.Source.left g.G.Source.faults g.G.Source.calls a.lines b.lines c.next.new.self next_line.End (λ going. Came-to at a b c.loop-self.invariant.0 going)
    c.in-End.ensures.again c.loop-self.invariant.3 c.in-End.ensures.reads

pub returns-in-End-clause-next : goal.returns-in-End-clause-next
returns-in-End-clause-next g c = λ going.
    let a = c.args.self.now in let b = c.loop-self.self in let at = progress_of g.G.Source.left g.G.Source.faults in
    let after = c.next.new.self in let reader = lines.progress_of g.G.Source.left g.G.Source.faults in
    ReadsToEnd-at reader (at a) b.lines after (lines.line_of after) (Came-from at a b c.loop-self.invariant.0 going) c.in-End.ensures.again c.in-End.ensures.next

pub returns-in-ReadFault-clause-reads : goal.returns-in-ReadFault-clause-reads
returns-in-ReadFault-clause-reads g c =
    let a = c.args.self.now in let b = c.loop-self.self in let at = progress_of g.G.Source.left g.G.Source.faults in
    reads-turn g.G.Source.left g.G.Source.faults g.G.Source.calls a.lines b.lines c.next.new.self next_line.ReadFault (λ going. Came-to at a b c.loop-self.invariant.0 going)
    c.in-ReadFault.ensures.again c.loop-self.invariant.3 c.in-ReadFault.ensures.reads

pub returns-in-ReadFault-clause-next : goal.returns-in-ReadFault-clause-next
returns-in-ReadFault-clause-next g c = λ going.
    let a = c.args.self.now in let b = c.loop-self.self in let at = progress_of g.G.Source.left g.G.Source.faults in
    let after = c.next.new.self in let reader = lines.progress_of g.G.Source.left g.G.Source.faults in
    let p = Came-from at a b c.loop-self.invariant.0 going in
    let on = on-fault p.finished (lines.stop_of b.lines) b.lines after p.stopped c.in-ReadFault.ensures.again in
    ReadsToFault-more kind_of idle (at a) (at b) (reader after) (lines.line_of after) p on c.loop-self.invariant.2 (c.in-ReadFault.ensures.next on)

pub returns-in-TooMany-clause-reads : goal.returns-in-TooMany-clause-reads
returns-in-TooMany-clause-reads g c =
    let a = c.args.self.now in let b = c.loop-self.self in let at = progress_of g.G.Source.left g.G.Source.faults in
    reads-turn g.G.Source.left g.G.Source.faults g.G.Source.calls a.lines b.lines c.next.new.self next_line.TooMany (λ going. Came-to at a b c.loop-self.invariant.0 going)
    c.in-TooMany.ensures.again c.loop-self.invariant.3 c.in-TooMany.ensures.reads

pub returns-in-TooMany-clause-next : goal.returns-in-TooMany-clause-next
returns-in-TooMany-clause-next g c = λ going.
    let a = c.args.self.now in let b = c.loop-self.self in let at = progress_of g.G.Source.left g.G.Source.faults in
    let after = c.next.new.self in let reader = lines.progress_of g.G.Source.left g.G.Source.faults in
    let p = Came-from at a b c.loop-self.invariant.0 going in
    let on = on-limit p.finished (lines.stop_of b.lines) b.lines after p.stopped c.in-TooMany.ensures.again in
    ReadsToLimit-more kind_of idle (at a) (at b) (reader after) (lines.line_of after) p on (c.in-TooMany.ensures.next on)
