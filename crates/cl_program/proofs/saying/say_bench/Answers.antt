use Rattle.cl_outside.proofs.WritingLemmas.{CutShort-more}
use Rattle.cl_program.specs.Command.{bench_head, bench_tail}
use Rattle.cl_program.proofs.SayingLemmas.{Says-after}
use Rattle.cl_program.proofs.saying.say_bench.Goals as goal

pub returns-then-not-say_bench_head-clause-says : goal.returns-then-not-say_bench_head-clause-says
returns-then-not-say_bench_head-clause-says g c =
    CutShort-more (g.O.Sink.taken c.args.out.now) (g.O.Sink.taken c.say_bench_head.new.out)
    (bench_head c.args.items c.args.totals.now.kept c.args.totals.now.moved) (bench_tail c.args.totals.now.drawn c.args.totals.now.erased)
    (g.O.Sink.faults c.args.out.now) (g.O.Sink.faults c.say_bench_head.new.out) c.if-not-say_bench_head.ensures.says

pub returns-clause-says : goal.returns-clause-says
returns-clause-says g c =
    Says-after c.say_bench_tail.result (g.O.Sink.taken c.args.out.now) (g.O.Sink.taken c.say_bench_head.new.out) (g.O.Sink.taken c.say_bench_tail.new.out)
    (bench_head c.args.items c.args.totals.now.kept c.args.totals.now.moved) (bench_tail c.args.totals.now.drawn c.args.totals.now.erased)
    (g.O.Sink.faults c.args.out.now) (g.O.Sink.faults c.say_bench_head.new.out) (g.O.Sink.faults c.say_bench_tail.new.out)
    c.if-not-say_bench_head.ensures.says c.if-not-say_bench_head.ensures.later c.say_bench_tail.ensures.says
