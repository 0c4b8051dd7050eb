use Rattle.std.proofs.Common.{◌+◌, ◌-◌, ◌∙◌, drop, length, sym, arith}
use Rattle.std.proofs.Math.ListN.{length-drop}
use Rattle.std.proofs.lemmas.List.{take_all}
use Rattle.cl_interactor.proofs.Lines.{cut-none, cut-some}
use Rattle.cl_interactor.proofs.rows.cut_line.Goals as goal

pub returns-in-Some-clause-line : goal.returns-in-Some-clause-line
returns-in-Some-clause-line c = (cut-some c.args.lines.now c.in-Some.at (sym c.in-Some.ensures)).0

pub returns-in-Some-clause-rest : goal.returns-in-Some-clause-rest
returns-in-Some-clause-rest c =
    let lines = c.args.lines.now in let at = c.in-Some.at in
    take_all (length lines - (at + 1)) (drop (at + 1) lines) (omega (arith, length-drop (at + 1) lines)) ∙ (cut-some lines at (sym c.in-Some.ensures)).1

pub returns-in-None-clause-line : goal.returns-in-None-clause-line
returns-in-None-clause-line c = sym (cut-none c.args.lines.now (sym c.in-None.ensures)).0

pub returns-in-None-clause-rest : goal.returns-in-None-clause-rest
returns-in-None-clause-rest c = sym (cut-none c.args.lines.now (sym c.in-None.ensures)).1
