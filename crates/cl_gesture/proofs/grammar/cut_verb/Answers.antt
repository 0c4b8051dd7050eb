use Rattle.std.proofs.Common.{sym, ap, ◌∙◌, ◌-◌, ◌+◌, drop, length, Some, arith}
use Rattle.std.proofs.lemmas.List.{take_all}
use Rattle.std.proofs.Math.ListN.{length-drop}
use Rattle.cl_gesture.proofs.Verbs.{cut-some, cut-none}
use Rattle.cl_gesture.proofs.grammar.cut_verb.Goals as goal

pub returns-in-Some-clause-verb : goal.returns-in-Some-clause-verb
returns-in-Some-clause-verb c = (cut-some c.args.line.now c.in-Some.at (sym c.in-Some.ensures)).0

pub returns-in-Some-clause-rest : goal.returns-in-Some-clause-rest
returns-in-Some-clause-rest c =
    let line = c.args.line.now in let at = c.in-Some.at in
    ap Some (take_all (length line - (at + 1)) (drop (at + 1) line) (omega (arith, length-drop (at + 1) line))) ∙ (cut-some line at (sym c.in-Some.ensures)).1

pub returns-in-None-clause-verb : goal.returns-in-None-clause-verb
returns-in-None-clause-verb c = sym (cut-none c.args.line.now (sym c.in-None.ensures)).0

pub returns-in-None-clause-rest : goal.returns-in-None-clause-rest
returns-in-None-clause-rest c = sym (cut-none c.args.line.now (sym c.in-None.ensures)).1
