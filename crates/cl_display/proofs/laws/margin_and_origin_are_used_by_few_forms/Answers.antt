use Rattle.cl_display.proofs.UseLemmas.{figure-uses, indent-alone, indent-uses, newline-uses, plain-unused, room-uses}
use Rattle.cl_display.proofs.laws.margin_and_origin_are_used_by_few_forms.Goals as goal

pub returns-clause-newline : goal.returns-clause-newline
returns-clause-newline c = newline-uses

pub returns-clause-room : goal.returns-clause-room
returns-clause-room c = room-uses

pub returns-clause-indent : goal.returns-clause-indent
returns-clause-indent c = indent-uses

pub returns-clause-indent_alone : goal.returns-clause-indent_alone
returns-clause-indent_alone c = indent-alone

pub returns-clause-figure : goal.returns-clause-figure
returns-clause-figure c = figure-uses

pub returns-clause-others : goal.returns-clause-others
returns-clause-others c = plain-unused
