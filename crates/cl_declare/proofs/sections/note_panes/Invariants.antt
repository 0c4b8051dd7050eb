use Rattle.std.proofs.Common.{◌≡◌, drop, map}
use Rattle.cl_forms.specs.DatumView.{datum_of}
use Rattle.cl_declare.specs.Sections.{note_panes}
use Rattle.cl_declare.proofs.sections.note_panes.Given as goal

abbrev pub invariant-loop-pane : goal.invariant-loop-pane
invariant-loop-pane l =
    note_panes l.reader.signatures.now (map datum_of (drop l.pane-index l.panes)) l.notes
    ≡ note_panes l.reader.signatures.now (map datum_of l.panes) l.initial.notes
