use Rattle.std.proofs.Common.{◌≡◌, drop, map}
use Rattle.cl_forms.specs.DatumView.{datum_of}
use Rattle.cl_declare.specs.CommandTables.{note_tables}
use Rattle.cl_declare.proofs.command_tables.note_tables.Given as goal

abbrev pub invariant-loop-name : goal.invariant-loop-name
invariant-loop-name l =
    note_tables l.reader.signatures.now (map datum_of (drop l.name-index l.names)) l.notes
    ≡ note_tables l.reader.signatures.now (map datum_of l.names) l.initial.notes
