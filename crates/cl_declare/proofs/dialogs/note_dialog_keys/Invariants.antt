use Rattle.std.proofs.Common.{◌≡◌, drop, map}
use Rattle.cl_forms.specs.KeyedView.{keyed_of}
use Rattle.cl_declare.specs.Dialogs.{note_dialog_keys}
use Rattle.cl_declare.proofs.dialogs.note_dialog_keys.Given as goal

abbrev pub invariant-loop-key : goal.invariant-loop-key
invariant-loop-key l =
    note_dialog_keys l.reader.signatures.now (map keyed_of (drop l.key-index l.keys)) l.notes
    ≡ note_dialog_keys l.reader.signatures.now (map keyed_of l.keys) l.initial.notes
