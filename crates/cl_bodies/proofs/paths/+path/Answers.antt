use Rattle.std.proofs.Common.{rules}
use Rattle.cl_expressions.specs.Scopes.{variables_of}
use Rattle.cl_bodies.proofs.PathParts.{slot_read}
use Rattle.cl_bodies.proofs.paths.+path.Goals as goal

pub parse_path_head-returns-in-Some-Special-Slot : goal.parse_path_head-returns-in-Some-Special-Slot
parse_path_head-returns-in-Some-Special-Slot t c =
    slot_read c.args.reader.now.signatures.now _ c.args.head_at c.args.at c.args.parts.now (variables_of c.args.reader.now.scope.now) c.args.notes.now
    c.parse_slot.result c.parse_slot.new.notes (search rules) c.parse_slot.ensures
