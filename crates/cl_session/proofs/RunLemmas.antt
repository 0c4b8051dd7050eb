-- A command that is enabled.
use Rattle.std.proofs.Common.{◌≡◌, true, refl}
use Rattle.cl_application.specs.declared.declarations.CommandDecl.{CommandDecl}
use Rattle.cl_frame.specs.Ground.{Ground}
use Rattle.cl_parser.specs.declared.parsing.Parsed.{Parsed}
use Rattle.cl_session.specs.Runs.{is_on}
use Rattle.cl_session.specs.Step.{finish_named, finish_parsed, parsed_line}
use Rattle.cl_session.specs.World.{World}

-- what its tokens are read as decides
pub finished_on : (g : Ground) (w : World) (command : CommandDecl) (p : Parsed) → is_on w command ≡ true → p ≡ parsed_line g w.slots w.line command
    → finish_named g w command ≡ finish_parsed g w command p
finished_on g w command p on read = rw (on, read) refl
