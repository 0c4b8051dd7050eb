use Rattle.std.proofs.Common.{refl}
use Rattle.cl_outside.proofs.PlaceFrames.{write_left, write_others}
use Rattle.cl_outside.proofs.mem_place_calls.MemPlacePlace.write_sink.Goals as goal

pub returns-in-Bytes-clause-left : goal.returns-in-Bytes-clause-left
returns-in-Bytes-clause-left c = write_left c.args.self.now c.write.new.self c.args.self.now.sink c.args.bytes.now c.in-Bytes.n c.in-Bytes.ensures.step

pub returns-in-Bytes-clause-others : goal.returns-in-Bytes-clause-others
returns-in-Bytes-clause-others c = write_others c.args.self.now c.write.new.self c.args.self.now.sink c.args.bytes.now c.in-Bytes.n refl c.in-Bytes.ensures.step
