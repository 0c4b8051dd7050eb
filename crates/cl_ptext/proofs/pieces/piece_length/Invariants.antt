use Rattle.std.proofs.Common.{◌≡◌, ◌+◌, drop}
use Rattle.cl_ptext.specs.Parts.{piece_length}
use Rattle.cl_ptext.specs.declared.pieces.Stage.TheVariants.{Leading}
use Rattle.cl_ptext.proofs.pieces.piece_length.Given as goal

abbrev pub invariant-loop-byte : goal.invariant-loop-byte
invariant-loop-byte l = record {
  whole : l.count + piece_length l.separator l.stage (drop l.byte-index l.text) ≡ piece_length l.separator Leading l.text;
  counted : l.count ≡ l.byte-index;
}
