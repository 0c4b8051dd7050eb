use Rattle.std.proofs.Common.{◌≡◌, drop}
use Rattle.cl_cover.specs.PathText.{path_text, text_along}
use Rattle.cl_cover.proofs.spelling.path_text.Given as goal

abbrev pub invariant-loop-field : goal.invariant-loop-field
invariant-loop-field l = text_along l.text.items (drop l.field-index l.field-items) ≡ path_text l.path
