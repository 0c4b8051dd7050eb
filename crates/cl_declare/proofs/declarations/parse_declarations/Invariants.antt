use Rattle.std.proofs.Common.{◌≡◌, drop, map}
use Rattle.cl_forms.specs.OuterView.{outer_of}
use Rattle.cl_declare.specs.Declarations.{parse_each_declaration, parse_declarations}
use Rattle.cl_declare.proofs.declarations.parse_declarations.Given as goal

abbrev pub invariant-loop-outer : goal.invariant-loop-outer
invariant-loop-outer l =
    parse_each_declaration l.reader.signatures.now (map outer_of (drop l.outer-index l.outers)) l.declarations l.notes
    ≡ parse_declarations l.reader.signatures.now (map outer_of l.outers) l.initial.notes
