use Rattle.std.proofs.lemmas.Result.{err_from_is_err_and}
use Rattle.cl_declare.proofs.DeclareSteps.{stopped}
use Rattle.cl_declare.proofs.declarations.parse_declarations.Goals as goal

pub returns-in_err-parse_declaration : goal.returns-in_err-parse_declaration
returns-in_err-parse_declaration c =
    let refusal = err_from_is_err_and c.from_residual.result c.from_residual.ensures.1 in
    rw (refusal.1, refusal.2)
    (stopped (Unit {0}) c.in_err-parse_declaration.field-0.0 c.args.reader.now.signatures.now c.args.outers.now c.loop-outer.outer-index c.outer-item.result c.loop-outer.declarations
    c.parse_declaration.new.declarations c.loop-outer.notes c.parse_declaration.new.notes c.args.notes.now c.loop-outer-test.true c.outer-item.is c.loop-outer.invariant
    c.in_err-parse_declaration.ensures)
