use Rattle.std.proofs.Common.{sym, ap, ◌∙◌, length}
use Rattle.std.specs.Prelude.{find}
use Rattle.cl_tables.specs.Lookups.{Sight, begins_with, ends_before}
use Rattle.cl_tables.proofs.NamingLemmas.{found_by_key, none_ends, rest_of}
use Rattle.cl_tables.proofs.tables.Tables.named_with.Goals as goal

pub returns-then-ends_before : goal.returns-then-ends_before
returns-then-ends_before c =
    let ends = ap ends_before (sym (rest_of c.args.line.now (length c.args.letters.now))) ∙ sym c.ends_before.ensures ∙ c.if-ends_before.true in
    c.command_under.ensures ∙ c.self.invariant.line_names c.args.letters.now
    ∙ found_by_key c.args.line.now c.args.letters.now c.self.inside.commands.items c.requires.lowered ends
    ∙ ap (λ (s : Sight). find (begins_with c.args.line.now (length c.args.letters.now)) s.commands) c.self.view_is

pub returns-else-ends_before : goal.returns-else-ends_before
returns-else-ends_before c =
    let ends = ap ends_before (sym (rest_of c.args.line.now (length c.args.letters.now))) ∙ sym c.ends_before.ensures ∙ c.if-ends_before.false in
    sym (none_ends c.args.line.now (length c.args.letters.now) c.args.self.now.commands ends)
