use Rattle.std.proofs.Common.{◌≡◌, ◌∙◌, true, false, nat_eq, refl, sym}
use Rattle.std.specs.List.{starts_with}
use Rattle.std.proofs.lemmas.Str.Pattern.{starts_text}
use Rattle.cl_invocation.proofs.Behind.{behind_some}
use Rattle.cl_invocation.proofs.kinds.has_behind.Goals as goal

pub returns-then-starts_with : goal.returns-then-starts_with
returns-then-starts_with c =
    let starts : starts_with nat_eq c.args.word.now c.args.prefix.now ≡ true =
    sym (starts_text c.starts_with.result c.args.prefix.now c.args.word.now c.starts_with.ensures.cases) ∙ c.if-starts_with.true in
    rw (behind_some c.args.prefix.now c.args.word.now, starts) refl

pub returns-else-starts_with : goal.returns-else-starts_with
returns-else-starts_with c =
    let starts : starts_with nat_eq c.args.word.now c.args.prefix.now ≡ false =
    sym (starts_text c.starts_with.result c.args.prefix.now c.args.word.now c.starts_with.ensures.cases) ∙ c.if-starts_with.false in
    rw (c.if-starts_with.false, behind_some c.args.prefix.now c.args.word.now, starts) refl
