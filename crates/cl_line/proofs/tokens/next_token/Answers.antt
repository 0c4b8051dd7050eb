use Rattle.std.proofs.Common.{◌+◌, ◌-◌, length, drop, sym, subst, ap, ◌∙◌, arith, length-drop}
use Rattle.std.proofs.lemmas.List.{take_all}
use Rattle.cl_line.specs.Tokens.{LiesBehind, lexeme, token_at}
use Rattle.cl_line.proofs.TokenLemmas.{token_found}
use Rattle.cl_line.proofs.tokens.next_token.Goals as goal

pub returns-then-not-is_space-clause-tokens : goal.returns-then-not-is_space-clause-tokens
returns-then-not-is_space-clause-tokens c =
    let line = c.args.elements.now in
    let at = c.loop-first.at in
    let first = c.in-Some.first.now in
    let t = c.token_at.result in
    let rest = take_all (length line - (at + 1)) (drop (at + 1) line) (omega (arith, length-drop (at + 1) line)) in
    let is = c.token_at.ensures.token ∙ ap (λ es. token_at at (lexeme first es)) rest in
    let lies = subst (λ es. LiesBehind at (at + 1 + length es) t) rest c.token_at.ensures.within in
    sym c.loop-first.invariant.whole ∙ token_found line at first t c.in-Some.ensures.lookup.3.0 c.in-Some.ensures.lookup.1 (sym c.is_space.ensures ∙ c.if-not-is_space.true) is lies
