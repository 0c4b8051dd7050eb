use Rattle.std.proofs.Common.{◌≡◌, drop}
use Rattle.cl_ptext.specs.Words.{token_in}
use Rattle.cl_ptext.proofs.words.token_in.Given as goal

abbrev pub invariant-loop-token : goal.invariant-loop-token
invariant-loop-token l = token_in (drop l.token-index l.tokens) l.word ≡ token_in l.tokens l.word
