use Rattle.std.proofs.Common.{◌≡◌, drop}
use Rattle.cl_parser.specs.Parses.{decls_of, without_tokens}
use Rattle.cl_parser.proofs.parsing.Parser.without_tokens.Given as goal

abbrev pub invariant-loop-place : goal.invariant-loop-place
invariant-loop-place g l = without_tokens l.self.app.now l.place l.values (decls_of (drop l.place l.arguments)) ≡ without_tokens l.self.app.now l.first l.initial.values (decls_of (drop l.first l.arguments))
