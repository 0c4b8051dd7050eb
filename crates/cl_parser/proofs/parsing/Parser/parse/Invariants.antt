use Rattle.std.proofs.Common.{◌≡◌, drop}
use Rattle.cl_line.specs.Tokens.{tokens_behind}
use Rattle.cl_parser.specs.Parses.{decls_of, parse, parse_behind}
use Rattle.cl_parser.specs.Tokens.{scene_of}
use Rattle.cl_parser.proofs.parsing.Parser.parse.Given as goal

abbrev pub invariant-loop-place : goal.invariant-loop-place
invariant-loop-place g l =
    parse_behind (scene_of g.T.Types.holds g.T.Types.reads l.self) l.line l.place l.values (tokens_behind l.at l.line) (decls_of (drop l.place l.arguments))
    ≡ parse (scene_of g.T.Types.holds g.T.Types.reads l.self) l.line (tokens_behind l.from l.line) (decls_of l.arguments)
