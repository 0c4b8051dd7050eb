-- What the tokens of a line are read as, for the arguments of a command.
use Rattle.std.specs.Prelude.{ℕ, ◌+◌, List, [], ◌∷◌, ◌++◌, map, Option, Some, None}
use Rattle.cl_application.specs.declared.applications.App.{App}
use Rattle.cl_application.specs.declared.declarations.ArgumentDecl.{ArgumentDecl}
use Rattle.cl_line.specs.declared.elements.Element.{Element}
use Rattle.cl_line.specs.declared.tokens.Token.{Token}
use Rattle.cl_parser.specs.Defaults.{default_value}
use Rattle.cl_parser.specs.Tokens.{Scene, token_value}
use Rattle.cl_parser.specs.declared.parsing.Parsed.{Parsed}
use Rattle.cl_parser.specs.declared.parsing.Parsed.TheVariants.{Arguments, Need, BadArg, Surplus}
use Rattle.cl_value.specs.Data.{Data}

-- the arguments of a command in order
abbrev pub decls_of : List (List ℕ × ArgumentDecl) → List ArgumentDecl
decls_of table = map (λ e. e.1) table

-- what follows a value, or else this answer
abbrev pub value_or : Parsed → Option Data → (Data → Parsed) → Parsed
value_or answer None behind = answer
value_or answer (Some d) behind = behind d

-- the arguments from a place on, which have no token, behind these values: the first without a default is needed
abbrev pub without_tokens : App → ℕ → List Data → List ArgumentDecl → Parsed
without_tokens app place ds [] = Arguments ds
without_tokens app place ds (a ∷ args) = value_or (Need place) (default_value app a) (λ d. without_tokens app (place + 1) (ds ++ d ∷ []) args)

-- the tokens beside the arguments from a place on, behind these values: the first that gives nothing is bad
abbrev pub parse_behind : Scene → List Element → ℕ → List Data → List Token → List ArgumentDecl → Parsed
parse_behind s line place ds [] args = without_tokens s.app place ds args
parse_behind s line place ds (t ∷ ts) [] = Surplus
parse_behind s line place ds (t ∷ ts) (a ∷ args) =
    value_or (BadArg (place + 1)) (token_value s a.spec line t) (λ d. parse_behind s line (place + 1) (ds ++ d ∷ []) ts args)

-- what tokens are read as for arguments
abbrev pub parse : Scene → List Element → List Token → List ArgumentDecl → Parsed
parse s line ts args = parse_behind s line 0 [] ts args
