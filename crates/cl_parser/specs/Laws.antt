-- What parsing means, in the words of the language.
use Rattle.std.specs.Prelude.{◌≡◌, true, List, [], ◌∷◌, Some}
use Rattle.cl_application.specs.declared.declarations.ArgumentDecl.{ArgumentDecl}
use Rattle.cl_eval.specs.TypeMeanings.{AreObjects}
use Rattle.cl_line.specs.declared.elements.Element.{Element}
use Rattle.cl_line.specs.declared.tokens.Token.{Token}
use Rattle.cl_parser.specs.Defaults.{default_value}
use Rattle.cl_parser.specs.Parses.{parse}
use Rattle.cl_parser.specs.Tokens.{Scene}
use Rattle.cl_parser.specs.declared.parsing.Parsed.TheVariants.{Arguments}
use Rattle.cl_value.specs.Data.{Data}

-- there is one value for each argument, a member of its type
abbrev pub AreMembers : Scene → List Data → List ArgumentDecl → Type 0
AreMembers s [] [] = Unit {0}
AreMembers s [] (a ∷ args) = ⊥
AreMembers s (d ∷ ds) [] = ⊥
AreMembers s (d ∷ ds) (a ∷ args) = (s.holds d a.spec ≡ true) × AreMembers s ds args

-- the value of each default is a member of its argument's type
abbrev pub DefaultsHold : Scene → List ArgumentDecl → Type 0
DefaultsHold s [] = Unit {0}
DefaultsHold s (a ∷ args) = ((d : Data) → default_value s.app a ≡ Some d → s.holds d a.spec ≡ true) × DefaultsHold s args

-- what is parsed are members of the arguments' types, where what texts read as and the defaults are
abbrev pub ParsesMembers : Type 0
ParsesMembers = (s : Scene) (line : List Element) (ts : List Token) (args : List ArgumentDecl) (ds : List Data)
    → AreObjects s.holds s.reads → DefaultsHold s args → parse s line ts args ≡ Arguments ds → AreMembers s ds args
