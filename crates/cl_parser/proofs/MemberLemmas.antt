-- What is parsed are members of the arguments' types.
use Rattle.std.proofs.Common.{◌≡◌, ℕ, ◌+◌, Bool, true, false, List, [], ◌∷◌, ◌++◌, refl, sym, ap, subst, ◌∙◌, append_assoc, append-nil, Option, Some, None}
use Rattle.cl_application.specs.declared.declarations.ArgumentDecl.{ArgumentDecl}
use Rattle.cl_eval.specs.TypeMeanings.{AreObjects}
use Rattle.cl_line.specs.Texts.{object_of, text_of}
use Rattle.cl_line.specs.declared.elements.Element.{Element}
use Rattle.cl_line.specs.declared.tokens.Token.{Token}
use Rattle.cl_parser.specs.Defaults.{default_value}
use Rattle.cl_parser.specs.Laws.{AreMembers, DefaultsHold, ParsesMembers}
use Rattle.cl_parser.specs.Parses.{parse_behind, value_or, without_tokens}
use Rattle.cl_parser.specs.Tokens.{Scene, if_holds, object_value, token_value, value_by}
use Rattle.cl_parser.specs.declared.parsing.Parsed.{Parsed}
use Rattle.cl_parser.specs.declared.parsing.Parsed.TheVariants.{Arguments, BadArg, Need}
use Rattle.cl_syntax.specs.TypeSpecTree.{TypeSpecTree}
use Rattle.cl_value.specs.Data.{Data}
use Rattle.cl_value.specs.Value.{data_of}
use Rattle.cl_value.specs.declared.Value.{Value}

-- ---- tokens

if_holds-some : (b : Bool) (e d : Data) → if_holds b e ≡ Some d → (b ≡ true) × (e ≡ d)
if_holds-some true e d h = (refl, cc)
if_holds-some false e d h = cc

object_holds : (s : Scene) (spec : TypeSpecTree) (e d : Data) → object_value s spec e ≡ Some d → s.holds d spec ≡ true
object_holds s spec e d h =
    let parts = if_holds-some (s.holds e spec) e d h in
    subst (λ x. s.holds x spec ≡ true) parts.1 parts.0

value_holds : (s : Scene) → AreObjects s.holds s.reads → (spec : TypeSpecTree) (text : Option (List ℕ)) (object : Option Value) (d : Data)
    → value_by s spec text object ≡ Some d → s.holds d spec ≡ true
value_holds s law spec (Some x) object d h = law s.slots spec x d h
value_holds s law spec None (Some v) d h = object_holds s spec (data_of v) d h
value_holds s law spec None None d h = cc

-- ---- values behind others

-- values behind others, one for each argument, members of their types
abbrev Behind : Scene → List Data → List Data → List ArgumentDecl → Type 0
Behind s before all args = (ds : List Data) × (all ≡ before ++ ds) × AreMembers s ds args

one_more : (s : Scene) (before all : List Data) (d : Data) (a : ArgumentDecl) (args : List ArgumentDecl) → s.holds d a.spec ≡ true → Behind s (before ++ d ∷ []) all args → Behind s before all (a ∷ args)
one_more s before all d a args h b = (d ∷ b.0, b.1 ∙ append_assoc before (d ∷ []) b.0, (h, b.2))

-- what follows a value
value_given : (answer : Parsed) (v : Option Data) (behind : Data → Parsed) (all : List Data) → (answer ≡ Arguments all → ⊥) → value_or answer v behind ≡ Arguments all
    → (d : Data) × (v ≡ Some d) × (behind d ≡ Arguments all)
value_given answer None behind all other h = absurd (other h)
value_given answer (Some d) behind all other h = (d, refl, h)

arguments_is : (xs ys : List Data) → ◌≡◌ {A = Parsed} (Arguments xs) (Arguments ys) → xs ≡ ys
arguments_is xs ys h = cc

need_is_other : (place : ℕ) (all : List Data) → ◌≡◌ {A = Parsed} (Need place) (Arguments all) → ⊥
need_is_other place all h = cc

bad_is_other : (number : ℕ) (all : List Data) → ◌≡◌ {A = Parsed} (BadArg number) (Arguments all) → ⊥
bad_is_other number all h = cc

defaults_hold : (s : Scene) (place : ℕ) (before : List Data) (args : List ArgumentDecl) (all : List Data) → DefaultsHold s args → without_tokens s.app place before args ≡ Arguments all → Behind s before all args
defaults_hold s place before [] all h is = ([], sym (arguments_is before all is) ∙ sym (append-nil before), tt)
defaults_hold s place before (a ∷ args) all h is =
    let given = value_given (Need place) (default_value s.app a) (λ d. without_tokens s.app (place + 1) (before ++ d ∷ []) args) all (need_is_other place all) is in
    let d = given.0 in
    one_more s before all d a args (h.0 d given.1) (defaults_hold s (place + 1) (before ++ d ∷ []) args all h.1 given.2)

-- ---- the tokens beside the arguments

parsed_hold : (s : Scene) → AreObjects s.holds s.reads → (line : List Element) (place : ℕ) (before : List Data) (ts : List Token) (args : List ArgumentDecl) (all : List Data)
    → DefaultsHold s args → parse_behind s line place before ts args ≡ Arguments all → Behind s before all args
parsed_hold s law line place before [] args all h is = defaults_hold s place before args all h is
parsed_hold s law line place before (t ∷ ts) [] all h is = cc
parsed_hold s law line place before (t ∷ ts) (a ∷ args) all h is =
    let given = value_given (BadArg (place + 1)) (token_value s a.spec line t) (λ d. parse_behind s line (place + 1) (before ++ d ∷ []) ts args) all (bad_is_other (place + 1) all) is in
    let d = given.0 in
    one_more s before all d a args (value_holds s law a.spec (text_of line t) (object_of line t) d given.1) (parsed_hold s law line (place + 1) (before ++ d ∷ []) ts args all h.1 given.2)

pub parses_members : ParsesMembers
parses_members s line ts args ds law h is =
    let b = parsed_hold s law line 0 [] ts args ds h is in
    subst (λ x. AreMembers s x args) (sym b.1) b.2
