-- What a token of a line gives to be read.
use Rattle.std.specs.Prelude.{ℕ, ◌-◌, Bool, true, false, ◌==◌, List, [], ◌∷◌, drop, take, Option, Some, None, if◌then◌else◌}
use Rattle.cl_value.specs.declared.Value.{Value}
use Rattle.cl_line.specs.declared.elements.Element.{Element}
use Rattle.cl_line.specs.declared.elements.Element.TheVariants.{Char, Object}
use Rattle.cl_line.specs.declared.tokens.Token.{Token}
use Rattle.cl_line.specs.declared.tokens.TokenKind.{TokenKind}
use Rattle.cl_line.specs.declared.tokens.TokenKind.TheVariants as kind
use Rattle.cl_line.specs.Elements.{characters}

-- what stands before the closing quote, without each `\` that gives the character behind it; the first may be given so
abbrev pub unquoted : (escaped : Bool) → List ℕ → List ℕ
unquoted escaped [] = []
unquoted true (b ∷ bs) = b ∷ unquoted false bs
unquoted false (b ∷ bs) =
    if b == 34 then []
    else (if b == 92 then unquoted true bs else b ∷ unquoted false bs)

-- the text of a token of these characters; None of an open one and of an object
abbrev pub text_by : TokenKind → List ℕ → Option (List ℕ)
text_by kind.Plain bytes = Some bytes
text_by kind.Quoted bytes = Some (unquoted false (drop 1 bytes))
text_by kind.Open bytes = None
text_by kind.Object bytes = None

-- the elements of a token
abbrev pub elements_of : List Element → Token → List Element
elements_of line t = take (t.end - t.start) (drop t.start line)

-- the text of a token
abbrev pub text_of : List Element → Token → Option (List ℕ)
text_of line t = text_by t.kind (characters (elements_of line t))

-- the first of elements, where it is an object
abbrev pub first_object : List Element → Option Value
first_object [] = None
first_object (Char b ∷ es) = None
first_object (Object v ∷ es) = Some v

-- the object of a token that is one
abbrev pub object_by : TokenKind → List Element → Option Value
object_by kind.Plain es = None
object_by kind.Quoted es = None
object_by kind.Open es = None
object_by kind.Object es = first_object es

-- the object of a token in its line
abbrev pub object_of : List Element → Token → Option Value
object_of line t = object_by t.kind (elements_of line t)
