-- The elements of a command line: characters and objects.
use Rattle.std.specs.Prelude.{ℕ, Bool, true, false, not, ◌==◌, List, [], ◌∷◌}
use Rattle.cl_line.specs.declared.elements.Element.{Element}
use Rattle.cl_line.specs.declared.elements.Element.TheVariants.{Char, Object}

-- a character, and no object
abbrev pub is_character : Element → Bool
is_character (Char b) = true
is_character (Object v) = false

-- a space parts words
abbrev pub is_space : Element → Bool
is_space (Char b) = b == 32
is_space (Object v) = false

-- a character that is no space
abbrev pub is_in_word : Element → Bool
is_in_word (Char b) = not (b == 32)
is_in_word (Object v) = false

-- characters as elements
abbrev pub typed : List ℕ → List Element
typed [] = []
typed (b ∷ bs) = Char b ∷ typed bs

-- the characters before the first object
abbrev pub characters : List Element → List ℕ
characters [] = []
characters (Char b ∷ es) = b ∷ characters es
characters (Object v ∷ es) = []
