-- What is pushed on a line and taken from it.
use Rattle.std.specs.Prelude.{◌≡◌, ℕ, ◌-◌, ◌<◌, ◌≤◌, List, [], ◌∷◌, ◌++◌, length, drop, take}
use Rattle.std.specs.List.{prefix_len}
use Rattle.cl_value.specs.declared.Value.{Value}
use Rattle.cl_line.specs.declared.elements.Element.{Element}
use Rattle.cl_line.specs.declared.elements.Element.TheVariants.{Object}
use Rattle.cl_line.specs.declared.lines.Pushed.{Pushed}
use Rattle.cl_line.specs.declared.lines.Pushed.TheVariants as pushed
use Rattle.cl_line.specs.declared.lines.TheConstants.{MAX_ELEMENTS}
use Rattle.cl_line.specs.Elements.{characters, is_space}
use Rattle.cl_line.specs.Places.{half_start}
use Rattle.cl_line.specs.Tokens.{tokens_behind}

-- this line, or the old one where this would have too many elements
abbrev pub Becomes : List Element → (old new : List Element) → Pushed → Type 0
Becomes line old new pushed.Done = (new ≡ line) × (length line ≤ MAX_ELEMENTS)
Becomes line old new pushed.Full = (new ≡ old) × (MAX_ELEMENTS < length line)

-- the elements but the last; none of an empty line
abbrev pub without_last : List Element → List Element
without_last line = take (length line - 1) line

-- the line without the token that is being typed, if there is one, and behind it an object; tokens begin at an element
abbrev pub pointed : ℕ → Value → List Element → List Element
pointed from v line = take (half_start (length line) (tokens_behind from line)) line ++ Object v ∷ []

-- where the name of a line begins: behind its leading spaces
abbrev pub front_start : List Element → ℕ
front_start line = prefix_len is_space line

-- the characters in which a name is looked for: from there to the first object
abbrev pub front : List Element → List ℕ
front line = characters (drop (front_start line) line)
