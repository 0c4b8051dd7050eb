-- Which variables count where a form stands.
use Rattle.std.specs.Prelude.{ℕ, Bool, true, false, if◌then◌else◌, List, [], ◌∷◌, ◌++◌, take}
use Rattle.cl_syntax.specs.ExprTree.{Bindings, unbound, binding}
use Rattle.cl_eval.specs.Slots.{is_name}
use Rattle.cl_cover.specs.declared.sights.Sight.{Sight}

-- a name is one of these
abbrev pub is_name_among : List ℕ → List (List ℕ) → Bool
is_name_among y [] = false
is_name_among y (x ∷ xs) = if is_name x y then true else is_name_among y xs

-- every variable counts
abbrev pub everything : Sight
everything = record { slots_alone = false; hidden = [] }

-- no variable counts
abbrev pub slots : Sight
slots = record { slots_alone = true; hidden = [] }

-- a variable does not count
abbrev pub is_hidden : Sight → List ℕ → Bool
is_hidden sight y = if sight.slots_alone then true else is_name_among y sight.hidden

-- behind the binding of a name, the newest last
abbrev pub behind : List ℕ → Sight → Sight
behind x sight = record sight { hidden = sight.hidden ++ x ∷ [] }

-- behind bindings in turn
abbrev pub behind_all : Bindings → Sight → Sight
behind_all unbound sight = sight
behind_all (binding x t bs) sight = behind_all bs (behind x sight)

-- with no more than so many names, the oldest
abbrev pub back_to : ℕ → Sight → Sight
back_to n sight = record sight { hidden = take n sight.hidden }
