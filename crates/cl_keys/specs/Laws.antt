-- What the keys of bytes are, in the words of who sends them.
use Rattle.std.specs.Prelude.{◌≡◌, ℕ, List, [], ◌∷◌, ◌++◌, Some}
use Rattle.cl_keys.specs.declared.keys.Key.{Key}
use Rattle.cl_keys.specs.Decoding.{State, at_rest, keys_from, keys_of, state_after, step}
use Rattle.cl_keys.specs.Spelling.{AreSpelledBy, EndWith, IsSequence, IsSpelledBy}

-- a cut changes nothing: the keys are those of the first part and then those of the second, which goes on where the first left off
abbrev pub CutsAreFree : Type 0
CutsAreFree = (s : State) (xs ys : List ℕ)
    → (keys_from s (xs ++ ys) ≡ keys_from s xs ++ keys_from (state_after s xs) ys)
    × (state_after s (xs ++ ys) ≡ state_after (state_after s xs) ys)

-- what is sent for a key makes this key
abbrev pub SpellingsGiveKeys : Type 0
SpellingsGiveKeys = (k : Key) (bytes : List ℕ) → IsSpelledBy k bytes → (keys_of bytes ≡ k ∷ []) × (state_after at_rest bytes ≡ at_rest)

-- what is sent for keys makes these keys
abbrev pub SpellingsGiveAllKeys : Type 0
SpellingsGiveAllKeys = (keys : List Key) (bytes : List ℕ) → AreSpelledBy keys bytes → (keys_of bytes ≡ keys) × (state_after at_rest bytes ≡ at_rest)

-- no byte ends a key, but where the bytes up to it end with what is sent for this key
abbrev pub KeysAreSpelled : Type 0
KeysAreSpelled = (bytes : List ℕ) (byte : ℕ) (k : Key) → (step (state_after at_rest bytes) byte).key ≡ Some k → EndWith k (bytes ++ byte ∷ [])

-- a sequence that is sent for no key makes none, however long it is
abbrev pub OtherSequencesDoNothing : Type 0
OtherSequencesDoNothing = (bytes : List ℕ) → IsSequence bytes → ((k : Key) → IsSpelledBy k bytes → ⊥)
    → (keys_of bytes ≡ []) × (state_after at_rest bytes ≡ at_rest)
