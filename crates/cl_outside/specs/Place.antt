-- What a place tells of its files, and what its calls do, by what they answer.
use Rattle.std.specs.Prelude.{◌≡◌, ℕ, ◌≤◌, List, Option, [], ⊤, None, Some}
use Rattle.cl_outside.specs.Causes.{Rose}
use Rattle.cl_outside.specs.declared.answers.Opened.{Opened}
use Rattle.cl_outside.specs.declared.answers.Opened.TheVariants.{Done, Failed, Memory}

-- the bytes of this file: of one that is told, these and no others
abbrev pub HasBytes : Option (Option (List ℕ)) → Option (List ℕ) → Type 0
HasBytes None bytes = ⊤
HasBytes (Some None) bytes = ⊥
HasBytes (Some (Some file)) bytes = bytes ≡ Some file

-- there is such a file, and it is empty
abbrev pub IsEmptyFile : Option (Option (List ℕ)) → Type 0
IsEmptyFile None = ⊤
IsEmptyFile (Some None) = ⊥
IsEmptyFile (Some (Some bytes)) = bytes ≡ []

-- a file is one of the others, or the one that holds what the made sink took
abbrev pub IsTold : Option (Option (List ℕ)) → Option (List ℕ) → Option (Option (List ℕ)) → Type 0
IsTold (Some other) taken file = file ≡ Some other
IsTold None None file = ⊤
IsTold None (Some bytes) file = file ≡ Some (Some bytes)

-- a fact that holds where the answer is Done
abbrev pub OnDone : Opened → Type 0 → Type 0
OnDone Done P = P
OnDone Failed P = ⊤
OnDone Memory P = ⊤

-- a fact that holds where the answer is Memory
abbrev pub OnMemory : Opened → Type 0 → Type 0
OnMemory Done P = ⊤
OnMemory Failed P = ⊤
OnMemory Memory P = P

-- no count falls; one rose where the call failed, and none where memory was wanted
abbrev pub OpenedRose : ℕ → ℕ → Opened → Type 0
OpenedRose before now Done = before ≤ now
OpenedRose before now Failed = (before ≤ now) × Rose before now
OpenedRose before now Memory = now ≡ before
