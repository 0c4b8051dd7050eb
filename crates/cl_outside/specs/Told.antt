-- A place in memory tells each of its files: it is one of the others, or the made sink's.
use Rattle.std.specs.Prelude.{◌≡◌, ℕ, List, Bool, Option, None, Some, if◌then◌else◌, refl, true, false}
use Rattle.std.proofs.Common.{sym, subst, ⊎_elim}
use Rattle.std.proofs.lemmas.Bool.{cases_Bool}
use Rattle.std.proofs.lemmas.Slice.Eq.{bytes_eq-Decides}
use Rattle.std.specs.Str.{bytes_eq}
use Rattle.cl_outside.specs.Named.{found}
use Rattle.cl_outside.specs.Place.{IsTold}
use Rattle.cl_outside.specs.MemoryPlace.{taken_in, other_file}

-- a file is told by what it holds
pub told_same : (file : Option (List ℕ)) → IsTold None file (Some file)
told_same None = tt
told_same (Some bytes) = refl

-- the file of each name is told, the made sink's by what the sink took
pub told_files : (files : List (List ℕ × List ℕ)) (sink : Option (List ℕ)) (name : List ℕ) → IsTold (other_file files sink name) (taken_in files sink) (Some (found files name))
told_files files None name = refl
told_files files (Some made) name =
    let Told : Bool → Type 0 = λ b. IsTold (if b then None else Some (found files name)) (found files made) (Some (found files name)) in
    let Taken : List ℕ → Type 0 = λ n. IsTold None (found files n) (Some (found files name)) in
    ⊎_elim (λ (here : bytes_eq made name ≡ true). subst Told (sym here) (subst Taken (sym ((bytes_eq-Decides made name).0 here)) (told_same (found files name))))
    (λ (away : bytes_eq made name ≡ false). let other : Told false = refl in subst Told (sym away) other) (cases_Bool (bytes_eq made name))
