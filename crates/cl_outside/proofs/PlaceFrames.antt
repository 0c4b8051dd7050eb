-- What the calls of a place in memory leave of its counts, files and open source.
use Rattle.std.proofs.Common.{◌≡◌, ℕ, ◌≤◌, List, ◌++◌, true, false, Option, Some, None, take, refl, sym, subst, arith, ⊎_elim, IsSome}
use Rattle.std.proofs.lemmas.Bool.{cases_Bool}
use Rattle.std.specs.Str.{bytes_eq}
use Rattle.cl_outside.specs.Causes.{Rose}
use Rattle.cl_outside.specs.declared.answers.Took.TheVariants as took
use Rattle.cl_outside.specs.Memory.{one_more}
use Rattle.cl_outside.specs.Named.{updated, bytes_of, count_of}
use Rattle.cl_outside.specs.MemoryPlace.{MemoryPlace, OpenSource, left_in, Reads, other_file, ReadStep, WriteStep}
use Rattle.cl_outside.proofs.Tables.{same_name, bytes_eq-refl, found-updated, found-updated_same, found-updated_other}

-- ---- counts

pub count_of-same : (counts : List (List ℕ × ℕ)) (name : List ℕ) (count : ℕ) → count_of (updated counts name count) name ≡ count
count_of-same counts name count = rw (found-updated_same counts name count) refl

pub count_of-other : (counts : List (List ℕ × ℕ)) (name other : List ℕ) (count : ℕ) → (name ≡ other → ⊥) → count_of (updated counts name count) other ≡ count_of counts other
count_of-other counts name other count apart = rw (found-updated_other counts name other count apart) refl

pub count_of-kept : (counts : List (List ℕ × ℕ)) (name other : List ℕ) → count_of (updated counts name (count_of counts name)) other ≡ count_of counts other
count_of-kept counts name other =
    ⊎_elim (λ (here : bytes_eq name other ≡ true). subst (λ n. count_of (updated counts name (count_of counts name)) n ≡ count_of counts n) (same_name name other here) (count_of-same counts name (count_of counts name)))
    (λ (away : bytes_eq name other ≡ false). rw (found-updated counts name other (count_of counts name), away) refl) (cases_Bool (bytes_eq name other))

pub count_of-later : (counts : List (List ℕ × ℕ)) (name other : List ℕ) → count_of counts other ≤ count_of (updated counts name (one_more (count_of counts name))) other
count_of-later counts name other =
    ⊎_elim (λ (here : bytes_eq name other ≡ true). subst (λ n. count_of counts n ≤ count_of (updated counts name (one_more (count_of counts name))) n) (same_name name other here)
    (rw (count_of-same counts name (one_more (count_of counts name))) (omega arith)))
    (λ (away : bytes_eq name other ≡ false). rw (found-updated counts name other (one_more (count_of counts name)), away) (omega arith)) (cases_Bool (bytes_eq name other))

pub count_of-rose : (counts : List (List ℕ × ℕ)) (name : List ℕ)
    → (count_of counts name ≤ count_of (updated counts name (one_more (count_of counts name))) name) × Rose (count_of counts name) (count_of (updated counts name (one_more (count_of counts name))) name)
count_of-rose counts name = rw (count_of-same counts name (one_more (count_of counts name))) (omega arith, omega arith)

-- ---- the open source and the other files

pub left_in-other : (files : List (List ℕ × List ℕ)) (source : Option OpenSource) (name bytes : List ℕ) → (Reads source name → ⊥) → left_in (updated files name bytes) source ≡ left_in files source
left_in-other files None name bytes apart = refl
left_in-other files (Some s) name bytes apart = rw (found-updated_other files name s.name bytes (λ e. apart (sym e))) refl

pub other_file-updated : (files : List (List ℕ × List ℕ)) (made bytes other : List ℕ) → other_file (updated files made bytes) (Some made) other ≡ other_file files (Some made) other
other_file-updated files made bytes other =
    ⊎_elim (λ (here : bytes_eq made other ≡ true). rw here refl) (λ (away : bytes_eq made other ≡ false). rw (found-updated files made other bytes, away) refl) (cases_Bool (bytes_eq made other))

-- ---- a read that failed, and a write that did not

pub read_rose : (old new : MemoryPlace) (source : Option OpenSource) → ReadStep old new source took.Failed → (name : List ℕ) → Reads source name
    → (count_of old.faults name ≤ count_of new.faults name) × Rose (count_of old.faults name) (count_of new.faults name)
read_rose old new None step name reads = absurd step
read_rose old new (Some s) step name reads = subst (λ n. (count_of old.faults n ≤ count_of new.faults n) × Rose (count_of old.faults n) (count_of new.faults n)) reads (rw step (count_of-rose old.faults s.name))

pub read_later : (old new : MemoryPlace) (source : Option OpenSource) → ReadStep old new source took.Failed → (other : List ℕ) → count_of old.faults other ≤ count_of new.faults other
read_later old new None step other = absurd step
read_later old new (Some s) step other = rw step (count_of-later old.faults s.name other)

pub read_others : (old new : MemoryPlace) (source : Option OpenSource) → ReadStep old new source took.Failed → (other : List ℕ) → (Reads source other → ⊥) → count_of new.faults other ≡ count_of old.faults other
read_others old new None step other apart = absurd step
read_others old new (Some s) step other apart = rw step (count_of-other old.faults s.name other (one_more (count_of old.faults s.name)) apart)

pub write_left : (old new : MemoryPlace) (sink : Option (List ℕ)) (bytes : List ℕ) (n : ℕ) → WriteStep old new sink bytes (took.Bytes n)
    → ((name : List ℕ) → Reads old.source name → IsSome (other_file old.files sink name)) → left_in new.files new.source ≡ left_in old.files old.source
write_left old new None bytes n step apart = absurd step
write_left old new (Some made) bytes n step apart =
    rw step.1 (left_in-other old.files old.source made (bytes_of old.files made ++ take n bytes) (λ reads. let no : IsSome (other_file old.files (Some made) made) = apart made reads in
    let none : other_file old.files (Some made) made ≡ None = rw (bytes_eq-refl made) refl in
    let false_true = rw none at no in cc))

pub write_others : (old new : MemoryPlace) (sink : Option (List ℕ)) (bytes : List ℕ) (n : ℕ) → old.sink ≡ sink → WriteStep old new sink bytes (took.Bytes n) → (other : List ℕ)
    → other_file new.files new.sink other ≡ other_file old.files old.sink other
write_others old new None bytes n is step other = absurd step
write_others old new (Some made) bytes n is step other = rw (step.1, is) (other_file-updated old.files made (bytes_of old.files made ++ take n bytes) other)
