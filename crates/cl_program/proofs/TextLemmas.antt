-- A text that was read of a file.
use Rattle.std.proofs.Common.{◌≡◌, ◌≤◌, ℕ, List, [], ◌++◌, length, take, sym, ◌∙◌, ap, append-nil, None, Some, Option, subst}
use Rattle.std.specs.Prelude.{◌⊎◌}
use Rattle.std.proofs.Common.{inl, inr}
use Rattle.std.proofs.lemmas.List.{take_at, take_all}
use Rattle.std.proofs.KnownBytes.{Consumes-trans}
use Rattle.std.specs.Io.KnownBytes.{Consumes}
use Rattle.cl_outside.specs.Place.{HasBytes}
use Rattle.cl_program.specs.Texts.{IsTextOf, ReadsAll, ReadsOpened, ReadsText, Grows, first_bytes, most_bytes}
use Rattle.cl_program.specs.declared.texts.TextRead.{TextRead}
use Rattle.cl_program.specs.declared.texts.TextRead.TheVariants as text

-- one read more
pub Consumes-grown : (a b c : Option (List ℕ)) (old new : List ℕ) → Consumes a b old → Grows b c old new → Consumes a c new
Consumes-grown a b c old new h g = let P : List ℕ → Type 0 = λ xs. Consumes a c xs in
    subst P (sym g.same) (Consumes-trans a b c old g.bytes h g.consumed)

-- the end behind what was read
pub Consumes-end : (a b c : Option (List ℕ)) (bytes : List ℕ) → Consumes a b bytes → Consumes b c [] → Consumes a c bytes
Consumes-end a b c bytes h e = let P : List ℕ → Type 0 = λ xs. Consumes a c xs in
    subst P (append-nil bytes) (Consumes-trans a b c bytes [] h e)

taken_up_to : (most : ℕ) (rest bytes : List ℕ) → length bytes ≤ most → (rest ≡ []) ⊎ (length bytes ≡ most) → bytes ≡ take most (bytes ++ rest)
taken_up_to most rest bytes short (inl none) =
    sym (ap (λ xs. take most (bytes ++ xs)) none ∙ (ap (λ xs. take most xs) (append-nil bytes) ∙ take_all most bytes short))
taken_up_to most rest bytes short (inr full) = sym (take_at bytes rest most full)

all_taken : (file rest bytes : List ℕ) → file ≡ bytes ++ rest → length bytes ≤ most_bytes → (rest ≡ []) ⊎ (length bytes ≡ most_bytes) → bytes ≡ first_bytes file
unfolding first_bytes
all_taken file rest bytes e short all = taken_up_to most_bytes rest bytes short all ∙ ap (λ xs. take most_bytes xs) (sym e)

-- all that was left of a file that was just opened is its text
pub IsTextOf-all : (file : Option (Option (List ℕ))) (old new : Option (List ℕ)) (bytes : List ℕ) → HasBytes file old → ReadsAll old new bytes → IsTextOf file bytes
IsTextOf-all None old new bytes h r = tt
IsTextOf-all (Some None) old new bytes h r = absurd h
IsTextOf-all (Some (Some file)) None new bytes h r = cc
IsTextOf-all (Some (Some file)) (Some old) None bytes h r = absurd r.consumed
IsTextOf-all (Some (Some file)) (Some old) (Some rest) bytes h r =
    let same : old ≡ file = cc in
    all_taken file rest bytes (sym same ∙ r.consumed) r.short r.all

-- what was read of the opened file, as the file's text
pub ReadsText-opened : (file : Option (Option (List ℕ))) (old new : Option (List ℕ)) (r : TextRead) → HasBytes file old → ReadsOpened old new r → ReadsText file r
ReadsText-opened file old new (text.Text bytes) h r = IsTextOf-all file old new bytes.items h r
ReadsText-opened file old new text.Failed h r = tt
ReadsText-opened file old new text.Memory h r = tt
