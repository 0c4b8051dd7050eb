-- Pieces that are copied one behind the other are joined.
use Rattle.std.proofs.Common.{◌≡◌, ℕ, ◌+◌, ◌<◌, ◌≤◌, List, ◌++◌, length, map, take, drop, get_or, sym, ◌∙◌, ap, append_assoc, length-append}
use Rattle.std.proofs.lemmas.Slice.{take-put_mid}
use borrow.Rule.Slice.PartMut.{put_mid}
use Rattle.cl_outside.specs.Writing.{joined}
use Rattle.cl_outside.proofs.WritingLemmas.{joined-next}

-- the pieces that are left are as long as the next one and those behind it
pub length-joined-next : {A : Type 0} (f : A → List ℕ) (pieces : List A) (d : A) (n : ℕ) → n < length pieces
    → length (joined (map f (drop n pieces))) ≡ length (f (get_or pieces n d)) + length (joined (map f (drop (n + 1) pieces)))
length-joined-next f pieces d n h =
    ap (λ l. length l) (joined-next f pieces d n h) ∙ length-append (f (get_or pieces n d)) (joined (map f (drop (n + 1) pieces)))

-- behind the pieces before it stands the copy of the next one, and the others are left
pub joined-copied : {A : Type 0} (f : A → List ℕ) (pieces : List A) (d : A) (n at k : ℕ) (old new whole : List ℕ) → n < length pieces → at ≤ length old
    → new ≡ f (get_or pieces n d) → take at old ++ joined (map f (drop n pieces)) ≡ whole
    → take (at + length (f (get_or pieces n d))) (put_mid at k old new) ++ joined (map f (drop (n + 1) pieces)) ≡ whole
joined-copied f pieces d n at k old new whole h within same front =
    let piece = f (get_or pieces n d) in
    let others = joined (map f (drop (n + 1) pieces)) in
    let copied : take (at + length piece) (put_mid at k old new) ≡ take at old ++ piece =
    take-put_mid at k old new (at + length piece) (ap (λ l. at + length l) (sym same)) within ∙ ap (λ l. take at old ++ l) same in
    ap (λ l. l ++ others) copied ∙ append_assoc (take at old) piece others ∙ ap (λ l. take at old ++ l) (sym (joined-next f pieces d n h)) ∙ front
