-- The first piece of a text.
use Rattle.std.proofs.Common.{◌≡◌, ℕ, suc, ◌+◌, ◌<◌, ◌≤◌, Bool, true, false, List, [], ◌∷◌, ◌++◌, length, take, drop, ap, sym, arith, add-one, ◌∙◌}
use Rattle.std.specs.Prelude.{◌&&◌, ◌==◌, if◌then◌else◌}
use Rattle.std.proofs.lemmas.List.{append-nil, append_assoc}
use Rattle.cl_ptext.specs.Parts.{may_end, piece_length, pieces_from, stage_behind}
use Rattle.cl_ptext.specs.declared.pieces.Stage.{Stage}
use Rattle.cl_ptext.specs.declared.pieces.Stage.TheVariants.{Leading}

-- where no separator comes, all is one piece
whole_by : (s : ℕ) (st : Stage) (p : List ℕ) (b : ℕ) (bs : List ℕ) (t : Bool) → suc (length bs) ≤ (if t then 0 else 1 + piece_length s (stage_behind st b) bs)
    → (length bs ≤ piece_length s (stage_behind st b) bs → pieces_from s (stage_behind st b) (p ++ b ∷ []) bs ≡ ((p ++ b ∷ []) ++ bs) ∷ [])
    → (if t then p ∷ pieces_from s Leading [] bs else pieces_from s (stage_behind st b) (p ++ b ∷ []) bs) ≡ (p ++ b ∷ bs) ∷ []
whole_by s st p b bs true h more = absurd (omega (arith, h))
whole_by s st p b bs false h more = more (omega (arith, h)) ∙ ap (λ x. x ∷ []) (append_assoc p (b ∷ []) bs)

whole : (s : ℕ) (st : Stage) (p bs : List ℕ) → length bs ≤ piece_length s st bs → pieces_from s st p bs ≡ (p ++ bs) ∷ []
whole s st p [] h = ap (λ x. x ∷ []) (sym (append-nil p))
whole s st p (b ∷ bs) h = whole_by s st p b bs (may_end st && b == s) h (whole s (stage_behind st b) (p ++ b ∷ []) bs)

-- the first piece is what stands before the separator
cut_by : (s : ℕ) (st : Stage) (p : List ℕ) (b : ℕ) (bs : List ℕ) (t : Bool) → (if t then 0 else 1 + piece_length s (stage_behind st b) bs) < suc (length bs)
    → (piece_length s (stage_behind st b) bs < length bs → pieces_from s (stage_behind st b) (p ++ b ∷ []) bs
    ≡ ((p ++ b ∷ []) ++ take (piece_length s (stage_behind st b) bs) bs) ∷ pieces_from s Leading [] (drop (suc (piece_length s (stage_behind st b) bs)) bs))
    → (if t then p ∷ pieces_from s Leading [] bs else pieces_from s (stage_behind st b) (p ++ b ∷ []) bs)
    ≡ (p ++ take (if t then 0 else 1 + piece_length s (stage_behind st b) bs) (b ∷ bs)) ∷ pieces_from s Leading []
    (drop (suc (if t then 0 else 1 + piece_length s (stage_behind st b) bs)) (b ∷ bs))
cut_by s st p b bs true h more = ap (λ x. x ∷ pieces_from s Leading [] bs) (sym (append-nil p))
cut_by s st p b bs false h more =
    let n = piece_length s (stage_behind st b) bs in
    let one : 1 + n ≡ suc n = omega arith in
    rw one (more (omega (arith, h)) ∙ ap (λ x. x ∷ pieces_from s Leading [] (drop (suc n) bs)) (append_assoc p (b ∷ []) (take n bs)))

cut : (s : ℕ) (st : Stage) (p bs : List ℕ) → piece_length s st bs < length bs
    → pieces_from s st p bs ≡ (p ++ take (piece_length s st bs) bs) ∷ pieces_from s Leading [] (drop (suc (piece_length s st bs)) bs)
cut s st p [] h = absurd (omega (arith, h))
cut s st p (b ∷ bs) h = cut_by s st p b bs (may_end st && b == s) h (cut s (stage_behind st b) (p ++ b ∷ []) bs)

pub whole_piece : (s : ℕ) (bs : List ℕ) → length bs ≤ piece_length s Leading bs → pieces_from s Leading [] bs ≡ bs ∷ []
whole_piece s bs h = whole s Leading [] bs h

pub first_piece : (s : ℕ) (bs : List ℕ) → piece_length s Leading bs < length bs
    → pieces_from s Leading [] bs ≡ take (piece_length s Leading bs) bs ∷ pieces_from s Leading [] (drop (piece_length s Leading bs + 1) bs)
first_piece s bs h = rw add-one (cut s Leading [] bs h)
