-- What a copy to the front of a buffer hands over.
use Rattle.std.proofs.Common.{◌≡◌, ℕ, ◌+◌, ◌-◌, ◌<◌, ◌≤◌, min, List, [], ◌++◌, length, take, drop, sym, ap, ◌∙◌, arith, length-take, length-drop, length-append}
use Rattle.std.proofs.lemmas.List.{take_at, drop-drop, take-append-drop, nil_from_length}

-- the n bytes that were next stand at the front of the buffer
pub handed_over : (content copied buf : List ℕ) (at n : ℕ) → copied ≡ take n (drop at content)
    → n ≡ min (length (drop at content)) (length buf) → 0 < length buf → at ≤ length content
    → (n ≤ length (copied ++ drop n buf)) × (drop at content ≡ take n (copied ++ drop n buf) ++ drop (at + n) content) × (n ≡ 0 → drop (at + n) content ≡ [])
handed_over content copied buf at n is_copied is_n room within =
    let rest : List ℕ = drop at content in
    let all : length copied ≡ n = omega (arith, ap length is_copied, length-take n rest) in
    let behind : drop n rest ≡ drop (at + n) content = drop-drop n at content in
    let count : length (drop (at + n) content) ≡ length content - (at + n) = length-drop (at + n) content in (
      omega (arith, length-append copied (drop n buf)),
      sym (take-append-drop n rest) ∙ ap (λ l. l ++ drop n rest) (sym is_copied ∙ sym (take_at copied (drop n buf) n all)) ∙ ap (λ l. take n (copied ++ drop n buf) ++ l) behind,
      λ none. nil_from_length (drop (at + n) content) (omega (arith, count, is_n, none, length-drop at content)),
    )
