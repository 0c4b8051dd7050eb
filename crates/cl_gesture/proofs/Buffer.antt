-- Lemmas on a part of a buffer.
use Rattle.std.proofs.Common.{◌≡◌, ◌≤◌, ◌+◌, ◌-◌, ℕ, List, ◌++◌, take, drop, Option, sym, ap, ◌∙◌, arith}
use Rattle.std.proofs.Math.Seq.{take-add}
use Rattle.std.proofs.lemmas.List.{drop-take, drop-drop, length-take-le}
use Rattle.cl_outside.specs.Outside.{ReadTook}
use Rattle.cl_outside.specs.declared.answers.Took.TheVariants.{Bytes}
use Rattle.cl_gesture.specs.Ahead.{FillTook}

-- the part from start to end without its first n
pub drop_part : (n start end : ℕ) (bytes : List ℕ) → n ≤ end - start
    → take (end - (start + n)) (drop (start + n) bytes) ≡ drop n (take (end - start) (drop start bytes))
drop_part n start end bytes short =
    let m = end - (start + n) in let whole : end - start ≡ n + m = omega arith in
    ap (take m) (sym (drop-drop n start bytes)) ∙ sym (drop-take n m (drop start bytes)) ∙ ap (λ k. drop n (take k (drop start bytes))) (sym whole)

-- what was read behind the bytes that were there
pub FillTook-read : (a b : Option (List ℕ)) (old bytes items : List ℕ) (kept n m : ℕ) → take kept bytes ≡ old → ReadTook a b (drop kept bytes) (Bytes n)
    → items ≡ bytes → m ≡ kept + n → FillTook a b old (take m items) (Bytes n)
FillTook-read a b old bytes items kept n m same h is whole = (
  take n (drop kept bytes),
  h.1,
  ap (take m) is ∙ ap (λ k. take k bytes) whole ∙ take-add kept n bytes ∙ ap (λ l. l ++ take n (drop kept bytes)) same,
  length-take-le n (drop kept bytes) h.0,
  h.2,
)
