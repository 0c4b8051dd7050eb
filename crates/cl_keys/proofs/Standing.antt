-- A state tells what was sent last, so that a key is made only where what is sent for it ends.
use Rattle.std.proofs.Common.{◌≡◌, ℕ, ◌==◌, Bool, true, false, cond, nat_lt, length, List, [], ◌∷◌, ◌++◌, Some, None, refl, sym, ap, subst, ◌∙◌, append_assoc, append-nil}
use Rattle.std.proofs.lemmas.Bool.{eqb-true}
use Rattle.cl_keys.specs.declared.keys.Key.{Key}
use Rattle.cl_keys.specs.Decoding.{State, Step, at_rest, collecting, escaped, is_part, key_ended, passing, rested, shifted, state_after, step, with_part}
use Rattle.cl_keys.specs.Laws.{KeysAreSpelled}
use Rattle.cl_keys.specs.Spelling.{EndWith, IsSpelledBy}
use Rattle.cl_keys.proofs.Sending.{ended-sent, plain-sent, stroke-sent}

-- the bytes end with these
pub record End (bytes last : List ℕ) : Type 0 where
  pub before : List ℕ
  pub whole : bytes ≡ before ++ last

-- what the bytes end with in a state
abbrev pub Stands : State → List ℕ → Type 0
Stands at_rest bytes = Unit {0}
Stands escaped bytes = End bytes (27 ∷ [])
Stands shifted bytes = Unit {0}
Stands (collecting kept) bytes = End bytes (27 ∷ 91 ∷ kept)
Stands passing bytes = Unit {0}

-- one byte more
end-more : (bytes last : List ℕ) (b : ℕ) → End bytes last → End (bytes ++ b ∷ []) (last ++ b ∷ [])
end-more bytes last b e = record { before = e.before; whole = ap (λ l. l ++ b ∷ []) e.whole ∙ append_assoc e.before last (b ∷ []) }

rested-by : (bytes : List ℕ) (b : ℕ) (escape : Bool) → (b == 27) ≡ escape → Stands (cond escape escaped at_rest) (bytes ++ b ∷ [])
rested-by bytes b true escape = record { before = bytes; whole = ap (λ n. bytes ++ n ∷ []) (eqb-true b 27 escape) }
rested-by bytes b false escape = tt

rested-stands : (bytes : List ℕ) (b : ℕ) → Stands (rested b) (bytes ++ b ∷ [])
rested-stands bytes b = rested-by bytes b (b == 27) refl

begun-by : (bytes : List ℕ) (b : ℕ) (bracket shift : Bool) → End bytes (27 ∷ []) → (b == 91) ≡ bracket
    → Stands (cond bracket (collecting []) (cond shift shifted (rested b))) (bytes ++ b ∷ [])
begun-by bytes b true shift e bracket = subst (λ n. End (bytes ++ n ∷ []) (27 ∷ 91 ∷ [])) (sym (eqb-true b 91 bracket)) (end-more bytes (27 ∷ []) 91 e)
begun-by bytes b false true e bracket = tt
begun-by bytes b false false e bracket = rested-stands bytes b

part-by : (bytes kept : List ℕ) (b : ℕ) (room : Bool) → End bytes (27 ∷ 91 ∷ kept) → Stands (cond room (collecting (kept ++ b ∷ [])) passing) (bytes ++ b ∷ [])
part-by bytes kept b true e = end-more bytes (27 ∷ 91 ∷ kept) b e
part-by bytes kept b false e = tt

-- the step of a control sequence at a byte, which is a part of it or not
abbrev collected : (kept : List ℕ) (b : ℕ) (part : Bool) → Step
collected kept b part = cond {A = Step} part (record { state = with_part kept b; key = None }) (record { state = rested b; key = key_ended kept b })

collecting-by : (bytes kept : List ℕ) (b : ℕ) (part : Bool) → End bytes (27 ∷ 91 ∷ kept)
    → Stands (collected kept b part).state (bytes ++ b ∷ [])
collecting-by bytes kept b true e = part-by bytes kept b (nat_lt (length kept) 16) e
collecting-by bytes kept b false e = rested-stands bytes b

passing-by : (bytes : List ℕ) (b : ℕ) (part : Bool)
    → Stands (cond {A = Step} part (record { state = passing; key = None }) (record { state = rested b; key = None })).state (bytes ++ b ∷ [])
passing-by bytes b true = tt
passing-by bytes b false = rested-stands bytes b

step-stands : (s : State) (bytes : List ℕ) (b : ℕ) → Stands s bytes → Stands (step s b).state (bytes ++ b ∷ [])
step-stands at_rest bytes b e = rested-stands bytes b
step-stands escaped bytes b e = begun-by bytes b (b == 91) (b == 79) e refl
step-stands shifted bytes b e = tt
step-stands (collecting kept) bytes b e = collecting-by bytes kept b (is_part b) e
step-stands passing bytes b e = passing-by bytes b (is_part b)

after-stands : (s : State) (seen bytes : List ℕ) → Stands s seen → Stands (state_after s bytes) (seen ++ bytes)
after-stands s seen [] e = subst (Stands s) (sym (append-nil seen)) e
after-stands s seen (b ∷ bs) e =
    let next = (step s b).state in let more = after-stands next (seen ++ b ∷ []) bs (step-stands s seen b e) in
    subst (Stands (state_after next bs)) (append_assoc seen (b ∷ []) bs) more

-- ---- the key of a step

-- what is sent for the key stands at the end
at-end : (k : Key) (bytes last : List ℕ) (b : ℕ) → End bytes last → IsSpelledBy k (last ++ b ∷ []) → EndWith k (bytes ++ b ∷ [])
at-end k bytes last b e spelled =
    let more = end-more bytes last b e in
    record { before = more.before; sent = last ++ b ∷ []; whole = more.whole; spelled = spelled }

key-by : (bytes kept : List ℕ) (b : ℕ) (k : Key) (part : Bool) → End bytes (27 ∷ 91 ∷ kept)
    → (collected kept b part).key ≡ Some k → EndWith k (bytes ++ b ∷ [])
key-by bytes kept b k true e h = absurd (cc)
key-by bytes kept b k false e h = at-end k bytes (27 ∷ 91 ∷ kept) b e (ended-sent kept b k h)

none-by : (b : ℕ) (k : Key) (part : Bool) (x y : State)
    → (cond {A = Step} part (record { state = x; key = None }) (record { state = y; key = None })).key ≡ Some k → ⊥
none-by b k true x y h = cc
none-by b k false x y h = cc

key-stands : (s : State) (bytes : List ℕ) (b : ℕ) (k : Key) → Stands s bytes → (step s b).key ≡ Some k → EndWith k (bytes ++ b ∷ [])
key-stands at_rest bytes b k e h = record { before = bytes; sent = b ∷ []; whole = refl; spelled = plain-sent b k h }
key-stands escaped bytes b k e h = at-end k bytes (27 ∷ []) b e (stroke-sent b k h)
key-stands shifted bytes b k e h = absurd (cc)
key-stands (collecting kept) bytes b k e h = key-by bytes kept b k (is_part b) e h
key-stands passing bytes b k e h = absurd (none-by b k (is_part b) passing (rested b) h)

pub keys_are_spelled : KeysAreSpelled
keys_are_spelled bytes b k h = key-stands (state_after at_rest bytes) bytes b k (after-stands at_rest [] bytes tt) h
