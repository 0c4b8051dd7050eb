-- A sequence that is sent for no key does nothing.
use Rattle.std.proofs.Common.{◌≡◌, ℕ, Bool, true, false, cond, nat_lt, inl, inr, length, List, [], ◌∷◌, ◌++◌, Option, Some, None, All, refl, sym, ap, ◌∙◌, arith, append_assoc, append-nil}
use Rattle.std.proofs.lemmas.Bool.{ne_eqb}
use Rattle.std.proofs.lemmas.Bool.Decides.{nat_tests}
use Rattle.std.proofs.lemmas.List.Elements.{All-head, All-tail}
use Rattle.cl_keys.specs.declared.keys.Key.{Key}
use Rattle.cl_keys.specs.Decoding.{State, Step, at_rest, before_keys, collecting, is_part, key_ended, keys_from, passing, rested, state_after, step}
use Rattle.cl_keys.specs.Laws.{OtherSequencesDoNothing}
use Rattle.cl_keys.specs.Spelling.{IsLast, IsPart, IsSpelledBy, control, shift}
use Rattle.cl_keys.proofs.Sending.{ended-sent}

-- these bytes make no key from a state on, and lead to rest
abbrev pub Nothing : State → List ℕ → Type 0
Nothing s bytes = (keys_from s bytes ≡ []) × (state_after s bytes ≡ at_rest)

-- the state behind these bytes of a control sequence: all are kept, or there are too many
pub data Within (seen : List ℕ) : State → Type 0 where
  kept : Within seen (collecting seen)
  long : Within seen passing

-- ---- one byte more within the sequence

room-within : (seen : List ℕ) (room : Bool) → Within seen (cond room (collecting seen) passing)
room-within seen true = kept
room-within seen false = long

part-yes : (b : ℕ) → IsPart b → is_part b ≡ true
part-yes b part = grind (arith, nat_tests)

-- a step that stays within the sequence
pub record Stays (seen : List ℕ) (n : Step) : Type 0 where
  pub state : Within seen n.state
  pub key : n.key ≡ None

part-stays : (seen : List ℕ) (b : ℕ) (s : State) → Within seen s → IsPart b → Stays (seen ++ b ∷ []) (step s b)
part-stays seen b s kept part = rw (part-yes b part) (record { state = room-within (seen ++ b ∷ []) (nat_lt (length seen) 16); key = refl })
part-stays seen b s long part = rw (part-yes b part) (record { state = long; key = refl })

-- ---- the byte that ends it

part-no : (b : ℕ) → IsLast b → is_part b ≡ false
part-no b (inl low, other) = grind (arith, nat_tests)
part-no b (inr high, other) = grind (arith, nat_tests)

rested-rests : (b : ℕ) → IsLast b → rested b ≡ at_rest
rested-rests b last = rw (ne_eqb b 27 last.1) refl

-- a step to rest without a key
abbrev pub Rests : Step → Type 0
Rests n = (n.key ≡ None) × (n.state ≡ at_rest)

rests-ends : (s : State) (b : ℕ) → Rests (step s b) → Nothing s (b ∷ [])
rests-ends s b h = (ap (λ o. before_keys o []) h.0, h.1)

last-rests : (seen : List ℕ) (b : ℕ) (s : State) → Within seen s → IsLast b → key_ended seen b ≡ None → Rests (step s b)
last-rests seen b s kept last none = rw (part-no b last) (none, rested-rests b last)
last-rests seen b s long last none = rw (part-no b last) (refl, rested-rests b last)

-- ---- the whole sequence

nothing-after : (s : State) (b : ℕ) (bs : List ℕ) → (step s b).key ≡ None → Nothing (step s b).state bs → Nothing s (b ∷ bs)
nothing-after s b bs none more = (ap (λ o. before_keys o (keys_from (step s b).state bs)) none ∙ more.0, more.1)

rest-ends : (seen parts : List ℕ) (b : ℕ) (s : State) → Within seen s → All IsPart parts → IsLast b → key_ended (seen ++ parts) b ≡ None
    → Nothing s (parts ++ b ∷ [])
rest-ends seen [] b s w h last none = rests-ends s b (last-rests seen b s w last (ap (λ l. key_ended l b) (sym (append-nil seen)) ∙ none))
rest-ends seen (x ∷ xs) b s w h last none =
    let next = part-stays seen x s w (All-head IsPart x xs h) in
    let same : key_ended ((seen ++ x ∷ []) ++ xs) b ≡ None = ap (λ l. key_ended l b) (append_assoc seen (x ∷ []) xs) ∙ none in
    let more = rest-ends (seen ++ x ∷ []) xs b (step s x).state next.state (All-tail IsPart x xs h) last same in
    nothing-after s x (xs ++ b ∷ []) next.key more

-- no key is made where none is spelled
none-by : (bytes : List ℕ) (o : Option Key) → ((k : Key) → o ≡ Some k → IsSpelledBy k bytes) → ((k : Key) → IsSpelledBy k bytes → ⊥)
    → o ≡ None
none-by bytes None sent unsent = refl
none-by bytes (Some k) sent unsent = absurd (unsent k (sent k refl))

pub other_sequences_do_nothing : OtherSequencesDoNothing
other_sequences_do_nothing bytes (control parts last h ends) unsent =
    rest-ends [] parts last (collecting []) kept h ends (none-by bytes (key_ended parts last) (ended-sent parts last) unsent)
other_sequences_do_nothing bytes (shift b) unsent = (refl, refl)
