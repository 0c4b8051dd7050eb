-- What is sent for a key makes this key.
use Rattle.std.proofs.Common.{◌≡◌, ℕ, ◌≤◌, inl, inr, List, [], ◌∷◌, ◌++◌, Some, refl, sym, ap, subst, ◌∙◌, arith}
use Rattle.std.proofs.lemmas.Bool.{ne_eqb}
use Rattle.std.proofs.lemmas.Bool.Decides.{nat_tests}
use Rattle.cl_keys.specs.declared.keys.Key.{Key}
use Rattle.cl_keys.specs.declared.keys.Key.TheVariants as key
use Rattle.cl_keys.specs.Decoding.{at_rest, before_keys, begun, keys_from, keys_of, rested, state_after}
use Rattle.cl_keys.specs.Keys.{plain_key, stroke_of}
use Rattle.cl_keys.specs.Laws.{SpellingsGiveAllKeys, SpellingsGiveKeys}
use Rattle.cl_keys.specs.Spelling.{AreSpelledBy, none, more, IsLetter, IsSpelledBy}
use Rattle.cl_keys.proofs.Presses.{press-keys, press-state}
use Rattle.cl_keys.proofs.Cutting.{keys-append, state-append}

-- the bytes make the key alone, and all is at rest again
pub record Gives (bytes : List ℕ) (k : Key) : Type 0 where
  pub keys : keys_of bytes ≡ k ∷ []
  pub state : state_after at_rest bytes ≡ at_rest

-- ---- one byte

typed : (b : ℕ) → 32 ≤ b → b ≤ 126 → plain_key b ≡ Some (key.Typed b)
typed b low high = grind (arith, nat_tests)

typed-rested : (b : ℕ) → 32 ≤ b → rested b ≡ at_rest
typed-rested b low = rw (ne_eqb b 27 (λ e. omega (arith, e))) refl

gives-typed : (b : ℕ) → 32 ≤ b → b ≤ 126 → Gives (b ∷ []) (key.Typed b)
gives-typed b low high = record { keys = ap (λ o. before_keys o []) (typed b low high); state = typed-rested b low }

-- ---- an escape and a letter

stroke : (letter sent : ℕ) → IsLetter letter sent → stroke_of sent ≡ Some (key.Stroke letter)
stroke letter sent (low, high, inl same) = grind (arith, nat_tests)
stroke letter sent (low, high, inr (same, other)) = grind (arith, nat_tests)

stroke-begun : (letter sent : ℕ) → IsLetter letter sent → begun sent ≡ at_rest
stroke-begun letter sent (low, high, inl same) =
    rw (ne_eqb sent 91 (λ e. omega (arith, e, same)), ne_eqb sent 79 (λ e. omega (arith, e, same)), ne_eqb sent 27 (λ e. omega (arith, e, same))) refl
stroke-begun letter sent (low, high, inr (same, other)) =
    rw (ne_eqb sent 91 (λ e. omega (arith, e, same)), ne_eqb sent 79 other, ne_eqb sent 27 (λ e. omega (arith, e, same))) refl

gives-stroke : (letter sent : ℕ) → IsLetter letter sent → Gives (27 ∷ sent ∷ []) (key.Stroke letter)
gives-stroke letter sent h = record { keys = ap (λ o. before_keys o []) (stroke letter sent h); state = stroke-begun letter sent h }

-- ---- all keys

gives : (k : Key) (bytes : List ℕ) → IsSpelledBy k bytes → Gives bytes k
gives (key.Typed b) bytes (same, low, high) = subst (λ l. Gives l (key.Typed b)) (sym same) (gives-typed b low high)
gives key.Return bytes (inl same) = subst (λ l. Gives l key.Return) (sym same) (record { keys = refl; state = refl })
gives key.Return bytes (inr same) = subst (λ l. Gives l key.Return) (sym same) (record { keys = refl; state = refl })
gives key.Rubout bytes (inl same) = subst (λ l. Gives l key.Rubout) (sym same) (record { keys = refl; state = refl })
gives key.Rubout bytes (inr same) = subst (λ l. Gives l key.Rubout) (sym same) (record { keys = refl; state = refl })
gives key.Clear bytes same = subst (λ l. Gives l key.Clear) (sym same) (record { keys = refl; state = refl })
gives key.Force bytes same = subst (λ l. Gives l key.Force) (sym same) (record { keys = refl; state = refl })
gives (key.Stroke letter) bytes (sent, same, h) = subst (λ l. Gives l (key.Stroke letter)) (sym same) (gives-stroke letter sent h)
gives (key.Press press) bytes h = record { keys = press-keys press bytes h; state = press-state press bytes h }
gives key.End bytes same = subst (λ l. Gives l key.End) (sym same) (record { keys = refl; state = refl })

pub spellings_give_keys : SpellingsGiveKeys
spellings_give_keys k bytes h = let g = gives k bytes h in (g.keys, g.state)

all_by : (keys : List Key) (bytes : List ℕ) → AreSpelledBy keys bytes → (keys_of bytes ≡ keys) × (state_after at_rest bytes ≡ at_rest)
all_by keys bytes none = (refl, refl)
all_by keys bytes (more k ks front rest spelled others) =
    let first = gives k front spelled in let behind = all_by ks rest others in
    let from = ap (λ s. keys_from s rest) first.state in let to = ap (λ s. state_after s rest) first.state in (
      keys-append at_rest front rest ∙ ap (λ l. l ++ keys_from (state_after at_rest front) rest) first.keys ∙ ap (λ l. k ∷ l) (from ∙ behind.0),
      state-append at_rest front rest ∙ to ∙ behind.1,
    )

pub spellings_give_all_keys : SpellingsGiveAllKeys
spellings_give_all_keys keys bytes h = all_by keys bytes h
