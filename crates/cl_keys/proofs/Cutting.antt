-- Keys of bytes that are cut.
use Rattle.std.proofs.Common.{◌≡◌, ℕ, List, [], ◌∷◌, ◌++◌, Option, Some, None, refl, ap, ◌∙◌}
use Rattle.cl_keys.specs.declared.keys.Key.{Key}
use Rattle.cl_keys.specs.Decoding.{State, before_keys, keys_from, state_after, step}
use Rattle.cl_keys.specs.Laws.{CutsAreFree}

before-append : (o : Option Key) (ks ls : List Key) → before_keys o (ks ++ ls) ≡ before_keys o ks ++ ls
before-append None ks ls = refl
before-append (Some k) ks ls = refl

pub keys-append : (s : State) (xs ys : List ℕ) → keys_from s (xs ++ ys) ≡ keys_from s xs ++ keys_from (state_after s xs) ys
keys-append s [] ys = refl
keys-append s (x ∷ xs) ys =
    let next = (step s x).state in let ended = (step s x).key in
    ap (before_keys ended) (keys-append next xs ys) ∙ before-append ended (keys_from next xs) (keys_from (state_after next xs) ys)

pub state-append : (s : State) (xs ys : List ℕ) → state_after s (xs ++ ys) ≡ state_after (state_after s xs) ys
state-append s [] ys = refl
state-append s (x ∷ xs) ys = state-append (step s x).state xs ys

pub cuts_are_free : CutsAreFree
cuts_are_free s xs ys = (keys-append s xs ys, state-append s xs ys)
