-- What a word says, with its bytes.
use Rattle.std.proofs.Common.{◌≡◌, ℕ, ◌∙◌, ◌&&◌, ◌==◌, Bool, [], ◌∷◌, ◌++◌, true, false, nat_eq, nat_lt, Option, None, Some, length, take, drop, drop-cons, get_or, suc, refl, sym, ap, subst, codes}
use Rattle.std.specs.List.{starts_with}
use Rattle.std.specs.Str.{bytes_eq}
use Rattle.std.proofs.lemmas.Bool.{eqb-true, ltb-true}
use Rattle.std.proofs.lemmas.List.{take-append-drop}
use Rattle.std.proofs.lemmas.Slice.Eq.{bytes_eq-Decides}
use Rattle.clap.specs.Walk.{Text}
use Rattle.cl_invocation.specs.Words.{Name, wire, budget, names, gives, nothing, behind, is_plain, said_by}
use Rattle.cl_invocation.proofs.Steps.{IsNoFlag, name_word, value_word}

no_and : (b : Bool) → (b && false) ≡ true → ⊥
no_and true e = cc
no_and false e = cc

-- a plain word is no flag
pub plain_is_no_flag : (word : Text) → is_plain word ≡ true → IsNoFlag word
plain_is_no_flag [] e = cc
plain_is_no_flag (x ∷ xs) e = go (x == 45) refl
  where
    go : (b : Bool) → (x == 45) ≡ b → IsNoFlag (x ∷ xs)
    go true h = let is : x ≡ 45 = eqb-true x 45 h in
        absurd (no_and (nat_lt 0 (length (45 ∷ xs))) (subst (λ (y : ℕ). is_plain (y ∷ xs) ≡ true) is e))
    go false h = record { long = rw h refl; short = rw h refl; dashes = rw h refl }

-- what a word says, with its bytes
pub data Seen (word : Text) : Type 0 where
  seen_plain : is_plain word ≡ true → Seen word
  seen_name : (name : Name) → is_plain word ≡ false → said_by word ≡ names name → word ≡ name_word name → Seen word
  seen_value : (name : Name) (x : ℕ) (xs : Text) → is_plain word ≡ false → said_by word ≡ gives name (x ∷ xs)
      → word ≡ value_word name (x ∷ xs) → Seen word
  seen_nothing : is_plain word ≡ false → said_by word ≡ nothing → Seen word

-- what stands behind a prefix, with its bytes
split : (prefix word value : Text) → behind prefix word ≡ Some value → (x : ℕ) × (xs : Text) × (value ≡ x ∷ xs)
    × (word ≡ prefix ++ (x ∷ xs))
split prefix word value e = go (starts_with nat_eq word prefix) refl (nat_lt (length prefix) (length word)) refl
  where
    go : (b : Bool) → starts_with nat_eq word prefix ≡ b → (d : Bool) → nat_lt (length prefix) (length word) ≡ d
        → (x : ℕ) × (xs : Text) × (value ≡ x ∷ xs) × (word ≡ prefix ++ (x ∷ xs))
    go true h true k =
        let rest : drop (length prefix) word ≡ value = let found = rw (h, k) at e in cc in
        let more = drop-cons word (length prefix) 0 (ltb-true (length prefix) (length word) k) in
        let front : prefix ≡ take (length prefix) word = (bytes_eq-Decides prefix (take (length prefix) word)).0 h in (
          get_or word (length prefix) 0,
          drop (suc (length prefix)) word,
          sym rest ∙ more,
          sym (take-append-drop (length prefix) word) ∙ (ap (λ (f : Text). f ++ drop (length prefix) word) (sym front)
              ∙ ap (λ (r : Text). prefix ++ r) more),
        )
    go true h false k = let none = rw (h, k) at e in cc
    go false h d k = let none = rw h at e in cc

-- each word is seen
pub see : (word : Text) → Seen word
see word =
    go (is_plain word) refl (bytes_eq word (codes "--wire")) refl (bytes_eq word (codes "--budget")) refl
    (behind (codes "--wire=") word) refl (behind (codes "--budget=") word) refl
  where
    go : (p : Bool) → is_plain word ≡ p → (w : Bool) → bytes_eq word (codes "--wire") ≡ w → (b : Bool)
        → bytes_eq word (codes "--budget") ≡ b
        → (v : Option Text) → behind (codes "--wire=") word ≡ v → (u : Option Text) → behind (codes "--budget=") word ≡ u → Seen word
    go true p w hw b hb v hv u hu = seen_plain p
    go false p true hw b hb v hv u hu = seen_name wire p (rw (p, hw) refl) ((bytes_eq-Decides word (codes "--wire")).0 hw)
    go false p false hw true hb v hv u hu = seen_name budget p (rw (p, hw, hb) refl) ((bytes_eq-Decides word (codes "--budget")).0 hb)
    go false p false hw false hb (Some v) hv u hu =
        let s = split (codes "--wire=") word v hv in
        seen_value wire s.0 s.1 p (rw (p, hw, hb, hv) (ap (λ (t : Text). gives wire t) s.2)) s.3
    go false p false hw false hb None hv (Some u) hu =
        let s = split (codes "--budget=") word u hu in
        seen_value budget s.0 s.1 p (rw (p, hw, hb, hv, hu) (ap (λ (t : Text). gives budget t) s.2)) s.3
    go false p false hw false hb None hv None hu = seen_nothing p (rw (p, hw, hb, hv, hu) refl)
