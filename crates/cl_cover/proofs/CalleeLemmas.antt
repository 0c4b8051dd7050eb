-- Callees among others.
use Rattle.std.proofs.Common.{◌≡◌, ◌≤◌, ◌+◌, ◌++◌, ℕ, Bool, true, false, inl, inr, List, [], ◌∷◌, length, refl, sym, ap, ◌∙◌, arith}
use Rattle.std.specs.Prelude.{◌⊎◌, ◌||◌}
use Rattle.std.proofs.lemmas.Slice.Eq.{bytes_eq-Decides}
use Rattle.cl_cover.specs.Walk.{is_among}
use Rattle.cl_syntax.specs.contracts.callees.CalleePartialEq.TheImpl as callee_eq
use Rattle.cl_syntax.specs.declared.callees.Callee.{Callee}
use Rattle.cl_syntax.specs.declared.callees.Callee.TheVariants as callee

pub same_callee : (c d : Callee) → (callee_eq.ghosts).eq c d ≡ true → c ≡ d
same_callee (callee.Function x) (callee.Function y) h = ap callee.Function ((bytes_eq-Decides x y).0 h)
same_callee (callee.Function x) (callee.Display y) h = cc
same_callee (callee.Display x) (callee.Function y) h = cc
same_callee (callee.Display x) (callee.Display y) h = ap callee.Display ((bytes_eq-Decides x y).0 h)
same_callee (callee.Function x) (callee.PresentMethod y) h = cc
same_callee (callee.Display x) (callee.PresentMethod y) h = cc
same_callee (callee.PresentMethod x) (callee.Function y) h = cc
same_callee (callee.PresentMethod x) (callee.Display y) h = cc
same_callee (callee.PresentMethod x) (callee.PresentMethod y) h = ap callee.PresentMethod ((bytes_eq-Decides x y).0 h)
same_callee (callee.Function x) (callee.Inherited y) h = cc
same_callee (callee.Display x) (callee.Inherited y) h = cc
same_callee (callee.PresentMethod x) (callee.Inherited y) h = cc
same_callee (callee.Inherited x) (callee.Function y) h = cc
same_callee (callee.Inherited x) (callee.Display y) h = cc
same_callee (callee.Inherited x) (callee.PresentMethod y) h = cc
same_callee (callee.Inherited x) (callee.Inherited y) h = ap callee.Inherited ((bytes_eq-Decides x y).0 h)

pub own_callee : (c : Callee) → (callee_eq.ghosts).eq c c ≡ true
own_callee (callee.Function x) = (bytes_eq-Decides x x).1 refl
own_callee (callee.Display x) = (bytes_eq-Decides x x).1 refl
own_callee (callee.PresentMethod x) = (bytes_eq-Decides x x).1 refl
own_callee (callee.Inherited x) = (bytes_eq-Decides x x).1 refl

pub no : false ≡ true → ⊥
no e = cc

-- one of two truths
pub either : (a b : Bool) → (a || b) ≡ true → (a ≡ true) ⊎ (b ≡ true)
either true b h = inl refl
either false b h = inr h

pub or_left : (a b : Bool) → a ≡ true → (a || b) ≡ true
or_left true b h = refl
or_left false b h = cc

pub or_right : (a b : Bool) → b ≡ true → (a || b) ≡ true
or_right true b h = refl
or_right false b h = h

-- what is there stays
pub among_more : (c : Callee) (cs more : List Callee) → is_among c cs ≡ true → is_among c (cs ++ more) ≡ true
among_more c [] more h = cc
among_more c (d ∷ cs) more h =
    elim (either ((callee_eq.ghosts).eq c d) (is_among c cs) h) [
      | inl e ↦ or_left ((callee_eq.ghosts).eq c d) (is_among c (cs ++ more)) e
      | inr r ↦ or_right ((callee_eq.ghosts).eq c d) (is_among c (cs ++ more)) (among_more c cs more r)
    ]

-- what was added is there
pub among_last : (c : Callee) (cs : List Callee) → is_among c (cs ++ c ∷ []) ≡ true
among_last c [] = or_left ((callee_eq.ghosts).eq c c) false (own_callee c)
among_last c (d ∷ cs) = or_right ((callee_eq.ghosts).eq c d) (is_among c (cs ++ c ∷ [])) (among_last c cs)

-- what is there was there before, or was added
pub among_before : (c d : Callee) (cs : List Callee) → is_among c (cs ++ d ∷ []) ≡ true → (is_among c cs ≡ true) ⊎ (c ≡ d)
among_before c d [] h =
    elim (either ((callee_eq.ghosts).eq c d) false h) [ inl e ↦ inr (same_callee c d e) | inr r ↦ absurd (no r) ]
among_before c d (b ∷ cs) h =
    elim (either ((callee_eq.ghosts).eq c b) (is_among c (cs ++ d ∷ [])) h) [
      | inl e ↦ inl (or_left ((callee_eq.ghosts).eq c b) (is_among c cs) e)
      | inr r ↦ elim (among_before c d cs r) [ inl t ↦ inl (or_right ((callee_eq.ghosts).eq c b) (is_among c cs) t) | inr e ↦ inr e ]
    ]

abbrev pub one_unless : Bool → ℕ
one_unless true = 0
one_unless false = 1

-- how many callees are not among others
abbrev pub missing : List Callee → List Callee → ℕ
missing [] es = 0
missing (c ∷ cs) es = one_unless (is_among c es) + missing cs es

one_less : (a b : Bool) → (a ≡ true → b ≡ true) → one_unless b ≤ one_unless a
one_less true true h = omega arith
one_less true false h = absurd (no (h refl))
one_less false true h = omega arith
one_less false false h = omega arith

none_left : (b : Bool) → b ≡ true → one_unless b ≡ 0
none_left true h = refl
none_left false h = cc

one_left : (b : Bool) → b ≡ false → one_unless b ≡ 1
one_left true h = cc
one_left false h = refl

missing_more : (cs es more : List Callee) → missing cs (es ++ more) ≤ missing cs es
missing_more [] es more = omega arith
missing_more (c ∷ cs) es more = omega (arith, missing_more cs es more, one_less (is_among c es) (is_among c (es ++ more)) (among_more c es more))

missing_head : (x c : Callee) (cs es : List Callee) → x ≡ c → is_among x es ≡ false → missing (c ∷ cs) (es ++ x ∷ []) + 1 ≤ missing (c ∷ cs) es
missing_head x c cs es e h =
    let here : one_unless (is_among c (es ++ x ∷ [])) ≡ 0 =
    none_left (is_among c (es ++ x ∷ [])) (ap (λ (y : Callee). is_among y (es ++ x ∷ [])) (sym e) ∙ among_last x es) in
    let before : one_unless (is_among c es) ≡ 1 = one_left (is_among c es) (ap (λ (y : Callee). is_among y es) (sym e) ∙ h) in
    omega (arith, missing_more cs es (x ∷ []), here, before)

-- one fewer, where one of them is added
pub missing_less : (x : Callee) (cs es : List Callee) → is_among x cs ≡ true → is_among x es ≡ false → missing cs (es ++ x ∷ []) + 1 ≤ missing cs es
missing_less x [] es h new = cc
missing_less x (c ∷ cs) es h new =
    elim (either ((callee_eq.ghosts).eq x c) (is_among x cs) h) [
      | inl e ↦ missing_head x c cs es (same_callee x c e) new
      | inr r ↦ omega (arith, missing_less x cs es r new, one_less (is_among c es) (is_among c (es ++ x ∷ [])) (among_more c es (x ∷ [])))
    ]

at_most_one : (b : Bool) → one_unless b ≤ 1
at_most_one true = omega arith
at_most_one false = omega arith

pub missing_all : (cs es : List Callee) → missing cs es ≤ length cs
missing_all [] es = omega arith
missing_all (c ∷ cs) es = omega (arith, missing_all cs es, at_most_one (is_among c es))
