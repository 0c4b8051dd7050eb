-- Bytes that wait, and lines that are written one after another.
use Rattle.std.proofs.Common.{◌≡◌, ℕ, ◌+◌, ◌<◌, ◌≤◌, Bool, true, false, Option, List, [], ◌∷◌, ◌++◌, length, map, drop, refl, sym, ◌∙◌, ap, append_assoc, append-nil, get_or}
use Rattle.std.proofs.lemmas.List.{map-append}
use Rattle.cl_outside.specs.Writing.{CutShort, Wrote, Says, joined}
use Rattle.cl_outside.proofs.WritingLemmas.{CutShort-behind, CutShort-more, Wrote-all, Wrote-more, Wrote-trans, Wrote-whole, joined-next}
use Rattle.cl_session.specs.Writing.{Puts}
use Rattle.cl_session.specs.Transcript.{ended_line, line_bytes}

-- the next piece is written, and the others are left
pub Wrote-piece : {A : Type 0} (f : A → List ℕ) (a b : Option (List ℕ)) (pieces : List A) (d : A) (at : ℕ) (waits now : List ℕ)
    → at < length pieces → Wrote a b (waits ++ f (get_or pieces at d)) now
    → Wrote a b (waits ++ joined (map f (drop at pieces))) (now ++ joined (map f (drop (at + 1) pieces)))
Wrote-piece f a b pieces d at waits now h w =
    let rest : List ℕ = joined (map f (drop (at + 1) pieces)) in
    let whole : waits ++ joined (map f (drop at pieces)) ≡ (waits ++ f (get_or pieces at d)) ++ rest =
    ap (λ (xs : List ℕ). waits ++ xs) (joined-next f pieces d at h) ∙ sym (append_assoc waits (f (get_or pieces at d)) rest) in
    rw whole (Wrote-more a b (waits ++ f (get_or pieces at d)) now rest w)

-- what waited was flushed, and then bytes were put
pub Puts-after : (done : Bool) (a b c : Option (List ℕ)) (waits bytes left : List ℕ) (x y z : ℕ) → Says true a b waits x y → x ≤ y
    → Puts done b c bytes left y z → Puts done a c (waits ++ bytes) left x z
Puts-after true a b c waits bytes left x y z w le h =
    Wrote-trans a b c (waits ++ bytes) bytes left (Wrote-more a b waits [] bytes (Wrote-whole a b waits w)) h
Puts-after false a b c waits bytes left x y z w le h =
    CutShort-behind a b c (waits ++ bytes) bytes x y z (Wrote-more a b waits [] bytes (Wrote-whole a b waits w)) le h

-- bytes that were written whole leave none
pub Puts-said : (done : Bool) (a b : Option (List ℕ)) (bytes none : List ℕ) (x y : ℕ) → none ≡ [] → Says done a b bytes x y → Puts done a b bytes none x y
Puts-said true a b bytes none x y e h = rw e (Wrote-whole a b bytes h)
Puts-said false a b bytes none x y e h = h

-- a flush that failed, before what would have been put behind it
pub Puts-flushless : (a b : Option (List ℕ)) (waits bytes left : List ℕ) (x y : ℕ) → Says false a b waits x y → Puts false a b (waits ++ bytes) left x y
Puts-flushless a b waits bytes left x y h = CutShort-more a b waits bytes x y h

-- a put of the next piece that failed
pub Puts-piece : {A : Type 0} (f : A → List ℕ) (a b c : Option (List ℕ)) (all : List ℕ) (pieces : List A) (d : A) (at : ℕ) (waits now : List ℕ)
    (x y z : ℕ) → at < length pieces → Wrote a b all (waits ++ joined (map f (drop at pieces))) → x ≤ y
    → Puts false b c (waits ++ f (get_or pieces at d)) now y z → CutShort a c all x z
Puts-piece f a b c all pieces d at waits now x y z h w le p =
    let rest : List ℕ = joined (map f (drop (at + 1) pieces)) in
    let whole : waits ++ joined (map f (drop at pieces)) ≡ (waits ++ f (get_or pieces at d)) ++ rest =
    ap (λ (xs : List ℕ). waits ++ xs) (joined-next f pieces d at h) ∙ sym (append_assoc waits (f (get_or pieces at d)) rest) in
    CutShort-behind a b c all (waits ++ joined (map f (drop at pieces))) x y z w le
    (rw whole (CutShort-more b c (waits ++ f (get_or pieces at d)) rest y z p))

-- two puts, one after the other
pub Puts-then : (done : Bool) (a b c : Option (List ℕ)) (waits xs ys mid now : List ℕ) (x y z : ℕ)
    → Wrote a b (waits ++ xs) mid → x ≤ y → Puts done b c (mid ++ ys) now y z → Puts done a c (waits ++ (xs ++ ys)) now x z
Puts-then true a b c waits xs ys mid now x y z w le p =
    rw (← append_assoc waits xs ys) (Wrote-trans a b c ((waits ++ xs) ++ ys) (mid ++ ys) now (Wrote-more a b (waits ++ xs) mid ys w) p)
Puts-then false a b c waits xs ys mid now x y z w le p =
    rw (← append_assoc waits xs ys) (CutShort-behind a b c ((waits ++ xs) ++ ys) (mid ++ ys) x y z (Wrote-more a b (waits ++ xs) mid ys w) le p)

-- a put that failed before what comes behind it
pub Puts-first : (a b : Option (List ℕ)) (waits xs ys now : List ℕ) (x y : ℕ) → Puts false a b (waits ++ xs) now x y
    → Puts false a b (waits ++ (xs ++ ys)) now x y
Puts-first a b waits xs ys now x y p = rw (← append_assoc waits xs ys) (CutShort-more a b (waits ++ xs) ys x y p)

-- puts from nothing on, and then a flush of all that waits
pub Says-flushed : (done : Bool) (a b c : Option (List ℕ)) (bytes mid : List ℕ) (x y z : ℕ)
    → Wrote a b bytes mid → x ≤ y → Says done b c mid y z → Says done a c bytes x z
Says-flushed true a b c bytes mid x y z w le p = Wrote-all a c bytes [] refl (Wrote-trans a b c bytes mid [] w (Wrote-whole b c mid p))
Says-flushed false a b c bytes mid x y z w le p = CutShort-behind a b c bytes mid x y z w le p

pub joined-append : (xs ys : List (List ℕ)) → joined (xs ++ ys) ≡ joined xs ++ joined ys
joined-append [] ys = refl
joined-append (x ∷ xs) ys = ap (λ zs. x ++ zs) (joined-append xs ys) ∙ sym (append_assoc x (joined xs) (joined ys))

pub line_bytes-append : (xs ys : List (List ℕ)) → line_bytes (xs ++ ys) ≡ line_bytes xs ++ line_bytes ys
line_bytes-append xs ys = ap joined (map-append ended_line xs ys) ∙ joined-append (map ended_line xs) (map ended_line ys)

-- lines of which the next ones were put, and the others are left
pub Wrote-next : (a b c : Option (List ℕ)) (all waits now rest here more : List ℕ) → rest ≡ here ++ more → Wrote a b all (waits ++ rest) → Wrote b c (waits ++ here) now
    → Wrote a c all (now ++ more)
Wrote-next a b c all waits now rest here more e w p =
    let whole : waits ++ rest ≡ (waits ++ here) ++ more = ap (λ (xs : List ℕ). waits ++ xs) e ∙ sym (append_assoc waits here more) in
    Wrote-trans a b c all (waits ++ rest) (now ++ more) w (rw whole (Wrote-more b c (waits ++ here) now more p))

-- the same of a sink that failed in the next ones
pub CutShort-next : (a b c : Option (List ℕ)) (all waits rest here more : List ℕ) (x y z : ℕ) → rest ≡ here ++ more → Wrote a b all (waits ++ rest) → x ≤ y
    → CutShort b c (waits ++ here) y z → CutShort a c all x z
CutShort-next a b c all waits rest here more x y z e w le p =
    let whole : waits ++ rest ≡ (waits ++ here) ++ more = ap (λ (xs : List ℕ). waits ++ xs) e ∙ sym (append_assoc waits here more) in
    CutShort-behind a b c all (waits ++ rest) x y z w le (rw whole (CutShort-more b c (waits ++ here) more y z p))

-- none are left
pub Wrote-none : (a b : Option (List ℕ)) (all waits rest : List ℕ) → rest ≡ [] → Wrote a b all (waits ++ rest) → Wrote a b all waits
Wrote-none a b all waits rest e w =
    let same : waits ++ rest ≡ waits = ap (λ (xs : List ℕ). waits ++ xs) e ∙ append-nil waits in rw same at w

-- a line of two parts
pub line_parts : (xs ys : List ℕ) → line_bytes ((xs ++ ys) ∷ []) ≡ xs ++ (ys ++ 10 ∷ [])
line_parts xs ys = append-nil ((xs ++ ys) ++ 10 ∷ []) ∙ append_assoc xs ys (10 ∷ [])
