-- Writes one after another are one write.
use Rattle.std.proofs.Common.{◌≡◌, ℕ, ◌+◌, ◌<◌, ◌≤◌, suc, Option, List, [], ◌∷◌, ◌++◌, length, map, take, drop, refl, sym, ◌∙◌, ap, arith, append_assoc, append-nil, drop-cons, get_or, length-append}
use Rattle.std.proofs.lemmas.List.{take-append-drop, drop-drop}
use Rattle.std.proofs.KnownBytes.{Appends-nil, Appends-trans, Appends-kept}
use Rattle.std.specs.Io.KnownBytes.{Appends, Keeps}
use Rattle.cl_outside.specs.Writing.{Wrote, CutShort, joined}

pub Wrote-nothing : (a : Option (List ℕ)) (bytes : List ℕ) → Wrote a a bytes bytes
Wrote-nothing a bytes = record { sent = []; appended = Appends-nil a; same = refl }

pub Wrote-trans : (a b c : Option (List ℕ)) (bytes left last : List ℕ) → Wrote a b bytes left → Wrote b c left last → Wrote a c bytes last
Wrote-trans a b c bytes left last v w = record {
  sent = v.sent ++ w.sent;
  appended = Appends-trans a b c v.sent w.sent v.appended w.appended;
  same = v.same ∙ (ap (λ xs. v.sent ++ xs) w.same ∙ sym (append_assoc v.sent w.sent last));
}

pub Wrote-kept : (a b c : Option (List ℕ)) (bytes left : List ℕ) → Wrote a b bytes left → Keeps b c → Wrote a c bytes left
Wrote-kept a b c bytes left w k = record { sent = w.sent; appended = Appends-kept a b c w.sent w.appended k; same = w.same }

-- what comes behind is left
pub Wrote-more : (a b : Option (List ℕ)) (bytes left more : List ℕ) → Wrote a b bytes left → Wrote a b (bytes ++ more) (left ++ more)
Wrote-more a b bytes left more w = record {
  sent = w.sent;
  appended = w.appended;
  same = ap (λ xs. xs ++ more) w.same ∙ append_assoc w.sent left more;
}

pub Wrote-taken : (a b : Option (List ℕ)) (bytes : List ℕ) (at count : ℕ) → Appends a b (take count (drop at bytes))
    → Wrote a b (drop at bytes) (drop (at + count) bytes)
Wrote-taken a b bytes at count h = record {
  sent = take count (drop at bytes);
  appended = h;
  same = sym (take-append-drop count (drop at bytes)) ∙ ap (λ xs. take count (drop at bytes) ++ xs) (drop-drop count at bytes);
}

-- all was written
pub Wrote-all : (a b : Option (List ℕ)) (bytes left : List ℕ) → left ≡ [] → Wrote a b bytes left → Appends a b bytes
Wrote-all a b bytes left e w =
    let same : bytes ≡ w.sent = w.same ∙ (ap (λ xs. w.sent ++ xs) e ∙ append-nil w.sent) in
    rw same w.appended

pub Wrote-whole : (a b : Option (List ℕ)) (bytes : List ℕ) → Appends a b bytes → Wrote a b bytes []
Wrote-whole a b bytes h = record { sent = bytes; appended = h; same = sym (append-nil bytes) }

-- the first bytes were written, and then the sink failed in those that were left
pub CutShort-behind : (a b c : Option (List ℕ)) (bytes left : List ℕ) (x y z : ℕ) → Wrote a b bytes left → x ≤ y → CutShort b c left y z → CutShort a c bytes x z
CutShort-behind a b c bytes left x y z w le h = record {
  lost = h.lost;
  wrote = Wrote-trans a b c bytes left h.lost w h.wrote;
  some = h.some;
  rose = omega (arith, le, h.rose);
}

-- the sink failed in the first bytes
pub CutShort-more : (a b : Option (List ℕ)) (bytes more : List ℕ) (x y : ℕ) → CutShort a b bytes x y → CutShort a b (bytes ++ more) x y
CutShort-more a b bytes more x y h = record {
  lost = h.lost ++ more;
  wrote = Wrote-more a b bytes h.lost more h.wrote;
  some = omega (arith, h.some, length-append h.lost more);
  rose = h.rose;
}

-- the next piece, and those behind it
pub joined-next : {A : Type 0} (f : A → List ℕ) (pieces : List A) (d : A) (at : ℕ) → at < length pieces
    → joined (map f (drop at pieces)) ≡ f (get_or pieces at d) ++ joined (map f (drop (at + 1) pieces))
joined-next f pieces d at h =
    let one : suc at ≡ at + 1 = omega arith in
    let step : drop at pieces ≡ get_or pieces at d ∷ drop (at + 1) pieces =
    drop-cons pieces at d h ∙ ap (λ n. get_or pieces at d ∷ drop n pieces) one in
    rw step refl

-- the next piece is written, and the others are left
pub Wrote-piece : {A : Type 0} (f : A → List ℕ) (a b : Option (List ℕ)) (pieces : List A) (d : A) (at : ℕ) → at < length pieces
    → Appends a b (f (get_or pieces at d)) → Wrote a b (joined (map f (drop at pieces))) (joined (map f (drop (at + 1) pieces)))
Wrote-piece f a b pieces d at h w = record { sent = f (get_or pieces at d); appended = w; same = joined-next f pieces d at h }

-- the sink failed in the next piece
pub CutShort-piece : {A : Type 0} (f : A → List ℕ) (a b : Option (List ℕ)) (pieces : List A) (d : A) (at x y : ℕ) → at < length pieces
    → CutShort a b (f (get_or pieces at d)) x y → CutShort a b (joined (map f (drop at pieces))) x y
CutShort-piece f a b pieces d at x y h c =
    rw (joined-next f pieces d at h) (CutShort-more a b (f (get_or pieces at d)) (joined (map f (drop (at + 1) pieces))) x y c)
