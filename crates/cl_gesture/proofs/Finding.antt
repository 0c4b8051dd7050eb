-- Lemmas on where the first piece of some bytes ends.
use Rattle.std.proofs.Common.{◌≡◌, inr, ◌≤◌, ◌<◌, ◌+◌, ℕ, List, [], ◌∷◌, ◌++◌, length, take, drop, get_or, Option, All, append-nil, length-append, refl, sym, ap, subst, ◌∙◌, arith}
use Rattle.std.proofs.KnownBytes.{Consumes-nil, Consumes-kept}
use Rattle.std.proofs.Math.Seq.{take-append_seam}
use Rattle.std.proofs.lemmas.List.{take_more, length-take-le, take-append-drop, nil_from_length}
use Rattle.std.proofs.lemmas.List.Elements.{All-nil}
use Rattle.std.specs.Io.KnownBytes.{IsAtEnd}
use Rattle.cl_outside.specs.Causes.{Rose}
use Rattle.cl_outside.specs.declared.answers.Took.TheVariants.{Bytes, Failed}
use Rattle.cl_gesture.specs.Ahead.{FillTook}
use Rattle.cl_gesture.specs.declared.cut.Found.TheVariants as found
use Rattle.cl_gesture.specs.declared.cut.Cut.TheVariants as cut
use Rattle.cl_gesture.specs.Lines.{ended, held_from, IsNoFeed, Reads}
use Rattle.cl_gesture.specs.Cut.{FoundIn, CutOf}
use Rattle.cl_gesture.specs.Reading.{ReadsNoFurther, AreNone}
use Rattle.cl_gesture.proofs.Cutting.{ended-line, ended-whole, ended-plain, pieces-last, Reads-trans}

-- a line feed at a place, and none before it
pub FoundIn-line : (bytes : List ℕ) (at : ℕ) → at < length bytes → at ≤ 4096 → All IsNoFeed (take at bytes) → get_or bytes at 0 ≡ 10 → FoundIn bytes (found.Line at)
FoundIn-line bytes at within short none feed =
    let front = take at bytes in
    let split : take (at + 1) bytes ≡ front ++ 10 ∷ [] = take_more bytes at 0 within ∙ ap (λ b. front ++ b ∷ []) feed in
    let long_enough : length front ≤ 4096 = omega (arith, length-take-le at bytes (omega arith)) in
    let is = ended-line front none long_enough in
    (within, ap ended split ∙ is.0, ap (held_from []) split ∙ is.1)

pub FoundIn-long : (bytes : List ℕ) → 4097 ≤ length bytes → All IsNoFeed (take 4097 bytes) → FoundIn bytes found.Long
FoundIn-long bytes long_enough none =
    let is = ended-whole (take 4097 bytes) none (length-take-le 4097 bytes long_enough) in (long_enough, is.0, is.1)

-- ---- the next piece, where some bytes were handed over and none read

Reads-part : (a b : Option (List ℕ)) (u v : List ℕ) (n : ℕ) → Reads a b u v [] → Reads a b u (drop n v) (take n v)
Reads-part a b u v n r = record { handed = r.handed; consumed = r.consumed; same = r.same ∙ sym (take-append-drop n v) }

Reads-whole : (a b : Option (List ℕ)) (u v : List ℕ) → Reads a b u v [] → Reads a b u [] v
Reads-whole a b u v r = record { handed = r.handed; consumed = r.consumed; same = r.same ∙ sym (append-nil v) }

pub CutOf-line : (a b : Option (List ℕ)) (u v : List ℕ) (before now n : ℕ) → Reads a b u v [] → FoundIn v (found.Line n) → CutOf a b u v before now (cut.Line n)
CutOf-line a b u v before now n r f = (f.0, record { read = take (n + 1) v; reads = Reads-part a b u v (n + 1) r; cut = (f.1, f.2) })

pub CutOf-long : (a b : Option (List ℕ)) (u v : List ℕ) (before now : ℕ) → Reads a b u v [] → FoundIn v found.Long → CutOf a b u v before now cut.Long
CutOf-long a b u v before now r f = (f.0, record { read = take 4097 v; reads = Reads-part a b u v 4097 r; cut = (f.1, f.2) })

pub CutOf-last : (a b : Option (List ℕ)) (u v : List ℕ) (before now : ℕ) → 0 < length v → Reads a b u v [] → FoundIn v found.Unended → IsAtEnd b → CutOf a b u v before now cut.Last
CutOf-last a b u [] before now some r f end = absurd (omega arith)
CutOf-last a b u (x ∷ v) before now some r f end =
    record { read = x ∷ v; reads = Reads-whole a b u (x ∷ v) r; cut = (pieces-last x v f.1 f.0, end, refl) }

pub CutOf-fault : (a b : Option (List ℕ)) (u v : List ℕ) (before now : ℕ) → Reads a b u v [] → FoundIn v found.Unended → Rose before now → CutOf a b u v before now cut.Fault
CutOf-fault a b u v before now r f rose = (Reads-whole a b u v r, (ended-plain v f.1 f.0).0, rose)

-- ---- the search goes on

-- nothing was read yet, and the first `seen` bytes ahead hold no line feed
pub record Looking (old new : Option (List ℕ)) (ahead_old ahead_new : List ℕ) (before now : ℕ) (lent_before lent_now : List ℕ) (seen : ℕ) : Type 0 where
  pub reads : Reads old new ahead_old ahead_new []
  pub later : before ≤ now
  pub lent : lent_now ≡ lent_before
  pub short : seen ≤ 4096
  pub within : seen ≤ length ahead_new
  pub unended : All IsNoFeed (take seen ahead_new)

pub Reads-none : (a : Option (List ℕ)) (u : List ℕ) → Reads a a u u []
Reads-none a u = record { handed = []; consumed = Consumes-nil a; same = append-nil u }

pub Looking-start : (a : Option (List ℕ)) (u : List ℕ) (before : ℕ) (lent : List ℕ) → Looking a a u u before before lent lent 0
Looking-start a u before lent = record {
  reads = Reads-none a u;
  later = omega arith;
  lent = refl;
  short = omega arith;
  within = omega arith;
  unended = All-nil IsNoFeed;
}

Reads-filled : (a b c : Option (List ℕ)) (u v w : List ℕ) (n : ℕ) → Reads a b u v [] → FillTook b c v w (Bytes n) → Reads a c u w []
Reads-filled a b c u v w n r f = Reads-trans a b c u v w [] [] r (record { handed = f.0; consumed = f.1; same = sym f.2 })

Reads-kept : (a b c : Option (List ℕ)) (u v w : List ℕ) → Reads a b u v [] → FillTook b c v w Failed → Reads a c u w []
Reads-kept a b c u v w r f = record { handed = r.handed; consumed = Consumes-kept a b c r.handed r.consumed f.0; same = r.same ∙ sym f.1 }

pub Looking-more : (a b c : Option (List ℕ)) (u v w : List ℕ) (before mid now : ℕ) (lent l1 l2 : List ℕ) (seen after n : ℕ) → Looking a b u v before mid lent l1 seen
    → FoundIn v found.Unended → FillTook b c v w (Bytes n) → mid ≤ now → l2 ≡ l1 → after ≡ length v → Looking a c u w before now lent l2 after
Looking-more a b c u v w before mid now lent l1 l2 seen after n k none f rose same all =
    let P : List ℕ → Type 0 = λ xs. All IsNoFeed xs in
    let grown : length w ≡ length v + length f.0 = ap length f.2 ∙ length-append v f.0 in
    let kept : take after w ≡ v = ap (λ m. take m w) all ∙ ap (take (length v)) f.2 ∙ take-append_seam v f.0 in
    record {
      reads = Reads-filled a b c u v w n k.reads f;
      later = omega (arith, k.later);
      lent = same ∙ k.lent;
      short = omega (arith, none.0);
      within = omega arith;
      unended = subst P (sym kept) none.1;
    }

-- a read that handed over nothing, where some bytes of a line are ahead
pub CutOf-ended : (a b c : Option (List ℕ)) (u v w : List ℕ) (before now n : ℕ) → Reads a b u v [] → FoundIn v found.Unended → FillTook b c v w (Bytes n)
    → n ≡ 0 → 0 < length v → CutOf a c u w before now cut.Last
CutOf-ended a b c u v w before now n r none f zero some =
    let nothing : f.0 ≡ [] = nil_from_length f.0 (f.3 ∙ zero) in let same : w ≡ v = f.2 ∙ ap (λ l. v ++ l) nothing ∙ append-nil v in
    let P : List ℕ → Type 0 = λ xs. FoundIn xs found.Unended in
    CutOf-last a c u w before now (omega (arith, ap length same)) (Reads-filled a b c u v w n r f) (subst P (sym same) none) (f.4 zero)

pub CutOf-failed : (a b c : Option (List ℕ)) (u v w : List ℕ) (before mid now : ℕ) → Reads a b u v [] → FoundIn v found.Unended → FillTook b c v w Failed
    → before ≤ mid → (mid ≤ now) × Rose mid now → CutOf a c u w before now cut.Fault
CutOf-failed a b c u v w before mid now r none f early rose =
    let P : List ℕ → Type 0 = λ xs. FoundIn xs found.Unended in
    CutOf-fault a c u w before now (Reads-kept a b c u v w r f) (subst P (sym f.1) none) (omega (arith, rose.1))

-- ---- how far the source was read

-- a read where no line had ended in what the source had handed over before
pub LastRead-fill : {G : Type 0} (left : G → Option (List ℕ)) (calls : G → ℕ) (a b c : G) (u v : List ℕ) → Reads (left a) (left b) u v [] → FoundIn v found.Unended
    → calls c ≡ calls b + 1 → ReadsNoFurther left calls AreNone a c u
LastRead-fill left calls a b c u v r f once = inr (record {
  mid = b;
  earlier = r.handed;
  handed = r.consumed;
  once = once;
  passed = ap ended r.same ∙ (ended-plain v f.1 f.0).0;
})

-- one read, with no byte ahead
pub LastRead-first : {G : Type 0} (left : G → Option (List ℕ)) (calls : G → ℕ) (a c : G) (u : List ℕ) → u ≡ [] → calls c ≡ calls a + 1 → ReadsNoFurther left calls AreNone a c u
LastRead-first left calls a c u none once = inr (record {
  mid = a;
  earlier = [];
  handed = Consumes-nil (left a);
  once = once;
  passed = ap ended (append-nil u ∙ none);
})
