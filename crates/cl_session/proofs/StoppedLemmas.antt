-- Readers that had stopped.
use Rattle.std.proofs.Common.{◌≡◌, ◌∙◌, refl, Some, None, Option, List, ℕ}
use Rattle.cl_gesture.specs.Next.{Again, Progress}
use Rattle.cl_gesture.specs.declared.answers.Next.{Next}
use Rattle.cl_gesture.specs.declared.answers.Next.TheVariants as next
use Rattle.cl_gesture.specs.declared.answers.Stop.{Stop}
use Rattle.cl_gesture.specs.declared.answers.Stop.TheVariants as stop
use Rattle.cl_session.specs.Serving.{stand}
use Rattle.cl_frame.specs.Sending.{Wire}
use Rattle.cl_session.specs.Transcript.{meters}
use Rattle.cl_session.specs.Turns.{IsSame, StaysAt}
use Rattle.cl_session.specs.World.{World}
use Rattle.cl_session.specs.declared.totals.Totals.{Totals}
use Rattle.cl_session.specs.declared.serving.End.{End}
use Rattle.cl_session.specs.declared.serving.End.TheVariants as end

pub stays-by : {A : Type 0} (s : Stop) (old new : A) (answer : Next) (r : Option End) (same : Type 0)
    → (answer ≡ next.End → new ≡ old → (r ≡ Some end.Done) × same) → (answer ≡ next.ReadFault → new ≡ old → (r ≡ Some end.ReadFault) × same)
    → (answer ≡ next.TooMany → new ≡ old → (r ≡ Some end.TooMany) × same) → Again s old new answer → StaysAt s r same
stays-by stop.Going old new answer r same done fault many h = tt
stays-by stop.AtEnd old new answer r same done fault many h = done h.0 h.1
stays-by stop.AtFault old new answer r same done fault many h = fault h.0 h.1
stays-by stop.AtLimit old new answer r same done fault many h = many h.0 h.1

-- a turn that gives no end is that of a reader that had not stopped
pub going-on : (s : Stop) (same : Type 0) → StaysAt s None same → s ≡ stop.Going
going-on stop.Going same h = refl
going-on stop.AtEnd same h = let e : None ≡ Some end.Done = h.0 in cc
going-on stop.AtFault same h = let e : None ≡ Some end.ReadFault = h.0 in cc
going-on stop.AtLimit same h = let e : None ≡ Some end.TooMany = h.0 in cc

pub stays-done : (s : Stop) (r : Option End) (same : Type 0) → s ≡ stop.AtEnd → StaysAt s r same → (r ≡ Some end.Done) × same
stays-done s r same e h = rw e at h

pub some-end : (a b : End) → ◌≡◌ {A = Option End} (Some a) (Some b) → a ≡ b
some-end a b e = cc

-- the same of a reader that may have stopped, as long as no end was given
abbrev pub Untouched : Stop → Type 0 → Type 0
Untouched stop.Going same = Unit {0}
Untouched stop.AtEnd same = same
Untouched stop.AtFault same = same
Untouched stop.AtLimit same = same

pub untouched-start : (s : Stop) (same : Type 0) → same → Untouched s same
untouched-start stop.Going same h = tt
untouched-start stop.AtEnd same h = h
untouched-start stop.AtFault same h = h
untouched-start stop.AtLimit same h = h

pub untouched-more : (s t : Stop) (first second whole : Type 0) → (first → t ≡ s) → Untouched s first → StaysAt t None second → Untouched s whole
untouched-more stop.Going t first second whole f u h = tt
untouched-more stop.AtEnd t first second whole f u h = let e : t ≡ stop.AtEnd = f u in let g : t ≡ stop.Going = going-on t second h in cc
untouched-more stop.AtFault t first second whole f u h = let e : t ≡ stop.AtFault = f u in let g : t ≡ stop.Going = going-on t second h in cc
untouched-more stop.AtLimit t first second whole f u h = let e : t ≡ stop.AtLimit = f u in let g : t ≡ stop.Going = going-on t second h in cc

pub stays-after : (s t : Stop) (r : Option End) (first second whole : Type 0) → (first → t ≡ s) → (first → second → whole) → Untouched s first
    → StaysAt t r second → StaysAt s r whole
stays-after stop.Going t r first second whole f join u h = tt
stays-after stop.AtEnd t r first second whole f join u h = let p = rw (f u) at h in (p.0, join u p.1)
stays-after stop.AtFault t r first second whole f join u h = let p = rw (f u) at h in (p.0, join u p.1)
stays-after stop.AtLimit t r first second whole f join u h = let p = rw (f u) at h in (p.0, join u p.1)

pub same-twice : {A B C D : Type 0} (a b c : A) (x y z : B) (d e f : C) (i j k : ℕ) (l m n : Totals) (u v w : D)
    → IsSame a b x y d e i j l m u v → IsSame b c y z e f j k m n v w → IsSame a c x z d f i k l n u w
same-twice a b c x y z d e f i j k l m n u v w p q = (q.0 ∙ p.0, q.1 ∙ p.1, q.2 ∙ p.2, q.3 ∙ p.3, q.4 ∙ p.4, q.5 ∙ p.5)

-- nothing changed, so serving stands where it stood
pub same-stand : {A B C : Type 0} (progress : A → Progress) (taken : B → Option (List ℕ)) (out_faults : B → ℕ) (device_of : C → Wire)
    (a b : A) (x y : B) (d e : C) (i j : ℕ) (l m : Totals) (u v : World) → IsSame a b x y d e i j l m u v
    → stand v (meters j (device_of e) m) (progress b) (taken y) (out_faults y) ≡ stand u (meters i (device_of d) l) (progress a) (taken x) (out_faults x)
same-stand progress taken out_faults device_of a b x y d e i j l m u v h = rw (h.0, h.1, h.2, h.3, h.4, h.5) refl
