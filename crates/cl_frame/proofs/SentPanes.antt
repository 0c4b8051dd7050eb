-- What is sent of panes that are settled one after another.
use Rattle.std.proofs.Common.{◌≡◌, ℕ, ℤ, ◌+◌, ◌<◌, ◌≤◌, Bool, true, false, not, if◌then◌else◌, List, [], ◌∷◌, ◌++◌, Some, Option, length, set, map}
use Rattle.std.proofs.Common.{take, drop, refl, sym, ◌∙◌, ap, subst, arith, slice_get, slice_set, append_assoc, append-nil, length-append}
use Rattle.std.specs.Prelude.{option_map}
use Rattle.std.proofs.KnownBytes.{Appends-nil, Appends-trans}
use Rattle.std.proofs.lemmas.List.{drop_all, get_or-set_same, length-set, map-append, take_all, take_more_set}
use Rattle.std.proofs.lemmas.Option.{slice_get-get_or, slice_get-map, slice_get_within}
use Rattle.cl_application.specs.Panes.{panes_of}
use Rattle.cl_application.specs.declared.applications.App.{App}
use Rattle.cl_application.specs.declared.declarations.PaneDecl.{PaneDecl}
use Rattle.cl_frame.specs.States.{StateAt}
use Rattle.cl_outside.proofs.WritingLemmas.{CutShort-behind, Wrote-more}
use Rattle.cl_outside.specs.Operations.{Op, ops_bytes}
use Rattle.cl_outside.specs.Writing.{CutShort, Wrote}
use Rattle.cl_redisplay.proofs.WireLemmas.{ops_bytes-append}
use Rattle.cl_redisplay.specs.Paint.{covers, pane_cell}
use Rattle.cl_redisplay.specs.Touching.{on_screen, touched_pane_ops}
use Rattle.cl_redisplay.proofs.TouchedPictures.{touched-same}
use Rattle.cl_redisplay.specs.Screens.{BreaksAt, StaleAfter}
use Rattle.cl_redisplay.specs.Wires.{SendsUnless}
use Rattle.cl_redisplay.specs.declared.areas.Area.{Area}
use Rattle.cl_redisplay.specs.declared.screens.Painted.{Painted}
use Rattle.cl_redisplay.specs.declared.screens.Painted.TheVariants as painted
use Rattle.cl_frame.specs.Frames.{IsFrameOf, SettlesAt}
use Rattle.cl_frame.specs.Ground.{Ground}
use Rattle.cl_frame.specs.Panes.{PaneMarks, area_of, area_of_pane, marks_in, marks_of_pane}
use Rattle.cl_frame.specs.Sending.{SendsAt, SendsOn, SendsPane, Wire, settled_ops, step_ops, touched_in}
use Rattle.cl_frame.specs.Settling.{is_due, pane_draw}
use Rattle.cl_frame.specs.declared.frames.Frame.{Frame}
use Rattle.cl_frame.specs.declared.panes.Pane.{Pane}
use Rattle.cl_frame.specs.declared.settling.Which.{Which}
use Rattle.cl_frame.proofs.SettledPanes.{drop_at, drop_later}

-- what stands in a place where it was put
slice_get-set_here : (panes : List Pane) (k : ℕ) (p : Pane) → k < length panes → slice_get (set panes k p) k ≡ Some p
slice_get-set_here panes k p inside =
    slice_get-get_or (set panes k p) k p (omega (arith, length-set panes k p, inside)) ∙ ap (λ (q : Pane). Some q) (get_or-set_same panes k p p inside)

-- ---- one pane behind others

-- nothing is sent of a pane that was not asked for
quiet_sends : (is_stale : Bool) (w : Wire) → SendsPane is_stale is_stale w w []
quiet_sends true w = refl
quiet_sends false w = Appends-nil w.bytes

-- what a paint sends of a screen
pub sends_painted : (was is : Bool) (p : Painted) (a b : Wire) (bytes : List ℕ) → StaleAfter was is p
    → SendsUnless was p a.bytes b.bytes bytes a.faults b.faults → SendsPane was is a b bytes
sends_painted true is p a b bytes stale sends = sends
sends_painted false is painted.Done a b bytes stale sends = rw stale sends
sends_painted false is painted.DeviceFault a b bytes stale sends = rw stale sends

-- a screen that has become stale has a broken device
pub breaks_painted : (was is : Bool) (p : Painted) (broken : Bool) → StaleAfter was is p → BreaksAt p broken → was ≡ false → is ≡ true → broken ≡ true
breaks_painted was is painted.Done broken stale breaks fresh after = let no : false ≡ true = sym fresh ∙ (sym stale ∙ after) in cc
breaks_painted was is painted.DeviceFault broken stale breaks fresh after = breaks

-- what broke off lost what comes behind it, too
cut_more : (a b : Option (List ℕ)) (xs ys : List ℕ) (x y z : ℕ) → y ≤ z → CutShort a b xs x y → CutShort a b (xs ++ ys) x z
cut_more a b xs ys x y z le h = record {
  lost = h.lost ++ ys;
  wrote = Wrote-more a b xs h.lost ys h.wrote;
  some = omega (arith, h.some, length-append h.lost ys);
  rose = omega (arith, h.rose, le);
}

-- one pane more was sent
pub sends_then : (was is : Bool) (a b c : Wire) (xs ys : List ℕ) → (was ≡ true → is ≡ true) → a.faults ≤ b.faults → b.faults ≤ c.faults
    → SendsOn (not was) a b xs → SendsPane was is b c ys → SendsOn (not is) a c (xs ++ ys)
sends_then true true a b c xs ys stays first after h p =
    subst (λ (w : Option (List ℕ)). CutShort a.bytes w (xs ++ ys) a.faults c.faults) (sym p) (cut_more a.bytes b.bytes xs ys a.faults b.faults c.faults after h)
sends_then true false a b c xs ys stays first after h p = let no : false ≡ true = stays refl in cc
sends_then false true a b c xs ys stays first after h p =
    let wrote : Wrote a.bytes b.bytes (xs ++ ys) ys = record { sent = xs; appended = h; same = refl } in
    CutShort-behind a.bytes b.bytes c.bytes (xs ++ ys) ys a.faults b.faults c.faults wrote first p
sends_then false false a b c xs ys stays first after h p = Appends-trans a.bytes b.bytes c.bytes xs ys h p

-- ---- the panes up to a place

-- these operations were sent, and they are those of the panes before a place
pub record SentSoFar (g : Ground) (which : Which) (state : StateAt) (ds : List PaneDecl) (olds now : List Pane) (k : ℕ) (is_stale : Bool) (old new : Wire) : Type 0 where
  pub ops : List Op
  pub sent : SendsOn (not is_stale) old new (ops_bytes ops)
  pub more : (ns : List PaneMarks) → settled_ops g which state ds (map marks_of_pane olds) (map marks_of_pane (take k now) ++ ns)
      ≡ ops ++ settled_ops g which state (drop k ds) (map marks_of_pane (drop k olds)) ns

pub sent_none : (g : Ground) (which : Which) (state : StateAt) (ds : List PaneDecl) (panes : List Pane) (is_stale : Bool) (w : Wire) → is_stale ≡ false
    → SentSoFar g which state ds panes panes 0 is_stale w w
sent_none g which state ds panes is_stale w fresh = record {
  ops = [];
  sent = rw fresh (Appends-nil w.bytes);
  more = λ ns. refl;
}

-- one pane more
pub sent_next : (g : Ground) (which : Which) (state : StateAt) (olds now after : List Pane) (k : ℕ) (at next : ℕ) (was is : Bool) (a b c : Wire)
    → drop k now ≡ drop k olds → SettlesAt g which state k now after at next → SendsAt g which state k now after was is b c
    → (was ≡ true → is ≡ true) → a.faults ≤ b.faults → b.faults ≤ c.faults
    → SentSoFar g which state (panes_of g.app) olds now k was a b → SentSoFar g which state (panes_of g.app) olds after (k + 1) is a c
sent_next g which state olds now after k at next was is a b c rest h sends stays first later far =
    let ds = panes_of g.app in
    let inside : k < length now = slice_get_within now k h.before h.stood in
    let declared : drop k ds ≡ h.declared ∷ drop (k + 1) ds = drop_at ds k h.declared h.declares in
    let stood : drop k olds ≡ h.before ∷ drop (k + 1) olds =
    sym rest ∙ (drop_at now k h.before h.stood ∙ ap (λ (xs : List Pane). h.before ∷ xs) (drop_later now olds k rest)) in
    let taken : take (k + 1) after ≡ take k now ++ h.now ∷ [] =
    ap (take (k + 1)) h.stands ∙ take_more_set now k h.now inside in
    let stands : slice_get after k ≡ Some h.now = rw h.stands (slice_get-set_here now k h.now inside) in
    let ops = step_ops g which state h.declared (marks_of_pane h.before) (marks_of_pane h.now) in
    record {
      ops = far.ops ++ ops;
      sent = rw (ops_bytes-append far.ops ops)
          (sends_then was is a b c (ops_bytes far.ops) (ops_bytes ops) stays first later far.sent (sends h.declared h.before h.now h.declares h.stood stands));
      more = λ ns. ap (λ (xs : List Pane). settled_ops g which state ds (map marks_of_pane olds) (map marks_of_pane xs ++ ns)) taken
          ∙ (ap (λ (ms : List PaneMarks). settled_ops g which state ds (map marks_of_pane olds) (ms ++ ns)) (map-append marks_of_pane (take k now) (h.now ∷ []))
          ∙ (ap (λ (ms : List PaneMarks). settled_ops g which state ds (map marks_of_pane olds) ms) (append_assoc (map marks_of_pane (take k now)) (marks_of_pane h.now ∷ []) ns)
          ∙ (far.more (marks_of_pane h.now ∷ ns)
          ∙ (ap (λ (xs : List PaneDecl). far.ops ++ settled_ops g which state xs (map marks_of_pane (drop k olds)) (marks_of_pane h.now ∷ ns)) declared
          ∙ (ap (λ (xs : List Pane). far.ops ++ settled_ops g which state (h.declared ∷ drop (k + 1) ds) (map marks_of_pane xs) (marks_of_pane h.now ∷ ns)) stood
          ∙ sym (append_assoc far.ops ops (settled_ops g which state (drop (k + 1) ds) (map marks_of_pane (drop (k + 1) olds)) ns)))))));
    }

-- all panes
pub sent_all : (g : Ground) (which : Which) (state : StateAt) (ds : List PaneDecl) (olds now : List Pane) (k : ℕ) (is_stale : Bool) (a b : Wire)
    → length ds ≤ k → length olds ≤ k → length now ≤ k → SentSoFar g which state ds olds now k is_stale a b
    → SendsOn (not is_stale) a b (ops_bytes (settled_ops g which state ds (map marks_of_pane olds) (map marks_of_pane now)))
sent_all g which state ds olds now k is_stale a b hd ho hn far =
    let taken : map marks_of_pane (take k now) ++ [] ≡ map marks_of_pane now = append-nil (map marks_of_pane (take k now)) ∙ ap (map marks_of_pane) (take_all k now hn) in
    let none : settled_ops g which state (drop k ds) (map marks_of_pane (drop k olds)) [] ≡ [] = rw (drop_all k ds hd) refl in
    let all : settled_ops g which state ds (map marks_of_pane olds) (map marks_of_pane now) ≡ far.ops =
    ap (settled_ops g which state ds (map marks_of_pane olds)) (sym taken) ∙ (far.more [] ∙ (ap (λ (xs : List Op). far.ops ++ xs) none ∙ append-nil far.ops)) in
    rw all far.sent

-- ---- the pane in a place

-- a pane lies where it is declared
pub area_declared : (app : App) (f : Frame) (k : ℕ) (d : PaneDecl) (p : Pane) → IsFrameOf app f → slice_get (panes_of app) k ≡ Some d
    → slice_get f.panes.items k ≡ Some p → p.area ≡ area_of d
area_declared app f k d p h declares stands =
    let one : Some p.area ≡ slice_get (map area_of_pane f.panes.items) k =
    sym (slice_get-map area_of_pane f.panes.items k ∙ ap (option_map area_of_pane) stands) in
    let two : slice_get (map area_of (panes_of app)) k ≡ Some (area_of d) =
    slice_get-map area_of (panes_of app) k ∙ ap (option_map area_of) declares in
    let both : Some p.area ≡ Some (area_of d) = one ∙ (ap (λ (xs : List Area). slice_get xs k) h.areas ∙ two) in
    cc

-- a pane that was not asked for
pub sent_quiet : (g : Ground) (which : Which) (state : StateAt) (k : ℕ) (olds news : List Pane) (o : Pane) (is_stale : Bool) (w : Wire) → slice_get olds k ≡ Some o
    → is_due which (marks_of_pane o) ≡ false → SendsAt g which state k olds news is_stale is_stale w w
sent_quiet g which state k olds news o is_stale w stood due = λ d before n declares stands now.
    let same : before ≡ o = let both : Some before ≡ Some o = sym stands ∙ stood in cc in
    let none : step_ops g which state d (marks_of_pane before) (marks_of_pane n) ≡ [] = rw (same, due) refl in
    rw none (quiet_sends is_stale w)

-- the same was sent, where it matters that it is the same
sends_same : (was is : Bool) (a b : Wire) (xs ys : List Op) → (was ≡ false → xs ≡ ys) → SendsPane was is a b (ops_bytes xs) → SendsPane was is a b (ops_bytes ys)
sends_same true is a b xs ys e h = h
sends_same false is a b xs ys e h = subst (λ (os : List Op). SendsPane false is a b (ops_bytes os)) (e refl) h

-- one that was settled
pub sent_due : (g : Ground) (which : Which) (state : StateAt) (old : Frame) (k : ℕ) (news : List Pane) (d : PaneDecl) (o p : Pane) (was is : Bool) (a b : Wire)
    (shown : ℤ → ℤ → Bool)
    → IsFrameOf g.app old → slice_get (panes_of g.app) k ≡ Some d → slice_get old.panes.items k ≡ Some o → p.area ≡ o.area → news ≡ slice_set old.panes.items k p
    → is_due which (marks_of_pane o) ≡ true
    → (was ≡ false → (x y : ℕ) → covers p.area x y ≡ true → on_screen shown p.area x y
    ≡ on_screen (touched_in (pane_draw g.limits g.app g.types d state) (marks_of_pane o) (marks_of_pane p)) p.area x y)
    → SendsPane was is a b (ops_bytes (touched_pane_ops p.area (marks_in (marks_of_pane p)) shown))
    → SendsAt g which state k old.panes.items news was is a b
sent_due g which state old k news d o p was is a b shown frame declares stood area stands due told sends = λ e before n declared there now.
    let same : before ≡ o = let both : Some before ≡ Some o = sym there ∙ stood in cc in
    let this : e ≡ d = let both : Some e ≡ Some d = sym declared ∙ declares in cc in
    let inside : k < length old.panes.items = slice_get_within old.panes.items k o stood in
    let new : n ≡ p = let both : Some n ≡ Some p = sym now ∙ (ap (λ (xs : List Pane). slice_get xs k) stands ∙ slice_get-set_here old.panes.items k p inside) in cc in
    let lies : area_of d ≡ p.area = sym (area ∙ area_declared g.app old k d o frame declares stood) in
    let touched = touched_in (pane_draw g.limits g.app g.types d state) (marks_of_pane o) (marks_of_pane p) in
    let ops : step_ops g which state e (marks_of_pane before) (marks_of_pane n) ≡ touched_pane_ops p.area (marks_in (marks_of_pane p)) touched =
    ap (λ (x : PaneDecl). step_ops g which state x (marks_of_pane before) (marks_of_pane n)) this
    ∙ (ap (λ (x : Pane). step_ops g which state d (marks_of_pane x) (marks_of_pane n)) same
    ∙ (ap (λ (x : Pane). step_ops g which state d (marks_of_pane o) (marks_of_pane x)) new
    ∙ (ap (λ (b : Bool). if b then touched_pane_ops (area_of d) (marks_in (marks_of_pane p)) touched else []) due
    ∙ ap (λ (x : Area). touched_pane_ops x (marks_in (marks_of_pane p)) touched) lies))) in
    subst (λ (xs : List Op). SendsPane was is a b (ops_bytes xs)) (sym ops)
    (sends_same was is a b (touched_pane_ops p.area (marks_in (marks_of_pane p)) shown) (touched_pane_ops p.area (marks_in (marks_of_pane p)) touched)
    (λ fresh. touched-same (pane_cell p.area (marks_in (marks_of_pane p))) (on_screen shown p.area) (on_screen touched p.area) p.area (told fresh)) sends)
