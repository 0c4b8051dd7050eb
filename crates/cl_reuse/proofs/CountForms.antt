-- What is kept of faithful records has no more items than what is drawn: sums over runs.
use Rattle.std.proofs.Common.{◌≡◌, ◌∙◌, nat_le, ap, sym, refl, ℕ, ◌+◌, ◌-◌, ◌≤◌, Bool, true, false, if◌then◌else◌, List, [], ◌∷◌, ◌++◌, append-nil}
use Rattle.std.proofs.Common.{Option, Some, None, Result, Ok, Err, arith}
use Rattle.std.specs.Prelude.{IfSome}
use Rattle.cl_region.specs.declared.rects.Shift.{Shift}
use Rattle.cl_syntax.specs.ShapeTree.{ShapeTrees}
use Rattle.cl_application.specs.declared.applications.App.{App}
use Rattle.cl_eval.specs.Outcome.{Gives, Outcome, Run, Traps, after, give, lift, trap}
use Rattle.cl_eval.specs.Slots.{Env, Slots}
use Rattle.cl_eval.specs.TypeMeanings.{TypeMeanings}
use Rattle.cl_eval.proofs.LimitLemmas.{no_value}
use Rattle.cl_medium.specs.Items.{Item, move_item}
use Rattle.cl_record.specs.Counts.{count_of}
use Rattle.cl_record.specs.Heads.{HeadAt}
use Rattle.cl_record.specs.Marks.{Mark, close, history_marks, marks_of_all, open_update}
use Rattle.cl_record.specs.Shifts.{still}
use Rattle.cl_record.specs.Trees.{Trees}
use Rattle.cl_record.specs.Trees as records
use Rattle.cl_display.specs.Drawings.{DrawingAt}
use Rattle.cl_display.specs.Fresh.{Allowance, bodies_on, draws_body, draws_keyed, left_over}
use Rattle.cl_display.specs.Outcomes.{Draw, DrawOutcome, opens_none, run_of, walk_after, ◌>->◌, ◌>>=◌}
use Rattle.cl_display.specs.Siblings.{is_taken, note}
use Rattle.cl_display.specs.Updates.{KeyAt, end_update, enter_body, enter_update, head_at, key_weight, opening_at}
use Rattle.cl_display.specs.Walks.{OpeningAt, Walk, done, ◌then◌}
use Rattle.cl_reuse.specs.Keeping.{EndsAs, kept_part, may_keep, shift_at}
use Rattle.cl_reuse.specs.Kept.{KeptAt, OldUpdate, found, items_kept, kept_at, kept_here, kept_of}
use Rattle.cl_reuse.specs.ReadValues.{scene_on}
use Rattle.cl_reuse.specs.Recorded.{AreFaithful}
use Rattle.cl_reuse.proofs.FaithForms.{DrawsTo, StepDraws}
use Rattle.cl_reuse.proofs.GoneLemmas.{count-behind, count-moved, items-behind}
use Rattle.cl_reuse.proofs.PayForms.{Ends, FoundAs, found-among}
use Rattle.cl_reuse.proofs.PayLemmas.{kept-then}

-- the drawing at an end
abbrev end_of : DrawingAt → Outcome DrawingAt → DrawingAt
end_of s (Gives t cost deepest) = t
end_of s (Traps kind cost deepest) = s

-- how many items were drawn there
abbrev pub drawn_in : DrawingAt → ℕ
drawn_in s = count_of s.part.marks

-- the ends of two equal outcomes have as many
pub same-end : (s t u : DrawingAt) (n l i j : ℕ) → Gives t n l ≡ Gives u i j → drawn_in t ≡ drawn_in u
same-end s t u n l i j p = ap (λ (o : Outcome DrawingAt). drawn_in (end_of s o)) p

items-then : (at : Shift) (old : Trees Item) (w u : Walk) → items_kept (kept_of at old (w then u)) ≡ items_kept (kept_of at old w) + items_kept (kept_of at old u)
items-then at old w u = ap (λ (ks : List KeptAt). items_kept ks) (kept-then at old w u) ∙ items-behind (kept_of at old w) (kept_of at old u)

-- a branch that is drawn behind other marks
pub count-branch : (outer : List (Mark Item)) (m : Mark Item) (inner : List (Mark Item)) → count_of (m ∷ []) ≡ 0
    → count_of (outer ++ (m ∷ (inner ++ close ∷ []))) ≡ count_of outer + count_of inner
count-branch outer m inner e =
    let whole = count-behind outer (m ∷ (inner ++ close ∷ [])) in
    let first = count-behind (m ∷ []) (inner ++ close ∷ []) in
    let last = count-behind inner (close ∷ []) in
    omega (arith, e, whole, first, last)

-- where a draw from there ends, what is kept of its walk has no more items than it drew
abbrev pub CountsFor : Shift → Trees Item → DrawingAt → DrawOutcome → Type 0
CountsFor at old s o = (t : DrawingAt) (n l : ℕ) → o.outcome ≡ Gives t n l → items_kept (kept_of at old o.walk) + drawn_in s ≤ drawn_in t

abbrev pub RunCounts : Shift → Trees Item → DrawingAt → Draw → Type 0
RunCounts at old s m = (c d : ℕ) → CountsFor at old s (m c d)

module _ (app : App) (types : TypeMeanings) where
  drawn-more : (s t : DrawingAt) → DrawsTo app types s t → drawn_in s ≤ drawn_in t
  drawn-more s t p =
      let all = ap (λ (ms : List (Mark Item)). count_of ms) p.behind in
      let sum = count-behind s.part.marks (history_marks move_item p.own) in
      omega (arith, all, sum)

  -- a step draws no fewer items
  abbrev pub StepMore : DrawingAt → Result DrawingAt ℕ → Type 0
  StepMore s (Ok t) = drawn_in s ≤ drawn_in t
  StepMore s (Err k) = Unit {0}

  pub step-more : (s : DrawingAt) (r : Result DrawingAt ℕ) → StepDraws app types s r → StepMore s r
  step-more s (Ok t) h = drawn-more s t h
  step-more s (Err k) h = tt

  entered-more : (key : KeyAt) (s : DrawingAt) (taken fits : Bool)
      → StepMore s (if taken then Err 8 else (if fits
      then Ok (record s { weight = s.weight + key_weight key; siblings = note key.site key.id s.siblings }) else Err 10))
  entered-more key s true fits = tt
  entered-more key s false true = omega arith
  entered-more key s false false = tt

  opening-more : (most : ℕ) (key : KeyAt) (s : DrawingAt) → StepMore s (enter_update most key s)
  opening-more most key s = entered-more key s (is_taken key.site key.id s.siblings) (nat_le (s.weight + key_weight key) most)

  module _ (at : Shift) (old : Trees Item) where
    pub counts-lift : (s : DrawingAt) (r : Result DrawingAt ℕ) → StepDraws app types s r → RunCounts at old s (opens_none (lift r))
    counts-lift s (Ok u) h c d t n l p =
        let more = drawn-more s u h in
        let same : drawn_in u ≡ drawn_in t = same-end s u t c d n l p in
        omega (arith, more, same)
    counts-lift s (Err k) h c d t n l p = absurd (no_value k c d t n l p)

    pub counts-left : (s u : DrawingAt) → drawn_in s ≤ drawn_in u → RunCounts at old s (opens_none (give u))
    counts-left s u h c d t n l p =
        let same : drawn_in u ≡ drawn_in t = same-end s u t c d n l p in
        omega (arith, h, same)

    pub counts-give : (s : DrawingAt) → RunCounts at old s (opens_none (give s))
    counts-give s = counts-left s s (omega arith)

    pub counts-trap : (s : DrawingAt) (k : ℕ) → RunCounts at old s (opens_none (trap k))
    counts-trap s k c d t n l p = absurd (no_value k c d t n l p)

    pub counts-choice : (s : DrawingAt) (b : Bool) (m n : Draw) → RunCounts at old s m → RunCounts at old s n → RunCounts at old s (if b then m else n)
    counts-choice s true m n g h = g
    counts-choice s false m n g h = h

    counts-behind : (s : DrawingAt) (o : DrawOutcome) (f : DrawingAt → Draw) → CountsFor at old s o → ((t : DrawingAt) → RunCounts at old t (f t))
        → (p : Outcome DrawingAt) → o.outcome ≡ p → (x : DrawingAt) (n l : ℕ) → after p (λ t. run_of (f t)) ≡ Gives x n l
        → items_kept (kept_of at old (o.walk then walk_after p f)) + drawn_in s ≤ drawn_in x
    counts-behind s o f g h (Gives t i j) q x n l r =
        let sum = items-then at old o.walk (f t i j).walk in
        let first = g t i j q in
        let more = h t i j x n l r in
        omega (arith, sum, first, more)
    counts-behind s o f g h (Traps k i j) q x n l r = absurd (no_value k i j x n l r)

    pub counts-then : (s : DrawingAt) (m : Draw) (f : DrawingAt → Draw) → RunCounts at old s m → ((t : DrawingAt) → RunCounts at old t (f t))
        → RunCounts at old s (m >>= f)
    counts-then s m f g h c d t n l p = counts-behind s (m c d) f (g c d) h (m c d).outcome refl t n l p

    counts-given : {A : Type 0} (s : DrawingAt) (m : Run A) (f : A → Draw) (c d : ℕ) (o : Outcome A) → m c d ≡ o
        → ((x : A) (i j : ℕ) → m c d ≡ Gives x i j → CountsFor at old s (f x i j)) → (t : DrawingAt) (n l : ℕ)
        → after o (λ x. run_of (f x)) ≡ Gives t n l → items_kept (kept_of at old (walk_after o f)) + drawn_in s ≤ drawn_in t
    counts-given s m f c d (Gives x i j) q h t n l p = h x i j q t n l p
    counts-given s m f c d (Traps k i j) q h t n l p = absurd (no_value k i j t n l p)

    pub counts-value : {A : Type 0} (s : DrawingAt) (m : Run A) (f : A → Draw) → ((x : A) → RunCounts at old s (f x)) → RunCounts at old s (m >-> f)
    counts-value s m f h c d t n l p = counts-given s m f c d (m c d) refl (λ x i j q. h x i j) t n l p

    -- the same where it counts how the value came
    pub counts-come : {A : Type 0} (s : DrawingAt) (m : Run A) (f : A → Draw)
        → ((x : A) (c d i j : ℕ) → m c d ≡ Gives x i j → CountsFor at old s (f x i j)) → RunCounts at old s (m >-> f)
    counts-come s m f h c d t n l p = counts-given s m f c d (m c d) refl (λ x i j q. h x c d i j q) t n l p

    -- what goes on from a step
    pub counts-set : (s : DrawingAt) (r : Result DrawingAt ℕ) (f : DrawingAt → Draw) → StepMore s r → ((u : DrawingAt) → RunCounts at old u (f u))
        → RunCounts at old s (lift r >-> f)
    counts-set s (Ok u) f e h c d t n l p =
        let rest = h u c d t n l p in
        omega (arith, e, rest)
    counts-set s (Err k) f e h c d t n l p = absurd (no_value k c d t n l p)

    -- a body that is drawn from u, and left
    counts-back : (s u : DrawingAt) (o : DrawOutcome) (leave : DrawingAt → DrawingAt) → CountsFor at old u o
        → ((t : DrawingAt) → drawn_in u ≤ drawn_in t → drawn_in s + drawn_in t ≤ drawn_in u + drawn_in (leave t))
        → (p : Outcome DrawingAt) → o.outcome ≡ p → (x : DrawingAt) (n l : ℕ) → after p (λ t. run_of (opens_none (give (leave t)))) ≡ Gives x n l
        → items_kept (kept_of at old (o.walk then walk_after p (λ t. opens_none (give (leave t))))) + drawn_in s ≤ drawn_in x
    counts-back s u o leave g h (Gives t i j) q x n l r =
        let sum = items-then at old o.walk done in
        let first = g t i j q in
        let more = h t (omega (arith, first)) in
        let same : drawn_in (leave t) ≡ drawn_in x = same-end s (leave t) x i j n l r in
        omega (arith, sum, first, more, same)
    counts-back s u o leave g h (Traps k i j) q x n l r = absurd (no_value k i j x n l r)

    pub counts-leave : (s u : DrawingAt) (m : Draw) (leave : DrawingAt → DrawingAt) → RunCounts at old u m
        → ((t : DrawingAt) → drawn_in u ≤ drawn_in t → drawn_in s + drawn_in t ≤ drawn_in u + drawn_in (leave t))
        → RunCounts at old s (m >>= λ t. opens_none (give (leave t)))
    counts-leave s u m leave g h c d t n l p = counts-back s u (m c d) leave (g c d) h (m c d).outcome refl t n l p

  -- ---- updates

  -- a body counts over all faithful records
  abbrev pub BodyCounts : DrawOutcome → Type 0
  BodyCounts b = (at : Shift) (old : Trees Item) → AreFaithful app types old → (t : DrawingAt) (n l : ℕ) → b.outcome ≡ Gives t n l
      → items_kept (kept_of at old b.walk) ≤ drawn_in t

  kept-drawn : (h : HeadAt) (inside : List (Mark Item)) (v : Shift) (o : OpeningAt) (b : DrawOutcome) → EndsAs h inside v o.ambient b.outcome
      → (t : DrawingAt) (n l : ℕ) → b.outcome ≡ Gives t n l → count_of inside ≡ drawn_in t
  kept-drawn h inside v o b e t n l p =
      let same : drawn_in e.end ≡ drawn_in t = same-end t e.end t h.measures.cost h.measures.reach n l (sym e.is ∙ p) in
      let all : drawn_in e.end ≡ count_of (kept_part v h inside).marks = ap (λ x. count_of x.marks) e.part in
      let moved = count-moved v inside in
      omega (arith, same, all, moved)

  counts-kept : (o : OpeningAt) (old : OldUpdate) (b : DrawOutcome) (keep : Bool) → may_keep old.head o ≡ keep → FoundAs app types o.site old → BodyCounts b
      → (may_keep old.head o ≡ true → EndsAs old.head (marks_of_all move_item old.inside) (shift_at old.head o) o.ambient b.outcome)
      → (t : DrawingAt) (n l : ℕ) → b.outcome ≡ Gives t n l
      → items_kept (if keep then kept_here old o ∷ [] else kept_of old.place old.inside b.walk) ≤ drawn_in t
  counts-kept o old b true e f counts ends t n l p =
      let same = kept-drawn old.head (marks_of_all move_item old.inside) (shift_at old.head o) o b (ends e) t n l p in
      omega (arith, same)
  counts-kept o old b false e f counts ends t n l p = counts old.place old.inside f.inside t n l p

  counts-found : (o : OpeningAt) (u : Option OldUpdate) (b : DrawOutcome) → IfSome u (FoundAs app types o.site) → BodyCounts b
      → ((old : OldUpdate) → FoundAs app types o.site old → may_keep old.head o ≡ true
      → EndsAs old.head (marks_of_all move_item old.inside) (shift_at old.head o) o.ambient b.outcome)
      → (t : DrawingAt) (n l : ℕ) → b.outcome ≡ Gives t n l
      → items_kept (kept_at u o (λ there olds. kept_of there olds b.walk) ++ []) ≤ drawn_in t
  counts-found o None b f counts ends t n l p =
      rw (append-nil (kept_of still records.none b.walk)) (counts still records.none tt t n l p)
  counts-found o (Some old) b f counts ends t n l p =
      rw (append-nil (kept_at (Some old) o (λ there olds. kept_of there olds b.walk)))
      (counts-kept o old b (may_keep old.head o) refl f counts (ends old f) t n l p)

  module _ (slots : Slots) (allowed : Allowance) (left level : ℕ) (env : Env) (body : ShapeTrees) (key : KeyAt) (ends : Ends app slots types env body key)
      (counts : (inner : Allowance) (s : DrawingAt) → drawn_in s ≡ 0 → BodyCounts ((bodies_on left (scene_on app slots types)).draw inner env body s))
      (at : Shift) (old : Trees Item) (f : AreFaithful app types old) where
    ended-counts : (s : DrawingAt) (kept : ℕ) (o : Outcome DrawingAt) → ((t : DrawingAt) (n l : ℕ) → o ≡ Gives t n l → kept ≤ drawn_in t) → (c d : ℕ)
        → (t : DrawingAt) (n l : ℕ) → end_update key level s o c d ≡ Gives t n l → kept + drawn_in s ≤ drawn_in t
    ended-counts s kept (Gives u i r) h c d t n l p =
        let head = head_at key s.ambient u i r in
        let inside = h u i r refl in
        let sum = count-branch s.part.marks (open_update head) u.part.marks refl in
        let same = ap (λ (o : Outcome DrawingAt). drawn_in (end_of s o)) p in
        omega (arith, inside, sum, same)
    ended-counts s kept (Traps k i r) h c d t n l p = absurd (no_value k (c + i) d t n l p)

    counts-body : (s : DrawingAt) → RunCounts at old s (draws_body allowed (bodies_on left (scene_on app slots types)) level env body key s)
    counts-body s c d =
        let o = opening_at key s (allowed.budget - c) (allowed.weight - s.weight) left in
        let b = (bodies_on left (scene_on app slots types)).draw (left_over allowed c s.weight) env body (enter_body s) in
        let kept = items_kept (kept_at (found key.site key.id at old) o (λ there olds. kept_of there olds b.walk) ++ []) in
        ended-counts s kept b.outcome
        (counts-found o (found key.site key.id at old) b (found-among app types key.site key.id at old f)
        (counts (left_over allowed c s.weight) (enter_body s) refl) (λ u g keep. ends u.head o refl g.same u.inside g.recorded keep)) c d

    pub counts-keyed : (s : DrawingAt) → RunCounts at old s (draws_keyed allowed (bodies_on left (scene_on app slots types)) level env body s key)
    counts-keyed s =
        counts-set at old s (enter_update allowed.weight key s) (draws_body allowed (bodies_on left (scene_on app slots types)) level env body key)
        (opening-more allowed.weight key s) counts-body
