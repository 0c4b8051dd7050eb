-- Draws that end without a trap under some limits, and so elsewhere under others.
use Rattle.std.proofs.Common.{◌≡◌, ◌∙◌, ap, sym, subst, ℕ, ◌≤◌, Bool, true, false, if◌then◌else◌, Result, Ok, Err, arith, refl}
use Rattle.cl_syntax.specs.ShapeTree.{ShapeTree}
use Rattle.cl_eval.specs.Outcome.{Outcome, Gives, Traps, Run, after, give, trap, lift}
use Rattle.cl_eval.specs.Slots.{Env}
use Rattle.cl_eval.proofs.LimitLemmas.{Goes, no_value}
use Rattle.cl_display.specs.Drawings.{DrawingAt}
use Rattle.cl_display.specs.Fresh.{Draws}
use Rattle.cl_display.specs.Outcomes.{Draw, opens_none, run_of, ◌>->◌, ◌>>=◌}
use Rattle.cl_display.proofs.Widening.{cost_at, deepest_at}
use Rattle.cl_reuse.specs.Motions.{Motion, move_drawing}
use Rattle.cl_reuse.proofs.StepLemmas.{Grows, StepsTo, grows-itself, grows-then}
use Rattle.cl_reuse.proofs.MotionLemmas.{Fits, sides-within}
use Rattle.cl_reuse.proofs.SettingLemmas.{EntersTo, Leaves}

-- from a cost, a level and a drawing to an end: nothing falls, and where the end fits, the second draw comes to the same elsewhere
pub record Carries (m : Motion) (budget depth most : ℕ) (second : Draw) (s : DrawingAt) (c d : ℕ) (t : DrawingAt) (n l : ℕ) : Type 0 where
  pub cost : c ≤ n
  pub deepest : d ≤ l
  pub grows : Grows s t
  pub same : n ≤ budget → l ≤ depth → Fits m most t → (second c d).outcome ≡ Gives (move_drawing m t) n l

abbrev pub Carry : (m : Motion) (budget depth most : ℕ) → DrawingAt → Draw → Draw → Type 0
Carry m budget depth most s first second =
    (c d : ℕ) (t : DrawingAt) (n l : ℕ) → (first c d).outcome ≡ Gives t n l → Carries m budget depth most second s c d t n l

-- the meaning of forms, from a drawing and from elsewhere
abbrev pub AllCarry : (budget depth most level : ℕ) → Draws → Draws → Type 0
AllCarry budget depth most level go go' =
    (m : Motion) (env : Env) (f : ShapeTree) (s : DrawingAt) → Carry m budget depth most s (go level env f s) (go' level env f (move_drawing m s))

-- where an end fits, what it came from does
pub fits-before : (m : Motion) (most : ℕ) (s t : DrawingAt) → Grows s t → Fits m most t → Fits m most s
fits-before m most s t g f = record {
  weight = omega (arith, g.weight, f.weight);
  margin = λ h. f.margin (g.margin h);
  origin = λ h. f.origin (g.origin h);
  range = sides-within m.by t.part.extent s.part.extent g.extent f.range;
}

-- the drawing at an end
abbrev end_of : DrawingAt → Outcome DrawingAt → DrawingAt
end_of s (Gives t cost deepest) = t
end_of s (Traps kind cost deepest) = s

module _ (m : Motion) (budget depth most : ℕ) where
  carries-then : (s : DrawingAt) (first first' : Draw) (f f' : DrawingAt → Draw) → Carry m budget depth most s first first'
      → ((t : DrawingAt) → Carry m budget depth most t (f t) (f' (move_drawing m t)))
      → (c d : ℕ) (o : Outcome DrawingAt) → (first c d).outcome ≡ o → (t : DrawingAt) (n l : ℕ) → after o (λ x. run_of (f x)) ≡ Gives t n l
      → Carries m budget depth most (first' >>= f') s c d t n l
  carries-then s first first' f f' g h c d (Gives x i j) q t n l p =
      let start = g c d x i j q in
      let rest = h x i j t n l p in
      record {
        cost = omega (arith, start.cost, rest.cost);
        deepest = omega (arith, start.deepest, rest.deepest);
        grows = grows-then s x t start.grows rest.grows;
        same = λ cheap shallow fits.
            let goes : (first' c d).outcome ≡ Gives (move_drawing m x) i j =
            start.same (omega (arith, cheap, rest.cost)) (omega (arith, shallow, rest.deepest)) (fits-before m most x t rest.grows fits) in
            rw goes (rest.same cheap shallow fits);
      }
  carries-then s first first' f f' g h c d (Traps k i j) q t n l p = absurd (no_value k i j t n l p)

  pub carry-then : (s : DrawingAt) (first first' : Draw) (f f' : DrawingAt → Draw) → Carry m budget depth most s first first'
      → ((t : DrawingAt) → Carry m budget depth most t (f t) (f' (move_drawing m t))) → Carry m budget depth most s (first >>= f) (first' >>= f')
  carry-then s first first' f f' g h c d t n l p = carries-then s first first' f f' g h c d (first c d).outcome refl t n l p

  carries-value : {A : Type 0} (s : DrawingAt) (first first' : Run A) (f f' : A → Draw) → Goes budget depth first first'
      → ((x : A) → Carry m budget depth most s (f x) (f' x))
      → (c d : ℕ) (o : Outcome A) → first c d ≡ o → (t : DrawingAt) (n l : ℕ) → after o (λ x. run_of (f x)) ≡ Gives t n l
      → Carries m budget depth most (first' >-> f') s c d t n l
  carries-value s first first' f f' g h c d (Gives x i j) q t n l p =
      let start = g c d x i j q in
      let rest = h x i j t n l p in
      record {
        cost = omega (arith, start.cost, rest.cost);
        deepest = omega (arith, start.deepest, rest.deepest);
        grows = rest.grows;
        same = λ cheap shallow fits.
            let goes : first' c d ≡ Gives x i j = start.same (omega (arith, cheap, rest.cost)) (omega (arith, shallow, rest.deepest)) in
            rw goes (rest.same cheap shallow fits);
      }
  carries-value s first first' f f' g h c d (Traps k i j) q t n l p = absurd (no_value k i j t n l p)

  pub carry-value : {A : Type 0} (s : DrawingAt) (first first' : Run A) (f f' : A → Draw) → Goes budget depth first first'
      → ((x : A) → Carry m budget depth most s (f x) (f' x)) → Carry m budget depth most s (first >-> f) (first' >-> f')
  carry-value s first first' f f' g h c d t n l p = carries-value s first first' f f' g h c d (first c d) refl t n l p

  pub carry-lift : (s : DrawingAt) (r r' : Result DrawingAt ℕ) → StepsTo m most s r r'
      → Carry m budget depth most s (opens_none (lift r)) (opens_none (lift r'))
  carry-lift s (Ok u) r' step c d t n l p =
      let cost : c ≡ n = ap cost_at p in
      let deepest : d ≡ l = ap deepest_at p in
      let same : u ≡ t = ap (end_of s) p in
      record {
        cost = omega (arith, cost);
        deepest = omega (arith, deepest);
        grows = subst (Grows s) same step.0;
        same = λ _ _ fits.
            let goes : r' ≡ Ok (move_drawing m u) = step.1 (subst (Fits m most) (sym same) fits) in
            rw goes (ap (λ (o : Outcome DrawingAt). moved o) p);
      }
    where
      moved : Outcome DrawingAt → Outcome DrawingAt
      moved (Gives x i j) = Gives (move_drawing m x) i j
      moved (Traps k i j) = Traps k i j
  carry-lift s (Err e) r' step c d t n l p = absurd (no_value e c d t n l p)

  pub carry-trap : (s : DrawingAt) (k : ℕ) → Carry m budget depth most s (opens_none (trap k)) (opens_none (trap k))
  carry-trap s k c d t n l p = absurd (no_value k c d t n l p)

  pub carry-give : (s : DrawingAt) → Carry m budget depth most s (opens_none (give s)) (opens_none (give (move_drawing m s)))
  carry-give s = carry-lift s (Ok s) (Ok (move_drawing m s)) (grows-itself s, λ fits. refl)

  pub carry-choice : (s : DrawingAt) (b : Bool) (first first' other other' : Draw) → Carry m budget depth most s first first'
      → Carry m budget depth most s other other' → Carry m budget depth most s (if b then first else other) (if b then first' else other')
  carry-choice s true first first' other other' g h = g
  carry-choice s false first first' other other' g h = h

  -- what is set, and then a draw from it
  pub carry-set : (s : DrawingAt) (r r' : Result DrawingAt ℕ) (f f' : DrawingAt → Draw) → StepsTo m most s r r'
      → ((u : DrawingAt) → Carry m budget depth most u (f u) (f' (move_drawing m u))) → Carry m budget depth most s (lift r >-> f) (lift r' >-> f')
  carry-set s (Ok u) r' f f' step g c d t n l p =
      let rest = g u c d t n l p in
      record {
        cost = rest.cost;
        deepest = rest.deepest;
        grows = grows-then s u t step.0 rest.grows;
        same = λ cheap shallow fits.
            let goes : r' ≡ Ok (move_drawing m u) = step.1 (fits-before m most u t rest.grows fits) in
            rw goes (rest.same cheap shallow fits);
      }
  carry-set s (Err k) r' f f' step g c d t n l p = absurd (no_value k c d t n l p)

  -- a body that is drawn from what was set for it, and left
  carries-left : (inner : Motion) (s u : DrawingAt) (r' : Result DrawingAt ℕ) (first : Draw) (rest' : DrawingAt → Draw) (leave leave' : DrawingAt → DrawingAt)
      → Leaves m inner most s u leave leave' → ((t : DrawingAt) → Grows u t → Fits m most (leave t) → r' ≡ Ok (move_drawing inner u))
      → Carry inner budget depth most u first (rest' (move_drawing inner u)) → (c d : ℕ) (o : Outcome DrawingAt) → (first c d).outcome ≡ o
      → (t : DrawingAt) (n l : ℕ) → after o (λ x. run_of (opens_none (give (leave x)))) ≡ Gives t n l
      → Carries m budget depth most (lift r' >-> λ y. rest' y >>= λ x. opens_none (give (leave' x))) s c d t n l
  carries-left inner s u r' first rest' leave leave' leaves sets g c d (Gives x i j) q t n l p =
      let start = g c d x i j q in
      let cost : i ≡ n = ap cost_at p in
      let deepest : j ≡ l = ap deepest_at p in
      let same : leave x ≡ t = ap (end_of s) p in
      record {
        cost = omega (arith, start.cost, cost);
        deepest = omega (arith, start.deepest, deepest);
        grows = subst (Grows s) same (leaves.grows x start.grows);
        same = λ cheap shallow fits.
            let left : Fits m most (leave x) = subst (Fits m most) (sym same) fits in
            let entered : r' ≡ Ok (move_drawing inner u) = sets x start.grows left in
            let goes : (rest' (move_drawing inner u) c d).outcome ≡ Gives (move_drawing inner x) i j =
            start.same (omega (arith, cheap, cost)) (omega (arith, shallow, deepest)) (leaves.fits x start.grows left) in
            let there : leave' (move_drawing inner x) ≡ move_drawing m t = leaves.moves x start.grows left ∙ ap (λ (y : DrawingAt). move_drawing m y) same in
            rw (entered, goes) (λ k. Gives (there k) (cost k) (deepest k));
      }
  carries-left inner s u r' first rest' leave leave' leaves sets g c d (Traps k i j) q t n l p = absurd (no_value k i j t n l p)

  pub carry-within : (inner : Motion) (s : DrawingAt) (r r' : Result DrawingAt ℕ) (rest rest' : DrawingAt → Draw) (leave leave' : DrawingAt → DrawingAt)
      → EntersTo m inner most s r r' leave leave' → ((u : DrawingAt) → Carry inner budget depth most u (rest u) (rest' (move_drawing inner u)))
      → Carry m budget depth most s (lift r >-> λ y. rest y >>= λ x. opens_none (give (leave x)))
      (lift r' >-> λ y. rest' y >>= λ x. opens_none (give (leave' x)))
  carry-within inner s (Ok u) r' rest rest' leave leave' h g c d t n l p =
      carries-left inner s u r' (rest u) rest' leave leave' h.0 h.1 (g u) c d (rest u c d).outcome refl t n l p
  carry-within inner s (Err k) r' rest rest' leave leave' h g c d t n l p = absurd (no_value k c d t n l p)
