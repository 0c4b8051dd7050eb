-- Draws that end without a trap under some limits, and so under others.
use Rattle.std.proofs.Common.{◌≡◌, ap, ℕ, ◌≤◌, Bool, true, false, if◌then◌else◌}
use Rattle.std.proofs.Common.{Result, Ok, Err, arith, refl}
use Rattle.cl_syntax.specs.ShapeTree.{ShapeTree}
use Rattle.cl_eval.specs.Outcome.{Outcome, Gives, Traps, Run, after, give, trap, lift}
use Rattle.cl_eval.specs.Slots.{Env}
use Rattle.cl_eval.proofs.LimitLemmas.{Goes}
use Rattle.cl_eval.proofs.LimitLemmas.{no_value}
use Rattle.cl_display.specs.Drawings.{DrawingAt}
use Rattle.cl_display.specs.Outcomes.{Draw, opens_none, run_of, ◌>->◌, ◌>>=◌}
use Rattle.cl_display.specs.Fresh.{Draws}
use Rattle.cl_display.proofs.WeightLemmas.{Keeps, Rises, keeps-same}

-- ---- draws

-- from a cost, a level and a weight to a drawing: none falls, and within the limits the second draw comes to the same
pub record Extends (budget depth most : ℕ) (second : Draw) (s : DrawingAt) (c d : ℕ) (t : DrawingAt) (n l : ℕ) : Type 0 where
  pub cost : c ≤ n
  pub deepest : d ≤ l
  pub weight : s.weight ≤ t.weight
  pub same : n ≤ budget → l ≤ depth → t.weight ≤ most → (second c d).outcome ≡ Gives t n l

abbrev pub Widens : (budget depth most : ℕ) → DrawingAt → Draw → Draw → Type 0
Widens budget depth most s first second =
    (c d : ℕ) (t : DrawingAt) (n l : ℕ) → (first c d).outcome ≡ Gives t n l → Extends budget depth most second s c d t n l

abbrev pub AllWiden : (budget depth most level : ℕ) → Draws → Draws → Type 0
AllWiden budget depth most level go go' =
    (env : Env) (f : ShapeTree) (s : DrawingAt) → Widens budget depth most s (go level env f s) (go' level env f s)

abbrev pub cost_at : Outcome DrawingAt → ℕ
cost_at (Gives s cost deepest) = cost
cost_at (Traps kind cost deepest) = cost

abbrev pub deepest_at : Outcome DrawingAt → ℕ
deepest_at (Gives s cost deepest) = deepest
deepest_at (Traps kind cost deepest) = deepest

abbrev pub weight_at : Outcome DrawingAt → ℕ
weight_at (Gives s cost deepest) = s.weight
weight_at (Traps kind cost deepest) = 0

module _ (budget depth most : ℕ) where
  extends-then : (s : DrawingAt) (m m' : Draw) (f f' : DrawingAt → Draw) → Widens budget depth most s m m'
      → ((t : DrawingAt) → Widens budget depth most t (f t) (f' t))
      → (c d : ℕ) (o : Outcome DrawingAt) → (m c d).outcome ≡ o → (t : DrawingAt) (n l : ℕ) → after o (λ x. run_of (f x)) ≡ Gives t n l
      → Extends budget depth most (m' >>= f') s c d t n l
  extends-then s m m' f f' g h c d (Gives x i j) q t n l p =
      let first = g c d x i j q in
      let rest = h x i j t n l p in
      record {
        cost = omega (arith, first.cost, rest.cost);
        deepest = omega (arith, first.deepest, rest.deepest);
        weight = omega (arith, first.weight, rest.weight);
        same = λ cheap shallow light.
            let goes : (m' c d).outcome ≡ Gives x i j =
            first.same (omega (arith, cheap, rest.cost)) (omega (arith, shallow, rest.deepest)) (omega (arith, light, rest.weight)) in
            rw goes (rest.same cheap shallow light);
      }
  extends-then s m m' f f' g h c d (Traps k i j) q t n l p = absurd (no_value k i j t n l p)

  pub widens-then : (s : DrawingAt) (m m' : Draw) (f f' : DrawingAt → Draw) → Widens budget depth most s m m'
      → ((t : DrawingAt) → Widens budget depth most t (f t) (f' t))
      → Widens budget depth most s (m >>= f) (m' >>= f')
  widens-then s m m' f f' g h c d t n l p = extends-then s m m' f f' g h c d (m c d).outcome refl t n l p

  extends-value : {A : Type 0} (s : DrawingAt) (m m' : Run A) (f f' : A → Draw) → Goes budget depth m m'
      → ((x : A) → Widens budget depth most s (f x) (f' x))
      → (c d : ℕ) (o : Outcome A) → m c d ≡ o → (t : DrawingAt) (n l : ℕ) → after o (λ x. run_of (f x)) ≡ Gives t n l
      → Extends budget depth most (m' >-> f') s c d t n l
  extends-value s m m' f f' g h c d (Gives x i j) q t n l p =
      let first = g c d x i j q in
      let rest = h x i j t n l p in
      record {
        cost = omega (arith, first.cost, rest.cost);
        deepest = omega (arith, first.deepest, rest.deepest);
        weight = rest.weight;
        same = λ cheap shallow light.
            let goes : m' c d ≡ Gives x i j = first.same (omega (arith, cheap, rest.cost)) (omega (arith, shallow, rest.deepest)) in
            rw goes (rest.same cheap shallow light);
      }
  extends-value s m m' f f' g h c d (Traps k i j) q t n l p = absurd (no_value k i j t n l p)

  pub widens-value : {A : Type 0} (s : DrawingAt) (m m' : Run A) (f f' : A → Draw) → Goes budget depth m m'
      → ((x : A) → Widens budget depth most s (f x) (f' x))
      → Widens budget depth most s (m >-> f) (m' >-> f')
  widens-value s m m' f f' g h c d t n l p = extends-value s m m' f f' g h c d (m c d) refl t n l p

  pub widens-lift : (s : DrawingAt) (r r' : Result DrawingAt ℕ) → Rises s r → Keeps most r r'
      → Widens budget depth most s (opens_none (lift r)) (opens_none (lift r'))
  widens-lift s (Ok u) r' h k c d t n l p =
      let cost : c ≡ n = ap cost_at p in
      let deepest : d ≡ l = ap deepest_at p in
      let weight : u.weight ≡ t.weight = ap weight_at p in
      record {
        cost = omega (arith, cost);
        deepest = omega (arith, deepest);
        weight = omega (arith, weight, h);
        same = λ _ _ light.
            let goes : r' ≡ Ok u = k u refl (omega (arith, light, weight)) in
            rw goes p;
      }
  widens-lift s (Err e) r' h k c d t n l p = absurd (no_value e c d t n l p)

  pub widens-trap : (s : DrawingAt) (k : ℕ) → Widens budget depth most s (opens_none (trap k)) (opens_none (trap k))
  widens-trap s k c d t n l p = absurd (no_value k c d t n l p)

  -- a state of the same weight
  pub widens-give : (s u : DrawingAt) → u.weight ≡ s.weight → Widens budget depth most s (opens_none (give u)) (opens_none (give u))
  widens-give s u e = widens-lift s (Ok u) (Ok u) (omega (arith, e)) (keeps-same most (Ok u))

  pub widens-choice : (s : DrawingAt) (b : Bool) (m m' k k' : Draw) → Widens budget depth most s m m' → Widens budget depth most s k k'
      → Widens budget depth most s (if b then m else k) (if b then m' else k')
  widens-choice s true m m' k k' g h = g
  widens-choice s false m m' k k' g h = h

  -- a draw from a state that is no lighter
  pub widens-from : (s u : DrawingAt) (m m' : Draw) → s.weight ≤ u.weight → Widens budget depth most u m m' → Widens budget depth most s m m'
  widens-from s u m m' h g c d t n l p =
      let e = g c d t n l p in
      record { cost = e.cost; deepest = e.deepest; weight = omega (arith, h, e.weight); same = e.same }
