-- Updates elsewhere: where a body ends, and fits, it ends elsewhere too, and so does the update.
use Rattle.std.proofs.Common.{◌≡◌, ◌∙◌, ap, sym, subst, ℕ, ◌+◌, ◌-◌, ◌≤◌, Bool, true, false, nat_le, if◌then◌else◌, pos, [], Option, Some, None, Ok}
use Rattle.std.proofs.Common.{Err, arith, refl}
use Rattle.std.specs.Prelude.{max}
use Rattle.std.proofs.lemmas.Bool.Decides.{nat_tests}
use Rattle.cl_value.specs.Data.{int}
use Rattle.cl_region.specs.Places.{box}
use Rattle.cl_syntax.specs.ExprTree.{ExprTree, ExprTrees}
use Rattle.cl_syntax.specs.ShapeTree.{ShapeTrees}
use Rattle.cl_syntax.specs.UpdateTree.{UpdateTree}
use Rattle.cl_syntax.specs.declared.sites.Site.{Site}
use Rattle.cl_eval.specs.Meaning.{Go, each}
use Rattle.cl_eval.specs.Outcome.{Outcome, Gives, Traps, give}
use Rattle.cl_eval.specs.Slots.{Env}
use Rattle.cl_eval.proofs.LimitLemmas.{GoGoes, Goes, goes-each, goes-give, goes-then, no_value}
use Rattle.cl_display.specs.Drawings.{DrawingAt}
use Rattle.cl_display.specs.Fresh.{Allowance, Bodies, draws_body, draws_cached, draws_keyed, draws_update, left_over}
use Rattle.cl_display.specs.Siblings.{Siblings, count_at, is_taken, note}
use Rattle.cl_display.specs.Updates.{KeyAt, cache_of, end_update, enter_body, enter_update, head_at, id_of, key_at, key_weight, leave_update}
use Rattle.cl_display.proofs.CornerLemmas.{box-first, box-second, holds-itself}
use Rattle.cl_display.proofs.Widening.{cost_at, deepest_at}
use Rattle.cl_reuse.specs.Motions.{Motion, move_ambient, move_drawing, move_part}
use Rattle.cl_reuse.proofs.Carrying.{Carries, Carry, carry-set, carry-value}
use Rattle.cl_reuse.proofs.MotionLemmas.{Fits, head-move, leave_update-move, sides-within}
use Rattle.cl_reuse.proofs.SettingLemmas.{or-first, or-second}
use Rattle.cl_reuse.proofs.StepLemmas.{Grows, StepsTo}

-- a body that ends grows on the way, and where its end fits there, it ends elsewhere too
pub record BodyCarries (m : Motion) (bodies' : Bodies) (allowed' : Allowance) (env : Env) (body : ShapeTrees) (s u : DrawingAt) (n r : ℕ) : Type 0 where
  pub grows : Grows s u
  pub same : n ≤ allowed'.budget → r ≤ bodies'.depth → Fits m allowed'.weight u
      → (bodies'.draw allowed' env body (move_drawing m s)).outcome ≡ Gives (move_drawing m u) n r

abbrev pub BodiesCarry : Bodies → Bodies → Type 0
BodiesCarry bodies bodies' = (m : Motion) (allowed allowed' : Allowance) (env : Env) (body : ShapeTrees) (s u : DrawingAt) (n r : ℕ)
    → (bodies.draw allowed env body s).outcome ≡ Gives u n r → BodyCarries m bodies' allowed' env body s u n r

-- the drawing at an end
abbrev end_of : DrawingAt → Outcome DrawingAt → DrawingAt
end_of s (Gives t cost deepest) = t
end_of s (Traps kind cost deepest) = s

grows-left : (key : KeyAt) (s u : DrawingAt) (n r : ℕ) → Grows s (leave_update (head_at key s.ambient u n r) u.part s)
grows-left key s u n r = record {
  weight = omega arith;
  margin = λ h. or-second u.part.margin_used s.part.margin_used h;
  origin = λ h. or-second u.part.origin_used s.part.origin_used h;
  extent = box-first s.part.extent u.part.extent;
}

module _ (m : Motion) (budget depth most : ℕ) where
  steps-opened : (key : KeyAt) (s : DrawingAt) (taken b : Bool) → is_taken key.site key.id s.siblings ≡ taken
      → StepsTo m most s (if taken then Err 8 else (if b
      then Ok (record s { weight = s.weight + key_weight key; siblings = note key.site key.id s.siblings }) else Err 10))
      (enter_update most key (move_drawing m s))
  steps-opened key s true b e = tt
  steps-opened key s false true e = (
    record { weight = omega arith; margin = λ h. h; origin = λ h. h; extent = holds-itself s.part.extent },
    λ fits.
        let light : nat_le (s.weight + key_weight key) most ≡ true = grind (arith, nat_tests, fits.weight) in
        rw (e, light) refl,
  )
  steps-opened key s false false e = tt

  steps-enter_update : (w : ℕ) (key : KeyAt) (s : DrawingAt) → StepsTo m most s (enter_update w key s) (enter_update most key (move_drawing m s))
  steps-enter_update w key s =
      steps-opened key s (is_taken key.site key.id s.siblings) (nat_le (s.weight + key_weight key) w) refl

  inner-fits : (key : KeyAt) (s u : DrawingAt) (n r more : ℕ) → more ≡ most → Fits m most (leave_update (head_at key s.ambient u n r) u.part s)
      → Fits m (more - s.weight) u
  inner-fits key s u n r more w f = record {
    weight = omega (arith, w, f.weight);
    margin = λ h. f.margin (or-first u.part.margin_used s.part.margin_used h);
    origin = λ h. f.origin (or-first u.part.origin_used s.part.origin_used h);
    range = sides-within m.by (box s.part.extent u.part.extent) u.part.extent (box-second s.part.extent u.part.extent) f.range;
  }

  module _ (allowed allowed' : Allowance) (paid : allowed'.budget ≡ budget) (w : allowed'.weight ≡ most) (level : ℕ) (bodies bodies' : Bodies)
      (b : BodiesCarry bodies bodies') (deep : depth ≡ level + bodies'.depth) (env : Env) (body : ShapeTrees) where
    carries-ended : (key : KeyAt) (s : DrawingAt) (c d : ℕ) (o : Outcome DrawingAt)
        → (bodies.draw (left_over allowed c s.weight) env body (enter_body s)).outcome ≡ o
        → (t : DrawingAt) (n l : ℕ) → end_update key level s o c d ≡ Gives t n l
        → Carries m budget depth most (draws_body allowed' bodies' level env body key (move_drawing m s)) s c d t n l
    carries-ended key s c d (Gives u i r) q t n l p =
        let cost : c + i ≡ n = ap cost_at p in
        let deepest : max d (level + r) ≡ l = ap deepest_at p in
        let same : leave_update (head_at key s.ambient u i r) u.part s ≡ t = ap (end_of s) p in
        let inner = b m (left_over allowed c s.weight) (left_over allowed' c s.weight) env body (enter_body s) u i r q in
        record {
          cost = omega (arith, cost);
          deepest = omega (arith, deepest);
          grows = subst (Grows s) same (grows-left key s u i r);
          same = λ cheap shallow fits.
              let left : Fits m most (leave_update (head_at key s.ambient u i r) u.part s) = subst (Fits m most) (sym same) fits in
              let f : Fits m (allowed'.weight - s.weight) u = inner-fits key s u i r allowed'.weight w left in
              let goes : (bodies'.draw (left_over allowed' c s.weight) env body (enter_body (move_drawing m s))).outcome ≡ Gives (move_drawing m u) i r =
              inner.same (omega (arith, cheap, cost, paid)) (omega (arith, shallow, deepest, deep)) f in
              let heads = head-move m key s.ambient u i r f.margin f.origin in
              let there : leave_update (head_at key (move_ambient m s.ambient) (move_drawing m u) i r) (move_part m.by u.part) (move_drawing m s)
              ≡ move_drawing m t =
              leave_update-move m (head_at key s.ambient u i r) (head_at key (move_ambient m s.ambient) (move_drawing m u) i r) u.part s heads
              ∙ ap (λ (x : DrawingAt). move_drawing m x) same in
              rw goes (λ k. Gives (there k) (cost k) (deepest k));
        }
    carries-ended key s c d (Traps k i r) q t n l p = absurd (no_value k (c + i) d t n l p)

    carry-keyed : (s : DrawingAt) (key : KeyAt)
        → Carry m budget depth most s (draws_keyed allowed bodies level env body s key) (draws_keyed allowed' bodies' level env body (move_drawing m s) key)
    carry-keyed s key =
        carry-set m budget depth most s (enter_update allowed.weight key s) (enter_update allowed'.weight key (move_drawing m s))
        (draws_body allowed bodies level env body key) (draws_body allowed' bodies' level env body key) (rw w (steps-enter_update allowed.weight key s))
        (λ u c d t n l p. carries-ended key u c d (bodies.draw (left_over allowed c u.weight) env body (enter_body u)).outcome refl t n l p)

  goes-id : (level : ℕ) (value value' : Go) → GoGoes budget depth level value value' → (env : Env) (siblings : Siblings) (site : Site) (t : Option ExprTree)
      → Goes budget depth (id_of value level env siblings site t) (id_of value' level env siblings site t)
  goes-id level value value' v env siblings site None = goes-give budget depth (int (pos (count_at site siblings)))
  goes-id level value value' v env siblings site (Some t) = v env t

  goes-cache : (level : ℕ) (value value' : Go) → GoGoes budget depth level value value' → (env : Env) (ts : Option ExprTrees)
      → Goes budget depth (cache_of value level env ts) (cache_of value' level env ts)
  goes-cache level value value' v env None = goes-give budget depth None
  goes-cache level value value' v env (Some ts) =
      goes-then budget depth (each value level env ts []) (each value' level env ts []) (λ ds. give (Some ds)) (λ ds. give (Some ds))
      (goes-each budget depth value value' level v env ts []) (λ ds. goes-give budget depth (Some ds))

  pub carry-draws_update : (allowed allowed' : Allowance) → allowed'.budget ≡ budget → allowed'.weight ≡ most → (level : ℕ) (value value' : Go)
      → GoGoes budget depth level value value' → (bodies bodies' : Bodies) → BodiesCarry bodies bodies' → depth ≡ level + bodies'.depth
      → (env : Env) (u : UpdateTree) (body : ShapeTrees) (s : DrawingAt)
      → Carry m budget depth most s (draws_update allowed value bodies level env u body s)
      (draws_update allowed' value' bodies' level env u body (move_drawing m s))
  carry-draws_update allowed allowed' paid w level value value' v bodies bodies' b deep env u body s =
      carry-value m budget depth most s (id_of value level env s.siblings u.site u.id) (id_of value' level env s.siblings u.site u.id)
      (draws_cached allowed value bodies level env u body s) (draws_cached allowed' value' bodies' level env u body (move_drawing m s))
      (goes-id level value value' v env s.siblings u.site u.id)
      (λ id. carry-value m budget depth most s (cache_of value level env u.cache) (cache_of value' level env u.cache)
      (λ cache. draws_keyed allowed bodies level env body s (key_at u id cache))
      (λ cache. draws_keyed allowed' bodies' level env body (move_drawing m s) (key_at u id cache))
      (goes-cache level value value' v env u.cache)
      (λ cache. carry-keyed allowed allowed' paid w level bodies bodies' b deep env body s (key_at u id cache)))
