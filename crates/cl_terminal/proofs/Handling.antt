-- How the handling of bytes goes on.
use Rattle.std.proofs.Common.{◌≡◌, ◌||◌, arith, suc, ◌∙◌, ◌++◌, ◌∷◌, ◌+◌, cond, inl, inr, not, take, ℕ, Bool, true, false, List, [], Option, Some, None, append_assoc, append-nil, ap, refl, subst, sym}
use Rattle.std.specs.List.{before_first, list_any, prefix_len}
use Rattle.cl_application.specs.declared.applications.App.{App}
use Rattle.cl_gesture.specs.declared.answers.Gesture.{Gesture}
use Rattle.cl_keys.specs.Decoding.{State, before_keys, keys_from, state_after, step}
use Rattle.cl_keys.specs.Gestures.{gesture_of, gestures_of}
use Rattle.cl_keys.specs.declared.keys.Key.{Key}
use Rattle.cl_keys.specs.declared.keys.Key.TheVariants as key
use Rattle.cl_terminal.specs.Handled.{AreHandled, EndsAt, GoesOn, Handles, end_among, gestures_from, is_end}

one-more : {X : Type 0} (n : ℕ) (x : X) (xs : List X) → take (1 + n) (x ∷ xs) ≡ x ∷ take n xs
one-more n x xs = let e : 1 + n ≡ suc n = omega arith in ap (λ (m : ℕ). take m (x ∷ xs)) e

kept-by : (b : Bool) (k : Key) (ks : List Key) → b ≡ false → take (cond (not b) (1 + prefix_len (λ x. not (is_end x)) ks) 0) (k ∷ ks) ≡ k ∷ before_first is_end ks
kept-by true k ks e = absurd (cc)
kept-by false k ks e = one-more (prefix_len (λ x. not (is_end x)) ks) k ks

-- a key that does not end the run stands before those behind it
first-kept : (k : Key) (ks : List Key) → is_end k ≡ false → before_first is_end (k ∷ ks) ≡ k ∷ before_first is_end ks
first-kept k ks e = kept-by (is_end k) k ks e

abbrev joined_by : Option Gesture → List Gesture → List Gesture
joined_by None gs = gs
joined_by (Some g) gs = g ∷ gs

true-behind : (a b : Bool) → b ≡ true → (a || b) ≡ true
true-behind true b e = refl
true-behind false b e = e

true-before : (a b : Bool) → a ≡ true → (a || b) ≡ true
true-before true b e = refl
true-before false b e = absurd (cc)

-- the keys before one that ends the run: none
end-first : (k : Key) (ks : List Key) → is_end k ≡ true → before_first is_end (k ∷ ks) ≡ []
end-first (key.Typed byte) ks e = absurd (cc)
end-first key.Return ks e = absurd (cc)
end-first key.Rubout ks e = absurd (cc)
end-first key.Clear ks e = absurd (cc)
end-first key.Force ks e = absurd (cc)
end-first (key.Stroke letter) ks e = absurd (cc)
end-first (key.Press press) ks e = absurd (cc)
end-first key.End ks e = refl

by_key : (o : Option Key) (keys : List Key) → list_any is_end keys ≡ true → list_any is_end (before_keys o keys) ≡ true
by_key None keys e = e
by_key (Some k) keys e = true-behind (is_end k) (list_any is_end keys) e

-- the key that ends the run is among those of a byte and of more bytes where it is among those of these
end-behind : (s : State) (b : ℕ) (more : List ℕ) → end_among (step s b).state more ≡ true → end_among s (b ∷ more) ≡ true
end-behind s b more e = by_key (step s b).key (keys_from (step s b).state more) e

-- the state behind bytes, and then others
pub after_append : (s : State) (front back : List ℕ) → state_after s (front ++ back) ≡ state_after (state_after s front) back
after_append s [] back = refl
after_append s (b ∷ front) back = after_append (step s b).state front back

module _ {World Choice : Type 0} (after : World → Gesture → Choice → World) (app : App) where
  -- no byte
  pub nothing-taken : (s : State) (w : World) → GoesOn after app s w s w []
  nothing-taken s w = record { state = refl; handles = λ more to h. h; ends = λ more e. e }

  -- bytes, and then others
  pub both-taken : (s : State) (w : World) (s_mid : State) (w_mid : World) (s_new : State) (w_new : World) (front back : List ℕ)
      → GoesOn after app s w s_mid w_mid front → GoesOn after app s_mid w_mid s_new w_new back → GoesOn after app s w s_new w_new (front ++ back)
  both-taken s w s_mid w_mid s_new w_new front back first then = record {
    state = then.state ∙ (ap (λ (t : State). state_after t back) first.state ∙ sym (after_append s front back));
    handles = λ more to h.
        subst (λ (bytes : List ℕ). Handles after app s w to bytes) (sym (append_assoc front back more)) (first.handles (back ++ more) to (then.handles more to h));
    ends = λ more e. ap (end_among s) (append_assoc front back more) ∙ first.ends (back ++ more) (then.ends more e);
  }

  -- bytes, and then others with the key that ends the run
  pub taken-to-end : (s : State) (w : World) (s_mid : State) (w_mid to : World) (front back : List ℕ)
      → GoesOn after app s w s_mid w_mid front → EndsAt after app s_mid w_mid to back → EndsAt after app s w to (front ++ back)
  taken-to-end s w s_mid w_mid to front back first last = record {
    handles = λ more.
        subst (λ (bytes : List ℕ). Handles after app s w to bytes) (sym (append_assoc front back more)) (first.handles (back ++ more) to (last.handles more));
    ends = λ more. ap (end_among s) (append_assoc front back more) ∙ first.ends (back ++ more) (last.ends more);
  }

  -- more bytes behind the key that ends the run change nothing
  pub end-before : (s : State) (w to : World) (front back : List ℕ) → EndsAt after app s w to front → EndsAt after app s w to (front ++ back)
  end-before s w to front back last = record {
    handles = λ more. subst (λ (bytes : List ℕ). Handles after app s w to bytes) (sym (append_assoc front back more)) (last.handles (back ++ more));
    ends = λ more. ap (end_among s) (append_assoc front back more) ∙ last.ends (back ++ more);
  }

  -- bytes that were taken were handled
  pub all-handled : (s : State) (w : World) (s_new : State) (w_new : World) (bytes : List ℕ) → GoesOn after app s w s_new w_new bytes
      → Handles after app s w w_new bytes
  all-handled s w s_new w_new bytes goes = subst (λ (bs : List ℕ). Handles after app s w w_new bs) (append-nil bytes) (goes.handles [] w_new refl)

  pub end-handled : (s : State) (w to : World) (bytes : List ℕ) → EndsAt after app s w to bytes
      → Handles after app s w to bytes × (end_among s bytes ≡ true)
  end-handled s w to bytes last = (
    subst (λ (bs : List ℕ). Handles after app s w to bs) (append-nil bytes) (last.handles []),
    ap (end_among s) (sym (append-nil bytes)) ∙ last.ends [],
  )

  -- a byte that ends no key
  pub byte-idle : (s : State) (w : World) (b : ℕ) → (step s b).key ≡ None → GoesOn after app s w (step s b).state w (b ∷ [])
  byte-idle s w b e = record {
    state = refl;
    handles = λ more to h.
        subst (λ (k : Option Key). AreHandled after app w (gestures_of app (before_first is_end (before_keys k (keys_from (step s b).state more)))) to) (sym e) h;
    ends = λ more. end-behind s b more;
  }

  -- a byte that ends the key for the end
  pub byte-end : (s : State) (w : World) (b : ℕ) (k : Key) → (step s b).key ≡ Some k → is_end k ≡ true → EndsAt after app s w w (b ∷ [])
  byte-end s w b k e last = record {
    handles = λ more.
        subst (λ (o : Option Key). AreHandled after app w (gestures_of app (before_first is_end (before_keys o (keys_from (step s b).state more)))) w) (sym e)
        (subst (λ (ks : List Key). AreHandled after app w (gestures_of app ks) w) (sym (end-first k (keys_from (step s b).state more) last)) refl);
    ends = λ more.
        subst (λ (o : Option Key). list_any is_end (before_keys o (keys_from (step s b).state more)) ≡ true) (sym e)
        (true-before (is_end k) (list_any is_end (keys_from (step s b).state more)) last);
  }

  -- the gestures of a key without one, and of the keys behind it
  no-act : (k : Key) (keys : List Key) → is_end k ≡ false → gesture_of app k ≡ None
      → gestures_of app (before_first is_end (k ∷ keys)) ≡ gestures_of app (before_first is_end keys)
  no-act k keys other none =
      ap (gestures_of app) (first-kept k keys other) ∙ ap (λ (o : Option Gesture). joined_by o (gestures_of app (before_first is_end keys))) none

  -- a byte that ends a key without a gesture
  pub byte-without : (s : State) (w : World) (b : ℕ) (k : Key) → (step s b).key ≡ Some k → is_end k ≡ false → gesture_of app k ≡ None
      → GoesOn after app s w (step s b).state w (b ∷ [])
  byte-without s w b k e other none = record {
    state = refl;
    handles = λ more to h.
        subst (λ (o : Option Key). AreHandled after app w (gestures_of app (before_first is_end (before_keys o (keys_from (step s b).state more)))) to) (sym e)
        (subst (λ (gs : List Gesture). AreHandled after app w gs to) (sym (no-act k (keys_from (step s b).state more) other none)) h);
    ends = λ more. end-behind s b more;
  }

  -- the gestures of a key with this one, and of the keys behind it
  acts-of : (k : Key) (keys : List Key) (act : Gesture) → is_end k ≡ false → gesture_of app k ≡ Some act
      → gestures_of app (before_first is_end (k ∷ keys)) ≡ act ∷ gestures_of app (before_first is_end keys)
  acts-of k keys act other has =
      ap (gestures_of app) (first-kept k keys other) ∙ ap (λ (o : Option Gesture). joined_by o (gestures_of app (before_first is_end keys))) has

  -- a byte that ends a key whose gesture was lost
  pub byte-lost : (s : State) (w : World) (b : ℕ) (k : Key) (act : Gesture) → (step s b).key ≡ Some k → is_end k ≡ false → gesture_of app k ≡ Some act
      → GoesOn after app s w (step s b).state w (b ∷ [])
  byte-lost s w b k act e other has = record {
    state = refl;
    handles = λ more to h.
        subst (λ (o : Option Key). AreHandled after app w (gestures_of app (before_first is_end (before_keys o (keys_from (step s b).state more)))) to) (sym e)
        (subst (λ (gs : List Gesture). AreHandled after app w gs to) (sym (acts-of k (keys_from (step s b).state more) act other has)) (inl h));
    ends = λ more. end-behind s b more;
  }

  by-act : (s : State) (w : World) (b : ℕ) (k : Key) (o : Option Gesture) → (step s b).key ≡ Some k → is_end k ≡ false → gesture_of app k ≡ o
      → GoesOn after app s w (step s b).state w (b ∷ [])
  by-act s w b k None e other has = byte-without s w b k e other has
  by-act s w b k (Some act) e other has = byte-lost s w b k act e other has

  -- a byte that ends a key out of memory for its gesture
  pub byte-unhandled : (s : State) (w : World) (b : ℕ) (k : Key) → (step s b).key ≡ Some k → is_end k ≡ false → GoesOn after app s w (step s b).state w (b ∷ [])
  byte-unhandled s w b k e other = by-act s w b k (gesture_of app k) e other refl

  -- a byte that ends a key whose gesture was handled
  pub byte-handled : (s : State) (w w_new : World) (b : ℕ) (k : Key) (act : Gesture) (choice : Choice) → (step s b).key ≡ Some k → is_end k ≡ false
      → gesture_of app k ≡ Some act → w_new ≡ after w act choice → GoesOn after app s w (step s b).state w_new (b ∷ [])
  byte-handled s w w_new b k act choice e other has world = record {
    state = refl;
    handles = λ more to h.
        subst (λ (o : Option Key). AreHandled after app w (gestures_of app (before_first is_end (before_keys o (keys_from (step s b).state more)))) to) (sym e)
        (subst (λ (gs : List Gesture). AreHandled after app w gs to) (sym (acts-of k (keys_from (step s b).state more) act other has))
        (inr (choice, subst (λ (v : World). AreHandled after app v (gestures_of app (before_first is_end (keys_from (step s b).state more))) to) world h)));
    ends = λ more. end-behind s b more;
  }

  -- the gesture of a byte that ends such a key
  pub byte-act : (s : State) (b : ℕ) (k : Key) (act : Gesture) → (step s b).key ≡ Some k → is_end k ≡ false → gesture_of app k ≡ Some act
      → gestures_from app s (b ∷ []) ≡ act ∷ []
  byte-act s b k act e other has =
      ap (λ (o : Option Key). gestures_of app (before_first is_end (before_keys o []))) e ∙ acts-of k [] act other has
