-- A walk finds what is read in its steps and in what they call, and nothing else.
use Rattle.std.proofs.Common.{◌≡◌, ◌≤◌, ◌+◌, ◌++◌, ℕ, zero, suc, Bool, true, false, inl, inr, List, [], ◌∷◌, length, Option, Some, None, refl, sym, ap, subst, ◌∙◌, arith}
use Rattle.std.specs.Prelude.{◌⊎◌, ◌↔◌, Contains}
use Rattle.std.proofs.lemmas.List.Elements.{Contains-append_left, Contains-push, Contains-push_cases}
use Rattle.cl_cover.specs.Walk.{Body, Walked, is_among, nothing, through, unless_entered, walk, with_callee, with_path}
use Rattle.cl_syntax.specs.declared.callees.Callee.{Callee}
use Rattle.cl_syntax.specs.declared.paths.Path.{Path}
use Rattle.cl_cover.specs.declared.steps.Step.{Step}
use Rattle.cl_cover.specs.declared.steps.Step.TheVariants as step
use Rattle.cl_cover.proofs.CalleeLemmas.{among_before, among_last, among_more, missing, missing_all, missing_less, no}

-- a path is read in steps, at once or in what they call
pub data ReadIn (body : Body) (p : Path) : List Step → Type 0 where
  at_once : (q : Path) (ss : List Step) → q ≡ p → ReadIn body p (step.Reads q ∷ ss)
  in_callee : (c : Callee) (ss inner : List Step) → body c ≡ Some inner → ReadIn body p inner → ReadIn body p (step.Calls c ∷ ss)
  later : (s : Step) (ss : List Step) → ReadIn body p ss → ReadIn body p (s ∷ ss)

-- by the first step
abbrev pub HeadOf : Body → Path → Step → Type 0
HeadOf body p (step.Reads q) = q ≡ p
HeadOf body p (step.Calls c) = (inner : List Step) × ((body c ≡ Some inner) × ReadIn body p inner)

read_head : (body : Body) (p : Path) (s : Step) (ss : List Step) → ReadIn body p (s ∷ ss) → HeadOf body p s ⊎ ReadIn body p ss
read_head body p _ _ (at_once q ss e) = inl e
read_head body p _ _ (in_callee c ss inner e r) = inl (inner, (e, r))
read_head body p _ _ (later s ss r) = inr r

from_head : (body : Body) (p : Path) (s : Step) (ss : List Step) → HeadOf body p s → ReadIn body p (s ∷ ss)
from_head body p (step.Reads q) ss h = at_once q ss h
from_head body p (step.Calls c) ss h = in_callee c ss h.0 h.1.0 h.1.1

later_left : (body : Body) (p : Path) (s : Step) (xs ys : List Step) → ReadIn body p xs ⊎ ReadIn body p ys → ReadIn body p (s ∷ xs) ⊎ ReadIn body p ys
later_left body p s xs ys (inl r) = inl (later s xs r)
later_left body p s xs ys (inr r) = inr r

split_head : (body : Body) (p : Path) (s : Step) (xs ys : List Step) → HeadOf body p s ⊎ ReadIn body p (xs ++ ys)
    → (ReadIn body p (xs ++ ys) → ReadIn body p xs ⊎ ReadIn body p ys) → ReadIn body p (s ∷ xs) ⊎ ReadIn body p ys
split_head body p s xs ys (inl h) rest = inl (from_head body p s xs h)
split_head body p s xs ys (inr r) rest = later_left body p s xs ys (rest r)

read_split : (body : Body) (p : Path) (xs ys : List Step) → ReadIn body p (xs ++ ys) → ReadIn body p xs ⊎ ReadIn body p ys
read_split body p [] ys r = inr r
read_split body p (x ∷ xs) ys r = split_head body p x xs ys (read_head body p x (xs ++ ys) r) (λ k. read_split body p xs ys k)

-- ---- what is found is read

abbrev pub Enter : Type 0
Enter = Callee → List Step → Walked → Walked

module _ (body : Body) (p : Path) where
  abbrev pub Finds : Walked → List Step → Walked → Type 0
  Finds end ss w = Contains end.paths p → Contains w.paths p ⊎ ReadIn body p ss

  -- entering finds only what is read
  abbrev pub Sound : Enter → Type 0
  Sound enter = (c : Callee) (ss : List Step) (w : Walked) → Finds (enter c ss w) ss w

  found_read : (q : Path) (more : List Step) (w : Walked) → Contains (w.paths ++ q ∷ []) p ⊎ ReadIn body p more → Contains w.paths p ⊎ ReadIn body p (step.Reads q ∷ more)
  found_read q more w (inl k) = elim (Contains-push_cases w.paths q p k) [ inl h ↦ inl h | inr e ↦ inr (at_once q more e) ]
  found_read q more w (inr r) = inr (later (step.Reads q) more r)

  found_later : (s : Step) (more : List Step) (w : Walked) → Contains w.paths p ⊎ ReadIn body p more → Contains w.paths p ⊎ ReadIn body p (s ∷ more)
  found_later s more w (inl k) = inl k
  found_later s more w (inr r) = inr (later s more r)

  found_inside : (c : Callee) (inner more : List Step) (w : Walked) → body c ≡ Some inner → Contains w.paths p ⊎ ReadIn body p (inner ++ more)
      → Contains w.paths p ⊎ ReadIn body p (step.Calls c ∷ more)
  found_inside c inner more w e (inl k) = inl k
  found_inside c inner more w e (inr r) =
      elim (read_split body p inner more r) [ inl i ↦ inr (in_callee c more inner e i) | inr m ↦ inr (later (step.Calls c) more m) ]

  found_call : (enter : Enter) → Sound enter → (c : Callee) (more : List Step) (w rest : Walked) (b : Bool) (o : Option (List Step)) → body c ≡ o → Finds rest more w
      → Finds (unless_entered b o (λ ss. enter c (ss ++ more) w) rest) (step.Calls c ∷ more) w
  found_call enter sound c more w rest true o e passes h = found_later (step.Calls c) more w (passes h)
  found_call enter sound c more w rest false None e passes h = found_later (step.Calls c) more w (passes h)
  found_call enter sound c more w rest false (Some ss) e passes h = found_inside c ss more w e (sound c (ss ++ more) w h)

  found_through : (enter : Enter) → Sound enter → (ss : List Step) (w : Walked) → Finds (through body enter ss w) ss w
  found_through enter sound [] w h = inl h
  found_through enter sound (step.Reads q ∷ more) w h = found_read q more w (found_through enter sound more (with_path q w) h)
  found_through enter sound (step.Calls c ∷ more) w h =
      found_call enter sound c more w (through body enter more w) (is_among c w.entered) (body c) refl (λ k. found_through enter sound more w k) h

  pub found_walk : (n : ℕ) (ss : List Step) (w : Walked) → Finds (walk body n ss w) ss w
  found_walk zero ss w h = found_through (λ c more v. v) (λ c more v k. inl k) ss w h
  found_walk (suc n) ss w h =
      found_through (λ c more v. walk body n more (with_callee c v)) (λ c more v k. found_walk n more (with_callee c v) k) ss w h

-- ---- what is read is found

-- one of the steps is this one
abbrev pub Among : Step → List Step → Type 0
Among s [] = ⊥
Among s (t ∷ ts) = (t ≡ s) ⊎ Among s ts

among_front : (s : Step) (xs ys : List Step) → Among s xs → Among s (xs ++ ys)
among_front s [] ys h = absurd h
among_front s (x ∷ xs) ys (inl e) = inl e
among_front s (x ∷ xs) ys (inr h) = inr (among_front s xs ys h)

among_back : (s : Step) (xs ys : List Step) → Among s ys → Among s (xs ++ ys)
among_back s [] ys h = h
among_back s (x ∷ xs) ys h = inr (among_back s xs ys h)

too_few : (known : List Callee) (c : Callee) (es ds : List Callee) → es ≡ ds → missing known ds ≤ 0 → missing known (es ++ c ∷ []) + 1 ≤ missing known es → ⊥
too_few known c es ds same few less =
    let equal : missing known es ≡ missing known ds = ap (missing known) same in
    omega (arith, few, less, equal)

fewer : (n : ℕ) (known : List Callee) (c : Callee) (es ds : List Callee) → es ≡ ds → missing known ds ≤ suc n
    → missing known (es ++ c ∷ []) + 1 ≤ missing known es → missing known (es ++ c ∷ []) ≤ n
fewer n known c es ds same few less =
    let equal : missing known es ≡ missing known ds = ap (missing known) same in
    omega (arith, few, less, equal)

no_path : (p : Path) → Contains [] p → ⊥
no_path p h = omega (arith, h.1)

module _ (body : Body) where
  -- a step is done, or still to come
  abbrev pub Settled : List Step → Walked → Step → Type 0
  Settled ss w (step.Reads q) = Contains w.paths q ⊎ Among (step.Reads q) ss
  Settled ss w (step.Calls c) = (body c ≡ None) ⊎ ((is_among c w.entered ≡ true) ⊎ Among (step.Calls c) ss)

  abbrev pub AllSettled : List Step → Walked → List Step → Type 0
  AllSettled ss w [] = Unit {0}
  AllSettled ss w (x ∷ xs) = Settled ss w x × AllSettled ss w xs

  settled_to_come : (ss : List Step) (w : Walked) (s : Step) → Among s ss → Settled ss w s
  settled_to_come ss w (step.Reads q) h = inr h
  settled_to_come ss w (step.Calls c) h = inr (inr h)

  all_to_come : (ss : List Step) (w : Walked) (xs : List Step) → ((s : Step) → Among s xs → Among s ss) → AllSettled ss w xs
  all_to_come ss w [] h = tt
  all_to_come ss w (x ∷ xs) h = (settled_to_come ss w x (h x (inl refl)), all_to_come ss w xs (λ s k. h s (inr k)))

  all_on : (ss ss' : List Step) (w w' : Walked) → ((s : Step) → Settled ss w s → Settled ss' w' s) → (xs : List Step) → AllSettled ss w xs → AllSettled ss' w' xs
  all_on ss ss' w w' f [] a = tt
  all_on ss ss' w w' f (x ∷ xs) a = (f x a.0, all_on ss ss' w w' f xs a.1)

  -- a walk from these steps on, with those that are still to come
  pub record Search (start ss : List Step) (w : Walked) : Type 0 where
    pub opening : AllSettled ss w start
    pub bodies : (c : Callee) (inner : List Step) → is_among c w.entered ≡ true → body c ≡ Some inner → AllSettled ss w inner

  search_begins : (ss : List Step) → Search ss ss nothing
  search_begins ss = record { opening = all_to_come ss nothing ss (λ s h. h); bodies = λ c inner h e. absurd (no h) }

  search_on : (start ss ss' : List Step) (w w' : Walked) → w'.entered ≡ w.entered → ((s : Step) → Settled ss w s → Settled ss' w' s) → Search start ss w → Search start ss' w'
  search_on start ss ss' w w' same f s = record {
    opening = all_on ss ss' w w' f start s.opening;
    bodies = λ c inner h e. all_on ss ss' w w' f inner (s.bodies c inner (ap (λ (cs : List Callee). is_among c cs) (sym same) ∙ h) e);
  }

  after_path : (q : Path) (more : List Step) (w : Walked) (s : Step) → Settled (step.Reads q ∷ more) w s → Settled more (with_path q w) s
  after_path q more w (step.Reads r) (inl k) = inl (Contains-append_left w.paths (q ∷ []) r k)
  after_path q more w (step.Reads r) (inr (inl e)) =
      let same : q ≡ r = cc in
      inl (subst (λ (x : Path). Contains (w.paths ++ q ∷ []) x) same (Contains-push w.paths q))
  after_path q more w (step.Reads r) (inr (inr h)) = inr h
  after_path q more w (step.Calls c) (inl n) = inl n
  after_path q more w (step.Calls c) (inr (inl t)) = inr (inl t)
  after_path q more w (step.Calls c) (inr (inr (inl e))) = cc
  after_path q more w (step.Calls c) (inr (inr (inr h))) = inr (inr h)

  -- a callee that is not entered: it is not declared, or was entered
  abbrev pub Passed : Callee → Walked → Type 0
  Passed c w = (body c ≡ None) ⊎ (is_among c w.entered ≡ true)

  passed_settled : (c : Callee) (more : List Step) (w : Walked) → Passed c w → Settled more w (step.Calls c)
  passed_settled c more w (inl n) = inl n
  passed_settled c more w (inr t) = inr (inl t)

  after_passed : (c : Callee) (more : List Step) (w : Walked) → Passed c w → (s : Step) → Settled (step.Calls c ∷ more) w s → Settled more w s
  after_passed c more w why (step.Reads r) (inl k) = inl k
  after_passed c more w why (step.Reads r) (inr (inl e)) = cc
  after_passed c more w why (step.Reads r) (inr (inr h)) = inr h
  after_passed c more w why (step.Calls d) (inl n) = inl n
  after_passed c more w why (step.Calls d) (inr (inl t)) = inr (inl t)
  after_passed c more w why (step.Calls d) (inr (inr (inl e))) =
      let same : c ≡ d = cc in
      subst (λ (x : Callee). Settled more w (step.Calls x)) same (passed_settled c more w why)
  after_passed c more w why (step.Calls d) (inr (inr (inr h))) = inr (inr h)

  after_entered : (c : Callee) (inner more : List Step) (w : Walked) (s : Step) → Settled (step.Calls c ∷ more) w s → Settled (inner ++ more) (with_callee c w) s
  after_entered c inner more w (step.Reads r) (inl k) = inl k
  after_entered c inner more w (step.Reads r) (inr (inl e)) = cc
  after_entered c inner more w (step.Reads r) (inr (inr h)) = inr (among_back (step.Reads r) inner more h)
  after_entered c inner more w (step.Calls d) (inl n) = inl n
  after_entered c inner more w (step.Calls d) (inr (inl t)) = inr (inl (among_more d w.entered (c ∷ []) t))
  after_entered c inner more w (step.Calls d) (inr (inr (inl e))) =
      let same : c ≡ d = cc in
      inr (inl (subst (λ (x : Callee). is_among x (w.entered ++ c ∷ []) ≡ true) same (among_last c w.entered)))
  after_entered c inner more w (step.Calls d) (inr (inr (inr h))) = inr (inr (among_back (step.Calls d) inner more h))

  entered_body : (start : List Step) (c : Callee) (inner more : List Step) (w : Walked) → body c ≡ Some inner → Search start (step.Calls c ∷ more) w
      → (d : Callee) (rest : List Step) → body d ≡ Some rest → (is_among d w.entered ≡ true) ⊎ (d ≡ c) → AllSettled (inner ++ more) (with_callee c w) rest
  entered_body start c inner more w e s d rest f (inl t) =
      all_on (step.Calls c ∷ more) (inner ++ more) w (with_callee c w) (after_entered c inner more w) rest (s.bodies d rest t f)
  entered_body start c inner more w e s d rest f (inr same) =
      let both : Some inner ≡ Some rest = sym e ∙ ap body (sym same) ∙ f in
      let one : inner ≡ rest = cc in
      subst (AllSettled (inner ++ more) (with_callee c w)) one (all_to_come (inner ++ more) (with_callee c w) inner (λ x h. among_front x inner more h))

  search_enters : (start : List Step) (c : Callee) (inner more : List Step) (w : Walked) → body c ≡ Some inner → Search start (step.Calls c ∷ more) w
      → Search start (inner ++ more) (with_callee c w)
  search_enters start c inner more w e s = record {
    opening = all_on (step.Calls c ∷ more) (inner ++ more) w (with_callee c w) (after_entered c inner more w) start s.opening;
    bodies = λ d rest h f. entered_body start c inner more w e s d rest f (among_before d c w.entered h);
  }

  -- entering leads to an end, from what was entered so far
  abbrev pub Ends : List Step → List Callee → Enter → Type 0
  Ends start ds enter = (c : Callee) (inner more : List Step) (w : Walked) → w.entered ≡ ds → body c ≡ Some inner → is_among c w.entered ≡ false
      → Search start (step.Calls c ∷ more) w → Search start [] (enter c (inner ++ more) w)

  ends_call : (start : List Step) (ds : List Callee) (enter : Enter) → Ends start ds enter → (c : Callee) (more : List Step) (w rest : Walked) (b : Bool) (o : Option (List Step))
      → is_among c w.entered ≡ b → body c ≡ o → w.entered ≡ ds → (Search start more w → Search start [] rest) → Search start (step.Calls c ∷ more) w
      → Search start [] (unless_entered b o (λ ss. enter c (ss ++ more) w) rest)
  ends_call start ds enter ends c more w rest true o i e same passes s =
      passes (search_on start (step.Calls c ∷ more) more w w refl (after_passed c more w (inr i)) s)
  ends_call start ds enter ends c more w rest false None i e same passes s =
      passes (search_on start (step.Calls c ∷ more) more w w refl (after_passed c more w (inl e)) s)
  ends_call start ds enter ends c more w rest false (Some ss) i e same passes s = ends c ss more w same e i s

  ends_through : (start : List Step) (ds : List Callee) (enter : Enter) → Ends start ds enter → (ss : List Step) (w : Walked) → w.entered ≡ ds → Search start ss w
      → Search start [] (through body enter ss w)
  ends_through start ds enter ends [] w same s = s
  ends_through start ds enter ends (step.Reads q ∷ more) w same s =
      ends_through start ds enter ends more (with_path q w) same (search_on start (step.Reads q ∷ more) more w (with_path q w) refl (after_path q more w) s)
  ends_through start ds enter ends (step.Calls c ∷ more) w same s =
      ends_call start ds enter ends c more w (through body enter more w) (is_among c w.entered) (body c) refl refl same
      (λ r. ends_through start ds enter ends more w same r) s

  done_path : (w : Walked) (q p : Path) → q ≡ p → Contains w.paths q ⊎ ⊥ → Contains w.paths p
  done_path w q p e (inl k) = subst (λ (x : Path). Contains w.paths x) e k
  done_path w q p e (inr b) = absurd b

  inner_settled : (start : List Step) (w : Walked) → Search start [] w → (c : Callee) (inner : List Step) → body c ≡ Some inner
      → Settled [] w (step.Calls c) → AllSettled [] w inner
  inner_settled start w s c inner e (inl n) =
      let both : None ≡ Some inner = sym n ∙ e in cc
  inner_settled start w s c inner e (inr (inl t)) = s.bodies c inner t e
  inner_settled start w s c inner e (inr (inr b)) = absurd b

  -- nothing is to come, so all is done
  all_done : (p : Path) (start : List Step) (w : Walked) → Search start [] w → (ss : List Step) → AllSettled [] w ss → ReadIn body p ss → Contains w.paths p
  all_done p start w s _ a (at_once q ss e) = done_path w q p e a.0
  all_done p start w s _ a (in_callee c ss inner e r) = all_done p start w s inner (inner_settled start w s c inner e a.0) r
  all_done p start w s _ a (later x ss r) = all_done p start w s ss a.1 r

  module _ (known : List Callee) (all_known : (c : Callee) (ss : List Step) → body c ≡ Some ss → is_among c known ≡ true) where
    ends_walk : (n : ℕ) (start ss : List Step) (w : Walked) → missing known w.entered ≤ n → Search start ss w → Search start [] (walk body n ss w)
    ends_walk zero start ss w few s =
        ends_through start w.entered (λ c more v. v)
        (λ c inner more v same e new k. absurd (too_few known c v.entered w.entered same few (missing_less c known v.entered (all_known c inner e) new))) ss w refl s
    ends_walk (suc n) start ss w few s =
        ends_through start w.entered (λ c more v. walk body n more (with_callee c v))
        (λ c inner more v same e new k. ends_walk n start (inner ++ more) (with_callee c v)
        (fewer n known c v.entered w.entered same few (missing_less c known v.entered (all_known c inner e) new)) (search_enters start c inner more v e k)) ss w refl s

    only : (ss : List Step) (p : Path) → Contains [] p ⊎ ReadIn body p ss → ReadIn body p ss
    only ss p (inl h) = absurd (no_path p h)
    only ss p (inr r) = r

    pub walk_finds : (ss : List Step) (p : Path) → Contains (walk body (length known) ss nothing).paths p ↔ ReadIn body p ss
    walk_finds ss p = (
      λ h. only ss p (found_walk body p (length known) ss nothing h),
      λ r.
          let end : Search ss [] (walk body (length known) ss nothing) = ends_walk (length known) ss ss nothing (missing_all known []) (search_begins ss) in
          all_done p ss (walk body (length known) ss nothing) end ss end.opening r,
    )
