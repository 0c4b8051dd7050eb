-- A walk, turn by turn.
use Rattle.std.proofs.Common.{◌≡◌, ◌+◌, ◌-◌, ℕ, zero, suc, Bool, true, false, List, [], ◌∷◌, ◌++◌, Option, Some, None, refl, sym, ap, ◌∙◌, arith}
use Rattle.cl_cover.specs.Walk.{Body, Walked, is_among, nothing, unless_entered, walk, with_callee, with_path}
use Rattle.cl_syntax.specs.declared.callees.Callee.{Callee}
use Rattle.cl_syntax.specs.declared.paths.Path.{Path}
use Rattle.cl_cover.specs.declared.steps.Step.{Step}
use Rattle.cl_cover.specs.declared.steps.Step.TheVariants as step

-- the same walk, which counts its turns
abbrev pub turns_through : Body → (Callee → List Step → Walked → ℕ) → List Step → Walked → ℕ
turns_through body enter [] w = 0
turns_through body enter (step.Reads p ∷ more) w = 1 + turns_through body enter more (with_path p w)
turns_through body enter (step.Calls c ∷ more) w =
    1 + unless_entered (is_among c w.entered) (body c) (λ ss. enter c (ss ++ more) w) (turns_through body enter more w)

abbrev pub turns : Body → ℕ → List Step → Walked → ℕ
turns body zero ss w = turns_through body (λ c more v. 0) ss w
turns body (suc n) ss w = turns_through body (λ c more v. turns body n more (with_callee c v)) ss w

module _ (body : Body) where
  pub walk_end : (n : ℕ) (w : Walked) → walk body n [] w ≡ w
  walk_end zero w = refl
  walk_end (suc n) w = refl

  pub reads_on : (n : ℕ) (p : Path) (more : List Step) (w : Walked) → walk body n (step.Reads p ∷ more) w ≡ walk body n more (with_path p w)
  reads_on zero p more w = refl
  reads_on (suc n) p more w = refl

  passed : {A : Type 0} (b : Bool) (o : Option (List Step)) (enters : List Step → A) (passes : A) → b ≡ true → unless_entered b o enters passes ≡ passes
  passed true o enters passes h = refl
  passed false o enters passes h = cc

  unknown : {A : Type 0} (b : Bool) (o : Option (List Step)) (enters : List Step → A) (passes : A) → o ≡ None → unless_entered b o enters passes ≡ passes
  unknown true o enters passes h = refl
  unknown false None enters passes h = refl
  unknown false (Some ss) enters passes h = cc

  known : {A : Type 0} (b : Bool) (o : Option (List Step)) (enters : List Step → A) (passes : A) (ss : List Step) → b ≡ false → o ≡ Some ss
      → unless_entered b o enters passes ≡ enters ss
  known true o enters passes ss h e = cc
  known false None enters passes ss h e = cc
  known false (Some rs) enters passes ss h e =
      let same : rs ≡ ss = cc in
      ap enters same

  pub entered_on : (n : ℕ) (c : Callee) (more : List Step) (w : Walked) → is_among c w.entered ≡ true → walk body n (step.Calls c ∷ more) w ≡ walk body n more w
  entered_on zero c more w h = passed (is_among c w.entered) (body c) _ _ h
  entered_on (suc n) c more w h = passed (is_among c w.entered) (body c) _ _ h

  pub undeclared_on : (n : ℕ) (c : Callee) (more : List Step) (w : Walked) → body c ≡ None → walk body n (step.Calls c ∷ more) w ≡ walk body n more w
  undeclared_on zero c more w h = unknown (is_among c w.entered) (body c) _ _ h
  undeclared_on (suc n) c more w h = unknown (is_among c w.entered) (body c) _ _ h

  pub none_left : (n : ℕ) (c : Callee) (ss more : List Step) (w : Walked) → n ≡ 0 → is_among c w.entered ≡ false → body c ≡ Some ss → walk body n (step.Calls c ∷ more) w ≡ w
  none_left zero c ss more w z h e = known (is_among c w.entered) (body c) _ _ ss h e
  none_left (suc n) c ss more w z h e = absurd (omega (arith, z))

  pub enters_on : (n m : ℕ) (c : Callee) (ss more : List Step) (w : Walked) → n ≡ suc m → is_among c w.entered ≡ false → body c ≡ Some ss
      → walk body n (step.Calls c ∷ more) w ≡ walk body m (ss ++ more) (with_callee c w)
  enters_on n m c ss more w z h e =
      ap (λ (k : ℕ). walk body k (step.Calls c ∷ more) w) z ∙ known (is_among c w.entered) (body c) (λ rs. walk body m (rs ++ more) (with_callee c w)) _ ss h e

  -- the turn that enters a callee, from what is pending
  pub entering_turn : (n : ℕ) (c : Callee) (s : Step) (inner more pending then_pending : List Step) (paths : List Path) (entered then_entered : List Callee) (end : Walked)
      → n ≡ suc (n - 1) → pending ≡ s ∷ more → s ≡ step.Calls c → is_among c entered ≡ false → body c ≡ Some inner → then_pending ≡ inner ++ more → then_entered ≡ entered ++ c ∷ []
      → walk body n pending (record { paths = paths; entered = entered }) ≡ end → walk body (n - 1) then_pending (record { paths = paths; entered = then_entered }) ≡ end
  entering_turn n c s inner more pending then_pending paths entered then_entered end left next is new known_body before after so_far =
      let w : Walked = record { paths = paths; entered = entered } in
      let turn : walk body n (step.Calls c ∷ more) w ≡ walk body (n - 1) (inner ++ more) (with_callee c w) = enters_on n (n - 1) c inner more w left new known_body in
      (λ i. walk body (n - 1) (before i) (record { paths = paths; entered = after i })) ∙ sym turn
      ∙ sym (ap (λ (ss : List Step). walk body n ss (record { paths = paths; entered = entered })) (next ∙ ap (λ (t : Step). t ∷ more) is)) ∙ so_far

  ends : (ss : List Step) → ss ++ [] ≡ ss
  ends [] = refl
  ends (s ∷ ss) = ap (λ (rs : List Step). s ∷ rs) (ends ss)

  -- the paths at the end, where nothing is pending
  pub paths_at_end : (n m count : ℕ) (pending start steps none : List Step) (paths none_yet : List Path) (entered no_callee : List Callee)
      → pending ≡ [] → m ≡ count → start ≡ steps ++ none → none ≡ [] → none_yet ≡ [] → no_callee ≡ []
      → walk body n pending (record { paths = paths; entered = entered }) ≡ walk body m start (record { paths = none_yet; entered = no_callee })
      → paths ≡ (walk body count steps nothing).paths
  paths_at_end n m count pending start steps none paths none_yet entered no_callee done many from empty no_path no_callees so_far =
      let end : walk body n pending (record { paths = paths; entered = entered }) ≡ record { paths = paths; entered = entered } =
      ap (λ (ss : List Step). walk body n ss (record { paths = paths; entered = entered })) done ∙ walk_end n (record { paths = paths; entered = entered }) in
      let begun : start ≡ steps = from ∙ ap (λ (ss : List Step). steps ++ ss) empty ∙ ends steps in
      ap (λ (w : Walked). w.paths) (sym end ∙ so_far ∙ (λ i. walk body (many i) (begun i) (record { paths = no_path i; entered = no_callees i })))
