-- What updates draw: their marks behind those that were there, and their weight.
use Rattle.std.proofs.Common.{◌≡◌, ℕ, ◌+◌, ◌-◌, ◌≤◌, Bool, true, false, if◌then◌else◌, nat_le, List, [], ◌∷◌, ◌++◌}
use Rattle.std.proofs.Common.{Ok, Err, arith, refl, ap, sym, ◌∙◌}
use Rattle.std.proofs.lemmas.Bool.Decides.{nat_tests}
use Rattle.cl_syntax.specs.ShapeTree.{ShapeTrees}
use Rattle.cl_syntax.specs.UpdateTree.{UpdateTree}
use Rattle.cl_eval.specs.Meaning.{Go}
use Rattle.cl_eval.specs.Outcome.{Outcome, Gives, Traps, after, lift}
use Rattle.cl_eval.specs.Slots.{Env}
use Rattle.cl_eval.specs.Statements.{Member}
use Rattle.cl_medium.specs.Items.{Item}
use Rattle.cl_region.specs.Places.{box}
use Rattle.cl_record.specs.Marks.{Mark, close, open_update}
use Rattle.cl_record.specs.Replays.{items_drawn}
use Rattle.cl_display.specs.Drawings.{DrawingAt, cursor_box}
use Rattle.cl_display.specs.Fresh.{Allowance, Bodies, draws_body, draws_cached, draws_keyed, draws_update, left_over}
use Rattle.cl_display.specs.Outcomes.{run_of}
use Rattle.cl_display.specs.Sums.{HoldsAll, lowest_of}
use Rattle.cl_display.specs.Updates.{KeyAt, cache_of, end_update, enter_body, head_at, id_of, key_at, key_weight, leave_update, updated_part}
use Rattle.cl_display.specs.Siblings.{is_taken, note}
use Rattle.cl_display.proofs.CornerLemmas.{box-second, corners-of, holds-itself, holds-then, holds_all-behind, upright-around}
use Rattle.cl_display.proofs.PartLemmas.{items-closed, members-behind, part-join, weight_of-behind}
use Rattle.cl_display.proofs.SumLemmas.{Adds, AddsOut, AddsRun, adds-given}

-- the bodies of updates add up, each by itself
abbrev pub BodiesAdd : Member → Bodies → Type 0
BodiesAdd holds bodies = (allowed : Allowance) (env : Env) (body : ShapeTrees) (s : DrawingAt)
    → AddsOut allowed.weight holds s (bodies.draw allowed env body s).outcome

module _ (most : ℕ) (holds : Member) where
  -- an update that is opened, and whose body adds up
  adds-leave : (key : KeyAt) (s entered t : DrawingAt) (n reach : ℕ) → entered.part ≡ s.part → entered.ambient ≡ s.ambient
      → entered.weight ≡ s.weight + key_weight key → entered.weight ≤ most → Adds (most - entered.weight) holds (enter_body entered) t
      → Adds most holds s (leave_update (head_at key entered.ambient t n reach) t.part entered)
  adds-leave key s entered t n reach part ambient weight light p =
      let head = head_at key entered.ambient t n reach in
      let inner = updated_part head t.part in
      let marks : List (Mark Item) = open_update head ∷ (p.marks ++ close ∷ []) in
      let same : items_drawn marks ≡ items_drawn p.marks = items-closed p.marks in
      let cursor = p.cursor (holds-itself (cursor_box entered.ambient)) in
      let within : HoldsAll t.part.extent marks = (
        corners-of t.part.extent t.part.extent (upright-around t.part.extent t.ambient cursor) (holds-itself t.part.extent),
        holds_all-behind t.part.extent p.marks (close ∷ []) p.part.within tt,
      ) in
      record {
        marks = marks;
        part =
            rw part (part-join s.part inner marks (ap (λ (ms : List (Mark Item)). open_update head ∷ (ms ++ close ∷ [])) p.part.behind)
            (p.part.lowest ∙ sym (ap (λ (is : List Item). lowest_of is) same)) within);
        weight = omega (arith, weight, p.weight, weight_of-behind p.marks (close ∷ []));
        members = members-behind holds p.marks (close ∷ []) p.members tt;
        light = λ h. omega (arith, light, p.light (omega arith));
        cursor = λ h. rw part (holds-then (box s.part.extent t.part.extent) t.part.extent (cursor_box t.ambient) (box-second s.part.extent t.part.extent) cursor);
      }

  adds-ended : (key : KeyAt) (level : ℕ) (s entered : DrawingAt) (o : Outcome DrawingAt) → entered.part ≡ s.part → entered.ambient ≡ s.ambient
      → entered.weight ≡ s.weight + key_weight key → entered.weight ≤ most → AddsOut (most - entered.weight) holds (enter_body entered) o
      → (c d : ℕ) → AddsOut most holds s (end_update key level entered o c d)
  adds-ended key level s entered (Gives t n reach) part ambient weight light p c d = adds-leave key s entered t n reach part ambient weight light p
  adds-ended key level s entered (Traps kind n reach) part ambient weight light p c d = tt

  adds-keyed : (allowed : Allowance) → allowed.weight ≡ most → (bodies : Bodies) → BodiesAdd holds bodies → (level : ℕ) (env : Env) (body : ShapeTrees)
      (s : DrawingAt) (key : KeyAt) → AddsRun most holds s (draws_keyed allowed bodies level env body s key)
  adds-keyed allowed w bodies b level env body s key c d = rw w (opened (is_taken key.site key.id s.siblings) (nat_le (s.weight + key_weight key) most) refl)
    where
      entered : DrawingAt
      entered = record s { weight = s.weight + key_weight key; siblings = note key.site key.id s.siblings }

      opened : (taken fits : Bool) → nat_le (s.weight + key_weight key) most ≡ fits
          → AddsOut most holds s (after (lift (if taken then Err 8 else (if fits then Ok entered else Err 10)) c d)
          (λ x. run_of (draws_body (record { budget = allowed.budget; weight = most }) bodies level env body key x)))
      opened true fits h = tt
      opened false true h =
          adds-ended key level s entered (bodies.draw (left_over (record { budget = allowed.budget; weight = most }) c entered.weight) env body (enter_body entered)).outcome
          refl refl refl (grind (arith, nat_tests, h)) (b (left_over (record { budget = allowed.budget; weight = most }) c entered.weight) env body (enter_body entered)) c d
      opened false false h = tt

  pub adds-draws_update : (allowed : Allowance) → allowed.weight ≡ most → (value : Go) (bodies : Bodies) → BodiesAdd holds bodies
      → (level : ℕ) (env : Env) (u : UpdateTree) (body : ShapeTrees) (s : DrawingAt) → AddsRun most holds s (draws_update allowed value bodies level env u body s)
  adds-draws_update allowed w value bodies b level env u body s =
      adds-given most holds s (id_of value level env s.siblings u.site u.id) (draws_cached allowed value bodies level env u body s)
      (λ id. adds-given most holds s (cache_of value level env u.cache) (λ cache. draws_keyed allowed bodies level env body s (key_at u id cache))
      (λ cache. adds-keyed allowed w bodies b level env body s (key_at u id cache)))
