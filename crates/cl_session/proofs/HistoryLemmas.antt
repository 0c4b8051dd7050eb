-- The history of the pane in the place of its name.
use Rattle.std.proofs.Common.{◌≡◌, ◌<◌, ◌+◌, arith, length, ℕ, zero, suc, Bool, true, false, List, [], ◌∷◌, Option, Some, None, Result, Ok, Err, refl, sym, ◌∙◌, ap, subst}
use Rattle.std.specs.List.{position_from}
use Rattle.std.specs.Prelude.{IfOk, codes, if◌then◌else◌, option_map, slice_get}
use Rattle.cl_application.specs.declared.declarations.PaneDecl.{PaneDecl}
use Rattle.cl_eval.specs.Slots.{Slots}
use Rattle.cl_frame.specs.Frames.{marks_of_frame}
use Rattle.cl_frame.specs.Panes.{PaneMarks}
use Rattle.cl_frame.specs.declared.frames.Frame.{Frame}
use Rattle.cl_session.specs.Handling.{HandlesTo, IsReply, KeepsSlots, ToldOf, world_at}
use Rattle.cl_session.specs.Runs.{Handled, refuse, tell}
use Rattle.cl_session.specs.Step.{history_rows, tell_history, with_pane}
use Rattle.cl_session.specs.Telling.{TellsPane, is_pane_named, place_of_pane}
use Rattle.cl_session.specs.World.{World}
use Rattle.cl_session.specs.declared.handling.After.{After}
use Rattle.cl_session.specs.declared.handling.After.TheVariants as after
use Rattle.cl_session.specs.declared.handling.Desk.{Desk}
use Rattle.cl_session.specs.declared.handling.Handling.{Handling}
use Rattle.cl_session.specs.declared.handling.Handling.TheVariants as handling

shift_if : (b : Bool) (n : ℕ) (x y : Option ℕ) → y ≡ option_map (λ m. m + 1) x
    → (if b then Some (n + 1) else y) ≡ option_map (λ m. m + 1) (if b then Some n else x)
shift_if true n x y e = refl
shift_if false n x y e = e

-- places that are counted from one more
shift : {A : Type 0} (p : A → Bool) (n : ℕ) (xs : List A) → position_from p (n + 1) xs ≡ option_map (λ m. m + 1) (position_from p n xs)
shift p n [] = refl
shift p n (x ∷ xs) = shift_if (p x) n (position_from p (n + 1) xs) (position_from p (n + 1 + 1) xs) (shift p (n + 1) xs)

place_same : (a b : ℕ) → ◌≡◌ {A = Option ℕ} (Some a) (Some b) → a ≡ b
place_same a b e = cc

no_place : (k : ℕ) → ◌≡◌ {A = Option ℕ} None (Some k) → ⊥
no_place k e = cc

none_before : (o : Option ℕ) → option_map (λ m. m + 1) o ≡ None → o ≡ None
none_before None e = refl
none_before (Some j) e = absurd (no_place (j + 1) (sym e))

-- the place behind another
place_before : (o : Option ℕ) (k : ℕ) → option_map (λ m. m + 1) o ≡ Some k → (j : ℕ) × (o ≡ Some j) × (suc j ≡ k)
place_before None k e = absurd (no_place k e)
place_before (Some j) k e = (j, refl, omega (arith, place_same (j + 1) k e))

within_if : (b : Bool) (n k size : ℕ) (o : Option ℕ) → (o ≡ Some k → k < n + 1 + size) → (if b then Some n else o) ≡ Some k → k < n + suc size
within_if true n k size o f e = omega (arith, place_same n k e)
within_if false n k size o f e = omega (arith, f e)

within : {A : Type 0} (p : A → Bool) (n : ℕ) (xs : List A) (k : ℕ) → position_from p n xs ≡ Some k → k < n + length xs
within p n [] k e = absurd (no_place k e)
within p n (x ∷ xs) k e = within_if (p x) n k (length xs) (position_from p (n + 1) xs) (λ f. within p (n + 1) xs k f) e

-- the place of a pane is one of theirs
pub place_within : (name : List ℕ) (ds : List PaneDecl) (k : ℕ) → place_of_pane name ds ≡ Some k → k < length ds
place_within name ds k e = omega (arith, within (is_pane_named name) 0 ds k e)

pane_same : (a b : PaneDecl) → ◌≡◌ {A = Option PaneDecl} (Some a) (Some b) → a ≡ b
pane_same a b e = cc

marks_same : (a b : PaneMarks) → ◌≡◌ {A = Option PaneMarks} (Some a) (Some b) → a ≡ b
marks_same a b e = cc

no_pane : (d : PaneDecl) → ◌≡◌ {A = Option PaneDecl} None (Some d) → ⊥
no_pane d e = cc

no_marks : (m : PaneMarks) → ◌≡◌ {A = Option PaneMarks} None (Some m) → ⊥
no_marks m e = cc

-- ---- the first pane of a name

module _ (does : PaneDecl → PaneMarks → Handled) (w : World) (name : List ℕ) where
  first_pane : (ds : List PaneDecl) (ms : List PaneMarks) (d x : PaneDecl) (m y : PaneMarks) (k : ℕ) → zero ≡ k
      → slice_get (d ∷ ds) k ≡ Some x → slice_get (m ∷ ms) k ≡ Some y → does d m ≡ does x y
  first_pane ds ms d x m y zero e f h = ap (λ (z : PaneDecl). does z m) (pane_same d x f) ∙ ap (does x) (marks_same m y h)
  first_pane ds ms d x m y (suc k) e f h = cc

  found_by : (ds : List PaneDecl) (ms : List PaneMarks) (d x : PaneDecl) (m y : PaneMarks) (k : ℕ) (b : Bool)
      → ((j : ℕ) → place_of_pane name ds ≡ Some j → slice_get ds j ≡ Some x → slice_get ms j ≡ Some y → with_pane does w ds ms name ≡ does x y)
      → (if b then Some 0 else position_from (is_pane_named name) 1 ds) ≡ Some k → slice_get (d ∷ ds) k ≡ Some x → slice_get (m ∷ ms) k ≡ Some y
      → (if b then does d m else with_pane does w ds ms name) ≡ does x y
  found_by ds ms d x m y k true later e f h = first_pane ds ms d x m y k (place_same zero k e) f h
  found_by ds ms d x m y k false later e f h =
      let before = place_before (place_of_pane name ds) k (sym (shift (is_pane_named name) 0 ds) ∙ e) in
      later before.0 before.1
      (subst (λ (n : ℕ). slice_get (d ∷ ds) n ≡ Some x) (sym before.2) f)
      (subst (λ (n : ℕ). slice_get (m ∷ ms) n ≡ Some y) (sym before.2) h)

  -- the pane in the place of this name
  pub pane_found : (ds : List PaneDecl) (ms : List PaneMarks) (k : ℕ) (x : PaneDecl) (y : PaneMarks) → place_of_pane name ds ≡ Some k
      → slice_get ds k ≡ Some x → slice_get ms k ≡ Some y → with_pane does w ds ms name ≡ does x y
  pane_found [] ms k x y e f h = absurd (no_place k e)
  pane_found (d ∷ ds) [] k x y e f h = absurd (no_marks y h)
  pane_found (d ∷ ds) (m ∷ ms) k x y e f h =
      found_by ds ms d x m y k (is_pane_named name d) (λ j a b c. pane_found ds ms j x y a b c) e f h

  missing_by : (ds : List PaneDecl) (ms : List PaneMarks) (here : Handled) (b : Bool)
      → (place_of_pane name ds ≡ None → with_pane does w ds ms name ≡ refuse w 0 (codes "! pane"))
      → (if b then Some 0 else position_from (is_pane_named name) 1 ds) ≡ None
      → (if b then here else with_pane does w ds ms name) ≡ refuse w 0 (codes "! pane")
  missing_by ds ms here true later e = absurd (no_place zero (sym e))
  missing_by ds ms here false later e = later (none_before (place_of_pane name ds) (sym (shift (is_pane_named name) 0 ds) ∙ e))

  -- no pane has this name
  pub pane_missing : (ds : List PaneDecl) (ms : List PaneMarks) → place_of_pane name ds ≡ None → with_pane does w ds ms name ≡ refuse w 0 (codes "! pane")
  pane_missing [] ms e = refl
  pane_missing (d ∷ ds) [] e = refl
  pane_missing (d ∷ ds) (m ∷ ms) e = missing_by ds ms (does d m) (is_pane_named name d) (λ f. pane_missing ds ms f) e

-- ---- histories

-- the history of the pane in the place of this name
pub history_told : (w : World) (ds : List PaneDecl) (ms : List PaneMarks) (name : List ℕ) (k : ℕ) (lines : List (List ℕ))
    → place_of_pane name ds ≡ Some k → TellsPane ds ms k lines → tell_history w ds ms name ≡ tell w 0 lines
history_told w ds ms name k lines e t =
    pane_found (λ d m. tell w 0 (history_rows d.name m)) w name ds ms k t.declared t.shown e t.declares t.stands
    ∙ ap (λ (ls : List (List ℕ)). tell w 0 ls) (sym t.tells)

-- no pane has this name
pub history_refused : (w : World) (ds : List PaneDecl) (ms : List PaneMarks) (name : List ℕ) → place_of_pane name ds ≡ None
    → tell_history w ds ms name ≡ refuse w 0 (codes "! pane")
history_refused w ds ms name e = pane_missing (λ d m. tell w 0 (history_rows d.name m)) w name ds ms e

cost_by : (w : World) (here there : Handled) (b : Bool) → here.cost ≡ 0 → there.cost ≡ 0 → (if b then here else there).cost ≡ 0
cost_by w here there true e f = e
cost_by w here there false e f = f

-- telling costs nothing
pub history_cost : (w : World) (ds : List PaneDecl) (ms : List PaneMarks) (name : List ℕ) → (tell_history w ds ms name).cost ≡ 0
history_cost w [] ms name = refl
history_cost w (d ∷ ds) [] name = refl
history_cost w (d ∷ ds) (m ∷ ms) name =
    cost_by w (tell w 0 (history_rows d.name m)) (tell_history w ds ms name) (is_pane_named name d) refl (history_cost w ds ms name)

-- what is told costs what the handling costs
pub tell_cost : (h : Handled) (w : World) (lines : List (List ℕ)) → h ≡ tell w 0 lines → h ≡ record { replies = lines; world = w; after = after.Nothing; cost = h.cost }
tell_cost h w lines e = e ∙ ap (λ (n : ℕ). tell w n lines) (sym (ap (λ (x : Handled). x.cost) e))

-- lines that are told, or want of memory
pub handles_told : {E : Type 0} (h : Handled) (frame : Frame) (r : Result (List (List ℕ)) E) (answer : Handling) (slots : Slots) (desk : Desk)
    → IfOk r (λ ls. h ≡ tell (world_at slots desk frame) 0 ls) → ToldOf r answer → HandlesTo h frame answer slots slots desk desk
handles_told h frame (Ok lines) answer slots desk e t =
    subst (λ (a : Handling). HandlesTo h frame a slots slots desk desk) (sym t) (tell_cost h (world_at slots desk frame) lines e, refl)
handles_told h frame (Err x) answer slots desk e t =
    subst (λ (a : Handling). HandlesTo h frame a slots slots desk desk) (sym t) (refl, refl)

-- nothing follows what is told
kept_told : (slots : Slots) (f : After) → f ≡ after.Nothing → KeepsSlots f slots slots
kept_told slots after.Nothing e = refl
kept_told slots after.Commit e = tt
kept_told slots after.Force e = refl

-- one line that is told, or want of memory
pub handles_reply : (h : Handled) (frame : Frame) (bytes : List ℕ) (answer : Handling) (slots : Slots) (desk : Desk)
    → h ≡ refuse (world_at slots desk frame) 0 bytes → IsReply bytes answer → HandlesTo h frame answer slots slots desk desk
handles_reply h frame bytes (handling.Replied replies follows) slots desk e r =
    let w = world_at slots desk frame in
    let by : List (List ℕ) → After → ℕ → Handled = λ ls a n. record { replies = ls; world = w; after = a; cost = n } in (
      e ∙ (ap (λ (ls : List (List ℕ)). by ls after.Nothing 0) (sym r.0)
          ∙ (ap (λ (a : After). by replies a 0) (sym r.1) ∙ ap (λ (n : ℕ). by replies follows n) (sym (ap (λ (x : Handled). x.cost) e)))),
      kept_told slots follows r.1,
    )
handles_reply h frame bytes handling.Memory slots desk e r = (refl, refl)

-- the history of the pane in this place is told
pub handles_history : {E : Type 0} (frame : Frame) (slots : Slots) (desk : Desk) (ds : List PaneDecl) (name : List ℕ) (k : ℕ) (r : Result (List (List ℕ)) E)
    (answer : Handling) → place_of_pane name ds ≡ Some k → IfOk r (TellsPane ds (marks_of_frame frame) k) → ToldOf r answer
    → HandlesTo (tell_history (world_at slots desk frame) ds (marks_of_frame frame) name) frame answer slots slots desk desk
handles_history {E} frame slots desk ds name k (Ok lines) answer e t u =
    let w = world_at slots desk frame in
    handles_told {E = E} (tell_history w ds (marks_of_frame frame) name) frame (Ok lines) answer slots desk (history_told w ds (marks_of_frame frame) name k lines e t) u
handles_history {E} frame slots desk ds name k (Err x) answer e t u =
    handles_told {E = E} (tell_history (world_at slots desk frame) ds (marks_of_frame frame) name) frame (Err x) answer slots desk tt u
