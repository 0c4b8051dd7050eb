-- Panes that are settled one after another.
use Rattle.std.proofs.Common.{◌≡◌, ℕ, suc, ◌+◌, ◌≤◌, List, [], ◌∷◌, ◌++◌, Some, length, get_or, set, map, take, drop, refl, sym, ◌∙◌, ap, subst}
use Rattle.std.proofs.Common.{arith, slice_get, append_assoc, append-nil, drop-cons}
use Rattle.std.proofs.lemmas.List.{drop-drop, drop-set-lt, drop_all, take_all, take_more_set}
use Rattle.std.proofs.lemmas.Option.{get_or_from_slice_get, slice_get_within}
use Rattle.cl_application.specs.Panes.{panes_of}
use Rattle.cl_application.specs.declared.declarations.PaneDecl.{PaneDecl}
use Rattle.cl_eval.specs.Outcome.{RisesBy}
use Rattle.cl_frame.specs.States.{StateAt}
use Rattle.cl_frame.specs.Frames.{Settles, SettlesAt, SettlesPanes, marks_of_frame, reports_of_frame}
use Rattle.cl_frame.specs.Ground.{Ground}
use Rattle.cl_frame.specs.Panes.{marks_of_pane, report_of_pane}
use Rattle.cl_frame.specs.Settling.{PaneStep, SpendsPanes, marks_after, met_memory, report_after, settle_pane, settle_panes}
use Rattle.cl_frame.specs.declared.frames.Frame.{Frame}
use Rattle.cl_frame.specs.declared.panes.Pane.{Pane}
use Rattle.cl_frame.specs.declared.reports.PaneReport.{PaneReport}
use Rattle.cl_frame.specs.declared.settling.Which.{Which}

pub cons_same : {A : Type 0} (x y : A) (xs ys : List A) → x ≡ y → xs ≡ ys → ◌≡◌ {A = List A} (x ∷ xs) (y ∷ ys)
cons_same x y xs ys e f = ap (λ z. z ∷ xs) e ∙ ap (λ zs. y ∷ zs) f

-- what stands in a place, and what is behind it
pub drop_at : {A : Type 0} (xs : List A) (k : ℕ) (x : A) → slice_get xs k ≡ Some x → drop k xs ≡ x ∷ drop (k + 1) xs
drop_at xs k x is =
    let one : suc k ≡ k + 1 = omega arith in
    drop-cons xs k x (slice_get_within xs k x is) ∙ cons_same (get_or xs k x) x (drop (suc k) xs) (drop (k + 1) xs)
    (get_or_from_slice_get xs k x x is) (ap (λ n. drop n xs) one)

-- what is behind a place where two lists agree from that place on
pub drop_later : {A : Type 0} (xs ys : List A) (k : ℕ) → drop k xs ≡ drop k ys → drop (k + 1) xs ≡ drop (k + 1) ys
drop_later xs ys k e = sym (drop-drop 1 k xs) ∙ (ap (drop 1) e ∙ drop-drop 1 k ys)

module _ (g : Ground) (which : Which) (state : StateAt) where
  -- panes that were settled one after another are those of the definition
  pub settled_panes : (ds : List PaneDecl) (os ns : List Pane) (from to : ℕ) → SettlesPanes g which state ds os ns from to
      → (map marks_of_pane ns ≡ map marks_after (settle_panes g which state ds (map marks_of_pane os) (map met_memory (map report_of_pane ns))))
      × (map report_of_pane ns ≡ map report_after (settle_panes g which state ds (map marks_of_pane os) (map met_memory (map report_of_pane ns))))
      × SpendsPanes (settle_panes g which state ds (map marks_of_pane os) (map met_memory (map report_of_pane ns))) from to
  settled_panes [] [] [] from to h = (refl, refl, h)
  settled_panes [] [] (n ∷ ns) from to h = absurd h
  settled_panes [] (o ∷ os) ns from to h = absurd h
  settled_panes (d ∷ ds) [] ns from to h = absurd h
  settled_panes (d ∷ ds) (o ∷ os) [] from to h = absurd h
  settled_panes (d ∷ ds) (o ∷ os) (n ∷ ns) from to h =
      let rest = settled_panes ds os ns h.0 to h.3 in
      let step : PaneStep = settle_pane g which state d (marks_of_pane o) (met_memory n.report) in
      let more : List PaneStep = settle_panes g which state ds (map marks_of_pane os) (map met_memory (map report_of_pane ns)) in (
        cons_same (marks_of_pane n) step.marks (map marks_of_pane ns) (map marks_after more) h.1.marks rest.0,
        cons_same n.report step.report (map report_of_pane ns) (map report_after more) h.1.report rest.1,
        (h.0, subst (λ (r : PaneReport). RisesBy (met_memory r) from h.0 step.cost) h.1.report h.2, rest.2),
      )

  pub settled_frame : (old new : Frame) (from to : ℕ) → SettlesPanes g which state (panes_of g.app) old.panes.items new.panes.items from to
      → Settles g which state old new
  settled_frame old new from to h =
      let all = settled_panes (panes_of g.app) old.panes.items new.panes.items from to h in
      record { marks = all.0; reports = all.1 }

  -- one pane more was settled
  pub settled_next : (ds : List PaneDecl) (olds now then : List Pane) (k : ℕ) (from at next : ℕ)
      → ds ≡ panes_of g.app → drop k now ≡ drop k olds → SettlesAt g which state k now then at next
      → ((ns : List Pane) (last : ℕ) → SettlesPanes g which state (drop k ds) (drop k olds) ns at last → SettlesPanes g which state ds olds (take k now ++ ns) from last)
      → (ns : List Pane) (last : ℕ) → SettlesPanes g which state (drop (k + 1) ds) (drop (k + 1) olds) ns next last
      → SettlesPanes g which state ds olds (take (k + 1) then ++ ns) from last
  settled_next ds olds now then k from at next own rest h goes ns last more =
      let declared : drop k ds ≡ h.declared ∷ drop (k + 1) ds = drop_at ds k h.declared (subst (λ (xs : List PaneDecl). slice_get xs k ≡ Some h.declared) (sym own) h.declares) in
      let stood : drop k olds ≡ h.before ∷ drop (k + 1) olds =
      sym rest ∙ (drop_at now k h.before h.stood ∙ ap (λ (xs : List Pane). h.before ∷ xs) (drop_later now olds k rest)) in
      let one : SettlesPanes g which state (h.declared ∷ drop (k + 1) ds) (h.before ∷ drop (k + 1) olds) (h.now ∷ ns) at last = (next, h.settles, h.spends, more) in
      let here : SettlesPanes g which state (drop k ds) (drop k olds) (h.now ∷ ns) at last = rw declared (rw stood one) in
      let panes : take (k + 1) then ++ ns ≡ take k now ++ h.now ∷ ns =
      ap (λ (xs : List Pane). take (k + 1) xs ++ ns) h.stands
      ∙ (ap (λ (xs : List Pane). xs ++ ns) (take_more_set now k h.now (slice_get_within now k h.before h.stood)) ∙ append_assoc (take k now) (h.now ∷ []) ns) in
      rw panes (goes (h.now ∷ ns) last here)

-- the panes behind are what they were
pub rest_next : {A : Type 0} (olds now then : List A) (k : ℕ) (p : A) → then ≡ set now k p → drop k now ≡ drop k olds → drop (k + 1) then ≡ drop (k + 1) olds
rest_next olds now then k p e rest =
    ap (λ xs. drop (k + 1) xs) e ∙ (drop-set-lt (k + 1) now k p (omega arith) ∙ drop_later now olds k rest)

-- all panes were settled
pub settled_all : (g : Ground) (which : Which) (state : StateAt) (ds : List PaneDecl) (olds now : List Pane) (k : ℕ) (from at : ℕ)
    → length ds ≤ k → length olds ≤ k → length now ≤ k
    → ((ns : List Pane) (last : ℕ) → SettlesPanes g which state (drop k ds) (drop k olds) ns at last → SettlesPanes g which state ds olds (take k now ++ ns) from last)
    → SettlesPanes g which state ds olds now from at
settled_all g which state ds olds now k from at hd ho hn goes =
    let none : SettlesPanes g which state (drop k ds) (drop k olds) [] at at =
    rw (drop_all k ds hd) (rw (drop_all k olds ho) refl) in
    let all : take k now ++ [] ≡ now = append-nil (take k now) ∙ take_all k now hn in
    rw all at (goes [] at none)

-- and the ledger rose by what they cost
pub settled_spends : (g : Ground) (which : Which) (state : StateAt) (old new : Frame) (from to : ℕ)
    → SettlesPanes g which state (panes_of g.app) old.panes.items new.panes.items from to
    → SpendsPanes (settle_panes g which state (panes_of g.app) (marks_of_frame old) (map met_memory (reports_of_frame new))) from to
settled_spends g which state old new from to h = (settled_panes g which state (panes_of g.app) old.panes.items new.panes.items from to h).2
