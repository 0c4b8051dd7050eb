-- What a place touches in marks behind one another, and why nothing is missed outside of the box of all items.
use Rattle.std.proofs.Common.{◌≡◌, ℕ, suc, ℤ, Bool, true, false, List, [], ◌∷◌, ◌++◌, Option, Some, None, refl, ◌∙◌, ap, sym, append_assoc}
use Rattle.std.proofs.lemmas.List.{append-nil}
use Rattle.std.specs.Prelude.{if◌then◌else◌, ◌||◌}
use Rattle.cl_region.specs.Places.{box, holds}
use Rattle.cl_region.specs.declared.rects.Rect.{Rect}
use Rattle.cl_region.proofs.Corners.{box-left, box-right, false_holds, none_held, wrong}
use Rattle.cl_region.proofs.Cuts.{or_elim}
use Rattle.cl_record.specs.Boxes.{items_box, join_boxes}
use Rattle.cl_record.specs.Heads.{HeadAt}
use Rattle.cl_record.specs.Labels.{LabelAt}
use Rattle.cl_record.specs.Marks.{Mark, open_update, close, draw, open_presentation}
use Rattle.cl_record.specs.Replays.{items_drawn}
use Rattle.cl_record.specs.Touches.{box_holds, item_holds, items_inside, touched_labels, touches}
use Rattle.cl_record.proofs.Boxes.{items_box-append}
use Rattle.cl_record.proofs.Replayed.{drawn-append}

-- ---- boxes that hold a place

box-first : (o p : Option Rect) (x y : ℤ) → box_holds o x y ≡ true → box_holds (join_boxes box o p) x y ≡ true
box-first None p x y h = absurd (wrong h)
box-first (Some a) None x y h = h
box-first (Some a) (Some b) x y h = (box-left a b).holds_each x y h

box-second : (o p : Option Rect) (x y : ℤ) → box_holds p x y ≡ true → box_holds (join_boxes box o p) x y ≡ true
box-second None p x y h = h
box-second (Some a) None x y h = absurd (wrong h)
box-second (Some a) (Some b) x y h = (box-right a b).holds_each x y h

-- ---- labels

-- a label, where it is one of them, before others
abbrev pub with_label : Bool → LabelAt → List LabelAt → List LabelAt
with_label b l ls = if b then l ∷ ls else ls

with_label-append : (b : Bool) (l : LabelAt) (ls ks : List LabelAt) → with_label b l (ls ++ ks) ≡ with_label b l ls ++ ks
with_label-append true l ls ks = refl
with_label-append false l ls ks = refl

without_label : (b : Bool) (l : LabelAt) (ls : List LabelAt) → b ≡ false → ls ≡ [] → with_label b l ls ≡ []
without_label true l ls e f = absurd (cc)
without_label false l ls e f = f

chosen : (b c d : Bool) → (c ≡ true → d ≡ true) → (if b then d else c) ≡ true → d ≡ true
chosen true c d f h = h
chosen false c d f h = f h

module _ {A : Type 0} where
  pub drawn-close : (ms : List (Mark A)) → items_drawn (ms ++ close ∷ []) ≡ items_drawn ms
  drawn-close ms = drawn-append ms (close ∷ []) ∙ append-nil (items_drawn ms)

module _ {A : Type 0} (bounds : A → Rect) (x y : ℤ) where
  pub item-append : (xs ys : List A) → item_holds bounds x y (xs ++ ys) ≡ item_holds bounds x y xs || item_holds bounds x y ys
  item-append [] ys = refl
  item-append (a ∷ xs) ys = either (holds (bounds a) x y) _ _ _ (item-append xs ys) where
    either : (b c d e : Bool) → c ≡ d || e → b || c ≡ (b || d) || e
    either true c d e h = refl
    either false c d e h = h

  -- the box of all items holds what one of them holds
  pub item-box : (items : List A) → item_holds bounds x y items ≡ true → box_holds (items_box bounds items) x y ≡ true
  item-box [] h = absurd (wrong h)
  item-box (a ∷ items) h =
      or_elim (holds (bounds a) x y) (item_holds bounds x y items)
      (λ e. box-first (Some (bounds a)) (items_box bounds items) x y e)
      (λ e. box-second (Some (bounds a)) (items_box bounds items) x y (item-box items e))
      h

  pub item-outside : (items : List A) → box_holds (items_box bounds items) x y ≡ false → item_holds bounds x y items ≡ false
  item-outside items e = none_held (item_holds bounds x y items) (λ h. false_holds (box_holds (items_box bounds items) x y) e (item-box items h))

  -- so does it where a place touches a presentation of them
  pub touches-box : (l : LabelAt) (items : List A) → touches bounds x y l items ≡ true → box_holds (items_box bounds items) x y ≡ true
  touches-box l items h =
      chosen l.single_box (item_holds bounds x y items) (box_holds (items_box bounds items) x y) (λ e. item-box items e) h

  touches-outside : (l : LabelAt) (items : List A) → box_holds (items_box bounds items) x y ≡ false → touches bounds x y l items ≡ false
  touches-outside l items e =
      none_held (touches bounds x y l items) (λ h. false_holds (box_holds (items_box bounds items) x y) e (touches-box l items h))

  outside-first : (xs ys : List A) → box_holds (items_box bounds (xs ++ ys)) x y ≡ false → box_holds (items_box bounds xs) x y ≡ false
  outside-first xs ys e =
      none_held (box_holds (items_box bounds xs) x y)
      (λ h. false_holds (box_holds (items_box bounds (xs ++ ys)) x y) e
      (rw (items_box-append bounds xs ys) (box-first (items_box bounds xs) (items_box bounds ys) x y h)))

  outside-second : (xs ys : List A) → box_holds (items_box bounds (xs ++ ys)) x y ≡ false → box_holds (items_box bounds ys) x y ≡ false
  outside-second xs ys e =
      none_held (box_holds (items_box bounds ys) x y)
      (λ h. false_holds (box_holds (items_box bounds (xs ++ ys)) x y) e
      (rw (items_box-append bounds xs ys) (box-second (items_box bounds xs) (items_box bounds ys) x y h)))

  -- marks that can stand before any others: what is open in them is closed in them
  pub record AreWhole (ms : List (Mark A)) : Type 0 where
    pub items : (levels : ℕ) (rest : List (Mark A)) → items_inside levels (ms ++ rest) ≡ items_drawn ms ++ items_inside levels rest
    pub labels : (rest : List (Mark A)) → touched_labels bounds x y (ms ++ rest) ≡ touched_labels bounds x y ms ++ touched_labels bounds x y rest
    pub outside : box_holds (items_box bounds (items_drawn ms)) x y ≡ false → touched_labels bounds x y ms ≡ []

  pub whole-none : AreWhole []
  whole-none = record { items = λ levels rest. refl; labels = λ rest. refl; outside = λ e. refl }

  pub whole-draw : (a : A) → AreWhole (draw a ∷ [])
  whole-draw a = record { items = λ levels rest. refl; labels = λ rest. refl; outside = λ e. refl }

  both-items : (ms ns : List (Mark A)) → AreWhole ms → AreWhole ns → (levels : ℕ) (rest : List (Mark A))
      → items_inside levels ((ms ++ ns) ++ rest) ≡ items_drawn (ms ++ ns) ++ items_inside levels rest
  both-items ms ns h k levels rest =
      ap (λ (ks : List (Mark A)). items_inside levels ks) (append_assoc ms ns rest)
      ∙ (h.items levels (ns ++ rest)
      ∙ (ap (λ (items : List A). items_drawn ms ++ items) (k.items levels rest)
      ∙ (sym (append_assoc (items_drawn ms) (items_drawn ns) (items_inside levels rest))
      ∙ ap (λ (items : List A). items ++ items_inside levels rest) (sym (drawn-append ms ns)))))

  both-labels : (ms ns : List (Mark A)) → AreWhole ms → AreWhole ns → (rest : List (Mark A))
      → touched_labels bounds x y ((ms ++ ns) ++ rest) ≡ touched_labels bounds x y (ms ++ ns) ++ touched_labels bounds x y rest
  both-labels ms ns h k rest =
      ap (λ (ks : List (Mark A)). touched_labels bounds x y ks) (append_assoc ms ns rest)
      ∙ (h.labels (ns ++ rest)
      ∙ (ap (λ (ls : List LabelAt). touched_labels bounds x y ms ++ ls) (k.labels rest)
      ∙ (sym (append_assoc (touched_labels bounds x y ms) (touched_labels bounds x y ns) (touched_labels bounds x y rest))
      ∙ ap (λ (ls : List LabelAt). ls ++ touched_labels bounds x y rest) (sym (h.labels ns)))))

  both-outside : (ms ns : List (Mark A)) → AreWhole ms → AreWhole ns → box_holds (items_box bounds (items_drawn (ms ++ ns))) x y ≡ false → touched_labels bounds x y (ms ++ ns) ≡ []
  both-outside ms ns h k e =
      let out : box_holds (items_box bounds (items_drawn ms ++ items_drawn ns)) x y ≡ false =
      ap (λ (items : List A). box_holds (items_box bounds items) x y) (sym (drawn-append ms ns)) ∙ e in
      let first = h.outside (outside-first (items_drawn ms) (items_drawn ns) out) in
      let second = k.outside (outside-second (items_drawn ms) (items_drawn ns) out) in
      h.labels ns ∙ (λ i. first i ++ second i)

  pub whole-both : (ms ns : List (Mark A)) → AreWhole ms → AreWhole ns → AreWhole (ms ++ ns)
  whole-both ms ns h k = record { items = both-items ms ns h k; labels = both-labels ms ns h k; outside = both-outside ms ns h k }

  -- ---- branches

  around-items : (ms : List (Mark A)) → AreWhole ms → (levels : ℕ) (rest : List (Mark A))
      → items_inside (suc levels) ((ms ++ close ∷ []) ++ rest) ≡ items_drawn (ms ++ close ∷ []) ++ items_inside levels rest
  around-items ms h levels rest =
      ap (λ (ks : List (Mark A)). items_inside (suc levels) ks) (append_assoc ms (close ∷ []) rest)
      ∙ (h.items (suc levels) (close ∷ rest)
      ∙ ap (λ (items : List A). items ++ items_inside levels rest) (sym (drawn-close ms)))

  around-labels : (ms : List (Mark A)) → AreWhole ms → (rest : List (Mark A))
      → touched_labels bounds x y ((ms ++ close ∷ []) ++ rest) ≡ touched_labels bounds x y ms ++ touched_labels bounds x y rest
  around-labels ms h rest = ap (λ (ks : List (Mark A)). touched_labels bounds x y ks) (append_assoc ms (close ∷ []) rest) ∙ h.labels (close ∷ rest)

  pub closed-labels : (ms : List (Mark A)) → AreWhole ms → touched_labels bounds x y (ms ++ close ∷ []) ≡ touched_labels bounds x y ms
  closed-labels ms h = h.labels (close ∷ []) ∙ append-nil (touched_labels bounds x y ms)

  -- the items of a presentation are those before its closing
  own-items : (ms : List (Mark A)) → AreWhole ms → (rest : List (Mark A)) → items_inside 0 ((ms ++ close ∷ []) ++ rest) ≡ items_drawn ms
  own-items ms h rest =
      ap (λ (ks : List (Mark A)). items_inside 0 ks) (append_assoc ms (close ∷ []) rest)
      ∙ (h.items 0 (close ∷ rest) ∙ append-nil (items_drawn ms))

  begun : (l : LabelAt) (ms : List (Mark A)) → AreWhole ms → (rest : List (Mark A))
      → touched_labels bounds x y (open_presentation l ∷ ((ms ++ close ∷ []) ++ rest))
      ≡ with_label (touches bounds x y l (items_drawn ms)) l (touched_labels bounds x y ms ++ touched_labels bounds x y rest)
  begun l ms h rest =
      let items = own-items ms h rest in
      let labels = around-labels ms h rest in
      λ i. with_label (touches bounds x y l (items i)) l (labels i)

  pub begun-alone : (l : LabelAt) (ms : List (Mark A)) → AreWhole ms
      → touched_labels bounds x y (open_presentation l ∷ (ms ++ close ∷ [])) ≡ with_label (touches bounds x y l (items_drawn ms)) l (touched_labels bounds x y ms)
  begun-alone l ms h =
      ap (λ (ks : List (Mark A)). touched_labels bounds x y (open_presentation l ∷ ks)) (sym (append-nil (ms ++ close ∷ [])))
      ∙ (begun l ms h []
      ∙ ap (λ (ls : List LabelAt). with_label (touches bounds x y l (items_drawn ms)) l ls) (append-nil (touched_labels bounds x y ms)))

  shown-labels : (l : LabelAt) (ms : List (Mark A)) → AreWhole ms → (rest : List (Mark A))
      → touched_labels bounds x y (open_presentation l ∷ ((ms ++ close ∷ []) ++ rest))
      ≡ touched_labels bounds x y (open_presentation l ∷ (ms ++ close ∷ [])) ++ touched_labels bounds x y rest
  shown-labels l ms h rest =
      begun l ms h rest
      ∙ (with_label-append (touches bounds x y l (items_drawn ms)) l (touched_labels bounds x y ms) (touched_labels bounds x y rest)
      ∙ ap (λ (ls : List LabelAt). ls ++ touched_labels bounds x y rest) (sym (begun-alone l ms h)))

  closed-outside : (ms : List (Mark A)) → box_holds (items_box bounds (items_drawn (ms ++ close ∷ []))) x y ≡ false
      → box_holds (items_box bounds (items_drawn ms)) x y ≡ false
  closed-outside ms e = ap (λ (items : List A). box_holds (items_box bounds items) x y) (sym (drawn-close ms)) ∙ e

  shown-outside : (l : LabelAt) (ms : List (Mark A)) → AreWhole ms → box_holds (items_box bounds (items_drawn (ms ++ close ∷ []))) x y ≡ false
      → touched_labels bounds x y (open_presentation l ∷ (ms ++ close ∷ [])) ≡ []
  shown-outside l ms h e =
      let out = closed-outside ms e in
      begun-alone l ms h ∙ without_label (touches bounds x y l (items_drawn ms)) l (touched_labels bounds x y ms) (touches-outside l (items_drawn ms) out) (h.outside out)

  pub whole-shown : (l : LabelAt) (ms : List (Mark A)) → AreWhole ms → AreWhole (open_presentation l ∷ (ms ++ close ∷ []))
  whole-shown l ms h = record { items = around-items ms h; labels = shown-labels l ms h; outside = shown-outside l ms h }

  pub whole-piece : (k : HeadAt) (ms : List (Mark A)) → AreWhole ms → AreWhole (open_update k ∷ (ms ++ close ∷ []))
  whole-piece k ms h = record {
    items = around-items ms h;
    labels = λ rest. around-labels ms h rest ∙ ap (λ (ls : List LabelAt). ls ++ touched_labels bounds x y rest) (sym (closed-labels ms h));
    outside = λ e. closed-labels ms h ∙ h.outside (closed-outside ms e);
  }
