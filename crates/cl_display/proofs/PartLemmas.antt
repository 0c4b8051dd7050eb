-- Parts with more marks: these behind those that were there, the lowest end of all items, and what holds these. What used the margin or
-- the origin stays so.
use Rattle.std.proofs.Common.{◌≡◌, ◌∙◌, ap, sym, ◌+◌, ℤ, Bool, true, false, List}
use Rattle.std.proofs.Common.{[]}
use Rattle.std.proofs.Common.{◌∷◌, ◌++◌, Option, append_assoc, append-nil, arith, refl}
use Rattle.std.specs.Prelude.{◌||◌}
use Rattle.cl_eval.specs.Statements.{Member}
use Rattle.cl_medium.specs.Items.{Item}
use Rattle.cl_region.specs.Places.{box}
use Rattle.cl_record.specs.Marks.{Mark, close, draw, open_presentation, open_update}
use Rattle.cl_record.specs.Replays.{items_drawn as items_in}
use Rattle.cl_record.proofs.Replayed.{drawn-append}
use Rattle.cl_display.specs.Drawings.{PartAt}
use Rattle.cl_display.specs.Drawings.{join_parts, lower_end}
use Rattle.cl_display.proofs.CornerLemmas.{box-first, box-second, holds-then, holds_all-behind, holds_all-then}
use Rattle.cl_display.proofs.EndLemmas.{lower_end-assoc, lower_end-none, lowest_of-behind}
use Rattle.cl_display.specs.Sums.{AreMembers, Holds, HoldsAll, lowest_of, weight_of}

-- what was drawn between two states of a part
pub record PartAdds (s t : PartAt) (marks : List (Mark Item)) : Type 0 where
  pub behind : t.marks ≡ s.marks ++ marks
  pub lowest : t.lowest ≡ lower_end s.lowest (lowest_of (items_in marks))
  pub wider : Holds t.extent s.extent
  pub within : HoldsAll t.extent marks
  pub margin : s.margin_used ≡ true → t.margin_used ≡ true
  pub origin : s.origin_used ≡ true → t.origin_used ≡ true

-- ---- lists of marks

pub weight_of-behind : (xs ys : List (Mark Item)) → weight_of (xs ++ ys) ≡ weight_of xs + weight_of ys
weight_of-behind [] ys = omega arith
weight_of-behind (draw x ∷ xs) ys = omega (arith, weight_of-behind xs ys)
weight_of-behind (open_presentation l ∷ xs) ys = omega (arith, weight_of-behind xs ys)
weight_of-behind (open_update h ∷ xs) ys = omega (arith, weight_of-behind xs ys)
weight_of-behind (close ∷ xs) ys = omega (arith, weight_of-behind xs ys)

pub members-behind : (holds : Member) (xs ys : List (Mark Item)) → AreMembers holds xs → AreMembers holds ys → AreMembers holds (xs ++ ys)
members-behind holds [] ys p q = q
members-behind holds (draw x ∷ xs) ys p q = members-behind holds xs ys p q
members-behind holds (open_presentation l ∷ xs) ys p q = (p.0, members-behind holds xs ys p.1 q)
members-behind holds (open_update h ∷ xs) ys p q = members-behind holds xs ys p q
members-behind holds (close ∷ xs) ys p q = members-behind holds xs ys p q

-- a closing draws nothing
pub items-closed : (xs : List (Mark Item)) → items_in (xs ++ close ∷ []) ≡ items_in xs
items-closed xs = drawn-append xs (close ∷ []) ∙ append-nil (items_in xs)

-- ---- parts

-- no item, in an extent no less wide
pub part-none : (s t : PartAt) → t.marks ≡ s.marks → t.lowest ≡ s.lowest → Holds t.extent s.extent
    → (s.margin_used ≡ true → t.margin_used ≡ true) → (s.origin_used ≡ true → t.origin_used ≡ true) → PartAdds s t []
part-none s t m l e mu ou = record {
  behind = rw m (sym (append-nil s.marks));
  lowest = l ∙ sym (lower_end-none s.lowest);
  wider = e;
  within = tt;
  margin = mu;
  origin = ou;
}

pub part-then : (s t u : PartAt) (xs ys : List (Mark Item)) → PartAdds s t xs → PartAdds t u ys → PartAdds s u (xs ++ ys)
part-then s t u xs ys p q = record {
  behind = q.behind ∙ ap (λ (l : List (Mark Item)). l ++ ys) p.behind ∙ append_assoc s.marks xs ys;
  lowest =
      q.lowest ∙ ap (λ (e : Option ℤ). lower_end e (lowest_of (items_in ys))) p.lowest
      ∙ lower_end-assoc s.lowest (lowest_of (items_in xs)) (lowest_of (items_in ys))
      ∙ sym (ap (λ (e : Option ℤ). lower_end s.lowest e)
      (ap (λ (is : List Item). lowest_of is) (drawn-append xs ys) ∙ lowest_of-behind (items_in xs) (items_in ys)));
  wider = holds-then u.extent t.extent s.extent q.wider p.wider;
  within = holds_all-behind u.extent xs ys (holds_all-then u.extent t.extent xs q.wider p.within) q.within;
  margin = λ h. q.margin (p.margin h);
  origin = λ h. q.origin (p.origin h);
}

-- an inner part that started blank comes behind the outer one
pub part-join : (s t : PartAt) (marks : List (Mark Item)) → t.marks ≡ marks → t.lowest ≡ lowest_of (items_in marks)
    → HoldsAll t.extent marks
    → PartAdds s (join_parts s t) marks
part-join s t marks b l w = record {
  behind = ap (λ (ms : List (Mark Item)). s.marks ++ ms) b;
  lowest = ap (λ (e : Option ℤ). lower_end s.lowest e) l;
  wider = box-first s.extent t.extent;
  within = holds_all-then (box s.extent t.extent) t.extent marks (box-second s.extent t.extent) w;
  margin = λ h. or-true t.margin_used s.margin_used h;
  origin = λ h. or-true t.origin_used s.origin_used h;
}
  where
    or-true : (a b : Bool) → b ≡ true → (a || b) ≡ true
    or-true true b h = refl
    or-true false b h = h
