-- What is kept and what is touched is told by the marks of histories.
use Rattle.std.proofs.Common.{◌≡◌, ◌∙◌, ap, refl, ℤ, pos, ◌+ℤ◌, if◌then◌else◌, List, Option, Some, None, arith}
use Rattle.std.specs.Option.{option_map}
use Rattle.std.proofs.lemmas.Int.{ints}
use Rattle.cl_region.specs.declared.rects.Shift.{Shift}
use Rattle.cl_medium.specs.ItemLaws.{item_stays}
use Rattle.cl_medium.specs.Items.{Item, item_bounds, move_item}
use Rattle.cl_record.specs.Heads.{move_point}
use Rattle.cl_record.specs.Marks.{history_marks}
use Rattle.cl_record.specs.Shifts.{join_shifts, still}
use Rattle.cl_record.specs.Trees.{Tree, Trees, leaf, presentation, tree, trees_of, update}
use Rattle.cl_record.specs.Trees as records
use Rattle.cl_display.specs.Walks.{OpeningAt, Walk, done, met}
use Rattle.cl_reuse.specs.Keeping.{shift_to}
use Rattle.cl_reuse.specs.Kept.{OldUpdate, found}
use Rattle.cl_reuse.specs.Records.{records_of}
use Rattle.cl_reuse.proofs.ToldKept.{found-settled, keep-settled, settled_update}
use Rattle.cl_reuse.proofs.ToldRecords.{all_settled, history-told, settled}
use Rattle.cl_damage.specs.Children.{Children, child, child_before, children_before, item, none, updated}
use Rattle.cl_damage.specs.Keeps.{Keeps, opened}
use Rattle.cl_damage.specs.Keeps as keeps
use Rattle.cl_damage.specs.NewChildren.{new_child_before, new_children, new_children_before, old_children}
use Rattle.cl_damage.specs.SameItems.{same_item}
use Rattle.cl_damage.specs.Touched.{touched}
use Rattle.cl_untouched.specs.Among.{touched_between}
use Rattle.cl_untouched.specs.Keeps.{at_opening, keeps_of, moved_to}

-- ---- children

mutual
  child-settled : (at : Shift) (t : Tree Item) (rest : Children Item) → child_before move_item still (settled at t) rest ≡ child_before move_item at t rest
  child-settled at (leaf a) rest = ap (λ (b : Item). child (item b) rest) (item_stays (move_item at a))
  child-settled at (presentation l p ts) rest = children-settled (join_shifts p at) ts rest
  child-settled at (update h p ts) rest =
      ap (λ (ks : Children Item). child (updated (h.site, h.id) None ks) rest) (children-settled (join_shifts p at) ts none)

  -- trees have the same children in absolute places
  children-settled : (at : Shift) (ts : Trees Item) (rest : Children Item)
      → children_before move_item still (all_settled at ts) rest ≡ children_before move_item at ts rest
  children-settled at records.none rest = refl
  children-settled at (tree t ts) rest =
      ap (λ (ks : Children Item). child_before move_item still (settled at t) ks) (children-settled at ts rest)
      ∙ child-settled at t (children_before move_item at ts rest)

mutual
  new-settled : (at : Shift) (t : Tree Item) (ks : Keeps) (rest other : Keeps → Children Item) → ((left : Keeps) → rest left ≡ other left)
      → new_child_before move_item still (settled at t) ks rest ≡ new_child_before move_item at t ks other
  new-settled at (leaf a) ks rest other h =
      let one = item_stays (move_item at a) in
      let more = h ks in
      λ i. child (item (one i)) (more i)
  new-settled at (presentation l p ts) ks rest other h = all-new-settled (join_shifts p at) ts ks rest other h
  new-settled at (update hd p ts) (opened v inside left) rest other h =
      let one = all-new-settled (join_shifts p at) ts inside (λ _. none) (λ _. none) (λ _. refl) in
      let more = h left in
      λ i. child (updated (hd.site, hd.id) v (one i)) (more i)
  new-settled at (update hd p ts) keeps.none rest other h =
      let one = all-new-settled (join_shifts p at) ts keeps.none (λ _. none) (λ _. none) (λ _. refl) in
      let more = h keeps.none in
      λ i. child (updated (hd.site, hd.id) None (one i)) (more i)

  -- the same of new trees, of which this is kept
  all-new-settled : (at : Shift) (ts : Trees Item) (ks : Keeps) (rest other : Keeps → Children Item) → ((left : Keeps) → rest left ≡ other left)
      → new_children_before move_item still (all_settled at ts) ks rest ≡ new_children_before move_item at ts ks other
  all-new-settled at records.none ks rest other h = h ks
  all-new-settled at (tree t ts) ks rest other h =
      new-settled at t ks (λ left. new_children_before move_item still (all_settled at ts) left rest) (λ left. new_children_before move_item at ts left other)
      (λ left. all-new-settled at ts left rest other h)

-- the children of an old history are those of the records that its marks tell
old-told : (old : List (Tree Item)) → old_children move_item (records_of (history_marks move_item old)) ≡ old_children move_item old
old-told old =
    ap (λ (ts : Trees Item). children_before move_item still ts none) (history-told old) ∙ children-settled still (trees_of old) none

-- and so are those of a new one
new-told : (new : List (Tree Item)) (ks : Keeps) → new_children move_item (records_of (history_marks move_item new)) ks ≡ new_children move_item new ks
new-told new ks =
    ap (λ (ts : Trees Item). new_children_before move_item still ts ks (λ _. none)) (history-told new)
    ∙ all-new-settled still (trees_of new) ks (λ _. none) (λ _. none) (λ _. refl)

-- what is touched is told by the marks of both
pub touched-told : (old new : List (Tree Item)) (ks : Keeps)
    → touched_between (history_marks move_item old) (history_marks move_item new) ks ≡ touched item_bounds same_item (old_children move_item old) (new_children move_item new ks)
touched-told old new ks =
    let before = old-told old in
    let after = new-told new ks in
    λ i. touched item_bounds same_item (before i) (after i)

-- ---- keeps

unmoved : (a : ℤ) → a +ℤ pos 0 ≡ a
unmoved a = omega (arith, ints)

-- it is moved as far
moved-settled : (u : OldUpdate) (o : OpeningAt) → moved_to (settled_update u) o ≡ moved_to u o
moved-settled u o =
    let start = move_point u.place u.head.measures.start in
    let x = unmoved start.x in
    let y = unmoved start.y in
    λ i. shift_to (record { x = x i; y = y i }) o.ambient

opening-settled : (f : Option OldUpdate) (o : OpeningAt) (inside : Shift → Trees Item → Keeps) (rest : Keeps)
    → ((at : Shift) (ts : Trees Item) → inside still (all_settled at ts) ≡ inside at ts)
    → at_opening (option_map settled_update f) o inside rest ≡ at_opening f o inside rest
opening-settled None o inside rest h = refl
opening-settled (Some u) o inside rest h =
    let keep = keep-settled u.place u.head o in
    let moved = moved-settled u o in
    let within = h u.place u.inside in
    λ i. if keep i then opened (Some (moved i)) keeps.none rest else opened None (within i) rest

keeps-settled : (w : Walk) (at : Shift) (ts : Trees Item) → keeps_of still (all_settled at ts) w ≡ keeps_of at ts w
keeps-settled done at ts = refl
keeps-settled (met o inside rest) at ts =
    let there = λ (to : Shift) (olds : Trees Item). keeps_of to olds inside in
    let more = keeps-settled rest at ts in
    ap (λ (f : Option OldUpdate). at_opening f o there (keeps_of still (all_settled at ts) rest)) (found-settled o.site o.id at ts)
    ∙ (opening-settled (found o.site o.id at ts) o there (keeps_of still (all_settled at ts) rest) (keeps-settled inside)
    ∙ ap (λ (ks : Keeps). at_opening (found o.site o.id at ts) o there ks) more)

-- what is kept is told by the marks
pub keeps-told : (old : List (Tree Item)) (w : Walk) → keeps_of still (trees_of (records_of (history_marks move_item old))) w ≡ keeps_of still (trees_of old) w
keeps-told old w = ap (λ (ts : Trees Item). keeps_of still ts w) (history-told old) ∙ keeps-settled w still (trees_of old)
