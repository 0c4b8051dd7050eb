use Rattle.std.proofs.Common.{◌≡◌, ◌∙◌, ◌+◌, ◌++◌, arith, length, sym}
use Rattle.cl_index.specs.Found.{overlaps}
use Rattle.cl_index.specs.Boxes.{after, head_of, rects_in}
use Rattle.cl_index.proofs.Under.{after_first, after_middle, after_second, none_after, overlaps_wide}
use Rattle.cl_index.proofs.trees.Tree.+first_from.Goals as goal
use Rattle.cl_index.proofs.trees.Tree.+first_from.Goals.{then-from-middle+in_default, else-from-middle}

pub returns-then-not-overlaps : goal.returns-then-not-overlaps
returns-then-not-overlaps t c =
    let passed = sym c.overlaps.ensures.sides ∙ c.if-not-overlaps.true in
    none_after (overlaps c.args.rect.now) (overlaps_wide c.args.rect.now) c.args.from c.args.base c.args.self.now c.requires.sound
    (rw c.around.ensures at passed)

pub returns-in-Some : goal.returns-in-Some
returns-in-Some t c =
    let s = rw c.in-Many.is at c.requires.sound in
    let first = rects_in c.in-Many.first.value in
    let second = rects_in c.in-Many.second.value in
    let middle : c.args.base + c.in-Many.count ≡ c.args.base + length first = omega (arith, s.0.count_is) in
    let found = rw c.deref.ensures at (sym c.in-Some.is ∙ c.first_from.ensures) in
    rw c.in-Many.is (after_first (overlaps c.args.rect.now) c.args.from c.args.base (c.args.base + c.in-Many.count) first second middle c.in-Some.place found)

pub returns-after-from-middle : goal.returns-after-from-middle
returns-after-from-middle t c =
    let s = rw c.in-Many.is at c.requires.sound in
    let p = overlaps c.args.rect.now in
    let first = rects_in c.in-Many.first.value in
    let second = rects_in c.in-Many.second.value in
    let m = c.args.base + c.in-Many.count in
    let middle : m ≡ c.args.base + length first = omega (arith, s.0.count_is) in
    let found = rw c.deref-in-Many.ensures at c.first_from-in-Many.ensures in
    let behind : head_of (after c.args.from p m second) ≡ head_of (after c.args.from p c.args.base (first ++ second)) =
    elim c.if-from-middle.branch [
      | then-from-middle+in_default w ↦
          after_second p c.args.from c.args.base m first second middle (rw w.deref.ensures at (sym w.in_default.is ∙ w.first_from.ensures))
      | else-from-middle w ↦ after_middle p c.args.from c.args.base m first second middle w.if-from-middle.false
    ] in
    rw c.in-Many.is (found ∙ behind)
