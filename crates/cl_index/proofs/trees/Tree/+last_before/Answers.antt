use Rattle.std.proofs.Common.{◌≡◌, ◌∙◌, ◌+◌, ◌++◌, arith, length, rules, sym}
use Rattle.std.proofs.lemmas.Int.{to_z-of_z}
use mir.Syntax.{w64}
use mir.Val.{SFits}
use Rattle.cl_index.specs.Found.{is_at}
use Rattle.cl_index.specs.Boxes.{before, head_of, rects_in}
use Rattle.cl_index.proofs.Under.{before_first, before_middle, before_second, is_at_wide, none_before}
use Rattle.cl_index.proofs.trees.Tree.+last_before.Goals as goal
use Rattle.cl_index.proofs.trees.Tree.+last_before.Goals.{then-middle-end+in_default, else-middle-end}

pub returns-then-not-contains : goal.returns-then-not-contains
returns-then-not-contains t c =
    let a : SFits w64 c.args.x = search rules in
    let b : SFits w64 c.args.y = search rules in
    let passed = rw (to_z-of_z w64 c.args.x a, to_z-of_z w64 c.args.y b) at (sym c.contains.ensures ∙ c.if-not-contains.true) in
    none_before (is_at c.args.x c.args.y) (is_at_wide c.args.x c.args.y) c.args.end c.args.base c.args.self.now c.requires.sound
    (rw c.around.ensures at passed)

pub returns-in-Some : goal.returns-in-Some
returns-in-Some t c =
    let a : SFits w64 c.args.x = search rules in
    let b : SFits w64 c.args.y = search rules in
    let s = rw c.in-Many.is at c.requires.sound in
    let first = rects_in c.in-Many.first.value in
    let second = rects_in c.in-Many.second.value in
    let middle : c.args.base + c.in-Many.count ≡ c.args.base + length first = omega (arith, s.0.count_is) in
    let found = rw (to_z-of_z w64 c.args.x a, to_z-of_z w64 c.args.y b, c.deref.ensures) at (sym c.in-Some.is ∙ c.last_before.ensures) in
    rw c.in-Many.is (before_second (is_at c.args.x c.args.y) c.args.end c.args.base (c.args.base + c.in-Many.count) first second middle c.in-Some.place found)

pub returns-after-middle-end : goal.returns-after-middle-end
returns-after-middle-end t c =
    let a : SFits w64 c.args.x = search rules in
    let b : SFits w64 c.args.y = search rules in
    let s = rw c.in-Many.is at c.requires.sound in
    let p = is_at c.args.x c.args.y in
    let first = rects_in c.in-Many.first.value in
    let second = rects_in c.in-Many.second.value in
    let m = c.args.base + c.in-Many.count in
    let middle : m ≡ c.args.base + length first = omega (arith, s.0.count_is) in
    let found = rw (to_z-of_z w64 c.args.x a, to_z-of_z w64 c.args.y b, c.deref-in-Many.ensures) at c.last_before-in-Many.ensures in
    let front : head_of (before c.args.end p c.args.base first) ≡ head_of (before c.args.end p c.args.base (first ++ second)) =
    elim c.if-middle-end.branch [
      | then-middle-end+in_default w ↦
          before_first p c.args.end c.args.base m first second middle
          (rw (to_z-of_z w64 c.args.x a, to_z-of_z w64 c.args.y b, w.deref.ensures) at (sym w.in_default.is ∙ w.last_before.ensures))
      | else-middle-end w ↦ before_middle p c.args.end c.args.base m first second middle w.if-middle-end.false
    ] in
    rw c.in-Many.is (found ∙ front)
