use Rattle.std.proofs.Common.{◌≡◌, true, false, ◌∙◌, ap, sym, subst}
use Rattle.std.specs.Prelude.{if◌then◌else◌, is_some}
use Rattle.cl_record.specs.Boxes.{summary_of}
use Rattle.cl_record.specs.Branches.{PresentationAt}
use Rattle.cl_record.specs.Marks.{marks_of_all}
use Rattle.cl_record.specs.Ranges.{StaysInRange}
use Rattle.cl_record.specs.Shifts.{join_shifts}
use Rattle.cl_record.specs.Trees.{are_bare, presentation, trees_of}
use Rattle.cl_record.specs.declared.branches.PresentedBody.{PresentedBody}
use Rattle.cl_record.specs.declared.summaries.Summary.{Summary}
use Rattle.cl_record.proofs.Ranges.{bare_is, elsewhere, moves-shown, stay_there}
use Rattle.cl_record.proofs.branches.Presented.shift.Goals as goal

pub join_shifts-self-inside-requires : goal.join_shifts-self-inside-requires
join_shifts-self-inside-requires g c =
    let body = c.self.inside.body.value in
    let fits = subst (λ (s : PresentationAt _). StaysInRange g.L.Leaf.bounds g.L.Leaf.moved_by c.args.by (presentation s.label s.place (trees_of s.inside))) (sym c.self.view_is) c.requires in
    let summary = c.summary.ensures.value ∙ ap (λ (b : PresentedBody _). summary_of g.L.Leaf.bounds (marks_of_all g.L.Leaf.moved_by (trees_of b.inside))) c.deref.ensures in
    let some = ap (λ (s : Summary). is_some s.extents) (sym summary) ∙ (sym c.is_some.ensures ∙ c.if-is_some.true) in
    (moves-shown g.L.Leaf.bounds g.L.Leaf.moved_by g.met.L.Leaf.moves_bounds c.args.by c.self.inside.place body.label (trees_of body.inside) some c.self.invariant.sound fits).shift

pub invariant_of-self : goal.invariant_of-self
invariant_of-self g c =
    let body = c.self.inside.body.value in
    let fits = subst (λ (s : PresentationAt _). StaysInRange g.L.Leaf.bounds g.L.Leaf.moved_by c.args.by (presentation s.label s.place (trees_of s.inside))) (sym c.self.view_is) c.requires in
    let summary = c.summary.ensures.value ∙ ap (λ (b : PresentedBody _). summary_of g.L.Leaf.bounds (marks_of_all g.L.Leaf.moved_by (trees_of b.inside))) c.deref.ensures in
    let some = ap (λ (s : Summary). is_some s.extents) (sym summary) ∙ (sym c.is_some.ensures ∙ c.if-is_some.true) in
    rw c.join_shifts-self-inside.ensures
    (record { sound = (moves-shown g.L.Leaf.bounds g.L.Leaf.moved_by g.met.L.Leaf.moves_bounds c.args.by c.self.inside.place body.label (trees_of body.inside) some c.self.invariant.sound fits).sound })

pub returns-then-is_some : goal.returns-then-is_some
returns-then-is_some g c =
    let body = c.self.inside.body.value in
    let summary = c.summary.ensures.value ∙ ap (λ (b : PresentedBody _). summary_of g.L.Leaf.bounds (marks_of_all g.L.Leaf.moved_by (trees_of b.inside))) c.deref.ensures in
    let some = ap (λ (s : Summary). is_some s.extents) (sym summary) ∙ (sym c.is_some.ensures ∙ c.if-is_some.true) in
    let bare = bare_is g.L.Leaf.bounds g.L.Leaf.moved_by g.met.L.Leaf.moves_bounds (trees_of body.inside) true some in
    let place = c.join_shifts-self-inside.ensures ∙ elsewhere (are_bare (trees_of body.inside)) c.self.inside.place (join_shifts c.self.inside.place c.args.by) bare in
    subst (λ (s : PresentationAt _). ◌≡◌ {A = PresentationAt _} (record { label = body.label; place = c.join_shifts-self-inside.result; inside = body.inside })
    (record { label = s.label; place = if are_bare (trees_of s.inside) then s.place else join_shifts s.place c.args.by; inside = s.inside }))
    c.self.view_is (λ i. record { label = body.label; place = place i; inside = body.inside })

pub returns-else-is_some : goal.returns-else-is_some
returns-else-is_some g c =
    let body = c.self.inside.body.value in
    let summary = c.summary.ensures.value ∙ ap (λ (b : PresentedBody _). summary_of g.L.Leaf.bounds (marks_of_all g.L.Leaf.moved_by (trees_of b.inside))) c.deref.ensures in
    let none = ap (λ (s : Summary). is_some s.extents) (sym summary) ∙ (sym c.is_some.ensures ∙ c.if-is_some.false) in
    let bare = bare_is g.L.Leaf.bounds g.L.Leaf.moved_by g.met.L.Leaf.moves_bounds (trees_of body.inside) false none in
    let place = stay_there (are_bare (trees_of body.inside)) c.self.inside.place (join_shifts c.self.inside.place c.args.by) bare in
    subst (λ (s : PresentationAt _). ◌≡◌ {A = PresentationAt _} s
    (record { label = s.label; place = if are_bare (trees_of s.inside) then s.place else join_shifts s.place c.args.by; inside = s.inside }))
    c.self.view_is (λ i. record { label = body.label; place = place i; inside = body.inside })
