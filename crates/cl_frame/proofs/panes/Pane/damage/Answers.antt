use Rattle.std.proofs.Common.{◌≡◌, ◌∙◌, List, Option, Some, ap, sym}
use Rattle.std.specs.Prelude.{◌&&◌}
use Rattle.cl_medium.specs.Items.{Item, move_item}
use Rattle.cl_record.specs.Marks.{history_marks}
use Rattle.cl_record.specs.Trees.{Tree}
use Rattle.cl_region.specs.Places.{holds, one_holds}
use Rattle.cl_redisplay.specs.Paint.{own_rect}
use Rattle.cl_untouched.specs.Among.{touched_between}
use Rattle.cl_untouched.proofs.ToldKeeps.{touched-told}
use Rattle.cl_frame.specs.Damages.{touched_with}
use Rattle.cl_frame.specs.Panes.{marks_of, marks_of_pane}
use Rattle.cl_frame.proofs.panes.Pane.damage.Goals as goal

pub returns-clause-damage : goal.returns-clause-damage
returns-clause-damage c = λ x y.
    let o = c.in-Some.before in
    let n = c.in-Some-history.after in
    let ks = c.args.keeps.now in
    let before : marks_of_pane c.args.self.now ≡ Some (history_marks move_item o) = ap (λ (h : Option (List (Tree Item))). marks_of h) c.in-Some.is in
    let after : marks_of_pane c.args.new.now ≡ Some (history_marks move_item n) = ap (λ (h : Option (List (Tree Item))). marks_of h) c.in-Some-history.is in
    let rects : c.deref.result.now ≡ touched_between (history_marks move_item o) (history_marks move_item n) ks =
    c.deref.ensures.value ∙ (c.in_ok-rects.ensures ∙ sym (touched-told o n ks)) in
    let own : c.own_rect.result ≡ own_rect c.args.new.now.area = c.own_rect.ensures in
    c.in_ok-of.ensures.places x y
    ∙ ((λ i. one_holds (rects i) x y && holds (own i) x y)
    ∙ sym (λ i. touched_with (before i) (after i) ks x y && holds (own_rect c.args.new.now.area) x y))
