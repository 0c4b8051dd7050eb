-- A step, by its handling and by what became of the panes.
use Rattle.std.proofs.Common.{◌≡◌, ◌≤◌, ℕ, Bool, true, false, not, Option, List, [], ◌∷◌, ◌++◌, map, refl, sym, ◌∙◌, ap, subst}
use Rattle.std.specs.Prelude.{codes}
use Rattle.cl_application.specs.Panes.{panes_of}
use Rattle.cl_application.specs.declared.applications.App.{App}
use Rattle.cl_dialog.specs.OpenDialog.{OpenDialog}
use Rattle.cl_eval.specs.Outcome.{RisesBy}
use Rattle.cl_eval.specs.Slots.{Slots}
use Rattle.cl_frame.specs.Frames.{Settles, marks_of_frame, reports_of_frame}
use Rattle.cl_frame.specs.Ground.{Ground}
use Rattle.cl_frame.specs.Panes.{PaneMarks}
use Rattle.cl_frame.specs.Sending.{SendsOn, Wire, update_bytes}
use Rattle.cl_frame.specs.States.{StateAt}
use Rattle.cl_frame.specs.Settling.{PaneStep, SpendsPanes, marks_after, met_memory, report_after, settle_panes}
use Rattle.cl_frame.specs.declared.frames.Frame.{Frame}
use Rattle.cl_frame.specs.declared.reports.PaneReport.{PaneReport}
use Rattle.cl_gesture.specs.declared.answers.Gesture.{Gesture}
use Rattle.cl_outside.specs.Device as device
use Rattle.cl_raster.specs.Raster.{Picture}
use Rattle.cl_line.specs.declared.elements.Element.{Element}
use Rattle.cl_redisplay.specs.Screens.{Agree, BreaksAt, PaintedRose, is_fault}
use Rattle.cl_redisplay.specs.declared.screens.Painted.{Painted}
use Rattle.cl_redisplay.specs.declared.screens.Painted.TheVariants as painted
use Rattle.cl_session.specs.Handling.{AreRepliesOf, HandlesTo, after_of, enabled_in, handling_met, world_at}
use Rattle.cl_session.specs.Replies.{lines_of, met_of, own_lines}
use Rattle.cl_session.specs.Session.{StepsTo, world_of}
use Rattle.cl_session.specs.Runs.{Handled}
use Rattle.cl_session.specs.Step.{Spends, gesture_bytes, handled, handled_or_not, next, next_behind, pane_lines, sent_behind, settled_behind, wire_lines, which_after}
use Rattle.cl_session.specs.Totals.{with_gesture}
use Rattle.cl_session.specs.Transcript.{RoseIf, counted}
use Rattle.cl_session.specs.World.{Enabled, World, filling_by, state_in}
use Rattle.cl_session.specs.declared.answers.Replies.{Replies}
use Rattle.cl_session.specs.declared.handling.After.{After}
use Rattle.cl_session.specs.declared.handling.Desk.{Desk}
use Rattle.cl_session.specs.declared.handling.Handling.{Handling}
use Rattle.cl_session.specs.declared.handling.Handling.TheVariants as handling
use Rattle.cl_session.specs.declared.sessions.Session.{Session}

-- a world by its parts
abbrev world_by : Slots → List Element → Enabled → Option OpenDialog → List PaneMarks → Bool → World
world_by slots line enabled dialog panes stale =
    record { slots = slots; line = line; enabled = enabled; dialog = dialog; panes = panes; stale = stale }

-- what panes show on these slots, with what lies on the desk
abbrev pub shown_by : App → Slots → Desk → StateAt
shown_by app slots desk = record { slots = slots; filling = filling_by app desk.dialog }

-- what each pane of a frame met
abbrev mets_of : Frame → List Bool
mets_of f = map met_memory (reports_of_frame f)

-- what a handling leaves: this world on these slots and this desk, and what follows it
pub record Leaves (h : Handled) (slots : Slots) (desk : Desk) (frame : Frame) (follows : After) (lines : List (List ℕ)) : Type 0 where
  pub world : h.world ≡ world_at slots desk frame
  pub after : h.after ≡ follows
  pub replies : h.replies ≡ lines

-- the lines of a handling: its own, or want of memory
abbrev lines_by : Handling → List (List ℕ)
lines_by (handling.Replied replies follows) = replies
lines_by handling.Memory = codes "! memory" ∷ []

leaves : (g : Ground) (w : World) (act : Gesture) (frame : Frame) (h : Handling) (slots_old slots_new : Slots) (desk_old desk_new : Desk)
    → w ≡ world_at slots_old desk_old frame → HandlesTo (handled g w act) frame h slots_old slots_new desk_old desk_new
    → Leaves (handled_or_not g w act (handling_met h)) slots_new desk_new frame (after_of h) (lines_by h)
leaves g w act frame (handling.Replied replies follows) slots_old slots_new desk_old desk_new e h = record {
  world = ap (λ (x : Handled). x.world) h.0;
  after = ap (λ (x : Handled). x.after) h.0;
  replies = ap (λ (x : Handled). x.replies) h.0;
}
leaves g w act frame handling.Memory slots_old slots_new desk_old desk_new e h = record {
  world = e ∙ (ap (λ (s : Slots). world_at s desk_old frame) (sym h.0) ∙ ap (λ (d : Desk). world_at slots_new d frame) (sym h.1));
  after = refl;
  replies = refl;
}

-- what becomes of the panes behind it
steps-same : (g : Ground) (h : Handled) (slots : Slots) (desk : Desk) (frame : Frame) (follows : After) (lines : List (List ℕ)) (mets : List Bool)
    → Leaves h slots desk frame follows lines
    → settled_behind g h mets ≡ settle_panes g (which_after follows) (shown_by g.app slots desk) (panes_of g.app) (marks_of_frame frame) mets
steps-same g h slots desk frame follows lines mets l =
    ap (λ (a : After). settle_panes g (which_after a) (state_in g.app h.world) (panes_of g.app) h.world.panes mets) l.after
    ∙ ap (λ (w : World). settle_panes g (which_after follows) (state_in g.app w) (panes_of g.app) w.panes mets) l.world

world-same : (g : Ground) (h : Handled) (slots : Slots) (desk : Desk) (old new : Frame) (follows : After) (lines : List (List ℕ)) (wire : Bool)
    → Leaves h slots desk old follows lines → Settles g (which_after follows) (shown_by g.app slots desk) old new → new.screen.stale ≡ wire
    → world_at slots desk new ≡ (next_behind g h (settled_behind g h (mets_of new)) wire).world
world-same g h slots desk old new follows lines wire l s e =
    let steps = settle_panes g (which_after follows) (shown_by g.app slots desk) (panes_of g.app) (marks_of_frame old) (mets_of new) in
    ap (λ (ps : List PaneMarks). world_by slots desk.line (enabled_in desk.enabled) desk.dialog ps new.screen.stale) (s.marks ∙ ap (λ (ss : List PaneStep). map marks_after ss) (sym (steps-same g h slots desk old follows lines (mets_of new) l)))
    ∙ (ap (λ (b : Bool). world_by slots desk.line (enabled_in desk.enabled) desk.dialog (map marks_after (settled_behind g h (mets_of new))) b) e
    ∙ ap (λ (w : World). world_by w.slots w.line w.enabled w.dialog (map marks_after (settled_behind g h (mets_of new))) wire) (sym l.world))

memory_of : (h : Handling) (p : Painted) (r : Replies) → AreRepliesOf h p r → r.memory ≡ handling_met h
memory_of (handling.Replied replies follows) p r a = a.1
memory_of handling.Memory p r a = a.1

pub fault_of : (h : Handling) (p : Painted) (r : Replies) → AreRepliesOf h p r → r.wire ≡ is_fault p
fault_of (handling.Replied replies follows) p r a = a.2
fault_of handling.Memory p r a = a.2

own_of : (h : Handling) (p : Painted) (r : Replies) → AreRepliesOf h p r → own_lines (handling_met h) r.own ≡ lines_by h
own_of (handling.Replied replies follows) p r a = a.0
own_of handling.Memory p r a = refl

none_of : (h : Handling) (p : Painted) (r : Replies) → AreRepliesOf h p r → r.memory ≡ true → r.own ≡ []
none_of (handling.Replied replies follows) p r a e = let no : false ≡ true = sym a.1 ∙ e in cc
none_of handling.Memory p r a e = a.0

-- no count falls
pub never_less : (p : Painted) (x y : ℕ) → PaintedRose x y p → x ≤ y
never_less painted.Done x y r = r
never_less painted.DeviceFault x y r = r.0

rose_if : (p : Painted) (x y : ℕ) → PaintedRose x y p → RoseIf (is_fault p) x y
rose_if painted.Done x y h = h
rose_if painted.DeviceFault x y h = h

module _ (g : Ground) (old new : Session) (slots_old slots_new : Slots) (act : Gesture) (h : Handling) (p : Painted) (r : Replies)
    (handles : HandlesTo (handled g (world_of old slots_old) act) old.frame h slots_old slots_new old.desk new.desk)
    (settles : Settles g (which_after (after_of h)) (shown_by g.app slots_new new.desk) old.frame new.frame)
    (stale : new.frame.screen.stale ≡ is_fault p) (are : AreRepliesOf h p r) where
  left : Leaves (handled_or_not g (world_of old slots_old) act (handling_met h)) slots_new new.desk old.frame (after_of h) (lines_by h)
  left = leaves g (world_of old slots_old) act old.frame h slots_old slots_new old.desk new.desk refl handles

  memory : r.memory ≡ handling_met h
  memory = memory_of h p r are

  pub steps-to : new.totals ≡ with_gesture old.totals r.memory (reports_of_frame new.frame) → StepsTo g old new slots_old slots_new act r
  steps-to counts =
      let w = world_of old slots_old in
      let hd = handled_or_not g w act (handling_met h) in
      record {
        world = subst (λ (b : Bool). world_of new slots_new ≡ (next_behind g (handled_or_not g w act b) (settled_behind g (handled_or_not g w act b) (mets_of new.frame)) r.wire).world)
            (sym memory) (world-same g hd slots_new new.desk old.frame new.frame (after_of h) (lines_by h) r.wire left settles (stale ∙ sym (fault_of h p r are)));
        own = subst (λ (b : Bool). own_lines b r.own ≡ (handled_or_not g w act b).replies) (sym memory) (own_of h p r are ∙ sym left.replies);
        none_of_own = none_of h p r are;
        reports = subst (λ (b : Bool). reports_of_frame new.frame ≡ map report_after (settled_behind g (handled_or_not g w act b) (mets_of new.frame)))
            (sym memory) (settles.reports ∙ ap (λ (ss : List PaneStep). map report_after ss) (sym (steps-same g hd slots_new new.desk old.frame (after_of h) (lines_by h) (mets_of new.frame) left)));
        totals = counts;
      }

  pub spends-to : (from at to : ℕ) → RisesBy (handling_met h) from at (handled g (world_of old slots_old) act).cost
      → SpendsPanes (settle_panes g (which_after (after_of h)) (shown_by g.app slots_new new.desk) (panes_of g.app) (marks_of_frame old.frame) (mets_of new.frame)) at to
      → Spends g (world_of old slots_old) act (met_of new.frame r) from to
  spends-to from at to rises spends =
      let w = world_of old slots_old in
      let hd = handled_or_not g w act (handling_met h) in
      record {
        handled_at = at;
        handling = subst (λ (b : Bool). RisesBy b from at (handled g w act).cost) (sym memory) rises;
        settling = subst (λ (b : Bool). SpendsPanes (settled_behind g (handled_or_not g w act b) (mets_of new.frame)) at to) (sym memory)
            (subst (λ (ss : List PaneStep). SpendsPanes ss at to) (sym (steps-same g hd slots_new new.desk old.frame (after_of h) (lines_by h) (mets_of new.frame) left)) spends);
      }

  pub wire-to : (x y : ℕ) → PaintedRose x y p → RoseIf r.wire x y
  wire-to x y rose = subst (λ (b : Bool). RoseIf b x y) (sym (fault_of h p r are)) (rose_if p x y rose)

  -- what was sent, and what the wire shows
  pub sent-to : (a b : Wire) (broken : Bool) → broken ≡ old.frame.screen.stale
      → SendsOn (not (is_fault p)) a b (update_bytes g (which_after (after_of h)) (shown_by g.app slots_new new.desk) old.frame.screen.stale broken (marks_of_frame old.frame) (marks_of_frame new.frame))
      → SendsOn (not r.wire) a b (gesture_bytes g (world_of old slots_old) act (met_of new.frame r))
  sent-to a b broken e sends =
      let w = world_of old slots_old in
      let hd = handled_or_not g w act (handling_met h) in
      let steps = steps-same g hd slots_new new.desk old.frame (after_of h) (lines_by h) (mets_of new.frame) left in
      let marks : map marks_after (settled_behind g hd (mets_of new.frame)) ≡ marks_of_frame new.frame =
      ap (λ (ss : List PaneStep). map marks_after ss) steps ∙ sym settles.marks in
      let bytes : sent_behind g hd (settled_behind g hd (mets_of new.frame))
      ≡ update_bytes g (which_after (after_of h)) (shown_by g.app slots_new new.desk) old.frame.screen.stale broken (marks_of_frame old.frame) (marks_of_frame new.frame) =
      ap (λ (ms : List PaneMarks). update_bytes g (which_after hd.after) (state_in g.app hd.world) hd.world.stale hd.world.stale hd.world.panes ms) marks
      ∙ (ap (λ (x : After). update_bytes g (which_after x) (state_in g.app hd.world) hd.world.stale hd.world.stale hd.world.panes (marks_of_frame new.frame)) left.after
      ∙ (ap (λ (x : World). update_bytes g (which_after (after_of h)) (state_in g.app x) x.stale x.stale x.panes (marks_of_frame new.frame)) left.world
      ∙ ap (λ (b : Bool). update_bytes g (which_after (after_of h)) (shown_by g.app slots_new new.desk) old.frame.screen.stale b (marks_of_frame old.frame) (marks_of_frame new.frame)) (sym e))) in
      subst (λ (m : Bool). SendsOn (not r.wire) a b (sent_behind g (handled_or_not g w act m) (settled_behind g (handled_or_not g w act m) (mets_of new.frame)))) (sym memory)
      (subst (λ (f : Bool). SendsOn (not f) a b (sent_behind g hd (settled_behind g hd (mets_of new.frame)))) (sym (fault_of h p r are))
      (subst (λ (bs : List ℕ). SendsOn (not (is_fault p)) a b bs) (sym bytes) sends))

-- a device is broken exactly where the screen is stale
pub broken_is : (stale broken cleared : Bool) (raster : Picture) (shown : Option device.Picture) → Agree stale raster broken cleared shown
    → (stale ≡ true → broken ≡ true) → broken ≡ stale
broken_is true broken cleared raster shown agree breaks = breaks refl
broken_is false broken cleared raster shown agree breaks = agree.whole

pub broken_after : (p : Painted) (broken : Bool) → is_fault p ≡ true → BreaksAt p broken → broken ≡ true
broken_after painted.Done broken e breaks = cc
broken_after painted.DeviceFault broken e breaks = breaks

-- the replies are the lines of the step
pub lines-said : (g : Ground) (old new : Session) (slots_old slots_new : Slots) (act : Gesture) (r : Replies) → StepsTo g old new slots_old slots_new act r
    → lines_of g.app new.frame r ≡ (next g (world_of old slots_old) act (met_of new.frame r)).lines
lines-said g old new slots_old slots_new act r s =
    ap (λ (o : List (List ℕ)). o ++ (pane_lines (panes_of g.app) (reports_of_frame new.frame) ++ wire_lines r.wire)) s.own
    ∙ ap (λ (rs : List PaneReport). (handled_or_not g (world_of old slots_old) act r.memory).replies ++ (pane_lines (panes_of g.app) rs ++ wire_lines r.wire)) s.reports

-- what is told of the step is counted
pub counted-to : (g : Ground) (old new : Session) (slots_old slots_new : Slots) (act : Gesture) (r : Replies) → StepsTo g old new slots_old slots_new act r
    → new.totals ≡ counted g (world_of old slots_old) act (met_of new.frame r) old.totals
counted-to g old new slots_old slots_new act r s =
    s.totals ∙ ap (λ (rs : List PaneReport). with_gesture old.totals r.memory rs) s.reports
