-- The opening of an application.
use Rattle.std.proofs.Common.{◌≡◌, List, Bool, false, not, ap, subst}
use Rattle.cl_eval.specs.Slots.{Slots}
use Rattle.cl_frame.specs.Ground.{Ground}
use Rattle.cl_frame.specs.Panes.{PaneMarks}
use Rattle.cl_frame.specs.Sending.{SendsOn, ShowsPanes, Wire, frame_ops}
use Rattle.cl_opening.specs.Opening.{opening_slots}
use Rattle.cl_outside.specs.Operations.{mended, ops_bytes}
use Rattle.cl_session.specs.Session.{cost_of_panes}
use Rattle.cl_session.specs.Transcript.{RoseIf}
use Rattle.cl_session.specs.World.{opening}
use Rattle.cl_program.specs.Run.{OpensOn, opening_cost, opening_world}

-- the world and the cost of an opening on opening slots
pub opened_at : (g : Ground) (slots : Slots) (failed : Bool) → slots ≡ opening_slots g.app → opening g slots failed ≡ opening_world g failed
opened_at g slots failed e = ap (λ (x : Slots). opening g x failed) e

pub cost_at : (g : Ground) (slots : Slots) → slots ≡ opening_slots g.app → cost_of_panes g slots ≡ opening_cost g
cost_at g slots e = ap (λ (x : Slots). cost_of_panes g x) e

-- what the opening sent to a device that was whole
pub opens_at : (g : Ground) (stale broken : Bool) (panes : List PaneMarks) (a b : Wire) → broken ≡ false → panes ≡ (opening_world g stale).panes
    → RoseIf stale a.faults b.faults → SendsOn (not stale) a b (mended broken (ops_bytes (frame_ops g.app panes)))
    → (stale ≡ false → ShowsPanes g.app panes b) → b.told ≡ a.told → OpensOn g stale a b
opens_at g stale broken panes a b whole same rose sent shows told = record {
  rose = rose;
  sent = subst (λ (ms : List PaneMarks). SendsOn (not stale) a b (ops_bytes (frame_ops g.app ms))) same
      (subst (λ (c : Bool). SendsOn (not stale) a b (mended c (ops_bytes (frame_ops g.app panes)))) whole sent);
  shows = λ fresh. subst (λ (ms : List PaneMarks). ShowsPanes g.app ms b) same (shows fresh);
  told = told;
}
