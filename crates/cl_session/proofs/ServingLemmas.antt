-- Turns of serving a session, one after another.
use Rattle.std.proofs.Common.{◌≡◌, ℕ, ◌+◌, ◌<◌, ◌≤◌, suc, Bool, true, false, Option, List, [], ◌∷◌, ◌++◌, length, refl, ◌∙◌, ap, arith, append_assoc}
use Rattle.std.proofs.Common.{append-nil, add-zero, length-append, Some, None}
use Rattle.std.proofs.KnownBytes.{Appends-nil}
use Rattle.std.specs.Io.KnownBytes.{Appends}
use Rattle.cl_frame.specs.Ground.{Ground}
use Rattle.cl_gesture.specs.Lines.{Piece, ended}
use Rattle.cl_gesture.specs.Gesture.{LineKind, kind_of}
use Rattle.cl_gesture.specs.Next.{Progress, AreIdle, ReadsTo, ReadsToEnd, ReadsToFault, ReadsToLimit, stop_at}
use Rattle.cl_outside.specs.Writing.{Wrote, Says}
use Rattle.cl_session.specs.World.{World}
use Rattle.cl_session.specs.Transcript.{IsTranscript, Meters, Spent, SpentOfPiece, Went, lost, said_of, said_of_piece, world_after, world_after_piece}
use Rattle.cl_session.specs.Turns.{Turns, end_unless}
use Rattle.cl_session.specs.declared.serving.End.{End}
use Rattle.cl_session.specs.declared.serving.End.TheVariants as end
use Rattle.cl_session.specs.Serving.{CutOff, Faulted, GoesOn, Served, ServesTo, Stand}
use Rattle.cl_session.proofs.StreamLemmas as streams

module _ (g : Ground) where
  -- idle pieces are answered by nothing, and nothing is spent on them
  pub transcript-idles : (w to : World) (before : ℕ) (idles more : List Piece) (tail : List ℕ) (old last : Meters) → AreIdle idles
      → IsTranscript g w to (before + length idles) more tail old last → IsTranscript g w to before (idles ++ more) tail old last
  transcript-idles w to before [] more tail old last i h = rw add-zero at h
  transcript-idles w to before (p ∷ ps) more tail old last i h =
      let one : before + suc (length ps) ≡ before + 1 + length ps = omega arith in
      let rest = transcript-idles w to (before + 1) ps more tail old last i.1 (rw one at h) in
      rw i.0 at (streams.transcript-piece (said_of_piece g) (world_after_piece g) (SpentOfPiece g) w to before p lost (ps ++ more) tail old old last
      (rw i.0 refl) (rw i.0 rest))

  -- a piece of a kind is answered
  transcript-kind : (w to : World) (before : ℕ) (kind : LineKind) (went : Went) (p : Piece) (more : List Piece) (tail : List ℕ)
      (old between last : Meters) → kind_of p ≡ kind → Spent g w kind went old between
      → IsTranscript g (world_after g w kind went) to (before + 1) more tail between last
      → IsTranscript g w to before (p ∷ more) (said_of g w before kind went ++ tail) old last
  transcript-kind w to before kind went p more tail old between last k s h =
      rw k at (streams.transcript-piece (said_of_piece g) (world_after_piece g) (SpentOfPiece g) w to before p went more tail old between last (rw k s) (rw k h))

  -- what is said of a piece behind idle ones
  goes-on : (w : World) (kind : LineKind) (went : Went) (old new : Progress) (r : ReadsTo kind old new) (m_old m_new : Meters) → Spent g w kind went m_old m_new
      → (more : List Piece) (tail : List ℕ) (last : Meters) (to : World) → IsTranscript g (world_after g w kind went) to new.count more tail m_new last
      → IsTranscript g w to old.count ((r.idles ++ r.piece ∷ []) ++ more) (said_of g w (old.count + length r.idles) kind went ++ tail) m_old last
  goes-on w kind went old new r m_old m_new s more tail last to h =
      let count : new.count ≡ old.count + length r.idles + 1 = omega (arith, r.passes.counted, length-append r.idles (r.piece ∷ [])) in
      let at = rw count at h in
      rw (append_assoc r.idles (r.piece ∷ []) more)
      (transcript-idles w to old.count r.idles (r.piece ∷ more) (said_of g w (old.count + length r.idles) kind went ++ tail) m_old last r.idle
      (transcript-kind w to (old.count + length r.idles) kind went r.piece more tail m_old m_new last r.says s at))

  idles-alone : (w : World) (before : ℕ) (idles : List Piece) (m : Meters) → AreIdle idles → IsTranscript g w w before idles [] m m
  idles-alone w before idles m i =
      rw (append-nil idles) at (transcript-idles w w before idles [] [] m m i
      (streams.transcript-nothing (said_of_piece g) (world_after_piece g) (SpentOfPiece g) w (before + length idles) m))

  -- one turn
  Going-turn : (kind : LineKind) (went : Went) (a b : Stand World Meters) (r : ReadsTo kind a.progress b.progress)
      → Spent g a.world kind went a.meters b.meters → b.world ≡ world_after g a.world kind went
      → Appends a.taken b.taken (said_of g a.world (a.progress.count + length r.idles) kind went) → GoesOn g a b
  Going-turn kind went a b r s e appended = record {
    given = r.idles ++ r.piece ∷ [];
    finished = r.finished;
    stopped = r.stopped;
    passes = r.passes;
    written = said_of g a.world (a.progress.count + length r.idles) kind went;
    appended = appended;
    goes_on = rw e (goes-on a.world kind went a.progress b.progress r a.meters b.meters s);
  }

  -- a turn whose answer was cut off
  CutOff-turn : (kind : LineKind) (went : Went) (a b : Stand World Meters) (r : ReadsTo kind a.progress b.progress) (rest : List ℕ) → 0 < length rest
      → Spent g a.world kind went a.meters b.meters → b.world ≡ world_after g a.world kind went
      → Wrote a.taken b.taken (said_of g a.world (a.progress.count + length r.idles) kind went) rest
      → CutOff (said_of_piece g) (world_after_piece g) (SpentOfPiece g) a b
  CutOff-turn kind went a b r rest some s e v =
      let last_world = world_after g a.world kind went in
      let of_piece = transcript-kind a.world last_world (a.progress.count + length r.idles) kind went r.piece [] [] a.meters b.meters b.meters r.says s
      (streams.transcript-nothing (said_of_piece g) (world_after_piece g) (SpentOfPiece g) last_world (a.progress.count + length r.idles + 1) b.meters) in
      let answered = rw (append-nil (said_of g a.world (a.progress.count + length r.idles) kind went)) at of_piece in
      record {
        earlier = r.idles;
        last = r.piece;
        finished = r.finished;
        passes = r.passes;
        between = a.world;
        stood = a.meters;
        whole = [];
        transcript = idles-alone a.world a.progress.count r.idles a.meters r.idle;
        begun = v.sent;
        lost = rest;
        some = some;
        answer = rw e (rw (← v.same) answered);
        appended = v.appended;
      }

  counted-up : (kind : LineKind) (old new : Progress) (r : ReadsTo kind old new) → old.count < new.count
  counted-up kind old new r = omega (arith, r.passes.counted, length-append r.idles (r.piece ∷ []))

  -- a turn, by what was said of its piece and what was spent on it
  pub turn-said : (done : Bool) (kind : LineKind) (went : Went) (a b : Stand World Meters) (r : ReadsTo kind a.progress b.progress) (bytes : List ℕ)
      → bytes ≡ said_of g a.world (a.progress.count + length r.idles) kind went → b.world ≡ world_after g a.world kind went
      → Spent g a.world kind went a.meters b.meters
      → Says done a.taken b.taken bytes a.out_faults b.out_faults → Turns g a b (end_unless done)
  turn-said true kind went a b r bytes e f p s = (Going-turn kind went a b r p f (rw (← e) s), counted-up kind a.progress b.progress r)
  turn-said false kind went a b r bytes e f p s = (CutOff-turn kind went a b r s.lost s.some p f (rw (← e) s.wrote), s.rose)

  -- the source's end, a fault of it, and a byte too many: idle pieces alone were read
  module _ (w : World) (m : Meters) (old new : Progress) (taken : Option (List ℕ)) (x y : ℕ) where
    pub Served-end : ReadsToEnd old new → Served (said_of_piece g) (world_after_piece g) (SpentOfPiece g)
        (record { world = w; meters = m; progress = old; taken = taken; out_faults = x }) (record { world = w; meters = m; progress = new; taken = taken; out_faults = y }) true
    Served-end r = record {
      given = r.idles;
      passes = r.passes;
      written = [];
      appended = Appends-nil taken;
      transcript = idles-alone w old.count r.idles m r.idle;
    }

    pub Served-limit : ReadsToLimit old new → Served (said_of_piece g) (world_after_piece g) (SpentOfPiece g)
        (record { world = w; meters = m; progress = old; taken = taken; out_faults = x }) (record { world = w; meters = m; progress = new; taken = taken; out_faults = y }) false
    Served-limit r = record {
      given = r.idles;
      passes = r.passes;
      written = [];
      appended = Appends-nil taken;
      transcript = idles-alone w old.count r.idles m r.idle;
    }

    pub Faulted-fault : ReadsToFault old new → Faulted (said_of_piece g) (world_after_piece g) (SpentOfPiece g)
        (record { world = w; meters = m; progress = old; taken = taken; out_faults = x }) (record { world = w; meters = m; progress = new; taken = taken; out_faults = y })
    Faulted-fault r = record {
      read = r.read;
      reads = r.reads;
      none = r.none;
      counted = r.counted;
      rose = r.rose;
      written = [];
      appended = Appends-nil taken;
      transcript = idles-alone w old.count (ended r.read) m r.idle;
    }

  -- a turn behind turns
  going-by : (a b c : Stand World Meters) (x : GoesOn g a b) (f : Bool) → x.finished ≡ f
      → (b.progress.stop ≡ stop_at false → Turns g b c None) → (b.progress.stop ≡ stop_at true → None ≡ Some end.Done)
      → GoesOn g a c × (b.progress.count < c.progress.count)
  going-by a b c x false e turns finish =
      let t = turns (x.stopped ∙ ap stop_at e) in
      (streams.Going-trans (said_of_piece g) (world_after_piece g) (SpentOfPiece g) a b c x e t.0, t.1)
  going-by a b c x true e turns finish =
      let not : None ≡ Some end.Done = finish (x.stopped ∙ ap stop_at e) in cc

  pub Going-more : (a b c : Stand World Meters) (x : GoesOn g a b)
      → (b.progress.stop ≡ stop_at false → Turns g b c None) → (b.progress.stop ≡ stop_at true → None ≡ Some end.Done)
      → GoesOn g a c × (b.progress.count < c.progress.count)
  Going-more a b c x turns finish = going-by a b c x x.finished refl turns finish

  -- the end behind turns
  serves-by : (a b c : Stand World Meters) (x : GoesOn g a b) (f : Bool) → x.finished ≡ f → a.progress.faults ≤ b.progress.faults → a.out_faults ≤ b.out_faults
      → (e : End) → (b.progress.stop ≡ stop_at false → ServesTo g b c e) → (b.progress.stop ≡ stop_at true → (e ≡ end.Done) × (c ≡ b)) → ServesTo g a c e
  serves-by a b c x false s le lo e turns finish =
      streams.Serves-after (said_of_piece g) (world_after_piece g) (SpentOfPiece g) a b c x s le lo e (turns (x.stopped ∙ ap stop_at s))
  serves-by a b c x true s le lo e turns finish =
      let done = finish (x.stopped ∙ ap stop_at s) in
      rw (done.0, done.1) (streams.Served-finished (said_of_piece g) (world_after_piece g) (SpentOfPiece g) a b x s)

  pub ServesTo-end : (a b c : Stand World Meters) (x : GoesOn g a b) → a.progress.faults ≤ b.progress.faults → a.out_faults ≤ b.out_faults
      → (e : End) → (b.progress.stop ≡ stop_at false → ServesTo g b c e) → (b.progress.stop ≡ stop_at true → (e ≡ end.Done) × (c ≡ b)) → ServesTo g a c e
  ServesTo-end a b c x le lo e turns finish = serves-by a b c x x.finished refl le lo e turns finish
