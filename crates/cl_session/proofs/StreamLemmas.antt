-- Serving of any machine over a stream: turns, one after another.
use Rattle.std.proofs.Common.{◌≡◌, ℕ, ◌+◌, ◌≤◌, Bool, true, false, List, [], ◌∷◌, ◌++◌, length, refl, sym, ◌∙◌, ap, arith, append_assoc, append-nil, add-zero, length-append}
use Rattle.std.proofs.KnownBytes.{Appends-nil, Appends-trans, Consumes-nil}
use Rattle.cl_gesture.specs.Lines.{Piece, Reads, ended}
use Rattle.cl_gesture.specs.Next.{Progress, Passes, stop_at}
use Rattle.cl_gesture.proofs.Cutting.{Lines-more, Reads-trans, ended-more}
use Rattle.cl_session.specs.Serving as serving
use Rattle.cl_session.specs.Serving.{Stand}
use Rattle.cl_session.specs.Streams as streams
use Rattle.cl_session.specs.declared.serving.End.{End}
use Rattle.cl_session.specs.declared.serving.End.TheVariants as end

-- pieces, and then pieces
passes-more : (a b c : Progress) (f : Bool) (ps qs : List Piece) → Passes a b false ps → Passes b c f qs → Passes a c f (ps ++ qs)
passes-more a b c f ps qs v w = record {
  lines = Lines-more a.left b.left c.left a.ahead b.ahead c.ahead f ps qs v.lines w.lines;
  counted = omega (arith, v.counted, w.counted, length-append ps qs);
}

open_passes : (a b : Progress) (f : Bool) (ps : List Piece) → f ≡ false → Passes a b f ps → Passes a b false ps
open_passes a b f ps e p = rw e at p

nothing-read : (p : Progress) → Reads p.left p.left p.ahead p.ahead []
nothing-read p = record { handed = []; consumed = Consumes-nil p.left; same = append-nil p.ahead }

nothing-passes : (p : Progress) → Passes p p false []
nothing-passes p = record {
  lines = record { read = []; reads = nothing-read p; cut = (refl, refl) };
  counted = sym (add-zero p.count);
}

module _ {World Choice Meters : Type 0} (said : World → ℕ → Piece → Choice → List ℕ) (after : World → Piece → Choice → World)
    (Spends : World → Piece → Choice → (old new : Meters) → Type 0) where
  abbrev IsTranscript : (from to : World) → ℕ → List Piece → List ℕ → (old new : Meters) → Type 0
  IsTranscript from to before ps bytes old new = streams.IsTranscript said after Spends from to before ps bytes old new

  abbrev Going : (old new : Stand World Meters) → Type 0
  Going old new = serving.Going said after Spends old new

  -- no piece
  pub transcript-nothing : (w : World) (before : ℕ) (m : Meters) → IsTranscript w w before [] [] m m
  transcript-nothing w before m = record { choices = []; spends = refl; says = refl; ends = refl }

  -- a piece is answered, and then others
  pub transcript-piece : (w to : World) (before : ℕ) (p : Piece) (c : Choice) (more : List Piece) (tail : List ℕ) (old between last : Meters)
      → Spends w p c old between → IsTranscript (after w p c) to (before + 1) more tail between last
      → IsTranscript w to before (p ∷ more) (said w before p c ++ tail) old last
  transcript-piece w to before p c more tail old between last s h = record {
    choices = c ∷ h.choices;
    spends = (between, s, h.spends);
    says = ap (λ (t : List ℕ). said w before p c ++ t) h.says;
    ends = h.ends;
  }

  -- nothing yet
  pub Going-nothing : (a : Stand World Meters) → a.progress.stop ≡ stop_at false → Going a a
  Going-nothing a s = record {
    given = [];
    finished = false;
    stopped = s;
    passes = nothing-passes a.progress;
    written = [];
    appended = Appends-nil a.taken;
    goes_on = λ more tail last to h. h;
  }

  module _ (a b c : Stand World Meters) (g : serving.Going said after Spends a b) (unended : g.finished ≡ false) where
    -- turns behind turns
    pub Going-trans : Going b c → Going a c
    Going-trans h = record {
      given = g.given ++ h.given;
      finished = h.finished;
      stopped = h.stopped;
      passes = passes-more a.progress b.progress c.progress h.finished g.given h.given (open_passes a.progress b.progress g.finished g.given unended g.passes) h.passes;
      written = g.written ++ h.written;
      appended = Appends-trans a.taken b.taken c.taken g.written h.written g.appended h.appended;
      goes_on = λ more tail last to t. rw (append_assoc g.given h.given more, append_assoc g.written h.written tail)
          (g.goes_on (h.given ++ more) (h.written ++ tail) last to (h.goes_on more tail last to t));
    }

    pub Served-after : (f : Bool) → serving.Served said after Spends b c f → serving.Served said after Spends a c f
    Served-after f s = record {
      given = g.given ++ s.given;
      passes = passes-more a.progress b.progress c.progress f g.given s.given (open_passes a.progress b.progress g.finished g.given unended g.passes) s.passes;
      written = g.written ++ s.written;
      appended = Appends-trans a.taken b.taken c.taken g.written s.written g.appended s.appended;
      transcript = g.goes_on s.given s.written c.meters c.world s.transcript;
    }

    pub CutOff-after : serving.CutOff said after Spends b c → serving.CutOff said after Spends a c
    CutOff-after s =
        let count : b.progress.count + length s.earlier ≡ a.progress.count + length (g.given ++ s.earlier) = omega (arith, g.passes.counted, length-append g.given s.earlier) in
        let passed = passes-more a.progress b.progress c.progress s.finished g.given (s.earlier ++ s.last ∷ []) (open_passes a.progress b.progress g.finished g.given unended g.passes) s.passes in
        let taken = Appends-trans a.taken b.taken c.taken g.written (s.whole ++ s.begun) g.appended s.appended in
        record {
          earlier = g.given ++ s.earlier;
          last = s.last;
          finished = s.finished;
          passes = rw (append_assoc g.given s.earlier (s.last ∷ [])) passed;
          between = s.between;
          stood = s.stood;
          whole = g.written ++ s.whole;
          transcript = g.goes_on s.earlier s.whole s.stood s.between s.transcript;
          begun = s.begun;
          lost = s.lost;
          some = s.some;
          answer = rw count at s.answer;
          appended = rw (append_assoc g.written s.whole s.begun) taken;
        }

    pub Faulted-after : a.progress.faults ≤ b.progress.faults → serving.Faulted said after Spends b c → serving.Faulted said after Spends a c
    Faulted-after le s =
        let before = open_passes a.progress b.progress g.finished g.given unended g.passes in
        let pieces : ended (before.lines.read ++ s.read) ≡ g.given ++ ended s.read =
        ended-more before.lines.read s.read before.lines.cut.1 ∙ ap (λ ps. ps ++ ended s.read) before.lines.cut.0 in
        record {
          read = before.lines.read ++ s.read;
          reads = Reads-trans a.progress.left b.progress.left c.progress.left a.progress.ahead b.progress.ahead c.progress.ahead before.lines.read s.read before.lines.reads s.reads;
          none = s.none;
          counted = omega (arith, g.passes.counted, s.counted, ap length pieces, length-append g.given (ended s.read));
          rose = omega (arith, le, s.rose);
          written = g.written ++ s.written;
          appended = Appends-trans a.taken b.taken c.taken g.written s.written g.appended s.appended;
          transcript = rw pieces (g.goes_on (ended s.read) s.written c.meters c.world s.transcript);
        }

    pub Serves-after : a.progress.faults ≤ b.progress.faults → a.out_faults ≤ b.out_faults → (e : End)
        → serving.Serves said after Spends b c e → serving.Serves said after Spends a c e
    Serves-after le lo end.Done h = Served-after true h
    Serves-after le lo end.ReadFault h = Faulted-after le h
    Serves-after le lo end.TooMany h = (Served-after false h.0, h.1, h.2)
    Serves-after le lo end.OutputFault h = (CutOff-after h.0, omega (arith, lo, h.1))

  -- a stream whose last line was answered is served
  pub Served-finished : (a b : Stand World Meters) (g : serving.Going said after Spends a b) → g.finished ≡ true → serving.Served said after Spends a b true
  Served-finished a b g e = record {
    given = g.given;
    passes = rw e at g.passes;
    written = g.written;
    appended = g.appended;
    transcript = rw (append-nil g.given, append-nil g.written) at (g.goes_on [] [] b.meters b.world (transcript-nothing b.world b.progress.count b.meters));
  }
