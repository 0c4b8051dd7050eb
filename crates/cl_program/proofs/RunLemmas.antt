-- How serving ended, as what a run comes to.
use Rattle.std.proofs.Common.{◌≡◌, ◌<◌, ◌≤◌, ℕ, ◌+◌, List, [], ◌++◌, length, sym, ◌∙◌, ap, arith, append-nil, Option, Bool, true, false, inl, inr, ◌∷◌}
use Rattle.std.specs.Io.KnownBytes.{Consumes}
use Rattle.cl_outside.specs.Causes.{Rose}
use Rattle.cl_gesture.specs.Lines.{Piece, Reads, AreCut, ended, pieces}
use Rattle.cl_gesture.specs.Next.{Progress, most_lines}
use Rattle.cl_frame.specs.Ground.{Ground}
use Rattle.cl_frame.specs.Sending.{Wire}
use Rattle.cl_session.specs.World.{World}
use Rattle.cl_session.specs.Totals.{no_totals}
use Rattle.cl_session.specs.declared.totals.Totals.{Totals}
use Rattle.cl_session.specs.Transcript.{IsTranscript, Meters, SpentOfPiece, meters, said_of_piece, world_after_piece}
use Rattle.cl_session.specs.Serving.{Served, Faulted, CutOff, ServesTo, Stand, stand}
use Rattle.cl_session.specs.declared.serving.End.{End}
use Rattle.cl_session.specs.declared.serving.End.TheVariants as end
use Rattle.cl_program.specs.Run.{EndsAs, ReadToEnd, ReadToFault, ReadToLimit, WrittenToFault, AreFirst, IsTranscriptOf, IsTranscriptTo, OpensOn, opening_cost, opening_world}
use Rattle.cl_program.specs.Surroundings.{streams}

-- what a reader at the first line has read, with what is ahead of it
read_so_far : (old new : Option (List ℕ)) (ahead_old ahead_new read : List ℕ) → ahead_old ≡ [] → Reads old new ahead_old ahead_new read
    → Consumes old new (read ++ ahead_new)
read_so_far old new ahead_old ahead_new read none r =
    let same : r.handed ≡ read ++ ahead_new = ap (λ xs. xs ++ r.handed) (sym none) ∙ r.same in
    rw same at r.consumed

-- nothing is ahead of it
read_all : (old new : Option (List ℕ)) (ahead_old ahead_new read : List ℕ) → ahead_old ≡ [] → ahead_new ≡ [] → Reads old new ahead_old ahead_new read
    → Consumes old new read
read_all old new ahead_old ahead_new read none ends r =
    let same : read ++ ahead_new ≡ read = ap (λ xs. read ++ xs) ends ∙ append-nil read in
    rw same at (read_so_far old new ahead_old ahead_new read none r)

first_of_cut : (finished : Bool) (left : Option (List ℕ)) (ahead read : List ℕ) (ps : List Piece) → AreCut finished left ahead read ps → AreFirst left read ahead ps
first_of_cut false left ahead read ps c = inl (sym c.0, c.1)
first_of_cut true left ahead read ps c = inr (sym c.0, c.2, c.1)

-- a transcript from a world that is the opening, where the ledger had risen by what the opening costs
from_opening : (g : Ground) (failed : Bool) (w to : World) (count : ℕ) (ps : List Piece) (bytes : List ℕ) (h i : ℕ) (begun opened : Wire) (told : Totals) (last : Meters)
    → OpensOn g failed begun opened → w ≡ opening_world g failed → i ≡ h + opening_cost g → told ≡ no_totals → count ≡ 0
    → IsTranscript g w to count ps bytes (meters i opened told) last → IsTranscriptTo g to ps bytes h begun last
from_opening g failed w to count ps bytes h i begun opened told last opens e o n c t =
    record { failed = failed; opened = opened; opens = opens; transcript = rw (e, o, n, c) at t }

-- the same from any world on
of_run : (g : Ground) (w to : World) (count lines : ℕ) (ps : List Piece) (bytes : List ℕ) (i j : Meters) → count ≡ lines
    → IsTranscript g w to count ps bytes i j → IsTranscript g w to lines ps bytes i j
of_run g w to count lines ps bytes i j c t = rw c at t

module _ (g : Ground) (failed : Bool) (w to : World) (old new : Progress) (taken_old taken_new : Option (List ℕ)) (x y h i j : ℕ) (begun opened last : Wire) (told totals : Totals)
    (opens : OpensOn g failed begun opened) (is : w ≡ opening_world g failed) (paid : i ≡ h + opening_cost g) (untold : told ≡ no_totals) (none : old.ahead ≡ []) (zero : old.count ≡ 0)
    (most : new.count ≤ most_lines) where
  abbrev pub from : Stand World Meters
  from = stand w (meters i opened told) old taken_old x

  abbrev pub behind : Stand World Meters
  behind = stand to (meters j last totals) new taken_new y

  transcript_of : (ps : List Piece) (bytes : List ℕ) → IsTranscript g w to old.count ps bytes (meters i opened told) (meters j last totals)
      → IsTranscriptOf g ps bytes h j begun last totals
  transcript_of ps bytes t =
      record { to = to; transcript = from_opening g failed w to old.count ps bytes h i begun opened told (meters j last totals) opens is paid untold zero t }

  to_end : Served (said_of_piece g) (world_after_piece g) (SpentOfPiece g) from behind true
      → ReadToEnd g (streams old.left old.faults taken_old x h) (streams new.left new.faults taken_new y j) begun last totals
  to_end s =
      let lines = s.passes.lines in
      let cut : AreCut true new.left new.ahead lines.read s.given = lines.cut in
      let few_given : length (pieces lines.read) ≤ 1000000 = omega (arith, s.passes.counted, zero, most, ap length cut.0) in
      record {
        read = lines.read;
        consumed = read_all old.left new.left old.ahead new.ahead lines.read none cut.2 lines.reads;
        at_end = cut.1;
        few = few_given;
        written = s.written;
        appended = s.appended;
        transcript = rw (sym cut.0) at (transcript_of s.given s.written s.transcript);
      }

  to_fault : Faulted (said_of_piece g) (world_after_piece g) (SpentOfPiece g) from behind
      → ReadToFault g (streams old.left old.faults taken_old x h) (streams new.left new.faults taken_new y j) begun last totals
  to_fault s = record {
    read = s.read;
    consumed = read_all old.left new.left old.ahead new.ahead s.read none s.none s.reads;
    few = omega (arith, s.counted, zero, most);
    rose = s.rose;
    written = s.written;
    appended = s.appended;
    transcript = transcript_of (ended s.read) s.written s.transcript;
  }

  to_limit : Served (said_of_piece g) (world_after_piece g) (SpentOfPiece g) from behind false
      → new.count ≡ most_lines → 0 < length new.ahead
      → ReadToLimit g (streams old.left old.faults taken_old x h) (streams new.left new.faults taken_new y j) begun last totals
  to_limit s full more =
      let lines = s.passes.lines in
      let cut : AreCut false new.left new.ahead lines.read s.given = lines.cut in
      let count : length s.given ≡ most_lines = omega (arith, s.passes.counted, zero, full) in
      record {
        read = lines.read;
        further = new.ahead;
        consumed = read_so_far old.left new.left old.ahead new.ahead lines.read none lines.reads;
        whole = cut.1;
        lines = ap length cut.0 ∙ count;
        more = more;
        written = s.written;
        appended = s.appended;
        transcript = rw (sym cut.0) at (transcript_of s.given s.written s.transcript);
      }

  written_to_fault : CutOff (said_of_piece g) (world_after_piece g) (SpentOfPiece g) from behind → Rose x y
      → WrittenToFault g (streams old.left old.faults taken_old x h) (streams new.left new.faults taken_new y j) begun last totals
  written_to_fault s rose =
      let lines = s.passes.lines in
      record {
        read = lines.read;
        further = new.ahead;
        consumed = read_so_far old.left new.left old.ahead new.ahead lines.read none lines.reads;
        earlier = s.earlier;
        last = s.last;
        first = first_of_cut s.finished new.left new.ahead lines.read (s.earlier ++ s.last ∷ []) lines.cut;
        few = omega (arith, s.passes.counted, zero, most);
        rose = rose;
        between = s.between;
        stood = s.stood;
        whole = s.whole;
        transcript = from_opening g failed w s.between old.count s.earlier s.whole h i begun opened told s.stood opens is paid untold zero s.transcript;
        to = to;
        begun = s.begun;
        lost = s.lost;
        some = s.some;
        answer = of_run g s.between to (old.count + length s.earlier) (length s.earlier) (s.last ∷ []) (s.begun ++ s.lost) s.stood (meters j last totals)
            (omega (arith, zero)) s.answer;
        appended = s.appended;
      }

  served : (how : End) → ServesTo g from behind how
      → EndsAs g (streams old.left old.faults taken_old x h) (streams new.left new.faults taken_new y j) begun last totals how
  served end.Done s = to_end s
  served end.ReadFault s = to_fault s
  served end.TooMany s = to_limit s.0 s.1 s.2
  served end.OutputFault s = written_to_fault s.0 s.1

  -- the same, where what is told of the source is named otherwise
  pub EndsAs-served : (how : End) → ServesTo g from behind how
      → (left_old left_new : Option (List ℕ)) (faults_old faults_new : ℕ) → left_old ≡ old.left → left_new ≡ new.left
      → faults_old ≡ old.faults → faults_new ≡ new.faults
      → EndsAs g (streams left_old faults_old taken_old x h) (streams left_new faults_new taken_new y j) begun last totals how
  EndsAs-served how s left_old left_new faults_old faults_new a b c d = rw (a, b, c, d) (served how s)
