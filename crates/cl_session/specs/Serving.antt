-- What serving a stream of gestures comes to.
use Rattle.std.specs.Prelude.{◌≡◌, ◌<◌, ◌+◌, ℕ, Bool, true, false, Option, List, [], ◌∷◌, ◌++◌, length}
use Rattle.std.specs.Io.KnownBytes.{Appends}
use Rattle.cl_outside.specs.Causes.{Rose}
use Rattle.cl_frame.specs.Ground.{Ground}
use Rattle.cl_gesture.specs.Lines.{Piece, Reads, ended}
use Rattle.cl_gesture.specs.Next.{Progress, Passes, stop_at, most_lines}
use Rattle.cl_session.specs.declared.serving.End.{End}
use Rattle.cl_session.specs.declared.serving.End.TheVariants as end
use Rattle.cl_session.specs.Streams.{IsTranscript}
use Rattle.cl_session.specs.Transcript.{Meters, SpentOfPiece, said_of_piece, world_after_piece}
use Rattle.cl_session.specs.World.{World}

-- Where serving stands: the world, the meters, how far the reader is, what the sink took and how often it failed.
pub record Stand (World Meters : Type 0) : Type 0 where
  pub world : World
  pub meters : Meters
  pub progress : Progress
  pub taken : Option (List ℕ)
  pub out_faults : ℕ

module _ {World Choice Meters : Type 0} (said : World → ℕ → Piece → Choice → List ℕ) (after : World → Piece → Choice → World)
    (Spends : World → Piece → Choice → (old new : Meters) → Type 0) where
  -- Pieces were read and answered on the way from one stand to another: what is a transcript of more pieces from there on is, behind what
  -- was written, a transcript of them behind these.
  pub record Going (old new : Stand World Meters) : Type 0 where
    pub given : List Piece
    pub finished : Bool
    pub stopped : new.progress.stop ≡ stop_at finished
    pub passes : Passes old.progress new.progress finished given
    pub written : List ℕ
    pub appended : Appends old.taken new.taken written
    pub goes_on : (more : List Piece) (tail : List ℕ) (last : Meters) (final : World)
        → IsTranscript said after Spends new.world final new.progress.count more tail new.meters last
        → IsTranscript said after Spends old.world final old.progress.count (given ++ more) (written ++ tail) old.meters last

  -- all pieces up to the source's end were read, and the sink took their transcript
  pub record Served (old new : Stand World Meters) (finished : Bool) : Type 0 where
    pub given : List Piece
    pub passes : Passes old.progress new.progress finished given
    pub written : List ℕ
    pub appended : Appends old.taken new.taken written
    pub transcript : IsTranscript said after Spends old.world new.world old.progress.count given written old.meters new.meters

  -- the source failed: the sink took the transcript of the pieces that had ended in what was read
  pub record Faulted (old new : Stand World Meters) : Type 0 where
    pub read : List ℕ
    pub reads : Reads old.progress.left new.progress.left old.progress.ahead new.progress.ahead read
    pub none : new.progress.ahead ≡ []
    pub counted : new.progress.count ≡ old.progress.count + length (ended read)
    pub rose : Rose old.progress.faults new.progress.faults
    pub written : List ℕ
    pub appended : Appends old.taken new.taken written
    pub transcript : IsTranscript said after Spends old.world new.world old.progress.count (ended read) written old.meters new.meters

  -- The sink failed in the answer to the last piece that was read: it took the transcript of the pieces before it, and the first bytes
  -- of this answer.
  pub record CutOff (old new : Stand World Meters) : Type 0 where
    pub earlier : List Piece
    pub last : Piece
    pub finished : Bool
    pub passes : Passes old.progress new.progress finished (earlier ++ last ∷ [])
    pub between : World
    pub stood : Meters
    pub whole : List ℕ
    pub transcript : IsTranscript said after Spends old.world between old.progress.count earlier whole old.meters stood
    pub begun : List ℕ
    pub lost : List ℕ
    pub some : 0 < length lost
    pub answer : IsTranscript said after Spends between new.world (old.progress.count + length earlier) (last ∷ []) (begun ++ lost) stood new.meters
    pub appended : Appends old.taken new.taken (whole ++ begun)

  -- pieces were served from one stand to another, up to this end
  abbrev pub Serves : (old new : Stand World Meters) → End → Type 0
  Serves old new end.Done = Served old new true
  Serves old new end.ReadFault = Faulted old new
  Serves old new end.TooMany = Served old new false × (new.progress.count ≡ most_lines) × (0 < length new.progress.ahead)
  Serves old new end.OutputFault = CutOff old new × Rose old.out_faults new.out_faults

-- ---- a session

-- a stand of these parts
abbrev pub stand : World → Meters → Progress → Option (List ℕ) → ℕ → Stand World Meters
stand world meters progress taken out_faults =
    record { world = world; meters = meters; progress = progress; taken = taken; out_faults = out_faults }

-- pieces of a session were read and answered on the way from one stand to another
abbrev pub GoesOn : Ground → (old new : Stand World Meters) → Type 0
GoesOn g old new = Going (said_of_piece g) (world_after_piece g) (SpentOfPiece g) old new

-- a session was served from one stand to another, up to this end
abbrev pub ServesTo : Ground → (old new : Stand World Meters) → End → Type 0
ServesTo g old new how = Serves (said_of_piece g) (world_after_piece g) (SpentOfPiece g) old new how
