-- Lines that do nothing, and what comes behind them, for lines of any kind.
use Rattle.std.specs.Prelude.{◌≡◌, ◌+◌, ◌<◌, ℕ, Bool, true, false, List, [], ◌∷◌, ◌++◌, length}
use Rattle.cl_outside.specs.Causes.{Rose}
use Rattle.cl_gesture.specs.declared.answers.Stop.TheVariants as stop
use Rattle.cl_gesture.specs.Lines.{Piece, ended, Reads}
use Rattle.cl_gesture.specs.Progress.{Progress, Passes, stop_at, most_lines}

-- what a piece says, and what one says that does nothing
module _ {K : Type 0} (kind_of : Piece → K) (nothing : K) where
  -- each of these lines does nothing
  abbrev pub AreIdle : List Piece → Type 0
  AreIdle [] = Unit {0}
  AreIdle (p ∷ ps) = (kind_of p ≡ nothing) × AreIdle ps

  -- idle lines were read, and then one of this kind; `finished` where the source's end came behind it
  pub record ReadsTo (kind : K) (old new : Progress) : Type 0 where
    pub idles : List Piece
    pub idle : AreIdle idles
    pub piece : Piece
    pub says : kind_of piece ≡ kind
    pub finished : Bool
    pub stopped : new.stop ≡ stop_at finished
    pub passes : Passes old new finished (idles ++ piece ∷ [])

  -- only idle lines were read, up to the source's end
  pub record ReadsToEnd (old new : Progress) : Type 0 where
    pub idles : List Piece
    pub idle : AreIdle idles
    pub stopped : new.stop ≡ stop.AtEnd
    pub passes : Passes old new true idles

  -- all bytes that the source had handed over were read, and only idle lines ended in them; what is held of a line is lost
  pub record ReadsToFault (old new : Progress) : Type 0 where
    pub read : List ℕ
    pub idle : AreIdle (ended read)
    pub stopped : new.stop ≡ stop.AtFault
    pub reads : Reads old.left new.left old.ahead new.ahead read
    pub none : new.ahead ≡ []
    pub counted : new.count ≡ old.count + length (ended read)
    pub rose : Rose old.faults new.faults

  -- only idle lines were read, a million lines in all, and a further byte is ahead
  pub record ReadsToLimit (old new : Progress) : Type 0 where
    pub idles : List Piece
    pub idle : AreIdle idles
    pub stopped : new.stop ≡ stop.AtLimit
    pub passes : Passes old new false idles
    pub full : new.count ≡ most_lines
    pub further : 0 < length new.ahead
