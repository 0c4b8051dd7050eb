-- What answers the pieces of a stream, one after another: a machine with worlds, which says something of each piece, where some of it
-- is chosen, and spends of meters. Transcripts are stated for every such machine.
use Rattle.std.specs.Prelude.{◌≡◌, ℕ, ◌+◌, List, [], ◌∷◌, ◌++◌}
use Rattle.cl_gesture.specs.Lines.{Piece}

module _ {World Choice Meters : Type 0}
    -- what is said of a piece, where so many lines were read before, and the world behind it
    (said : World → ℕ → Piece → Choice → List ℕ) (after : World → Piece → Choice → World)
    -- what the meters may stand at behind a piece
    (Spends : World → Piece → Choice → (old new : Meters) → Type 0) where
  -- what is said of pieces, by what is chosen at each of them
  abbrev pub transcript : World → ℕ → List Piece → List Choice → List ℕ
  transcript w before [] cs = []
  transcript w before (p ∷ ps) [] = []
  transcript w before (p ∷ ps) (c ∷ cs) = said w before p c ++ transcript (after w p c) (before + 1) ps cs

  -- the world behind them
  abbrev pub world_behind : World → List Piece → List Choice → World
  world_behind w [] cs = w
  world_behind w (p ∷ ps) [] = w
  world_behind w (p ∷ ps) (c ∷ cs) = world_behind (after w p c) ps cs

  -- the worlds before each of them and behind the last
  abbrev pub worlds : World → List Piece → List Choice → List World
  worlds w [] cs = w ∷ []
  worlds w (p ∷ ps) [] = w ∷ []
  worlds w (p ∷ ps) (c ∷ cs) = w ∷ worlds (after w p c) ps cs

  -- the meters go from one stand to another, with one choice for each piece
  abbrev pub SpendsAll : World → List Piece → List Choice → (old new : Meters) → Type 0
  SpendsAll w [] [] old new = new ≡ old
  SpendsAll w [] (c ∷ cs) old new = ⊥
  SpendsAll w (p ∷ ps) [] old new = ⊥
  SpendsAll w (p ∷ ps) (c ∷ cs) old new = (between : Meters) × Spends w p c old between × SpendsAll (after w p c) ps cs between new

  -- These bytes are a transcript of the pieces on the way from one world to another, where so many lines were read before, and the meters
  -- went from one stand to another: there is a list of choices, one for each piece, that gives them.
  pub record IsTranscript (from to : World) (before : ℕ) (ps : List Piece) (bytes : List ℕ) (old new : Meters) : Type 0 where
    pub choices : List Choice
    pub spends : SpendsAll from ps choices old new
    pub says : bytes ≡ transcript from before ps choices
    pub ends : to ≡ world_behind from ps choices
