-- What a clause sees of a reader of gestures.
use Rattle.std.specs.Prelude.{ℕ, Option, List}
use Rattle.cl_gesture.specs.declared.answers.Stop.{Stop}
use Rattle.cl_gesture.specs.declared.reader.Gestures.{Gestures}
use Rattle.cl_gesture.specs.LineReader as lines
use Rattle.cl_gesture.specs.Progress.{Progress}

-- the source that gestures are read from
abbrev pub source_of : {G : Type 0} → Gestures G → G
source_of s = lines.source_of s.lines

-- the bytes that the source handed over and that no line has taken yet
abbrev pub ahead_of : {G : Type 0} → Gestures G → List ℕ
ahead_of s = lines.ahead_of s.lines

-- the number of lines that were read
abbrev pub count_of : {G : Type 0} → Gestures G → ℕ
count_of s = lines.count_of s.lines

-- where it stopped
abbrev pub stop_of : {G : Type 0} → Gestures G → Stop
stop_of s = lines.stop_of s.lines

-- how far it is, by what its source tells of the bytes that are left and of its faults
abbrev pub progress_of : {G : Type 0} → (G → Option (List ℕ)) → (G → ℕ) → Gestures G → Progress
progress_of left faults s = lines.progress_of left faults s.lines
