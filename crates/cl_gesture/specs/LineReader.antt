-- What a clause sees of a reader of lines, and what its next call answers.
use Rattle.std.specs.Prelude.{◌≡◌, ◌<◌, ℕ, Bool, true, false, Option, List, [], ◌∷◌, length, take, drop}
use Rattle.cl_outside.specs.Causes.{Rose}
use Rattle.cl_gesture.specs.declared.answers.Stop.{Stop}
use Rattle.cl_gesture.specs.declared.answers.Stop.TheVariants as stop
use Rattle.cl_gesture.specs.declared.lines.LineReader.{LineReader}
use Rattle.cl_gesture.specs.declared.lines.NextLine.{NextLine}
use Rattle.cl_gesture.specs.declared.lines.NextLine.TheVariants as next
use Rattle.cl_gesture.specs.Lines.{line, long, ended, Reads}
use Rattle.cl_gesture.specs.Progress.{Progress, Passes, stop_at, most_lines}

-- the source that lines are read from
abbrev pub source_of : {G : Type 0} → LineReader G → G
source_of s = s.source

-- the bytes that the source handed over and that no line has taken yet
abbrev pub ahead_of : {G : Type 0} → LineReader G → List ℕ
ahead_of s = drop s.taken s.ahead

-- the bytes of the line that was read last, without its line feed
abbrev pub line_of : {G : Type 0} → LineReader G → List ℕ
line_of s = take s.line s.ahead

-- how many bytes that line took, with its line feed
abbrev pub taken_of : {G : Type 0} → LineReader G → ℕ
taken_of s = s.taken

-- the number of lines that were read
abbrev pub count_of : {G : Type 0} → LineReader G → ℕ
count_of s = s.count

-- where it stopped
abbrev pub stop_of : {G : Type 0} → LineReader G → Stop
stop_of s = s.stop

-- how far it is, by what its source tells of the bytes that are left and of its faults
abbrev pub progress_of : {G : Type 0} → (G → Option (List ℕ)) → (G → ℕ) → LineReader G → Progress
progress_of left faults s =
    record { left = left s.source; faults = faults s.source; ahead = ahead_of s; count = s.count; stop = s.stop }

-- the answer of a reader that had not stopped: one line, of these bytes, or none
abbrev pub LineOf : Progress → Progress → List ℕ → NextLine → Type 0
LineOf old new bytes next.Line = (finished : Bool) × (new.stop ≡ stop_at finished) × Passes old new finished (line bytes ∷ [])
LineOf old new bytes next.Long = (new.stop ≡ stop.Going) × Passes old new false (long bytes ∷ [])
LineOf old new bytes next.End = (new.stop ≡ stop.AtEnd) × Passes old new true []
LineOf old new bytes next.ReadFault =
    (read : List ℕ) × (ended read ≡ []) × (new.stop ≡ stop.AtFault) × Reads old.left new.left old.ahead new.ahead read × (new.ahead ≡ [])
    × (new.count ≡ old.count) × Rose old.faults new.faults
LineOf old new bytes next.TooMany =
    (new.stop ≡ stop.AtLimit) × Passes old new false [] × (new.count ≡ most_lines) × (0 < length new.ahead)

-- where the reader had stopped, the same answer comes again and nothing changes
abbrev pub AgainNone : {A : Type 0} → Stop → A → A → NextLine → Type 0
AgainNone stop.Going old new answer = Unit {0}
AgainNone stop.AtEnd old new answer = (answer ≡ next.End) × (new ≡ old)
AgainNone stop.AtFault old new answer = (answer ≡ next.ReadFault) × (new ≡ old)
AgainNone stop.AtLimit old new answer = (answer ≡ next.TooMany) × (new ≡ old)
