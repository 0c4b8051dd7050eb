-- The workload of a bench: an application of n items, and gestures that change each of them.
use Rattle.std.specs.Prelude.{ℕ, zero, suc, List, [], ◌∷◌, ◌++◌, codes}
use Rattle.std.specs.Fmt.{decimal}

-- lines one after another, each ended by a line feed
abbrev pub joined : List (List ℕ) → List ℕ
joined [] = []
joined (line ∷ lines) = line ++ (10 ∷ joined lines)

-- the items have the keys 1 to n and the label `a`; the pane shows a line for each; one command changes the label of the items of a key,
-- and one puts an item in front
abbrev pub application_lines : ℕ → List (List ℕ)
application_lines n =
    codes "(define-record item key label)"
    ∷ codes "(define-application-frame list-app (:size 10 20)"
    ∷ codes "  (:slots (items (sequence item)"
    ∷ (codes "    (map k (range 1 " ++ (decimal n ++ codes ") (make item k \"a\"))))"))
    ∷ codes "  (:panes (p 0 0 10 20 show)))"
    ∷ codes "(define-display show ()"
    ∷ codes "  (dolist (i (slot items))"
    ∷ codes "    (updating-output (:unique-id (get i key) :cache-value (list i))"
    ∷ codes "      (write-text (get i label)) (newline))))"
    ∷ codes "(define-command com-set ((k integer) (s string))"
    ∷ codes "  (setf (slot items)"
    ∷ codes "    (map i (slot items) (if (= (get i key) k) (with i label s) i))))"
    ∷ codes "(define-command com-front ((k integer) (s string))"
    ∷ codes "  (setf (slot items) (cons (make item k s) (slot items))))"
    ∷ []

-- the text of the application of n items
unfoldable pub application_text : ℕ → List ℕ
application_text n = joined (application_lines n)

-- the item of this key gets the label `b`
abbrev pub set_lines : ℕ → List (List ℕ)
set_lines key = (codes "type Set " ++ (decimal key ++ codes " b")) ∷ codes "return" ∷ []

-- so does each item in turn, from the key 1 to the key n
abbrev pub sets_to : ℕ → List (List ℕ)
sets_to zero = []
sets_to (suc n) = sets_to n ++ set_lines (suc n)

-- an item of the key 0 and the label `z` comes in front
abbrev pub front_lines : List (List ℕ)
front_lines = codes "type Front 0 z" ∷ codes "return" ∷ []

-- each item gets another label, and one comes in front
abbrev pub gesture_lines : ℕ → List (List ℕ)
gesture_lines n = sets_to n ++ front_lines

-- the gestures that change each of n items, and then put one in front
unfoldable pub gestures_text : ℕ → List ℕ
gestures_text n = joined (gesture_lines n)
