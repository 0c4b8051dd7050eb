-- The names of the host types that the program brings.
use Rattle.std.specs.Prelude.{ℕ, ℤ, pos, List, [], ◌∷◌, codes}

-- the days of a week, from 0
abbrev pub weekday_entries : List (List ℕ × ℤ)
weekday_entries =
    (codes "Monday", pos 0) ∷ (codes "Tuesday", pos 1) ∷ (codes "Wednesday", pos 2) ∷ (codes "Thursday", pos 3) ∷ (codes "Friday", pos 4)
    ∷ (codes "Saturday", pos 5) ∷ (codes "Sunday", pos 6) ∷ []

-- the months from July on
abbrev pub later_months : List (List ℕ × ℤ)
later_months =
    (codes "July", pos 7) ∷ (codes "August", pos 8) ∷ (codes "September", pos 9) ∷ (codes "October", pos 10) ∷ (codes "November", pos 11)
    ∷ (codes "December", pos 12) ∷ []

-- the months of a year, from 1
abbrev pub month_entries : List (List ℕ × ℤ)
month_entries =
    (codes "January", pos 1) ∷ (codes "February", pos 2) ∷ (codes "March", pos 3) ∷ (codes "April", pos 4) ∷ (codes "May", pos 5)
    ∷ (codes "June", pos 6) ∷ later_months
