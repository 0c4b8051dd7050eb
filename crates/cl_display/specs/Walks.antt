-- The updates that a display opens.
use Rattle.std.specs.Prelude.{ℕ, List, Option}
use Rattle.cl_value.specs.Data.{Data}
use Rattle.cl_syntax.specs.declared.sites.Site.{Site}
use Rattle.cl_medium.specs.Ambients.{AmbientAt}

-- an update at its opening: its site, its id, the values of its cache, if it has one, what its body is drawn from, and what is left
-- there of the budget, the weight and the depth
pub record OpeningAt : Type 0 where
  pub site : Site
  pub id : Data
  pub cache : Option (List Data)
  pub ambient : AmbientAt
  pub budget : ℕ
  pub weight : ℕ
  pub depth : ℕ

-- updates in the order of their openings: one, what was opened inside, and the rest of its level
pub data Walk : Type 0 where
  done : Walk
  met : OpeningAt → (inside rest : Walk) → Walk

-- one walk, and another behind it at the same level
infixl 10 ◌then◌
abbrev pub ◌then◌ : Walk → Walk → Walk
done then w = w
(met o inside rest) then w = met o inside (rest then w)
