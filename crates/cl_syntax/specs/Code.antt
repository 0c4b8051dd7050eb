-- Codes as the logic stores them, and their parts.
use Rattle.std.specs.Prelude.{◌≡◌, ℕ, List}
use Rattle.std.specs.Coded.{coded_ℕ, coded_list}
use base.Stored.{Gv, gnil, gnum, gcons}

-- the first part of a term
abbrev pub head : Gv → Gv
head gnil = gnil
head (gnum n) = gnil
head (gcons a b) = a

-- what is behind the first part of a term
abbrev pub tail : Gv → Gv
tail gnil = gnil
tail (gnum n) = gnil
tail (gcons a b) = b

-- the number at the front
abbrev pub tag : Gv → ℕ
tag gnil = 0
tag (gnum n) = n
tag (gcons a b) = tag a

-- 1 for a term of two parts, or 0
abbrev pub has_parts : Gv → ℕ
has_parts gnil = 0
has_parts (gnum n) = 0
has_parts (gcons a b) = 1

-- the term of a name
abbrev pub name_code : List ℕ → Gv
name_code x = (coded_list coded_ℕ).code x

-- names of one term are one name
pub name_code-inj : (x y : List ℕ) → name_code x ≡ name_code y → x ≡ y
name_code-inj x y p = (coded_list coded_ℕ).inj x y p
