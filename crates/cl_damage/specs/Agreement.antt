-- What is kept of old children in new ones.
use Rattle.std.specs.Prelude.{◌≡◌, Bool, true, List, [], ◌∷◌, Some, None}
use Rattle.cl_damage.specs.Children.{Child, Children, child, is_same_name, item, items_in, list_of, none, updated}
use Rattle.cl_damage.specs.Touched.{is_equal, is_still}

-- each of a list
abbrev pub Each : {A : Type 0} → (A → Type 0) → List A → Type 0
Each P [] = Unit {0}
Each P (x ∷ xs) = P x × Each P xs

module _ {A : Type 0} where
  -- a new child agrees with an old one of its level: an update of that name that is kept in place holds the same items, and one that is not
  -- kept agrees with it inside
  abbrev mutual
    pub Agrees : Child A → Child A → Type 0
    Agrees (item a) o = Unit {0}
    Agrees (updated new kept ks) (item b) = Unit {0}
    Agrees (updated new None ks) (updated old was us) = is_same_name new old ≡ true → Agree ks (list_of us)
    Agrees (updated new (Some v) ks) (updated old was us) = is_same_name new old ≡ true → is_still v ≡ true → items_in us ≡ items_in ks

    -- of children in a row
    pub Agree : Children A → List (Child A) → Type 0
    Agree none os = Unit {0}
    Agree (child n ns) os = Each (Agrees n) os × Agree ns os

  -- two lists of children are equal, one by one
  abbrev pub AreEqual : (A → A → Bool) → List (Child A) → List (Child A) → Type 0
  AreEqual same [] [] = Unit {0}
  AreEqual same [] (n ∷ ns) = ⊥
  AreEqual same (o ∷ os) [] = ⊥
  AreEqual same (o ∷ os) (n ∷ ns) = (is_equal same o n ≡ true) × AreEqual same os ns
