-- Values as pure data, and what is said of them: size, depth, order.
use Rattle.std.specs.Prelude.{◌≡◌, ℕ, ◌+◌, ℤ, Bool, List, [], ◌∷◌, length, max, refl}
use Rattle.std.proofs.Common.{ap}
use Rattle.std.proofs.lemmas.Bool.{eqb-false}
use Rattle.std.specs.declared.cmp.Ordering.{Ordering}
use Rattle.std.specs.declared.cmp.Ordering.TheVariants.{Less, Equal, Greater}
use Rattle.std.specs.Ordering.{nat_cmp, int_cmp, bool_cmp, ordering_then}
use Rattle.std.specs.Cmp.Lexicographic.{slice_cmp}
use Rattle.std.specs.Coded.{Coded, coded_ℕ, coded_ℤ, coded_bool, coded_list}
use base.Stored.{Gv, gnil, gnum, gcons}

mutual
  -- a value: a number, a truth value, a text, a symbol, null, a list, or a record with its name
  pub data Data : Type 0 where
    int : ℤ → Data
    bool : Bool → Data
    text : List ℕ → Data
    symbol : List ℕ → Data
    null : Data
    list : Items → Data
    rec : List ℕ → Items → Data

  -- the parts of a list or a record
  pub data Items : Type 0 where
    none : Items
    item : Data → Items → Items

-- the parts of a list, one after another
abbrev pub items_of : List Data → Items
items_of [] = none
items_of (d ∷ ds) = item d (items_of ds)

-- ---- size and depth

-- 1 for an atom, 1 and the bytes for a text, 1 and the parts for a list or a record
abbrev mutual
  pub size_of : Data → ℕ
  size_of (int n) = 1
  size_of (bool b) = 1
  size_of (text s) = 1 + length s
  size_of (symbol s) = 1
  size_of null = 1
  size_of (list ds) = 1 + size_of_items ds
  size_of (rec s ds) = 1 + size_of_items ds

  -- the sizes of the parts together
  pub size_of_items : Items → ℕ
  size_of_items none = 0
  size_of_items (item d ds) = size_of d + size_of_items ds

-- 1 for an atom, a text and what has no parts, else 1 more than the deepest part
abbrev mutual
  pub depth_of : Data → ℕ
  depth_of (int n) = 1
  depth_of (bool b) = 1
  depth_of (text s) = 1
  depth_of (symbol s) = 1
  depth_of null = 1
  depth_of (list ds) = 1 + depth_of_items ds
  depth_of (rec s ds) = 1 + depth_of_items ds

  -- the depth of the deepest part
  pub depth_of_items : Items → ℕ
  depth_of_items none = 0
  depth_of_items (item d ds) = max (depth_of d) (depth_of_items ds)

-- ---- order

-- the kinds in their order
abbrev pub kind_of : Data → ℕ
kind_of (int n) = 0
kind_of (bool b) = 1
kind_of (text s) = 2
kind_of (symbol s) = 3
kind_of null = 4
kind_of (list ds) = 5
kind_of (rec s ds) = 6

-- by kind, then by content: false before true, bytes and parts by their first difference, a record by its name and then its parts
abbrev mutual
  pub order_of : Data → Data → Ordering
  order_of (int m) (int n) = int_cmp m n
  order_of (bool a) (bool b) = bool_cmp a b
  order_of (text s) (text t) = slice_cmp nat_cmp s t
  order_of (symbol s) (symbol t) = slice_cmp nat_cmp s t
  order_of null null = Equal
  order_of (list ds) (list es) = order_of_items ds es
  order_of (rec s ds) (rec t es) = ordering_then (slice_cmp nat_cmp s t) (order_of_items ds es)
  order_of d e = nat_cmp (kind_of d) (kind_of e)

  -- a list that ends first comes first
  pub order_of_items : Items → Items → Ordering
  order_of_items none none = Equal
  order_of_items none (item e es) = Less
  order_of_items (item d ds) none = Greater
  order_of_items (item d ds) (item e es) = ordering_then (order_of d e) (order_of_items ds es)

-- ---- how the logic stores data

-- the term of a row of bytes
abbrev pub bytes_code : List ℕ → Gv
bytes_code s = (coded_list coded_ℕ).code s

abbrev mutual
  -- the term of a value
  pub code : Data → Gv
  code (int n) = gcons (gnum 0) (coded_ℤ.code n)
  code (bool b) = gcons (gnum 1) (coded_bool.code b)
  code (text s) = gcons (gnum 2) (bytes_code s)
  code (symbol s) = gcons (gnum 3) (bytes_code s)
  code null = gcons (gnum 4) gnil
  code (list ds) = gcons (gnum 5) (code_items ds)
  code (rec s ds) = gcons (gnum 6) (gcons (bytes_code s) (code_items ds))

  -- the term of a row of parts
  pub code_items : Items → Gv
  code_items none = gnil
  code_items (item d ds) = gcons (code d) (code_items ds)

-- the first part of a term
abbrev pub code_head : Gv → Gv
code_head gnil = gnil
code_head (gnum n) = gnil
code_head (gcons a b) = a

-- what is behind the first part of a term
abbrev pub code_tail : Gv → Gv
code_tail gnil = gnil
code_tail (gnum n) = gnil
code_tail (gcons a b) = b

-- the number of a code's kind
abbrev pub code_kind : Gv → ℕ
code_kind gnil = 0
code_kind (gnum n) = n
code_kind (gcons a b) = code_kind a

-- 1 for a term of two parts, or 0
abbrev pub has_parts : Gv → ℕ
has_parts gnil = 0
has_parts (gnum n) = 0
has_parts (gcons a b) = 1

mutual
  -- values of one term are one value
  pub code-inj : (x y : Data) → code x ≡ code y → x ≡ y
  code-inj (int m) (int n) p = ap int (coded_ℤ.inj m n (ap code_tail p))
  code-inj (bool a) (bool b) p = ap bool (coded_bool.inj a b (ap code_tail p))
  code-inj (text s) (text t) p = ap text ((coded_list coded_ℕ).inj s t (ap code_tail p))
  code-inj (symbol s) (symbol t) p = ap symbol ((coded_list coded_ℕ).inj s t (ap code_tail p))
  code-inj null null p = refl
  code-inj (list ds) (list es) p = ap list (code_items-inj ds es (ap code_tail p))
  code-inj (rec s ds) (rec t es) p =
      let names : s ≡ t = (coded_list coded_ℕ).inj s t (ap (λ g. code_head (code_tail g)) p) in
      let parts : ds ≡ es = code_items-inj ds es (ap (λ g. code_tail (code_tail g)) p) in
      λ i. rec (names i) (parts i)
  code-inj x y p = absurd (eqb-false (kind_of x) (kind_of y) refl (ap code_kind p))

  -- rows of one term are one row
  pub code_items-inj : (ds es : Items) → code_items ds ≡ code_items es → ds ≡ es
  code_items-inj none none p = refl
  code_items-inj (item d ds) (item e es) p =
      let first : d ≡ e = code-inj d e (ap code_head p) in
      let rest : ds ≡ es = code_items-inj ds es (ap code_tail p) in
      λ i. item (first i) (rest i)
  code_items-inj none (item e es) p = absurd (eqb-false 0 1 refl (ap has_parts p))
  code_items-inj (item d ds) none p = absurd (eqb-false 1 0 refl (ap has_parts p))

-- how the logic stores a value
abbrev pub data_code : Coded Data
data_code = record { code = code; inj = code-inj }
