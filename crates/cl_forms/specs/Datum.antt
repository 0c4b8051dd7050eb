-- What is read of the forms of a text: atoms, names behind a quote, and lists, each with its offset.
use Rattle.std.specs.Prelude.{◌≡◌, ℕ, ◌+◌, ℤ, List, [], ◌∷◌, refl}
use Rattle.std.specs.Coded.{Coded, coded_ℕ, coded_ℤ, coded_list}
use Rattle.std.proofs.Common.{ap}
use Rattle.std.proofs.lemmas.Bool.{eqb-false}
use base.Stored.{Gv, gnil, gnum, gcons}
use Rattle.cl_forms.specs.Tree.{bytes_code, code_head, code_tail, code_number, has_parts}

mutual
  -- a datum, by its kind, with its offset
  pub data Datum : Type 0 where
    number : ℤ → ℕ → Datum
    literal : List ℕ → ℕ → Datum
    -- a symbol
    word : List ℕ → ℕ → Datum
    -- a name behind a quote, with the offsets of both
    quoted : List ℕ → ℕ → ℕ → Datum
    -- a quote that stands before no name, with what follows it
    stray : ℕ → Datum
    list : Datums → ℕ → Datum

  -- data, one after another
  pub data Datums : Type 0 where
    none : Datums
    item : Datum → Datums → Datums

-- a list of data as a datum holds it
abbrev pub datums_of : List Datum → Datums
datums_of [] = none
datums_of (d ∷ ds) = item d (datums_of ds)

-- how many atoms and lists there are
abbrev mutual
  pub weight : Datum → ℕ
  weight (number z at) = 1
  weight (literal s at) = 1
  weight (word s at) = 1
  weight (quoted s at name_at) = 1
  weight (stray at) = 1
  weight (list ds at) = 1 + weights ds

  -- how many atoms and lists there are in data in a row
  pub weights : Datums → ℕ
  weights none = 0
  weights (item d ds) = weight d + weights ds

-- data in a row, as a list
abbrev pub in_order : Datums → List Datum
in_order none = []
in_order (item d ds) = d ∷ in_order ds

-- the parts of a list; an atom has none
abbrev pub parts_of : Datum → List Datum
parts_of (number z at) = []
parts_of (literal s at) = []
parts_of (word s at) = []
parts_of (quoted s at name_at) = []
parts_of (stray at) = []
parts_of (list ds at) = in_order ds

-- the offset
abbrev pub offset : Datum → ℕ
offset (number z at) = at
offset (literal s at) = at
offset (word s at) = at
offset (quoted s at name_at) = at
offset (stray at) = at
offset (list ds at) = at

-- ---- how the logic stores a datum

abbrev mutual
  -- the term of a datum
  pub code : Datum → Gv
  code (number z at) = gcons (gnum 0) (gcons (coded_ℤ.code z) (gnum at))
  code (literal s at) = gcons (gnum 1) (gcons (bytes_code s) (gnum at))
  code (word s at) = gcons (gnum 2) (gcons (bytes_code s) (gnum at))
  code (quoted s at name_at) = gcons (gnum 3) (gcons (bytes_code s) (gcons (gnum at) (gnum name_at)))
  code (stray at) = gcons (gnum 4) (gcons gnil (gnum at))
  code (list ds at) = gcons (gnum 5) (gcons (codes_of ds) (gnum at))

  -- the term of data in a row
  pub codes_of : Datums → Gv
  codes_of none = gnil
  codes_of (item d ds) = gcons (code d) (codes_of ds)

-- the number of a kind
abbrev pub kind_of : Datum → ℕ
kind_of (number z at) = 0
kind_of (literal s at) = 1
kind_of (word s at) = 2
kind_of (quoted s at name_at) = 3
kind_of (stray at) = 4
kind_of (list ds at) = 5

mutual
  -- data of one term are one datum
  pub code-inj : (x y : Datum) → code x ≡ code y → x ≡ y
  code-inj (number z m) (number w n) p =
      let first : z ≡ w = coded_ℤ.inj z w (ap (λ g. code_head (code_tail g)) p) in
      let at : m ≡ n = ap (λ g. code_number (code_tail (code_tail g))) p in
      λ i. number (first i) (at i)
  code-inj (literal s m) (literal t n) p =
      let first : s ≡ t = (coded_list coded_ℕ).inj s t (ap (λ g. code_head (code_tail g)) p) in
      let at : m ≡ n = ap (λ g. code_number (code_tail (code_tail g))) p in
      λ i. literal (first i) (at i)
  code-inj (word s m) (word t n) p =
      let first : s ≡ t = (coded_list coded_ℕ).inj s t (ap (λ g. code_head (code_tail g)) p) in
      let at : m ≡ n = ap (λ g. code_number (code_tail (code_tail g))) p in
      λ i. word (first i) (at i)
  code-inj (quoted s m k) (quoted t n l) p =
      let first : s ≡ t = (coded_list coded_ℕ).inj s t (ap (λ g. code_head (code_tail g)) p) in
      let at : m ≡ n = ap (λ g. code_number (code_head (code_tail (code_tail g)))) p in
      let name_at : k ≡ l = ap (λ g. code_number (code_tail (code_tail (code_tail g)))) p in
      λ i. quoted (first i) (at i) (name_at i)
  code-inj (stray m) (stray n) p =
      let at : m ≡ n = ap (λ g. code_number (code_tail (code_tail g))) p in
      λ i. stray (at i)
  code-inj (list ds m) (list es n) p =
      let first : ds ≡ es = codes_of-inj ds es (ap (λ g. code_head (code_tail g)) p) in
      let at : m ≡ n = ap (λ g. code_number (code_tail (code_tail g))) p in
      λ i. list (first i) (at i)
  code-inj x y p = absurd (eqb-false (kind_of x) (kind_of y) refl (ap (λ g. code_number (code_head g)) p))

  -- rows of one term are one row
  pub codes_of-inj : (ds es : Datums) → codes_of ds ≡ codes_of es → ds ≡ es
  codes_of-inj none none p = refl
  codes_of-inj (item d ds) (item e es) p =
      let first : d ≡ e = code-inj d e (ap code_head p) in
      let rest : ds ≡ es = codes_of-inj ds es (ap code_tail p) in
      λ i. item (first i) (rest i)
  codes_of-inj none (item e es) p = absurd (eqb-false 0 1 refl (ap has_parts p))
  codes_of-inj (item d ds) none p = absurd (eqb-false 1 0 refl (ap has_parts p))

-- how the logic stores a datum
abbrev pub datum_code : Coded Datum
datum_code = record { code = code; inj = code-inj }
