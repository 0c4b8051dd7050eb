-- The laws of the definitions.
use Rattle.std.proofs.Common.{◌≡◌, ◌≤◌, ◌<◌, ◌+◌, ◌==◌, ℕ, Bool, true, false, cond, length, List, [], ◌∷◌, Option, Some, None, refl, sym, ap, ◌∙◌, subst, inl, inr, arith}
use Rattle.std.specs.Prelude.{All, ◌⊎◌, ◌||◌, ◌&&◌, is_some, find, option_map, filter, map, unwrap_or, if◌then◌else◌}
use Rattle.std.specs.Cmp.Lexicographic.{pointwise}
use Rattle.std.specs.List.{flat_map, list_any}
use Rattle.std.specs.Map.{lookup}
use Rattle.std.specs.Str.{bytes_eq}
use Rattle.std.proofs.lemmas.Bool.{eqb-true}
use Rattle.std.proofs.lemmas.Cmp.{nat_list_eq_equiv}
use Rattle.std.proofs.lemmas.List.Elements.{All-nil, All-cons, All-head, All-tail, All-weaker}
use Rattle.std.proofs.lemmas.List.Folds.{list_any-append}
use Rattle.cl_table.specs.Names.{named, Differ, IsTable}
use Rattle.cl_tables.specs.Accessible.{CommandPlaces, accessible_commands, commands_of, stands_in}
use Rattle.cl_tables.specs.Enabled.{States, is_enabled, with_switch, with_switches}
use Rattle.cl_tables.specs.Inheritance.{TableDecls, inheritance}
use Rattle.cl_tables.specs.Indexes.{BeginWithin}
use Rattle.cl_tables.specs.Laws.{IsCommandOf, IsLongest, last_switch, stands_among}
use Rattle.cl_tables.specs.Lookups.{begins, begins_with, greatest, is_accessible, is_named, line_command, longest}
use Rattle.cl_tables.specs.declared.declarations.CommandPlace.{CommandPlace}
use Rattle.cl_tables.proofs.NameLemmas.{same_name}
use Rattle.cl_tables.proofs.NamingLemmas.{all_shorter}

-- ---- accessible commands

abbrev stands_there : List ℕ → Option CommandPlace → Bool
stands_there table None = false
stands_there table (Some c) = stands_in table c

any_kept : (p q : CommandPlace → Bool) (cs : List CommandPlace) → list_any p (filter q cs) ≡ list_any (λ c. q c && p c) cs
any_kept p q [] = refl
any_kept p q (c ∷ cs) = by (q c) (any_kept p q cs)
  where
    by : (b : Bool) → list_any p (filter q cs) ≡ list_any (λ d. q d && p d) cs → list_any p (cond b (c ∷ filter q cs) (filter q cs)) ≡ ((b && p c) || list_any (λ d. q d && p d) cs)
    by true rest = ap (λ r. p c || r) rest
    by false rest = rest

any_flat : (p : CommandPlace → Bool) (f : List ℕ → List CommandPlace) (xs : List (List ℕ)) → list_any p (flat_map f xs) ≡ list_any (λ x. list_any p (f x)) xs
any_flat p f [] = refl
any_flat p f (x ∷ xs) = list_any-append p (f x) (flat_map f xs) ∙ ap (λ b. list_any p (f x) || b) (any_flat p f xs)

any_same : {A : Type 0} (p q : A → Bool) (xs : List A) → ((x : A) → p x ≡ q x) → list_any p xs ≡ list_any q xs
any_same p q [] h = refl
any_same p q (x ∷ xs) h = ap (λ b. b || list_any p xs) (h x) ∙ ap (λ b. q x || b) (any_same p q xs h)

any_none : {A : Type 0} (xs : List A) → list_any (λ x. false) xs ≡ false
any_none [] = refl
any_none (x ∷ xs) = any_none xs

or_false : (a : Bool) → (a || false) ≡ a
or_false true = refl
or_false false = refl

and_true : (a : Bool) → (a && true) ≡ a
and_true true = refl
and_true false = refl

and_false : (a : Bool) → (a && false) ≡ false
and_false true = refl
and_false false = refl

-- the command of a name, if it stands in a table
one_by : (b : Bool) (x table : List ℕ) (e : List ℕ × CommandPlace) (es : CommandPlaces) → bytes_eq x e.0 ≡ b → e.0 ≡ e.1.name → named e.0 es ≡ None
    → list_any (λ c. stands_in table c && is_named x c) (commands_of es) ≡ stands_there table (named x es)
    → ((stands_in table e.1 && is_named x e.1) || list_any (λ c. stands_in table c && is_named x c) (commands_of es)) ≡ stands_there table (cond b (Some e.1) (named x es))
one_by true x table e es same own none rest =
    let first : is_named x e.1 ≡ true = ap (bytes_eq x) (sym own) ∙ same in
    let later : list_any (λ c. stands_in table c && is_named x c) (commands_of es) ≡ false = rest ∙ ap (stands_there table) (ap (λ y. named y es) (same_name x e.0 same) ∙ none) in
    rw (first, later) (or_false (stands_in table e.1 && true) ∙ and_true (stands_in table e.1))
one_by false x table e es same own none rest =
    let other : is_named x e.1 ≡ false = ap (bytes_eq x) (sym own) ∙ same in
    rw other (ap (λ b. b || list_any (λ c. stands_in table c && is_named x c) (commands_of es)) (and_false (stands_in table e.1)) ∙ rest)

one_stands : (x table : List ℕ) (es : CommandPlaces) → All (λ e. e.0 ≡ e.1.name) es → Differ es
    → list_any (λ c. stands_in table c && is_named x c) (commands_of es) ≡ stands_there table (named x es)
one_stands x table [] owned differ = refl
one_stands x table (e ∷ es) owned differ =
    one_by (bytes_eq x e.0) x table e es refl (All-head (λ f. f.0 ≡ f.1.name) e es owned) differ.0
    (one_stands x table es (All-tail (λ f. f.0 ≡ f.1.name) e es owned) differ.1)

any_stands : (order : List (List ℕ)) (o : Option CommandPlace) → list_any (λ table. stands_there table o) order ≡ stands_among order o
any_stands order None = any_none order
any_stands order (Some c) = refl

pub accessible_is : (tables : TableDecls) (places : CommandPlaces) (root x : List ℕ) → IsTable (λ c. c.name) places
    → is_accessible x (accessible_commands tables places root) ≡ stands_among (inheritance tables root) (named x places)
accessible_is tables places root x table =
    any_flat (is_named x) (λ t. filter (stands_in t) (commands_of places)) (inheritance tables root)
    ∙ any_same (λ t. list_any (is_named x) (filter (stands_in t) (commands_of places))) (λ t. stands_there t (named x places)) (inheritance tables root)
    (λ t. any_kept (is_named x) (stands_in t) (commands_of places) ∙ one_stands x t places table.owned table.differ)
    ∙ any_stands (inheritance tables root) (named x places)

-- ---- the command of a line

within_by : (b : Bool) (line : List ℕ) (d : CommandPlace) (ds : List CommandPlace) (n : ℕ)
    → greatest (map (λ e. length e.line_name) (cond b (d ∷ filter (begins line) ds) (filter (begins line) ds))) ≤ n → (b ≡ true → length d.line_name ≤ n) × (longest line ds ≤ n)
within_by true line d ds n h = (λ e. omega (arith, h), omega (arith, h))
within_by false line d ds n h = (λ e. cc, h)

all_within : (line : List ℕ) (n : ℕ) (cs : List CommandPlace) → longest line cs ≤ n → All (λ d. begins line d ≡ true → length d.line_name ≤ n) cs
all_within line n [] h = All-nil (λ d. begins line d ≡ true → length d.line_name ≤ n)
all_within line n (c ∷ cs) h =
    let parts = within_by (begins line c) line c cs n h in
    All-cons (λ d. begins line d ≡ true → length d.line_name ≤ n) c cs parts.0 (all_within line n cs parts.1)

found_passes : (p : CommandPlace → Bool) (cs : List CommandPlace) (c : CommandPlace) → find p cs ≡ Some c → p c ≡ true
found_passes p [] c h = cc
found_passes p (d ∷ ds) c h = by (p d) refl h (λ k. found_passes p ds c k)
  where
    by : (b : Bool) → p d ≡ b → cond b (Some d) (find p ds) ≡ Some c → (find p ds ≡ Some c → p c ≡ true) → p c ≡ true
    by true e k rest = subst (λ x. p x ≡ true) (some-inj d c k) e
      where
        some-inj : (a b : CommandPlace) → Some a ≡ Some b → a ≡ b
        some-inj a b f = cc
    by false e k rest = rest k

both : (a b : Bool) → (a && b) ≡ true → (a ≡ true) × (b ≡ true)
both true b h = (refl, h)
both false b h = cc

longest_none : (line : List ℕ) (cs : List CommandPlace) → All (λ d. begins line d ≡ false) cs → longest line cs ≡ 0
longest_none line [] h = refl
longest_none line (c ∷ cs) h =
    ap (λ b. greatest (map (λ e. length e.line_name) (cond b (c ∷ filter (begins line) cs) (filter (begins line) cs)))) (All-head (λ d. begins line d ≡ false) c cs h)
    ∙ longest_none line cs (All-tail (λ d. begins line d ≡ false) c cs h)

-- no name begins the line, or the longest that does is shorter than a bound of all
none_or_shorter : (line : List ℕ) (n : ℕ) (cs : List CommandPlace) → BeginWithin n line cs → All (λ d. begins line d ≡ false) cs ⊎ (longest line cs < n)
none_or_shorter line n [] h = inl (All-nil (λ d. begins line d ≡ false))
none_or_shorter line n (c ∷ cs) h =
    by (begins line c) refl (All-head (λ d. begins line d ≡ true → length d.line_name < n) c cs h)
    (none_or_shorter line n cs (All-tail (λ d. begins line d ≡ true → length d.line_name < n) c cs h))
  where
    longer : Bool → ℕ
    longer b = greatest (map (λ e. length e.line_name) (cond b (c ∷ filter (begins line) cs) (filter (begins line) cs)))

    by : (b : Bool) → begins line c ≡ b → (begins line c ≡ true → length c.line_name < n) → All (λ d. begins line d ≡ false) cs ⊎ (longest line cs < n)
        → All (λ d. begins line d ≡ false) (c ∷ cs) ⊎ (longest line (c ∷ cs) < n)
    by false e k (inl none) = inl (All-cons (λ d. begins line d ≡ false) c cs e none)
    by false e k (inr less) = inr (subst (λ b. longer b < n) (sym e) less)
    by true e k (inl none) = inr (subst (λ b. longer b < n) (sym e) (omega (arith, k e, longest_none line cs none)))
    by true e k (inr less) = inr (subst (λ b. longer b < n) (sym e) (omega (arith, k e, less)))

no_name : (line : List ℕ) (cs : List CommandPlace) → line_command line cs ≡ None → All (λ d. begins line d ≡ false) cs
no_name line cs h = by (none_or_shorter line n cs (all_shorter line n cs h bound))
  where
    n : ℕ
    n = longest line cs

    bound : BeginWithin (n + 1) line cs
    bound = All-weaker (λ d. begins line d ≡ true → length d.line_name ≤ n) (λ d. begins line d ≡ true → length d.line_name < n + 1) (λ d k e. omega (arith, k e)) cs
        (all_within line n cs (omega arith))

    by : All (λ d. begins line d ≡ false) cs ⊎ (n < n) → All (λ d. begins line d ≡ false) cs
    by (inl none) = none
    by (inr less) = absurd (omega (arith, less))

longest_found : (line : List ℕ) (cs : List CommandPlace) (c : CommandPlace) → line_command line cs ≡ Some c → IsLongest line cs c
longest_found line cs c h =
    let parts = both (begins line c) (length c.line_name == longest line cs) (found_passes (begins_with line (longest line cs)) cs c h) in
    let long : length c.line_name ≡ longest line cs = eqb-true (length c.line_name) (longest line cs) parts.1 in
    record {
      begins_line = parts.0;
      none_longer = subst (λ n. All (λ d. begins line d ≡ true → length d.line_name ≤ n) cs) (sym long) (all_within line (longest line cs) cs (omega arith));
    }

pub line_command_is : (line : List ℕ) (cs : List CommandPlace) → IsCommandOf line cs (line_command line cs)
line_command_is line cs = by (line_command line cs) refl
  where
    by : (o : Option CommandPlace) → line_command line cs ≡ o → IsCommandOf line cs o
    by None e = no_name line cs e
    by (Some c) e = longest_found line cs c e

-- ---- switches

lookup_set : (x y : List ℕ) (on : Bool) (states : States)
    → lookup (pointwise ◌==◌ x) (with_switch y on states)
    ≡ (if bytes_eq x y then option_map (λ (b : Bool). on) (lookup (pointwise ◌==◌ x) states) else lookup (pointwise ◌==◌ x) states)
lookup_set x y on [] = by (bytes_eq x y)
  where
    by : (b : Bool) → None ≡ (if b then option_map (λ (c : Bool). on) None else None)
    by true = refl
    by false = refl
lookup_set x y on (e ∷ es) = by (bytes_eq y e.0) (bytes_eq x e.0) refl refl (lookup_set x y on es)
  where
    found : List (List ℕ × Bool) → Option Bool
    found fs = lookup (pointwise ◌==◌ x) fs

    switched : Option Bool → Option Bool
    switched o = option_map (λ (c : Bool). on) o

    by : (b c : Bool) → bytes_eq y e.0 ≡ b → bytes_eq x e.0 ≡ c → found (with_switch y on es) ≡ (if bytes_eq x y then switched (found es) else found es)
        → found (cond b ((e.0, on) ∷ es) (e ∷ with_switch y on es)) ≡ (if bytes_eq x y then switched (cond c (Some e.1) (found es)) else cond c (Some e.1) (found es))
    by true true f g rest = rw (ap (bytes_eq x) (same_name y e.0 f) ∙ g, g) refl
    by true false f g rest = rw (ap (bytes_eq x) (same_name y e.0 f) ∙ g, g) refl
    by false true f g rest = rw (ap (λ z. bytes_eq z y) (same_name x e.0 g) ∙ nat_list_eq_equiv.symm e.0 y ∙ f, g) refl
    by false false f g rest = rw g rest

switched_by : (b : Bool) (on : Bool) (o : Option Bool) → is_some o ≡ true
    → (is_some (if b then option_map (λ (c : Bool). on) o else o) ≡ true)
    × (unwrap_or (if b then option_map (λ (c : Bool). on) o else o) false ≡ (if b then on else unwrap_or o false))
switched_by b on None h = cc
switched_by true on (Some c) h = (refl, refl)
switched_by false on (Some c) h = (refl, refl)

pub last_counts : (switches : List (List ℕ × Bool)) (states : States) (x : List ℕ) → is_some (lookup (pointwise ◌==◌ x) states) ≡ true
    → is_enabled x (with_switches switches states) ≡ last_switch x switches (is_enabled x states)
last_counts [] states x h = refl
last_counts (s ∷ ss) states x h =
    let one = switched_by (bytes_eq x s.0) s.1 (lookup (pointwise ◌==◌ x) states) h in
    let set = lookup_set x s.0 s.1 states in
    last_counts ss (with_switch s.0 s.1 states) x (ap is_some set ∙ one.0)
    ∙ ap (last_switch x ss) (ap (λ o. unwrap_or o false) set ∙ one.1)
