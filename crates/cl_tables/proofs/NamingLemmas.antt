-- The command that a line names.
use Rattle.std.proofs.Common.{◌≡◌, ◌≤◌, ◌<◌, ◌+◌, ◌-◌, ◌==◌, Bool, true, false, cond, ℕ, zero, suc, List, [], ◌∷◌, length, take, drop}
use Rattle.std.proofs.Common.{Option, Some, None, refl, sym, ap, ◌∙◌, subst, arith, take_all, length-drop, length-take}
use Rattle.std.specs.Prelude.{is_some, ◌&&◌, find, filter, map, min}
use Rattle.std.specs.Str.{bytes_eq, str_to_ascii_lowercase}
use Rattle.std.proofs.lemmas.Bool.{eqb-true, eqb-false, eq-eqb}
use Rattle.std.proofs.lemmas.List.{length-map, length-take-le}
use Rattle.std.specs.List.{take-map}
use Rattle.std.proofs.lemmas.List.Elements.{All-nil, All-cons, All-head, All-tail, All-weaker}
use Rattle.cl_tables.specs.Indexes.{AreWithin, BeginWithin, has_key}
use Rattle.cl_tables.specs.declared.indexes.Key.TheVariants.{LineName}
use Rattle.cl_tables.specs.Lookups.{begins, begins_with, ends_before, greatest, longest, line_command}
use Rattle.cl_tables.specs.declared.declarations.CommandPlace.{CommandPlace}
use Rattle.cl_tables.proofs.NameLemmas.{same_name, own_name}

abbrev letters_of : List ℕ → List ℕ
letters_of bs = str_to_ascii_lowercase bs

find-same : (p q : CommandPlace → Bool) → ((c : CommandPlace) → p c ≡ q c) → (cs : List CommandPlace) → find p cs ≡ find q cs
find-same p q h [] = refl
find-same p q h (c ∷ cs) = ap (λ b. cond b (Some c) (find p cs)) (h c) ∙ ap (λ o. cond (q c) (Some c) o) (find-same p q h cs)

find-none : (p : CommandPlace → Bool) → ((c : CommandPlace) → p c ≡ false) → (cs : List CommandPlace) → find p cs ≡ None
find-none p h [] = refl
find-none p h (c ∷ cs) = ap (λ b. cond b (Some c) (find p cs)) (h c) ∙ find-none p h cs

both : (a b : Bool) → (a && b) ≡ true → (a ≡ true) × (b ≡ true)
both true b h = (refl, h)
both false b h = cc

not_true : (b : Bool) → (b ≡ true → ⊥) → b ≡ false
not_true true h = absurd (h refl)
not_true false h = refl

-- what a command whose name begins the line and is so long has
begun : (line : List ℕ) (n : ℕ) (c : CommandPlace) → begins_with line n c ≡ true
    → (letters_of c.line_name ≡ letters_of (take n line)) × (ends_before (drop n line) ≡ true) × (length c.line_name ≡ n)
begun line n c h =
    let parts = both (begins line c) (length c.line_name == n) h in
    let long : length c.line_name ≡ n = eqb-true (length c.line_name) n parts.1 in
    let own = both (bytes_eq (letters_of c.line_name) (letters_of (take (length c.line_name) line))) (ends_before (drop (length c.line_name) line)) parts.0 in (
      subst (λ k. letters_of c.line_name ≡ letters_of (take k line)) long (same_name (letters_of c.line_name) (letters_of (take (length c.line_name) line)) own.0),
      subst (λ k. ends_before (drop k line) ≡ true) long own.1,
      long,
    )

begun_by : (line : List ℕ) (c : CommandPlace) → letters_of c.line_name ≡ letters_of (take (length c.line_name) line) → ends_before (drop (length c.line_name) line) ≡ true
    → begins_with line (length c.line_name) c ≡ true
begun_by line c same ends =
    let equal : bytes_eq (letters_of c.line_name) (letters_of (take (length c.line_name) line)) ≡ true
    = subst (λ bs. bytes_eq (letters_of c.line_name) bs ≡ true) same (own_name (letters_of c.line_name)) in
    rw (equal, ends, eq-eqb (length c.line_name) (length c.line_name) refl) refl

-- by the line's first letters, where a name may end behind them
key_of_line : (line letters : List ℕ) (c : CommandPlace) → letters ≡ letters_of (take (length letters) line) → ends_before (drop (length letters) line) ≡ true
    → has_key LineName letters c ≡ begins_with line (length letters) c
key_of_line line letters c lowered ends = by (bytes_eq letters (letters_of c.line_name)) refl
  where
    by : (b : Bool) → bytes_eq letters (letters_of c.line_name) ≡ b → bytes_eq letters (letters_of c.line_name) ≡ begins_with line (length letters) c
    by true e =
        let same : letters ≡ letters_of c.line_name = same_name letters (letters_of c.line_name) e in
        let long : length letters ≡ length c.line_name = ap length same ∙ length-map c.line_name _ in
        e ∙ sym (ap (λ k. begins_with line k c) long
        ∙ begun_by line c (subst (λ k. letters_of c.line_name ≡ letters_of (take k line)) long (sym same ∙ lowered)) (subst (λ k. ends_before (drop k line) ≡ true) long ends))
    by false e =
        e ∙ sym (not_true (begins_with line (length letters) c) (λ yes.
        let is : letters ≡ letters_of c.line_name = lowered ∙ sym (begun line (length letters) c yes).0 in
        let no : true ≡ false = sym (own_name letters) ∙ ap (λ bs. bytes_eq letters bs) is ∙ e in cc))

pub found_by_key : (line letters : List ℕ) (commands : List CommandPlace) → letters ≡ letters_of (take (length letters) line) → ends_before (drop (length letters) line) ≡ true
    → find (has_key LineName letters) commands ≡ find (begins_with line (length letters)) commands
found_by_key line letters commands lowered ends =
    find-same (has_key LineName letters) (begins_with line (length letters)) (λ c. key_of_line line letters c lowered ends) commands

pub none_ends : (line : List ℕ) (n : ℕ) (commands : List CommandPlace) → ends_before (drop n line) ≡ false → find (begins_with line n) commands ≡ None
none_ends line n commands ends =
    find-none (begins_with line n) (λ c. not_true (begins_with line n c) (λ yes. let no : true ≡ false = sym (begun line n c yes).1 ∙ ends in cc)) commands

-- ---- the longest

longest_by : (b : Bool) (line : List ℕ) (c : CommandPlace) (cs : List CommandPlace) (n : ℕ) → (b ≡ true → length c.line_name < n + 1) → longest line cs ≤ n
    → greatest (map (λ d. length d.line_name) (cond b (c ∷ filter (begins line) cs) (filter (begins line) cs))) ≤ n
longest_by true line c cs n h rest = omega (arith, h refl, rest)
longest_by false line c cs n h rest = rest

longest_within : (line : List ℕ) (n : ℕ) (cs : List CommandPlace) → BeginWithin (n + 1) line cs → longest line cs ≤ n
longest_within line n [] h = omega arith
longest_within line n (c ∷ cs) h =
    longest_by (begins line c) line c cs n (All-head (λ d. begins line d ≡ true → length d.line_name < n + 1) c cs h)
    (longest_within line n cs (All-tail (λ d. begins line d ≡ true → length d.line_name < n + 1) c cs h))

front_long : (b : Bool) (line : List ℕ) (c : CommandPlace) (cs : List CommandPlace) → b ≡ true
    → length c.line_name ≤ greatest (map (λ d. length d.line_name) (cond b (c ∷ filter (begins line) cs) (filter (begins line) cs)))
front_long true line c cs h = omega arith
front_long false line c cs h = cc

rest_long : (b : Bool) (line : List ℕ) (c : CommandPlace) (cs : List CommandPlace) (n : ℕ) → n ≤ longest line cs
    → n ≤ greatest (map (λ d. length d.line_name) (cond b (c ∷ filter (begins line) cs) (filter (begins line) cs)))
rest_long true line c cs n h = omega (arith, h)
rest_long false line c cs n h = h

long_by : (b : Bool) (line : List ℕ) (n : ℕ) (c d : CommandPlace) (cs : List CommandPlace) → begins_with line n c ≡ b → cond b (Some c) (find (begins_with line n) cs) ≡ Some d
    → (find (begins_with line n) cs ≡ Some d → n ≤ longest line cs) → n ≤ longest line (c ∷ cs)
long_by true line n c d cs e h rest =
    let parts = both (begins line c) (length c.line_name == n) e in
    omega (arith, front_long (begins line c) line c cs parts.0, eqb-true (length c.line_name) n parts.1)
long_by false line n c d cs e h rest = rest_long (begins line c) line c cs n (rest h)

found_long : (line : List ℕ) (n : ℕ) (d : CommandPlace) (cs : List CommandPlace) → find (begins_with line n) cs ≡ Some d → n ≤ longest line cs
found_long line n d [] h = cc
found_long line n d (c ∷ cs) h = long_by (begins_with line n c) line n c d cs refl h (λ k. found_long line n d cs k)

-- what is found, where no name that begins the line is longer
pub first_longest : (line : List ℕ) (n : ℕ) (d : CommandPlace) (cs : List CommandPlace) → find (begins_with line n) cs ≡ Some d → BeginWithin (n + 1) line cs
    → line_command line cs ≡ Some d
first_longest line n d cs h within =
    let is : longest line cs ≡ n = omega (arith, found_long line n d cs h, longest_within line n cs within) in
    ap (λ k. find (begins_with line k) cs) is ∙ h

pub none_begins : (line : List ℕ) (n : ℕ) (cs : List CommandPlace) → BeginWithin 0 line cs → find (begins_with line n) cs ≡ None
none_begins line n [] h = refl
none_begins line n (c ∷ cs) h =
    ap (λ b. cond b (Some c) (find (begins_with line n) cs)) (not_true (begins_with line n c) (λ yes.
    let short : length c.line_name < 0 = All-head (λ d. begins line d ≡ true → length d.line_name < 0) c cs h (both (begins line c) (length c.line_name == n) yes).0 in
    omega (arith, short)))
    ∙ none_begins line n cs (All-tail (λ d. begins line d ≡ true → length d.line_name < 0) c cs h)

other_length : (line : List ℕ) (n : ℕ) (c : CommandPlace) → begins_with line n c ≡ false → (begins line c ≡ true → length c.line_name < n + 1)
    → begins line c ≡ true → length c.line_name < n
other_length line n c apart most begun_here =
    let other : (length c.line_name == n) ≡ false = sym (ap (λ b. b && (length c.line_name == n)) begun_here) ∙ apart in
    let differ : length c.line_name ≡ n → ⊥ = eqb-false (length c.line_name) n other in
    omega (arith, most begun_here, differ)

shorter_by : (b : Bool) (line : List ℕ) (n : ℕ) (c : CommandPlace) (cs : List CommandPlace) → begins_with line n c ≡ b → cond b (Some c) (find (begins_with line n) cs) ≡ None
    → (b ≡ false) × (find (begins_with line n) cs ≡ None)
shorter_by true line n c cs e h = cc
shorter_by false line n c cs e h = (refl, h)

-- where no name of this length begins the line, those that begin it are shorter
pub all_shorter : (line : List ℕ) (n : ℕ) (cs : List CommandPlace) → find (begins_with line n) cs ≡ None → BeginWithin (n + 1) line cs → BeginWithin n line cs
all_shorter line n [] h within = All-nil (λ d. begins line d ≡ true → length d.line_name < n)
all_shorter line n (c ∷ cs) h within =
    let no = shorter_by (begins_with line n c) line n c cs refl h in
    All-cons (λ d. begins line d ≡ true → length d.line_name < n) c cs
    (other_length line n c no.0 (All-head (λ d. begins line d ≡ true → length d.line_name < n + 1) c cs within))
    (all_shorter line n cs no.1 (All-tail (λ d. begins line d ≡ true → length d.line_name < n + 1) c cs within))

-- a name that begins the line is no longer than the line
begun_within : (line : List ℕ) (c : CommandPlace) → begins line c ≡ true → length c.line_name ≤ length line
begun_within line c begun_here =
    let parts = both (bytes_eq (letters_of c.line_name) (letters_of (take (length c.line_name) line))) (ends_before (drop (length c.line_name) line)) begun_here in
    let same : letters_of c.line_name ≡ letters_of (take (length c.line_name) line) = same_name (letters_of c.line_name) (letters_of (take (length c.line_name) line)) parts.0 in
    let long : length c.line_name ≡ length (take (length c.line_name) line) = sym (length-map c.line_name _) ∙ ap length same ∙ length-map (take (length c.line_name) line) _ in
    omega (arith, long, length-take (length c.line_name) line)

pub begin_within : (line : List ℕ) (most : ℕ) (cs : List CommandPlace) → AreWithin most cs → BeginWithin (min (length line) most + 1) line cs
begin_within line most cs h =
    All-weaker (λ c. length c.line_name ≤ most) (λ c. begins line c ≡ true → length c.line_name < min (length line) most + 1)
    (λ c short yes. omega (arith, short, begun_within line c yes)) cs h

-- ---- how the longest is sought

pub found_is : (o : Option CommandPlace) (line : List ℕ) (n count : ℕ) (cs : List CommandPlace) → o ≡ find (begins_with line n) cs → is_some o ≡ true → n + 1 ≡ count
    → BeginWithin count line cs → o ≡ line_command line cs
found_is None line n count cs e h next within = cc
found_is (Some d) line n count cs e h next within = sym (first_longest line n d cs (sym e) (subst (λ k. BeginWithin k line cs) (sym next) within))

pub goes_shorter : (o : Option CommandPlace) (line : List ℕ) (n count : ℕ) (cs : List CommandPlace) → o ≡ find (begins_with line n) cs → is_some o ≡ false → n + 1 ≡ count
    → BeginWithin count line cs → BeginWithin n line cs
goes_shorter (Some d) line n count cs e h next within = cc
goes_shorter None line n count cs e h next within = all_shorter line n cs (sym e) (subst (λ k. BeginWithin k line cs) (sym next) within)

pub none_is : (line : List ℕ) (count : ℕ) (cs : List CommandPlace) → count ≡ 0 → BeginWithin count line cs → None ≡ line_command line cs
none_is line count cs e within = sym (none_begins line (longest line cs) cs (subst (λ k. BeginWithin k line cs) e within))

take_front : (n m : ℕ) (xs : List ℕ) → n ≤ m → take n (take m xs) ≡ take n xs
take_front zero m xs h = refl
take_front (suc n) zero xs h = absurd (omega (arith, h))
take_front (suc n) (suc m) [] h = refl
take_front (suc n) (suc m) (x ∷ xs) h = ap (λ ys. x ∷ ys) (take_front n m xs (omega (arith, h)))

pub lowered_front : (line letters : List ℕ) (n : ℕ) → n ≤ length letters → letters ≡ letters_of (take (length letters) line)
    → take n letters ≡ letters_of (take (length (take n letters)) line)
lowered_front line letters n within lowered =
    ap (take n) lowered ∙ take-map _ n (take (length letters) line) ∙ ap letters_of (take_front n (length letters) line within)
    ∙ ap (λ k. letters_of (take k line)) (sym (length-take-le n letters within))

pub rest_of : (line : List ℕ) (n : ℕ) → take (length line - n) (drop n line) ≡ drop n line
rest_of line n = take_all (length line - n) (drop n line) (omega (arith, length-drop n line))
