-- The search for a ring: what is found is reached, and once what is found was looked into, all that is reached is found.
use Rattle.std.proofs.Common.{◌≡◌, ◌≤◌, ◌<◌, ◌+◌, ◌-◌, ◌++◌, ◌==◌, ℕ, Bool, true, false, cond, length, take, get_or, List, [], ◌∷◌, Option, Some, None, refl, sym, ap, ◌∙◌, subst, arith}
use Rattle.std.specs.Prelude.{All, is_some, option_map, ◌||◌, if◌then◌else◌}
use Rattle.std.specs.Cmp.Lexicographic.{pointwise}
use Rattle.std.specs.Str.{bytes_eq}
use Rattle.std.proofs.lemmas.List.{append-nil, append_assoc, length-append, length_push, take_more, take_all, take-append-le, get_or_append_left}
use Rattle.std.proofs.lemmas.List.Elements.{All-nil, All-cons, All-head, All-tail, All-get_or, All-push, All-append, All-weaker}
use Rattle.std.proofs.lemmas.Option.{slice_get-get_or}
use Rattle.std.proofs.lemmas.Slice.Eq.{bytes_eq-Decides}
use Rattle.cl_syntax.specs.StandardTypes.{standard_named}
use Rattle.cl_syntax.specs.TypeSpecTree.{TypeSpecTree}
use Rattle.cl_syntax.specs.declared.type_names.StandardType.{StandardType}
use Rattle.cl_table.specs.Names.{named, declared_in}
use Rattle.cl_lattice.specs.Members.{is_token}
use Rattle.cl_lattice.specs.RingSearch.{Found, inherited, with_mention, with_mentions, inherited_of, inherited_at, has}
use Rattle.cl_lattice.specs.Rings.{names_in, Mentions, mentions, Reaches, directly, through}
use Rattle.cl_lattice.specs.Sizes.{inherited_by}
use Rattle.cl_lattice.specs.World.{World, kind_in}
use Rattle.cl_lattice.specs.declared.declared_types.DeclaredType.{DeclaredType}
use Rattle.cl_lattice.specs.declared.rings.Mentioned.{Mentioned}
use Rattle.cl_lattice.proofs.RingEntries.{same_name, has_more, has_last, missing, missing_less}
use Rattle.cl_lattice.proofs.RingParts.{inherited_is, mention}

-- a user type that is found is reached from the one where the search began
pub record IsReached (w : World) (x : List ℕ) (e : List ℕ × Mentioned) : Type 0 where
  pub spec : TypeSpecTree
  pub same : e.1.name ≡ e.0
  pub is : inherited w e.0 ≡ Some spec
  pub reaches : Reaches w x e.0

some_of : {A : Type 0} (o : Option A) → is_some o ≡ true → (a : A) × (o ≡ Some a)
some_of (Some a) h = (a, refl)
some_of None h = cc

some-inj : {A : Type 0} (a b : A) → Some a ≡ Some b → a ≡ b
some-inj a b e = cc

-- one mention further
reaches_on : (w : World) (x y z : List ℕ) → Reaches w x y → Mentions w y z → Reaches w x z
reaches_on w _ _ z (directly x y m) n = through x y z m (directly y z n)
reaches_on w _ _ z (through x y v m r) n = through x y z m (reaches_on w y v z r n)

-- a user type stands in the table of types
by_kind : (x : List ℕ) (o : Option StandardType) (d : Option DeclaredType) → is_some (inherited_by o (kind_in d)) ≡ true → is_some d ≡ true
by_kind x (Some t) d h = cc
by_kind x None None h = cc
by_kind x None (Some d) h = refl

user_declared : (w : World) (x : List ℕ) → is_some (inherited w x) ≡ true → has x w.types ≡ true
user_declared w x h = by_kind x (standard_named x) (named x w.types) h

-- ---- what is found grows

-- the user types among names are found
abbrev pub Finds : World → List (List ℕ) → Found → Type 0
Finds w xs found = (y : List ℕ) → is_token xs y ≡ true → is_some (inherited w y) ≡ true → has y found ≡ true

-- the user types among names are reached
abbrev pub AllReached : World → List ℕ → List (List ℕ) → Type 0
AllReached w x xs = (y : List ℕ) (t : TypeSpecTree) → is_token xs y ≡ true → inherited w y ≡ Some t → Reaches w x y

pub record Adds (w : World) (x y : List ℕ) (found new : Found) : Type 0 where
  pub more : Found
  pub is : new ≡ found ++ more
  pub finds : is_some (inherited w y) ≡ true → has y new ≡ true
  pub fewer : missing w.types new + length new ≤ missing w.types found + length found
  pub sound : ((t : TypeSpecTree) → inherited w y ≡ Some t → Reaches w x y) → All (IsReached w x) more

is_reached : (w : World) (x y : List ℕ) → is_some (inherited w y) ≡ true → ((t : TypeSpecTree) → inherited w y ≡ Some t → Reaches w x y)
    → IsReached w x (y, record { name = y })
is_reached w x y h r =
    let one = some_of (inherited w y) h in
    record { spec = one.0; same = refl; is = one.1; reaches = r one.0 one.1 }

adds_by : (b c : Bool) (w : World) (x y : List ℕ) (found : Found) → is_some (inherited w y) ≡ b → has y found ≡ c
    → Adds w x y found (if b then (if c then found else found ++ (y, record { name = y }) ∷ []) else found)
adds_by false c w x y found h k =
    record { more = []; is = sym (append-nil found); finds = λ there. cc; fewer = omega arith; sound = λ r. All-nil (IsReached w x) }
adds_by true true w x y found h k =
    record { more = []; is = sym (append-nil found); finds = λ there. k; fewer = omega arith; sound = λ r. All-nil (IsReached w x) }
adds_by true false w x y found h k =
    record {
      more = (y, record { name = y }) ∷ [];
      is = refl;
      finds = λ there. has_last y (record { name = y }) found;
      fewer = omega (arith, missing_less y (record { name = y }) w.types found (user_declared w y h) k, length_push found (y, record { name = y }));
      sound = λ r. All-cons (IsReached w x) (y, record { name = y }) [] (is_reached w x y h r) (All-nil (IsReached w x));
    }

pub record AddsAll (w : World) (x : List ℕ) (xs : List (List ℕ)) (found new : Found) : Type 0 where
  pub more : Found
  pub is : new ≡ found ++ more
  pub finds : Finds w xs new
  pub fewer : missing w.types new + length new ≤ missing w.types found + length found
  pub sound : AllReached w x xs → All (IsReached w x) more

finds_by : (w : World) (y : List ℕ) (xs : List (List ℕ)) (new : Found) (z : List ℕ) (b : Bool) → bytes_eq y z ≡ b → (is_some (inherited w y) ≡ true → has y new ≡ true) → Finds w xs new
    → (b || is_token xs z) ≡ true → is_some (inherited w z) ≡ true → has z new ≡ true
finds_by w y xs new z true e here more k u =
    let same : y ≡ z = same_name y z e in
    subst (λ (v : List ℕ). is_some (inherited w v) ≡ true → has v new ≡ true) same here u
finds_by w y xs new z false e here more k u = more z k u

first_token : (y : List ℕ) (xs : List (List ℕ)) (b : Bool) → b ≡ true → (b || is_token xs y) ≡ true
first_token y xs true h = refl
first_token y xs false h = cc

later_token : (y : List ℕ) (xs : List (List ℕ)) (b : Bool) → is_token xs y ≡ true → (b || is_token xs y) ≡ true
later_token y xs true h = refl
later_token y xs false h = h

pub adds_all : (w : World) (x : List ℕ) (xs : List (List ℕ)) (found : Found) → AddsAll w x xs found (with_mentions w xs found)
adds_all w x [] found =
    record { more = []; is = sym (append-nil found); finds = λ y h u. cc; fewer = omega arith; sound = λ r. All-nil (IsReached w x) }
adds_all w x (y ∷ xs) found =
    let next : Found = with_mention w y found in
    let one : Adds w x y found next = adds_by (is_some (inherited w y)) (has y found) w x y found refl refl in
    let rest : AddsAll w x xs next (with_mentions w xs next) = adds_all w x xs next in
    let new : Found = with_mentions w xs next in
    record {
      more = one.more ++ rest.more;
      is = rest.is ∙ ap (λ es. es ++ rest.more) one.is ∙ append_assoc found one.more rest.more;
      finds = λ z k u. finds_by w y xs new z (bytes_eq y z) refl (λ h. ap (λ (es : Found). has y es) rest.is ∙ has_more y next rest.more (one.finds h)) rest.finds k u;
      fewer = omega (arith, one.fewer, rest.fewer);
      sound = λ r. All-append (IsReached w x) one.more rest.more
          (one.sound (λ t e. r y t (first_token y xs (bytes_eq y y) (own y)) e))
          (rest.sound (λ z t k e. r z t (later_token z xs (bytes_eq y z) k) e));
    }
  where
    own : (v : List ℕ) → bytes_eq v v ≡ true
    own v = (bytes_eq-Decides v v).1 refl

-- what the user type of an entry mentions is found
abbrev pub IsLookedInto : World → Found → List ℕ × Mentioned → Type 0
IsLookedInto w found e = (t : TypeSpecTree) → inherited w e.0 ≡ Some t → Finds w (names_in t) found

finds_more : (w : World) (xs : List (List ℕ)) (found more new : Found) → new ≡ found ++ more → Finds w xs found → Finds w xs new
finds_more w xs found more new is f y k u = ap (λ (es : Found). has y es) is ∙ has_more y found more (f y k u)

looked_more : (w : World) (found more new es : Found) → new ≡ found ++ more → All (IsLookedInto w found) es → All (IsLookedInto w new) es
looked_more w found more new es is a =
    All-weaker (IsLookedInto w found) (IsLookedInto w new) (λ e old t h. finds_more w (names_in t) found more new is (old t h)) es a

-- ---- the search

pub record Search (w : World) (x : List ℕ) (s : TypeSpecTree) (found : Found) (place : ℕ) : Type 0 where
  pub within : place ≤ length found
  pub sound : All (IsReached w x) found
  pub root : Finds w (names_in s) found
  pub looked : All (IsLookedInto w found) (take place found)

pub search_begins : (w : World) (x : List ℕ) (s : TypeSpecTree) → inherited w x ≡ Some s → Search w x s (with_mentions w (names_in s) []) 0
search_begins w x s e =
    let new : Found = with_mentions w (names_in s) [] in
    let adds : AddsAll w x (names_in s) [] new = adds_all w x (names_in s) [] in
    record {
      within = omega arith;
      sound = subst (All (IsReached w x)) (sym adds.is) (adds.sound (λ y t k h. directly x y (mention w x y s t e h k)));
      root = adds.finds;
      looked = All-nil (IsLookedInto w new);
    }

pub nobody : List ℕ × Mentioned
nobody = ([], record { name = [] })

at_place : (w : World) (x : List ℕ) (s : TypeSpecTree) (found : Found) (place : ℕ) → Search w x s found place → place < length found → IsReached w x (get_or found place nobody)
at_place w x s found place r l = All-get_or (IsReached w x) found place nobody l r.sound

inherited_there : (w : World) (x : List ℕ) (e : List ℕ × Mentioned) (r : IsReached w x e) → inherited_of w (Some e.1) ≡ Some r.spec
inherited_there w x e r = ap (inherited w) r.same ∙ r.is

found_inherits : (w : World) (x : List ℕ) (s : TypeSpecTree) (found : Found) (place : ℕ) (r : Search w x s found place) (l : place < length found)
    → inherited_at w found place ≡ Some (at_place w x s found place r l).spec
found_inherits w x s found place r l =
    ap (λ o. inherited_of w (declared_in o)) (slice_get-get_or found place nobody l) ∙ inherited_there w x (get_or found place nobody) (at_place w x s found place r l)

pub is_there : (w : World) (x : List ℕ) (s : TypeSpecTree) (found : Found) (place : ℕ) → Search w x s found place → place < length found → inherited_at w found place ≡ None → ⊥
is_there w x s found place r l e =
    let no : Some (at_place w x s found place r l).spec ≡ None = sym (found_inherits w x s found place r l) ∙ e in
    cc

pub search_goes_on : (w : World) (x : List ℕ) (s : TypeSpecTree) (found : Found) (place : ℕ) (t : TypeSpecTree) → Search w x s found place → place < length found
    → inherited_at w found place ≡ Some t → Search w x s (with_mentions w (names_in t) found) (place + 1)
search_goes_on w x s found place t r l e =
    let new : Found = with_mentions w (names_in t) found in
    let adds : AddsAll w x (names_in t) found new = adds_all w x (names_in t) found in
    let one : IsReached w x (get_or found place nobody) = at_place w x s found place r l in
    let y : List ℕ = (get_or found place nobody).0 in
    let same : t ≡ one.spec = some-inj t one.spec (sym e ∙ found_inherits w x s found place r l) in
    let own : inherited w y ≡ Some t = one.is ∙ ap Some (sym same) in
    let longer : length new ≡ length found + length adds.more = ap length adds.is ∙ length-append found adds.more in
    let inside : place < length new = omega (arith, longer) in
    let front : take place new ≡ take place found = ap (take place) adds.is ∙ take-append-le place found adds.more r.within in
    let here : get_or new place nobody ≡ get_or found place nobody = ap (λ (es : Found). get_or es place nobody) adds.is ∙ get_or_append_left found adds.more nobody place l in
    let looked_here : IsLookedInto w new (get_or found place nobody) = λ u h. subst (λ (v : TypeSpecTree). Finds w (names_in v) new) (some-inj t u (sym own ∙ h)) adds.finds in
    record {
      within = omega (arith, longer);
      sound = subst (All (IsReached w x)) (sym adds.is) (All-append (IsReached w x) found adds.more r.sound
          (adds.sound (λ z u k h. reaches_on w x y z one.reaches (mention w y z t u own h k))));
      root = finds_more w (names_in s) found adds.more new adds.is r.root;
      looked = subst (All (IsLookedInto w new)) (ap (λ (es : Found). es ++ get_or found place nobody ∷ []) (sym front) ∙ ap (λ (a : List ℕ × Mentioned). take place new ++ a ∷ []) (sym here) ∙ sym (take_more new place nobody inside))
          (All-push (IsLookedInto w new) (take place found) (get_or found place nobody) (looked_more w found adds.more new (take place found) adds.is r.looked) looked_here);
    }

-- ---- the end of the search

found_at : (b : Bool) (x : List ℕ) (e : List ℕ × Mentioned) (es : Found) → pointwise ◌==◌ x e.0 ≡ b → is_some (cond b (Some e.1) (named x es)) ≡ true
    → (P : List ℕ × Mentioned → Type 0) → (has x es ≡ true → All P es → (a : List ℕ × Mentioned) × ((a.0 ≡ x) × P a)) → All P (e ∷ es) → (a : List ℕ × Mentioned) × ((a.0 ≡ x) × P a)
found_at true x e es same h P rest all = (e, (sym (same_name x e.0 same), All-head P e es all))
found_at false x e es same h P rest all = rest h (All-tail P e es all)

-- what is there has what all have
at_name : (x : List ℕ) (es : Found) (P : List ℕ × Mentioned → Type 0) → has x es ≡ true → All P es → (a : List ℕ × Mentioned) × ((a.0 ≡ x) × P a)
at_name x [] P h all = cc
at_name x (e ∷ es) P h all = found_at (pointwise ◌==◌ x e.0) x e es refl h P (λ there rest. at_name x es P there rest) all

-- what one mentions is found, so all that it reaches is
all_found : (w : World) (y z : List ℕ) (found : Found) → Reaches w y z → IsLookedInto w found (y, record { name = y }) → All (IsLookedInto w found) found → has z found ≡ true
all_found w _ _ found (directly y z (mentions u v i j m)) looked all = looked u.inherit_from (inherited_is w y u i) z m (ap is_some (inherited_is w z v j))
all_found w _ _ found (through y v z (mentions u t i j m) r) looked all =
    let there : has v found ≡ true = looked u.inherit_from (inherited_is w y u i) v m (ap is_some (inherited_is w v t j)) in
    let one = at_name v found (IsLookedInto w found) there all in
    all_found w v z found r (λ s h. one.1.1 s (ap (inherited w) one.1.0 ∙ h)) all

pub reaches_found : (w : World) (x : List ℕ) (s : TypeSpecTree) (found : Found) (place : ℕ) → inherited w x ≡ Some s → Search w x s found place → length found ≤ place
    → Reaches w x x → has x found ≡ true
reaches_found w x s found place e r l ring =
    let all : All (IsLookedInto w found) found = subst (All (IsLookedInto w found)) (take_all place found l) r.looked in
    all_found w x x found ring (λ t h. subst (λ (v : TypeSpecTree). Finds w (names_in v) found) (some-inj s t (sym e ∙ h)) r.root) all

pub found_reaches : (w : World) (x : List ℕ) (s : TypeSpecTree) (found : Found) (place : ℕ) → Search w x s found place → has x found ≡ true → Reaches w x x
found_reaches w x s found place r h =
    let one = at_name x found (IsReached w x) h r.sound in
    subst (λ (y : List ℕ). Reaches w x y) one.1.0 one.1.1.reaches

pub search_falls : (w : World) (x : List ℕ) (t : TypeSpecTree) (found : Found) (place : ℕ) → place < length found
    → missing w.types (with_mentions w (names_in t) found) + length (with_mentions w (names_in t) found) - (place + 1) < missing w.types found + length found - place
search_falls w x t found place l =
    let adds : AddsAll w x (names_in t) found (with_mentions w (names_in t) found) = adds_all w x (names_in t) found in
    omega (arith, adds.fewer)

pub some_map : {A B : Type 0} (f : A → B) (o : Option A) → is_some (option_map f o) ≡ is_some o
some_map f None = refl
some_map f (Some a) = refl
