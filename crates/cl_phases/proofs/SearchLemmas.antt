-- The search for a slot through calls, from what was found and looked into before: what is found since is reached, and once all that
-- is found was looked into, nothing else is.
use Rattle.std.proofs.Common.{◌≡◌, ◌≤◌, ◌<◌, ◌+◌, ◌-◌, ◌++◌, ◌==◌, ℕ, Bool, true, false, cond, length, take, get_or, List}
use Rattle.std.proofs.Common.{[], ◌∷◌, Option, Some, None, refl, sym, ap, ◌∙◌, subst, arith}
use Rattle.std.specs.Prelude.{All, Contains, is_some, if◌then◌else◌}
use Rattle.std.specs.Cmp.Lexicographic.{pointwise}
use Rattle.std.proofs.lemmas.List.{append-nil, append_assoc, length-append, length_push, take_more, take_all, take-append-le, get_or_append_left, get_or-append_right}
use Rattle.std.proofs.lemmas.List.Elements.{All-nil, All-cons, All-head, All-tail, All-get_or, All-push, All-append, All-contains, All-weaker, Contains-get_or}
use Rattle.std.proofs.lemmas.Option.{slice_get-get_or}
use Rattle.cl_syntax.specs.ExprTree.{ExprTree}
use Rattle.cl_table.specs.Names.{named, declared_in}
use Rattle.cl_application.specs.declared.declarations.FunctionDecl.{FunctionDecl}
use Rattle.cl_phases.specs.declared.slot_reads.Reached.{Reached}
use Rattle.cl_phases.specs.SlotReads.{Functions, ReadsSlot}
use Rattle.cl_phases.specs.SlotSearch.{Found, names_slot, calls, with_call, with_calls, body_of, body_named, body_at, has, IsClosed, IsLookedInto, AreClear}
use Rattle.cl_phases.proofs.Entries.{same_name, has_more, has_last, missing, missing_less}
use Rattle.cl_phases.proofs.UseLemmas.{Reaches, itself, calling, ReachesSlot, read_is_reached, reached_is_read}

-- a function that is found is declared, and reached
pub record IsReached (fs : Functions) (t : ExprTree) (e : List ℕ × Reached) : Type 0 where
  pub function : FunctionDecl
  pub same : e.1.name ≡ e.0
  pub declared : named e.0 fs ≡ Some function
  pub reaches : Reaches fs t function.body

some_of : {A : Type 0} (o : Option A) → is_some o ≡ true → (a : A) × (o ≡ Some a)
some_of (Some a) h = (a, refl)
some_of None h = cc

-- through one call more
reaches_on : (fs : Functions) (t u : ExprTree) (x : List ℕ) (f : FunctionDecl) → Reaches fs t u → Contains (calls u) x → named x fs ≡ Some f → Reaches fs t f.body
reaches_on _ _ _ x f (itself fs t) c d = calling fs t f.body x f c d (itself fs f.body)
reaches_on _ _ _ x f (calling fs t u y g k e r) c d = calling fs t f.body y g k e (reaches_on fs g.body u x f r c d)

-- ---- what is found grows

abbrev pub AllReached : Functions → ExprTree → List (List ℕ) → Type 0
AllReached fs t xs = All (λ x. (f : FunctionDecl) → named x fs ≡ Some f → Reaches fs t f.body) xs

pub record Adds (fs : Functions) (t : ExprTree) (x : List ℕ) (found new : Found) : Type 0 where
  pub more : Found
  pub is : new ≡ found ++ more
  pub finds : has x fs ≡ true → has x new ≡ true
  pub fewer : missing fs new + length new ≤ missing fs found + length found
  pub sound : ((f : FunctionDecl) → named x fs ≡ Some f → Reaches fs t f.body) → All (IsReached fs t) more

is_reached : (fs : Functions) (t : ExprTree) (x : List ℕ) → has x fs ≡ true → ((f : FunctionDecl) → named x fs ≡ Some f → Reaches fs t f.body) → IsReached fs t (x, record { name = x })
is_reached fs t x h r =
    let one = some_of (named x fs) h in
    record { function = one.0; same = refl; declared = one.1; reaches = r one.0 one.1 }

adds_by : (b c : Bool) (fs : Functions) (t : ExprTree) (x : List ℕ) (found : Found) → has x fs ≡ b → has x found ≡ c
    → Adds fs t x found (if b then (if c then found else found ++ (x, record { name = x }) ∷ []) else found)
adds_by false c fs t x found h k =
    record { more = []; is = sym (append-nil found); finds = λ there. cc; fewer = omega arith; sound = λ r. All-nil (IsReached fs t) }
adds_by true true fs t x found h k =
    record { more = []; is = sym (append-nil found); finds = λ there. k; fewer = omega arith; sound = λ r. All-nil (IsReached fs t) }
adds_by true false fs t x found h k =
    record {
      more = (x, record { name = x }) ∷ [];
      is = refl;
      finds = λ there. has_last x (record { name = x }) found;
      fewer = omega (arith, missing_less x (record { name = x }) fs found h k, length_push found (x, record { name = x }));
      sound = λ r. All-cons (IsReached fs t) (x, record { name = x }) [] (is_reached fs t x h r) (All-nil (IsReached fs t));
    }

pub record AddsAll (fs : Functions) (t : ExprTree) (xs : List (List ℕ)) (found new : Found) : Type 0 where
  pub more : Found
  pub is : new ≡ found ++ more
  pub finds : All (λ x. has x fs ≡ true → has x new ≡ true) xs
  pub fewer : missing fs new + length new ≤ missing fs found + length found
  pub sound : AllReached fs t xs → All (IsReached fs t) more

pub adds_all : (fs : Functions) (t : ExprTree) (xs : List (List ℕ)) (found : Found) → AddsAll fs t xs found (with_calls fs xs found)
adds_all fs t [] found =
    record { more = []; is = sym (append-nil found); finds = All-nil (λ x. has x fs ≡ true → has x found ≡ true); fewer = omega arith; sound = λ r. All-nil (IsReached fs t) }
adds_all fs t (x ∷ xs) found =
    let next : Found = with_call fs x found in
    let one : Adds fs t x found next = adds_by (has x fs) (has x found) fs t x found refl refl in
    let rest : AddsAll fs t xs next (with_calls fs xs next) = adds_all fs t xs next in
    let new : Found = with_calls fs xs next in
    record {
      more = one.more ++ rest.more;
      is = rest.is ∙ ap (λ es. es ++ rest.more) one.is ∙ append_assoc found one.more rest.more;
      finds = All-cons (λ y. has y fs ≡ true → has y new ≡ true) x xs (λ h. ap (λ (es : Found). has x es) rest.is ∙ has_more x next rest.more (one.finds h)) rest.finds;
      fewer = omega (arith, one.fewer, rest.fewer);
      sound = λ r. All-append (IsReached fs t) one.more rest.more (one.sound (All-head (λ y. (f : FunctionDecl) → named y fs ≡ Some f → Reaches fs t f.body) x xs r))
          (rest.sound (All-tail (λ y. (f : FunctionDecl) → named y fs ≡ Some f → Reaches fs t f.body) x xs r));
    }

closed_more : (fs : Functions) (found more new : Found) (t : ExprTree) → new ≡ found ++ more → IsClosed fs found t → IsClosed fs new t
closed_more fs found more new t is c = record {
  no_slot = c.no_slot;
  finds = All-weaker (λ x. has x fs ≡ true → has x found ≡ true) (λ x. has x fs ≡ true → has x new ≡ true)
      (λ x old h. ap (λ (es : Found). has x es) is ∙ has_more x found more (old h)) (calls t) c.finds;
}

-- what was looked into stays so
looked_more : (fs : Functions) (found more new es : Found) → new ≡ found ++ more → All (IsLookedInto fs found) es → All (IsLookedInto fs new) es
looked_more fs found more new es is a =
    All-weaker (IsLookedInto fs found) (IsLookedInto fs new) (λ e old f d. closed_more fs found more new f.body is (old f d)) es a

-- ---- the search

-- from what was found before, which was looked into
pub record Search (fs : Functions) (t : ExprTree) (old found : Found) (place : ℕ) : Type 0 where
  pub since : Found
  pub is : found ≡ old ++ since
  pub behind : length old ≤ place
  pub within : place ≤ length found
  pub sound : All (IsReached fs t) since
  pub root : IsClosed fs found t
  pub looked : All (IsLookedInto fs found) (take place found)

pub search_begins : (fs : Functions) (t : ExprTree) (old : Found) → AreClear fs old → names_slot t ≡ false → Search fs t old (with_calls fs (calls t) old) (length old)
search_begins fs t old a h =
    let new : Found = with_calls fs (calls t) old in
    let adds : AddsAll fs t (calls t) old new = adds_all fs t (calls t) old in
    let longer : length new ≡ length old + length adds.more = ap length adds.is ∙ length-append old adds.more in
    let front : take (length old) new ≡ old = ap (take (length old)) adds.is ∙ take-append-le (length old) old adds.more (omega arith) ∙ take_all (length old) old (omega arith) in
    record {
      since = adds.more;
      is = adds.is;
      behind = omega arith;
      within = omega (arith, longer);
      sound = adds.sound (λ k d l f e. calling fs t f.body (get_or (calls t) k d) f (Contains-get_or (calls t) k d l) e (itself fs f.body));
      root = record { no_slot = h; finds = adds.finds };
      looked = subst (All (IsLookedInto fs new)) (sym front) (looked_more fs old adds.more new old adds.is a);
    }

pub nobody : List ℕ × Reached
nobody = ([], record { name = [] })

-- the function that was found at a place
pub at_place : (fs : Functions) (t : ExprTree) (old found : Found) (place : ℕ) → Search fs t old found place → place < length found → IsReached fs t (get_or found place nobody)
at_place fs t old found place s l =
    let longer : length found ≡ length old + length s.since = ap length s.is ∙ length-append old s.since in
    let here : get_or found place nobody ≡ get_or s.since (place - length old) nobody =
    ap (λ (es : Found). get_or es place nobody) s.is ∙ get_or-append_right old s.since (length old) place nobody refl s.behind in
    subst (IsReached fs t) (sym here) (All-get_or (IsReached fs t) s.since (place - length old) nobody (omega (arith, longer, s.behind)) s.sound)

body_declared : (fs : Functions) (t : ExprTree) (e : List ℕ × Reached) (r : IsReached fs t e) → body_named fs (Some e.1) ≡ Some r.function.body
body_declared fs t e r = ap (λ x. body_of (named x fs)) r.same ∙ ap body_of r.declared

pub body_found : (fs : Functions) (t : ExprTree) (old found : Found) (place : ℕ) (s : Search fs t old found place) (l : place < length found)
    → body_at fs found place ≡ Some (at_place fs t old found place s l).function.body
body_found fs t old found place s l =
    ap (λ o. body_named fs (declared_in o)) (slice_get-get_or found place nobody l) ∙ body_declared fs t (get_or found place nobody) (at_place fs t old found place s l)

some-inj : {A : Type 0} (a b : A) → Some a ≡ Some b → a ≡ b
some-inj a b e = cc

-- a slot in the body of a function that was found is read
pub found_reads : (fs : Functions) (t : ExprTree) (old found : Found) (place : ℕ) (b : ExprTree) → Search fs t old found place → place < length found
    → body_at fs found place ≡ Some b → names_slot b ≡ true → ReadsSlot fs t
found_reads fs t old found place b s l e h =
    let r : IsReached fs t (get_or found place nobody) = at_place fs t old found place s l in
    let same : b ≡ r.function.body = some-inj b r.function.body (sym e ∙ body_found fs t old found place s l) in
    reached_is_read fs t (record { reached = r.function.body; reaches = r.reaches; names = ap names_slot (sym same) ∙ h })

pub body_is_there : (fs : Functions) (t : ExprTree) (old found : Found) (place : ℕ) → Search fs t old found place → place < length found → body_at fs found place ≡ None → ⊥
body_is_there fs t old found place s l e = let no : Some (at_place fs t old found place s l).function.body ≡ None = sym (body_found fs t old found place s l) ∙ e in cc

looked_into : (fs : Functions) (t : ExprTree) (new : Found) (e : List ℕ × Reached) (r : IsReached fs t e) (b : ExprTree) → b ≡ r.function.body → IsClosed fs new b → IsLookedInto fs new e
looked_into fs t new e r b same c f d =
    let one : r.function ≡ f = some-inj r.function f (sym r.declared ∙ d) in
    subst (IsClosed fs new) (same ∙ ap (λ (g : FunctionDecl). g.body) one) c

pub search_goes_on : (fs : Functions) (t : ExprTree) (old found : Found) (place : ℕ) (b : ExprTree) → Search fs t old found place → place < length found
    → body_at fs found place ≡ Some b → names_slot b ≡ false → Search fs t old (with_calls fs (calls b) found) (place + 1)
search_goes_on fs t old found place b s l e h =
    let new : Found = with_calls fs (calls b) found in
    let adds : AddsAll fs t (calls b) found new = adds_all fs t (calls b) found in
    let r : IsReached fs t (get_or found place nobody) = at_place fs t old found place s l in
    let same : b ≡ r.function.body = some-inj b r.function.body (sym e ∙ body_found fs t old found place s l) in
    let to_b : Reaches fs t b = subst (Reaches fs t) (sym same) r.reaches in
    let longer : length new ≡ length found + length adds.more = ap length adds.is ∙ length-append found adds.more in
    let inside : place < length new = omega (arith, longer) in
    let front : take place new ≡ take place found = ap (take place) adds.is ∙ take-append-le place found adds.more s.within in
    let here : get_or new place nobody ≡ get_or found place nobody = ap (λ (es : Found). get_or es place nobody) adds.is ∙ get_or_append_left found adds.more nobody place l in
    let closed : IsClosed fs new b = record { no_slot = h; finds = adds.finds } in
    record {
      since = s.since ++ adds.more;
      is = adds.is ∙ ap (λ es. es ++ adds.more) s.is ∙ append_assoc old s.since adds.more;
      behind = omega (arith, s.behind);
      within = omega (arith, longer);
      sound = All-append (IsReached fs t) s.since adds.more s.sound
          (adds.sound (λ k d i f g. reaches_on fs t b (get_or (calls b) k d) f to_b (Contains-get_or (calls b) k d i) g));
      root = closed_more fs found adds.more new t adds.is s.root;
      looked = subst (All (IsLookedInto fs new)) (ap (λ (es : Found). es ++ get_or found place nobody ∷ []) (sym front) ∙ ap (λ (a : List ℕ × Reached). take place new ++ a ∷ []) (sym here) ∙ sym (take_more new place nobody inside))
          (All-push (IsLookedInto fs new) (take place found) (get_or found place nobody)
          (looked_more fs found adds.more new (take place found) adds.is s.looked)
          (looked_into fs t new (get_or found place nobody) r b same closed));
    }

-- ---- the end of the search

found_at : (b : Bool) (x : List ℕ) (e : List ℕ × Reached) (es : Found) → pointwise ◌==◌ x e.0 ≡ b → is_some (cond b (Some e.1) (named x es)) ≡ true
    → (P : List ℕ × Reached → Type 0) → (has x es ≡ true → All P es → (a : List ℕ × Reached) × ((a.0 ≡ x) × P a)) → All P (e ∷ es) → (a : List ℕ × Reached) × ((a.0 ≡ x) × P a)
found_at true x e es same h P rest all = (e, (sym (same_name x e.0 same), All-head P e es all))
found_at false x e es same h P rest all = rest h (All-tail P e es all)

-- what is there has what all have
at_name : (x : List ℕ) (es : Found) (P : List ℕ × Reached → Type 0) → has x es ≡ true → All P es → (a : List ℕ × Reached) × ((a.0 ≡ x) × P a)
at_name x [] P h all = cc
at_name x (e ∷ es) P h all = found_at (pointwise ◌==◌ x e.0) x e es refl h P (λ there rest. at_name x es P there rest) all

closed_through : (fs : Functions) (t u : ExprTree) (found : Found) → Reaches fs t u → IsClosed fs found t → AreClear fs found → IsClosed fs found u
closed_through _ _ _ found (itself fs t) c all = c
closed_through _ _ _ found (calling fs t u x f k d r) c all =
    let there : has x found ≡ true = All-contains (λ y. has y fs ≡ true → has y found ≡ true) (calls t) x c.finds k (ap is_some d) in
    let one = at_name x found (IsLookedInto fs found) there all in
    closed_through fs f.body u found r (one.1.1 f (ap (λ (y : List ℕ). named y fs) one.1.0 ∙ d)) all

-- all that is found was looked into
pub all_clear : (fs : Functions) (t : ExprTree) (old found : Found) (place : ℕ) → Search fs t old found place → length found ≤ place → AreClear fs found
all_clear fs t old found place s l = subst (All (IsLookedInto fs found)) (take_all place found l) s.looked

pub search_ends : (fs : Functions) (t : ExprTree) (old found : Found) (place : ℕ) → Search fs t old found place → length found ≤ place → ReadsSlot fs t → ⊥
search_ends fs t old found place s l reads =
    let r : ReachesSlot fs t = read_is_reached fs t reads in
    let c : IsClosed fs found r.reached = closed_through fs t r.reached found r.reaches s.root (all_clear fs t old found place s l) in
    let no : true ≡ false = sym r.names ∙ c.no_slot in cc

pub reads_itself : (fs : Functions) (t : ExprTree) → names_slot t ≡ true → ReadsSlot fs t
reads_itself fs t h = reached_is_read fs t (record { reached = t; reaches = itself fs t; names = h })
