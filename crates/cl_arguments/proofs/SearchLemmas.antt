-- The search for a wrong argument, from what was found and looked into before: what is found since comes from the specifier, and once all
-- that is found was looked into, nothing else comes from it.
use Rattle.std.proofs.Common.{◌≡◌, ◌≤◌, ◌<◌, ◌+◌, ◌-◌, ◌++◌, ℕ, Bool, true, false, length, take, get_or, List, [], ◌∷◌, Some, None, refl, sym, ap, ◌∙◌, subst, arith}
use Rattle.std.specs.Prelude.{All, Contains, if◌then◌else◌, slice_get}
use Rattle.std.specs.List.{list_any}
use Rattle.std.proofs.lemmas.List.{append-nil, append_assoc, length-append, take_more, take_all, take-append-le, get_or_append_left, get_or-append_right}
use Rattle.std.proofs.lemmas.List.Elements.{All-nil, All-cons, All-get_or, All-push, All-append, All-contains, All-weaker, Contains-get_or, Contains-append_left, Contains-append_right}
use Rattle.std.proofs.lemmas.Option.{slice_get-get_or, get_or_from_slice_get, none-some}
use Rattle.indexmap.proofs.CallerLemmas.{Contains-insert_key}
use Rattle.cl_syntax.specs.TypeSpecTree.{TypeSpecTree}
use Rattle.cl_arguments.specs.Probes.{is_wrong, own_probes}
use Rattle.cl_arguments.specs.Misfits.{Types, next, ComesToWrong, here, further, Misfits}
use Rattle.cl_arguments.specs.ProbeSearch.{with_probe, with_probes, IsLookedInto, AreClear}
use Rattle.cl_arguments.specs.contracts.probes.ProbePartialEq.TheImpl as probe_eq
use Rattle.cl_arguments.specs.declared.probes.Probe.{Probe}
use Rattle.cl_arguments.proofs.SameProbes.{same_probe}

-- ---- what is found grows

-- what was found stays, all of these are found now, and nothing but these is new
pub record Adds (ps old new : List Probe) : Type 0 where
  pub more : List Probe
  pub is : new ≡ old ++ more
  pub only : All (Contains ps) more
  pub finds : All (Contains new) ps

record Behind (p : Probe) (old new : List Probe) : Type 0 where
  more : List Probe
  is : new ≡ old ++ more
  only : (ps : List Probe) → Contains ps p → All (Contains ps) more

behind_by : (b : Bool) (p : Probe) (old : List Probe) → Behind p old (if b then old else old ++ p ∷ [])
behind_by true p old = record { more = []; is = sym (append-nil old); only = λ ps h. All-nil (Contains ps) }
behind_by false p old = record { more = p ∷ []; is = refl; only = λ ps h. All-cons (Contains ps) p [] h (All-nil (Contains ps)) }

pub adds : (ps old : List Probe) → Adds ps old (with_probes ps old)
adds [] old = record { more = []; is = sym (append-nil old); only = All-nil (Contains []); finds = All-nil (Contains old) }
adds (p ∷ ps) old =
    let mid : List Probe = with_probe old p in
    let one : Behind p old mid = behind_by (list_any ((probe_eq.ghosts).eq p) old) p old in
    let rest : Adds ps mid (with_probes ps mid) = adds ps mid in
    let has : Contains mid p = Contains-insert_key (probe_eq.ghosts).eq same_probe old p in
    record {
      more = one.more ++ rest.more;
      is = rest.is ∙ ap (λ (es : List Probe). es ++ rest.more) one.is ∙ append_assoc old one.more rest.more;
      only = All-append (Contains (p ∷ ps)) one.more rest.more (one.only (p ∷ ps) (Contains-get_or (p ∷ ps) 0 p (omega arith)))
          (All-weaker (Contains ps) (Contains (p ∷ ps)) (Contains-append_right (p ∷ []) ps) rest.more rest.only);
      finds = All-cons (Contains (with_probes ps mid)) p ps (subst (λ (es : List Probe). Contains es p) (sym rest.is) (Contains-append_left mid rest.more p has)) rest.finds;
    }

contains_more : (found more new : List Probe) → new ≡ found ++ more → (q : Probe) → Contains found q → Contains new q
contains_more found more new is q h = subst (λ (es : List Probe). Contains es q) (sym is) (Contains-append_left found more q h)

-- what was looked into stays so
looked_more : (types : Types) (found more new es : List Probe) → new ≡ found ++ more → All (IsLookedInto types found) es → All (IsLookedInto types new) es
looked_more types found more new es is a =
    All-weaker (IsLookedInto types found) (IsLookedInto types new)
    (λ q old. record { fits = old.fits; finds = All-weaker (Contains found) (Contains new) (contains_more found more new is) (next types q) old.finds }) es a

-- ---- the search

-- where it comes to stand where it is not taken, so does an argument of the specifier
abbrev pub ComesFrom : Types → TypeSpecTree → Probe → Type 0
ComesFrom types s q = ComesToWrong types q → Misfits types s

-- from what was found before, which was looked into
pub record Search (types : Types) (s : TypeSpecTree) (old found : List Probe) (place : ℕ) : Type 0 where
  pub since : List Probe
  pub is : found ≡ old ++ since
  pub behind : length old ≤ place
  pub within : place ≤ length found
  pub sound : All (ComesFrom types s) since
  pub own : All (Contains found) (own_probes s)
  pub looked : All (IsLookedInto types found) (take place found)

own_comes : (types : Types) (s : TypeSpecTree) (q : Probe) → Contains (own_probes s) q → ComesFrom types s q
own_comes types s q own wrong = record { probe = q; own = own; wrong = wrong }

pub search_begins : (types : Types) (s : TypeSpecTree) (old : List Probe) → AreClear types old → Search types s old (with_probes (own_probes s) old) (length old)
search_begins types s old a =
    let new : List Probe = with_probes (own_probes s) old in
    let add : Adds (own_probes s) old new = adds (own_probes s) old in
    let longer : length new ≡ length old + length add.more = ap length add.is ∙ length-append old add.more in
    let front : take (length old) new ≡ old = ap (take (length old)) add.is ∙ take-append-le (length old) old add.more (omega arith) ∙ take_all (length old) old (omega arith) in
    record {
      since = add.more;
      is = add.is;
      behind = omega arith;
      within = omega (arith, longer);
      sound = All-weaker (Contains (own_probes s)) (ComesFrom types s) (own_comes types s) add.more add.only;
      own = add.finds;
      looked = subst (All (IsLookedInto types new)) (sym front) (looked_more types old add.more new old add.is a);
    }

-- the one at a place
at_place : (found : List Probe) (place : ℕ) (q : Probe) → Some q ≡ slice_get found place → get_or found place q ≡ q
at_place found place q e = get_or_from_slice_get found place q q (sym e)

pub is_there : (found : List Probe) (place : ℕ) → place < length found → None ≡ slice_get found place → ⊥
is_there [] place l e = absurd (omega (arith, l))
is_there (p ∷ ps) place l e = none-some (get_or (p ∷ ps) place p) (e ∙ slice_get-get_or (p ∷ ps) place p l)

comes_from : (types : Types) (s : TypeSpecTree) (old found : List Probe) (place : ℕ) (q : Probe) → Search types s old found place → place < length found
    → Some q ≡ slice_get found place → ComesFrom types s q
comes_from types s old found place q f l e =
    let longer : length found ≡ length old + length f.since = ap length f.is ∙ length-append old f.since in
    let there : get_or found place q ≡ get_or f.since (place - length old) q =
    ap (λ (es : List Probe). get_or es place q) f.is ∙ get_or-append_right old f.since (length old) place q refl f.behind in
    subst (ComesFrom types s) (sym there ∙ at_place found place q e) (All-get_or (ComesFrom types s) f.since (place - length old) q (omega (arith, longer, f.behind)) f.sound)

-- a wrong one that is found
pub search_finds : (types : Types) (s : TypeSpecTree) (old found : List Probe) (place : ℕ) (q : Probe) → Search types s old found place → place < length found
    → Some q ≡ slice_get found place → is_wrong q ≡ true → Misfits types s
search_finds types s old found place q f l e w = comes_from types s old found place q f l e (here q w)

pub search_goes_on : (types : Types) (s : TypeSpecTree) (old found : List Probe) (place : ℕ) (q : Probe) → Search types s old found place → place < length found
    → Some q ≡ slice_get found place → is_wrong q ≡ false → Search types s old (with_probes (next types q) found) (place + 1)
search_goes_on types s old found place q f l e w =
    let new : List Probe = with_probes (next types q) found in
    let add : Adds (next types q) found new = adds (next types q) found in
    let longer : length new ≡ length found + length add.more = ap length add.is ∙ length-append found add.more in
    let inside : place < length new = omega (arith, longer) in
    let front : take place new ≡ take place found = ap (take place) add.is ∙ take-append-le place found add.more f.within in
    let there : get_or new place q ≡ q = ap (λ (es : List Probe). get_or es place q) add.is ∙ get_or_append_left found add.more q place l ∙ at_place found place q e in
    let all : take (place + 1) new ≡ take place found ++ q ∷ [] = take_more new place q inside ∙ ap (λ (p : Probe). take place new ++ p ∷ []) there ∙ ap (λ (es : List Probe). es ++ q ∷ []) front in
    record {
      since = f.since ++ add.more;
      is = add.is ∙ ap (λ (es : List Probe). es ++ add.more) f.is ∙ append_assoc old f.since add.more;
      behind = omega (arith, f.behind);
      within = omega (arith, longer);
      sound = All-append (ComesFrom types s) f.since add.more f.sound
          (All-weaker (Contains (next types q)) (ComesFrom types s) (λ r n wrong. comes_from types s old found place q f l e (further q r n wrong)) add.more add.only);
      own = All-weaker (Contains found) (Contains new) (contains_more found add.more new add.is) (own_probes s) f.own;
      looked = subst (All (IsLookedInto types new)) (sym all)
          (All-push (IsLookedInto types new) (take place found) q (looked_more types found add.more new (take place found) add.is f.looked) (record { fits = w; finds = add.finds }));
    }

-- ---- the end of the search

-- all that is found was looked into
pub all_clear : (types : Types) (s : TypeSpecTree) (old found : List Probe) (place : ℕ) → Search types s old found place → length found ≤ place → AreClear types found
all_clear types s old found place f l = subst (All (IsLookedInto types found)) (take_all place found l) f.looked

none_wrong : (types : Types) (found : List Probe) (q : Probe) → AreClear types found → ComesToWrong types q → Contains found q → ⊥
none_wrong types found _ all (here q w) c =
    let one : IsLookedInto types found q = All-contains (IsLookedInto types found) found q all c in
    let no : true ≡ false = sym w ∙ one.fits in cc
none_wrong types found _ all (further q r n d) c =
    let one : IsLookedInto types found q = All-contains (IsLookedInto types found) found q all c in
    none_wrong types found r all d (All-contains (Contains found) (next types q) r one.finds n)

pub search_ends : (types : Types) (s : TypeSpecTree) (old found : List Probe) (place : ℕ) → Search types s old found place → length found ≤ place → Misfits types s → ⊥
search_ends types s old found place f l m =
    none_wrong types found m.probe (all_clear types s old found place f l) m.wrong (All-contains (Contains found) (own_probes s) m.probe f.own m.own)
