-- What is found in old records, and their children.
use Rattle.std.proofs.Common.{◌≡◌, ◌∙◌, ap, sym, subst, refl, Bool, true, false, if◌then◌else◌, List, [], ◌∷◌, ◌++◌, Option, Some, None}
use Rattle.std.specs.Prelude.{IfSome, ◌||◌}
use Rattle.cl_value.specs.Data.{Data}
use Rattle.cl_region.specs.declared.rects.Shift.{Shift}
use Rattle.cl_syntax.specs.declared.sites.Site.{Site}
use Rattle.cl_medium.specs.Items.{Item, move_item}
use Rattle.cl_record.specs.Heads.{HeadAt}
use Rattle.cl_record.specs.Shifts.{join_shifts}
use Rattle.cl_record.specs.Trees.{Tree, Trees, leaf, presentation, tree, update}
use Rattle.cl_record.specs.Trees as records
use Rattle.cl_reuse.specs.Kept.{OldUpdate, found, found_in, is_that, or_then}
use Rattle.cl_reuse.specs.Once.{AreOnce, HoldOnce, HoldsOnce, is_named, names, names_in}
use Rattle.cl_reuse.proofs.OnceForms.{name-holds, same_name}
use Rattle.cl_damage.specs.Agreement.{Each}
use Rattle.cl_damage.proofs.EachLemmas.{each_weaker}
use Rattle.cl_untouched.proofs.KidLemmas.{join, join-join}
use Rattle.cl_damage.specs.Children.{Child, Children, child, child_before, children_before, is_same_name, item, list_of, none, updated}

-- ---- names of a level

both_false : (b c : Bool) → b || c ≡ false → (b ≡ false) × (c ≡ false)
both_false true c e = absurd (cc)
both_false false c e = (refl, e)

neither : (b c : Bool) → b ≡ false → c ≡ false → b || c ≡ false
neither true c e f = absurd (cc)
neither false c e f = f

first-true : (b c : Bool) → b ≡ true → b || c ≡ true
first-true true c e = refl
first-true false c e = absurd (cc)

second-true : (b c : Bool) → c ≡ true → b || c ≡ true
second-true true c e = refl
second-true false c e = e

never-both : (b : Bool) → b ≡ true → b ≡ false → ⊥
never-both true h k = cc
never-both false h k = cc

behind-first : (a b c d : Bool) → (b || c ≡ true → d ≡ true) → (a || b) || c ≡ true → a || d ≡ true
behind-first true b c d f e = refl
behind-first false b c d f e = f e

named-apart : (site : Site) (id : Data) (ns ms : List (Site × Data)) → is_named site id (ns ++ ms) ≡ false → is_named site id ms ≡ false
named-apart site id [] ms e = e
named-apart site id (n ∷ ns) ms e = named-apart site id ns ms (both_false (same_name site id n.0 n.1) (is_named site id (ns ++ ms)) e).1

named-left : (site : Site) (id : Data) (ns ms : List (Site × Data)) → is_named site id (ns ++ ms) ≡ false → is_named site id ns ≡ false
named-left site id [] ms e = refl
named-left site id (n ∷ ns) ms e =
    let both = both_false (same_name site id n.0 n.1) (is_named site id (ns ++ ms)) e in
    neither (same_name site id n.0 n.1) (is_named site id ns) both.0 (named-left site id ns ms both.1)

named-both : (site : Site) (id : Data) (ns ms : List (Site × Data)) → is_named site id ns || is_named site id ms ≡ true → is_named site id (ns ++ ms) ≡ true
named-both site id [] ms e = e
named-both site id (n ∷ ns) ms e = behind-first (same_name site id n.0 n.1) (is_named site id ns) (is_named site id ms) (is_named site id (ns ++ ms)) (named-both site id ns ms) e

once-left : (ns ms : List (Site × Data)) → AreOnce (ns ++ ms) → AreOnce ns
once-left [] ms h = tt
once-left (n ∷ ns) ms h = (named-left n.0 n.1 ns ms h.0, once-left ns ms h.1)

once-right : (ns ms : List (Site × Data)) → AreOnce (ns ++ ms) → AreOnce ms
once-right [] ms h = h
once-right (n ∷ ns) ms h = once-right ns ms h.1

-- a name among the first is not among the others
once-apart : (site : Site) (id : Data) (ns ms : List (Site × Data)) → AreOnce (ns ++ ms) → is_named site id ns ≡ true → is_named site id ms ≡ false
once-apart site id [] ms h e = absurd (cc)
once-apart site id (n ∷ ns) ms h e = by_first (same_name site id n.0 n.1) refl e (once-apart site id ns ms h.1)
  where
    by_first : (b : Bool) → same_name site id n.0 n.1 ≡ b → b || is_named site id ns ≡ true → (is_named site id ns ≡ true → is_named site id ms ≡ false)
        → is_named site id ms ≡ false
    by_first true f g more =
        name-holds (λ s d. is_named s d (ns ++ ms) ≡ false → is_named site id ms ≡ false) site id n.0 n.1 f (named-apart site id ns ms) h.0
    by_first false f g more = more g

-- ---- children of old records

mutual
  one-join : (at : Shift) (t : Tree Item) (rest : Children Item) → child_before move_item at t rest ≡ join (child_before move_item at t none) rest
  one-join at (leaf a) rest = refl
  one-join at (presentation l p ts) rest = all-join (join_shifts p at) ts rest
  one-join at (update h p ts) rest = refl

  all-join : (at : Shift) (ts : Trees Item) (rest : Children Item) → children_before move_item at ts rest ≡ join (children_before move_item at ts none) rest
  all-join at records.none rest = refl
  all-join at (tree t ts) rest =
      let own = children_before move_item at ts none in
      one-join at t (children_before move_item at ts rest)
      ∙ (ap (λ (ks : Children Item). join (child_before move_item at t none) ks) (all-join at ts rest)
      ∙ (sym (join-join (child_before move_item at t none) own rest) ∙ ap (λ (ks : Children Item). join ks rest) (sym (one-join at t own))))

each-join : (P : Child Item → Type 0) (ks more : Children Item) → Each P (list_of ks) → Each P (list_of more) → Each P (list_of (join ks more))
each-join P none more h k = k
each-join P (child o ks) more h k = (h.0, each-join P ks more h.1 k)

-- a child of that name holds what the update holds that is found
abbrev pub IsIt : Option OldUpdate → Children Item → Type 0
IsIt None us = ⊥
IsIt (Some u) us = us ≡ children_before move_item u.place u.inside none

-- a child is as it is found
abbrev pub OldAs : Site → Data → Option OldUpdate → Child Item → Type 0
OldAs site id f (item a) = Unit {0}
OldAs site id f (updated other was us) = is_same_name (site, id) other ≡ true → IsIt f us

module _ (site : Site) (id : Data) where
  none-as : (f : Option OldUpdate) (o : Child Item) → OldAs site id None o → OldAs site id f o
  none-as f (item a) h = tt
  none-as f (updated other was us) h = λ e. absurd (h e)

  first-as : (a b : Option OldUpdate) (o : Child Item) → OldAs site id a o → OldAs site id (or_then a b) o
  first-as None b o h = none-as b o h
  first-as (Some u) b o h = h

  mutual
    unnamed-one : (at : Shift) (t : Tree Item) → is_named site id (names_in t) ≡ false
        → Each (OldAs site id None) (list_of (child_before move_item at t none))
    unnamed-one at (leaf a) e = (tt, tt)
    unnamed-one at (presentation l p ts) e = unnamed-all (join_shifts p at) ts e
    unnamed-one at (update h p ts) e =
        (λ f. never-both (same_name site id h.site h.id) f (both_false (same_name site id h.site h.id) false e).0, tt)

    unnamed-all : (at : Shift) (ts : Trees Item) → is_named site id (names ts) ≡ false
        → Each (OldAs site id None) (list_of (children_before move_item at ts none))
    unnamed-all at records.none e = tt
    unnamed-all at (tree t ts) e =
        subst (λ (ks : Children Item). Each (OldAs site id None) (list_of ks)) (sym (one-join at t (children_before move_item at ts none)))
        (each-join (OldAs site id None) (child_before move_item at t none) (children_before move_item at ts none)
        (unnamed-one at t (named-left site id (names_in t) (names ts) e)) (unnamed-all at ts (named-apart site id (names_in t) (names ts) e)))

  -- what is found is named
  test-named : (b : Bool) (u : OldUpdate) → same_name site id u.head.site u.head.id ≡ b
      → IfSome (if b then Some u else None) (λ _. same_name site id u.head.site u.head.id || false ≡ true)
  test-named true u e = rw e refl
  test-named false u e = tt

  either-named : (a b : Option OldUpdate) (x y z : Bool) → IfSome a (λ _. x ≡ true) → IfSome b (λ _. y ≡ true) → (x || y ≡ true → z ≡ true)
      → IfSome (or_then a b) (λ _. z ≡ true)
  either-named None None x y z h k f = tt
  either-named None (Some u) x y z h k f = f (second-true x y k)
  either-named (Some u) b x y z h k f = f (first-true x y h)

  mutual
    named-in : (at : Shift) (t : Tree Item) → IfSome (found_in site id at t) (λ _. is_named site id (names_in t) ≡ true)
    named-in at (leaf a) = tt
    named-in at (presentation l p ts) = named-among (join_shifts p at) ts
    named-in at (update h p ts) = test-named (is_that site id h) (record { head = h; place = join_shifts p at; inside = ts }) refl

    named-among : (at : Shift) (ts : Trees Item) → IfSome (found site id at ts) (λ _. is_named site id (names ts) ≡ true)
    named-among at records.none = tt
    named-among at (tree t ts) =
        either-named (found_in site id at t) (found site id at ts) (is_named site id (names_in t)) (is_named site id (names ts))
        (is_named site id (names_in t ++ names ts)) (named-in at t) (named-among at ts) (named-both site id (names_in t) (names ts))

  test-old : (b : Bool) (h : HeadAt) (place : Shift) (ts : Trees Item) → is_that site id h ≡ b
      → OldAs site id (if b then Some (record { head = h; place = place; inside = ts }) else None)
      (updated (h.site, h.id) None (children_before move_item place ts none))
  test-old true h place ts e = λ _. refl
  test-old false h place ts e = λ f. never-both (is_that site id h) f e

  -- the others of the level, where something was found before them
  behind-found : (a b : Option OldUpdate) (os : List (Child Item)) (ns ms : List (Site × Data)) → IfSome a (λ _. is_named site id ns ≡ true)
      → AreOnce (ns ++ ms) → (is_named site id ms ≡ false → Each (OldAs site id None) os) → Each (OldAs site id b) os
      → Each (OldAs site id (or_then a b)) os
  behind-found None b os ns ms h once unnamed k = k
  behind-found (Some u) b os ns ms h once unnamed k =
      each_weaker (OldAs site id None) (OldAs site id (Some u)) (none-as (Some u)) os (unnamed (once-apart site id ns ms once h))

  mutual
    old-one : (at : Shift) (t : Tree Item) → AreOnce (names_in t) → Each (OldAs site id (found_in site id at t)) (list_of (child_before move_item at t none))
    old-one at (leaf a) h = (tt, tt)
    old-one at (presentation l p ts) h = old-all (join_shifts p at) ts h
    old-one at (update hd p ts) h = (test-old (is_that site id hd) hd (join_shifts p at) ts refl, tt)

    -- each child of a level is the update that is found there, or has another name
    pub old-all : (at : Shift) (ts : Trees Item) → AreOnce (names ts) → Each (OldAs site id (found site id at ts)) (list_of (children_before move_item at ts none))
    old-all at records.none h = tt
    old-all at (tree t ts) h =
        let a = found_in site id at t in
        let b = found site id at ts in
        let own = child_before move_item at t none in
        let others = children_before move_item at ts none in
        subst (λ (ks : Children Item). Each (OldAs site id (or_then a b)) (list_of ks)) (sym (one-join at t others))
        (each-join (OldAs site id (or_then a b)) own others
        (each_weaker (OldAs site id a) (OldAs site id (or_then a b)) (first-as a b) (list_of own) (old-one at t (once-left (names_in t) (names ts) h)))
        (behind-found a b (list_of others) (names_in t) (names ts) (named-in at t) h (unnamed-all at ts) (old-all at ts (once-right (names_in t) (names ts) h))))

  -- ---- what the update holds that is found

  -- no level of it has a name twice
  abbrev pub IsOnce : OldUpdate → Type 0
  IsOnce u = AreOnce (names u.inside) × HoldOnce u.inside

  test-once : (b : Bool) (u : OldUpdate) → IsOnce u → IfSome (if b then Some u else None) IsOnce
  test-once true u h = h
  test-once false u h = tt

  either-once : (a b : Option OldUpdate) → IfSome a IsOnce → IfSome b IsOnce → IfSome (or_then a b) IsOnce
  either-once None b h k = k
  either-once (Some u) b h k = h

  mutual
    once-in : (at : Shift) (t : Tree Item) → HoldsOnce t → IfSome (found_in site id at t) IsOnce
    once-in at (leaf a) h = tt
    once-in at (presentation l p ts) h = once-among (join_shifts p at) ts h
    once-in at (update hd p ts) h = test-once (is_that site id hd) (record { head = hd; place = join_shifts p at; inside = ts }) h

    pub once-among : (at : Shift) (ts : Trees Item) → HoldOnce ts → IfSome (found site id at ts) IsOnce
    once-among at records.none h = tt
    once-among at (tree t ts) h = either-once (found_in site id at t) (found site id at ts) (once-in at t h.0) (once-among at ts h.1)
