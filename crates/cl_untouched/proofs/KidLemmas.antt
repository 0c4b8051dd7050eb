-- Children in a row, and keeps in a row.
use Rattle.std.proofs.Common.{◌≡◌, ◌∙◌, ap, refl, Bool, true, false, List, Option, Some, None}
use Rattle.std.specs.Prelude.{if◌then◌else◌}
use Rattle.cl_region.specs.declared.rects.Shift.{Shift}
use Rattle.cl_medium.specs.Items.{Item}
use Rattle.cl_record.specs.Trees.{Trees}
use Rattle.cl_display.specs.Walks.{OpeningAt, Walk, done, met, ◌then◌}
use Rattle.cl_reuse.specs.Keeping.{may_keep}
use Rattle.cl_reuse.specs.Kept.{OldUpdate, found}
use Rattle.cl_damage.specs.Agreement.{Agree}
use Rattle.cl_damage.specs.Children.{Child, Children, child, none}
use Rattle.cl_damage.specs.Keeps.{Keeps, opened}
use Rattle.cl_untouched.specs.Keeps.{at_opening, followed_by, keeps_of}
use Rattle.cl_damage.specs.Keeps as keeps

-- ---- children

-- children, and then others
abbrev pub join : Children Item → Children Item → Children Item
join none more = more
join (child k ks) more = child k (join ks more)

pub join-none : (ks : Children Item) → join ks none ≡ ks
join-none none = refl
join-none (child k ks) = ap (λ (more : Children Item). child k more) (join-none ks)

pub join-join : (ks more others : Children Item) → join (join ks more) others ≡ join ks (join more others)
join-join none more others = refl
join-join (child k ks) more others = ap (λ (rest : Children Item). child k rest) (join-join ks more others)

pub join-agrees : (ks more : Children Item) (os : List (Child Item)) → Agree ks os → Agree more os → Agree (join ks more) os
join-agrees none more os h k = k
join-agrees (child n ns) more os h k = (h.0, join-agrees ns more os h.1 k)

-- ---- keeps

pub followed-none : (ks : Keeps) → followed_by ks keeps.none ≡ ks
followed-none keeps.none = refl
followed-none (opened v inside rest) = ap (λ (more : Keeps). opened v inside more) (followed-none rest)

pub followed-twice : (ks more others : Keeps) → followed_by (followed_by ks more) others ≡ followed_by ks (followed_by more others)
followed-twice keeps.none more others = refl
followed-twice (opened v inside rest) more others = ap (λ (behind : Keeps). opened v inside behind) (followed-twice rest more others)

either-opened : (b : Bool) (v w : Option Shift) (inside other rest more : Keeps)
    → ◌≡◌ {A = Keeps} (if b then opened v inside (followed_by rest more) else opened w other (followed_by rest more))
    (followed_by (if b then opened v inside rest else opened w other rest) more)
either-opened true v w inside other rest more = refl
either-opened false v w inside other rest more = refl

opening-then : (f : Option OldUpdate) (o : OpeningAt) (inside : Shift → Trees Item → Keeps) (rest more : Keeps)
    → at_opening f o inside (followed_by rest more) ≡ followed_by (at_opening f o inside rest) more
opening-then None o inside rest more = refl
opening-then (Some old) o inside rest more = either-opened (may_keep old.head o) _ None keeps.none (inside old.place old.inside) rest more

pub keeps-then : (at : Shift) (old : Trees Item) (w u : Walk) → keeps_of at old (w then u) ≡ followed_by (keeps_of at old w) (keeps_of at old u)
keeps-then at old done u = refl
keeps-then at old (met o inside rest) u =
    let there = λ (to : Shift) (olds : Trees Item). keeps_of to olds inside in
    ap (λ (more : Keeps). at_opening (found o.site o.id at old) o there more) (keeps-then at old rest u)
    ∙ opening-then (found o.site o.id at old) o there (keeps_of at old rest) (keeps_of at old u)
