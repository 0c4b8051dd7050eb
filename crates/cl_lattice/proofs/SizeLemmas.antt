-- What is left of a number of nodes after several sizes.
use Rattle.std.proofs.Common.{List}
use Rattle.cl_syntax.specs.declared.type_specs.TypeOptions.{TypeOptions}
use Rattle.std.proofs.Common.{◌≡◌, ◌<◌, ℕ, zero, suc, ◌+◌, ◌-◌, Bool, true, false, Option, Some, None, refl, sym, ap, ◌∙◌, arith}
use Rattle.std.specs.Prelude.{nat_le, if◌then◌else◌, is_some}
use Rattle.std.proofs.lemmas.Bool.Decides.{nat_tests}
use Rattle.cl_syntax.specs.StandardTypes.{standard_named}
use Rattle.cl_syntax.specs.TypeSpecTree.{TypeSpecTree, specifier, TypeArgTrees}
use Rattle.cl_lattice.specs.Budgets.{left}
use Rattle.cl_lattice.specs.Sizes.{both, nodes_within, sized_args, inherited_by, inherited_size, is_small, fits, most_depth, most_nodes}
use Rattle.cl_lattice.specs.World.{World, kind_named}

-- what is left after one size, and after another
abbrev pub after : Option ℕ → Option ℕ → Option ℕ
after None n = None
after (Some m) n = left n m

by_tests : (m n b : ℕ) (p q r : Bool) → nat_le (m + n) b ≡ p → nat_le m b ≡ q → nat_le n (b - m) ≡ r
    → (if p then Some (b - (m + n)) else None) ≡ after (if q then Some (b - m) else None) (Some n)
by_tests m n b true true true h k l = grind (arith, nat_tests)
by_tests m n b true true false h k l = grind (arith, nat_tests)
by_tests m n b true false true h k l = grind (arith, nat_tests)
by_tests m n b true false false h k l = grind (arith, nat_tests)
by_tests m n b false true true h k l = grind (arith, nat_tests)
by_tests m n b false true false h k l = grind (arith, nat_tests)
by_tests m n b false false true h k l = refl
by_tests m n b false false false h k l = refl

-- two sizes together leave what the second leaves of what the first leaves
pub left_both : (m n : Option ℕ) (b : ℕ) → left (both m n) b ≡ after (left m b) n
left_both None n b = refl
left_both (Some m) None b = sym (none_left (left (Some m) b))
  where
    none_left : (o : Option ℕ) → after o None ≡ None
    none_left None = refl
    none_left (Some k) = refl
left_both (Some m) (Some n) b = by_tests m n b (nat_le (m + n) b) (nat_le m b) (nat_le n (b - m)) refl refl refl

after_both : (o m n : Option ℕ) → after o (both m n) ≡ after (after o m) n
after_both None m n = refl
after_both (Some b) m n = left_both m n b

-- the parts of a specifier that nests at least itself
pub within_more : (w : World) (n : ℕ) (x : List ℕ) (ts : TypeArgTrees) (o : TypeOptions) → 0 < n
    → nodes_within n w (specifier x ts o)
    ≡ both (Some 1) (both (sized_args (nodes_within (n - 1) w) ts) (inherited_size (nodes_within (n - 1) w) (inherited_by (standard_named x) (kind_named x w))))
within_more w zero x ts o h = absurd (omega arith)
within_more w (suc k) x ts o h =
    let less : suc k - 1 ≡ k = omega arith in
    rw less refl

pub left_within : (w : World) (n b : ℕ) (x : List ℕ) (ts : TypeArgTrees) (o : TypeOptions) → 0 < n
    → left (nodes_within n w (specifier x ts o)) b
    ≡ after (after (left (Some 1) b) (sized_args (nodes_within (n - 1) w) ts)) (inherited_size (nodes_within (n - 1) w) (inherited_by (standard_named x) (kind_named x w)))
left_within w n b x ts o h =
    ap (λ (m : Option ℕ). left m b) (within_more w n x ts o h)
    ∙ left_both (Some 1) (both (sized_args (nodes_within (n - 1) w) ts) (inherited_size (nodes_within (n - 1) w) (inherited_by (standard_named x) (kind_named x w)))) b
    ∙ after_both (left (Some 1) b) (sized_args (nodes_within (n - 1) w) ts) (inherited_size (nodes_within (n - 1) w) (inherited_by (standard_named x) (kind_named x w)))

is_left : (m : Option ℕ) → is_some (left m most_nodes) ≡ is_small m
is_left None = refl
is_left (Some m) = by_small (nat_le m most_nodes)
  where
    by_small : (b : Bool) → is_some (if b then Some (most_nodes - m) else None) ≡ b
    by_small true = refl
    by_small false = refl

-- something is left of the greatest size exactly where a specifier fits
pub fits_left : (w : World) (s : TypeSpecTree) → is_some (left (nodes_within most_depth w s) most_nodes) ≡ fits w s
unfolding fits
fits_left w s = is_left (nodes_within most_depth w s)
