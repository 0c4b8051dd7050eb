use Rattle.std.proofs.Common.{rules, ℕ, ◌≡◌, [], length, Bool, List, ap, sym, subst, ◌∙◌}
use Rattle.std.proofs.lemmas.Option.{IfSome_then}
use Rattle.std.specs.Prelude.{IfSome}
use Rattle.cl_lattice.specs.Arguments.{given_by, trees_of}
use Rattle.cl_lattice.specs.Expanded.{ExpandedTypes, none, part, some_of}
use Rattle.cl_lattice.specs.Expansion.{expand_parts, expansion, own_type, next_parts}
use Rattle.cl_lattice.specs.SubtypeHeads.{head_type}
use Rattle.cl_lattice.specs.SubtypeRows.{InnerTells, KnownTells, RowOf, RowTells, TellsAll, known, parts_of, row_of, both_rows, either_row}
use Rattle.cl_lattice.specs.SubtypeWays.{ByFirst, EachBelow, SomeBelow}
use Rattle.cl_lattice.specs.Subtypes.{IsSubtype}
use Rattle.cl_lattice.specs.declared.heads.Head.{Head}
use Rattle.cl_lattice.specs.declared.rows.Row.{Row}
use Rattle.cl_lattice.proofs.ExpansionLemmas.{parts_next}
use Rattle.cl_lattice.proofs.SubtypeFillLemmas.{host_lighter, host_row}
use Rattle.cl_lattice.proofs.SubtypeRowLemmas.{all_same, all_tell, both_tell, either_tells, from_start}
use Rattle.cl_lattice.proofs.SubtypeSplitLemmas.{or_split}
use Rattle.cl_lattice.proofs.lattices.Lattice.+rows.Goals as goal

pub head_row-returns-in-SomeOf-Known : goal.head_row-returns-in-SomeOf-Known
head_row-returns-in-SomeOf-Known t c =
    let w = c.args.self.now in
    let g = given_by c.args.bound.now in
    let qs = parts_of (expansion w [] c.args.second.now) in
    let a = head_type w g c.args.first.now in
    let ps = expand_parts w (own_type w) g (trees_of c.in-SomeOf-Known.field-0-0.now) in
    let rs = c.in-SomeOf-Known.answers.items in
    let told : TellsAll (ByFirst a) qs rs = subst (λ (r : Row). RowTells (ByFirst a) qs (row_of r)) c.in-SomeOf-Known.is-1 c.in_ok-firsts.ensures in
    let each : TellsAll (EachBelow ps) qs rs = subst (λ (h : Head). TellsAll (ByFirst (head_type w g h)) qs rs) c.in-SomeOf-Known.is-0 told in
    subst (λ (h : Head). TellsAll (IsSubtype (head_type w g h)) qs rs) (sym c.in-SomeOf-Known.is-0)
    (all_same (EachBelow ps) (IsSubtype (some_of ps)) (or_split ps) qs rs each)

pub filled_row-fill-requires-clause-known : goal.filled_row-fill-requires-clause-known
filled_row-fill-requires-clause-known t c =
    let w = c.args.self.now in
    let g = given_by c.args.bound.now in
    let qs = parts_of (expansion w [] c.args.second.now) in
    let a = head_type w g c.args.first.now in
    let f = row_of c.args.firsts.now in
    let rs = c.as_slice.result.now in
    let begun : KnownTells a qs 0 f rs = record {
      firsts_tell = from_start (ByFirst a) qs f c.requires.firsts;
      inner_tells = subst (λ (v : List Bool). InnerTells a qs v) (sym c.as_slice.ensures.value) c.in_ok-inner.ensures;
    } in
    subst (λ (n : ℕ). KnownTells a qs n f rs) (sym (ap length c.new-out.ensures)) begun

pub firsts-returns-in-SomeOf : goal.firsts-returns-in-SomeOf
firsts-returns-in-SomeOf t c =
    let w = c.args.self.now in
    let g = given_by c.args.bound.now in
    let qs = parts_of (expansion w [] c.args.second.now) in
    subst (λ (h : Head). IfSome c.each_row.result (λ r. RowTells (ByFirst (head_type w g h)) qs (row_of r))) (sym c.in-SomeOf.is) c.each_row.ensures

pub firsts-returns-in-EachOf : goal.firsts-returns-in-EachOf
firsts-returns-in-EachOf t c =
    let w = c.args.self.now in
    let g = given_by c.args.bound.now in
    let qs = parts_of (expansion w [] c.args.second.now) in
    subst (λ (h : Head). IfSome c.some_row.result (λ r. RowTells (ByFirst (head_type w g h)) qs (row_of r))) (sym c.in-EachOf.is) c.some_row.ensures

pub firsts-head_row-requires : goal.firsts-head_row-requires
firsts-head_row-requires t c =
    let w = c.args.self.now in
    let g = given_by c.args.bound.now in
    let less = host_lighter (head_type w g c.args.first.now) (head_type w g c.in_ok-numbers-in-Host.numbers) (c.in_ok-numbers-in-Host.ensures.same w g) in
    search (rules, less)

pub firsts-returns-in_ok-head_row-in-Host : goal.firsts-returns-in_ok-head_row-in-Host
firsts-returns-in_ok-head_row-in-Host t c =
    let w = c.args.self.now in
    let g = given_by c.args.bound.now in
    let qs = parts_of (expansion w [] c.args.second.now) in
    host_row (head_type w g c.args.first.now) (head_type w g c.in_ok-numbers-in-Host.numbers) qs c.in_ok-head_row-in-Host.field-0.items (c.in_ok-numbers-in-Host.ensures.same w g) c.in_ok-head_row-in-Host.ensures

pub firsts-returns-in_ok-row-in-User : goal.firsts-returns-in_ok-row-in-User
firsts-returns-in_ok-row-in-User t c =
    let w = c.args.self.now in
    let g = given_by c.args.bound.now in
    let qs = parts_of (expansion w [] c.args.second.now) in
    subst (λ (h : Head). TellsAll (ByFirst (head_type w g h)) qs c.in_ok-row-in-User.field-0.items) (sym c.in-User.is) c.in_ok-row-in-User.ensures

pub inner_row-returns-in-Sequence : goal.inner_row-returns-in-Sequence
inner_row-returns-in-Sequence t c =
    let w = c.args.self.now in
    let g = given_by c.args.bound.now in
    let qs = parts_of (expansion w [] c.args.second.now) in
    subst (λ (h : Head). IfSome c.row.result (λ v. InnerTells (head_type w g h) qs v.items)) (sym c.in-Sequence.is)
    (IfSome_then c.row.result c.row.ensures (λ v k. all_tell (IsSubtype (expansion w g c.in-Sequence.part.now)) qs v.items k))

pub inner_row-returns-in-NullOr : goal.inner_row-returns-in-NullOr
inner_row-returns-in-NullOr t c =
    let w = c.args.self.now in
    let g = given_by c.args.bound.now in
    let qs = parts_of (expansion w [] c.args.second.now) in
    subst (λ (h : Head). IfSome c.row-in-NullOr.result (λ v. InnerTells (head_type w g h) qs v.items)) (sym c.in-NullOr.is)
    (IfSome_then c.row-in-NullOr.result c.row-in-NullOr.ensures (λ v k. all_tell (IsSubtype (expansion w g c.in-NullOr.part.now)) qs v.items k))

pub inner_row-returns-in-TokenOr : goal.inner_row-returns-in-TokenOr
inner_row-returns-in-TokenOr t c =
    let w = c.args.self.now in
    let g = given_by c.args.bound.now in
    let qs = parts_of (expansion w [] c.args.second.now) in
    subst (λ (h : Head). IfSome c.row-in-TokenOr.result (λ v. InnerTells (head_type w g h) qs v.items)) (sym c.in-TokenOr.is)
    (IfSome_then c.row-in-TokenOr.result c.row-in-TokenOr.ensures (λ v k. all_tell (IsSubtype (expansion w g c.in-TokenOr.part.now)) qs v.items k))

pub each_row-row-requires : goal.each_row-row-requires
each_row-row-requires t c =
    let w = c.args.self.now in
    let g = given_by c.args.bound.now in
    let qs = parts_of (expansion w [] c.args.second.now) in
    let ps = expand_parts w (own_type w) g (trees_of c.args.parts.now) in
    let u = expansion w g c.in-Some.part.now in
    let ms = expand_parts w (own_type w) g (trees_of c.in-Some.more.now) in
    let split : ps ≡ part u ms = parts_next w (own_type w) g (trees_of c.args.parts.now) ∙ ap (next_parts w (own_type w) g) (sym c.in-Some.ensures) in
    search (rules, split)

pub each_row-each_row-requires : goal.each_row-each_row-requires
each_row-each_row-requires t c =
    let w = c.args.self.now in
    let g = given_by c.args.bound.now in
    let qs = parts_of (expansion w [] c.args.second.now) in
    let ps = expand_parts w (own_type w) g (trees_of c.args.parts.now) in
    let u = expansion w g c.in-Some.part.now in
    let ms = expand_parts w (own_type w) g (trees_of c.in-Some.more.now) in
    let split : ps ≡ part u ms = parts_next w (own_type w) g (trees_of c.args.parts.now) ∙ ap (next_parts w (own_type w) g) (sym c.in-Some.ensures) in
    search (rules, split)

pub each_row-returns-in_ok-later-in-Some : goal.each_row-returns-in_ok-later-in-Some
each_row-returns-in_ok-later-in-Some t c =
    let w = c.args.self.now in
    let g = given_by c.args.bound.now in
    let qs = parts_of (expansion w [] c.args.second.now) in
    let ps = expand_parts w (own_type w) g (trees_of c.args.parts.now) in
    let u = expansion w g c.in-Some.part.now in
    let ms = expand_parts w (own_type w) g (trees_of c.in-Some.more.now) in
    let split : ps ≡ part u ms = parts_next w (own_type w) g (trees_of c.args.parts.now) ∙ ap (next_parts w (own_type w) g) (sym c.in-Some.ensures) in
    let xs = c.in_ok-row-in-Some.row.items in
    let later = row_of c.in_ok-later-in-Some.later in
    let told : RowTells (EachBelow (part u ms)) qs (both_rows (known xs) later) =
    both_tell (IsSubtype u) (EachBelow ms) qs (known xs) later c.in_ok-row-in-Some.ensures c.in_ok-later-in-Some.ensures in
    let whole : RowTells (EachBelow ps) qs (both_rows (known xs) later) = subst (λ (v : ExpandedTypes). RowTells (EachBelow v) qs (both_rows (known xs) later)) (sym split) told in
    IfSome_then c.both.result c.both.ensures (λ r e. subst (λ (v : RowOf). RowTells (EachBelow ps) qs v) (sym e) whole)

pub each_row-returns-in-None : goal.each_row-returns-in-None
each_row-returns-in-None t c =
    let w = c.args.self.now in
    let g = given_by c.args.bound.now in
    let qs = parts_of (expansion w [] c.args.second.now) in
    let ps = expand_parts w (own_type w) g (trees_of c.args.parts.now) in
    let split : ps ≡ none = parts_next w (own_type w) g (trees_of c.args.parts.now) ∙ ap (next_parts w (own_type w) g) (sym c.in-None.ensures) in
    λ q. subst (λ (v : ExpandedTypes). EachBelow v q) (sym split) tt

pub some_row-row-requires : goal.some_row-row-requires
some_row-row-requires t c =
    let w = c.args.self.now in
    let g = given_by c.args.bound.now in
    let qs = parts_of (expansion w [] c.args.second.now) in
    let ps = expand_parts w (own_type w) g (trees_of c.args.parts.now) in
    let u = expansion w g c.in-Some.part.now in
    let ms = expand_parts w (own_type w) g (trees_of c.in-Some.more.now) in
    let split : ps ≡ part u ms = parts_next w (own_type w) g (trees_of c.args.parts.now) ∙ ap (next_parts w (own_type w) g) (sym c.in-Some.ensures) in
    search (rules, split)

pub some_row-some_row-requires : goal.some_row-some_row-requires
some_row-some_row-requires t c =
    let w = c.args.self.now in
    let g = given_by c.args.bound.now in
    let qs = parts_of (expansion w [] c.args.second.now) in
    let ps = expand_parts w (own_type w) g (trees_of c.args.parts.now) in
    let u = expansion w g c.in-Some.part.now in
    let ms = expand_parts w (own_type w) g (trees_of c.in-Some.more.now) in
    let split : ps ≡ part u ms = parts_next w (own_type w) g (trees_of c.args.parts.now) ∙ ap (next_parts w (own_type w) g) (sym c.in-Some.ensures) in
    search (rules, split)

pub some_row-returns-in_ok-later-in-Some : goal.some_row-returns-in_ok-later-in-Some
some_row-returns-in_ok-later-in-Some t c =
    let w = c.args.self.now in
    let g = given_by c.args.bound.now in
    let qs = parts_of (expansion w [] c.args.second.now) in
    let ps = expand_parts w (own_type w) g (trees_of c.args.parts.now) in
    let u = expansion w g c.in-Some.part.now in
    let ms = expand_parts w (own_type w) g (trees_of c.in-Some.more.now) in
    let split : ps ≡ part u ms = parts_next w (own_type w) g (trees_of c.args.parts.now) ∙ ap (next_parts w (own_type w) g) (sym c.in-Some.ensures) in
    let xs = c.in_ok-row-in-Some.row.items in
    let later = row_of c.in_ok-later-in-Some.later in
    let told : RowTells (SomeBelow (part u ms)) qs (either_row (known xs) later) =
    either_tells (IsSubtype u) (SomeBelow ms) qs (known xs) later c.in_ok-row-in-Some.ensures c.in_ok-later-in-Some.ensures in
    let whole : RowTells (SomeBelow ps) qs (either_row (known xs) later) = subst (λ (v : ExpandedTypes). RowTells (SomeBelow v) qs (either_row (known xs) later)) (sym split) told in
    IfSome_then c.either.result c.either.ensures (λ r e. subst (λ (v : RowOf). RowTells (SomeBelow ps) qs v) (sym e) whole)

pub some_row-returns-in-None : goal.some_row-returns-in-None
some_row-returns-in-None t c =
    let w = c.args.self.now in
    let g = given_by c.args.bound.now in
    let qs = parts_of (expansion w [] c.args.second.now) in
    let ps = expand_parts w (own_type w) g (trees_of c.args.parts.now) in
    let split : ps ≡ none = parts_next w (own_type w) g (trees_of c.args.parts.now) ∙ ap (next_parts w (own_type w) g) (sym c.in-None.ensures) in
    λ q h. subst (λ (v : ExpandedTypes). SomeBelow v q) split h
