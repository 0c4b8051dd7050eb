use Rattle.std.proofs.Common.{rules, ◌+◌, ◌≤◌, drop, ◌≡◌, [], ◌∷◌, length, List, Bool, true, refl, ap, sym, subst, ◌∙◌}
use Rattle.std.specs.Prelude.{◌||◌, ◌&&◌, IfSome}
use Rattle.std.proofs.lemmas.List.{drop_all, drop_more}
use Rattle.cl_lattice.specs.Arguments.{given_by, tokens_in, trees_of}
use Rattle.cl_lattice.specs.Expanded.{Expanded, ExpandedTypes, weight, weight_all, none, everything, each_of, null_or, sequence, some_of, token_or, part}
use Rattle.cl_lattice.specs.Expansion.{expand_parts, expansion, own_type}
use Rattle.cl_lattice.specs.SubtypeHeads.{head_type}
use Rattle.cl_lattice.specs.SubtypeRows.{Fills, KnownTells, parts_of, parts_of_all, row_of}
use Rattle.cl_lattice.specs.Subtypes.{IsSubtype}
use Rattle.cl_lattice.proofs.ExpansionLemmas.{parts_first, parts_later}
use Rattle.cl_lattice.proofs.SubtypeFillLemmas.{close_each, close_everything, close_null, close_sequence, close_some, close_token, finish_another, finish_below}
use Rattle.cl_lattice.proofs.SubtypeFillLemmas.{adds_none, alone_parts, null_agrees, own_tells, put_filled, put_told, sequence_agrees, token_agrees}
use Rattle.cl_lattice.proofs.SubtypeLoopLemmas.{EachLeft, SomeLeft, each_end, each_step, some_end, some_step}
use Rattle.cl_lattice.proofs.SubtypeRowLemmas.{known_first}
use Rattle.cl_syntax.specs.declared.type_specs.TypeArg.{TypeArg}
use Rattle.cl_lattice.specs.declared.heads.Head.{Head}
use Rattle.cl_lattice.proofs.lattices.Lattice.+filling.Goals as goal
use Rattle.cl_lattice.proofs.lattices.Lattice.+filling.Goals.{fill_some-in-Spec+in_ok-fill, fill_some-in_default, fill_each-in-Spec+in_ok-fill, fill_each-in_default}

pub fill-returns-then-is_another : goal.fill-returns-then-is_another
fill-returns-then-is_another t c =
    let a = head_type c.args.self.now (given_by c.args.bound.now) c.args.first.now in
    let u = expansion c.args.self.now [] c.args.second.now in
    let f = row_of c.args.known.now.firsts.now in
    let rs = c.args.known.now.inner.now in
    let x = c.args.out.now.items in
    let alone = c.if-is_another.ensures.alone refl in
    let no_way = c.if-is_another.ensures.no_way (given_by c.args.bound.now) refl in
    let ready : KnownTells a (u ∷ []) (length x) f rs = subst (λ (v : List Expanded). KnownTells a v (length x) f rs) (alone_parts u alone) c.requires.known in
    let own = c.at.ensures a u [] (own_tells a u (IsSubtype a) [] x x f rs c.count.result ready (adds_none (IsSubtype a) x) c.count.ensures) in
    put_filled a u x x c.put.new.answers.items c.at.result c.put.result c.put.ensures.same c.put.ensures.grown
    (finish_another a u x c.at.result alone no_way own)

pub fill_named-returns-then-is_same_record : goal.fill_named-returns-then-is_same_record
fill_named-returns-then-is_same_record t c =
    let a = head_type c.args.self.now (given_by c.args.bound.now) c.args.first.now in
    let u = expansion c.args.self.now [] c.args.second.now in
    let x = c.args.out.now.items in
    put_filled a u x x c.put.new.answers.items true c.put.result c.put.ensures.same c.put.ensures.grown
    (finish_below a u x (c.if-is_same_record.ensures.alone refl) (c.if-is_same_record.ensures.below (given_by c.args.bound.now) refl))

pub fill_or-fill_some-requires : goal.fill_or-fill_some-requires
fill_or-fill_some-requires t c =
    let a = head_type c.args.self.now (given_by c.args.bound.now) c.args.first.now in
    let ps = expand_parts c.args.self.now (own_type c.args.self.now) [] (trees_of c.args.parts.now) in
    (search rules, (c.requires.declared, known_first a (parts_of_all ps) (some_of ps ∷ []) (length c.args.out.now.items) (row_of c.args.known.now.firsts.now) c.args.known.now.inner.now c.requires.known))

pub fill_and-fill_each-requires : goal.fill_and-fill_each-requires
fill_and-fill_each-requires t c =
    let a = head_type c.args.self.now (given_by c.args.bound.now) c.args.first.now in
    let ps = expand_parts c.args.self.now (own_type c.args.self.now) [] (trees_of c.args.parts.now) in
    (search rules, (c.requires.declared, known_first a (parts_of_all ps) (each_of ps ∷ []) (length c.args.out.now.items) (row_of c.args.known.now.firsts.now) c.args.known.now.inner.now c.requires.known))

pub fill_or-returns : goal.fill_or-returns
fill_or-returns t c =
    let a = head_type c.args.self.now (given_by c.args.bound.now) c.args.first.now in
    let ps = expand_parts c.args.self.now (own_type c.args.self.now) [] (trees_of c.args.parts.now) in
    let x = c.args.out.now.items in
    let y = c.fill_some.new.out.items in
    let filled = c.in_ok-some.ensures in
    let own = c.at-own.ensures a (some_of ps) []
    (own_tells a (some_of ps) (IsSubtype a) (parts_of_all ps) x y (row_of c.args.known.now.firsts.now) c.args.known.now.inner.now c.count.result c.requires.known filled.adds c.count.ensures) in
    put_told a (some_of ps) x y c.put.new.answers.items (c.in_ok-some.some || c.at-own.result) c.or.result c.put.result c.or.ensures c.put.ensures.same c.put.ensures.grown
    (close_some a ps x y c.in_ok-some.some c.at-own.result filled own)

pub fill_and-returns : goal.fill_and-returns
fill_and-returns t c =
    let a = head_type c.args.self.now (given_by c.args.bound.now) c.args.first.now in
    let ps = expand_parts c.args.self.now (own_type c.args.self.now) [] (trees_of c.args.parts.now) in
    let x = c.args.out.now.items in
    let y = c.fill_each.new.out.items in
    put_filled a (each_of ps) x y c.put.new.answers.items c.in_ok-each.each c.put.result c.put.ensures.same c.put.ensures.grown
    (close_each a ps x y c.in_ok-each.each c.in_ok-each.ensures)

pub fill_sequence-fill-requires : goal.fill_sequence-fill-requires
fill_sequence-fill-requires t c =
    let a = head_type c.args.self.now (given_by c.args.bound.now) c.args.first.now in
    let u = expansion c.args.self.now [] c.args.part.now in
    (search rules, (c.requires.declared, known_first a (parts_of u) ((sequence u) ∷ []) (length c.args.out.now.items) (row_of c.args.known.now.firsts.now) c.args.known.now.inner.now c.requires.known))

pub fill_null-fill-requires : goal.fill_null-fill-requires
fill_null-fill-requires t c =
    let a = head_type c.args.self.now (given_by c.args.bound.now) c.args.first.now in
    let u = expansion c.args.self.now [] c.args.part.now in
    (search rules, (c.requires.declared, known_first a (parts_of u) ((null_or u) ∷ []) (length c.args.out.now.items) (row_of c.args.known.now.firsts.now) c.args.known.now.inner.now c.requires.known))

pub fill_token-fill-requires : goal.fill_token-fill-requires
fill_token-fill-requires t c =
    let a = head_type c.args.self.now (given_by c.args.bound.now) c.args.first.now in
    let u = expansion c.args.self.now [] c.args.part.now in
    let ys = tokens_in (trees_of c.args.args.now) in
    (search rules, (c.requires.declared, known_first a (parts_of u) ((token_or ys u) ∷ []) (length c.args.out.now.items) (row_of c.args.known.now.firsts.now) c.args.known.now.inner.now c.requires.known))

pub fill_sequence-returns : goal.fill_sequence-returns
fill_sequence-returns t c =
    let a = head_type c.args.self.now (given_by c.args.bound.now) c.args.first.now in
    let u = expansion c.args.self.now [] c.args.part.now in
    let f = row_of c.args.known.now.firsts.now in
    let rs = c.args.known.now.inner.now in
    let x = c.args.out.now.items in
    let y = c.fill.new.out.items in
    let filled = c.in_ok-fill.ensures in
    let own = c.at-own.ensures a (sequence u) [] (own_tells a (sequence u) (IsSubtype a) (parts_of u) x y f rs c.count-2.result c.requires.known filled.adds c.count-2.ensures) in
    let heads = c.heads_meet-heads.ensures (sequence_agrees a u x y f rs c.count.result c.answer_before-inner.result c.requires.known filled.adds c.count.ensures c.answer_before-inner.ensures) in
    put_told a (sequence u) x y c.put.new.answers.items (c.heads_meet-heads.result || c.at-own.result) c.or.result c.put.result c.or.ensures c.put.ensures.same c.put.ensures.grown
    (close_sequence a u x y c.in_ok-fill.field-0 c.heads_meet-heads.result c.at-own.result filled heads own)

pub fill_null-returns : goal.fill_null-returns
fill_null-returns t c =
    let a = head_type c.args.self.now (given_by c.args.bound.now) c.args.first.now in
    let u = expansion c.args.self.now [] c.args.part.now in
    let f = row_of c.args.known.now.firsts.now in
    let rs = c.args.known.now.inner.now in
    let x = c.args.out.now.items in
    let y = c.fill.new.out.items in
    let filled = c.in_ok-below.ensures in
    let own = c.at-own.ensures a (null_or u) [] (own_tells a (null_or u) (IsSubtype a) (parts_of u) x y f rs c.count-2.result c.requires.known filled.adds c.count-2.ensures) in
    let heads = c.heads_meet-heads.ensures (null_agrees a u x y f rs c.count.result c.answer_before-inner.result c.requires.known filled.adds c.count.ensures c.answer_before-inner.ensures) in
    put_told a (null_or u) x y c.put.new.answers.items ((c.in_ok-below.below || c.heads_meet-heads.result) || c.at-own.result) c.or-2.result c.put.result (c.or-2.ensures ∙ ap (λ (b : Bool). b || c.at-own.result) c.or.ensures) c.put.ensures.same c.put.ensures.grown
    (close_null a u x y c.in_ok-below.below c.heads_meet-heads.result c.at-own.result filled heads own)

pub fill_token-returns : goal.fill_token-returns
fill_token-returns t c =
    let a = head_type c.args.self.now (given_by c.args.bound.now) c.args.first.now in
    let u = expansion c.args.self.now [] c.args.part.now in
    let ys = tokens_in (trees_of c.args.args.now) in
    let f = row_of c.args.known.now.firsts.now in
    let rs = c.args.known.now.inner.now in
    let x = c.args.out.now.items in
    let y = c.fill.new.out.items in
    let filled = c.in_ok-below.ensures in
    let own = c.at-own.ensures a (token_or ys u) [] (own_tells a (token_or ys u) (IsSubtype a) (parts_of u) x y f rs c.count-2.result c.requires.known filled.adds c.count-2.ensures) in
    let heads = c.heads_meet-heads.ensures (token_agrees a u ys x y f rs c.count.result c.answer_before-inner.result c.requires.known filled.adds c.count.ensures c.answer_before-inner.ensures) in
    put_told a (token_or ys u) x y c.put.new.answers.items ((c.in_ok-below.below || c.heads_meet-heads.result) || c.at-own.result) c.or-2.result c.put.result (c.or-2.ensures ∙ ap (λ (b : Bool). b || c.at-own.result) c.or.ensures) c.put.ensures.same c.put.ensures.grown
    (close_token a ys u x y c.in_ok-below.below c.heads_meet-heads.result c.at-own.result filled heads own)

pub fill_some-fill-requires : goal.fill_some-fill-requires
fill_some-fill-requires t c =
    let a = head_type c.args.self.now (given_by c.args.bound.now) c.args.first.now in
    let w = c.args.self.now in
    let ps = expand_parts w (own_type w) [] (trees_of c.args.parts.now) in
    let f = row_of c.args.known.now.firsts.now in
    let rs = c.args.known.now.inner.now in
    let x = c.args.out.now.items in
    let y = c.loop-arg.out.items in
    let so_far = c.loop-arg.some in
    let at = c.loop-arg.arg-index in
    let left = drop at c.args.parts.now in
    let more = drop (at + 1) c.args.parts.now in
    let ms = expand_parts w (own_type w) [] (trees_of more) in
    let step : left ≡ c.arg-item.result ∷ more =
    drop_more c.args.parts.now at c.arg-item.result c.loop-arg-test.true ∙ ap (λ (v : TypeArg). v ∷ more) (sym c.arg-item.is) in
    let u = expansion w [] c.in-Spec.part in
    let split : expand_parts w (own_type w) [] (trees_of left) ≡ part u ms = parts_first w (own_type w) [] left more c.arg-item.result c.in-Spec.part step c.in-Spec.is in
    let here : SomeLeft a ps (part u ms) x y so_far f rs = subst (λ (v : ExpandedTypes). SomeLeft a ps v x y so_far f rs) split c.loop-arg.invariant in
    let lighter : weight u + 1 + weight_all ms ≤ weight_all ps = here.lighter in
    (search (rules, lighter), (c.requires.declared, known_first a (parts_of u) (parts_of_all ms) (length y) f rs here.tells))

pub fill_some-loop-arg-preserved : goal.fill_some-loop-arg-preserved
fill_some-loop-arg-preserved t c =
    let a = head_type c.args.self.now (given_by c.args.bound.now) c.args.first.now in
    let w = c.args.self.now in
    let ps = expand_parts w (own_type w) [] (trees_of c.args.parts.now) in
    let f = row_of c.args.known.now.firsts.now in
    let rs = c.args.known.now.inner.now in
    let x = c.args.out.now.items in
    let y = c.loop-arg.out.items in
    let so_far = c.loop-arg.some in
    let at = c.loop-arg.arg-index in
    let left = drop at c.args.parts.now in
    let more = drop (at + 1) c.args.parts.now in
    let ms = expand_parts w (own_type w) [] (trees_of more) in
    let step : left ≡ c.arg-item.result ∷ more =
    drop_more c.args.parts.now at c.arg-item.result c.loop-arg-test.true ∙ ap (λ (v : TypeArg). v ∷ more) (sym c.arg-item.is) in
    elim c.match-arg.branch [
      | fill_some-in-Spec+in_ok-fill b ↦
          let u = expansion w [] b.in-Spec.part in
          let split : expand_parts w (own_type w) [] (trees_of left) ≡ part u ms = parts_first w (own_type w) [] left more c.arg-item.result b.in-Spec.part step b.in-Spec.is in
          let here : SomeLeft a ps (part u ms) x y so_far f rs = subst (λ (v : ExpandedTypes). SomeLeft a ps v x y so_far f rs) split c.loop-arg.invariant in
          let next : SomeLeft a ps ms x b.fill.new.out.items (so_far || b.in_ok-fill.field-0) f rs =
          some_step a ps u ms x y b.fill.new.out.items so_far b.in_ok-fill.field-0 f rs here b.in_ok-fill.ensures in
          rw (b.out-is, b.some-is, b.or-some.ensures) next
      | fill_some-in_default b ↦
          let split : expand_parts w (own_type w) [] (trees_of left) ≡ ms = parts_later w (own_type w) [] left more c.arg-item.result step b.in_default.not-Spec in
          rw (b.out-is, b.some-is) (subst (λ (v : ExpandedTypes). SomeLeft a ps v x y so_far f rs) split c.loop-arg.invariant)
    ]

pub fill_some-returns : goal.fill_some-returns
fill_some-returns t c =
    let a = head_type c.args.self.now (given_by c.args.bound.now) c.args.first.now in
    let w = c.args.self.now in
    let ps = expand_parts w (own_type w) [] (trees_of c.args.parts.now) in
    let f = row_of c.args.known.now.firsts.now in
    let rs = c.args.known.now.inner.now in
    let x = c.args.out.now.items in
    let y = c.loop-arg.out.items in
    let so_far = c.loop-arg.some in
    let at = c.loop-arg.arg-index in
    let split : expand_parts w (own_type w) [] (trees_of (drop at c.args.parts.now)) ≡ none =
    ap (λ (v : List TypeArg). expand_parts w (own_type w) [] (trees_of v)) (drop_all at c.args.parts.now c.loop-arg-test.false) in
    some_end a ps x y so_far f rs (subst (λ (v : ExpandedTypes). SomeLeft a ps v x y so_far f rs) split c.loop-arg.invariant)

pub fill_each-fill-requires : goal.fill_each-fill-requires
fill_each-fill-requires t c =
    let a = head_type c.args.self.now (given_by c.args.bound.now) c.args.first.now in
    let w = c.args.self.now in
    let ps = expand_parts w (own_type w) [] (trees_of c.args.parts.now) in
    let f = row_of c.args.known.now.firsts.now in
    let rs = c.args.known.now.inner.now in
    let x = c.args.out.now.items in
    let y = c.loop-arg.out.items in
    let so_far = c.loop-arg.each in
    let at = c.loop-arg.arg-index in
    let left = drop at c.args.parts.now in
    let more = drop (at + 1) c.args.parts.now in
    let ms = expand_parts w (own_type w) [] (trees_of more) in
    let step : left ≡ c.arg-item.result ∷ more =
    drop_more c.args.parts.now at c.arg-item.result c.loop-arg-test.true ∙ ap (λ (v : TypeArg). v ∷ more) (sym c.arg-item.is) in
    let u = expansion w [] c.in-Spec.part in
    let split : expand_parts w (own_type w) [] (trees_of left) ≡ part u ms = parts_first w (own_type w) [] left more c.arg-item.result c.in-Spec.part step c.in-Spec.is in
    let here : EachLeft a ps (part u ms) x y so_far f rs = subst (λ (v : ExpandedTypes). EachLeft a ps v x y so_far f rs) split c.loop-arg.invariant in
    let lighter : weight u + 1 + weight_all ms ≤ weight_all ps = here.lighter in
    (search (rules, lighter), (c.requires.declared, known_first a (parts_of u) (parts_of_all ms) (length y) f rs here.tells))

pub fill_each-loop-arg-preserved : goal.fill_each-loop-arg-preserved
fill_each-loop-arg-preserved t c =
    let a = head_type c.args.self.now (given_by c.args.bound.now) c.args.first.now in
    let w = c.args.self.now in
    let ps = expand_parts w (own_type w) [] (trees_of c.args.parts.now) in
    let f = row_of c.args.known.now.firsts.now in
    let rs = c.args.known.now.inner.now in
    let x = c.args.out.now.items in
    let y = c.loop-arg.out.items in
    let so_far = c.loop-arg.each in
    let at = c.loop-arg.arg-index in
    let left = drop at c.args.parts.now in
    let more = drop (at + 1) c.args.parts.now in
    let ms = expand_parts w (own_type w) [] (trees_of more) in
    let step : left ≡ c.arg-item.result ∷ more =
    drop_more c.args.parts.now at c.arg-item.result c.loop-arg-test.true ∙ ap (λ (v : TypeArg). v ∷ more) (sym c.arg-item.is) in
    elim c.match-arg.branch [
      | fill_each-in-Spec+in_ok-fill b ↦
          let u = expansion w [] b.in-Spec.part in
          let split : expand_parts w (own_type w) [] (trees_of left) ≡ part u ms = parts_first w (own_type w) [] left more c.arg-item.result b.in-Spec.part step b.in-Spec.is in
          let here : EachLeft a ps (part u ms) x y so_far f rs = subst (λ (v : ExpandedTypes). EachLeft a ps v x y so_far f rs) split c.loop-arg.invariant in
          let next : EachLeft a ps ms x b.fill.new.out.items (so_far && b.in_ok-fill.field-0) f rs =
          each_step a ps u ms x y b.fill.new.out.items so_far b.in_ok-fill.field-0 f rs here b.in_ok-fill.ensures in
          rw (b.out-is, b.each-is, b.and-each.ensures) next
      | fill_each-in_default b ↦
          let split : expand_parts w (own_type w) [] (trees_of left) ≡ ms = parts_later w (own_type w) [] left more c.arg-item.result step b.in_default.not-Spec in
          rw (b.out-is, b.each-is) (subst (λ (v : ExpandedTypes). EachLeft a ps v x y so_far f rs) split c.loop-arg.invariant)
    ]

pub fill_each-returns : goal.fill_each-returns
fill_each-returns t c =
    let a = head_type c.args.self.now (given_by c.args.bound.now) c.args.first.now in
    let w = c.args.self.now in
    let ps = expand_parts w (own_type w) [] (trees_of c.args.parts.now) in
    let f = row_of c.args.known.now.firsts.now in
    let rs = c.args.known.now.inner.now in
    let x = c.args.out.now.items in
    let y = c.loop-arg.out.items in
    let so_far = c.loop-arg.each in
    let at = c.loop-arg.arg-index in
    let split : expand_parts w (own_type w) [] (trees_of (drop at c.args.parts.now)) ≡ none =
    ap (λ (v : List TypeArg). expand_parts w (own_type w) [] (trees_of v)) (drop_all at c.args.parts.now c.loop-arg-test.false) in
    each_end a ps x y so_far f rs (subst (λ (v : ExpandedTypes). EachLeft a ps v x y so_far f rs) split c.loop-arg.invariant)

pub fill_head-returns-in-Everything : goal.fill_head-returns-in-Everything
fill_head-returns-in-Everything t c =
    let a = head_type c.args.self.now (given_by c.args.bound.now) c.args.first.now in
    let x = c.args.out.now.items in
    subst (λ (h : Head). IfSome c.put.result (λ r. Fills a (head_type c.args.self.now [] h) x c.put.new.answers.items r)) (sym c.in-Everything.is)
    (put_filled a everything x x c.put.new.answers.items true c.put.result c.put.ensures.same c.put.ensures.grown (close_everything a x))
