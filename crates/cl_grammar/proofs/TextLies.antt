-- The data of a text lie in it in order, at every depth.
use Rattle.std.proofs.Common.{◌≡◌, ◌≤◌, ◌<◌, ◌+◌, ℕ, Bool, true, false, if◌then◌else◌, List, [], ◌∷◌, ◌++◌, append-nil, sym, ◌∙◌, subst, arith}
use Rattle.std.specs.Prelude.{Ok}
use Rattle.std.proofs.lemmas.List.{append_assoc}
use Rattle.cl_sexp.specs.Lies.{Rises}
use Rattle.cl_sexp.specs.Tokens.{tokens_of}
use Rattle.cl_sexp.specs.declared.Token.{Token}
use Rattle.cl_sexp.specs.declared.Kind.TheVariants.{Open, Close, Quote, Int, Text, Symbol}
use Rattle.cl_sexp.specs.declared.Kind.{Kind}
use Rattle.cl_sexp.proofs.Lying.{rises_of}
use Rattle.cl_forms.specs.Tree.{Tree, Trees, spelled, spelled_all, Lexeme, open_at, close, number_at, literal_at, name_at}
use Rattle.cl_forms.specs.Tree as tree
use Rattle.cl_forms.specs.Datum.{Datum, number, literal, quoted, stray, list, datums_of}
use Rattle.cl_forms.specs.Spelled.{lexeme_of, lexemes}
use Rattle.cl_forms.specs.Words.{is_constant, is_quote}
use Rattle.cl_forms.specs.Grouped.{one_more, waits, behind, symbol_behind, left_over, taken, grouped}
use Rattle.cl_forms.specs.declared.grouping.Waiting.{Waiting}
use Rattle.cl_forms.specs.declared.grouping.Waiting.TheVariants.{Nothing, One, More}
use Rattle.cl_grammar.specs.Lies.{Lies, LieAll, LieInText}
use Rattle.cl_grammar.proofs.Lying.{LieList, datum_rises, datum_earlier}

-- ---- tokens

-- from an offset on, each lexeme stands behind the one before; a `)` has no offset
abbrev Climbs : ℕ → List Lexeme → Type 0
Climbs at [] = Unit {0}
Climbs at (open_at o ∷ ls) = (at ≤ o) × Climbs (o + 1) ls
Climbs at (close ∷ ls) = Climbs at ls
Climbs at (number_at z o ∷ ls) = (at ≤ o) × Climbs (o + 1) ls
Climbs at (literal_at s o ∷ ls) = (at ≤ o) × Climbs (o + 1) ls
Climbs at (name_at s o ∷ ls) = (at ≤ o) × Climbs (o + 1) ls

climbs_before : (at before : ℕ) (ls : List Lexeme) → before ≤ at → Climbs at ls → Climbs before ls
climbs_before at before [] l c = tt
climbs_before at before (open_at o ∷ ls) l c = (omega (arith, l, c.0), c.1)
climbs_before at before (close ∷ ls) l c = climbs_before at before ls l c
climbs_before at before (number_at z o ∷ ls) l c = (omega (arith, l, c.0), c.1)
climbs_before at before (literal_at s o ∷ ls) l c = (omega (arith, l, c.0), c.1)
climbs_before at before (name_at s o ∷ ls) l c = (omega (arith, l, c.0), c.1)

climbs_over : (text : List ℕ) (kind : Kind) (at start end : ℕ) (ls : List Lexeme) → at ≤ start → start < end → Climbs end ls
    → Climbs at (lexeme_of text kind start end ∷ ls)
climbs_over text Open at start end ls l s c = (l, climbs_before end (start + 1) ls (omega (arith, s)) c)
climbs_over text Close at start end ls l s c = climbs_before end at ls (omega (arith, l, s)) c
climbs_over text Quote at start end ls l s c = (l, climbs_before end (start + 1) ls (omega (arith, s)) c)
climbs_over text (Int z) at start end ls l s c = (l, climbs_before end (start + 1) ls (omega (arith, s)) c)
climbs_over text Text at start end ls l s c = (l, climbs_before end (start + 1) ls (omega (arith, s)) c)
climbs_over text Symbol at start end ls l s c = (l, climbs_before end (start + 1) ls (omega (arith, s)) c)

climbs_risen : (text : List ℕ) (at : ℕ) (ts : List Token) → Rises at ts → Climbs at (lexemes text ts)
climbs_risen text at [] r = tt
climbs_risen text at (t ∷ ts) r = climbs_over text t.kind at t.start t.end (lexemes text ts) r.0 r.1 (climbs_risen text t.end ts r.2)

-- ---- data

all_of : (from to : ℕ) (ds : List Datum) → LieList from ds to → LieAll from (datums_of ds) to
all_of from to [] h = h
all_of from to (d ∷ ds) h = (h.0, h.1, all_of h.0 to ds h.2)

list_earlier : (from before to : ℕ) (ds : List Datum) → before ≤ from → LieList from ds to → LieList before ds to
list_earlier from before to [] l h = omega (arith, l, h)
list_earlier from before to (d ∷ ds) l h = (h.0, datum_earlier d before from h.0 l h.1, h.2)

list_rises : (from to : ℕ) (ds : List Datum) → LieList from ds to → from ≤ to
list_rises from to [] h = h
list_rises from to (d ∷ ds) h = omega (arith, datum_rises d from h.0 h.1, list_rises h.0 to ds h.2)

list_more : (from at to : ℕ) (ds es : List Datum) → LieList from ds at → LieList at es to → LieList from (ds ++ es) to
list_more from at to [] es h k = list_earlier at from to es h k
list_more from at to (d ∷ ds) es h k = (h.0, h.1, list_more h.0 at to ds es h.2 k)

only : (from to : ℕ) (d : Datum) → Lies from d to → LieList from (d ∷ []) to
only from to d h = (to, h, omega arith)

-- ---- quotes that wait

-- what waits stands from the one place on, before the other
abbrev Waits : Waiting → ℕ → ℕ → Type 0
Waits Nothing from at = from ≤ at
Waits (One first) from at = (from ≤ first) × (first < at)
Waits (More first) from at = (from ≤ first) × (first < at)

-- what stands in a form of the text: the data that it gives, and what waits behind it
record Taken (from : ℕ) (ds : List Datum) (w : Waiting) (ls : List Lexeme) : Type 0 where
  to : ℕ
  at : ℕ
  lie : LieList from ds to
  waiting : Waits w to at
  climbs : Climbs at ls

record Given (from : ℕ) (ds : List Datum) (ls : List Lexeme) : Type 0 where
  to : ℕ
  lie : LieList from ds to
  climbs : Climbs to ls

waits_long : (w : Waiting) (from at : ℕ) → Waits w from at → from ≤ at
waits_long Nothing from at w = w
waits_long (One first) from at w = omega (arith, w.0, w.1)
waits_long (More first) from at w = omega (arith, w.0, w.1)

behind_lies : (w : Waiting) (from at to : ℕ) (d : Datum) → Waits w from at → Lies at d to → Lies from (behind w d) to
behind_lies Nothing from at to d w h = datum_earlier d from at to w h
behind_lies (One first) from at to d w h = (w.0, omega (arith, w.1, datum_rises d at to h))
behind_lies (More first) from at to d w h = (w.0, omega (arith, w.1, datum_rises d at to h))

-- a datum that stands behind what waits
taken_one : (w : Waiting) (from at to : ℕ) (d : Datum) (ls : List Lexeme) → Waits w from at → Lies at d to → Climbs to ls
    → Taken from (behind w d ∷ []) Nothing ls
taken_one w from at to d ls h l c = record {
  to = to;
  at = to;
  lie = only from to (behind w d) (behind_lies w from at to d h l);
  waiting = omega arith;
  climbs = c;
}

if_lies : (b : Bool) (from to : ℕ) (d e : Datum) → Lies from d to → Lies from e to → Lies from (if b then d else e) to
if_lies true from to d e h k = h
if_lies false from to d e h k = k

symbol_lies : (w : Waiting) (from at o : ℕ) (s : List ℕ) → Waits w from at → at ≤ o → Lies from (symbol_behind w s o) (o + 1)
symbol_lies Nothing from at o s w l = (omega (arith, w, l), omega arith)
symbol_lies (One first) from at o s w l =
    if_lies (is_constant s) from (o + 1) (stray first) (quoted s first o) (w.0, omega (arith, w.1, l)) (w.0, omega (arith, w.1, l), omega arith)
symbol_lies (More first) from at o s w l = (w.0, omega (arith, w.1, l))

more_wait : (w : Waiting) (from at o : ℕ) → Waits w from at → at ≤ o → Waits (one_more w o) from (o + 1)
more_wait Nothing from at o w l = (omega (arith, w, l), omega arith)
more_wait (One first) from at o w l = (w.0, omega (arith, w.1, l))
more_wait (More first) from at o w l = (w.0, omega (arith, w.1, l))

name_taken : (quote : Bool) (w : Waiting) (from at o : ℕ) (s : List ℕ) (ls : List Lexeme) → Waits w from at → at ≤ o → Climbs (o + 1) ls
    → Taken from (if quote then [] else symbol_behind w s o ∷ []) (if quote then one_more w o else Nothing) ls
name_taken true w from at o s ls h l c =
    record { to = from; at = o + 1; lie = omega arith; waiting = more_wait w from at o h l; climbs = c }
name_taken false w from at o s ls h l c = record {
  to = o + 1;
  at = o + 1;
  lie = only from (o + 1) (symbol_behind w s o) (symbol_lies w from at o s h l);
  waiting = omega arith;
  climbs = c;
}

left_given : (w : Waiting) (from at : ℕ) (ls : List Lexeme) → Waits w from at → Climbs at ls → Given from (left_over w) ls
left_given Nothing from at ls h c = record { to = at; lie = h; climbs = c }
left_given (One first) from at ls h c = record { to = at; lie = only from at (stray first) h; climbs = c }
left_given (More first) from at ls h c = record { to = at; lie = only from at (stray first) h; climbs = c }

mutual
  tree_taken : (w : Waiting) (t : Tree) (from at : ℕ) (ls : List Lexeme) → Waits w from at → Climbs at (spelled t ++ ls)
      → Taken from (taken w t) (waits w t) ls
  tree_taken w (tree.number z o) from at ls h c = taken_one w from at (o + 1) (number z o) ls h (c.0, omega arith) c.1
  tree_taken w (tree.literal s o) from at ls h c = taken_one w from at (o + 1) (literal s o) ls h (c.0, omega arith) c.1
  tree_taken w (tree.name s o) from at ls h c = name_taken (is_quote s) w from at o s ls h c.0 c.1
  tree_taken w (tree.form ts o) from at ls h c =
      let parts : Climbs (o + 1) (spelled_all ts ++ close ∷ ls) =
      subst (Climbs (o + 1)) (append_assoc (spelled_all ts) (close ∷ []) ls) c.1 in
      let g : Given (o + 1) (grouped Nothing ts) (close ∷ ls) = trees_given Nothing ts (o + 1) (o + 1) (close ∷ ls) (omega arith) parts in
      taken_one w from at g.to (list (datums_of (grouped Nothing ts)) o) ls h
      (c.0, omega (arith, list_rises (o + 1) g.to (grouped Nothing ts) g.lie), all_of (o + 1) g.to (grouped Nothing ts) g.lie) g.climbs

  trees_given : (w : Waiting) (ts : Trees) (from at : ℕ) (ls : List Lexeme) → Waits w from at → Climbs at (spelled_all ts ++ ls)
      → Given from (grouped w ts) ls
  trees_given w tree.none from at ls h c = left_given w from at ls h c
  trees_given w (tree.item t ts) from at ls h c =
      let first : Taken from (taken w t) (waits w t) (spelled_all ts ++ ls) =
      tree_taken w t from at (spelled_all ts ++ ls) h (subst (Climbs at) (append_assoc (spelled t) (spelled_all ts) ls) c) in
      let rest : Given first.to (grouped (waits w t) ts) ls = trees_given (waits w t) ts first.to first.at ls first.waiting first.climbs in
      record {
        to = rest.to;
        lie = list_more from first.to rest.to (taken w t) (grouped (waits w t) ts) first.lie rest.lie;
        climbs = rest.climbs;
      }

pub text_lies : (text : List ℕ) (tokens : List Token) (ts : Trees) → tokens_of text ≡ Ok tokens → lexemes text tokens ≡ spelled_all ts
    → LieInText (datums_of (grouped Nothing ts))
text_lies text tokens ts e s =
    let climbs : Climbs 0 (spelled_all ts ++ []) =
    subst (Climbs 0) (s ∙ sym (append-nil (spelled_all ts))) (climbs_risen text 0 tokens (rises_of text tokens e)) in
    let g : Given 0 (grouped Nothing ts) [] = trees_given Nothing ts 0 0 [] (omega arith) climbs in
    record { end = g.to; lie = all_of 0 g.to (grouped Nothing ts) g.lie }
