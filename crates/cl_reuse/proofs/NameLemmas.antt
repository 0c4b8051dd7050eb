-- The names of the updates of a level, and the updates so far.
use Rattle.std.proofs.Common.{◌≡◌, ◌∙◌, ap, sym, subst, refl, true, false, List, [], ◌∷◌, ◌++◌, append_assoc}
use Rattle.cl_value.specs.Data.{Data}
use Rattle.cl_syntax.specs.declared.sites.Site.{Site}
use Rattle.cl_medium.specs.Items.{Item}
use Rattle.cl_record.specs.Trees.{Tree, trees_of}
use Rattle.cl_display.specs.Siblings.{Siblings, is_taken, note}
use Rattle.cl_display.proofs.SiblingLaws.{taken-noted}
use Rattle.cl_reuse.specs.Once.{AreOnce, HoldOnce, is_named, names, names_in}
use Rattle.cl_reuse.proofs.OnceForms.{either-true, first-true, name-holds, name-itself, never-both, or-false, same_name}

-- the updates so far behind these
abbrev pub noted_names : List (Site × Data) → Siblings → Siblings
noted_names [] l = l
noted_names (n ∷ ns) l = noted_names ns (note n.0 n.1 l)

-- none of them is there yet, nor twice
abbrev pub AreNew : Siblings → List (Site × Data) → Type 0
AreNew l [] = Unit {0}
AreNew l (n ∷ ns) = (is_taken n.0 n.1 l ≡ false) × AreNew (note n.0 n.1 l) ns

pub noted-names-then : (ns ms : List (Site × Data)) (l : Siblings) → noted_names (ns ++ ms) l ≡ noted_names ms (noted_names ns l)
noted-names-then [] ms l = refl
noted-names-then (n ∷ ns) ms l = noted-names-then ns ms (note n.0 n.1 l)

pub new-names-then : (ns ms : List (Site × Data)) (l : Siblings) → AreNew l ns → AreNew (noted_names ns l) ms → AreNew l (ns ++ ms)
new-names-then [] ms l h k = k
new-names-then (n ∷ ns) ms l h k = (h.0, new-names-then ns ms (note n.0 n.1 l) h.1 k)

-- what is taken is not among them
not-named : (site : Site) (id : Data) (ns : List (Site × Data)) (l : Siblings) → is_taken site id l ≡ true → AreNew l ns → is_named site id ns ≡ false
not-named site id [] l h k = refl
not-named site id (n ∷ ns) l h k =
    or-false (same_name site id n.0 n.1) (is_named site id ns)
    (λ e. never-both (is_taken n.0 n.1 l) (name-holds (λ s d. is_taken s d l ≡ true) site id n.0 n.1 e h) k.0)
    (not-named site id ns (note n.0 n.1 l)
    (taken-noted n.0 site n.1 id l ∙ either-true (same_name site id n.0 n.1) (is_taken site id l) h) k.1)

pub names-once : (ns : List (Site × Data)) (l : Siblings) → AreNew l ns → AreOnce ns
names-once [] l h = tt
names-once (n ∷ ns) l h = (
  not-named n.0 n.1 ns (note n.0 n.1 l)
      (taken-noted n.0 n.0 n.1 n.1 l ∙ first-true (same_name n.0 n.1 n.0 n.1) (is_taken n.0 n.1 l) (name-itself n.0 n.1)) h.1,
  names-once ns (note n.0 n.1 l) h.1,
)

-- ---- rows

pub names-row : (ts us : List (Tree Item)) → names (trees_of (ts ++ us)) ≡ names (trees_of ts) ++ names (trees_of us)
names-row [] us = refl
names-row (t ∷ ts) us =
    ap (λ (ns : List (Site × Data)). names_in t ++ ns) (names-row ts us)
    ∙ sym (append_assoc (names_in t) (names (trees_of ts)) (names (trees_of us)))

pub hold-row : (ts us : List (Tree Item)) → HoldOnce (trees_of ts) → HoldOnce (trees_of us) → HoldOnce (trees_of (ts ++ us))
hold-row [] us f g = g
hold-row (t ∷ ts) us f g = (f.0, hold-row ts us f.1 g)

-- a row that goes from some updates to others
pub record Names (l m : Siblings) (own : List (Tree Item)) : Type 0 where
  pub new : AreNew l (names (trees_of own))
  pub left : m ≡ noted_names (names (trees_of own)) l
  pub inside : HoldOnce (trees_of own)

pub names-then : (l m n : Siblings) (ts us : List (Tree Item)) → Names l m ts → Names m n us → Names l n (ts ++ us)
names-then l m n ts us p q =
    let all = names-row ts us in
    record {
      new = subst (λ (ns : List (Site × Data)). AreNew l ns) (sym all)
          (new-names-then (names (trees_of ts)) (names (trees_of us)) l p.new (subst (λ (k : Siblings). AreNew k (names (trees_of us))) p.left q.new));
      left =
          q.left ∙ ap (λ (k : Siblings). noted_names (names (trees_of us)) k) p.left
          ∙ sym (noted-names-then (names (trees_of ts)) (names (trees_of us)) l)
          ∙ ap (λ (ns : List (Site × Data)). noted_names ns l) (sym all);
      inside = hold-row ts us p.inside q.inside;
    }
