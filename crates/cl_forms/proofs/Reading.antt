-- A form is read from its tokens, and then the next one.
use Rattle.std.proofs.Common.{◌≡◌, ℕ, ◌+◌, ◌-◌, true, false, List, [], ◌∷◌, ◌++◌, length, append-nil, refl, sym, ap, ◌∙◌, subst, arith}
use Rattle.std.proofs.lemmas.List.{append_assoc}
use Rattle.std.proofs.lemmas.List.Elements.{All-tail}
use Rattle.std.specs.Prelude.{All, not}
use Rattle.cl_forms.specs.Tree.{Tree, form, spelled, spelled_all, trees_of, open_at, close}
use Rattle.cl_forms.specs.Spelled.{lexeme_of, lexemes, begins_form, is_close, IsAtom, IsRead, AreRead}
use Rattle.cl_sexp.specs.Tokens.{Nests, InText, depth_after, KeepsNest}
use Rattle.cl_sexp.specs.declared.Kind.{Kind}
use Rattle.cl_sexp.specs.declared.Kind.TheVariants.{Open, Close, Quote, Int, Text, Symbol}
use Rattle.cl_sexp.specs.declared.Token.{Token}

closes : (kind : Kind) → not (is_close kind) ≡ false → kind ≡ Close
closes Open h = cc
closes Close h = refl
closes Quote h = cc
closes (Int z) h = cc
closes Text h = cc
closes Symbol h = cc

atom_depth : (kind : Kind) (depth : ℕ) → IsAtom kind → depth_after kind depth ≡ depth
atom_depth Open depth a = absurd a
atom_depth Close depth a = absurd a
atom_depth Quote depth a = refl
atom_depth (Int z) depth a = refl
atom_depth Text depth a = refl
atom_depth Symbol depth a = refl

-- behind a `(` one more form is open
pub opens_nests : (depth : ℕ) (tokens after : List Token) (t : Token) → tokens ≡ t ∷ after → t.kind ≡ Open → Nests depth tokens → Nests (depth + 1) after
opens_nests depth tokens after t e k n =
    let both : KeepsNest t.kind depth × Nests (depth_after t.kind depth) after = subst (Nests depth) e n in
    subst (λ kind. Nests (depth_after kind depth) after) k both.1

pub tail_inside : (len : ℕ) (tokens after : List Token) (t : Token) → tokens ≡ t ∷ after → All (InText len) tokens → All (InText len) after
tail_inside len tokens after t e i = All-tail (InText len) t after (subst (All (InText len)) e i)

-- behind a `)` one form less is open
closes_nests : (depth : ℕ) (kind : Kind) (rest : List Token) → kind ≡ Close → Nests (depth_after kind (depth + 1)) rest → Nests depth rest
closes_nests depth kind rest k n =
    let one : depth + 1 - 1 ≡ depth = omega arith in
    subst (λ d. Nests d rest) one (subst (λ x. Nests (depth_after x (depth + 1)) rest) k n)

parts_spelled : (text : List ℕ) (depth : ℕ) (t c : Token) (after rest : List Token) (trees : List Tree) → t.kind ≡ Open → c.kind ≡ Close → lexemes text after ≡ spelled_all (trees_of trees) ++ lexemes text (c ∷ rest)
    → lexemes text (t ∷ after) ≡ spelled (form (trees_of trees) t.start) ++ lexemes text rest
parts_spelled text depth t c after rest trees k l r =
    ap (λ kind. lexeme_of text kind t.start t.end ∷ lexemes text after) k
    ∙ ap (λ ls. open_at t.start ∷ ls) (r ∙ ap (λ kind. spelled_all (trees_of trees) ++ lexeme_of text kind c.start c.end ∷ lexemes text rest) l)
    ∙ ap (λ ls. open_at t.start ∷ ls) (sym (append_assoc (spelled_all (trees_of trees)) (close ∷ []) (lexemes text rest)))

-- a form of parts: its token, the parts, and the token that closes it
pub parts_read : (text : List ℕ) (depth : ℕ) (tokens after closed rest : List Token) (t c : Token) (trees : List Tree) → tokens ≡ t ∷ after → t.kind ≡ Open → AreRead text (depth + 1) after trees closed → begins_form closed ≡ false → closed ≡ c ∷ rest
    → IsRead text depth tokens (form (trees_of trees) t.start) rest
parts_read text depth tokens after closed rest t c trees e k r b f =
    let last : not (is_close c.kind) ≡ false = ap begins_form (sym f) ∙ b in
    let closing : c.kind ≡ Close = closes c.kind last in
    let both : KeepsNest c.kind (depth + 1) × Nests (depth_after c.kind (depth + 1)) rest = subst (Nests (depth + 1)) f r.nested in
    record {
      reads = ap (lexemes text) e ∙ parts_spelled text depth t c after rest trees k closing (r.reads ∙ ap (λ ts. spelled_all (trees_of trees) ++ lexemes text ts) f);
      nested = closes_nests depth c.kind rest closing both.1;
      inside = tail_inside (length text) closed rest c f r.inside;
      shorter = omega (arith, ap length e, ap length f, r.shorter);
    }

is_atom : (kind : Kind) → (kind ≡ Open → ⊥) → not (is_close kind) ≡ true → IsAtom kind
is_atom Open o c = o refl
is_atom Close o c = absurd (o cc)
is_atom Quote o c = tt
is_atom (Int z) o c = tt
is_atom Text o c = tt
is_atom Symbol o c = tt

-- an atom: its token
pub atom_read : (text : List ℕ) (depth : ℕ) (tokens after : List Token) (t : Token) (tree : Tree) → tokens ≡ t ∷ after → Nests depth tokens → All (InText (length text)) tokens → (t.kind ≡ Open → ⊥) → begins_form tokens ≡ true
    → spelled tree ≡ lexeme_of text t.kind t.start t.end ∷ [] → IsRead text depth tokens tree after
atom_read text depth tokens after t tree e n i o b s =
    let a : IsAtom t.kind = is_atom t.kind o (ap begins_form (sym e) ∙ b) in
    let both : KeepsNest t.kind depth × Nests (depth_after t.kind depth) after = subst (Nests depth) e n in
    record {
      reads = ap (lexemes text) e ∙ ap (λ ls. ls ++ lexemes text after) (sym s);
      nested = subst (λ d. Nests d after) (atom_depth t.kind depth a) both.1;
      inside = tail_inside (length text) tokens after t e i;
      shorter = omega (arith, ap length e);
    }

spelled_more : (trees : List Tree) (tree : Tree) → spelled_all (trees_of (trees ++ tree ∷ [])) ≡ spelled_all (trees_of trees) ++ spelled tree
spelled_more [] tree = append-nil (spelled tree)
spelled_more (t ∷ ts) tree = ap (λ ls. spelled t ++ ls) (spelled_more ts tree) ∙ sym (append_assoc (spelled t) (spelled_all (trees_of ts)) (spelled tree))

-- one more form behind the others
pub more_read : (text : List ℕ) (depth : ℕ) (tokens rest behind : List Token) (trees : List Tree) (tree : Tree) → AreRead text depth tokens trees rest → IsRead text depth rest tree behind → AreRead text depth tokens (trees ++ tree ∷ []) behind
more_read text depth tokens rest behind trees tree r s = record {
  reads = r.reads ∙ ap (λ ls. spelled_all (trees_of trees) ++ ls) s.reads ∙ sym (append_assoc (spelled_all (trees_of trees)) (spelled tree) (lexemes text behind)) ∙ ap (λ ls. ls ++ lexemes text behind) (sym (spelled_more trees tree));
  nested = s.nested;
  inside = s.inside;
  shorter = omega (arith, r.shorter, s.shorter);
}
