-- The data of forms are written as the forms are.
use Rattle.std.proofs.Common.{◌≡◌, ◌++◌, ◌∙◌, ℕ, Bool, true, false, List, [], ◌∷◌, append_assoc, append-nil, refl, sym, ap, subst}
use Rattle.std.specs.Prelude.{Some, None, codes, if◌then◌else◌}
use Rattle.std.specs.Str.{bytes_eq}
use Rattle.std.proofs.lemmas.Slice.Eq.{bytes_eq-Decides}
use Rattle.cl_forms.specs.Words.{is_constant, is_quote}
use Rattle.cl_forms.specs.Tree.{Tree, Trees, number, literal, name, form, none, item, spelled, spelled_all, Lexeme, open_at, close, number_at, literal_at, name_at}
use Rattle.cl_forms.specs.Datum as datum
use Rattle.cl_forms.specs.Datum.{Datum, datums_of}
use Rattle.cl_forms.specs.Grouped.{one_more, waits_after, waits, behind, symbol_behind, symbol_taken, left_over, taken, grouped}
use Rattle.cl_forms.specs.Quotes.{quote_at, quotes, spelled_if, IsStray, IsJoined, IsForm, IsWritten, AreWritten}
use Rattle.cl_forms.specs.declared.grouping.Waiting.{Waiting}
use Rattle.cl_forms.specs.declared.grouping.Waiting.TheVariants.{Nothing, One, More}

-- the tokens of the quotes that wait
pub record Later (first : ℕ) (said : List Lexeme) : Type 0 where
  pub later : List ℕ
  pub written : said ≡ quote_at first ∷ quotes later

abbrev Waits : Waiting → List Lexeme → Type 0
Waits Nothing said = said ≡ []
Waits (One first) said = said ≡ quote_at first ∷ []
Waits (More first) said = Later first said

quotes_more : (ats : List ℕ) (at : ℕ) → quotes (ats ++ at ∷ []) ≡ quotes ats ++ quote_at at ∷ []
quotes_more [] at = refl
quotes_more (b ∷ ats) at = ap (λ ls. quote_at b ∷ ls) (quotes_more ats at)

-- one more quote waits
more_waits : (w : Waiting) (said : List Lexeme) (at : ℕ) → Waits w said → Waits (one_more w at) (said ++ quote_at at ∷ [])
more_waits Nothing said at h = rw h refl
more_waits (One first) said at h = record { later = at ∷ []; written = rw h refl }
more_waits (More first) said at h = record { later = h.later ++ at ∷ []; written = rw (h.written, quotes_more h.later at) refl }

-- a form that the quotes that wait take
takes : (w : Waiting) (said : List Lexeme) (t : Tree) (d : Datum) → Waits w said → IsWritten d (spelled t) → IsWritten (behind w d) (said ++ spelled t)
takes Nothing said t d h i = rw h i
takes (One first) said t d h i = record { later = []; form = Some t; written = rw h refl }
takes (More first) said t d h i = record { later = h.later; form = Some t; written = rw h.written refl }

takes_constant : (b : Bool) (first at : ℕ) (s : List ℕ) (said : List Lexeme) → said ≡ quote_at first ∷ []
    → IsWritten (if b then datum.stray first else datum.quoted s first at) (said ++ name_at s at ∷ [])
takes_constant true first at s said h = record { later = []; form = Some (name s at); written = rw h refl }
takes_constant false first at s said h = rw h refl

takes_symbol : (w : Waiting) (said : List Lexeme) (s : List ℕ) (at : ℕ) → Waits w said → IsWritten (symbol_behind w s at) (said ++ name_at s at ∷ [])
takes_symbol Nothing said s at h = rw h refl
takes_symbol (One first) said s at h = takes_constant (is_constant s) first at s said h
takes_symbol (More first) said s at h = record { later = h.later; form = Some (name s at); written = rw h.written refl }

ends : (w : Waiting) (said : List Lexeme) → Waits w said → AreWritten (datums_of (left_over w)) said
ends Nothing said h = h
ends (One first) said h = record {
  first = said;
  rest = [];
  is_first = record { later = []; form = None; written = h };
  is_rest = refl;
  joined = sym (append-nil said);
}
ends (More first) said h = record {
  first = said;
  rest = [];
  is_first = record { later = h.later; form = None; written = h.written ∙ ap (λ ls. quote_at first ∷ ls) (sym (append-nil (quotes h.later))) };
  is_rest = refl;
  joined = sym (append-nil said);
}

-- one datum, and those behind it
joins : (d : Datum) (ds : List Datum) (said now more : List Lexeme) → IsWritten d (said ++ now) → AreWritten (datums_of ds) more
    → AreWritten (datums_of (d ∷ ds)) (said ++ (now ++ more))
joins d ds said now more h i = record {
  first = said ++ now;
  rest = more;
  is_first = h;
  is_rest = i;
  joined = sym (append_assoc said now more);
}

quote_is : (s : List ℕ) → is_quote s ≡ true → s ≡ codes "'"
quote_is s h = (bytes_eq-Decides s (codes "'")).0 h

written_name : (w : Waiting) (said : List Lexeme) (s : List ℕ) (at : ℕ) (ts : Trees) → Waits w said
    → ((v : Waiting) (more : List Lexeme) → Waits v more → AreWritten (datums_of (grouped v ts)) (more ++ spelled_all ts)) → (b : Bool) → is_quote s ≡ b
    → AreWritten (datums_of (grouped w (item (name s at) ts))) (said ++ (name_at s at ∷ spelled_all ts))
written_name w said s at ts h go true q =
    let same : name_at s at ≡ quote_at at = ap (λ x. name_at x at) (quote_is s q) in
    rw (q, same, ← append_assoc said (quote_at at ∷ []) (spelled_all ts)) (go (one_more w at) (said ++ quote_at at ∷ []) (more_waits w said at h))
written_name w said s at ts h go false q =
    rw q (joins (symbol_behind w s at) (grouped Nothing ts) said (name_at s at ∷ []) (spelled_all ts) (takes_symbol w said s at h) (go Nothing [] refl))

written : (w : Waiting) (said : List Lexeme) (ts : Trees) → Waits w said → AreWritten (datums_of (grouped w ts)) (said ++ spelled_all ts)
written w said none h = rw (append-nil said) (ends w said h)
written w said (item (number z at) ts) h =
    joins (behind w (datum.number z at)) (grouped Nothing ts) said (number_at z at ∷ []) (spelled_all ts)
    (takes w said (number z at) (datum.number z at) h refl) (written Nothing [] ts refl)
written w said (item (literal s at) ts) h =
    joins (behind w (datum.literal s at)) (grouped Nothing ts) said (literal_at s at ∷ []) (spelled_all ts)
    (takes w said (literal s at) (datum.literal s at) h refl) (written Nothing [] ts refl)
written w said (item (form us at) ts) h =
    joins (behind w (datum.list (datums_of (grouped Nothing us)) at)) (grouped Nothing ts) said (spelled (form us at)) (spelled_all ts)
    (takes w said (form us at) (datum.list (datums_of (grouped Nothing us)) at) h (record { inside = spelled_all us; is_inside = written Nothing [] us refl; written = refl }))
    (written Nothing [] ts refl)
written w said (item (name s at) ts) h = written_name w said s at ts h (λ v more k. written v more ts k) (is_quote s) refl

-- the data of forms
pub data_written : (ts : Trees) → AreWritten (datums_of (grouped Nothing ts)) (spelled_all ts)
data_written ts = written Nothing [] ts refl
