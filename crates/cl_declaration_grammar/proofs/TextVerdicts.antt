-- A text is refused exactly where a form in it is to blame, with the number and the offset of the first.
use Rattle.std.proofs.Common.{◌≡◌, ◌↔◌, ℕ, List, refl, ap, arith}
use Rattle.std.specs.Prelude.{Result, Ok, Err}
use Rattle.std.proofs.Math.Path.{subst}
use Rattle.cl_forms.specs.Datum.{Datum, datums_of}
use Rattle.cl_forms.specs.Outer.{outers_of}
use Rattle.cl_forms.proofs.Data.{data_in_order}
use Rattle.cl_words.specs.declared.signatures.Signatures.{Signatures}
use Rattle.cl_expressions.specs.Load.{Notes, Fault}
use Rattle.cl_declare.specs.Declarations.{nothing_declared, parse_declarations}
use Rattle.cl_declare.specs.declared.declarations.Declarations.{Declarations}
use Rattle.cl_grammar.specs.Lies.{LieInText}
use Rattle.cl_grammar.specs.Unnamed.{IsNoted}
use Rattle.cl_grammar.proofs.Judging.{Any, Verdict}
use Rattle.cl_grammar.proofs.Lying.{LieList, list_lies}
use Rattle.cl_text_grammar.specs.FormBlames.{IsFirst}
use Rattle.cl_declaration_grammar.specs.Texts.{text_seen, TextBlames, TextUnnamed}
use Rattle.cl_declaration_grammar.proofs.PartsLie.{LieParts}
use Rattle.cl_declaration_grammar.proofs.DeclarationsLie.{text_lies}
use Rattle.cl_declaration_grammar.proofs.DeclarationsJudged.{text_judged}
use Rattle.cl_declaration_grammar.proofs.Judging.{one_number}

module _ (w : Signatures) (ds : List Datum) (u : Notes) (lie : LieInText (datums_of ds)) where
  parts_lie : LieParts 0 (text_seen w ds) lie.end
  parts_lie = text_lies w ds 0 lie.end (subst (λ es. LieList 0 es lie.end) (data_in_order ds) (list_lies (datums_of ds) 0 lie.end lie.lie))

  judgement : (r : Result (Declarations × Notes) Fault) → parse_declarations w (outers_of ds) u ≡ r → Verdict (TextBlames w ds) (TextUnnamed w ds) Any u r
  judgement r e = subst (Verdict (TextBlames w ds) (TextUnnamed w ds) Any u) e ((text_judged w ds nothing_declared).judged 0 lie.end parts_lie u)

  refused_first : (n o : ℕ) → parse_declarations w (outers_of ds) u ≡ Err (n, o) → IsFirst (TextBlames w ds) n o
  refused_first n o e =
      let j : Verdict {A = Declarations} (TextBlames w ds) (TextUnnamed w ds) Any u (Err (n, o)) = judgement (Err (n, o)) e in
      record { blamed = j.0; least = j.1 }

  blamed_refused : (n o : ℕ) → TextBlames w ds n o → (x : Declarations × Notes) → parse_declarations w (outers_of ds) u ≡ Ok x → ⊥
  blamed_refused n o b x e = (judgement (Ok x) e).1 n o b

  same_fault : (n o k p : ℕ) → IsFirst (TextBlames w ds) n o → IsFirst (TextBlames w ds) k p → ◌≡◌ {A = Fault} (k, p) (n, o)
  same_fault n o k p i j =
      let e : p ≡ o = omega (arith, i.least k p j.blamed, j.least n o i.blamed) in
      let f : k ≡ n = one_number w (text_seen w ds) k n o 0 lie.end parts_lie (subst (λ q. TextBlames w ds k q) e j.blamed) i.blamed in
      λ t. (f t, e t)

  first_refused : (n o : ℕ) (r : Result (Declarations × Notes) Fault) → parse_declarations w (outers_of ds) u ≡ r → IsFirst (TextBlames w ds) n o
      → r ≡ Err (n, o)
  first_refused n o (Ok x) e i = absurd (blamed_refused n o i.blamed x e)
  first_refused n o (Err (k, p)) e i = ap Err (same_fault n o k p i (refused_first k p e))

  pub text_told : (n o : ℕ) → (parse_declarations w (outers_of ds) u ≡ Err (n, o)) ↔ IsFirst (TextBlames w ds) n o
  text_told n o = (refused_first n o, λ i. first_refused n o (parse_declarations w (outers_of ds) u) refl i)

  pub text_refused : (v : Notes) (s : Declarations) (n o : ℕ) → TextBlames w ds n o → parse_declarations w (outers_of ds) u ≡ Ok (s, v) → ⊥
  text_refused v s n o b e = blamed_refused n o b (s, v) e

  pub text_noted : (v : Notes) (s : Declarations) → parse_declarations w (outers_of ds) u ≡ Ok (s, v) → IsNoted (TextUnnamed w ds) u.unknown v.unknown
  text_noted v s e = (judgement (Ok (s, v)) e).2
