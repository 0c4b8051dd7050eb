-- The displays that a text declares have names.
use Rattle.std.proofs.Common.{◌≡◌, ℕ, true, List, refl}
use Rattle.std.specs.Prelude.{Option, Some, None}
use Rattle.cl_table.specs.Names.{named}
use Rattle.cl_forms.specs.Words.{is_name}
use Rattle.cl_forms.specs.Outer.{Outer}
use Rattle.cl_words.specs.Signatures.{signatures_of, display_count}
use Rattle.cl_words.specs.declared.signatures.Signatures.{Signatures}
use Rattle.cl_words.specs.declared.signatures.Callee.{Callee}
use Rattle.cl_grammar.proofs.Declared.{AreNamed, found_named, callees_named}
use Rattle.cl_text_grammar.specs.Displays.{CallsDisplays}

counted_named : (x : List ℕ) (es : List (List ℕ × Callee)) (o : Option Callee) (count : Option ℕ) → AreNamed es → named x es ≡ o
    → display_count o ≡ Some count → is_name x ≡ true
counted_named x es (Some c) count h e i = found_named x es c h e
counted_named x es None count h e i = cc

pub displays_named : (forms : List Outer) → CallsDisplays (signatures_of forms)
displays_named forms x count e =
    let w : Signatures = signatures_of forms in
    counted_named x w.callees (named x w.callees) count (callees_named forms) refl e
