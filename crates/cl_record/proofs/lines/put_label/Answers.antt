use Rattle.std.proofs.Common.{◌≡◌, ◌∷◌, ◌++◌, List, ℕ, [], append_assoc, ◌∙◌}
use Rattle.cl_syntax.specs.TypeSpecTree.{name_of}
use Rattle.cl_record.proofs.lines.put_label.Goals as goal

glued : (a b c d : List ℕ) (x : ℕ) → (((a ++ b) ++ c) ++ x ∷ []) ++ d ≡ a ++ (b ++ (c ++ x ∷ d))
glued a b c d x =
    append_assoc ((a ++ b) ++ c) (x ∷ []) d ∙ (append_assoc (a ++ b) c (x ∷ d) ∙ append_assoc a b (c ++ x ∷ d))

pub returns : goal.returns
returns c =
    rw (c.in_ok-put_value.ensures, c.object.ensures, c.in_ok-push.ensures.items, c.in_ok-extend_from_slice-2.ensures.items, c.as_slice.ensures, c.name.ensures, c.deref.ensures, c.spec.ensures, c.in_ok-extend_from_slice.ensures.items)
    (glued c.args.line.now.items _ (name_of c.args.label.now.spec) _ 32)
