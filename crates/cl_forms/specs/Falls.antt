-- A form's parts weigh less than the form, by which a recursion over forms ends.
use Rattle.std.specs.Prelude.{◌≤◌, List, [], ◌∷◌, map}
use Rattle.std.proofs.Common.{arith}
use Rattle.cl_forms.specs.Tree.{weight, weights, trees_of}
use Rattle.cl_forms.specs.Form.{tree_of}
use Rattle.cl_forms.specs.declared.form.Form.{Form}
use Rattle.cl_forms.specs.declared.form.Form.TheVariants as variant
use Rattle.cl_forms.specs.declared.form.Forms.TheDeep.{deep-Form, deep-Forms}
use Rattle.cl_forms.specs.declared.form.Forms.TheInside.{Inside}
use denote.Param.Weighed.{most}

-- a form is no deeper than its weight
pub deep-weight : (f : Form) → deep-Form f ≤ weight (tree_of f)
deep-weight (variant.Number z at) = omega arith
deep-weight (variant.Literal s at) = omega arith
deep-weight (variant.Name s at) = omega arith
deep-weight (variant.Parts ts at) = omega arith

-- no form of a row is deeper than the row's weight
pub most-weight : (fs : List Form) → most deep-Form fs ≤ weights (trees_of (map tree_of fs))
most-weight [] = omega arith
most-weight (f ∷ fs) = omega (arith, deep-weight f, most-weight fs)

-- shared forms are no deeper than their weight
pub forms-weight : (a : Inside) → deep-Forms a ≤ weights (trees_of (map tree_of a.items.items))
forms-weight a = omega (arith, most-weight a.items.items)
