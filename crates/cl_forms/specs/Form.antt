-- What a `Form` is as a tree.
use Rattle.cl_forms.specs.Tree.{Tree, number, literal, name, form, trees_of}
use Rattle.cl_forms.specs.declared.form.Form.{Form}
use Rattle.cl_forms.specs.declared.form.Form.TheVariants as variant

-- the tree of a form of the program
abbrev pub tree_of : Form → Tree
tree_of (variant.Number z at) = number z at
tree_of (variant.Literal s at) = literal s at
tree_of (variant.Name s at) = name s at
tree_of (variant.Parts ts at) = form (trees_of ts) at
