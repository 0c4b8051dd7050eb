-- What a `Datum` of the program is.
use Rattle.cl_forms.specs.Datum as tree
use Rattle.cl_forms.specs.declared.datum.Datum.{Datum}
use Rattle.cl_forms.specs.declared.datum.Datum.TheVariants as variant

-- what a datum of the program is as a tree
abbrev pub datum_of : Datum → tree.Datum
datum_of (variant.Number z at) = tree.number z at
datum_of (variant.Literal s at) = tree.literal s at
datum_of (variant.Word s at) = tree.word s at
datum_of (variant.Quoted s at name_at) = tree.quoted s at name_at
datum_of (variant.Stray at) = tree.stray at
datum_of (variant.List ds at) = tree.list (tree.datums_of ds) at
