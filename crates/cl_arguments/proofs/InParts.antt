-- The arguments of a specifier among its parts, and what is found in them in turn.
use Rattle.std.proofs.Common.{◌≡◌, ◌<◌, ◌+◌, ◌++◌, ℕ, length, drop, get_or, List, [], ◌∷◌, refl, sym, ap, ◌∙◌}
use Rattle.std.specs.Prelude.{map}
use Rattle.std.proofs.lemmas.List.{at_drop_more}
use Rattle.cl_lattice.specs.Arguments.{trees_of}
use Rattle.cl_syntax.specs.TypeSpec.{arg_tree_of}
use Rattle.cl_syntax.specs.TypeSpecTree.{TypeSpecTree, specifier, TypeArgTree, arg_trees_of}
use Rattle.cl_syntax.specs.declared.type_specs.TypeArg.{TypeArg}
use Rattle.cl_syntax.specs.declared.type_specs.TypeOptions.{TypeOptions}
use Rattle.cl_arguments.specs.Probes.{in_parts, in_parts_all, in_parts_arg}
use Rattle.cl_arguments.specs.ProbeSearch.{with_probe, with_probes}
use Rattle.cl_arguments.specs.declared.probes.Probe.{Probe}
pub use Rattle.cl_lattice.proofs.RingParts.{arg_nodes}

-- first those, then these
pub probes_in_turn : (ps qs found : List Probe) → with_probes (ps ++ qs) found ≡ with_probes qs (with_probes ps found)
probes_in_turn [] qs found = refl
probes_in_turn (p ∷ ps) qs found = probes_in_turn ps qs (with_probe found p)

-- first in the specifier itself, then in its arguments
pub parts_in_turn : (f : TypeSpecTree → List Probe) (s : TypeSpecTree) (x : List ℕ) (ts : List TypeArg) (trees : List TypeArgTree) (o : TypeOptions) (found mid : List Probe)
    → specifier x (arg_trees_of trees) o ≡ s → map arg_tree_of ts ≡ trees → mid ≡ with_probes (f s) found
    → with_probes (in_parts_all f (trees_of ts)) mid ≡ with_probes (in_parts f s) found
parts_in_turn f s x ts trees o found mid v e m =
    ap (λ (ps : List Probe). with_probes (in_parts_all f (trees_of ts)) ps) m
    ∙ sym (probes_in_turn (f s) (in_parts_all f (trees_of ts)) found)
    ∙ ap (λ (t : TypeSpecTree). with_probes (f t ++ in_parts_all f (trees_of ts)) found) (sym v)
    ∙ ap (λ (es : List TypeArgTree). with_probes (f (specifier x (arg_trees_of trees) o) ++ in_parts_all f (arg_trees_of es)) found) e
    ∙ ap (λ (t : TypeSpecTree). with_probes (in_parts f t) found) v

-- first in one argument, then in those behind it
pub args_in_turn : (f : TypeSpecTree → List Probe) (ts : List TypeArg) (i : ℕ) (a : TypeArg) (found : List Probe) → i < length ts → a ≡ get_or ts i a
    → with_probes (in_parts_all f (trees_of (drop (i + 1) ts))) (with_probes (in_parts_arg f (arg_tree_of a)) found) ≡ with_probes (in_parts_all f (trees_of (drop i ts))) found
args_in_turn f ts i a found l e =
    sym (probes_in_turn (in_parts_arg f (arg_tree_of a)) (in_parts_all f (trees_of (drop (i + 1) ts))) found)
    ∙ ap (λ (b : TypeArg). with_probes (in_parts_all f (trees_of (b ∷ drop (i + 1) ts))) found) e
    ∙ sym (at_drop_more (λ (es : List TypeArg). with_probes (in_parts_all f (trees_of es)) found) ts i a l)
