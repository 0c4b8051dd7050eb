-- What a presentation says of itself.
use Rattle.std.specs.Prelude.{ℕ, Bool, List, refl}
use Rattle.std.specs.Coded.{Coded, code_by, coded_bool, coded_list, coded_ℕ, coded×}
use Rattle.cl_syntax.specs.TypeSpecTree.{TypeSpecTree}
use Rattle.cl_syntax.specs.TypeSpecTreeCode.{coded_type_spec_tree}
use Rattle.cl_value.specs.Data.{Data, data_code}

-- what is presented, the specifier of its type, and whether it is sensitive all over its box
pub record LabelAt : Type 0 where
  pub object : Data
  pub spec : TypeSpecTree
  pub single_box : Bool

-- ---- how the logic stores labels

-- how the logic stores a label
abbrev pub label_code : Coded LabelAt
label_code =
    code_by (Data × (TypeSpecTree × Bool)) (coded× data_code (coded× coded_type_spec_tree coded_bool)) (λ l. (l.object, (l.spec, l.single_box)))
    (λ p. record { object = p.0; spec = p.1.0; single_box = p.1.1 }) (λ _. refl)
