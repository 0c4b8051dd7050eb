-- Constants of two types.
use Rattle.std.proofs.Common.{◌≡◌, ◌↔◌, true, List, ◌∷◌, refl, ap, sym, ◌∙◌}
use Rattle.std.specs.Prelude.{Option, Some, None, ◌&&◌, IsTrue}
use Rattle.std.specs.declared.cmp.Ordering.{Ordering}
use Rattle.std.specs.declared.cmp.Ordering.TheVariants.{Less, Equal, Greater}
use Rattle.std.specs.Ordering.{ordering_reverse}
use Rattle.cl_value.specs.Data.{Data, order_of}
use Rattle.cl_value.specs.OrderLaws.{order_total, same_data}
use Rattle.cl_lattice.specs.Arguments.{constant_before}
use Rattle.cl_lattice.specs.Members.{is_equal, is_same}
use Rattle.cl_lattice.specs.Subtypes.{all_among}
use Rattle.cl_lattice.specs.SubtypeConstants.{is_placed}

-- the first constant has its place, and the others
pub first_placed : (v : Option Data) (cs ds : List Data) → all_among (constant_before v cs) ds ≡ (is_placed v ds && all_among cs ds)
first_placed None cs ds = refl
first_placed (Some c) cs ds = refl

turned_equal : (o : Ordering) → o ≡ ordering_reverse o → o ≡ Equal
turned_equal Less e = cc
turned_equal Equal e = refl
turned_equal Greater e = cc

equal_is : (o : Ordering) → is_equal o ≡ true → o ≡ Equal
equal_is Less e = cc
equal_is Equal e = refl
equal_is Greater e = cc

-- a value is the same as itself
pub same_itself : (d : Data) → is_same d d ≡ true
same_itself d = ap is_equal (turned_equal (order_of d d) (order_total.antisymm d d))

-- what is called the same is the same
pub same_is : (d e : Data) → is_same d e ≡ true → d ≡ e
same_is d e h = same_data d e (equal_is (order_of d e) h)

same_along : (d e : Data) → d ≡ e → is_same d e ≡ true
same_along d e h = ap (λ x. is_same d x) (sym h) ∙ same_itself d

pub same_constant : (d e : Data) → IsTrue (is_same d e) ↔ (Some d ≡ Some e)
same_constant d e = (λ h. ap Some (same_is d e h), λ h. same_along d e cc)

-- lists are the same where their first values and the others are
pub same_more : (v w : Option Data) (vs ws : List (Option Data)) → ((v ≡ w) × (vs ≡ ws)) ↔ (v ∷ vs ≡ w ∷ ws)
same_more v w vs ws = (λ h. let a : v ≡ w = h.0 in let b : vs ≡ ws = h.1 in cc, λ h. (cc, cc))
