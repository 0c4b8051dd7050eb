-- What the order calls `Equal` is equal.
use Rattle.std.proofs.Common.{◌≡◌, ℕ, Bool, true, false, List, [], ◌∷◌, refl, sym, ap, ◌∙◌, ℤ, ◌↔◌}
use Rattle.std.specs.Prelude.{IsTrue}
use Rattle.std.proofs.lemmas.Cmp.{int_cmp_total, nat_list_cmp_total}
use Rattle.std.specs.declared.cmp.Ordering.{Ordering}
use Rattle.std.specs.declared.cmp.Ordering.TheVariants.{Less, Equal, Greater}
use Rattle.std.specs.Ordering.{nat_cmp, int_cmp, bool_cmp, ordering_reverse, is_eq}
use Rattle.std.specs.Cmp.Lexicographic.{slice_cmp}
use Rattle.cl_value.specs.Data.{Data, int, bool, text, symbol, null, list, rec, Items, none, item, items_of, order_of, order_of_items}
use Rattle.cl_value.specs.OrderLaws.{same_data}
use Rattle.cl_value.specs.Value.{data_of}
use Rattle.cl_value.specs.declared.Value.{Value}
use Rattle.cl_value.specs.declared.Value.TheVariants as value

pub same_parts : (ds es : List Data) → items_of ds ≡ items_of es → ds ≡ es
same_parts [] [] p = refl
same_parts (d ∷ ds) (e ∷ es) p =
    let first : d ≡ e = cc in
    let rest : ds ≡ es = same_parts ds es cc in
    λ i. first i ∷ rest i
same_parts ds es p = cc

pub data_of-inj : (v w : Value) → data_of v ≡ data_of w → v ≡ w
data_of-inj (value.Int m) (value.Int n) p = cc
data_of-inj (value.Bool a) (value.Bool b) p = cc
data_of-inj (value.Text s) (value.Text t) p = cc
data_of-inj (value.Symbol s) (value.Symbol t) p = cc
data_of-inj value.Null value.Null p = refl
data_of-inj (value.List ds) (value.List es) p = ap value.List (same_parts ds es cc)
data_of-inj (value.Record s ds) (value.Record t es) p =
    let names : s ≡ t = cc in
    let parts : ds ≡ es = same_parts ds es cc in
    λ i. value.Record (names i) (parts i)
data_of-inj v w p = cc

own_reverse : (o : Ordering) → o ≡ ordering_reverse o → o ≡ Equal
own_reverse Less p = cc
own_reverse Equal p = refl
own_reverse Greater p = cc

int_self : (n : ℤ) → int_cmp n n ≡ Equal
int_self n = own_reverse _ (int_cmp_total.antisymm n n)

bytes_self : (s : List ℕ) → slice_cmp nat_cmp s s ≡ Equal
bytes_self s = own_reverse _ (nat_list_cmp_total.antisymm s s)

bool_self : (b : Bool) → bool_cmp b b ≡ Equal
bool_self true = refl
bool_self false = refl

mutual
  pub order_self : (x : Data) → order_of x x ≡ Equal
  order_self (int n) = int_self n
  order_self (bool b) = bool_self b
  order_self (text s) = bytes_self s
  order_self (symbol s) = bytes_self s
  order_self null = refl
  order_self (list ds) = order_self_items ds
  order_self (rec s ds) = (let e : slice_cmp nat_cmp s s ≡ Equal = bytes_self s in rw e (order_self_items ds))

  order_self_items : (ds : Items) → order_of_items ds ds ≡ Equal
  order_self_items none = refl
  order_self_items (item d ds) = (let e : order_of d d ≡ Equal = order_self d in rw e (order_self_items ds))

pub same_values : (v w : Value) → order_of (data_of v) (data_of w) ≡ Equal → v ≡ w
same_values v w p = data_of-inj v w (same_data _ _ p)

pub order_same : (v w : Value) → v ≡ w → order_of (data_of v) (data_of w) ≡ Equal
order_same v w p = rw p (order_self (data_of w))

from_equal : (r : Ordering) → IsTrue (is_eq r) → r ≡ Equal
from_equal Less h = cc
from_equal Equal h = refl
from_equal Greater h = cc

-- the test of the order's answer is the test of equality
pub equal_test : (v w : Value) (r : Ordering) → r ≡ order_of (data_of v) (data_of w) → IsTrue (is_eq r) ↔ (v ≡ w)
equal_test v w r e = (λ h. same_values v w (sym e ∙ from_equal r h), λ p. rw (e, order_same v w p) refl)

pub order_tells : (v w : Value) → (order_of (data_of v) (data_of w) ≡ Equal) ↔ (v ≡ w)
order_tells v w = (same_values v w, order_same v w)

pub data_whole : (v w : Value) → data_of v ≡ data_of w → v ≡ w
data_whole v w p = data_of-inj v w p
