-- The order of values is total, and calls nothing equal but what is the same. The laws of `Ord` cite this.
use Rattle.std.proofs.Common.{◌≡◌, ℕ, ◌<◌, ◌≤◌, Bool, true, false, refl, sym, ap, arith}
use Rattle.std.specs.declared.cmp.Ordering.{Ordering}
use Rattle.std.specs.declared.cmp.Ordering.TheVariants.{Less, Equal, Greater}
use Rattle.std.specs.Ordering.{nat_cmp, bool_cmp, ordering_then, ordering_reverse}
use Rattle.std.specs.Cmp.Lexicographic.{slice_cmp}
use Rattle.std.specs.Cmp.{IsTotalOrder, bool_cmp_total, then_flip, nat_cmp_is}
use Rattle.std.proofs.lemmas.Map.Lookups.{exact_bytes, exact_signed}
use Rattle.std.proofs.lemmas.Cmp.{int_cmp_total, nat_list_cmp_total, nat_cmp_total, ranked}
use Rattle.cl_value.specs.Data.{Data, int, bool, text, symbol, null, list, rec, Items, none, item, kind_of, order_of, order_of_items}

-- ---- what is called equal is the same

-- two orders in turn are equal only if the first is
then_first : (a b : Ordering) → ordering_then a b ≡ Equal → a ≡ Equal
then_first Less b p = p
then_first Equal b p = refl
then_first Greater b p = p

-- two orders in turn are equal only if the second is
then_second : (a b : Ordering) → ordering_then a b ≡ Equal → b ≡ Equal
then_second Less b p = cc
then_second Equal b p = p
then_second Greater b p = cc

-- truth values of equal order are one
bool_same : (a b : Bool) → bool_cmp a b ≡ Equal → a ≡ b
bool_same true true p = refl
bool_same false false p = refl
bool_same true false p = cc
bool_same false true p = cc

mutual
  -- values of equal order are one value
  pub same_data : (x y : Data) → order_of x y ≡ Equal → x ≡ y
  same_data (int m) (int n) p = ap int (exact_signed m n p)
  same_data (bool a) (bool b) p = ap bool (bool_same a b p)
  same_data (text s) (text t) p = ap text (exact_bytes s t p)
  same_data (symbol s) (symbol t) p = ap symbol (exact_bytes s t p)
  same_data null null p = refl
  same_data (list ds) (list es) p = ap list (same_items ds es p)
  same_data (rec s ds) (rec t es) p =
      let names : s ≡ t = exact_bytes s t (then_first _ _ p) in
      let parts : ds ≡ es = same_items ds es (then_second _ _ p) in
      λ i. rec (names i) (parts i)
  same_data x y p = cc

  -- rows of equal order are one row
  pub same_items : (ds es : Items) → order_of_items ds es ≡ Equal → ds ≡ es
  same_items none none p = refl
  same_items (item d ds) (item e es) p =
      let first : d ≡ e = same_data d e (then_first _ _ p) in
      let rest : ds ≡ es = same_items ds es (then_second _ _ p) in
      λ i. item (first i) (rest i)
  same_items ds es p = cc

-- ---- the other way round

-- two reversed orders in turn are the reverse of the two in turn
then_reversed : (a b c d : Ordering) → a ≡ ordering_reverse c → b ≡ ordering_reverse d → ordering_then a b ≡ ordering_reverse (ordering_then c d)
then_reversed a b c d p q = rw (p, q) (then_flip c d)

mutual
  -- the order of two values is the reverse of their order the other way round
  reversed : (x y : Data) → order_of x y ≡ ordering_reverse (order_of y x)
  reversed (int m) (int n) = int_cmp_total.antisymm m n
  reversed (bool a) (bool b) = bool_cmp_total.antisymm a b
  reversed (text s) (text t) = nat_list_cmp_total.antisymm s t
  reversed (symbol s) (symbol t) = nat_list_cmp_total.antisymm s t
  reversed null null = refl
  reversed (list ds) (list es) = reversed_items ds es
  reversed (rec s ds) (rec t es) = then_reversed _ _ _ _ (nat_list_cmp_total.antisymm s t) (reversed_items ds es)
  reversed x y = nat_cmp_total.antisymm (kind_of x) (kind_of y)

  -- the order of two rows is the reverse of their order the other way round
  reversed_items : (ds es : Items) → order_of_items ds es ≡ ordering_reverse (order_of_items es ds)
  reversed_items none none = refl
  reversed_items none (item e es) = refl
  reversed_items (item d ds) none = refl
  reversed_items (item d ds) (item e es) = then_reversed _ _ _ _ (reversed d e) (reversed_items ds es)

-- ---- along a chain

-- a number that comes first is less
nat_less : (m n : ℕ) → nat_cmp m n ≡ Less → m < n
nat_less m n p = ranked m n Less (sym p)

-- a number that is less comes first
less_nat : (m n : ℕ) → m < n → Less ≡ nat_cmp m n
less_nat m n h = nat_cmp_is m n Less h

-- a value that comes first is of no later kind
kinds_rise : (x y : Data) → order_of x y ≡ Less → kind_of x ≤ kind_of y
kinds_rise (int m) (int n) p = omega arith
kinds_rise (bool a) (bool b) p = omega arith
kinds_rise (text s) (text t) p = omega arith
kinds_rise (symbol s) (symbol t) p = omega arith
kinds_rise null null p = omega arith
kinds_rise (list ds) (list es) p = omega arith
kinds_rise (rec s ds) (rec t es) p = omega arith
kinds_rise x y p = omega (arith, nat_less (kind_of x) (kind_of y) p)

-- a value of an earlier kind comes first
earlier_kind : (x y : Data) → kind_of x < kind_of y → order_of x y ≡ Less
earlier_kind (int m) (int n) h = absurd (omega arith)
earlier_kind (bool a) (bool b) h = absurd (omega arith)
earlier_kind (text s) (text t) h = absurd (omega arith)
earlier_kind (symbol s) (symbol t) h = absurd (omega arith)
earlier_kind null null h = absurd (omega arith)
earlier_kind (list ds) (list es) h = absurd (omega arith)
earlier_kind (rec s ds) (rec t es) h = absurd (omega arith)
earlier_kind x y h = sym (less_nat (kind_of x) (kind_of y) h)

-- orders in turn chain if each of the two does
then_chained : (a b c r s t : Ordering) → (a ≡ Less → b ≡ Less → c ≡ Less) → (a ≡ Equal → c ≡ b) → (b ≡ Equal → c ≡ a) → (r ≡ Less → s ≡ Less → t ≡ Less) → ordering_then a r ≡ Less → ordering_then b s ≡ Less → ordering_then c t ≡ Less
then_chained Less Less c r s t f g h k p q = let e : c ≡ Less = f refl refl in rw e refl
then_chained Less Equal c r s t f g h k p q = let e : c ≡ Less = h refl in rw e refl
then_chained Equal Less c r s t f g h k p q = let e : c ≡ Less = g refl in rw e refl
then_chained Equal Equal c r s t f g h k p q = let e : c ≡ Equal = g refl in rw e (k p q)
then_chained Greater b c r s t f g h k p q = cc
then_chained a Greater c r s t f g h k p q = cc

mutual
  -- what comes before a value comes before all that the value comes before
  chained : (x y z : Data) → order_of x y ≡ Less → order_of y z ≡ Less → order_of x z ≡ Less
  chained (int l) (int m) (int n) p q = int_cmp_total.trans l m n p q
  chained (bool a) (bool b) (bool c) p q = bool_cmp_total.trans a b c p q
  chained (text s) (text t) (text u) p q = nat_list_cmp_total.trans s t u p q
  chained (symbol s) (symbol t) (symbol u) p q = nat_list_cmp_total.trans s t u p q
  chained null null null p q = p
  chained (list ds) (list es) (list fs) p q = chained_items ds es fs p q
  chained (rec s ds) (rec t es) (rec u fs) p q =
      then_chained _ _ _ _ _ _ (nat_list_cmp_total.trans s t u) (λ e. nat_list_cmp_total.congr s t u e) (λ e. ap (λ x. slice_cmp nat_cmp s x) (sym (exact_bytes t u e))) (chained_items ds es fs) p q
  chained x y z p q = earlier_kind x z (omega (arith, kinds_rise x y p, kinds_rise y z q))

  -- what comes before a row comes before all that the row comes before
  chained_items : (ds es fs : Items) → order_of_items ds es ≡ Less → order_of_items es fs ≡ Less → order_of_items ds fs ≡ Less
  chained_items none (item e es) (item f fs) p q = refl
  chained_items (item d ds) (item e es) (item f fs) p q =
      then_chained _ _ _ _ _ _ (chained d e f) (λ a. ap (λ x. order_of x f) (same_data d e a)) (λ b. ap (λ x. order_of d x) (sym (same_data e f b))) (chained_items ds es fs) p q
  chained_items ds es fs p q = cc

-- the order of values is total
pub order_total : IsTotalOrder order_of
order_total = record {
  antisymm = reversed;
  trans = chained;
  congr = λ x y z p. ap (λ d. order_of d z) (same_data x y p);
}
