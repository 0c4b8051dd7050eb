-- What a text reads as is a member of the type.
use Rattle.std.proofs.Common.{◌≡◌, ℕ, List, Bool, true, false, refl, ap, subst, Option, Some, None}
use Rattle.cl_value.specs.Data.{Data}
use Rattle.cl_eval.specs.Slots.{Slots}
use Rattle.cl_eval.specs.TypeMeanings.{AreObjects}
use Rattle.cl_syntax.specs.TypeSpecTree.{TypeSpecTree}
use Rattle.cl_lattice.specs.Expanded.{Expanded}
use Rattle.cl_lattice.specs.Members.{is_member}
use Rattle.cl_ptext.specs.Book.{Book}
use Rattle.cl_ptext.specs.Methods.{Reading, Object, Nothing, Trap, read_object, predicates_of}
use Rattle.cl_ptext.specs.Readings.{if_holds, only_members, reading, row_read}

-- readings of objects that are equal have the same object
object_same : (d e : Data) → Object d ≡ Object e → d ≡ e
object_same d e h = ap (λ r. elim r [ Object c ↦ c | Nothing ↦ d | Trap k ↦ d ]) h

-- what is read only where something is true of it has this true of it
held_by : (d e : Data) (t : Bool) (P : Data → Bool) → P d ≡ t → if_holds t d ≡ Object e → P e ≡ true
held_by d e true P h o = subst (λ c. P c ≡ true) (object_same d e o) h
held_by d e false P h o = cc

-- what is left where only members are read is a member
pub read_member : (b : Book) (t : Expanded) (r : Reading) (d : Data) → only_members b t r ≡ Object d → is_member b.world (predicates_of b.app) d t ≡ true
read_member b t (Object c) d o = held_by c d (is_member b.world (predicates_of b.app) c t) (λ e. is_member b.world (predicates_of b.app) e t) refl o
read_member b t Nothing d o = cc
read_member b t (Trap k) d o = cc

-- an object that a text reads as is a member of the type
pub object_read : (b : Book) (slots : Slots) (t : Expanded) (s : TypeSpecTree) (x : List ℕ) (d : Data) → reading b slots t s x ≡ Object d → is_member b.world
    (predicates_of b.app) d t ≡ true
object_read b slots t s x d o = read_member b t (row_read b slots t s x) d o

-- a reading with an object is the reading of this object
object_is : (r : Reading) (d : Data) → read_object r ≡ Some d → r ≡ Object d
object_is (Object e) d h = let same : e ≡ d = cc in ap Object same
object_is Nothing d h = cc
object_is (Trap kind) d h = cc

-- of a book, by what types come to
pub book_objects : (b : Book) (expand : TypeSpecTree → Expanded)
    → AreObjects (λ d s. is_member b.world (predicates_of b.app) d (expand s)) (λ slots s x. read_object (reading b slots (expand s) s x))
book_objects b expand slots s x d o = object_read b slots (expand s) s x d (object_is (reading b slots (expand s) s x) d o)
