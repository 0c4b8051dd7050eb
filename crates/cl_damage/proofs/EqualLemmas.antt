-- Why equal children touch nothing.
use Rattle.std.proofs.Common.{◌≡◌, ℕ, suc, Bool, true, false, List, [], ◌∷◌, refl, ◌∙◌, ap, sym, subst, arith}
use Rattle.std.proofs.lemmas.List.{drop_all, length-map}
use Rattle.std.specs.Prelude.{if◌then◌else◌, length, map, drop}
use Rattle.cl_region.specs.declared.rects.Rect.{Rect}
use Rattle.cl_damage.specs.Agreement.{AreEqual}
use Rattle.cl_damage.specs.Children.{Child, Children, list_of}
use Rattle.cl_damage.specs.Touched.{Compared, agreeing, all_compared, child_of, is_equal, level, touched, without_end}
use Rattle.cl_damage.proofs.DepthLemmas.{children-compared}

chosen : (b : Bool) (m n : ℕ) → b ≡ true → (if b then m else n) ≡ m
chosen true m n e = refl
chosen false m n e = absurd (cc)

module _ {A : Type 0} (bounds : A → Rect) (same : A → A → Bool) where
  all_agree : (os ns : List (Child A)) → AreEqual same os ns → (agreeing same os ns ≡ length os) × (agreeing same os ns ≡ length ns)
  all_agree [] [] h = (refl, refl)
  all_agree [] (n ∷ ns) h = absurd h
  all_agree (o ∷ os) [] h = absurd h
  all_agree (o ∷ os) (n ∷ ns) h =
      let more = all_agree os ns h.1 in
      let first = chosen (is_equal same o n) (suc (agreeing same os ns)) 0 h.0 in
      (first ∙ ap (λ (k : ℕ). suc k) more.0, first ∙ ap (λ (k : ℕ). suc k) more.1)

  nothing_left : {B : Type 0} (n : ℕ) (xs : List B) → n ≡ length xs → drop n xs ≡ []
  nothing_left n xs e = drop_all n xs (Prim.omega (arith, e))

  level-none : (os : List (Child A)) (cs : List (Compared A)) → AreEqual same os (map child_of cs) → level bounds same os cs ≡ []
  level-none os cs h =
      let n = agreeing same os (map child_of cs) in
      let old : drop n os ≡ [] = nothing_left n os (all_agree os (map child_of cs) h).0 in
      let new : drop n cs ≡ [] = nothing_left n cs ((all_agree os (map child_of cs) h).1 ∙ length-map cs child_of) in
      λ i. without_end bounds same (old i) (new i)

  pub touched-none : (old new : Children A) → AreEqual same (list_of old) (list_of new) → touched bounds same old new ≡ []
  touched-none old new h =
      level-none (list_of old) (all_compared bounds same new)
      (subst (λ (ks : List (Child A)). AreEqual same (list_of old) ks) (sym (children-compared bounds same new)) h)
