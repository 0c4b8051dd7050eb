-- The faults of user types, host types and methods stand in them.
use Rattle.std.proofs.Common.{ℕ, is_some, List, [], ◌∷◌}
use Rattle.std.specs.Prelude.{Option, Some, None}
use Rattle.std.specs.Option.{IfSome}
use Rattle.cl_syntax.specs.ExprTree.{ExprTree}
use Rattle.cl_application.specs.declared.declarations.MethodDecl.{MethodDecl}
use Rattle.cl_forms.specs.Datum.{Datum, parts_of, offset}
use Rattle.cl_forms.specs.Keys.{Keyed, keyed_pairs}
use Rattle.cl_forms.specs.Naming.{name_in}
use Rattle.cl_forms.specs.declared.keys.Key.{Key}
use Rattle.cl_forms.specs.declared.keys.Key.TheVariants as key
use Rattle.cl_words.specs.Signatures.{function_in, type_in}
use Rattle.cl_words.specs.declared.signatures.Signatures.{Signatures}
use Rattle.cl_expressions.specs.Scopes.{Names, in_sight}
use Rattle.cl_declare.specs.Methods.{may_have_methods, parse_named_method, parse_method}
use Rattle.cl_declare.specs.Names.{names_of}
use Rattle.cl_declare.specs.Types.{Inherited, note_function, note_predicate, parse_inherited, parse_type_key, parse_type_keys, parse_type_keyed}
use Rattle.cl_declare.specs.Types.{parse_type_shaped, parse_user_type, parse_host_type}
use Rattle.cl_declare.specs.TypeShapes.{name_alone, type_keys, type_shape}
use Rattle.cl_declare.specs.declared.type_shapes.TypeShape.{TypeShape}
use Rattle.cl_faults.proofs.FaultLemmas.{FaultsAt, gives, refuses, notes, binds, chooses}
use Rattle.cl_faults.proofs.ExpressionFaults.{Covers, expr_faults}
use Rattle.cl_faults.proofs.DataFaults.{CoversEach}
use Rattle.cl_faults.proofs.KeyFaults.{CoversKeys, pairs_covered}
use Rattle.cl_faults.proofs.TypeFaults.{type_faults}

abbrev method_of : List ℕ → List ℕ → ℕ → ExprTree → MethodDecl
method_of x p at t = record { name = x; parameter = p; body = t; at = at }

module _ {P : ℕ → Type 0} where
  -- ---- user types

  inherited_faults : (w : Signatures) (ps : Names) (ds : List Datum) (i : Inherited) → CoversEach P ds → FaultsAt P (parse_inherited w ps ds i)
  inherited_faults w ps [] i c = gives
  inherited_faults w ps (d ∷ ds) i c = binds (type_faults w ps d c.0) λ t. gives

  function_faults : (w : Signatures) (at : ℕ) (name : Option (List ℕ)) → FaultsAt P (note_function w at name)
  function_faults w at None = gives
  function_faults w at (Some x) = notes (is_some (function_in w x)) at

  predicate_faults : (w : Signatures) (ds : List Datum) → FaultsAt P (note_predicate w ds)
  predicate_faults w [] = gives
  predicate_faults w (d ∷ ds) = function_faults w (offset d) (name_in d)

  type_key_faults : (w : Signatures) (ps : Names) (k : Key) (at : ℕ) (ds : List Datum) (i : Inherited) → CoversEach P ds
      → FaultsAt P (parse_type_key w ps (record { key = k; at = at; values = ds }) i)
  type_key_faults w ps key.InheritFrom at ds i c = inherited_faults w ps ds i c
  type_key_faults w ps key.Satisfies at ds i c = binds (predicate_faults w ds) λ u. gives
  type_key_faults w ps key.Size at ds i c = gives
  type_key_faults w ps key.Slots at ds i c = gives
  type_key_faults w ps key.Panes at ds i c = gives
  type_key_faults w ps key.CommandTable at ds i c = gives
  type_key_faults w ps key.Name at ds i c = gives
  type_key_faults w ps key.Keystroke at ds i c = gives
  type_key_faults w ps key.Description at ds i c = gives
  type_key_faults w ps key.Separator at ds i c = gives
  type_key_faults w ps key.SingleBox at ds i c = gives
  type_key_faults w ps key.Default at ds i c = gives
  type_key_faults w ps key.Prompt at ds i c = gives
  type_key_faults w ps key.Gesture at ds i c = gives
  type_key_faults w ps key.Priority at ds i c = gives
  type_key_faults w ps key.Documentation at ds i c = gives
  type_key_faults w ps key.Tester at ds i c = gives
  type_key_faults w ps key.UniqueId at ds i c = gives
  type_key_faults w ps key.CacheValue at ds i c = gives
  type_key_faults w ps key.Command at ds i c = gives
  type_key_faults w ps key.Pane at ds i c = gives
  type_key_faults w ps key.When at ds i c = gives
  type_key_faults w ps key.Else at ds i c = gives

  type_keys_faults : (w : Signatures) (ps : Names) (ks : List Keyed) (i : Inherited) → CoversKeys P ks → FaultsAt P (parse_type_keys w ps ks i)
  type_keys_faults w ps [] i c = gives
  type_keys_faults w ps (k ∷ ks) i c =
      binds (type_key_faults w ps k.key k.at k.values i c.0.1) λ more. type_keys_faults w ps ks more c.1

  shaped_type_faults : (w : Signatures) (at : ℕ) (ps : Datum) (ks : List Keyed) (shape : Option TypeShape) → P at → CoversKeys P ks
      → FaultsAt P (parse_type_shaped w at ps ks shape)
  shaped_type_faults w at ps ks None h c = refuses h
  shaped_type_faults w at ps ks (Some t) h c = binds (type_keys_faults w (names_of (parts_of ps)) ks None c) λ i. gives

  keyed_type_faults : (w : Signatures) (at : ℕ) (n ps : Datum) (ks : Option (List Keyed)) → P at → IfSome ks (CoversKeys P)
      → FaultsAt P (parse_type_keyed w at n ps ks)
  keyed_type_faults w at n ps None h c = refuses h
  keyed_type_faults w at n ps (Some ks) h c = shaped_type_faults w at ps ks (type_shape w n ps ks) h c

  pub user_type_faults : (w : Signatures) (at : ℕ) (ds : List Datum) → P at → CoversEach P ds → FaultsAt P (parse_user_type w at ds)
  user_type_faults w at [] h c = refuses h
  user_type_faults w at (n ∷ []) h c = refuses h
  user_type_faults w at (n ∷ ps ∷ keys) h c =
      keyed_type_faults w at n ps (keyed_pairs type_keys [] keys) h (pairs_covered P type_keys [] keys tt c.1.1)

  -- ---- host types and methods

  pub host_type_faults : (at : ℕ) (ds : List Datum) → P at → FaultsAt P (parse_host_type at ds)
  host_type_faults at (n ∷ []) h = chooses (is_some (name_in n)) gives (refuses h)
  host_type_faults at ds h = refuses h

  named_method_faults : (w : Signatures) (at name_at : ℕ) (name parameter : Option (List ℕ)) (e : Datum) → P at → Covers P e
      → FaultsAt P (parse_named_method w at name_at name parameter e)
  named_method_faults w at name_at (Some x) (Some p) e h c =
      binds (notes (may_have_methods (type_in w x)) name_at) λ u. binds (expr_faults w e (in_sight (p ∷ []) []) c) λ t. gives {x = method_of x p at t}
  named_method_faults w at name_at (Some x) None e h c = refuses h
  named_method_faults w at name_at None parameter e h c = refuses h

  pub method_faults : (w : Signatures) (at : ℕ) (ds : List Datum) → P at → CoversEach P ds → FaultsAt P (parse_method w at ds)
  method_faults w at (n ∷ ps ∷ e ∷ []) h c = named_method_faults w at (offset n) (name_in n) (name_alone (parts_of ps)) e h c.1.1.0
  method_faults w at ds h c = refuses h
