-- Command tables, as forms declare them.
use Rattle.std.specs.Prelude.{ℕ, if◌then◌else◌, List, [], ◌∷◌, Option, Some, None}
use Rattle.cl_forms.specs.Datum.{Datum, parts_of, offset}
use Rattle.cl_forms.specs.Keys.{Keyed, keyed_pairs, values_of}
use Rattle.cl_forms.specs.Naming.{name_in}
use Rattle.cl_forms.specs.declared.keys.Key.{Key}
use Rattle.cl_forms.specs.declared.keys.Key.TheVariants as key
use Rattle.cl_tables.specs.declared.declarations.TableDecl.{TableDecl}
use Rattle.cl_words.specs.Signatures.{global_table, table_in}
use Rattle.cl_words.specs.declared.signatures.Signatures.{Signatures}
use Rattle.cl_expressions.specs.Load.{Load, ◌>>=◌, give, refuse, noted}
use Rattle.cl_expressions.specs.Scopes.{Names}
use Rattle.cl_declare.specs.Names.{is_name_list, names_of}

-- the table that each text has, where no other is named
abbrev pub table_or_global : Option (List ℕ) → List ℕ
table_or_global None = global_table
table_or_global (Some x) = x

-- a table is noted at this offset where it is not declared
abbrev pub note_named_table : Signatures → ℕ → Option (List ℕ) → Load (Unit {0})
note_named_table w at None = give tt
note_named_table w at (Some x) = noted (table_in w x) at

-- the same for each name
abbrev pub note_tables : Signatures → List Datum → Load (Unit {0})
note_tables w [] = give tt
note_tables w (d ∷ ds) = note_named_table w (offset d) (name_in d) >>= λ u. note_tables w ds

-- the keys that a command table may have
abbrev pub table_keys : List Key
table_keys = key.InheritFrom ∷ []

-- a table that inherits from the names of a list; each of these is noted where it is not declared
abbrev pub parse_parents : Signatures → ℕ → List ℕ → Datum → Load TableDecl
parse_parents w at x d =
    if is_name_list d then (note_tables w (parts_of d) >>= λ u. give (record { name = x; inherit_from = names_of (parts_of d); at = at })) else refuse 6 at

-- by what stands behind the key: the table that each text has, where there is no key
abbrev pub parse_inheriting : Signatures → ℕ → List ℕ → Option (List Datum) → Load TableDecl
parse_inheriting w at x None = give (record { name = x; inherit_from = global_table ∷ []; at = at })
parse_inheriting w at x (Some []) = refuse 6 at
parse_inheriting w at x (Some (d ∷ ds)) = parse_parents w at x d

-- a table by its name and its keys; wrong at this offset where one of them is
abbrev pub parse_named_table : Signatures → ℕ → Option (List ℕ) → Option (List Keyed) → Load TableDecl
parse_named_table w at None ks = refuse 6 at
parse_named_table w at (Some x) None = refuse 6 at
parse_named_table w at (Some x) (Some ks) = parse_inheriting w at x (values_of key.InheritFrom ks)

-- `(define-command-table NAME :inherit-from (TABLE ...))`
abbrev pub parse_table : Signatures → ℕ → List Datum → Load TableDecl
parse_table w at [] = refuse 6 at
parse_table w at (n ∷ keys) = parse_named_table w at (name_in n) (keyed_pairs table_keys [] keys)
