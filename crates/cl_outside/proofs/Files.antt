-- What a write behind a file's bytes needs and does.
use Rattle.std.proofs.Common.{◌≡◌, ℕ, ◌+◌, ◌≤◌, List, ◌++◌, length, get_or, set, refl, sym, ap, ◌∙◌, arith, Result, Ok, Err, true, false, cond, vec_len, vec_capacity, Vec, String}
use Rattle.std.specs.Prelude.{IsOk, is_ok, is_err, slice_index}
use Rattle.std.specs.declared.alloc.Global.{Global}
use Rattle.cl_outside.specs.Named.{name_at, updated, bytes_of, IsFirst}
use Rattle.cl_outside.specs.NameTables.{entries_of, rooms_of, entry_of, room_of}
use Rattle.cl_outside.proofs.Entries.{found_read, first_below, entries-set, number_read, number_written}

pub ok_not_err : {T E : Type 0} (r : Result T E) → IsOk r → is_err r ≡ true → ⊥
ok_not_err (Ok x) is not = cc
ok_not_err (Err e) is not = cc

pub grown_on_ok : {T E : Type 0} (r : Result T E) (now yes_then no_then : List ℕ) → is_err r ≡ false → now ≡ cond (is_ok r) yes_then no_then → now ≡ yes_then
grown_on_ok (Ok x) now yes_then no_then not h = h
grown_on_ok (Err e) now yes_then no_then not h = absurd (cc)

module _ (files : List (String Global × Vec ℕ Global)) (k : ℕ) (file : String Global × Vec ℕ Global) (at : IsFirst (entries_of files) k) (is : file ≡ get_or files k file) where
  pub bytes_read : bytes_of (entries_of files) (name_at (entries_of files) k) ≡ file.1.items
  bytes_read = rw (found_read entry_of files k file at is) refl

  pub fits : (bytes : List ℕ) → length (bytes_of (entries_of files) (name_at (entries_of files) k)) + length bytes ≤ slice_index (rooms_of files) k
      → vec_len file.1 + length bytes ≤ vec_capacity file.1
  fits bytes room =
      let capacity : get_or (rooms_of files) k 0 ≡ vec_capacity file.1 = number_read room_of files k file (first_below entry_of files k at) is in
      omega (arith, room, capacity, ap length bytes_read, file.1.ok.0)

  pub entries-appended : (content : Vec ℕ Global) (bytes : List ℕ) → content.items ≡ file.1.items ++ bytes
      → entries_of (set files k (file.0, content)) ≡ updated (entries_of files) (name_at (entries_of files) k) (bytes_of (entries_of files) (name_at (entries_of files) k) ++ bytes)
  entries-appended content bytes grown =
      entries-set entry_of files k file (file.0, content) at is refl
      ∙ ap (updated (entries_of files) (name_at (entries_of files) k)) (grown ∙ ap (λ l. l ++ bytes) (sym bytes_read))

  pub room-appended : (content : Vec ℕ Global) → vec_capacity file.1 ≤ vec_capacity content → slice_index (rooms_of files) k ≤ slice_index (rooms_of (set files k (file.0, content))) k
  room-appended content grown =
      let before : get_or (rooms_of files) k 0 ≡ vec_capacity file.1 = number_read room_of files k file (first_below entry_of files k at) is in
      let after : get_or (rooms_of (set files k (file.0, content))) k 0 ≡ vec_capacity content = number_written room_of files k (file.0, content) (first_below entry_of files k at) in
      omega (arith, before, after, grown)
