-- Each type is a subtype of itself.
use Rattle.std.proofs.Common.{refl}
use Rattle.cl_lattice.specs.Expanded.{Expanded, everything, nothing, boolean, symbols, blank_area, command, dialog_choice, integer, string, member, subset, sequence, some_of, each_of, null_or, token_or, record_type, host, user, unknown, ExpandedTypes, none, part}
use Rattle.cl_lattice.specs.Subtypes.{IsSubtype, EachIsSubtype, SomeIsSubtype, IsSubtypeOfEach, IsSubtypeOfSome}
use Rattle.cl_lattice.specs.Subtypes as rule
use Rattle.cl_lattice.proofs.SubtypeTests.{low_itself, high_itself, among_itself, tokens_itself}

mutual
  pub reflexive : (t : Expanded) → IsSubtype t t
  reflexive everything = rule.in_everything everything
  reflexive nothing = rule.of_nothing nothing
  reflexive boolean = rule.itself boolean refl
  reflexive symbols = rule.itself symbols refl
  reflexive blank_area = rule.itself blank_area refl
  reflexive command = rule.itself command refl
  reflexive dialog_choice = rule.itself dialog_choice refl
  reflexive (integer low high) = rule.of_integers low high low high (low_itself low) (high_itself high)
  reflexive (string n) = rule.itself (string n) refl
  reflexive (member cs) = rule.of_members cs cs (among_itself cs)
  reflexive (subset cs) = rule.of_subsets cs cs (among_itself cs)
  reflexive (sequence t) = rule.of_sequences t t (reflexive t)
  reflexive (some_of ts) = rule.each_part ts (some_of ts) (parts_in_or ts (some_of ts) (λ x d. rule.in_some_part x ts d))
  reflexive (each_of ts) = rule.in_each_part (each_of ts) ts (and_in_parts ts (each_of ts) (λ x d. rule.some_part ts x d))
  reflexive (null_or t) = rule.of_null_ors t t (reflexive t)
  reflexive (token_or xs t) = rule.of_token_ors xs xs t t (tokens_itself xs) (reflexive t)
  reflexive (record_type x) = rule.itself (record_type x) refl
  reflexive (host x low high) = rule.itself (host x low high) refl
  reflexive (user x vs f t) = rule.itself (user x vs f t) refl
  reflexive (unknown x vs) = rule.itself (unknown x vs) refl

  -- each part of an `or` is in what its parts are in
  parts_in_or : (ts : ExpandedTypes) (b : Expanded) → ((x : Expanded) → IsSubtypeOfSome x ts → IsSubtype x b) → EachIsSubtype ts b
  parts_in_or none b on = rule.each_none b
  parts_in_or (part t ts) b on =
      rule.each_more t ts b (on t (rule.of_some_here t t ts (reflexive t))) (parts_in_or ts b (λ x d. on x (rule.of_some_later x t ts d)))

  -- what its parts are below, an `and` is below
  and_in_parts : (ts : ExpandedTypes) (a : Expanded) → ((x : Expanded) → SomeIsSubtype ts x → IsSubtype a x) → IsSubtypeOfEach a ts
  and_in_parts none a under = rule.of_each_none a
  and_in_parts (part t ts) a under =
      rule.of_each_more a t ts (under t (rule.some_here t ts t (reflexive t))) (and_in_parts ts a (λ x d. under x (rule.some_later t ts x d)))
