use Rattle.std.proofs.Common.{◌≡◌, ◌-◌, ℕ, sym, ap, ◌∙◌, length, take, arith}
use Rattle.std.specs.Prelude.{find, option_map}
use Rattle.std.proofs.lemmas.List.{length-take-le}
use Rattle.cl_tables.specs.Lookups.{begins_with}
use Rattle.cl_tables.proofs.NamingLemmas.{found_is, goes_shorter, none_is, lowered_front}
use Rattle.cl_tables.proofs.SightLemmas.{some_map}
use Rattle.cl_tables.proofs.tables.Tables.longest_begun.Goals as goal

pub named_with-found-requires : goal.named_with-found-requires
named_with-found-requires c =
    record { lowered = lowered_front c.args.line.now c.args.letters.now (c.loop-count.count - 1) (omega (arith, c.loop-count.invariant.within)) c.requires.lowered }

pub returns-then-is_some : goal.returns-then-is_some
returns-then-is_some c =
    let n : ℕ = c.loop-count.count - 1 in
    let long : length (take n c.args.letters.now) ≡ n = length-take-le n c.args.letters.now (omega (arith, c.loop-count.invariant.within)) in
    found_is (option_map (λ d. d.now) c.named_with-found.result) c.args.line.now n c.loop-count.count c.args.self.now.commands
    (c.named_with-found.ensures ∙ ap (λ k. find (begins_with c.args.line.now k) c.args.self.now.commands) long)
    (some_map _ c.named_with-found.result ∙ sym c.is_some.ensures ∙ c.if-is_some.true) (omega arith) c.loop-count.invariant.shorter

pub loop-count-preserved : goal.loop-count-preserved
loop-count-preserved c =
    let n : ℕ = c.loop-count.count - 1 in
    let long : length (take n c.args.letters.now) ≡ n = length-take-le n c.args.letters.now (omega (arith, c.loop-count.invariant.within)) in
    record {
      within = omega (arith, c.loop-count.invariant.within);
      shorter = goes_shorter (option_map (λ d. d.now) c.named_with-found.result) c.args.line.now n c.loop-count.count c.args.self.now.commands
          (c.named_with-found.ensures ∙ ap (λ k. find (begins_with c.args.line.now k) c.args.self.now.commands) long)
          (some_map _ c.named_with-found.result ∙ sym c.is_some.ensures ∙ c.if-is_some.false) (omega arith) c.loop-count.invariant.shorter;
    }

pub returns : goal.returns
returns c = none_is c.args.line.now c.loop-count.count c.args.self.now.commands (omega arith) c.loop-count.invariant.shorter
