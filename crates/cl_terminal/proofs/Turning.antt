-- How the serving of a terminal goes on, and how it ends.
use Rattle.std.proofs.Common.{◌≡◌, ◌⊎◌, ◌≤◌, ◌∙◌, ◌+◌, ◌++◌, ◌∷◌, ℕ, zero, suc, true, List, [], Option, ap, append_assoc, arith, inl, inr, length, length-append, length-take, refl, subst, sym, take}
use Rattle.std.proofs.KnownBytes.{Consumes-nil, Consumes-trans}
use Rattle.std.specs.Io.KnownBytes.{Consumes, IsAtEnd}
use Rattle.cl_frame.specs.Ground.{Ground}
use Rattle.cl_keys.specs.Decoding.{State, state_after}
use Rattle.cl_outside.specs.Causes.{Rose}
use Rattle.cl_terminal.specs.Handled.{end_among}
use Rattle.cl_terminal.specs.Live.{whole_behind}
use Rattle.cl_terminal.specs.Serving.{Served, ServedFirst, ServedLong, Serves, Standing, Takes, Turned, Turns, closing_of}
use Rattle.cl_terminal.specs.declared.flows.Closing.{Closing}
use Rattle.cl_terminal.specs.declared.flows.Closing.TheVariants as closing
use Rattle.cl_terminal.specs.declared.flows.Flow.{Flow}
use Rattle.cl_terminal.specs.declared.flows.Flow.TheVariants as flow
use Rattle.cl_terminal.specs.declared.serving.TheConstants.{MOST_READS}
use Rattle.cl_terminal.proofs.Handling.{after_append, all-handled, both-taken, end-handled, nothing-taken}
use Rattle.cl_terminal.proofs.Taking.{rose-earlier}

-- nothing was read yet
pub nothing-turned : (g : Ground) (at : Standing) (left : Option (List ℕ)) → Turned g 0 at at left left
nothing-turned g at left =
    record { read = []; consumes = Consumes-nil left; goes = nothing-taken (whole_behind g) g.app at.state at.world; long = omega arith }

-- bytes were read and taken, and then others
pub both-turned : (g : Ground) (a b : ℕ) (old mid new : Standing) (left_old left_mid left_new : Option (List ℕ)) → Turned g a old mid left_old left_mid
    → Turned g b mid new left_mid left_new → Turned g (a + b) old new left_old left_new
both-turned g a b old mid new left_old left_mid left_new first then = record {
  read = first.read ++ then.read;
  consumes = Consumes-trans left_old left_mid left_new first.read then.read first.consumes then.consumes;
  goes = both-taken (whole_behind g) g.app old.state old.world mid.state mid.world new.state new.world first.read then.read first.goes then.goes;
  long = omega (arith, length-append first.read then.read, first.long, then.long);
}

-- all bytes that were read and taken were handled
pub turned-long : (g : Ground) (most reads : ℕ) (old new : Standing) (left_old left_new : Option (List ℕ)) → most ≤ reads
    → Turned g reads old new left_old left_new → ServedLong g old new left_old left_new most
turned-long g most reads old new left_old left_new all t = record {
  read = t.read;
  consumes = t.consumes;
  handled = all-handled (whole_behind g) g.app old.state old.world new.state new.world t.read t.goes;
  long = omega (arith, all, t.long);
}

-- the bytes of one read were taken
pub read-turns : (g : Ground) (old new : Standing) (left_old left_new : Option (List ℕ)) (keys_old keys_new before faults_old faults_new : ℕ) (bytes : List ℕ)
    (f : Flow) → 1 ≤ length bytes → before ≤ faults_old → Consumes left_old left_new bytes → Takes g old new bytes faults_old faults_new f
    → Turns g old new left_old left_new keys_old keys_new before faults_new (closing_of f)
read-turns g old new left_old left_new keys_old keys_new before faults_old faults_new bytes flow.On some le consumes takes =
    record { read = bytes; consumes = consumes; goes = takes; long = some }
read-turns g old new left_old left_new keys_old keys_new before faults_old faults_new bytes flow.End some le consumes takes =
    let ended = end-handled (whole_behind g) g.app old.state old.world new.world bytes takes in
    record { read = bytes; consumes = consumes; handled = ended.0; complete = inl ended.1 }
read-turns g old new left_old left_new keys_old keys_new before faults_old faults_new bytes flow.Fault some le consumes takes = record {
  front = takes.front;
  back = takes.byte ∷ takes.back;
  consumes = subst (λ (bs : List ℕ). Consumes left_old left_new bs) takes.same consumes;
  mid = takes.mid;
  state = takes.goes.state;
  handled = all-handled (whole_behind g) g.app old.state old.world takes.mid.state takes.mid.world takes.front takes.goes;
  falls = takes.falls;
  rose = rose-earlier before faults_old faults_new le takes.rose;
}

-- the terminal failed before anything was read
pub show-failed : (g : Ground) (at : Standing) (left : Option (List ℕ)) (faults_old faults_new : ℕ) → Rose faults_old faults_new
    → ServedFirst g at at left left faults_old faults_new
show-failed g at left faults_old faults_new rose =
    record { front = []; back = []; consumes = Consumes-nil left; mid = at; state = refl; handled = refl; falls = refl; rose = rose }

still-served : (g : Ground) (old mid new : Standing) (left_old left_mid left_new : Option (List ℕ)) → Turned g 0 old mid left_old left_mid
    → Served g mid new left_mid left_new → Served g old new left_old left_new
still-served g old mid new left_old left_mid left_new first then = record {
  read = first.read ++ then.read;
  consumes = Consumes-trans left_old left_mid left_new first.read then.read first.consumes then.consumes;
  handled = first.goes.handles then.read new.world then.handled;
}

still-long : (g : Ground) (reads : ℕ) (old mid new : Standing) (left_old left_mid left_new : Option (List ℕ)) → Turned g 0 old mid left_old left_mid
    → ServedLong g mid new left_mid left_new reads → ServedLong g old new left_old left_new reads
still-long g reads old mid new left_old left_mid left_new first then = record {
  read = first.read ++ then.read;
  consumes = Consumes-trans left_old left_mid left_new first.read then.read first.consumes then.consumes;
  handled = first.goes.handles then.read new.world then.handled;
  long = omega (arith, length-append first.read then.read, then.long);
}

still-complete : (g : Ground) (old mid : Standing) (left_old left_mid left_new : Option (List ℕ)) (more : List ℕ) (first : Turned g 0 old mid left_old left_mid)
    → (end_among mid.state more ≡ true) ⊎ IsAtEnd left_new → (end_among old.state (first.read ++ more) ≡ true) ⊎ IsAtEnd left_new
still-complete g old mid left_old left_mid left_new more first (inl e) = inl (first.goes.ends more e)
still-complete g old mid left_old left_mid left_new more first (inr e) = inr e

-- what serving comes to behind bytes that were read and taken, it comes to from the first ones on
pub serves-behind : (g : Ground) (old mid new : Standing) (left_old left_mid left_new : Option (List ℕ)) (keys_old keys_mid keys_new faults_old faults_mid faults_new : ℕ)
    (how : Closing) → keys_old ≤ keys_mid → faults_old ≤ faults_mid → Turned g 0 old mid left_old left_mid
    → Serves g mid new left_mid left_new keys_mid keys_new faults_mid faults_new how → Serves g old new left_old left_new keys_old keys_new faults_old faults_new how
serves-behind g old mid new left_old left_mid left_new keys_old keys_mid keys_new faults_old faults_mid faults_new closing.Done keys faults first then = record {
  read = first.read ++ then.read;
  consumes = Consumes-trans left_old left_mid left_new first.read then.read first.consumes then.consumes;
  handled = first.goes.handles then.read new.world then.handled;
  complete = still-complete g old mid left_old left_mid left_new then.read first then.complete;
}
serves-behind g old mid new left_old left_mid left_new keys_old keys_mid keys_new faults_old faults_mid faults_new closing.ReadFault keys faults first then =
    (still-served g old mid new left_old left_mid left_new first then.0, rose-earlier keys_old keys_mid keys_new keys then.1)
serves-behind g old mid new left_old left_mid left_new keys_old keys_mid keys_new faults_old faults_mid faults_new closing.OutputFault keys faults first then = record {
  front = first.read ++ then.front;
  back = then.back;
  consumes = subst (λ (bs : List ℕ). Consumes left_old left_new bs) (sym (append_assoc first.read then.front then.back))
      (Consumes-trans left_old left_mid left_new first.read (then.front ++ then.back) first.consumes then.consumes);
  mid = then.mid;
  state = then.state ∙ (ap (λ (s : State). state_after s then.front) first.goes.state ∙ sym (after_append old.state first.read then.front));
  handled = first.goes.handles then.front then.mid.world then.handled;
  falls = then.falls;
  rose = rose-earlier faults_old faults_mid faults_new faults then.rose;
}
serves-behind g old mid new left_old left_mid left_new keys_old keys_mid keys_new faults_old faults_mid faults_new closing.TooLong keys faults first then =
    still-long g MOST_READS old mid new left_old left_mid left_new first then

-- how many reads there were is not asked
pub any-reads : (g : Ground) (reads : ℕ) (old new : Standing) (left_old left_new : Option (List ℕ)) → Turned g reads old new left_old left_new
    → Turned g 0 old new left_old left_new
any-reads g reads old new left_old left_new t = record { read = t.read; consumes = t.consumes; goes = t.goes; long = omega arith }

nonzero : (n : ℕ) → (n ≡ 0 → ⊥) → 1 ≤ n
nonzero zero h = absurd (h refl)
nonzero (suc n) h = omega arith

-- a read that handed over a byte or more
pub some-read : (count : ℕ) (buf : List ℕ) → (count ≡ 0 → ⊥) → count ≤ length buf → 1 ≤ length (take count buf)
some-read count buf h fits = omega (arith, length-take count buf, nonzero count h, fits)
