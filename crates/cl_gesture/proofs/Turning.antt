-- Lemmas on idle lines and on what comes behind them.
use Rattle.std.proofs.Common.{◌≡◌, inl, inr, ◌≤◌, ℕ, Bool, true, false, List, [], ◌∷◌, ◌++◌, length, Option, append_assoc, append-nil, length-append, refl, sym, ap, subst, ◌∙◌, arith}
use Rattle.std.proofs.KnownBytes.{Consumes-trans}
use Rattle.cl_gesture.specs.declared.answers.Stop.TheVariants as stop
use Rattle.cl_gesture.specs.declared.lines.NextLine.TheVariants as next_line
use Rattle.cl_gesture.specs.Lines.{Piece, line, long, ended, Lines}
use Rattle.cl_gesture.specs.Progress.{Progress, Passes, stop_at}
use Rattle.cl_gesture.specs.Idle.{AreIdle, ReadsTo, ReadsToEnd, ReadsToFault, ReadsToLimit}
use Rattle.cl_gesture.specs.Reading.{ReadsNoFurther, AreNone}
use Rattle.cl_gesture.specs.LineReader.{LineOf}
use Rattle.cl_gesture.proofs.Cutting.{Lines-more, Reads-trans, ended-more}
use Rattle.cl_gesture.proofs.Finding.{Reads-none}

pub Passes-more : (a b c : Progress) (f : Bool) (ps qs : List Piece) → Passes a b false ps → Passes b c f qs → Passes a c f (ps ++ qs)
Passes-more a b c f ps qs p q = record {
  lines = Lines-more a.left b.left c.left a.ahead b.ahead c.ahead f ps qs p.lines q.lines;
  counted = omega (arith, length-append ps qs, p.counted, q.counted);
}

going_on : (f : Bool) → stop_at f ≡ stop.Going → f ≡ false
going_on false h = refl
going_on true h = absurd (cc)

at_end : (f : Bool) → stop_at f ≡ stop.AtEnd → f ≡ true
at_end true h = refl
at_end false h = absurd (cc)

-- for lines of any kind
module _ {K : Type 0} (kind_of : Piece → K) (nothing : K) where
  pub AreIdle-append : (ps qs : List Piece) → AreIdle kind_of nothing ps → AreIdle kind_of nothing qs → AreIdle kind_of nothing (ps ++ qs)
  AreIdle-append [] qs p q = q
  AreIdle-append (x ∷ ps) qs p q = (p.0, AreIdle-append ps qs p.1 q)

  -- idle lines were read, and nothing else
  pub record Passed (old new : Progress) : Type 0 where
    pub idles : List Piece
    pub idle : AreIdle kind_of nothing idles
    pub finished : Bool
    pub stopped : new.stop ≡ stop_at finished
    pub passes : Passes old new finished idles

  pub Passed-start : (a : Progress) → a.stop ≡ stop.Going → Passed a a
  Passed-start a going = record {
    idles = [];
    idle = tt;
    finished = false;
    stopped = going;
    passes = record { lines = record { read = []; reads = Reads-none a.left a.ahead; cut = (refl, refl) }; counted = omega arith };
  }

  pub Passed-going : (a b : Progress) (p : Passed a b) → b.stop ≡ stop.Going → Passes a b false p.idles
  Passed-going a b p going =
      let P : Bool → Type 0 = λ f. Passes a b f p.idles in subst P (going_on p.finished (sym p.stopped ∙ going)) p.passes

  -- one more of them
  pub Passed-more : (a b c : Progress) (bytes : List ℕ) → Passed a b → b.stop ≡ stop.Going → LineOf b c bytes next_line.Line → kind_of (line bytes) ≡ nothing → Passed a c
  Passed-more a b c bytes p going h says = record {
    idles = p.idles ++ line bytes ∷ [];
    idle = AreIdle-append p.idles (line bytes ∷ []) p.idle (says, tt);
    finished = h.0;
    stopped = h.1;
    passes = Passes-more a b c h.0 p.idles (line bytes ∷ []) (Passed-going a b p going) h.2;
  }

  -- ---- a line of another kind

  pub ReadsTo-line : (kind : K) (a b c : Progress) (bytes : List ℕ) → Passed a b → b.stop ≡ stop.Going → LineOf b c bytes next_line.Line → kind_of (line bytes) ≡ kind
      → ReadsTo kind_of nothing kind a c
  ReadsTo-line kind a b c bytes p going h says = record {
    idles = p.idles;
    idle = p.idle;
    piece = line bytes;
    says = says;
    finished = h.0;
    stopped = h.1;
    passes = Passes-more a b c h.0 p.idles (line bytes ∷ []) (Passed-going a b p going) h.2;
  }

  pub ReadsTo-long : (kind : K) (a b c : Progress) (bytes : List ℕ) → Passed a b → b.stop ≡ stop.Going → LineOf b c bytes next_line.Long → kind_of (long bytes) ≡ kind
      → ReadsTo kind_of nothing kind a c
  ReadsTo-long kind a b c bytes p going h says = record {
    idles = p.idles;
    idle = p.idle;
    piece = long bytes;
    says = says;
    finished = false;
    stopped = h.0;
    passes = Passes-more a b c false p.idles (long bytes ∷ []) (Passed-going a b p going) h.1;
  }

  -- ---- no further line

  pub ReadsToEnd-more : (a b c : Progress) (bytes : List ℕ) → Passed a b → b.stop ≡ stop.Going → LineOf b c bytes next_line.End → ReadsToEnd kind_of nothing a c
  ReadsToEnd-more a b c bytes p going h =
      let P : List Piece → Type 0 = λ ps. Passes a c true ps in
      record { idles = p.idles; idle = p.idle; stopped = h.0; passes = subst P (append-nil p.idles) (Passes-more a b c true p.idles [] (Passed-going a b p going) h.1) }

  -- the last line was an idle one
  pub ReadsToEnd-still : (a b : Progress) → Passed a b → b.stop ≡ stop.AtEnd → ReadsToEnd kind_of nothing a b
  ReadsToEnd-still a b p end =
      let P : Bool → Type 0 = λ f. Passes a b f p.idles in
      record { idles = p.idles; idle = p.idle; stopped = end; passes = subst P (at_end p.finished (sym p.stopped ∙ end)) p.passes }

  pub ReadsToFault-more : (a b c : Progress) (bytes : List ℕ) → Passed a b → b.stop ≡ stop.Going → a.faults ≤ b.faults
      → LineOf b c bytes next_line.ReadFault → ReadsToFault kind_of nothing a c
  ReadsToFault-more a b c bytes p going later h =
      let passes = Passed-going a b p going in let lines = passes.lines in
      let all : ended (lines.read ++ h.0) ≡ p.idles =
      ended-more lines.read h.0 lines.cut.1 ∙ ap (λ l. l ++ ended h.0) lines.cut.0 ∙ ap (λ l. p.idles ++ l) h.1 ∙ append-nil p.idles in
      let P : List Piece → Type 0 = λ ps. AreIdle kind_of nothing ps in
      record {
        read = lines.read ++ h.0;
        idle = subst P (sym all) p.idle;
        stopped = h.2;
        reads = Reads-trans a.left b.left c.left a.ahead b.ahead c.ahead lines.read h.0 lines.reads h.3;
        none = h.4;
        counted = omega (arith, ap length all, passes.counted, h.5);
        rose = omega (arith, h.6, later);
      }

  pub ReadsToLimit-more : (a b c : Progress) (bytes : List ℕ) → Passed a b → b.stop ≡ stop.Going → LineOf b c bytes next_line.TooMany → ReadsToLimit kind_of nothing a c
  ReadsToLimit-more a b c bytes p going h =
      let P : List Piece → Type 0 = λ ps. Passes a c false ps in
      record {
        idles = p.idles;
        idle = p.idle;
        stopped = h.0;
        passes = subst P (append-nil p.idles) (Passes-more a b c false p.idles [] (Passed-going a b p going) h.1);
        full = h.2;
        further = h.3;
      }

  -- ---- how far the source was read

  -- idle lines, and then a line that is read no further than needed
  pub ReadsNoFurther-more : {G : Type 0} (left : G → Option (List ℕ)) (calls : G → ℕ) (a b c : G) (u v : List ℕ) (idles : List Piece)
      → Lines (left a) (left b) u v false idles → AreIdle kind_of nothing idles
      → ReadsNoFurther left calls (AreIdle kind_of nothing) a b u → ReadsNoFurther left calls AreNone b c v → ReadsNoFurther left calls (AreIdle kind_of nothing) a c u
  ReadsNoFurther-more {G} left calls a b c u v idles lines idle first (inl same) =
      let P : G → Type 0 = λ s. ReadsNoFurther left calls (AreIdle kind_of nothing) a s u in subst P (sym same) first
  ReadsNoFurther-more left calls a b c u v idles lines idle first (inr last) =
      let r = lines.reads in let read = lines.read in let P : List Piece → Type 0 = λ ps. AreIdle kind_of nothing ps in
      let bytes : u ++ (r.handed ++ last.earlier) ≡ read ++ (v ++ last.earlier) =
      sym (append_assoc u r.handed last.earlier) ∙ ap (λ l. l ++ last.earlier) r.same ∙ append_assoc read v last.earlier in
      let all : ended (u ++ (r.handed ++ last.earlier)) ≡ idles =
      ap ended bytes ∙ ended-more read (v ++ last.earlier) lines.cut.1 ∙ ap (λ l. l ++ ended (v ++ last.earlier)) lines.cut.0
      ∙ ap (λ l. idles ++ l) last.passed ∙ append-nil idles in
      inr (record {
        mid = last.mid;
        earlier = r.handed ++ last.earlier;
        handed = Consumes-trans (left a) (left b) (left last.mid) r.handed last.earlier r.consumed last.handed;
        once = last.once;
        passed = subst P (sym all) idle;
      })
