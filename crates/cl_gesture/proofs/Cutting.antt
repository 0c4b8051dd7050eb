-- Lemmas on how bytes are cut into lines.
use Rattle.std.proofs.Common.{◌≡◌, ◌≢◌, ◌||◌, ◌≤◌, ◌<◌, ◌+◌, ℕ, Bool, true, false, List, [], ◌∷◌, ◌++◌, length, take, get_or, Option, Some, subst, All, cond, length-append, eqb, refl, sym, ap, ◌∙◌, append_assoc, append-nil, arith}
use Rattle.std.specs.List.{flat_map}
use Rattle.std.proofs.KnownBytes.{Consumes-trans}
use Rattle.std.proofs.lemmas.List.Elements.{All-append, All-head, All-tail, All-nil, All-cons, All-push, All-pop}
use Rattle.std.proofs.Math.Seq.{take-length}
use Rattle.std.proofs.lemmas.List.{take_more, length-take-le}
use Rattle.std.proofs.lemmas.Grind.{flat_map-append}
use Rattle.std.proofs.lemmas.Bool.{eqb-true, eqb-false, eq-eqb, ne_eqb}
use Rattle.cl_gesture.specs.Lines.{Piece, line, long, ended_at, held_after, ended_from, held_from, ended, last_line, pieces, Reads, AreCut, Lines, bytes_of, IsNoFeed, IsPiece, AreTheBytes, AreWellCut, IsTheOnlyCut}

pub ended_from-append : (held xs ys : List ℕ) → ended_from held (xs ++ ys) ≡ ended_from held xs ++ ended_from (held_from held xs) ys
ended_from-append held [] ys = refl
ended_from-append held (x ∷ xs) ys =
    ap (λ l. ended_at held x ++ l) (ended_from-append (held_after held x) xs ys) ∙ sym (append_assoc (ended_at held x) _ _)

pub held_from-append : (held xs ys : List ℕ) → held_from held (xs ++ ys) ≡ held_from (held_from held xs) ys
held_from-append held [] ys = refl
held_from-append held (x ∷ xs) ys = held_from-append (held_after held x) xs ys

pub Reads-trans : (a b c : Option (List ℕ)) (u v w xs ys : List ℕ) → Reads a b u v xs → Reads b c v w ys → Reads a c u w (xs ++ ys)
Reads-trans a b c u v w xs ys p q = record {
  handed = p.handed ++ q.handed;
  consumed = Consumes-trans a b c p.handed q.handed p.consumed q.consumed;
  same =
      sym (append_assoc u p.handed q.handed) ∙ ap (λ l. l ++ q.handed) p.same
      ∙ append_assoc xs v q.handed ∙ ap (λ l. xs ++ l) q.same ∙ sym (append_assoc xs ys w);
}

-- ---- whole lines, and then more of them

pub ended-more : (xs ys : List ℕ) → held_from [] xs ≡ [] → ended (xs ++ ys) ≡ ended xs ++ ended ys
ended-more xs ys none = ended_from-append [] xs ys ∙ ap (λ held. ended xs ++ ended_from held ys) none

pub held-more : (xs ys : List ℕ) → held_from [] xs ≡ [] → held_from [] (xs ++ ys) ≡ held_from [] ys
held-more xs ys none = held_from-append [] xs ys ∙ ap (λ held. held_from held ys) none

pub pieces-more : (xs ys : List ℕ) → held_from [] xs ≡ [] → pieces (xs ++ ys) ≡ ended xs ++ pieces ys
pieces-more xs ys none =
    ap (λ l. l ++ last_line (held_from [] (xs ++ ys))) (ended-more xs ys none)
    ∙ ap (λ held. (ended xs ++ ended ys) ++ last_line held) (held-more xs ys none)
    ∙ append_assoc (ended xs) (ended ys) _

AreCut-more : (f : Bool) (now : Option (List ℕ)) (ahead xs ys : List ℕ) (ps qs : List Piece)
    → ended xs ≡ ps → held_from [] xs ≡ [] → AreCut f now ahead ys qs → AreCut f now ahead (xs ++ ys) (ps ++ qs)
AreCut-more false now ahead xs ys ps qs cut none more =
    (ended-more xs ys none ∙ ap (λ l. l ++ ended ys) cut ∙ ap (λ l. ps ++ l) more.0, held-more xs ys none ∙ more.1)
AreCut-more true now ahead xs ys ps qs cut none more =
    (pieces-more xs ys none ∙ ap (λ l. l ++ pieces ys) cut ∙ ap (λ l. ps ++ l) more.0, more.1, more.2)

-- lines, and then lines
pub Lines-more : (a b c : Option (List ℕ)) (u v w : List ℕ) (f : Bool) (ps qs : List Piece)
    → Lines a b u v false ps → Lines b c v w f qs → Lines a c u w f (ps ++ qs)
Lines-more a b c u v w f ps qs p q = record {
  read = p.read ++ q.read;
  reads = Reads-trans a b c u v w p.read q.read p.reads q.reads;
  cut = AreCut-more f c w p.read q.read ps qs p.cut.0 p.cut.1 q.cut;
}

-- ---- the laws

held_bytes_by : (held : List ℕ) (byte : ℕ) (feed over : Bool) → (feed ≡ true → byte ≡ 10)
    → flat_map bytes_of (cond feed (line held ∷ []) (cond over (long (held ++ byte ∷ []) ∷ []) [])) ++ cond (feed || over) [] (held ++ byte ∷ []) ≡ held ++ byte ∷ []
held_bytes_by held byte true over is = append-nil _ ∙ append-nil _ ∙ ap (λ b. held ++ b ∷ []) (sym (is refl))
held_bytes_by held byte false true is = append-nil _ ∙ append-nil _
held_bytes_by held byte false false is = refl

-- a byte goes into the piece that it ends or into what is held
held_bytes : (held : List ℕ) (byte : ℕ) → flat_map bytes_of (ended_at held byte) ++ held_after held byte ≡ held ++ byte ∷ []
held_bytes held byte = held_bytes_by held byte (eqb byte 10) (eqb (length held) 4096) (eqb-true byte 10)

pub joined_from : (held bytes : List ℕ) → flat_map bytes_of (ended_from held bytes) ++ held_from held bytes ≡ held ++ bytes
joined_from held [] = sym (append-nil held)
joined_from held (byte ∷ bytes) =
    let after = held_after held byte in let here = flat_map bytes_of (ended_at held byte) in
    ap (λ l. l ++ held_from after bytes) (flat_map-append bytes_of (ended_at held byte) (ended_from after bytes))
    ∙ append_assoc here _ _ ∙ ap (λ l. here ++ l) (joined_from after bytes)
    ∙ sym (append_assoc here after bytes) ∙ ap (λ l. l ++ bytes) (held_bytes held byte) ∙ append_assoc held (byte ∷ []) bytes

pub are_the_bytes : AreTheBytes
are_the_bytes bytes = joined_from [] bytes

well_cut_at_by : (held : List ℕ) (byte : ℕ) (feed over : Bool) → (feed ≡ false → byte ≢ 10) → (over ≡ true → length held ≡ 4096) → (over ≡ false → length held ≢ 4096)
    → IsPiece (line held)
    → All IsPiece (cond feed (line held ∷ []) (cond over (long (held ++ byte ∷ []) ∷ []) [])) × IsPiece (line (cond (feed || over) [] (held ++ byte ∷ [])))
well_cut_at_by held byte true over is full room ok = (All-cons IsPiece _ [] ok (All-nil IsPiece), (omega arith, All-nil IsNoFeed))
well_cut_at_by held byte false true is full room ok =
    let short = full refl in
    (All-cons IsPiece _ [] (omega (arith, length-append held (byte ∷ [])), All-push IsNoFeed held byte ok.1 (is refl)) (All-nil IsPiece), (omega arith, All-nil IsNoFeed))
well_cut_at_by held byte false false is full room ok =
    let short = room refl in
    (All-nil IsPiece, (omega (arith, length-append held (byte ∷ [])), All-push IsNoFeed held byte ok.1 (is refl)))

well_cut_at : (held : List ℕ) (byte : ℕ) → IsPiece (line held) → All IsPiece (ended_at held byte) × IsPiece (line (held_after held byte))
well_cut_at held byte =
    well_cut_at_by held byte (eqb byte 10) (eqb (length held) 4096) (eqb-false byte 10) (eqb-true (length held) 4096) (eqb-false (length held) 4096)

well_cut_from : (held bytes : List ℕ) → IsPiece (line held) → All IsPiece (ended_from held bytes) × IsPiece (line (held_from held bytes))
well_cut_from held [] ok = (All-nil IsPiece, ok)
well_cut_from held (byte ∷ bytes) ok =
    let here = well_cut_at held byte ok in let rest = well_cut_from (held_after held byte) bytes here.1 in
    (All-append IsPiece _ _ here.0 rest.0, rest.1)

well_cut_last : (held : List ℕ) → IsPiece (line held) → All IsPiece (last_line held)
well_cut_last [] ok = All-nil IsPiece
well_cut_last (byte ∷ bytes) ok = All-cons IsPiece _ [] ok (All-nil IsPiece)

-- a line that ended has at most 4,096 bytes
pub ended-short : (bytes line_bytes : List ℕ) → ended bytes ≡ line line_bytes ∷ [] → length line_bytes ≤ 4096
ended-short bytes line_bytes is =
    let P : List Piece → Type 0 = λ ps. All IsPiece ps in
    let all = subst P is (well_cut_from [] bytes (omega arith, All-nil IsNoFeed)).0 in
    (All-head IsPiece (line line_bytes) [] all).0

pub are_well_cut : AreWellCut
are_well_cut bytes =
    let all = well_cut_from [] bytes (omega arith, All-nil IsNoFeed) in
    All-append IsPiece (ended bytes) (last_line (held_from [] bytes)) all.0 (well_cut_last (held_from [] bytes) all.1)

-- ---- one line, found by its line feed

plain_at : (held : List ℕ) (byte : ℕ) → byte ≢ 10 → length held ≢ 4096 → (ended_at held byte ≡ []) × (held_after held byte ≡ held ++ byte ∷ [])
plain_at held byte other room =
    let no_feed : eqb byte 10 ≡ false = ne_eqb byte 10 other in let no_cut : eqb (length held) 4096 ≡ false = ne_eqb (length held) 4096 room in
    ((rw (no_feed, no_cut)), (rw (no_feed, no_cut)))

cut_at : (held : List ℕ) (byte : ℕ) → byte ≢ 10 → length held ≡ 4096 → (ended_at held byte ≡ long (held ++ byte ∷ []) ∷ []) × (held_after held byte ≡ [])
cut_at held byte other full =
    let no_feed : eqb byte 10 ≡ false = ne_eqb byte 10 other in let cut : eqb (length held) 4096 ≡ true = eq-eqb (length held) 4096 full in
    ((rw (no_feed, cut)), (rw (no_feed, cut)))

plain_from : (held xs : List ℕ) → All IsNoFeed xs → length held + length xs ≤ 4096 → (ended_from held xs ≡ []) × (held_from held xs ≡ held ++ xs)
plain_from held [] none short = (refl, sym (append-nil held))
plain_from held (x ∷ xs) none short =
    let room : length held ≢ 4096 = omega arith in
    let here = plain_at held x (All-head IsNoFeed x xs none) room in
    let rest = plain_from (held ++ x ∷ []) xs (All-tail IsNoFeed x xs none) (omega (arith, length-append held (x ∷ []))) in
    (rw (here.0, here.1) rest.0, rw here.1 (rest.1 ∙ append_assoc held (x ∷ []) xs))

-- bytes without a line feed, and too few of them to be cut
pub ended-plain : (xs : List ℕ) → All IsNoFeed xs → length xs ≤ 4096 → (ended xs ≡ []) × (held_from [] xs ≡ xs)
ended-plain xs none short = plain_from [] xs none (omega arith)

after-plain : (xs ys : List ℕ) → (ended xs ≡ []) × (held_from [] xs ≡ xs) → ended (xs ++ ys) ≡ ended_from xs ys
after-plain xs ys plain =
    ended_from-append [] xs ys ∙ ap (λ l. l ++ ended_from (held_from [] xs) ys) plain.0 ∙ ap (λ held. ended_from held ys) plain.1

-- a line and its line feed
pub ended-line : (xs : List ℕ) → All IsNoFeed xs → length xs ≤ 4096 → (ended (xs ++ 10 ∷ []) ≡ line xs ∷ []) × (held_from [] (xs ++ 10 ∷ []) ≡ [])
ended-line xs none short =
    let plain = ended-plain xs none short in
    (after-plain xs (10 ∷ []) plain, held_from-append [] xs (10 ∷ []) ∙ ap (λ held. held_from held (10 ∷ [])) plain.1)

-- 4,097 bytes without a line feed
pub ended-long : (xs : List ℕ) (byte : ℕ) → All IsNoFeed xs → byte ≢ 10 → length xs ≡ 4096
    → (ended (xs ++ byte ∷ []) ≡ long (xs ++ byte ∷ []) ∷ []) × (held_from [] (xs ++ byte ∷ []) ≡ [])
ended-long xs byte none other full =
    let plain = ended-plain xs none (omega arith) in let cut = cut_at xs byte other full in (
      after-plain xs (byte ∷ []) plain ∙ ap (λ l. l ++ []) cut.0,
      held_from-append [] xs (byte ∷ []) ∙ ap (λ held. held_from held (byte ∷ [])) plain.1 ∙ cut.1,
    )

pub ended-whole : (xs : List ℕ) → All IsNoFeed xs → length xs ≡ 4097 → (ended xs ≡ long xs ∷ []) × (held_from [] xs ≡ [])
ended-whole xs none full =
    let y = get_or xs 4096 0 in let front = take 4096 xs in
    let within : 4096 < length xs = omega arith in
    let split : xs ≡ front ++ y ∷ [] = sym (take-length xs) ∙ ap (λ n. take n xs) full ∙ take_more xs 4096 0 within in
    let parts = All-pop IsNoFeed xs front (Some y) split none in
    let P : List ℕ → Type 0 = λ zs. (ended zs ≡ long zs ∷ []) × (held_from [] zs ≡ []) in
    subst P (sym split) (ended-long front y parts.0 parts.1 (length-take-le 4096 xs (omega arith)))

-- the last line, which no line feed ends
pub pieces-last : (byte : ℕ) (xs : List ℕ) → All IsNoFeed (byte ∷ xs) → length (byte ∷ xs) ≤ 4096 → pieces (byte ∷ xs) ≡ line (byte ∷ xs) ∷ []
pieces-last byte xs none short =
    let plain = ended-plain (byte ∷ xs) none short in ap (λ l. l ++ last_line (held_from [] (byte ∷ xs))) plain.0 ∙ ap last_line plain.1

-- ---- where a further byte comes after whole lines, there is a further piece

some_piece : (ps : List Piece) (held : List ℕ) (byte : ℕ) (bytes : List ℕ) → flat_map bytes_of ps ++ held ≡ byte ∷ bytes → 0 < length (ps ++ last_line held)
some_piece [] [] byte bytes same = absurd (cc)
some_piece [] (x ∷ xs) byte bytes same = omega arith
some_piece (p ∷ ps) held byte bytes same = omega arith

pub pieces-further : (xs : List ℕ) (byte : ℕ) (ys : List ℕ) → held_from [] xs ≡ [] → length (ended xs) < length (pieces (xs ++ byte ∷ ys))
pieces-further xs byte ys none =
    let some = some_piece (ended (byte ∷ ys)) (held_from [] (byte ∷ ys)) byte ys (joined_from [] (byte ∷ ys)) in
    rw (pieces-more xs (byte ∷ ys) none) (omega (arith, length-append (ended xs) (pieces (byte ∷ ys))))

-- ---- there is no other way to cut

whole_piece : (p : Piece) → IsPiece p → (ended (bytes_of p) ≡ p ∷ []) × (held_from [] (bytes_of p) ≡ [])
whole_piece (line bytes) ok = ended-line bytes ok.1 ok.0
whole_piece (long bytes) ok = ended-whole bytes ok.1 ok.0

pub is_the_only_cut : IsTheOnlyCut
is_the_only_cut [] held ok end = ended-plain held end.1 end.0
is_the_only_cut (p ∷ ps) held ok end =
    let here = whole_piece p (All-head IsPiece p ps ok) in let rest = is_the_only_cut ps held (All-tail IsPiece p ps ok) end in
    let first = bytes_of p in let others = flat_map bytes_of ps in let split = append_assoc first others held in (
      ap ended split ∙ ended-more first (others ++ held) here.1 ∙ ap (λ l. l ++ ended (others ++ held)) here.0 ∙ ap (λ l. p ∷ l) rest.0,
      ap (held_from []) split ∙ held-more first (others ++ held) here.1 ∙ rest.1,
    )
