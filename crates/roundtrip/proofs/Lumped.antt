-- The collector's lines are the stream's, the frames of a body are whole lines, and so a body that comes in lumps is read back.
-- Assumes nothing.
use mathlib.Core.Path.{◌≡◌, refl, sym, ap, ap₂, ◌∙◌}
use Prim.Native.Nat.{ℕ, zero, suc, ◌+◌, ◌<◌}
use native.Mathlib.Nat.{zero-add}
use native.Mathlib.Omega.{arith}
use native.Mathlib.Decide.{dec_le}
use mathlib.Core.List.{List, [], ◌∷◌, ◌++◌, append_assoc, append-nil}
use lib.Dec.{ltb, eqb}
use borrow.Author.Tests.{lt-ltb, ltb-false, ne_eqb}
use lib.ListN.{length, take, drop, length-append, length-take, drop_of_length-le}
use Rattle.laws.specs.Table.{tab}
use Rattle.laws.proofs.Choice.{pick_yes, pick_case}
use Rattle.strict_base64.specs.Base64.{char, pad, encode}
use Rattle.frame.specs.Line.{longest, newline, initial, partial, frame}
use Rattle.collector.specs.Search.{index_after, index_of}
use Rattle.collector.specs.Collector as collecting
use Rattle.collector.specs.Lumps.{cut, handing, gathered, stream, joined}
use Rattle.collector.proofs.Laws.{ended_over, ended_line}
use Rattle.collector.proofs.Cut.{before_yes, before_no, before_join, cut_yes, cut_clean, cut_some, split_at, stream_line, stream_none, possible_empty}
use Rattle.collector.proofs.Lumps.{lumps_give}
use Rattle.reader.specs.declared.Reader.{Reader}
use Rattle.reader.specs.Reader.{refused, keeping, take_line_def}
use Rattle.reader.specs.Lines.{saying, feed}
use Rattle.sender.specs.Sender.{frame_count_def, frame_of, marker_of, piece_of}
use Rattle.roundtrip.specs.RoundTrip.{frames}
use Rattle.roundtrip.specs.Lumped.{hear, lines_in, LumpsHeard, Whole, none, next, FramesWhole, LumpedRoundTrip}
use Rattle.roundtrip.proofs.Passage.{round_trip}

-- a line over 127 bytes is refused 2, and the reader stays
over_line : (r : Reader) (line p : List ℕ) → longest < length line → take_line_def r line p ≡ keeping 2 r p
unfolding take_line_def
over_line r line p h = rw (lt-ltb longest (length line) h, pick_yes)

-- what is said to a piece that ended, and to the line that it is
hear_ended : (x : List ℕ) (hs : List collecting.Handed) (ls : List (List ℕ)) (r : Reader) (p : List ℕ)
    → ((r : Reader) (p : List ℕ) → hear hs r p ≡ feed ls r p)
    → hear (collecting.ended collecting.empty x ∷ hs) r p ≡ feed ((x ++ (newline ∷ [])) ∷ ls) r p
unfolding hear feed
hear_ended x hs ls r p rest = elim (dec_le (length x) collecting.most) [
  | yes k ↦ rw (ended_line collecting.empty x refl (rw zero-add k)) (ap (saying (take_line_def r (x ++ (newline ∷ [])) p).says)
      (rest (take_line_def r (x ++ (newline ∷ [])) p).reader (take_line_def r (x ++ (newline ∷ [])) p).buffer))
  | no k ↦ rw (
    ended_over collecting.empty x refl (rw zero-add (omega (arith, k))),
    over_line r (x ++ (newline ∷ [])) p (rw length-append (omega (arith, k))),
  ) (ap (saying (refused 2)) (rest r p))
]

-- what is said to a stream's pieces, and to its lines
hear_pieces : (ps : List (List ℕ)) (r : Reader) (p : List ℕ) → hear (gathered collecting.empty ps).handed r p ≡ feed (lines_in ps) r p
unfolding gathered lines_in handing hear feed
hear_pieces [] r p = refl
hear_pieces (x ∷ []) r p = refl
hear_pieces (x ∷ (q ∷ ps)) r p =
    hear_ended x (gathered collecting.empty (q ∷ ps)).handed (lines_in (q ∷ ps)) r p (hear_pieces (q ∷ ps))

pub lumps_heard : LumpsHeard
lumps_heard lumps hs d r p given =
    rw (lumps_give collecting.empty lumps hs d possible_empty given).0 (hear_pieces (cut (joined lumps)) r p)

-- a line that ends with its first 0A: the bytes before it have none
whole_line : (line : List ℕ) → collecting.before line + 1 ≡ length line
    → (line ≡ take (collecting.before line) line ++ (newline ∷ []))
    × (collecting.before (take (collecting.before line) line) ≡ length (take (collecting.before line) line))
whole_line line e =
    let parts = split_at line (omega (arith, e)) in
    let rest : drop (collecting.before line + 1) line ≡ [] = drop_of_length-le line {i = collecting.before line + 1} (omega (arith, e)) in
    let size : length (take (collecting.before line) line) ≡ collecting.before line = rw length-take (omega (arith, e)) in
    (parts.0 ∙ ap (λ (l : List ℕ). take (collecting.before line) line ++ (newline ∷ l)) rest, parts.1 ∙ sym size)

-- before a stream, it is the stream's first piece
cut_line : (x s : List ℕ) → collecting.before x ≡ length x → cut ((x ++ (newline ∷ [])) ++ s) ≡ x ∷ cut s
cut_line x s clean =
    ap cut (append_assoc x (newline ∷ []) s)
    ∙ cut_clean x (newline ∷ s) [] (cut s) clean (cut_yes newline s refl)
    ∙ ap (λ (l : List ℕ). l ∷ cut s) (append-nil x)

-- lines that end with their first 0A each, joined, are the lines of the stream
lines_back : (lines : List (List ℕ)) → Whole lines → lines_in (cut (joined lines)) ≡ lines
unfolding joined lines_in cut
lines_back [] none = refl
lines_back (line ∷ lines) (next e rest) = by-pieces (cut (joined lines)) refl (lines_back lines rest)
  where
    by-pieces : (ps : List (List ℕ)) → cut (joined lines) ≡ ps → lines_in (cut (joined lines)) ≡ lines → lines_in (cut (line ++ joined lines)) ≡ line ∷ lines
    by-pieces [] f back = absurd (cut_some (joined lines) f)
    by-pieces (q ∷ ps) f back =
        let x = take (collecting.before line) line in
        let w = whole_line line e in
        let first : cut (line ++ joined lines) ≡ take (collecting.before line) line ∷ (q ∷ ps)
        = ap (λ (l : List ℕ). cut (l ++ joined lines)) w.0 ∙ cut_line (take (collecting.before line) line) (joined lines) w.1
        ∙ ap (λ (l : List (List ℕ)). take (collecting.before line) line ∷ l) f in
        let tail : lines_in (q ∷ ps) ≡ lines = ap lines_in (sym f) ∙ back in
        ap lines_in first ∙ ap₂ (λ (l : List ℕ) (ls : List (List ℕ)). l ∷ ls) (sym w.0) tail

-- and after them the collector holds nothing
lines_end : (lines : List (List ℕ)) → Whole lines → (stream collecting.empty (joined lines)).collector ≡ collecting.empty
unfolding joined handing
lines_end [] none = rw (stream_none collecting.empty (omega arith))
lines_end (line ∷ lines) (next e rest) =
    let w = whole_line line e in
    let went : stream collecting.empty (line ++ joined lines)
    ≡ handing (collecting.ended collecting.empty (take (collecting.before line) line)) (stream collecting.empty (joined lines))
    = ap (λ (l : List ℕ). stream collecting.empty (l ++ joined lines)) w.0
    ∙ ap (λ (l : List ℕ). stream collecting.empty l) (append_assoc (take (collecting.before line) line) (newline ∷ []) (joined lines))
    ∙ stream_line collecting.empty (take (collecting.before line) line) (joined lines) w.1 in
    rw went (lines_end lines rest)

pub lumped_round_trip : LumpedRoundTrip
lumped_round_trip s p r lines says lumps hs d bytes least most room amid whole same given =
    let e : lines_in (cut (joined lumps)) ≡ lines = ap (λ (l : List ℕ). lines_in (cut l)) same ∙ lines_back lines whole in (
      lumps_heard lumps hs d r p given ∙ rw e (round_trip s p r lines says bytes least most room amid),
      (lumps_give collecting.empty lumps hs d possible_empty given).1 ∙ rw same (lines_end lines whole),
    )

-- no character of a text is an 0A
char_high : (v : ℕ) → newline < char v
unfolding char
char_high v =
    pick_case (λ (n : ℕ). newline < n) (ltb v 26) _ _ (λ e. omega arith)
    (λ e. pick_case (λ (n : ℕ). newline < n) (ltb v 52) _ _ (λ f. omega arith)
    (λ f. pick_case (λ (n : ℕ). newline < n) (ltb v 62) _ _ (λ g. omega (arith, ltb-false v 52 f))
    (λ g. pick_case (λ (n : ℕ). newline < n) (eqb v 62) _ _ (λ h. omega arith) (λ h. omega arith))))

one_clean : (b : ℕ) (s : List ℕ) → newline < b → collecting.before s ≡ length s → collecting.before (b ∷ s) ≡ length (b ∷ s)
one_clean b s h clean = before_no b s (ne_eqb b newline (λ e. omega (arith, e, h))) ∙ ap suc clean

none_clean : collecting.before [] ≡ 0
unfolding index_of
none_clean = refl

text_clean : (x : List ℕ) → collecting.before (encode x) ≡ length (encode x)
unfolding encode
text_clean [] = none_clean
text_clean (a ∷ []) =
    one_clean _ _ (char_high _) (one_clean _ _ (char_high _) (one_clean pad _ (omega arith) (one_clean pad [] (omega arith) none_clean)))
text_clean (a ∷ b ∷ []) =
    one_clean _ _ (char_high _) (one_clean _ _ (char_high _) (one_clean _ _ (char_high _) (one_clean pad [] (omega arith) none_clean)))
text_clean (a ∷ b ∷ c ∷ s) =
    one_clean _ _ (char_high _) (one_clean _ _ (char_high _) (one_clean _ _ (char_high _) (one_clean _ (encode s) (char_high _) (text_clean s))))

-- a frame ends with its first 0A
frame_whole : (marker raw : List ℕ) → collecting.before marker ≡ length marker → collecting.before (frame marker raw) + 1 ≡ length (frame marker raw)
unfolding frame
frame_whole marker raw clean =
    rw (
      before_join marker (encode raw ++ (newline ∷ [])) clean,
      before_join (encode raw) (newline ∷ []) (text_clean raw),
      before_yes newline [] refl,
      length-append,
      length-append,
    ) (omega arith)

marker_clean : (k : ℕ) → collecting.before (marker_of k) ≡ length (marker_of k)
unfolding index_of index_after
marker_clean k = pick_case (λ (m : List ℕ). collecting.before m ≡ length m) (eqb k 0) initial partial (λ e. refl) (λ e. refl)

tab_whole : (s : List ℕ) (i n : ℕ) → Whole (tab (frame_of s) i n)
unfolding tab frame_of
tab_whole s i zero = none
tab_whole s i (suc n) = next (frame_whole (marker_of i) (piece_of s i) (marker_clean i)) (tab_whole s (suc i) n)

pub frames_whole : FramesWhole
unfolding frames
frames_whole s = tab_whole s 0 (frame_count_def (length s))
