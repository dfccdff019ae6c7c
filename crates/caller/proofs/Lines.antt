-- The round trip for a caller in C: each call takes the line as the reader does, and what it stores is read back by the next.
-- Assumes nothing.
use mathlib.Core.Path.{◌≡◌, refl, sym, ap₂, ◌∙◌}
use mathlib.Core.Bool.{true, false, not, true≢false}
use mathlib.Core.List.{List, [], ◌∷◌}
use mathlib.Core.Option.{Option, none, some}
use Prim.Native.Nat.{ℕ, ◌+◌, ◌-◌, ◌≤◌, ◌<◌}
use native.Mathlib.Omega.{arith}
use lib.Dec.{ltb, leb, eqb, lit<}
use lib.ListN.{length, get_or, take, drop}
use borrow.Author.Tests.{ltb-false, leb-true, eq-eqb, ne_eqb}
use Rattle.laws.specs.Choice.{both}
use Rattle.laws.specs.Bytes.{Bytes, of_be16}
use Rattle.laws.proofs.Choice.{pick_case, pick_yes, pick_no, both_true}
use Rattle.laws.proofs.Lists.{bytes_drop, bytes_cons}
use Rattle.crc.specs.Crc.{crc_of_def}
use Rattle.strict_base64.specs.Base64.{decode}
use Rattle.strict_base64.proofs.Laws.{decode_bytes}
use Rattle.frame.specs.Line.{longest, initial, partial, begins_with, ended, text_of}
use Rattle.reader.specs.declared.Reader.{Reader}
use Rattle.reader.specs.declared.Reader.TheVariants.{Idle, Open}
use Rattle.reader.specs.Reader.{
  Said,
  more,
  body,
  refused,
  is_bad_text,
  Outcome,
  keeping,
  dropping,
  possible,
  crc_bytes,
  filled,
  waiting,
  completed,
  absorb,
  begin,
  resume,
  place_in,
  decoded,
  take_line_def,
}
use Rattle.reader.specs.Place.{PlaceIn}
use Rattle.reader.proofs.Placed.{place_given}
use Rattle.reader.specs.Lines as lines
use Rattle.reader.specs.Lines.{feed}
use Rattle.sender.specs.Sender as sending
use Rattle.sender.specs.Sender.{send_frame_def}
use Rattle.roundtrip.proofs.Passage.{round_trip}
use Rattle.roundtrip.proofs.Sent.{frame_stands}
use Rattle.records.specs.Records.{reader_from_def, reader_of}
use Rattle.records.specs.Results.{keeps_record_def, TookLine, took_by}
use Rattle.line_calls.specs.Calls.{took_line, sent_by, sent_frame}
use Rattle.caller.specs.Records.{FirstByte}
use Rattle.caller.specs.Lines.{said_of, saying, taking, RowTakes, LineWritten, CallerRoundTrip, PlaceTold}
use Rattle.caller.proofs.Records.{reader_back}

-- what a caller's arrays can hold of a call from the record r: a body's length and a refusal's number are above 0, a refusal without a place is not 4,
-- the first CRC byte is a byte, and refusals 2, 3 and 5 leave the record
abbrev FairBy : Reader → Reader → Said → Type 0
FairBy r r' more = FirstByte r'
FairBy r r' (body n) = (0 < n) × FirstByte r'
FairBy r r' (refused n) = (0 < n) × (eqb n 4 ≡ false) × (keeps_record_def n ≡ true → r' ≡ r) × FirstByte r'
FairBy r r' (is_bad_text i) = FirstByte r'

abbrev Fair : Reader → Outcome → Type 0
Fair r o = FairBy r o.reader o.says

-- a refusal that drops the packet
dropped : (r : Reader) (n : ℕ) (p : List ℕ) → 0 < n → eqb n 4 ≡ false → keeps_record_def n ≡ false → Fair r (dropping n p)
dropped r n p h k e = (h, k, (λ f. absurd (true≢false (sym f ∙ e))), tt)

-- a refusal that keeps the record
kept : (r : Reader) (n : ℕ) (p : List ℕ) → 0 < n → eqb n 4 ≡ false → FirstByte r → Fair r (keeping n r p)
kept r n p h k b = (h, k, (λ f. refl), b)

-- the CRC bytes that have come are bytes
crc_bytes_lem : (total come first : ℕ) (x : List ℕ) → first < 256 → Bytes x → Bytes (crc_bytes total come first x)
unfolding crc_bytes
crc_bytes_lem total come first x h b =
    pick_case Bytes (leb come (total - 2)) _ _ (λ e. bytes_drop (total - 2 - come) x b) (λ e. bytes_cons first x h b)

-- so the record that waits holds one
waits : (total come first : ℕ) (x : List ℕ) → first < 256 → Bytes x → FirstByte (waiting total come first x)
unfolding waiting
waits total come first x h b =
    pick_case (λ (n : ℕ). n < 256) (eqb (come + length x + 1) total) _ _ (λ e. crc_bytes_lem total come first x h b 0) (λ e. lit< tt)

-- bytes that come
fair_absorb : (r : Reader) (total come first : ℕ) (x p : List ℕ) → 10 ≤ total → first < 256 → Bytes x → Fair r (absorb total come first x p)
unfolding absorb completed both
fair_absorb r total come first x p h f b =
    pick_case (Fair r) (ltb (length p) (total - 2)) _ _ (λ e. dropped r 7 p (lit< tt) refl refl)
    (λ e. pick_case (Fair r) (ltb total (come + length x)) _ _ (λ e. dropped r 8 p (lit< tt) refl refl)
    (λ e. pick_case (Fair r) (ltb (come + length x) total) _ _ (λ e. waits total come first x f b)
    (λ e. pick_case (Fair r) (eqb (of_be16 (crc_bytes total come first x)) (crc_of_def (take (total - 2) (filled total come x p)))) _ _
    (λ e. (omega arith, tt)) (λ e. dropped r 9 p (lit< tt) refl refl))))

-- an initial frame
fair_begin : (r : Reader) (raw p : List ℕ) → Bytes raw → Fair r (begin raw p)
unfolding begin both
fair_begin r raw p b =
    pick_case (Fair r) (ltb (length raw) 2) _ _ (λ e. dropped r 6 p (lit< tt) refl refl)
    (λ e. pick_case (Fair r) (ltb (of_be16 raw) 10) _ _ (λ e. dropped r 6 p (lit< tt) refl refl)
    (λ e. fair_absorb r (of_be16 raw) 0 0 (drop 2 raw) p (ltb-false (of_be16 raw) 10 e) (lit< tt) (bytes_drop 2 raw b)))

-- a partial frame
fair_resume : (r : Reader) (raw p : List ℕ) → FirstByte r → Bytes raw → Fair r (resume r raw p)
unfolding resume possible
fair_resume Idle raw p h b = kept Idle 5 p (lit< tt) refl tt
fair_resume (Open total come first) raw p h b =
    pick_case (Fair (Open total come first)) (both (leb 10 total) (both (leb total 65535) (ltb come total))) _ _
    (λ e. fair_absorb (Open total come first) total come first raw p
    (leb-true 10 total (both_true (leb 10 total) (both (leb total 65535) (ltb come total)) e).0) h b)
    (λ e. kept (Open total come first) 5 p (lit< tt) refl h)

-- any line
fair_line : (r : Reader) (line p : List ℕ) → FirstByte r → Fair r (take_line_def r line p)
unfolding take_line_def decoded both
fair_line r line p h =
    pick_case (Fair r) (ltb longest (length line)) _ _ (λ e. kept r 2 p (lit< tt) refl h)
    (λ e. pick_case (Fair r) (ltb (length line) 3) _ _ (λ e. kept r 3 p (lit< tt) refl h)
    (λ e. pick_case (Fair r) (not (ended line)) _ _ (λ e. kept r 3 p (lit< tt) refl h)
    (λ e. pick_case (Fair r) (begins_with initial line) _ _ (λ e. first (decode (text_of line)) refl)
    (λ e. pick_case (Fair r) (begins_with partial line) _ _ (λ e. later (decode (text_of line)) refl) (λ e. kept r 3 p (lit< tt) refl h)))))
  where
    first : (t : Option (List ℕ)) → decode (text_of line) ≡ t → Fair r (decoded true r (place_in line) t p)
    first none e = tt
    first (some raw) e = fair_begin r raw p (decode_bytes (text_of line) raw e)

    later : (t : Option (List ℕ)) → decode (text_of line) ≡ t → Fair r (decoded false r (place_in line) t p)
    later none e = tt
    later (some raw) e = fair_resume r raw p h (decode_bytes (text_of line) raw e)

-- a record that is read from the array holds a byte
array_byte : (r : List ℕ) → FirstByte (reader_of r)
unfolding reader_from_def
array_byte r =
    pick_case FirstByte (eqb (get_or r 0 0) 0) _ _ (λ e. tt)
    (λ e. pick_case FirstByte (ltb 255 (get_or r 3 0)) _ _ (λ e. lit< tt) (λ e. let h = ltb-false 255 (get_or r 3 0) e in omega arith))

-- one call, by what the reader said: its result, *body and *place mean that, and the array stands for the reader's record
pub record Means (t : TookLine) (o : Outcome) : Type 0 where
  pub says : said_of t.result t.body t.place ≡ o.says
  pub reader : reader_of t.record_after ≡ o.reader
  pub packet : t.packet ≡ o.buffer

means : (r : List ℕ) (b i : ℕ) (reader : Reader) (p : List ℕ) (a : Said) → FairBy (reader_of r) reader a
    → Means (took_by r b i reader p a) (record { says = a; reader = reader; buffer = p })
unfolding took_by said_of
means r b i reader p more h = record { says = rw (pick_yes, pick_yes); reader = reader_back reader h; packet = refl }
means r b i reader p (body n) h =
    record { says = rw (pick_yes, ne_eqb n 0 (λ e. omega (arith, h.0, e)), pick_no); reader = reader_back reader h.1; packet = refl }
means r b i reader p (refused n) h =
    record {
      says = rw (ne_eqb n 0 (λ e. omega (arith, h.0, e)), pick_no, h.1, pick_no);
      reader = pick_case (λ (s : List ℕ). reader_of s ≡ reader) (keeps_record_def n) _ _ (λ e. sym (h.2 e)) (λ e. reader_back reader h.3);
      packet = refl;
    }
means r b i reader p (is_bad_text j) h = record { says = rw (pick_no, pick_yes); reader = reader_back reader h; packet = refl }

-- one call
pub one_line : (r line p : List ℕ) (b i : ℕ) → Means (took_line r line p b i) (take_line_def (reader_of r) line p)
unfolding took_line
one_line r line p b i =
    let o : Outcome = take_line_def (reader_of r) line p in
    means r b i o.reader o.buffer o.says (fair_line (reader_of r) line p (array_byte r))

-- a row of calls takes the lines as the reader does
pub row_takes : RowTakes
unfolding taking saying feed lines.saying
row_takes [] r p b i = refl
row_takes (line ∷ rest) r p b i =
    let t : TookLine = took_line r line p b i in
    let m = one_line r line p b i in
    let o : Outcome = take_line_def (reader_of r) line p in
    ap₂ lines.saying m.says (row_takes rest t.record_after t.packet t.body t.place)
    ∙ ap₂ (λ (k : Reader) (q : List ℕ). lines.saying o.says (feed rest k q)) m.reader m.packet

-- the place of one call, by what the reader said
placed : (r line p : List ℕ) (b i : ℕ) (reader : Reader) (q : List ℕ) (a : Said) → FairBy (reader_of r) reader a
    → (take_line_def (reader_of r) line p).says ≡ a
    → ((took_by r b i reader q a).result ≡ 4 → PlaceIn line (took_by r b i reader q a).place)
    × (((took_by r b i reader q a).result ≡ 4 → ⊥) → (took_by r b i reader q a).place ≡ i)
unfolding took_by
placed r line p b i reader q more h e = ((λ f. absurd (omega (arith, f))), λ f. refl)
placed r line p b i reader q (body n) h e = ((λ f. absurd (omega (arith, f))), λ f. refl)
placed r line p b i reader q (refused n) h e = ((λ f. absurd (true≢false (sym (eq-eqb n 4 f) ∙ h.1))), λ f. refl)
placed r line p b i reader q (is_bad_text j) h e = ((λ f. place_given (reader_of r) line p j e), λ f. absurd (f refl))

-- bg_take_line gives a place with refusal 4 alone, that of the paper's sentence
pub place_told : PlaceTold
unfolding took_line
place_told r line p b i =
    let o : Outcome = take_line_def (reader_of r) line p in
    placed r line p b i o.reader o.buffer o.says (fair_line (reader_of r) line p (array_byte r)) refl

-- a refusal of the sender has a number above 0
abbrev Numbered : sending.Told → Type 0
Numbered (sending.is_frame n count) = Unit {0}
Numbered (sending.refused n) = 0 < n

numbered : (s : List ℕ) (k : ℕ) (out : List ℕ) → Numbered (send_frame_def s k out).says
unfolding send_frame_def
numbered s k out =
    let P : sending.Outcome → Type 0 = λ o. Numbered o.says in
    pick_case P (not (sending.sendable (length s) (length out))) _ _ (λ e. lit< tt)
    (λ e. pick_case P (not (ltb k (sending.frame_count_def (length s)))) _ _ (λ e. lit< tt) (λ e. tt))

-- where bg_send_frame returns 0, the sender said what the two numbers are
line_by : (s : List ℕ) (k : ℕ) (out sent : List ℕ) (a : sending.Told) → Numbered a
    → (send_frame_def s k out).says ≡ a
    → (sent_by sent (send_frame_def s k out).buffer a).result ≡ 0
    → (take (get_or (sent_by sent (send_frame_def s k out).buffer a).sent 0 0) (sent_by sent (send_frame_def s k out).buffer a).out ≡ sending.frame_of s k)
    × (get_or (sent_by sent (send_frame_def s k out).buffer a).sent 1 0 ≡ sending.frame_count_def (length s))
unfolding sent_by
line_by s k out sent (sending.is_frame n count) h f e = let w = frame_stands s k out n count f in (w.0, w.2)
line_by s k out sent (sending.refused n) h f e = absurd (omega (arith, h, e))

-- where bg_send_frame returns 0, the line is the frame
pub line_written : LineWritten
unfolding sent_frame
line_written s k out sent e = line_by s k out sent (send_frame_def s k out).says (numbered s k out) refl e

-- a body that was sent as lines is read back
pub caller_round_trip : CallerRoundTrip
caller_round_trip s r p b i lines says bytes low high room amid =
    row_takes lines r p b i ∙ round_trip s p (reader_of r) lines says bytes low high room amid
