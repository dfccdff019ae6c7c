-- Lumps for a caller in C: bg_collect called through each lump until it is used up, where record and bytes come back untouched between calls.
-- Assumes nothing.
use Rattle.std.specs.Prelude.{ℕ, ◌≤◌, ◌≡◌, List, [], ◌∷◌, ◌++◌, length, get_or, take}
use Rattle.laws.specs.Bytes.{Bytes}
use Rattle.frame.specs.Line.{longest}
use Rattle.collector.specs.declared.Collector.{Collector}
use Rattle.collector.specs.Collector.{longest_lump, empty, Handed, line, refused, too_long_def}
use Rattle.collector.specs.Lumps.{cut, stream, Possible, joined}
use Rattle.reader.specs.Reader as reading
use Rattle.reader.specs.Lines.{feed, Amid}
use Rattle.roundtrip.specs.RoundTrip.{frames, answers, read_back_def}
use Rattle.roundtrip.specs.Lumped.{hear, lines_in, Whole}
use Rattle.records.specs.Records.{collector_numbers, reader_of}
use Rattle.records.specs.Results.{TookLine}
use Rattle.line_calls.specs.Calls.{collected_c, took_line}
use Rattle.caller.specs.Lines.{said_of, Row, saying, run_in_def}

-- a caller's calls through one lump from a place on, with any line arrays and numbers lent: he goes on from got[1] after a 0 with a line and after a
-- 2, and ends at a 0 without one; the lines and refusals in order, and the record and bytes then
pub data Calls : List ℕ → List ℕ → List ℕ → ℕ → List Handed → List ℕ → List ℕ → Type 0 where
  over : {r held lump : List ℕ} {at : ℕ} (b got : List ℕ) → length b ≡ longest
      → (collected_c r held lump at b got).result ≡ 0 → get_or (collected_c r held lump at b got).got 0 0 ≡ 0
      → Calls r held lump at [] (collected_c r held lump at b got).record_after (collected_c r held lump at b got).held
  lined : {r held lump r' held' : List ℕ} {at : ℕ} {hs : List Handed} (b got : List ℕ) → length b ≡ longest
      → (collected_c r held lump at b got).result ≡ 0 → (get_or (collected_c r held lump at b got).got 0 0 ≡ 0 → ⊥)
      → Calls (collected_c r held lump at b got).record_after (collected_c r held lump at b got).held lump
      (get_or (collected_c r held lump at b got).got 1 0) hs r' held'
      → Calls r held lump at (line (take (get_or (collected_c r held lump at b got).got 0 0) (collected_c r held lump at b got).line) ∷ hs) r' held'
  long : {r held lump r' held' : List ℕ} {at : ℕ} {hs : List Handed} (b got : List ℕ) → length b ≡ longest
      → (collected_c r held lump at b got).result ≡ 2
      → Calls (collected_c r held lump at b got).record_after (collected_c r held lump at b got).held lump
      (get_or (collected_c r held lump at b got).got 1 0) hs r' held'
      → Calls r held lump at (too_long_def ∷ hs) r' held'

-- his calls through lumps of 0 to 256 bytes one after the other
pub data Lumped : List ℕ → List ℕ → List (List ℕ) → List Handed → List ℕ → List ℕ → Type 0 where
  none : {r held : List ℕ} → Lumped r held [] [] r held
  next : {r held r' held' r'' held'' lump : List ℕ} {lumps : List (List ℕ)} {hs ks : List Handed} → length lump ≤ longest_lump
      → Calls r held lump 0 hs r' held' → Lumped r' held' lumps ks r'' held'' → Lumped r held (lump ∷ lumps) (hs ++ ks) r'' held''

-- "One stream gives the same lines and refusals in order, and the same record at its end, however it was lumped": from the numbers and bytes of any
-- possible record, those of the whole stream
abbrev pub CallerLumps : Type 0
CallerLumps =
    (c : Collector) (lumps : List (List ℕ)) (hs : List Handed) (r held : List ℕ) → Possible c → Lumped (collector_numbers c) c.held lumps hs r held
    → (hs ≡ (stream c (joined lumps)).handed) × (r ≡ collector_numbers (stream c (joined lumps)).collector) × (held ≡ (stream c (joined lumps)).collector.held)

-- what is said to what was handed on: bg_take_line takes each line; a refusal stands for itself
unfoldable pub hearing : List Handed → List ℕ → List ℕ → ℕ → ℕ → Row
hearing [] r p b i = record { says = []; reader = r; packet = p }
hearing (line l ∷ hs) r p b i =
    let t : TookLine = took_line r l p b i in
    saying (said_of t.result t.body t.place) (hearing hs t.record_after t.packet t.body t.place)
hearing (refused n ∷ hs) r p b i = saying (reading.refused n) (hearing hs r p b i)

-- it is what the reader says, from any record and numbers at first
abbrev pub RowHears : Type 0
RowHears = (hs : List Handed) (r p : List ℕ) (b i : ℕ) → run_in_def (hearing hs r p b i) ≡ hear hs (reader_of r) p

-- to a stream that comes in lumps, from an empty record on, it is what the reader says to the stream's own lines, however long they are
abbrev pub CallerHears : Type 0
CallerHears =
    (r p : List ℕ) (b i : ℕ) (lumps : List (List ℕ)) (hs : List Handed) (record_after held : List ℕ)
    → Lumped (collector_numbers empty) empty.held lumps hs record_after held
    → run_in_def (hearing hs r p b i) ≡ feed (lines_in (cut (joined lumps))) (reader_of r) p

-- a body's lines, with noise anywhere among them, sent as one stream that is lumped anyhow, are read back; and the collector is then empty
abbrev pub CallerLumpedRoundTrip : Type 0
CallerLumpedRoundTrip =
    (s r p : List ℕ) (b i : ℕ) (lines : List (List ℕ)) (says : List reading.Said) (lumps : List (List ℕ)) (hs : List Handed) (record_after held : List ℕ)
    → Bytes s → 8 ≤ length s → length s ≤ 65533 → length s ≤ length p
    → Amid (frames s) (answers s) lines says → Whole lines → joined lumps ≡ joined lines
    → Lumped (collector_numbers empty) empty.held lumps hs record_after held
    → (run_in_def (hearing hs r p b i) ≡ read_back_def says s p) × (record_after ≡ collector_numbers empty) × (held ≡ empty.held)
