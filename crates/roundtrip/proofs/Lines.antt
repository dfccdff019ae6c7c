-- A frame that carries some raw bytes is a line that the reader takes by its marker, with those raw bytes.
-- Assumes nothing.
use mathlib.Core.Path.{◌≡◌, refl, ◌∙◌}
use Prim.Native.Nat.{ℕ, suc, ◌+◌, ◌-◌, ◌≤◌, ◌<◌}
use native.Mathlib.Omega.{arith}
use mathlib.Core.Bool.{true, false}
use mathlib.Core.List.{List, [], ◌∷◌, ◌++◌}
use borrow.Author.Tests.{le-ltb}
use lib.ListN.{length, get_or, length-append}
use lib.Seq.{take_at, get_or_at}
use Rattle.laws.specs.Choice.{pick, both}
use Rattle.laws.specs.Bytes.{Bytes}
use Rattle.laws.proofs.Choice.{pick_yes, pick_no}
use Rattle.strict_base64.specs.Base64.{encode, decode}
use Rattle.strict_base64.proofs.Laws.{decode_encode, encode_length}
use Rattle.frame.specs.Line.{longest, newline, raw_most, initial, partial, frame, marked, begins_with, ended, text_of}
use Rattle.reader.specs.declared.Reader.{Reader}
use Rattle.reader.specs.Reader.{keeping, begin, resume, place_in, decoded, take_line_def}

-- a line is its marker, its text and 0A
line_is : (a b : ℕ) (raw : List ℕ) → frame (a ∷ b ∷ []) raw ≡ (a ∷ b ∷ encode raw) ++ (newline ∷ [])
unfolding frame
line_is a b raw = refl

-- it is three longer than its text
line_length : (a b : ℕ) (raw : List ℕ) → length (frame (a ∷ b ∷ []) raw) ≡ length (encode raw) + 3
unfolding frame
line_length a b raw = rw (length-append (encode raw) (newline ∷ [])) (omega arith)

-- it is ended
line_ended : (a b : ℕ) (raw : List ℕ) → ended (frame (a ∷ b ∷ []) raw) ≡ true
unfolding ended
line_ended a b raw =
    let n : length (frame (a ∷ b ∷ []) raw) - 1 ≡ suc (suc (length (encode raw))) = omega (arith, line_length a b raw) in
    rw (n, line_is, get_or_at (a ∷ b ∷ encode raw) newline [] 0 (suc (suc (length (encode raw)))) refl)

-- its text is the encoding of its raw bytes
line_text_lem : (a b : ℕ) (raw : List ℕ) → text_of (frame (a ∷ b ∷ []) raw) ≡ encode raw
unfolding text_of
line_text_lem a b raw =
    let n : length (frame (a ∷ b ∷ []) raw) - 1 - 2 ≡ length (encode raw) = omega (arith, line_length a b raw) in
    rw (n, line_is) (take_at (encode raw) (newline ∷ []) (length (encode raw)) refl)

-- a frame passes refusals 2 and 3
passes : (a b : ℕ) (r : Reader) (raw p : List ℕ) → length raw ≤ raw_most
    → take_line_def r (frame (a ∷ b ∷ []) raw) p
    ≡ pick (begins_with initial (frame (a ∷ b ∷ []) raw)) (decoded true r (place_in (frame (a ∷ b ∷ []) raw)) (decode (encode raw)) p)
    (pick (begins_with partial (frame (a ∷ b ∷ []) raw)) (decoded false r (place_in (frame (a ∷ b ∷ []) raw)) (decode (encode raw)) p)
    (keeping 3 r p))
unfolding take_line_def
passes a b r raw p l =
    let size = line_length a b raw in
    let text = encode_length raw in
    rw (
      le-ltb longest (length (frame (a ∷ b ∷ []) raw)) (omega arith),
      pick_no,
      le-ltb (length (frame (a ∷ b ∷ []) raw)) 3 (omega arith),
      pick_no,
      line_ended,
      pick_no,
      line_text_lem,
    )

-- an initial frame begins a packet
pub initial_taken : (r : Reader) (raw p : List ℕ) → Bytes raw → 0 < length raw → length raw ≤ raw_most
    → take_line_def r (frame initial raw) p ≡ begin raw p
unfolding decoded marked both frame
initial_taken r raw p h n l = passes (get_or initial 0 0) (get_or initial 1 0) r raw p l ∙ rw (pick_yes, decode_encode raw h n)

-- a partial frame goes on with one
pub partial_taken : (r : Reader) (raw p : List ℕ) → Bytes raw → 0 < length raw → length raw ≤ raw_most
    → take_line_def r (frame partial raw) p ≡ resume r raw p
unfolding decoded marked both frame
partial_taken r raw p h n l = passes (get_or partial 0 0) (get_or partial 1 0) r raw p l ∙ rw (pick_no, pick_yes, decode_encode raw h n)
