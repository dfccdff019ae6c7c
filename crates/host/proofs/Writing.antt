-- A request that is written: its header in front of its map, when it is refused, and how long an echo's map is.
-- Assumes nothing.
use mathlib.Core.Path.{◌≡◌, sym, ap, ap₂, ◌∙◌}
use mathlib.Core.Bool.{true, false, false≢true}
use mathlib.Core.List.{List}
use Prim.Native.Nat.{ℕ, ◌+◌, ◌-◌, ◌≤◌, ◌<◌}
use native.Mathlib.Decide.{dec_lt}
use native.Mathlib.Omega.{arith}
use lib.Dec.{leb, lit<}
use borrow.Author.Tests.{le-ltb, lt-ltb, le-leb, leb-true}
use lib.ListN.{length, take, drop, length-append}
use lib.Seq.{take_at}
use Rattle.laws.specs.Bytes.{pasted}
use Rattle.laws.proofs.Choice.{pick_yes, pick_no, both_yes, both_true}
use Rattle.laws.proofs.Lists.{pasted_start}
use Rattle.cbor.specs.Write.{head_of}
use Rattle.cbor.proofs.Laws.{head_length, head_long, len_most}
use Rattle.smp.specs.Packet.{header_bytes}
use Rattle.smp.specs.Inner.{Starts}
use Rattle.smp.proofs.Headers.{header_length}
use Rattle.smp.proofs.Writing.{pasted_front, head_tiny}
use Rattle.std.specs.Prelude.{Ok}
use Rattle.host.specs.Write.{request_header, request_packet, echo_map, Outcome, packet, refused, outcome, unsendable, sendable, put}

-- a request is eight bytes longer than its map
pub request_length : (group sequence command : ℕ) (m : List ℕ) → length (request_packet group sequence command m) ≡ 8 + length m
unfolding request_packet
request_length group sequence command m = rw (length-append, header_length (request_header group sequence command (length m)))

-- a map at place 8 and then the header with its length in front of it are the request
pub request_put : (group sequence command : ℕ) (m : List ℕ) {d e₁ e₂ : List ℕ} (end : ℕ) → 8 + length m ≤ length d
    → end ≡ 8 + length m
    → e₁ ≡ pasted d 8 m
    → e₂ ≡ pasted e₁ 0 (header_bytes (request_header group sequence command (end - 8)))
    → Starts d (request_packet group sequence command m) end e₂
unfolding request_packet
request_put group sequence command m {d} {e₁} {e₂} end room place written w =
    let e : end - 8 ≡ length m = omega (arith, place) in
    let size : length (header_bytes (request_header group sequence command (length m))) ≡ 8 = header_length (request_header group sequence command (length m)) in
    record {
      count = rw length-append (omega (arith, place));
      bytes =
          w
          ∙ ap₂ (λ (l : List ℕ) (n : ℕ). pasted l 0 (header_bytes (request_header group sequence command n))) written e
          ∙ pasted_front d 8 (header_bytes (request_header group sequence command (length m))) m size room;
    }

-- a length that may be sent is neither over 65,533 nor longer than the room
pub sendable_fits : (total room : ℕ) → sendable total room ≡ true → (total ≤ 65533) × (total ≤ room)
unfolding sendable
sendable_fits total room e =
    let t = both_true (leb total 65533) (leb total room) e in
    (leb-true total 65533 t.0, leb-true total room t.1)

-- a packet that is over 65,533 bytes is refused
pub put_over : (p out : List ℕ) → 65533 < length p → put p out ≡ unsendable out
unfolding put
put_over p out h = simp (lt-ltb 65533 _ h, pick_yes)

-- so is one that is longer than the output
pub put_long : (p out : List ℕ) → length p ≤ 65533 → length out < length p → put p out ≡ unsendable out
unfolding put
put_long p out h k = simp (le-ltb 65533 _ h, lt-ltb (length out) _ k, pick_yes, pick_no)

-- another is written to the start of the buffer
pub put_whole : (p out : List ℕ) → length p ≤ 65533 → length p ≤ length out → put p out ≡ record { says = packet (length p); buffer = pasted out 0 p }
unfolding put
put_whole p out h k = simp (le-ltb 65533 _ h, le-ltb (length out) _ k, pick_no)

-- a request that may be sent is written, and stands in the buffer that comes back
pub request_sent : (group sequence command : ℕ) (m d : List ℕ) {e₁ e₂ f : List ℕ} (total end : ℕ) → total ≡ 8 + length m
    → sendable total (length d) ≡ true
    → end ≡ 8 + length m
    → e₁ ≡ pasted d 8 m
    → e₂ ≡ pasted e₁ 0 (header_bytes (request_header group sequence command (end - 8)))
    → f ≡ e₂
    → outcome (Ok end) f ≡ put (request_packet group sequence command m) d
request_sent group sequence command m d {e₁} {e₂} {f} total end size may place written w back =
    let n = request_length group sequence command m in
    let t = sendable_fits total (length d) may in
    let whole : Starts d (request_packet group sequence command m) end e₂ = request_put group sequence command m end (omega (arith, t)) place written w in
    ap₂ (λ (k : ℕ) (l : List ℕ). outcome (Ok k) l) whole.count (back ∙ whole.bytes)
    ∙ sym (put_whole (request_packet group sequence command m) d (omega (arith, t)) (omega (arith, t)))

-- a request that may not be sent is refused
pub request_refused : (group sequence command : ℕ) (m d : List ℕ) (total : ℕ) → total ≡ 8 + length m → sendable total (length d) ≡ false
    → unsendable d ≡ put (request_packet group sequence command m) d
unfolding sendable
request_refused group sequence command m d total size may =
    let n = request_length group sequence command m in
    elim (dec_lt 65533 total) [
      | yes a ↦ sym (put_over (request_packet group sequence command m) d (omega arith))
      | no a ↦ elim (dec_lt (length d) total) [
        | yes b ↦ sym (put_long (request_packet group sequence command m) d (omega arith) (omega arith))
        | no b ↦
            let k : total ≤ 65533 = omega arith in
            let l : total ≤ length d = omega arith in
            absurd (false≢true (sym may ∙ simp (le-leb total 65533 k, le-leb total (length d) l, both_yes)))
      ]
    ]

-- a packet that a writer says it wrote is one that may be sent, and stands at the buffer's start
pub sent_whole : (p out : List ℕ) (n : ℕ) → (put p out).says ≡ packet n → (length p ≤ 65533) × (take n (put p out).buffer ≡ p)
sent_whole p out n e =
    elim (dec_lt 65533 (length p)) [
      | yes a ↦ absurd (apart n (ap (λ (o : Outcome). o.says) (sym (put_over p out a)) ∙ e))
      | no a ↦ elim (dec_lt (length out) (length p)) [
        | yes b ↦ absurd (apart n (ap (λ (o : Outcome). o.says) (sym (put_long p out (omega arith) b)) ∙ e))
        | no b ↦ (omega arith, there (put_whole p out (omega arith) (omega arith)))
      ]
    ]
  where
    apart : (n : ℕ) → refused 12 ≡ packet n → ⊥
    apart n e = let z : ◌≡◌ {A = ℕ} 0 1 = cc in omega arith

    same : (k n : ℕ) → packet k ≡ packet n → k ≡ n
    same k n e = cc

    there : put p out ≡ record { says = packet (length p); buffer = pasted out 0 p } → take n (put p out).buffer ≡ p
    there is =
        ap (λ (o : Outcome). take n o.buffer) is
        ∙ ap (λ (l : List ℕ). take n l) (pasted_start out p)
        ∙ take_at p (drop (length p) out) n (same (length p) n (ap (λ (o : Outcome). o.says) (sym is) ∙ e))

-- no head is longer than nine bytes
pub head_most : (m n : ℕ) → length (head_of m n) ≤ 9
head_most m n = rw head_long (len_most n)

-- how long an echo's map is
pub echo_length : (text : List ℕ) → length (echo_map text) ≡ 3 + length (head_of 0 (length text)) + length text
unfolding echo_map
echo_length text = simp length-append (omega (arith, head_tiny 5 1 (lit< tt), head_tiny 3 1 (lit< tt), head_length 3 (length text)))
