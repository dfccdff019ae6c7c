-- A packet whose map was written is read back: the header, the map's head, its pairs one by one, and its end.
-- Assumes nothing.
use mathlib.Core.Path.{◌≡◌, refl, sym, ap, ap₂, ◌∙◌}
use mathlib.Core.Bool.{Bool, true, false, not}
use mathlib.Core.List.{List, [], ◌++◌, append_assoc, append-nil}
use Prim.Native.Nat.{ℕ, suc, ◌+◌, ◌^◌, ◌≤◌, ◌<◌}
use native.Mathlib.Omega.{arith}
use lib.Dec.{eqb}
use lib.ListN.{length, take, drop, length-append}
use lib.Seq.{drop-append-add, take-append_seam, drop_at}
use Rattle.std.specs.Prelude.{Some}
use Rattle.laws.specs.declared.Run.{Run}
use Rattle.laws.specs.Choice.{both}
use Rattle.laws.proofs.Choice.{pick_yes}
use Rattle.cbor.specs.declared.Value.{Value}
use Rattle.cbor.specs.declared.Value.TheVariants.{Unsigned}
use Rattle.cbor.specs.Inner.{run_is}
use Rattle.cbor.specs.Write.{head_of, unsigned, bytes_of, text_of, map_of}
use Rattle.fields.specs.declared.Kind.{Kind}
use Rattle.fields.specs.declared.Key.{Key}
use Rattle.fields.specs.declared.Fields.{Fields}
use Rattle.fields.specs.declared.ValueType.{ValueType}
use Rattle.fields.specs.Keys.{key_of, type_for_def}
use Rattle.fields.specs.Fields.{nothing, there, stored}
use Rattle.map.specs.Walk.{pair_at, map_from_def}
use Rattle.map.proofs.Laws.{walked, pair_unsigned, pair_bytes, pair_text, walk_on, walk_end, map_back}
use Rattle.smp.specs.declared.Header.{Header}
use Rattle.smp.specs.Packet.{header_in_def, sized, header_bytes}
use Rattle.requests.specs.Request.{command_of_def, request_of_def, is_request_def, read_request_def}
use Rattle.smp.proofs.Headers.{header_back, sized_back}

-- the walk goes on over a pair that was read back
step : (kind : Kind) (s pre k value post : List ℕ) (f : Fields) (key : Key) (v : Value) (count : ℕ)
    → s ≡ pre ++ ((text_of k ++ value) ++ post)
    → pair_at kind (pre ++ (text_of k ++ (value ++ post))) (length pre) f ≡ Some (length (pre ++ text_of k) + length value, stored key v f)
    → walked kind s (suc count) (length pre) f ≡ walked kind s count (length (pre ++ (text_of k ++ value))) (stored key v f)
step kind s pre k value post f key v count parts pair =
    walk_on kind s count (length pre) f (length (pre ++ (text_of k ++ value))) (stored key v f)
    (ap (λ (l : List ℕ). pair_at kind l (length pre) f) (parts ∙ ap (λ (l : List ℕ). pre ++ l) (append_assoc (text_of k) value post))
    ∙ pair
    ∙ ap (λ (next : ℕ). Some (next, stored key v f)) (sym (length-append (pre ++ text_of k) value) ∙ ap length (append_assoc pre (text_of k) value)))

-- so it does over a pair with an unsigned number, under a known key that is absent so far and has this type
pub step_number : (kind : Kind) (s pre k post : List ℕ) (f : Fields) (key : Key) (n count : ℕ)
    → s ≡ pre ++ ((text_of k ++ unsigned n) ++ post)
    → key_of kind k ≡ Some key → length k < 2 ^ 64 → n < 2 ^ 64 → there key f ≡ false → type_for_def key ≡ ValueType.Unsigned
    → walked kind s (suc count) (length pre) f ≡ walked kind s count (length (pre ++ (text_of k ++ unsigned n))) (stored key (Unsigned n) f)
step_number kind s pre k post f key n count parts is small fits free type =
    step kind s pre k (unsigned n) post f key (Unsigned n) count parts (pair_unsigned kind pre k key f is small free post n fits type)

-- where a string in a pair stands, after what stands before the pair, its key, and the string's head
abbrev pub string_run : ℕ → List ℕ → List ℕ → List ℕ → Run
string_run major pre k x = run_is (length (pre ++ text_of k) + length (head_of major (length x))) (length x)

-- so it does over a pair with a byte string
pub step_bytes : (kind : Kind) (s pre k x post : List ℕ) (f : Fields) (key : Key) (count : ℕ)
    → s ≡ pre ++ ((text_of k ++ bytes_of x) ++ post)
    → key_of kind k ≡ Some key → length k < 2 ^ 64 → length x < 2 ^ 64 → there key f ≡ false → type_for_def key ≡ ValueType.Bytes
    → walked kind s (suc count) (length pre) f
    ≡ walked kind s count (length (pre ++ (text_of k ++ bytes_of x))) (stored key (Value.Bytes (string_run 2 pre k x)) f)
step_bytes kind s pre k x post f key count parts is small fits free type =
    step kind s pre k (bytes_of x) post f key (Value.Bytes (string_run 2 pre k x)) count parts (pair_bytes kind pre k key f is small free x post fits type)

-- so it does over a pair with a text
pub step_text : (kind : Kind) (s pre k x post : List ℕ) (f : Fields) (key : Key) (count : ℕ)
    → s ≡ pre ++ ((text_of k ++ text_of x) ++ post)
    → key_of kind k ≡ Some key → length k < 2 ^ 64 → length x < 2 ^ 64 → there key f ≡ false → type_for_def key ≡ ValueType.Text
    → walked kind s (suc count) (length pre) f
    ≡ walked kind s count (length (pre ++ (text_of k ++ text_of x))) (stored key (Value.Text (string_run 3 pre k x)) f)
step_text kind s pre k x post f key count parts is small fits free type =
    step kind s pre k (text_of x) post f key (Value.Text (string_run 3 pre k x)) count parts (pair_text kind pre k key f is small free x post fits type)

-- a string stands after its head
pub string_there : (s pre k head x post : List ℕ) → s ≡ pre ++ ((k ++ (head ++ x)) ++ post) → take (length x) (drop (length (pre ++ k) + length head) s) ≡ x
string_there s pre k head x post parts =
    let flat : s ≡ (pre ++ k) ++ (head ++ (x ++ post)) = parts ∙ regroup pre k head x post in
    ap (λ (l : List ℕ). take (length x) (drop (length (pre ++ k) + length head) l)) flat
    ∙ ap (λ (l : List ℕ). take (length x) l) (drop-append-add (pre ++ k) (head ++ (x ++ post)) (length head) ∙ drop_at head (x ++ post) (length head) refl)
    ∙ take-append_seam x post
  where
    regroup : (pre k head x post : List ℕ) → pre ++ ((k ++ (head ++ x)) ++ post) ≡ (pre ++ k) ++ (head ++ (x ++ post))
    regroup pre k head x post = simp append_assoc

-- a map's head after eight bytes begins the walk over its pairs
pub map_start : (kind : Kind) (s pre post : List ℕ) (n : ℕ) → s ≡ pre ++ (map_of n ++ post) → length pre ≡ 8 → n < 2 ^ 64 → map_from_def kind s 8
    ≡ walked kind s n (length (pre ++ map_of n)) nothing
map_start kind s pre post n parts eight small =
    ap₂ (λ (l : List ℕ) (k : ℕ). map_from_def kind l k) parts (sym eight)
    ∙ map_back kind pre post n small
    ∙ ap₂ (λ (l : List ℕ) (k : ℕ). walked kind l n k nothing) (sym parts) (sym (length-append pre (map_of n)))

-- the walk ends where the bytes do
pub walk_over : (kind : Kind) (s pre : List ℕ) (f : Fields) → s ≡ pre → walked kind s 0 (length pre) f ≡ Some f
walk_over kind s pre f e = walk_end kind s (length pre) f (ap length (sym e))

-- the part that was read goes to those before it
pub next_part : {s : List ℕ} (pre x post : List ℕ) → s ≡ pre ++ (x ++ post) → s ≡ (pre ++ x) ++ post
next_part pre x post e = e ∙ sym (append_assoc pre x post)

-- nothing stands after the last part
pub last_part : {s : List ℕ} (pre x : List ℕ) → s ≡ pre ++ x → s ≡ pre ++ (x ++ [])
last_part pre x e = e ∙ ap (λ (l : List ℕ). pre ++ l) (sym (append-nil x))

-- a packet of the right length with op 2 is a request
tested : (h : Header) (m : List ℕ) → sized (header_bytes h ++ m) ≡ true → (header_in_def (header_bytes h ++ m)).op ≡ 2 → is_request_def (header_bytes h ++ m) ≡ true
unfolding is_request_def both
tested h m size op = ap₂ (λ (b : Bool) (o : ℕ). both b (not (both (not (eqb o 0)) (not (eqb o 2))))) size op

-- a packet with the header of a request is read as what its command asks for
pub header_read : (h : Header) (m : List ℕ) → h.op ≡ 2 → h.length ≡ length m → length m ≤ 65525 → h.group < 65536
    → read_request_def (header_bytes h ++ m) ≡ Some (request_of_def (command_of_def h) (header_bytes h ++ m))
unfolding read_request_def
header_read h m op size small group =
    let s : List ℕ = header_bytes h ++ m in
    let back : header_in_def s ≡ h = header_back h m (omega arith) group in
    let right : sized s ≡ true = sized_back h m size small in
    let two : (header_in_def s).op ≡ 2 = ap (λ (x : Header). x.op) back ∙ op in
    rw (tested h m right two, pick_yes) (ap (λ (x : Header). Some (request_of_def (command_of_def x) s)) back)
