-- The lengths of the requests and the most data of an upload: the definitions at each way of their tests, and what each writer says.
-- Assumes nothing.
use mathlib.Core.Path.{◌≡◌, refl, sym, ap, ◌∙◌}
use mathlib.Core.Bool.{Bool, true, false}
use mathlib.Core.List.{List}
use Prim.Native.Nat.{ℕ, ◌+◌, ◌-◌, ◌≤◌, ◌<◌, min}
use native.Mathlib.Decide.{dec_le, dec_lt}
use native.Mathlib.Omega.{arith}
use lib.Dec.{ltb, leb, eqb, lit<}
use lib.ListN.{length}
use borrow.Author.Tests.{ltb-true, ltb-false, le-leb, lt-leb, leb-true, eqb-true, eqb-false, eq-eqb, ne_eqb}
use Rattle.laws.specs.Choice.{pick, both}
use Rattle.laws.proofs.Choice.{pick_yes, pick_no, pick_same, pick_case, both_yes, both_no, both_true}
use Rattle.cbor.specs.Write.{head_len_def, map_of}
use Rattle.cbor.proofs.Laws.{head_size, head_long, form_tiny, form_one, form_two}
use Rattle.smp.proofs.Writing.{head_tiny}
use Rattle.host.specs.Write.{request_packet, echo_map, Told, Outcome, packet, refused, unsendable, sendable, put, write_echo_def, write_reset_def, write_erase_def}
use Rattle.uploads.specs.Upload.{later_map, first_map, odd_length, mis_sized_def, write_first_def, write_upload_def}
use Rattle.sizes.specs.Size.{
  told_of,
  echo_size,
  later_over,
  first_over_def,
  upload_size,
  most_in_def,
  most_past_def,
  most_first_def,
  most_data_def,
  EchoSaid,
  ResetSaid,
  EraseSaid,
  UploadSaid,
}
use Rattle.host.proofs.Writing.{request_length, put_over, put_long, put_whole, sendable_fits, echo_length}
use Rattle.uploads.proofs.Maps.{later_length, first_length_untagged, first_length_tagged, tag_size}

-- the most data in up to 24 bytes: its head is one byte
pub most_tiny : (left : ℕ) → left ≤ 24 → most_in_def left ≡ left - 1
unfolding most_in_def
most_tiny left h = simp (le-leb _ _ h, pick_yes)

-- in up to 257 bytes: its head is two bytes
pub most_small : (left : ℕ) → 24 < left → left ≤ 257 → most_in_def left ≡ left - 2
unfolding most_in_def
most_small left h k = simp (lt-leb _ _ h, le-leb _ _ k, pick_yes, pick_no)

-- in more: its head is three bytes
pub most_large : (left : ℕ) → 257 < left → most_in_def left ≡ left - 3
unfolding most_in_def
most_large left h =
    let k : 24 < left = omega arith in
    simp (lt-leb _ _ k, lt-leb _ _ h, pick_no)

-- it is less than the room
pub most_less : (left : ℕ) → most_in_def left ≤ left
most_less left =
    elim (dec_le left 24) [
      | yes a ↦ omega (arith, most_tiny left a)
      | no a ↦ elim (dec_le left 257) [
        | yes b ↦ omega (arith, most_small left (omega arith) b)
        | no b ↦ omega (arith, most_large left (omega arith))
      ]
    ]

-- data of fewer than 24 bytes has a head of one byte
head_of_tiny : (n : ℕ) → n < 24 → head_len_def n ≡ 1
head_of_tiny n h = omega (arith, head_long 0 n, head_size 0 n, (form_tiny n h).1)

-- of fewer than 256, one of two
head_of_small : (n : ℕ) → 24 ≤ n → n < 256 → head_len_def n ≡ 2
head_of_small n h k = omega (arith, head_long 0 n, head_size 0 n, (form_one n h k).1)

-- of fewer than 65,536, one of three
head_of_large : (n : ℕ) → 256 ≤ n → n < 65536 → head_len_def n ≡ 3
head_of_large n h k = omega (arith, head_long 0 n, head_size 0 n, (form_two n h k).1)

-- data that is no more than the most has room with its head
pub most_room : (left n : ℕ) → left ≤ 65533 → 1 ≤ n → n ≤ most_in_def left → head_len_def n + n ≤ left
most_room left n h one k =
    elim (dec_le left 24) [
      | yes a ↦ let m = most_tiny left a in omega (arith, head_of_tiny n (omega arith))
      | no a ↦ elim (dec_le left 257) [
        | yes b ↦
            let m = most_small left (omega arith) b in
            elim (dec_lt n 24) [
              | yes d ↦ omega (arith, head_of_tiny n d)
              | no d ↦ omega (arith, head_of_small n (omega arith) (omega arith))
            ]
        | no b ↦
            let m = most_large left (omega arith) in
            elim (dec_lt n 24) [
              | yes d ↦ omega (arith, head_of_tiny n d)
              | no d ↦ elim (dec_lt n 256) [
                | yes e ↦ omega (arith, head_of_small n (omega arith) e)
                | no e ↦ omega (arith, head_of_large n (omega arith) (omega arith))
              ]
            ]
      ]
    ]

-- data that has room with its head is no more than the most
pub room_most : (left n : ℕ) → left ≤ 65533 → head_len_def n + n ≤ left → n ≤ most_in_def left
room_most left n h k =
    elim (dec_lt n 24) [
      | yes d ↦
          let e = head_of_tiny n d in
          elim (dec_le left 24) [
            | yes a ↦ omega (arith, most_tiny left a)
            | no a ↦ past (omega arith) (omega arith) (omega arith)
          ]
      | no d ↦ elim (dec_lt n 256) [
        | yes e ↦ let f = head_of_small n (omega arith) e in past (omega arith) (omega arith) e
        | no e ↦ let f = head_of_large n (omega arith) (omega arith) in omega (arith, most_large left (omega arith))
      ]
    ]
  where
    past : 24 < left → n + 2 ≤ left → n < 256 → n ≤ most_in_def left
    past a d e =
        elim (dec_le left 257) [
          | yes b ↦ omega (arith, most_small left (omega arith) b)
          | no b ↦ omega (arith, most_large left (omega arith))
        ]

-- tests that hold together are one
same_test : (a b : Bool) → (a ≡ true → b ≡ true) → (b ≡ true → a ≡ true) → a ≡ b
same_test true b f g = sym (f refl)
same_test false true f g = g refl
same_test false false f g = refl

-- a packet that takes `over` bytes without its data and the data's head can be sent just where its data is no more than the most
over_sendable : (over n room : ℕ) → 1 ≤ n → sendable (over + head_len_def n + n) room ≡ both (leb 1 n) (leb n (most_past_def room over))
unfolding sendable
over_sendable over n room one = same_test _ _ fits sends
  where
    small : min room 65533 - over ≤ 65533
    small = omega arith

    fits : sendable (over + head_len_def n + n) room ≡ true → both (leb 1 n) (leb n (most_past_def room over)) ≡ true
    fits e =
        let t = sendable_fits (over + head_len_def n + n) room e in
        let k : head_len_def n + n ≤ min room 65533 - over = omega arith in
        simp (le-leb 1 n one, le-leb n (most_past_def room over) (room_most _ n small k), both_yes)

    sends : both (leb 1 n) (leb n (most_past_def room over)) ≡ true → sendable (over + head_len_def n + n) room ≡ true
    sends e =
        let t = leb-true n (most_past_def room over) (both_true (leb 1 n) _ e).1 in
        let k = most_room (min room 65533 - over) n small one t in
        let a : over + head_len_def n + n ≤ 65533 = omega arith in
        let b : over + head_len_def n + n ≤ room = omega arith in
        simp (le-leb _ _ a, le-leb _ _ b, both_yes)

-- what is said of a packet by its length
put_told : (p out : List ℕ) → (put p out).says ≡ told_of (length p) (length out)
unfolding sendable
put_told p out =
    elim (dec_lt 65533 (length p)) [
      | yes a ↦ ap (λ (o : Outcome). o.says) (put_over p out a) ∙ sym (simp (lt-leb _ _ a, both_no, pick_no))
      | no a ↦
          let small : length p ≤ 65533 = omega arith in
          elim (dec_lt (length out) (length p)) [
            | yes b ↦ ap (λ (o : Outcome). o.says) (put_long p out small b) ∙ sym (simp (le-leb _ _ small, lt-leb _ _ b, both_yes, pick_no))
            | no b ↦
                let fits : length p ≤ length out = omega arith in
                ap (λ (o : Outcome). o.says) (put_whole p out small fits) ∙ sym (simp (le-leb _ _ small, le-leb _ _ fits, both_yes, pick_yes))
          ]
    ]

-- what is said of a request, by any formula for the length of its map
request_told : (group sequence command : ℕ) (m out : List ℕ) (n : ℕ) → 8 + length m ≡ n
    → (put (request_packet group sequence command m) out).says ≡ told_of n (length out)
request_told group sequence command m out n e =
    put_told (request_packet group sequence command m) out ∙ ap (λ (k : ℕ). told_of k (length out)) (request_length group sequence command m ∙ e)

-- what the echo's writer says
pub echo_said : EchoSaid
unfolding write_echo_def echo_size
echo_said sequence text out =
    request_told 0 sequence 0 (echo_map text) out _ (omega (arith, echo_length text, head_long 0 (length text)))

-- what the reset's writer says
pub reset_said : ResetSaid
unfolding write_reset_def
reset_said sequence out = request_told 0 sequence 5 (map_of 0) out _ (omega (arith, head_tiny 5 0 (lit< tt)))

-- what the erase's writer says
pub erase_said : EraseSaid
unfolding write_erase_def
erase_said sequence out = request_told 1 sequence 5 (map_of 0) out _ (omega (arith, head_tiny 5 0 (lit< tt)))

-- data that is none, or more than the most, is refused
too_much : (n most : ℕ) (a b : Told) → (1 ≤ n → most < n) → b ≡ pick (both (leb 1 n) (leb n most)) a b
too_much n most a b h =
    elim (dec_le 1 n) [
      | yes k ↦
          let l : most < n = h k in
          sym (simp (le-leb _ _ k, lt-leb _ _ l, both_yes, pick_no))
      | no k ↦
          let l : n < 1 = omega arith in
          sym (simp (lt-leb _ _ l, both_no, pick_no))
    ]

-- what is said of an upload that takes `over` bytes without its data and the data's head
upload_told : (sequence : ℕ) (x m : List ℕ) (over : ℕ) (out : List ℕ) → 1 ≤ length x → 8 + length m ≡ over + head_len_def (length x) + length x
    → (put (request_packet 1 sequence 1 m) out).says
    ≡ pick (both (leb 1 (length x)) (leb (length x) (most_past_def (length out) over))) (packet (over + head_len_def (length x) + length x)) (refused 12)
upload_told sequence x m over out one long =
    request_told 1 sequence 1 m out (over + head_len_def (length x) + length x) long
    ∙ ap (λ (t : Bool). pick t (packet (over + head_len_def (length x) + length x)) (refused 12)) (over_sendable over (length x) (length out) one)

-- how long an upload past offset 0 is
later_long : (x : List ℕ) (off : ℕ) → 8 + length (later_map x off) ≡ later_over off + head_len_def (length x) + length x
unfolding later_over
later_long x off = omega (arith, later_length x off, head_long 0 (length x), head_long 0 off)

-- how many bytes an upload at offset 0 takes without its data and the data's head: without a tag
pub over_untagged : (size tagLen : ℕ) → tagLen ≡ 0 → first_over_def size tagLen ≡ 23 + head_len_def size
unfolding first_over_def
over_untagged size tagLen e = simp (eq-eqb tagLen 0 e, pick_yes) (omega arith)

-- with a tag
pub over_tagged : (size tagLen : ℕ) → (tagLen ≡ 0 → ⊥) → first_over_def size tagLen ≡ 61 + head_len_def size
unfolding first_over_def
over_tagged size tagLen e = simp (ne_eqb tagLen 0 e, pick_no) (omega arith)

-- how long an upload at offset 0 is
first_long : (x : List ℕ) (size : ℕ) (tag : List ℕ) → mis_sized_def tag ≡ false
    → 8 + length (first_map x size tag) ≡ first_over_def size (length tag) + head_len_def (length x) + length x
first_long x size tag right =
    elim (dec_le (length tag) 0) [
      | yes a ↦
          let none : length tag ≡ 0 = omega arith in
          omega (arith, over_untagged size (length tag) none, first_length_untagged x size tag none, head_long 0 (length x), head_long 0 size)
      | no a ↦
          let some : length tag ≡ 0 → ⊥ = λ e. omega arith in
          omega (
            arith,
            over_tagged size (length tag) some,
            first_length_tagged x size tag (tag_size tag right some),
            head_long 0 (length x),
            head_long 0 size,
          )
    ]

-- the most data at offset 0: none where the length is 0
pub first_empty : (room size tagLen : ℕ) → eqb size 0 ≡ true → most_first_def room size tagLen ≡ 0
unfolding most_first_def
first_empty room size tagLen e = simp (e, pick_yes)

-- none where the length has more than four bytes
pub first_above : (room size tagLen : ℕ) → ltb 4294967295 size ≡ true → most_first_def room size tagLen ≡ 0
unfolding most_first_def
first_above room size tagLen e = simp (e, pick_yes) (pick_same (eqb size 0) 0)

-- none where the tag is neither absent nor of 32 bytes
pub first_odd : (room size tagLen : ℕ) → odd_length tagLen ≡ true → most_first_def room size tagLen ≡ 0
unfolding most_first_def
first_odd room size tagLen e = simp (e, pick_yes, pick_same)

-- else what has room, and no more than the length
pub first_most : (room size tagLen : ℕ) → eqb size 0 ≡ false → ltb 4294967295 size ≡ false → odd_length tagLen ≡ false
    → most_first_def room size tagLen ≡ min (most_past_def room (first_over_def size tagLen)) size
unfolding most_first_def
first_most room size tagLen e f g = simp (e, f, g, pick_no)

-- never more than the length
first_bound : (room size tagLen : ℕ) → most_first_def room size tagLen ≤ size
unfolding most_first_def
first_bound room size tagLen =
    pick_case (λ (n : ℕ). n ≤ size) (eqb size 0) 0 _ (λ e. omega arith)
    (λ e. pick_case (λ (n : ℕ). n ≤ size) (ltb 4294967295 size) 0 _ (λ f. omega arith)
    (λ f. pick_case (λ (n : ℕ). n ≤ size) (odd_length tagLen) 0 _ (λ g. omega arith) (λ g. omega arith)))

-- data within the length is no more than the lesser just where it is no more than the other
leb_min : (n most size : ℕ) → n ≤ size → leb n (min most size) ≡ leb n most
leb_min n most size h =
    elim (dec_le n most) [
      | yes a ↦ let b : n ≤ min most size = omega arith in le-leb _ _ b ∙ sym (le-leb _ _ a)
      | no a ↦
          let b : min most size < n = omega arith in
          let c : most < n = omega arith in
          lt-leb _ _ b ∙ sym (lt-leb _ _ c)
    ]

-- what is said of an upload at offset 0
first_told : (sequence : ℕ) (x : List ℕ) (size : ℕ) (tag out : List ℕ) → 1 ≤ length x
    → (write_first_def sequence x size tag out).says
    ≡ pick (both (leb 1 (length x)) (leb (length x) (most_first_def (length out) size (length tag))))
    (packet (first_over_def size (length tag) + head_len_def (length x) + length x)) (refused 12)
unfolding write_first_def
first_told sequence x size tag out one =
    pick_case Right (eqb size 0) (unsendable out) _ (λ e. too_much n most done (refused 12) (λ k. omega (arith, first_empty room size t e)))
    (λ e. pick_case Right (ltb 4294967295 size) (unsendable out) _ (λ f. too_much n most done (refused 12) (λ k. omega (arith, first_above room size t f)))
    (λ f. pick_case Right (ltb size (length x)) (unsendable out) _
    (λ g. too_much n most done (refused 12) (λ k. omega (arith, first_bound room size t, ltb-true size n g)))
    (λ g. pick_case Right (mis_sized_def tag) (unsendable out) _ (λ h. too_much n most done (refused 12) (λ k. omega (arith, first_odd room size t h)))
    (λ h. upload_told sequence x (first_map x size tag) (first_over_def size t) out one (first_long x size tag h)
    ∙ ap (λ (b : Bool). pick (both (leb 1 n) b) done (refused 12))
    (sym (leb_min n (most_past_def room (first_over_def size t)) size (ltb-false size n g)) ∙ ap (leb n) (sym (first_most room size t e f h)))))))
  where
    n : ℕ
    n = length x

    t : ℕ
    t = length tag

    room : ℕ
    room = length out

    most : ℕ
    most = most_first_def room size t

    done : Told
    done = packet (first_over_def size t + head_len_def n + n)

    Right : Outcome → Type 0
    Right o = o.says ≡ pick (both (leb 1 n) (leb n most)) done (refused 12)

-- what the upload's writer says
pub upload_said : UploadSaid
unfolding write_upload_def upload_size most_data_def
upload_said sequence x off size tag out =
    pick_case Right (ltb 4294967295 off) (unsendable out) _
    (λ e. too_much (length x) _ _ (refused 12) (λ k. simp (e, pick_yes) k))
    (λ e. pick_case Right (eqb (length x) 0) (unsendable out) _
    (λ f. too_much (length x) _ _ (refused 12) (λ k. absurd (omega (arith, eqb-true (length x) 0 f))))
    (λ f. pick_case Right (eqb off 0) (write_first_def sequence x size tag out) (put (request_packet 1 sequence 1 (later_map x off)) out)
    (λ g. simp (e, g, pick_yes, pick_no) (first_told sequence x size tag out (one f)))
    (λ g. simp (e, g, pick_no) (upload_told sequence x (later_map x off) (later_over off) out (one f) (later_long x off)))))
  where
    one : eqb (length x) 0 ≡ false → 1 ≤ length x
    one f = let some = eqb-false (length x) 0 f in omega arith

    Right : Outcome → Type 0
    Right o = o.says ≡ pick (both (leb 1 (length x)) (leb (length x) (most_data_def (length out) off size (length tag))))
        (packet (upload_size (length x) off size (length tag))) (refused 12)

-- the most data is less than a packet
pub most_bound : (room off size tagLen : ℕ) → most_data_def room off size tagLen ≤ 65533
unfolding most_data_def most_first_def
most_bound room off size tagLen =
    pick_case Small (ltb 4294967295 off) 0 _ (λ e. omega arith)
    (λ e. pick_case Small (eqb off 0) _ (most_past_def room (later_over off))
    (λ f. pick_case Small (eqb size 0) 0 _ (λ g. omega arith)
    (λ g. pick_case Small (ltb 4294967295 size) 0 _ (λ h. omega arith)
    (λ h. pick_case Small (odd_length tagLen) 0 _ (λ i. omega arith) (λ i. omega (arith, past (first_over_def size tagLen))))))
    (λ f. past (later_over off)))
  where
    Small : ℕ → Type 0
    Small n = n ≤ 65533

    past : (over : ℕ) → most_past_def room over ≤ 65533
    past over = omega (arith, most_less (min room 65533 - over))
