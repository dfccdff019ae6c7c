-- No head is shorter than the shortest one of its argument, and so a string that was read starts at least so far after its place.
-- Assumes nothing.
use mathlib.Core.Path.{◌≡◌}
use mathlib.Core.Bool.{not}
use mathlib.Core.List.{List, [], ◌∷◌}
use Prim.Native.Nat.{ℕ, suc, ◌+◌, ◌*◌, ◌-◌, ◌%◌, ◌^◌, ◌≤◌, ◌<◌}
use native.Mathlib.Nat.{add-zero}
use native.Mathlib.Decide.{dec_le}
use native.Mathlib.Omega.{arith}
use lib.Dec.{ltb, eqb, lit<}
use lib.ListN.{length, get_or, take, drop, length-take, length-drop}
use borrow.Author.Tests.{ltb-true, ltb-false}
use Rattle.std.specs.Prelude.{Option, Some, None}
use Rattle.laws.specs.Bytes.{Bytes}
use Rattle.laws.proofs.Choice.{pick_case}
use Rattle.laws.proofs.Lists.{bytes_tail, bytes_take, bytes_drop}
use Rattle.cbor.specs.declared.Value.{Value}
use Rattle.cbor.specs.declared.Head.{Head}
use Rattle.cbor.specs.declared.Item.{Item}
use Rattle.cbor.specs.Read.{be_after, width_of, head_after, head_at_def, string_from_def, value_after_def, item_at}
use Rattle.cbor.specs.Write.{head_len_def}
use Rattle.cbor.specs.Inner.{run_is, HeadLeast, StringLeast, ItemLeast}
use Rattle.cbor.proofs.Numbers.{byte_more}
use Rattle.cbor.proofs.Laws.{width_is, len_tiny, len_one, len_two, len_four, len_most}

-- a number that is read from bytes is below 256 to the power of how many there are
read_small : (s : List ℕ) (n k : ℕ) → Bytes s → n < 256 ^ k → be_after n s < 256 ^ (k + length s)
unfolding be_after
read_small [] n k b h = rw add-zero h
read_small (a ∷ s) n k b h =
    let e : k + suc (length s) ≡ k + 1 + length s = omega arith in
    rw e (read_small s (n * 256 + a) (k + 1) (bytes_tail a s b) (byte_more n a k h (b 0)))

-- so is one from w bytes of a longer list
part_small : (s : List ℕ) (at w : ℕ) → Bytes s → w ≤ length s - at → be_after 0 (take w (drop at s)) < 256 ^ w
part_small s at w b h =
    let e : 0 + length (take w (drop at s)) ≡ w = simp (length-take, length-drop) (omega arith) in
    rw e at (read_small (take w (drop at s)) 0 0 (bytes_take w (drop at s) (bytes_drop at s b)) (lit< tt))

-- an argument that was read from w bytes has a head of at most one more
len_wide : (info n : ℕ) → 24 ≤ info → info ≤ 27 → n < 256 ^ width_of info → head_len_def n ≤ 1 + width_of info
len_wide info n a b h =
    elim (dec_le info 24) [
      | yes c ↦ let e = width_is info 0 (omega arith) in rw e (len_one n (rw e at h))
      | no c ↦ elim (dec_le info 25) [
        | yes d ↦ let e = width_is info 1 (omega arith) in rw e (len_two n (rw e at h))
        | no d ↦ elim (dec_le info 26) [
          | yes f ↦ let e = width_is info 2 (omega arith) in rw e (len_four n (rw e at h))
          | no f ↦ let e = width_is info 3 (omega arith) in rw e (len_most n)
        ]
      ]
    ]

-- a head that was read is no shorter than the shortest
pub head_least : (s : List ℕ) (at : ℕ) → Bytes s → HeadLeast at (head_at_def s at)
unfolding head_at_def head_after
head_least s at b =
    let P : Option Head → Type 0 = HeadLeast at in
    let info : ℕ = get_or s at 0 % 32 in
    pick_case P (ltb at (length s)) _ _
    (λ h. pick_case P (ltb info 24) _ _
    (λ i. omega (arith, len_tiny info (ltb-true info 24 i)))
    (λ i. pick_case P (ltb 27 info) _ _
    (λ j. tt)
    (λ j. pick_case P (ltb (length s - (at + 1)) (width_of info)) _ _
    (λ k. tt)
    (λ k. omega (
      arith,
      len_wide info (be_after 0 (take (width_of info) (drop (at + 1) s))) (ltb-false info 24 i) (ltb-false 27 info j)
          (part_small s (at + 1) (width_of info) b (ltb-false (length s - (at + 1)) (width_of info) k)),
    )))))
    (λ h. tt)

-- a string after such a head
string_least : (s : List ℕ) (from n at : ℕ) (v : Value) → StringLeast from v → ItemLeast from (string_from_def s v n at)
unfolding string_from_def
string_least s from n at v h = pick_case (ItemLeast from) (ltb (length s - at) n) _ _ (λ i. tt) (λ i. h)

-- a value after such a head
value_least : (s : List ℕ) (from : ℕ) (h : Option Head) → HeadLeast from h → ItemLeast from (value_after_def s h)
unfolding value_after_def
value_least s from None w = tt
value_least s from (Some h) w =
    let P : Option Item → Type 0 = ItemLeast from in
    pick_case P (eqb h.major 0) _ _ (λ i. tt)
    (λ i. pick_case P (eqb h.major 1) _ _ (λ j. tt)
    (λ j. pick_case P (eqb h.major 2) _ _ (λ k. string_least s from h.argument h.next (Value.Bytes (run_is h.next h.argument)) w)
    (λ k. pick_case P (eqb h.major 3) _ _ (λ l. string_least s from h.argument h.next (Value.Text (run_is h.next h.argument)) w) (λ l. tt))))

-- a string that was read stands behind a head no shorter than the shortest
pub item_least : (s : List ℕ) (at : ℕ) → Bytes s → ItemLeast at (item_at s at)
unfolding item_at
item_least s at b =
    let P : Option Item → Type 0 = ItemLeast at in
    pick_case P (not (ltb at (length s))) _ _ (λ h. tt)
    (λ h. pick_case P (eqb (get_or s at 0) 0xF4) _ _ (λ i. tt)
    (λ i. pick_case P (eqb (get_or s at 0) 0xF5) _ _ (λ j. tt)
    (λ j. pick_case P (eqb (get_or s at 0) 0xF6) _ _ (λ k. tt) (λ k. value_least s at (head_at_def s at) (head_least s at b)))))
