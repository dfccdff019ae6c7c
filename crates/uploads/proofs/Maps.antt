-- The maps of uploads: each in the parts that its writer writes, how long each is, and how long a tag can be.
-- Assumes nothing.
use mathlib.Core.Path.{◌≡◌, sym, ap, ◌∙◌}
use mathlib.Core.Bool.{false, false≢true}
use mathlib.Core.List.{List, ◌++◌, append_assoc}
use Prim.Native.Nat.{ℕ, suc, ◌+◌, ◌<◌}
use native.Mathlib.Decide.{dec_le}
use native.Mathlib.Omega.{arith}
use lib.Dec.{eqb, lit<}
use borrow.Author.Tests.{eq-eqb, ne_eqb}
use lib.ListN.{length, length-append}
use Rattle.laws.proofs.Choice.{pick_yes, pick_no, both_yes}
use Rattle.cbor.specs.Write.{head_of, unsigned, bytes_of, text_of, map_of}
use Rattle.cbor.proofs.Laws.{head_size, head_length, form_one}
use Rattle.fields.specs.Keys.{name_data, name_len, name_off, name_sha}
use Rattle.smp.proofs.Writing.{head_tiny}
use Rattle.uploads.specs.Upload.{later_map, first_map, odd_length, mis_sized_def}
use Rattle.uploads.specs.Inner.{first_pairs}

-- a tag that is said to be there is not of no bytes
pub tag_there : (tag : List ℕ) → eqb (length tag) 0 ≡ false → length tag ≡ 0 → ⊥
tag_there tag e z = false≢true (sym e ∙ eq-eqb (length tag) 0 z)

-- an argument from 24 to 255 has a head of two bytes
head_small : (m n : ℕ) → 23 < n → n < 256 → length (head_of m n) ≡ 2
head_small m n h k = head_size m n ∙ ap suc (form_one n (omega arith) k).1

-- the map of an upload past offset 0 in the parts that its writer writes
pub later_parts : (x : List ℕ) (off : ℕ) → later_map x off ≡ map_of 2 ++ ((text_of name_data ++ bytes_of x) ++ (text_of name_off ++ unsigned off))
unfolding later_map
later_parts x off = ap (λ (l : List ℕ). map_of 2 ++ l) (sym (append_assoc (text_of name_data) (bytes_of x) (text_of name_off ++ unsigned off)))

-- the pairs of an upload at offset 0, one by one, before what follows them
pairs_flat : (x : List ℕ) (size : ℕ) (post : List ℕ) → text_of name_data ++
    (bytes_of x ++ (text_of name_len ++ (unsigned size ++ (text_of name_off ++ (unsigned 0 ++ post))))) ≡ first_pairs x size ++ post
pairs_flat x size post = simp append_assoc

-- the same pairs at the end of the map
pairs_last : (x : List ℕ) (size : ℕ) → text_of name_data ++ (bytes_of x ++ (text_of name_len ++ (unsigned size ++ (text_of name_off ++ unsigned 0))))
    ≡ first_pairs x size
pairs_last x size = simp append_assoc

-- the map at offset 0 without a tag, in the parts that its writer writes
pub first_untagged : (x : List ℕ) (size : ℕ) (tag : List ℕ) → length tag ≡ 0 → first_map x size tag ≡ map_of 3 ++ first_pairs x size
unfolding first_map
first_untagged x size tag e = rw (eq-eqb (length tag) 0 e, pick_yes) (ap (λ (l : List ℕ). map_of 3 ++ l) (pairs_last x size))

-- so the one with a tag
pub first_tagged : (x : List ℕ) (size : ℕ) (tag : List ℕ) → (length tag ≡ 0 → ⊥) → first_map x size tag ≡ map_of 4 ++ (first_pairs x size ++
    (text_of name_sha ++ bytes_of tag))
unfolding first_map
first_tagged x size tag e =
    rw (ne_eqb (length tag) 0 e, pick_no)
    (ap (λ (l : List ℕ). map_of 4 ++ l) (pairs_flat x size (text_of name_sha ++ bytes_of tag)))

-- how long the map of an upload past offset 0 is
pub later_length : (x : List ℕ) (off : ℕ) → length (later_map x off) ≡ 10 + length (head_of 0 (length x)) + length x + length (head_of 0 off)
unfolding later_map
later_length x off = simp length-append (omega (arith, head_tiny 5 2 (lit< tt), head_tiny 3 4 (lit< tt), head_tiny 3 3 (lit< tt), head_length 2 (length x)))

-- how long the pairs are that every upload at offset 0 has
pairs_length : (x : List ℕ) (size : ℕ) → length (first_pairs x size) ≡ 14 + length (head_of 0 (length x)) + length x + length (head_of 0 size)
pairs_length x size = simp length-append (omega (arith, head_tiny 3 4 (lit< tt), head_tiny 3 3 (lit< tt), head_tiny 0 0 (lit< tt), head_length 2 (length x)))

-- how long the map at offset 0 is without a tag
pub first_length_untagged : (x : List ℕ) (size : ℕ) (tag : List ℕ) → length tag ≡ 0 → length (first_map x size tag)
    ≡ 15 + length (head_of 0 (length x)) + length x + length (head_of 0 size)
first_length_untagged x size tag e =
    ap length (first_untagged x size tag e) ∙ length-append (map_of 3) (first_pairs x size) ∙ omega (arith, head_tiny 5 3 (lit< tt), pairs_length x size)

-- how long it is with a tag
pub first_length_tagged : (x : List ℕ) (size : ℕ) (tag : List ℕ) → length tag ≡ 32 → length (first_map x size tag)
    ≡ 53 + length (head_of 0 (length x)) + length x + length (head_of 0 size)
first_length_tagged x size tag e =
    let apart : length tag ≡ 0 → ⊥ = λ z. omega arith in
    ap length (first_tagged x size tag apart) ∙ sizes
  where
    tag-length : length (text_of name_sha ++ bytes_of tag) ≡ 38
    tag-length = simp (length-append, e) (omega (arith, head_tiny 3 3 (lit< tt), head_small 2 32 (lit< tt) (lit< tt)))

    sizes : length (map_of 4 ++ (first_pairs x size ++ (text_of name_sha ++ bytes_of tag))) ≡ 53 + length (head_of 0 (length x)) + length x + length (head_of 0 size)
    sizes =
        length-append (map_of 4) (first_pairs x size ++ (text_of name_sha ++ bytes_of tag))
        ∙ ap (λ (n : ℕ). length (map_of 4) + n) (length-append (first_pairs x size) (text_of name_sha ++ bytes_of tag))
        ∙ omega (arith, head_tiny 5 4 (lit< tt), pairs_length x size, tag-length)

-- a tag of the right size that is not absent is of 32 bytes
pub tag_size : (tag : List ℕ) → mis_sized_def tag ≡ false → (length tag ≡ 0 → ⊥) → length tag ≡ 32
unfolding odd_length
tag_size tag e apart =
    elim (dec_le (length tag) 31) [
      | yes a ↦
          let other : length tag ≡ 32 → ⊥ = λ z. omega arith in
          absurd (false≢true (sym e ∙ simp (ne_eqb (length tag) 0 apart, ne_eqb (length tag) 32 other, both_yes)))
      | no a ↦ elim (dec_le (length tag) 32) [
        | yes b ↦ omega arith
        | no b ↦
            let other : length tag ≡ 32 → ⊥ = λ z. omega arith in
            absurd (false≢true (sym e ∙ simp (ne_eqb (length tag) 0 apart, ne_eqb (length tag) 32 other, both_yes)))
      ]
    ]
