-- Heads and items: the definitions at each way of their tests, what is written is read back, and the bounds of what is read.
-- Assumes nothing.
use mathlib.Core.Path.{◌≡◌, refl, sym, ap, ap₂, ◌∙◌}
use mathlib.Core.Bool.{Bool, true, false, not}
use mathlib.Core.List.{List, [], ◌∷◌, ◌++◌, append_assoc}
use Prim.Native.Nat.{ℕ, suc, ◌+◌, ◌-◌, ◌*◌, ◌/◌, ◌%◌, ◌^◌, ◌≤◌, ◌<◌}
use native.Mathlib.Decide.{dec_lt}
use native.Mathlib.Omega.{arith}
use lib.Dec.{ltb, eqb, lit<}
use lib.ListN.{length, get_or, take, drop, length-append}
use lib.Seq.{get_or-append_seam, take-append_seam, drop_at}
use borrow.Author.Tests.{le-ltb, lt-ltb, ne_eqb, ltb-true, ltb-false, not-false}
use Rattle.std.specs.Prelude.{Option, Some, None}
use Rattle.laws.specs.Choice.{pick}
use Rattle.laws.proofs.Choice.{pick_yes, pick_no, pick_case}
use Rattle.cbor.specs.declared.Value.{Value}
use Rattle.cbor.specs.declared.Value.TheVariants.{Unsigned}
use Rattle.cbor.specs.declared.Head.{Head}
use Rattle.cbor.specs.declared.Item.{Item}
use Rattle.cbor.specs.Read.{be_after, width_of, head_after, head_at_def, string_from_def, value_after_def, item_at}
use Rattle.cbor.specs.Write.{be_bytes, head_of, head_len_def, HeadLong, bytes_of, text_of}
use Rattle.cbor.specs.Inner.{head_is, item_is, run_is, Inside, HeadWithin, ItemWithin}
use Rattle.cbor.proofs.Numbers.{bytes_length, number_back}

-- an initial byte of 24 and k more says a width of 2 to the k
pub width_is : (info k : ℕ) → info ≡ 24 + k → width_of info ≡ 2 ^ k
unfolding width_of
width_is info k h = ap (λ (x : ℕ). 2 ^ x) (drop-24 info k h)
  where
    drop-24 : (info k : ℕ) → info ≡ 24 + k → info - 24 ≡ k
    drop-24 info k h = omega arith

-- within the bytes a head goes by its initial byte
pub head_there : (s : List ℕ) (at : ℕ) → at < length s → head_at_def s at ≡ head_after s (get_or s at 0) (at + 1)
unfolding head_at_def
head_there s at h = simp (lt-ltb _ _ h, pick_yes)

-- a head whose argument is in the initial byte
pub head_small : (s : List ℕ) (b at : ℕ) → b % 32 < 24 → head_after s b at ≡ head_is (b / 32) (b % 32) at
unfolding head_after
head_small s b at h = simp (lt-ltb _ _ h, pick_yes)

-- a head whose argument is there
pub head_whole : (s : List ℕ) (b at : ℕ) → 24 ≤ b % 32 → b % 32 ≤ 27 → width_of (b % 32) ≤ length s - at → head_after s b at
    ≡ head_is (b / 32) (be_after 0 (take (width_of (b % 32)) (drop at s))) (at + width_of (b % 32))
unfolding head_after
head_whole s b at h k l = simp (le-ltb _ _ h, le-ltb _ _ k, le-ltb _ _ l, pick_no)

-- a string that is there
pub string_whole : (s : List ℕ) (v : Value) (n at : ℕ) → n ≤ length s - at → string_from_def s v n at ≡ item_is v (at + n)
unfolding string_from_def
string_whole s v n at h = simp (le-ltb _ _ h, pick_no)

-- major type 0 is an unsigned number
pub value_unsigned : (s : List ℕ) (n at : ℕ) → value_after_def s (head_is 0 n at) ≡ item_is (Unsigned n) at
unfolding value_after_def pick
value_unsigned s n at = refl

-- major type 2 is a string of bytes
pub value_bytes : (s : List ℕ) (n at : ℕ) → value_after_def s (head_is 2 n at) ≡ string_from_def s (Value.Bytes (run_is at n)) n at
unfolding value_after_def pick
value_bytes s n at = refl

-- major type 3 is a text
pub value_text : (s : List ℕ) (n at : ℕ) → value_after_def s (head_is 3 n at) ≡ string_from_def s (Value.Text (run_is at n)) n at
unfolding value_after_def pick
value_text s n at = refl

-- any other item goes by its head
pub item_head : (s : List ℕ) (at : ℕ) → at < length s → (get_or s at 0 ≡ 0xF4 → ⊥) → (get_or s at 0 ≡ 0xF5 → ⊥) → (get_or s at 0 ≡ 0xF6 → ⊥)
    → item_at s at ≡ value_after_def s (head_at_def s at)
unfolding item_at
item_head s at h a b c = simp (lt-ltb _ _ h, ne_eqb _ _ a, ne_eqb _ _ b, ne_eqb _ _ c, pick_no)

-- the five low bits of a shortest head's initial byte
unfoldable pub info_of : ℕ → ℕ
info_of n = pick (ltb n 24) n (pick (ltb n 256) 24 (pick (ltb n 65536) 25 (pick (ltb n 4294967296) 26 27)))

-- how many bytes follow a shortest head's initial byte
unfoldable pub size_of : ℕ → ℕ
size_of n = pick (ltb n 24) 0 (pick (ltb n 256) 1 (pick (ltb n 65536) 2 (pick (ltb n 4294967296) 4 8)))

-- a shortest head is its initial byte and its argument in so many bytes
pub head_form : (m n : ℕ) → head_of m n ≡ (m * 32 + info_of n) ∷ be_bytes (size_of n) n
unfolding head_of info_of size_of pick be_bytes
head_form m n = ways (ltb n 24) (ltb n 256) (ltb n 65536) (ltb n 4294967296) m n
  where
    ways : (t u v w : Bool) (m n : ℕ) → pick t ((m * 32 + n) ∷ []) (pick u ((m * 32 + 24) ∷ be_bytes 1 n)
        (pick v ((m * 32 + 25) ∷ be_bytes 2 n) (pick w ((m * 32 + 26) ∷ be_bytes 4 n) ((m * 32 + 27) ∷ be_bytes 8 n))))
        ≡ (m * 32 + pick t n (pick u 24 (pick v 25 (pick w 26 27)))) ∷ be_bytes (pick t 0 (pick u 1 (pick v 2 (pick w 4 8)))) n
    ways true u v w m n = refl
    ways false true v w m n = refl
    ways false false true w m n = refl
    ways false false false true m n = refl
    ways false false false false m n = refl

-- a shortest head's length
pub head_size : (m n : ℕ) → length (head_of m n) ≡ suc (size_of n)
head_size m n = ap length (head_form m n) ∙ ap suc (bytes_length (size_of n) n)

-- no major type changes it
pub head_length : (m n : ℕ) → length (head_of m n) ≡ length (head_of 0 n)
head_length m n = head_size m n ∙ sym (head_size 0 n)

-- it is the one that the arguments' ranges give
pub head_long : HeadLong
unfolding head_len_def size_of pick
head_long m n = head_size m n ∙ ways (ltb n 24) (ltb n 256) (ltb n 65536) (ltb n 4294967296)
  where
    ways : (t u v w : Bool) → suc (pick t 0 (pick u 1 (pick v 2 (pick w 4 8)))) ≡ pick t 1 (pick u 2 (pick v 3 (pick w 5 9)))
    ways true u v w = refl
    ways false true v w = refl
    ways false false true w = refl
    ways false false false true = refl
    ways false false false false = refl

-- the shortest head of an argument below 24 is one byte
pub len_tiny : (n : ℕ) → n < 24 → head_len_def n ≤ 1
unfolding head_len_def
len_tiny n h =
    pick_case (λ (k : ℕ). k ≤ 1) (ltb n 24) _ _ (λ e. omega arith) (λ e. absurd (omega (arith, ltb-false n 24 e)))

-- that of an argument in one byte at most two
pub len_one : (n : ℕ) → n < 256 → head_len_def n ≤ 2
unfolding head_len_def
len_one n h =
    pick_case (λ (k : ℕ). k ≤ 2) (ltb n 24) _ _ (λ e. omega arith)
    (λ e. pick_case (λ (k : ℕ). k ≤ 2) (ltb n 256) _ _ (λ f. omega arith) (λ f. absurd (omega (arith, ltb-false n 256 f))))

-- in two bytes at most three
pub len_two : (n : ℕ) → n < 65536 → head_len_def n ≤ 3
unfolding head_len_def
len_two n h =
    pick_case (λ (k : ℕ). k ≤ 3) (ltb n 24) _ _ (λ e. omega arith)
    (λ e. pick_case (λ (k : ℕ). k ≤ 3) (ltb n 256) _ _ (λ f. omega arith)
    (λ f. pick_case (λ (k : ℕ). k ≤ 3) (ltb n 65536) _ _ (λ g. omega arith) (λ g. absurd (omega (arith, ltb-false n 65536 g)))))

-- in four bytes at most five
pub len_four : (n : ℕ) → n < 4294967296 → head_len_def n ≤ 5
unfolding head_len_def
len_four n h =
    pick_case (λ (k : ℕ). k ≤ 5) (ltb n 24) _ _ (λ e. omega arith)
    (λ e. pick_case (λ (k : ℕ). k ≤ 5) (ltb n 256) _ _ (λ f. omega arith)
    (λ f. pick_case (λ (k : ℕ). k ≤ 5) (ltb n 65536) _ _ (λ g. omega arith)
    (λ g. pick_case (λ (k : ℕ). k ≤ 5) (ltb n 4294967296) _ _ (λ i. omega arith) (λ i. absurd (omega (arith, ltb-false n 4294967296 i))))))

-- and never more than nine
pub len_most : (n : ℕ) → head_len_def n ≤ 9
unfolding head_len_def
len_most n =
    pick_case (λ (k : ℕ). k ≤ 9) (ltb n 24) _ _ (λ e. omega arith)
    (λ e. pick_case (λ (k : ℕ). k ≤ 9) (ltb n 256) _ _ (λ f. omega arith)
    (λ f. pick_case (λ (k : ℕ). k ≤ 9) (ltb n 65536) _ _ (λ g. omega arith)
    (λ g. pick_case (λ (k : ℕ). k ≤ 9) (ltb n 4294967296) _ _ (λ h. omega arith) (λ h. omega arith))))

-- an argument below 24
pub form_tiny : (n : ℕ) → n < 24 → (info_of n ≡ n) × (size_of n ≡ 0)
unfolding info_of size_of
form_tiny n h = (simp (lt-ltb _ _ h, pick_yes), simp (lt-ltb _ _ h, pick_yes))

-- an argument in one byte
pub form_one : (n : ℕ) → 24 ≤ n → n < 256 → (info_of n ≡ 24) × (size_of n ≡ 1)
unfolding info_of size_of
form_one n h k = (simp (le-ltb _ _ h, lt-ltb _ _ k, pick_yes, pick_no), simp (le-ltb _ _ h, lt-ltb _ _ k, pick_yes, pick_no))

-- an argument in two bytes
pub form_two : (n : ℕ) → 256 ≤ n → n < 65536 → (info_of n ≡ 25) × (size_of n ≡ 2)
unfolding info_of size_of
form_two n h k =
    let a : 24 ≤ n = omega arith in
    (simp (le-ltb _ _ a, le-ltb _ _ h, lt-ltb _ _ k, pick_yes, pick_no), simp (le-ltb _ _ a, le-ltb _ _ h, lt-ltb _ _ k, pick_yes, pick_no))

-- an argument in four bytes
pub form_four : (n : ℕ) → 65536 ≤ n → n < 4294967296 → (info_of n ≡ 26) × (size_of n ≡ 4)
unfolding info_of size_of
form_four n h k =
    let a : 24 ≤ n = omega arith in
    let b : 256 ≤ n = omega arith in (
      simp (le-ltb _ _ a, le-ltb _ _ b, le-ltb _ _ h, lt-ltb _ _ k, pick_yes, pick_no),
      simp
          (le-ltb _ _ a, le-ltb _ _ b, le-ltb _ _ h, lt-ltb _ _ k, pick_yes, pick_no),
    )

-- an argument in eight bytes
pub form_eight : (n : ℕ) → 4294967296 ≤ n → (info_of n ≡ 27) × (size_of n ≡ 8)
unfolding info_of size_of
form_eight n h =
    let a : 24 ≤ n = omega arith in
    let b : 256 ≤ n = omega arith in
    let c : 65536 ≤ n = omega arith in
    (simp (le-ltb _ _ a, le-ltb _ _ b, le-ltb _ _ c, le-ltb _ _ h, pick_no), simp (le-ltb _ _ a, le-ltb _ _ b, le-ltb _ _ c, le-ltb _ _ h, pick_no))

-- what a form leaves of the head
pub head_as : (m n info w : ℕ) → (info_of n ≡ info) × (size_of n ≡ w) → head_of m n ≡ (m * 32 + info) ∷ be_bytes w n
head_as m n info w e = head_form m n ∙ ap₂ (λ (i k : ℕ). (m * 32 + i) ∷ be_bytes k n) e.0 e.1

-- the forms at once: an argument below 24 stands in the initial byte, and another is in one, two, four or eight bytes that it fits
data Form : ℕ → Type 0 where
  tiny : {n : ℕ} → n < 24 → (info_of n ≡ n) × (size_of n ≡ 0) → Form n
  wide : {n : ℕ} (k : ℕ) → k < 4 → n < 256 ^ (2 ^ k) → (info_of n ≡ 24 + k) × (size_of n ≡ 2 ^ k) → Form n

-- every argument has one of the forms
form : (n : ℕ) → n < 2 ^ 64 → Form n
form n h =
    elim (dec_lt n 24) [
      | yes a ↦ tiny a (form_tiny n a)
      | no a ↦ elim (dec_lt n 256) [
        | yes b ↦ wide 0 (lit< tt) (fits_one n b) (form_one n (omega arith) b)
        | no b ↦ elim (dec_lt n 65536) [
          | yes d ↦ wide 1 (lit< tt) (fits-two n d) (form_two n (omega arith) d)
          | no d ↦ elim (dec_lt n 4294967296) [
            | yes e ↦ wide 2 (lit< tt) (fits-four n e) (form_four n (omega arith) e)
            | no e ↦ wide 3 (lit< tt) (fits-eight n h) (form_eight n (omega arith))
          ]
        ]
      ]
    ]
  where
    fits_one : (n : ℕ) → n < 256 → n < 256 ^ (2 ^ 0)
    fits_one n h = h

    fits-two : (n : ℕ) → n < 65536 → n < 256 ^ (2 ^ 1)
    fits-two n h = h

    fits-four : (n : ℕ) → n < 4294967296 → n < 256 ^ (2 ^ 2)
    fits-four n h = h

    fits-eight : (n : ℕ) → n < 2 ^ 64 → n < 256 ^ (2 ^ 3)
    fits-eight n h = h

-- the initial byte of a shortest head
info_most : (n : ℕ) → Form n → info_of n ≤ 27
info_most n (tiny a e) = omega (arith, e.0)
info_most n (wide k a fits e) = omega (arith, e.0)

-- the head that an initial byte after pre begins
byte_there : (pre rest : List ℕ) (b : ℕ) → head_at_def (pre ++ (b ∷ rest)) (length pre) ≡ head_after (pre ++ (b ∷ rest)) b (length pre + 1)
byte_there pre rest b =
    head_there (pre ++ (b ∷ rest)) (length pre) (simp length-append (omega arith))
    ∙ ap (λ (x : ℕ). head_after (pre ++ (b ∷ rest)) x (length pre + 1)) (get_or-append_seam pre b rest 0)

-- an argument in the initial byte is read back
tiny_back : (s : List ℕ) (m n at : ℕ) → n < 24 → head_after s (m * 32 + n) at ≡ head_is m n at
tiny_back s m n at h =
    let low : (m * 32 + n) % 32 ≡ n = omega arith in
    let high : (m * 32 + n) / 32 ≡ m = omega arith in
    head_small s (m * 32 + n) at (omega arith) ∙ ap₂ (λ (x y : ℕ). head_is x y at) high low

-- an argument in the bytes x after the initial byte is read back
wide_back : (front x post : List ℕ) (m k : ℕ) → k < 4 → length x ≡ 2 ^ k → head_after (front ++ (x ++ post)) (m * 32 + (24 + k)) (length front)
    ≡ head_is m (be_after 0 x) (length front + length x)
wide_back front x post m k h e =
    let b : ℕ = m * 32 + (24 + k) in
    let s : List ℕ = front ++ (x ++ post) in
    let low : b % 32 ≡ 24 + k = omega arith in
    let high : b / 32 ≡ m = omega arith in
    let width : width_of (b % 32) ≡ length x = width_is (b % 32) k low ∙ sym e in
    let all : length s ≡ length front + (length x + length post) = simp length-append in
    let taken : take (length x) (drop (length front) s) ≡ x = rw (drop_at front (x ++ post) (length front) refl) (take-append_seam x post) in
    head_whole s b (length front) (omega arith) (omega arith) (omega arith)
    ∙ ap₂ (λ (p w : ℕ). head_is p (be_after 0 (take w (drop (length front) s))) (length front + w)) high width
    ∙ ap (λ (l : List ℕ). head_is m (be_after 0 l) (length front + length x)) taken

-- an initial byte and the bytes x after it are read back
wide_head : (pre x post : List ℕ) (m k : ℕ) → k < 4 → length x ≡ 2 ^ k → head_at_def (pre ++ (((m * 32 + (24 + k)) ∷ x) ++ post)) (length pre)
    ≡ head_is m (be_after 0 x) (length pre + suc (length x))
wide_head pre x post m k h e =
    let b : ℕ = m * 32 + (24 + k) in
    let front : List ℕ = pre ++ (b ∷ []) in
    let size : length front ≡ length pre + 1 = simp length-append in
    let parts : front ++ (x ++ post) ≡ pre ++ (b ∷ (x ++ post)) = append_assoc pre (b ∷ []) (x ++ post) in
    let end : length front + length x ≡ length pre + suc (length x) = omega arith in
    byte_there pre (x ++ post) b
    ∙ ap₂ (λ (l : List ℕ) (n : ℕ). head_after l b n) (sym parts) (sym size)
    ∙ wide_back front x post m k h e
    ∙ ap (λ (n : ℕ). head_is m (be_after 0 x) n) end

-- a shortest head of each form is read back
by_form : (pre post : List ℕ) (m n : ℕ) → Form n → head_at_def (pre ++ (head_of m n ++ post)) (length pre) ≡ head_is m n (length pre + length (head_of m n))
unfolding be_bytes
by_form pre post m n (tiny a e) = rw (head_as m n n 0 e) (byte_there pre post (m * 32 + n) ∙ tiny_back (pre ++ ((m * 32 + n) ∷ post)) m n (length pre + 1) a)
by_form pre post m n (wide k a fits e) =
    rw (head_as m n (24 + k) (2 ^ k) e)
    (wide_head pre (be_bytes (2 ^ k) n) post m k a (bytes_length (2 ^ k) n)
    ∙ ap (λ (x : ℕ). head_is m x (length pre + suc (length (be_bytes (2 ^ k) n)))) (number_back (2 ^ k) n fits))

-- what is written is read back: the shortest head
pub head_back : (pre post : List ℕ) (m n : ℕ) → m < 8 → n < 2 ^ 64 → head_at_def (pre ++ (head_of m n ++ post)) (length pre)
    ≡ head_is m n (length pre + length (head_of m n))
head_back pre post m n h k = by_form pre post m n (form n k)

-- an item whose head was written with a major type below 4 goes by that head
item_by_head : (pre post : List ℕ) (m n : ℕ) → m < 4 → n < 2 ^ 64 → item_at (pre ++ (head_of m n ++ post)) (length pre)
    ≡ value_after_def (pre ++ (head_of m n ++ post)) (head_is m n (length pre + length (head_of m n)))
item_by_head pre post m n h k =
    let s : List ℕ = pre ++ (head_of m n ++ post) in
    let most : info_of n ≤ 27 = info_most n (form n k) in
    let first : get_or s (length pre) 0 ≡ m * 32 + info_of n =
    rw (head_form m n) (get_or-append_seam pre (m * 32 + info_of n) (be_bytes (size_of n) n ++ post) 0) in
    let there : length pre < length s = simp (length-append, head_size) (omega arith) in
    item_head s (length pre) there (omega arith) (omega arith) (omega arith)
    ∙ ap (λ (x : Option Head). value_after_def s x) (head_back pre post m n (omega arith) k)

-- what is written is read back: an unsigned number
pub unsigned_back : (pre post : List ℕ) (n : ℕ) → n < 2 ^ 64 → item_at (pre ++ (head_of 0 n ++ post)) (length pre)
    ≡ item_is (Unsigned n) (length pre + length (head_of 0 n))
unsigned_back pre post n h = item_by_head pre post 0 n (lit< tt) h ∙ value_unsigned (pre ++ (head_of 0 n ++ post)) n (length pre + length (head_of 0 n))

-- a string under its head is read back as the value that the head says
string_back : (pre x post : List ℕ) (m : ℕ) (v : Value) → m < 4 → length x < 2 ^ 64 → value_after_def (pre ++ (head_of m (length x) ++ (x ++ post)))
    (head_is m (length x) (length pre + length (head_of m (length x)))) ≡ string_from_def (pre ++ (head_of m (length x) ++ (x ++ post))) v (length x)
    (length pre + length (head_of m (length x))) → item_at (pre ++ ((head_of m (length x) ++ x) ++ post)) (length pre)
    ≡ item_is v (length pre + length (head_of m (length x) ++ x))
string_back pre x post m v h k e =
    let head : List ℕ = head_of m (length x) in
    let s : List ℕ = pre ++ (head ++ (x ++ post)) in
    let all : length s ≡ length pre + (length head + (length x + length post)) = simp length-append in
    let end : length pre + length head + length x ≡ length pre + length (head ++ x) = rw length-append (omega arith) in
    ap (λ (l : List ℕ). item_at (pre ++ l) (length pre)) (append_assoc head x post)
    ∙ item_by_head pre (x ++ post) m (length x) h k
    ∙ e
    ∙ string_whole s v (length x) (length pre + length head) (omega arith)
    ∙ ap (λ (n : ℕ). item_is v n) end

-- what is written is read back: a string of bytes
pub bytes_back : (pre x post : List ℕ) → length x < 2 ^ 64 → item_at (pre ++ (bytes_of x ++ post)) (length pre)
    ≡ item_is (Value.Bytes (run_is (length pre + length (head_of 2 (length x))) (length x))) (length pre + length (bytes_of x))
bytes_back pre x post h =
    string_back pre x post 2 (Value.Bytes (run_is (length pre + length (head_of 2 (length x))) (length x))) (lit< tt) h
    (value_bytes (pre ++ (head_of 2 (length x) ++ (x ++ post))) (length x) (length pre + length (head_of 2 (length x))))

-- what is written is read back: a text
pub text_back : (pre x post : List ℕ) → length x < 2 ^ 64 → item_at (pre ++ (text_of x ++ post)) (length pre)
    ≡ item_is (Value.Text (run_is (length pre + length (head_of 3 (length x))) (length x))) (length pre + length (text_of x))
text_back pre x post h =
    string_back pre x post 3 (Value.Text (run_is (length pre + length (head_of 3 (length x))) (length x))) (lit< tt) h
    (value_text (pre ++ (head_of 3 (length x) ++ (x ++ post))) (length x) (length pre + length (head_of 3 (length x))))

-- a head at a place ends after it and within the bytes
pub head_within : (s : List ℕ) (at : ℕ) → HeadWithin s at (head_at_def s at)
unfolding head_at_def head_after
head_within s at =
    let P : Option Head → Type 0 = λ h. HeadWithin s at h in
    let b : ℕ = get_or s at 0 in
    pick_case P (ltb at (length s)) _ _
    (λ h. pick_case P (ltb (b % 32) 24) _ _
    (λ i. (omega arith, omega (arith, ltb-true at (length s) h)))
    (λ i. pick_case P (ltb 27 (b % 32)) _ _
    (λ j. tt)
    (λ j. pick_case P (ltb (length s - (at + 1)) (width_of (b % 32))) _ _
    (λ k. tt)
    (λ k. (omega arith, omega (arith, ltb-true at (length s) h, ltb-false (length s - (at + 1)) (width_of (b % 32)) k))))))
    (λ h. tt)

-- so does a head that was read
pub head_place : (s : List ℕ) (at : ℕ) (h : Head) → head_at_def s at ≡ Some h → (at < h.next) × (h.next ≤ length s)
head_place s at h e = rw e at (head_within s at)

-- a string that was read lies within the bytes
string_within : (s : List ℕ) (from at n : ℕ) (v : Value) → from < at → at ≤ length s → (n ≤ length s - at → Inside s v)
    → ItemWithin s from (string_from_def s v n at)
unfolding string_from_def
string_within s from at n v h k inside =
    pick_case (λ i. ItemWithin s from i) (ltb (length s - at) n) _ _
    (λ i. tt)
    (λ i. (omega arith, omega (arith, ltb-false (length s - at) n i), inside (ltb-false (length s - at) n i)))

-- a value after a head within the bytes is within them
value_within : (s : List ℕ) (from : ℕ) (h : Option Head) → HeadWithin s from h → ItemWithin s from (value_after_def s h)
unfolding value_after_def
value_within s from None w = tt
value_within s from (Some h) w =
    let n : ℕ = h.argument in
    let at : ℕ = h.next in
    let P : Option Item → Type 0 = λ i. ItemWithin s from i in
    let later : from < at = w.0 in
    let fits : at ≤ length s = w.1 in
    pick_case P (eqb h.major 0) _ _
    (λ i. (later, fits, tt))
    (λ i. pick_case P (eqb h.major 1) _ _
    (λ j. (later, fits, tt))
    (λ j. pick_case P (eqb h.major 2) _ _
    (λ k. string_within s from at n (Value.Bytes (run_is at n)) later fits (λ l. omega arith))
    (λ k. pick_case P (eqb h.major 3) _ _
    (λ l. string_within s from at n (Value.Text (run_is at n)) later fits (λ l. omega arith))
    (λ l. tt))))

-- an item at a place ends after it and within the bytes, and so does its string
pub item_within : (s : List ℕ) (at : ℕ) → ItemWithin s at (item_at s at)
unfolding item_at
item_within s at =
    let P : Option Item → Type 0 = λ i. ItemWithin s at i in
    let b : ℕ = get_or s at 0 in
    pick_case P (not (ltb at (length s))) _ _
    (λ h. tt)
    (λ h. pick_case P (eqb b 0xF4) _ _
    (λ i. (omega arith, omega (arith, ltb-true at (length s) (not-false (ltb at (length s)) h)), tt))
    (λ i. pick_case P (eqb b 0xF5) _ _
    (λ j. (omega arith, omega (arith, ltb-true at (length s) (not-false (ltb at (length s)) h)), tt))
    (λ j. pick_case P (eqb b 0xF6) _ _
    (λ k. (omega arith, omega (arith, ltb-true at (length s) (not-false (ltb at (length s)) h)), tt))
    (λ k. value_within s at (head_at_def s at) (head_within s at)))))
