-- What the proofs of the encoder stand on: the text of whole groups before more bytes, one group more, and the whole text with its end.
-- Assumes nothing.
use mathlib.Core.Path.{◌≡◌, refl, ap, ◌∙◌}
use Prim.Native.Nat.{ℕ, zero, suc, ◌+◌, ◌*◌, ◌/◌, ◌%◌, ◌≤◌, ◌<◌}
use native.Mathlib.Numerals.{add-one, add-two}
use native.Mathlib.Omega.{arith}
use native.Mathlib.Nat.{add-zero}
use Rattle.std.proofs.lemmas.List.{get_or-drop}
use mathlib.Core.List.{List, [], ◌∷◌, ◌++◌}
use lib.ListN.{length, get_or, take, drop, set, length-take, take-append-drop, drop_of_length-le}
use lib.Seq.{drop-cons, take-add, take_all}
use Rattle.laws.specs.Bytes.{pasted}
use Rattle.laws.proofs.Lists.{set_four_pasted, part_pasted, rest_all}
use Rattle.strict_base64.specs.Base64.{char, pad, encode}
use Rattle.encoder.specs.Inner.{Encodes, head_text, text_of_three}
use Rattle.strict_base64.proofs.Laws.{encode_length}
use Rattle.strict_base64.proofs.Pasted.{from_on, part_now, pasted_next}

-- the text of whole groups before more bytes is that of the groups before that of the bytes
encode_join : (g : ℕ) (x y : List ℕ) → length x ≡ 3 * g → encode (x ++ y) ≡ encode x ++ encode y
unfolding encode
encode_join g [] y h = refl
encode_join g (a ∷ []) y h = absurd (omega arith)
encode_join g (a ∷ b ∷ []) y h = absurd (omega arith)
encode_join zero (a ∷ b ∷ c ∷ x) y h = absurd (omega arith)
encode_join (suc g) (a ∷ b ∷ c ∷ x) y h = ap (λ (l : List ℕ). encode (a ∷ b ∷ c ∷ []) ++ l) (encode_join g x y (omega arith))

-- the first three elements from a place on
three_more : (x : List ℕ) (i : ℕ) → i + 3 ≤ length x → take 3 (drop i x) ≡ get_or x i 0 ∷ get_or x (i + 1) 0 ∷ get_or x (i + 2) 0 ∷ []
three_more x i h =
    rw (add-one, add-two, drop-cons x i 0 (omega arith), drop-cons x (suc i) 0 (omega arith), drop-cons x (suc (suc i)) 0 (omega arith)) refl

-- the text of one group more
encode_step : (x : List ℕ) (g : ℕ) → 3 * g + 3 ≤ length x → head_text x (g + 1) ≡ head_text x g ++ text_of_three x (3 * g)
unfolding encode
encode_step x g h =
    let n : 3 * (g + 1) ≡ 3 * g + 3 = omega arith in
    rw (n, take-add (3 * g) 3 x, three_more x (3 * g) h)
    (encode_join g (take (3 * g) x) (get_or x (3 * g) 0 ∷ get_or x (3 * g + 1) 0 ∷ get_or x (3 * g + 2) 0 ∷ []) (rw length-take (omega arith)))

-- four characters for each group
head_length : (x : List ℕ) (g : ℕ) → 3 * g ≤ length x → length (head_text x g) ≡ 4 * g
head_length x g h = encode_length (take (3 * g) x) ∙ rw length-take (omega arith)

-- the text of the three bytes from i on, read where they start
three_there : (x : List ℕ) (i : ℕ) → text_of_three (from_on i x) 0 ≡ text_of_three x i
three_there x i = rw rest_all (simp (get_or-drop, add-zero))

-- a turn of the loop over groups: a group's text at the start of the buffer's part where it goes
pub encode_next : (x d b e : List ℕ) (g : ℕ) → 3 * g + 3 ≤ length x → 4 * g + 4 ≤ length d → b ≡ pasted d 0 (head_text x g)
    → e ≡ pasted (from_on (4 * g) b) 0 (text_of_three (from_on (3 * g) x) 0)
    → part_now (4 * g) b e ≡ pasted d 0 (head_text x (g + 1))
encode_next x d b e g hx hd eb ee =
    rw (encode_step x g hx)
    (part_pasted b (4 * g) _ e (rw three_there at ee)
    ∙ ap (λ (l : List ℕ). pasted l (4 * g) (text_of_three x (3 * g))) eb
    ∙ pasted_next d (head_text x g) (text_of_three x (3 * g)) (4 * g) (head_length x g (omega arith)) (omega arith))

-- bytes in whole groups
pub encodes_whole : (x d e : List ℕ) (g : ℕ) → length x ≡ 3 * g → e ≡ pasted d 0 (head_text x g) → Encodes x d (4 * g) e
encodes_whole x d e g h p =
    record { count = rw (encode_length x) (omega arith); text = p ∙ ap (λ (l : List ℕ). pasted d 0 (encode l)) (take_all (3 * g) x (omega arith)) }

-- bytes in whole groups, and one or two more
encodes_end : (x y d b e : List ℕ) (g : ℕ) → 3 * g < length x → length x < 3 * g + 3 → 4 * g + 4 ≤ length d → drop (3 * g) x ≡ y
    → b ≡ pasted d 0 (head_text x g)
    → e ≡ pasted (from_on (4 * g) b) 0 (encode y)
    → Encodes x d (4 * g + 4) (part_now (4 * g) b e)
encodes_end x y d b e g low high room ey eb ee =
    let whole : encode x ≡ head_text x g ++ encode y =
    rw (take-append-drop (3 * g) x, ey) at (encode_join g (take (3 * g) x) (drop (3 * g) x) (rw length-take (omega arith)))
    in
    record {
      count = rw (encode_length x) (omega arith);
      text =
          rw whole
          (part_pasted b (4 * g) (encode y) e ee
          ∙ ap (λ (l : List ℕ). pasted l (4 * g) (encode y)) eb
          ∙ pasted_next d (head_text x g) (encode y) (4 * g) (head_length x g (omega arith)) (omega arith));
    }

-- bytes in whole groups, and one more
pub encodes_one : (x d b e : List ℕ) (g : ℕ) → length x ≡ 3 * g + 1 → 4 * g + 4 ≤ length d → b ≡ pasted d 0 (head_text x g)
    → e ≡ pasted (from_on (4 * g) b) 0 (encode (get_or x (3 * g) 0 ∷ []))
    → Encodes x d (4 * g + 4) (part_now (4 * g) b e)
encodes_one x d b e g h room eb ee =
    encodes_end x (get_or x (3 * g) 0 ∷ []) d b e g (omega arith) (omega arith) room
    (drop-cons x (3 * g) 0 (omega arith) ∙ ap (λ (l : List ℕ). get_or x (3 * g) 0 ∷ l) (drop_of_length-le x {i = suc (3 * g)} (omega arith)))
    eb
    ee

-- bytes in whole groups, and two more
pub encodes_two : (x d b e : List ℕ) (g : ℕ) → length x ≡ 3 * g + 2 → 4 * g + 4 ≤ length d → b ≡ pasted d 0 (head_text x g)
    → e ≡ pasted (from_on (4 * g) b) 0 (encode (get_or x (3 * g) 0 ∷ get_or x (3 * g + 1) 0 ∷ []))
    → Encodes x d (4 * g + 4) (part_now (4 * g) b e)
encodes_two x d b e g h room eb ee =
    encodes_end x (get_or x (3 * g) 0 ∷ get_or x (3 * g + 1) 0 ∷ []) d b e g (omega arith) (omega arith) room
    (rw add-one
    (drop-cons x (3 * g) 0 (omega arith)
    ∙ ap (λ (l : List ℕ). get_or x (3 * g) 0 ∷ l) (drop-cons x (suc (3 * g)) 0 (omega arith)
    ∙ ap (λ (l : List ℕ). get_or x (suc (3 * g)) 0 ∷ l) (drop_of_length-le x {i = suc (suc (3 * g))} (omega arith)))))
    eb
    ee

-- four stores that are the text of three bytes
pub text_three : (m : List ℕ) (a b c p q r s : ℕ) → 4 ≤ length m
    → p ≡ char (a / 4)
    → q ≡ char (a % 4 * 16 + b / 16)
    → r ≡ char (b % 16 * 4 + c / 64)
    → s ≡ char (c % 64)
    → set (set (set (set m 0 p) 1 q) 2 r) 3 s ≡ pasted m 0 (encode (a ∷ b ∷ c ∷ []))
unfolding encode
text_three m a b c p q r s h ep eq er es = rw (← ep, ← eq, ← er, ← es) (set_four_pasted m 0 p q r s h)

-- four stores that are the text of one byte
pub text_one : (m : List ℕ) (a p q : ℕ) → 4 ≤ length m → p ≡ char (a / 4) → q ≡ char (a % 4 * 16)
    → set (set (set (set m 0 p) 1 q) 2 pad) 3 pad ≡ pasted m 0 (encode (a ∷ []))
unfolding encode
text_one m a p q h ep eq = rw (← ep, ← eq) (set_four_pasted m 0 p q pad pad h)

-- four stores that are the text of two bytes
pub text_two : (m : List ℕ) (a b p q r : ℕ) → 4 ≤ length m
    → p ≡ char (a / 4)
    → q ≡ char (a % 4 * 16 + b / 16)
    → r ≡ char (b % 16 * 4)
    → set (set (set (set m 0 p) 1 q) 2 r) 3 pad ≡ pasted m 0 (encode (a ∷ b ∷ []))
unfolding encode
text_two m a b p q r h ep eq er = rw (← ep, ← eq, ← er) (set_four_pasted m 0 p q r pad h)
