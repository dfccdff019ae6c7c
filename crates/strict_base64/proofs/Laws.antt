-- The laws of strict Base64: what is encoded is decoded again, what decodes is the encoding of its bytes, and the lengths and bounds of both.
-- Assumes nothing.
use mathlib.Core.Path.{◌≡◌, refl, sym, ap, ap₂, ◌∙◌}
use Prim.Native.Nat.{ℕ, zero, suc, ◌+◌, ◌*◌, ◌/◌, ◌%◌, ◌≤◌, ◌<◌}
use native.Mathlib.Omega.{arith}
use native.Mathlib.Decide.{dec_lt}
use mathlib.Core.Bool.{Bool, true, false, false≢true}
use mathlib.Core.List.{List, [], ◌∷◌, ◌++◌, append-nil}
use mathlib.Core.Option.{Option, none, some}
use lib.ListN.{length, length-append}
use lib.Dec.{ltb, eqb, lit<}
use borrow.Author.Tests.{ltb-true, eqb-true, lt-ltb, le-leb, lt-leb, eq-eqb, ne_eqb}
use Rattle.laws.specs.Choice.{pick, both}
use Rattle.laws.specs.Bytes.{Bytes}
use Rattle.laws.proofs.Choice.{pick_yes, pick_no, pick_case, pick_keep, both_yes, both_true}
use Rattle.laws.proofs.Lists.{bytes_none, bytes_cons, bytes_join}
use Rattle.strict_base64.specs.Base64.{char, value, pad, encode, known, first, second, third, full, three, final, ahead, decode, DecodeEncode, EncodeDecode}

-- a test that holds of every number below n
every : (ℕ → Bool) → ℕ → Bool
every f zero = true
every f (suc n) = both (f n) (every f n)

-- what every number below n passes, one of them does
one_of : (f : ℕ → Bool) (n k : ℕ) → every f n ≡ true → k < n → f k ≡ true
unfolding every
one_of f zero k e h = absurd (omega arith)
one_of f (suc n) k e h =
    let w : (f n ≡ true) × (every f n ≡ true) = both_true (f n) (every f n) e in
    elim (dec_lt k n) [ yes l ↦ one_of f n k w.1 l | no l ↦ (let same : k ≡ n = omega arith in rw same w.0) ]

-- the character of a number stands for that number
char_value : (v : ℕ) → v < 64 → value (char v) ≡ v
unfolding char value pick both every
char_value v h = eqb-true (value (char v)) v (one_of (λ (v : ℕ). eqb (value (char v)) v) 64 v refl h)

-- no number's character is the one that fills the last group
char_other : (v : ℕ) → v < 64 → eqb (char v) pad ≡ false
unfolding char pick every both
char_other v h =
    ne_eqb (char v) pad (λ e. absurd (false≢true (sym (eqb-true-false (char v) e) ∙ one_of (λ (v : ℕ). pick (eqb (char v) 61) false true) 64 v refl h)))
  where
    eqb-true-false : (c : ℕ) → c ≡ 61 → pick (eqb c 61) false true ≡ false
    eqb-true-false c e = rw (eq-eqb c 61 e) refl

-- a number of 123 or more is the number of no character that stands for anything
far : (c : ℕ) → 123 ≤ c → value c ≡ 64
unfolding value
far c h =
    rw (
      le-leb 65 c (omega arith),
      lt-leb c 90 (omega arith),
      le-leb 97 c (omega arith),
      lt-leb c 122 (omega arith),
      le-leb 48 c (omega arith),
      lt-leb c 57 (omega arith),
      ne_eqb c 43 (λ e. omega arith),
      ne_eqb c 47 (λ e. omega arith),
    )
    (simp (both_yes, pick_no))

-- the same for the characters below 123
near : (c : ℕ) → c < 123 → value c < 64 → char (value c) ≡ c
unfolding char value pick both every
near c l h =
    eqb-true (char (value c)) c (chosen (ltb (value c) 64) (eqb (char (value c)) c) (lt-ltb (value c) 64 h)
    (one_of (λ (c : ℕ). pick (ltb (value c) 64) (eqb (char (value c)) c) true) 123 c refl l))
  where
    chosen : (t u : Bool) → t ≡ true → pick t u true ≡ true → u ≡ true
    chosen true u e f = f
    chosen false u e f = absurd (false≢true e)

-- a character that stands for a number is that number's character
value_char : (c : ℕ) → value c < 64 → char (value c) ≡ c
value_char c h =
    elim (dec_lt c 123) [
      | yes l ↦ near c l h
      | no l ↦ absurd (let e : value c ≡ 64 = far c (omega arith) in omega arith)
    ]

-- the last group of one byte decodes to it
final_one : (p q : ℕ) → p < 64 → q < 64 → q % 16 ≡ 0 → final (char p) (char q) pad pad ≡ some (first p q ∷ [])
unfolding final
final_one p q hp hq z =
    rw (char_value p hp, char_value q hq, lt-ltb p 64 hp, lt-ltb q 64 hq, eq-eqb (q % 16) 0 z) (simp (pick_yes, both_yes))

-- the last group of two bytes decodes to them
final_two : (p q r : ℕ) → p < 64 → q < 64 → r < 64 → r % 4 ≡ 0 → final (char p) (char q) (char r) pad ≡ some (first p q ∷ second q r ∷ [])
unfolding final
final_two p q r hp hq hr z =
    rw (char_other r hr, char_value p hp, char_value q hq, char_value r hr, lt-ltb p 64 hp, lt-ltb q 64 hq, lt-ltb r 64 hr, eq-eqb (r % 4) 0 z)
    (simp (pick_yes, pick_no, both_yes))

-- the characters of four numbers are a full group
full_chars : (p q r s : ℕ) → p < 64 → q < 64 → r < 64 → s < 64 → full (char p) (char q) (char r) (char s) ≡ true
unfolding full
full_chars p q r s hp hq hr hs =
    rw (char_value p hp, char_value q hq, char_value r hr, char_value s hs, lt-ltb p 64 hp, lt-ltb q 64 hq, lt-ltb r 64 hr, lt-ltb s 64 hs)
    (simp both_yes)

-- whose three bytes are those of the numbers
three_chars : (p q r s : ℕ) → p < 64 → q < 64 → r < 64 → s < 64 → three (char p) (char q) (char r) (char s) ≡ first p q ∷ second q r ∷ third r s ∷ []
unfolding three
three_chars p q r s hp hq hr hs = rw (char_value p hp, char_value q hq, char_value r hr, char_value s hs) refl

-- the last group of three bytes decodes to them
final_three : (p q r s : ℕ) → p < 64 → q < 64 → r < 64 → s < 64 → final (char p) (char q) (char r) (char s) ≡ some (first p q ∷ second q r ∷ third r s ∷ [])
unfolding final
final_three p q r s hp hq hr hs =
    rw (char_other s hs, full_chars p q r s hp hq hr hs, three_chars p q r s hp hq hr hs) (simp (pick_yes, pick_no))

-- the first byte comes back from its two numbers
same_first : (a b : ℕ) → a < 256 → b < 256 → first (a / 4) (a % 4 * 16 + b / 16) ≡ a
same_first a b h k = omega arith

-- the second byte comes back from its two numbers
same_second : (a b c : ℕ) → a < 256 → b < 256 → c < 256 → second (a % 4 * 16 + b / 16) (b % 16 * 4 + c / 64) ≡ b
same_second a b c h k l = omega arith

-- the third byte comes back from its two numbers
same_third : (b c : ℕ) → b < 256 → c < 256 → third (b % 16 * 4 + c / 64) (c % 64) ≡ c
same_third b c k l = omega arith

-- three bytes come back from their four numbers
bytes_same : (a b c : ℕ) → a < 256 → b < 256 → c < 256
    → first (a / 4) (a % 4 * 16 + b / 16) ∷ second (a % 4 * 16 + b / 16) (b % 16 * 4 + c / 64) ∷ third (b % 16 * 4 + c / 64) (c % 64) ∷ [] ≡ a ∷ b ∷ c ∷ []
bytes_same a b c ha hb hc = rw (same_first a b ha hb, same_second a b c ha hb hc, same_third b c hb hc) refl

-- a text of a group and more is that group's bytes before the rest's
pub decode_more : (a b c d : ℕ) (t : List ℕ) → 0 < length t → decode (a ∷ b ∷ c ∷ d ∷ t) ≡ pick (full a b c d) (ahead (three a b c d) (decode t)) none
unfolding decode
decode_more a b c d [] h = absurd (omega arith)
decode_more a b c d (e ∷ t) h = refl

-- some bytes give some text
encode_some : (x : List ℕ) → 0 < length x → 0 < length (encode x)
unfolding encode
encode_some [] h = absurd (omega arith)
encode_some (a ∷ []) h = lit< tt
encode_some (a ∷ b ∷ []) h = lit< tt
encode_some (a ∷ b ∷ c ∷ s) h = omega arith

-- what is encoded is decoded again
pub decode_encode : DecodeEncode
unfolding encode decode ahead
decode_encode [] p h = absurd (omega arith)
decode_encode (a ∷ []) p h =
    let ha : a < 256 = p 0 in
    let e : first (a / 4) (a % 4 * 16) ≡ a = omega arith in
    final_one (a / 4) (a % 4 * 16) (omega arith) (omega arith) (omega arith) ∙ ap (λ (n : ℕ). some (n ∷ [])) e
decode_encode (a ∷ b ∷ []) p h =
    let ha : a < 256 = p 0 in
    let hb : b < 256 = p 1 in
    let e : second (a % 4 * 16 + b / 16) (b % 16 * 4) ≡ b = omega arith in
    final_two (a / 4) (a % 4 * 16 + b / 16) (b % 16 * 4) (omega arith) (omega arith) (omega arith) (omega arith)
    ∙ ap₂ (λ (m n : ℕ). some (m ∷ n ∷ [])) (same_first a b ha hb) e
decode_encode (a ∷ b ∷ c ∷ []) p h =
    let ha : a < 256 = p 0 in
    let hb : b < 256 = p 1 in
    let hc : c < 256 = p 2 in
    final_three (a / 4) (a % 4 * 16 + b / 16) (b % 16 * 4 + c / 64) (c % 64) (omega arith) (omega arith) (omega arith) (omega arith)
    ∙ ap some (bytes_same a b c ha hb hc)
decode_encode (a ∷ b ∷ c ∷ d ∷ s) p h =
    let ha : a < 256 = p 0 in
    let hb : b < 256 = p 1 in
    let hc : c < 256 = p 2 in
    decode_more (char (a / 4)) (char (a % 4 * 16 + b / 16)) (char (b % 16 * 4 + c / 64)) (char (c % 64)) (encode (d ∷ s)) (encode_some (d ∷ s) (omega arith))
    ∙ rw (
      full_chars (a / 4) (a % 4 * 16 + b / 16) (b % 16 * 4 + c / 64) (c % 64) (omega arith) (omega arith) (omega arith) (omega arith),
      pick_yes,
      three_chars (a / 4) (a % 4 * 16 + b / 16) (b % 16 * 4 + c / 64) (c % 64) (omega arith) (omega arith) (omega arith) (omega arith),
      bytes_same a b c ha hb hc,
      decode_encode (d ∷ s) (λ (i : ℕ). p (suc (suc (suc i)))) (omega arith),
    ) refl

-- bytes before others, when nothing is not well formed
pub ahead_some : (x : List ℕ) (o : Option (List ℕ)) (y : List ℕ) → ahead x o ≡ some y → (s : List ℕ) × ((o ≡ some s) × (y ≡ x ++ s))
unfolding ahead
ahead_some x none y e = let z : ◌≡◌ {A = ℕ} 0 1 = cc in absurd (omega arith)
ahead_some x (some s) y e = (s, (refl, cc))

-- nothing is never something
pub none_some : {A : Type 0} (x : A) → ◌≡◌ {A = Option A} none (some x) → ⊥
none_some x e = let z : ◌≡◌ {A = ℕ} 0 1 = cc in omega arith

-- what a group of four characters that stand for numbers says of each
pub known_all : (a b c d : ℕ) → full a b c d ≡ true → (value a < 64) × (value b < 64) × (value c < 64) × (value d < 64)
unfolding full
known_all a b c d e =
    let w = both_true (known a) (both (known b) (both (known c) (known d))) e in
    let v = both_true (known b) (both (known c) (known d)) w.1 in
    let u = both_true (known c) (known d) v.1 in
    (ltb-true (value a) 64 w.0, ltb-true (value b) 64 v.0, ltb-true (value c) 64 u.0, ltb-true (value d) 64 u.1)

-- four numbers are those of their three bytes, so their characters come back
encode_three : (a b c d : ℕ) (s : List ℕ) → full a b c d ≡ true → encode (three a b c d ++ s) ≡ a ∷ b ∷ c ∷ d ∷ encode s
unfolding three encode
encode_three a b c d s e =
    let k = known_all a b c d e in
    let ha : value a < 64 = k.0 in
    let hb : value b < 64 = k.1 in
    let hc : value c < 64 = k.2 in
    let hd : value d < 64 = k.3 in
    same-four (value a) (value b) (value c) (value d) a b c d s ha hb hc hd (value_char a ha) (value_char b hb) (value_char c hc) (value_char d hd)
  where
    same-four : (p q r s a b c d : ℕ) (l : List ℕ) → p < 64 → q < 64 → r < 64 → s < 64 → char p ≡ a → char q ≡ b → char r ≡ c → char s ≡ d
        → encode (first p q ∷ second q r ∷ third r s ∷ l) ≡ a ∷ b ∷ c ∷ d ∷ encode l
    same-four p q r s a b c d l hp hq hr hs ea eb ec ed =
        let fp : first p q / 4 ≡ p = omega arith in
        let fq : first p q % 4 * 16 + second q r / 16 ≡ q = omega arith in
        let fr : second q r % 16 * 4 + third r s / 64 ≡ r = omega arith in
        let fs : third r s % 64 ≡ s = omega arith in
        rw (fp, fq, fr, fs, ea, eb, ec, ed) refl

-- what holds of each of the three kinds of last group holds of every last group that decodes
module _ (P : ℕ → ℕ → ℕ → ℕ → List ℕ → Type 0) where
  -- the choice between bytes and nothing took the bytes
  taken : (a b c d : ℕ) (t : Bool) (y x : List ℕ) → (t ≡ true → P a b c d y) → pick t (some y) none ≡ some x → P a b c d x
  taken a b c d t y x f e =
      let w : (t ≡ true) × (some y ≡ some x) = pick_keep t (some y) none (some x) (none_some x) e in
      let same : y ≡ x = let u : some y ≡ some x = w.1 in cc in
      rw same at (f w.0)

  -- the principle, by the tests of a last group
  final_elim : ((a b : ℕ) → value a < 64 → value b < 64 → value b % 16 ≡ 0 → P a b pad pad (first (value a) (value b) ∷ []))
      → ((a b c : ℕ) → value a < 64 → value b < 64 → value c < 64 → value c % 4 ≡ 0 → P a b c pad (first (value a) (value b) ∷ second (value b) (value c) ∷ []))
      → ((a b c d : ℕ) → full a b c d ≡ true → P a b c d (three a b c d))
      → (a b c d : ℕ) (x : List ℕ)
      → final a b c d ≡ some x
      → P a b c d x
  unfolding final
  final_elim one two all a b c d x =
      pick_case (λ (o : Option (List ℕ)). o ≡ some x → P a b c d x) (eqb d pad) _ _
      (λ ed. pick_case (λ (o : Option (List ℕ)). o ≡ some x → P a b c d x) (eqb c pad) _ _
      (λ ec e. rw (eqb-true d pad ed, eqb-true c pad ec) (taken a b pad pad _ _ x (λ t. one-given a b t) e))
      (λ ec e. rw (eqb-true d pad ed) (taken a b c pad _ _ x (λ t. two-given a b c t) e)))
      (λ ed e. taken a b c d (full a b c d) (three a b c d) x (λ t. all a b c d t) e)
    where
      one-given : (a b : ℕ) → both (known a) (both (known b) (eqb (value b % 16) 0)) ≡ true → P a b pad pad (first (value a) (value b) ∷ [])
      one-given a b t =
          let w = both_true (known a) (both (known b) (eqb (value b % 16) 0)) t in
          let v = both_true (known b) (eqb (value b % 16) 0) w.1 in
          one a b (ltb-true (value a) 64 w.0) (ltb-true (value b) 64 v.0) (eqb-true (value b % 16) 0 v.1)

      two-given : (a b c : ℕ) → both (known a) (both (known b) (both (known c) (eqb (value c % 4) 0))) ≡ true
          → P a b c pad (first (value a) (value b) ∷ second (value b) (value c) ∷ [])
      two-given a b c t =
          let w = both_true (known a) (both (known b) (both (known c) (eqb (value c % 4) 0))) t in
          let v = both_true (known b) (both (known c) (eqb (value c % 4) 0)) w.1 in
          let u = both_true (known c) (eqb (value c % 4) 0) v.1 in
          two a b c (ltb-true (value a) 64 w.0) (ltb-true (value b) 64 v.0) (ltb-true (value c) 64 u.0) (eqb-true (value c % 4) 0 u.1)

-- a last group that decodes is the encoding of its bytes
encode_final : (a b c d : ℕ) (x : List ℕ) → final a b c d ≡ some x → encode x ≡ a ∷ b ∷ c ∷ d ∷ []
unfolding encode
encode_final = final_elim (λ (a b c d : ℕ) (x : List ℕ). encode x ≡ a ∷ b ∷ c ∷ d ∷ []) one two all
  where
    one : (a b : ℕ) → value a < 64 → value b < 64 → value b % 16 ≡ 0 → encode (first (value a) (value b) ∷ []) ≡ a ∷ b ∷ pad ∷ pad ∷ []
    one a b ha hb z =
        let ea : first (value a) (value b) / 4 ≡ value a = omega arith in
        let eb : first (value a) (value b) % 4 * 16 ≡ value b = omega arith in
        rw (ea, eb, value_char a ha, value_char b hb) refl

    two : (a b c : ℕ) → value a < 64 → value b < 64 → value c < 64 → value c % 4 ≡ 0
        → encode (first (value a) (value b) ∷ second (value b) (value c) ∷ []) ≡ a ∷ b ∷ c ∷ pad ∷ []
    two a b c ha hb hc z =
        let ea : first (value a) (value b) / 4 ≡ value a = omega arith in
        let eb : first (value a) (value b) % 4 * 16 + second (value b) (value c) / 16 ≡ value b = omega arith in
        let ec : second (value b) (value c) % 16 * 4 ≡ value c = omega arith in
        rw (ea, eb, ec, value_char a ha, value_char b hb, value_char c hc) refl

    all : (a b c d : ℕ) → full a b c d ≡ true → encode (three a b c d) ≡ a ∷ b ∷ c ∷ d ∷ []
    all a b c d e = rw append-nil at (encode_three a b c d [] e)

-- what holds of the bytes of each last group, and of a full group's bytes before those of which it holds, holds of all that decodes
module _ (P : List ℕ → List ℕ → Type 0)
    (last : (a b c d : ℕ) (x : List ℕ) → final a b c d ≡ some x → P (a ∷ b ∷ c ∷ d ∷ []) x)
    (more : (a b c d : ℕ) (t x : List ℕ) → 0 < length t → full a b c d ≡ true → decode t ≡ some x → P t x
    → P (a ∷ b ∷ c ∷ d ∷ t) (three a b c d ++ x)) where
  -- the principle, group by group
  pub decode_elim : (t x : List ℕ) → decode t ≡ some x → P t x
  unfolding decode
  decode_elim [] x e = absurd (none_some x e)
  decode_elim (a ∷ []) x e = absurd (none_some x e)
  decode_elim (a ∷ b ∷ []) x e = absurd (none_some x e)
  decode_elim (a ∷ b ∷ c ∷ []) x e = absurd (none_some x e)
  decode_elim (a ∷ b ∷ c ∷ d ∷ []) x e = last a b c d x e
  decode_elim (a ∷ b ∷ c ∷ d ∷ f ∷ t) x e =
      let w : (full a b c d ≡ true) × (ahead (three a b c d) (decode (f ∷ t)) ≡ some x) =
      pick_keep (full a b c d) (ahead (three a b c d) (decode (f ∷ t))) none (some x) (none_some x) e
      in
      let g : (s : List ℕ) × ((decode (f ∷ t) ≡ some s) × (x ≡ three a b c d ++ s)) = ahead_some (three a b c d) (decode (f ∷ t)) x w.1 in
      let back : x ≡ three a b c d ++ g.0 = g.1.1 in
      rw back (more a b c d (f ∷ t) g.0 (omega arith) w.0 g.1.0 (decode_elim (f ∷ t) g.0 g.1.0))

-- every text that decodes is the encoding of what it decodes to
pub encode_decode : EncodeDecode
encode_decode =
    decode_elim (λ (t x : List ℕ). encode x ≡ t) encode_final
    (λ a b c d t x some-text f e h. encode_three a b c d x f ∙ ap (λ (l : List ℕ). a ∷ b ∷ c ∷ d ∷ l) h)

-- the three bytes of a full group are bytes
three_bytes : (a b c d : ℕ) → full a b c d ≡ true → Bytes (three a b c d)
unfolding three
three_bytes a b c d e =
    let k = known_all a b c d e in
    let ha : value a < 64 = k.0 in
    let hb : value b < 64 = k.1 in
    let hc : value c < 64 = k.2 in
    let hd : value d < 64 = k.3 in
    bytes_cons (first (value a) (value b)) (second (value b) (value c) ∷ third (value c) (value d) ∷ []) (omega arith)
    (bytes_cons (second (value b) (value c)) (third (value c) (value d) ∷ []) (omega arith)
    (bytes_cons (third (value c) (value d)) [] (omega arith) bytes_none))

-- there are three of them
pub three_length : (a b c d : ℕ) → length (three a b c d) ≡ 3
unfolding three
three_length a b c d = refl

-- what decodes is bytes
pub decode_bytes : (t x : List ℕ) → decode t ≡ some x → Bytes x
decode_bytes =
    decode_elim (λ (t x : List ℕ). Bytes x)
    (final_elim (λ (a b c d : ℕ) (x : List ℕ). Bytes x)
    (λ a b ha hb z. bytes_cons (first (value a) (value b)) [] (omega arith) bytes_none)
    (λ a b c ha hb hc z. bytes_cons (first (value a) (value b)) (second (value b) (value c) ∷ []) (omega arith)
    (bytes_cons (second (value b) (value c)) [] (omega arith) bytes_none))
    three_bytes)
    (λ a b c d t x some-text f e h. bytes_join (three a b c d) x (three_bytes a b c d f) h)

-- a last group gives one byte at least and three at most
pub final_length : (a b c d : ℕ) (x : List ℕ) → final a b c d ≡ some x → (0 < length x) × (length x ≤ 3)
final_length =
    final_elim (λ (a b c d : ℕ) (x : List ℕ). (0 < length x) × (length x ≤ 3))
    (λ a b ha hb z. omega arith)
    (λ a b c ha hb hc z. omega arith)
    (λ a b c d f. omega (arith, three_length a b c d))

-- what decodes has three bytes at most for each four characters
pub decode_length : (t x : List ℕ) → decode t ≡ some x → length x ≤ length t / 4 * 3
decode_length =
    decode_elim (λ (t x : List ℕ). length x ≤ length t / 4 * 3)
    (λ a b c d x e. omega (arith, (final_length a b c d x e).1))
    (λ a b c d t x some-text f e h. omega (arith, length-append (three a b c d) x, three_length a b c d))

-- each three bytes begun give four characters
pub encode_length : (x : List ℕ) → length (encode x) ≡ (length x + 2) / 3 * 4
unfolding encode
encode_length [] = refl
encode_length (a ∷ []) = refl
encode_length (a ∷ b ∷ []) = refl
encode_length (a ∷ b ∷ c ∷ s) = omega (arith, encode_length s)

-- a text that decodes is in groups of four
pub decode_groups : (t x : List ℕ) → decode t ≡ some x → length t % 4 ≡ 0
decode_groups =
    decode_elim (λ (t x : List ℕ). length t % 4 ≡ 0) (λ a b c d x e. refl) (λ a b c d t x some-text f e h. omega arith)
