-- A map that was written is read back: its head, a pair of each form of value, and its end.
-- Assumes nothing.
use Rattle.std.proofs.Common.{◌≡◌, refl, sym, ap, ap₂, ◌∙◌, arith}
use Rattle.std.proofs.Common.{ℕ, suc, ◌+◌, ◌-◌, ◌^◌, ◌≤◌, ◌<◌, false, List, ◌++◌, append_assoc, length, take, drop, length-append}
use Rattle.std.specs.Prelude.{Option, Some}
use lib.Dec.{lit<}
use lib.Seq.{drop-append-add, take-append_seam, drop_at}
use borrow.Author.Tests.{eq-eqb, ne_eqb, le-ltb}
use Rattle.laws.proofs.Choice.{pick_yes, pick_no}
use Rattle.cbor.specs.declared.Value.{Value}
use Rattle.cbor.specs.declared.Value.TheVariants.{Unsigned}
use Rattle.cbor.specs.declared.Head.{Head}
use Rattle.cbor.specs.declared.Item.{Item}
use Rattle.cbor.specs.Read.{head_at_def, item_at}
use Rattle.cbor.specs.Inner.{head_is, item_is, run_is}
use Rattle.cbor.specs.Write.{head_of, unsigned, bytes_of, text_of, map_of}
use Rattle.cbor.proofs.Laws.{head_back, head_size, unsigned_back, bytes_back, text_back, size_of}
use Rattle.fields.specs.declared.Kind.{Kind}
use Rattle.fields.specs.declared.Key.{Key}
use Rattle.fields.specs.declared.Fields.{Fields}
use Rattle.fields.specs.declared.ValueType.{ValueType}
use Rattle.fields.specs.Keys.{key_of, type_of, type_for_def, type_number}
use Rattle.fields.specs.Fields.{nothing, there, stored}
use Rattle.map.specs.Walk.{Found, entered, valued, keyed, pair_at, and_then, pairs, map_after, map_at_def, ending_at, map_from_def}

-- the fields of n pairs from a place on, where they end with the bytes
abbrev pub walked : Kind → List ℕ → ℕ → ℕ → Fields → Option Fields
walked kind s n at f = ending_at (length s) (pairs kind s n at f)

-- a key that is absent so far is entered with a value of its type
enter_field : (k : Key) (v : Value) (next : ℕ) (f : Fields) → there k f ≡ false → type_of v ≡ type_for_def k → entered k v next f ≡ Some (next, stored k v f)
unfolding entered
enter_field k v next f free type =
    let same : type_number (type_of v) ≡ type_number (type_for_def k) = ap type_number type in
    simp (free, eq-eqb _ _ same, pick_no)

-- a pair whose key is a text within the bytes goes by its value
pair_whole : (kind : Kind) (s : List ℕ) (at : ℕ) (f : Fields) (n next : ℕ) → head_at_def s at ≡ head_is 3 n next → n ≤ length s - next
    → pair_at kind s at f ≡ valued (key_of kind (take n (drop next s))) f (item_at s (next + n))
unfolding keyed
pair_whole kind s at f n next e l = ap (λ (x : Option Head). keyed kind s f x) e ∙ simp (le-ltb _ _ l, pick_no)

-- the value of a pair stands after the key
value_there : (pre key value post : List ℕ) (i : Option Item) → item_at ((pre ++ key) ++ (value ++ post)) (length (pre ++ key)) ≡ i
    → item_at (pre ++ (key ++ (value ++ post))) (length pre + length key) ≡ i
value_there pre key value post i e =
    ap₂ (λ (l : List ℕ) (at : ℕ). item_at l at) (sym (append_assoc pre key (value ++ post))) (sym (length-append pre key)) ∙ e

-- a key that was written is read
key_read : (pre head k rest : List ℕ) → take (length k) (drop (length pre + length head) (pre ++ ((head ++ k) ++ rest))) ≡ k
key_read pre head k rest =
    ap (λ (l : List ℕ). take (length k) l)
    (drop-append-add pre ((head ++ k) ++ rest) (length head)
    ∙ ap (λ (l : List ℕ). drop (length head) l) (append_assoc head k rest)
    ∙ drop_at head (k ++ rest) (length head) refl)
    ∙ take-append_seam k rest

-- pairs whose key is known and absent so far
module _ (kind : Kind) (pre k : List ℕ) (key : Key) (f : Fields)
    (known : key_of kind k ≡ Some key) (small : length k < 2 ^ 64) (free : there key f ≡ false) where
  -- a pair whose value is read back, with the type of its key
  pair_back : (rest : List ℕ) (v : Value) (next : ℕ) → type_of v ≡ type_for_def key
      → item_at (pre ++ (text_of k ++ rest)) (length pre + length (text_of k)) ≡ item_is v next
      → pair_at kind (pre ++ (text_of k ++ rest)) (length pre) f ≡ Some (next, stored key v f)
  unfolding valued
  pair_back rest v next type item =
      let s : List ℕ = pre ++ (text_of k ++ rest) in
      let head : List ℕ = head_of 3 (length k) in
      let from : ℕ = length pre + length head in
      let parts : s ≡ pre ++ (head ++ (k ++ rest)) = ap (λ (l : List ℕ). pre ++ l) (append_assoc head k rest) in
      let size : length (text_of k) ≡ length head + length k = length-append head k in
      let all : length s ≡ length pre + (length head + (length k + length rest)) = ap length parts ∙ simp length-append in
      let read : head_at_def s (length pre) ≡ head_is 3 (length k) from =
      ap (λ (l : List ℕ). head_at_def l (length pre)) parts ∙ head_back pre (k ++ rest) 3 (length k) (lit< tt) small in
      let name : take (length k) (drop from s) ≡ k = key_read pre head k rest in
      let place : from + length k ≡ length pre + length (text_of k) = omega arith in
      let fits : length k ≤ length s - from = omega arith in
      pair_whole kind s (length pre) f (length k) from read fits
      ∙ ap₂ (λ (x : List ℕ) (at : ℕ). valued (key_of kind x) f (item_at s at)) name place
      ∙ ap₂ (λ (x : Option Key) (i : Option Item). valued x f i) known item
      ∙ enter_field key v next f free type

  -- a pair with an unsigned number
  pub pair_unsigned : (post : List ℕ) (n : ℕ) → n < 2 ^ 64 → type_for_def key ≡ ValueType.Unsigned
      → pair_at kind (pre ++ (text_of k ++ (unsigned n ++ post))) (length pre) f
      ≡ Some (length (pre ++ text_of k) + length (unsigned n), stored key (Unsigned n) f)
  unfolding type_of
  pair_unsigned post n fits type =
      pair_back (unsigned n ++ post) (Unsigned n) (length (pre ++ text_of k) + length (unsigned n)) (sym type)
      (value_there pre (text_of k) (unsigned n) post _ (unsigned_back (pre ++ text_of k) post n fits))

  -- a pair with a string of bytes
  pub pair_bytes : (x post : List ℕ) → length x < 2 ^ 64 → type_for_def key ≡ ValueType.Bytes
      → pair_at kind (pre ++ (text_of k ++ (bytes_of x ++ post))) (length pre) f
      ≡ Some (
        length (pre ++ text_of k) + length (bytes_of x),
        stored key (Value.Bytes (run_is (length (pre ++ text_of k) + length (head_of 2 (length x))) (length x))) f,
      )
  unfolding type_of
  pair_bytes x post fits type =
      pair_back (bytes_of x ++ post) _ (length (pre ++ text_of k) + length (bytes_of x)) (sym type)
      (value_there pre (text_of k) (bytes_of x) post _ (bytes_back (pre ++ text_of k) x post fits))

  -- a pair with a text
  pub pair_text : (x post : List ℕ) → length x < 2 ^ 64 → type_for_def key ≡ ValueType.Text
      → pair_at kind (pre ++ (text_of k ++ (text_of x ++ post))) (length pre) f
      ≡ Some (
        length (pre ++ text_of k) + length (text_of x),
        stored key (Value.Text (run_is (length (pre ++ text_of k) + length (head_of 3 (length x))) (length x))) f,
      )
  unfolding type_of
  pair_text x post fits type =
      pair_back (text_of x ++ post) _ (length (pre ++ text_of k) + length (text_of x)) (sym type)
      (value_there pre (text_of k) (text_of x) post _ (text_back (pre ++ text_of k) x post fits))

-- the walk goes on over a pair that was read back
pub walk_on : (kind : Kind) (s : List ℕ) (n at : ℕ) (f : Fields) (next : ℕ) (g : Fields) → pair_at kind s at f ≡ Some (next, g)
    → walked kind s (suc n) at f ≡ walked kind s n next g
unfolding pairs and_then
walk_on kind s n at f next g e = ap (λ (w : Found). ending_at (length s) (and_then w (λ at' f'. pairs kind s n at' f'))) e

-- the walk ends where the bytes do
pub walk_end : (kind : Kind) (s : List ℕ) (at : ℕ) (f : Fields) → at ≡ length s → walked kind s 0 at f ≡ Some f
unfolding pairs ending_at
walk_end kind s at f e = simp (eq-eqb _ _ e, pick_yes)

-- a map's head is read back as the walk over its pairs
pub map_back : (kind : Kind) (pre post : List ℕ) (n : ℕ) → n < 2 ^ 64
    → map_from_def kind (pre ++ (map_of n ++ post)) (length pre) ≡ walked kind (pre ++ (map_of n ++ post)) n (length pre + length (map_of n)) nothing
unfolding map_from_def map_at_def map_after
map_back kind pre post n h =
    let s : List ℕ = pre ++ (map_of n ++ post) in
    let all : length s ≡ length pre + (length (map_of n) + length post) = simp length-append in
    let size : length (map_of n) ≡ suc (size_of n) = head_size 5 n in
    let more : length s ≡ length pre → ⊥ = λ e. omega arith in
    simp (ne_eqb _ _ more, pick_no)
    (ap (λ (x : Option Head). ending_at (length s) (map_after kind s nothing x)) (head_back pre post 5 n (lit< tt) h) ∙ simp pick_yes)
