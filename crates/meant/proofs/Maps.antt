-- Each map that is written after eight bytes is read back as its fields, and its strings stand where the fields say.
-- Assumes nothing.
use mathlib.Core.Path.{◌≡◌, refl, sym, ap, ◌∙◌}
use mathlib.Core.List.{List, [], ◌++◌, append_assoc}
use Rattle.std.specs.Prelude.{Some}
use Prim.Native.Nat.{ℕ, suc, ◌+◌, ◌^◌, ◌<◌}
use lib.Dec.{lit<}
use lib.ListN.{length, take, drop}
use Rattle.laws.specs.Choice.{pick, both}
use Rattle.laws.specs.Bytes.{same}
use Rattle.cbor.specs.declared.Value.{Value}
use Rattle.cbor.specs.declared.Value.TheVariants.{Unsigned}
use Rattle.cbor.specs.Inner.{run_is}
use Rattle.cbor.specs.Write.{head_of, unsigned, bytes_of, text_of, map_of}
use Rattle.fields.specs.declared.Kind.{Kind}
use Rattle.fields.specs.declared.Key.{Key}
use Rattle.fields.specs.declared.Fields.{Fields}
use Rattle.fields.specs.Keys.{name_d, name_r, name_rc, name_data, name_len, name_off, name_sha, key_of, type_for_def}
use Rattle.fields.specs.Fields.{index_of, nothing, stored}
use Rattle.map.specs.Walk.{map_from_def}
use Rattle.map.proofs.Laws.{walked}
use Rattle.smp.specs.declared.Reply.{Reply as Answered}
use Rattle.smp.specs.Reply.{rc_map, reply_map}
use Rattle.uploads.specs.Upload.{later_map, first_map}
use Rattle.uploads.specs.Inner.{first_pairs}
use Rattle.uploads.proofs.Maps.{later_parts, first_untagged, first_tagged}
use Rattle.meant.proofs.Walking.{step_number, step_bytes, step_text, string_there, map_start, walk_over, next_part, last_part}

-- "d" of an echo is the text
pub key_d : key_of Kind.Echo name_d ≡ Some Key.Text
unfolding key_of pick same both
key_d = refl

-- "r" of a reply is the text
pub key_r : key_of Kind.Reply name_r ≡ Some Key.Text
unfolding key_of pick same both
key_r = refl

-- "rc" of a reply is the return code
key_rc : key_of Kind.Reply name_rc ≡ Some Key.Rc
unfolding key_of pick same both
key_rc = refl

-- "off" of a reply is the offset
key_reply_off : key_of Kind.Reply name_off ≡ Some Key.Off
unfolding key_of pick same both
key_reply_off = refl

-- "data" of an upload is the data
key_data : key_of Kind.Upload name_data ≡ Some Key.Data
unfolding key_of pick same both
key_data = refl

-- "len" of an upload is the length
key_len : key_of Kind.Upload name_len ≡ Some Key.Len
unfolding key_of pick same both
key_len = refl

-- "off" of an upload is the offset
key_off : key_of Kind.Upload name_off ≡ Some Key.Off
unfolding key_of pick same both
key_off = refl

-- "sha" of an upload is the tag
key_sha : key_of Kind.Upload name_sha ≡ Some Key.Sha
unfolding key_of pick same both
key_sha = refl

-- an empty map
pub empty_read : (kind : Kind) (s pre : List ℕ) → s ≡ pre ++ map_of 0 → length pre ≡ 8 → map_from_def kind s 8 ≡ Some nothing
empty_read kind s pre parts eight =
    map_start kind s pre [] 0 (last_part pre (map_of 0) parts) eight (lit< tt) ∙ walk_over kind s (pre ++ map_of 0) nothing parts

-- where the text of a map with one text stands
abbrev pub text_at : List ℕ → List ℕ → List ℕ → ℕ
text_at pre k x = length ((pre ++ map_of 1) ++ text_of k) + length (head_of 3 (length x))

-- a map with one text
module _ (kind : Kind) (s pre k x : List ℕ) (parts : s ≡ pre ++ (map_of 1 ++ (text_of k ++ text_of x))) where
  -- the map's head, and then its pair
  text_parts : s ≡ (pre ++ map_of 1) ++ ((text_of k ++ text_of x) ++ [])
  text_parts = last_part (pre ++ map_of 1) (text_of k ++ text_of x) (next_part pre (map_of 1) (text_of k ++ text_of x) parts)

  -- it is read as the text under that key
  pub text_read : length pre ≡ 8 → key_of kind k ≡ Some Key.Text → length k < 2 ^ 64 → length x < 2 ^ 64 → map_from_def kind s 8
      ≡ Some (stored Key.Text (Value.Text (run_is (text_at pre k x) (length x))) nothing)
  unfolding index_of type_for_def
  text_read eight is small fits =
      let p : List ℕ = pre ++ map_of 1 in
      map_start kind s pre (text_of k ++ text_of x) 1 parts eight (lit< tt)
      ∙ step_text kind s p k x [] nothing Key.Text 0 text_parts is small fits refl refl
      ∙ walk_over kind s (p ++ (text_of k ++ text_of x)) _ (next_part pre (map_of 1) (text_of k ++ text_of x) parts)

  -- the text stands where the field says
  pub text_there_lem : take (length x) (drop (text_at pre k x) s) ≡ x
  text_there_lem = string_there s (pre ++ map_of 1) (text_of k) (head_of 3 (length x)) x [] text_parts

-- a reply with a return code alone
pub rc_read : (s pre : List ℕ) (n : ℕ) → s ≡ pre ++ rc_map n → length pre ≡ 8 → n < 2 ^ 64 → map_from_def Kind.Reply s 8 ≡ Some (stored Key.Rc (Unsigned n) nothing)
unfolding index_of type_for_def
rc_read s pre n parts eight fits =
    let pair : List ℕ = text_of name_rc ++ unsigned n in
    let whole : s ≡ (pre ++ map_of 1) ++ pair = next_part pre (map_of 1) pair parts in
    map_start Kind.Reply s pre pair 1 parts eight (lit< tt)
    ∙ step_number Kind.Reply s (pre ++ map_of 1) name_rc [] nothing Key.Rc n 0 (last_part (pre ++ map_of 1) pair whole) key_rc (lit< tt) fits refl refl
    ∙ walk_over Kind.Reply s ((pre ++ map_of 1) ++ pair) _ whole

-- a reply with the return code 0 and an offset
pub placed_read : (s pre q : List ℕ) (n : ℕ) → s ≡ pre ++ reply_map q (Answered.Placed n) → length pre ≡ 8 → n < 2 ^ 64 → map_from_def Kind.Reply s 8
    ≡ Some (stored Key.Off (Unsigned n) (stored Key.Rc (Unsigned 0) nothing))
unfolding reply_map stored index_of type_for_def
placed_read s pre q n parts eight fits =
    let p : List ℕ = pre ++ map_of 2 in
    let x : List ℕ = text_of name_rc ++ unsigned 0 in
    let y : List ℕ = text_of name_off ++ unsigned n in
    let all : s ≡ pre ++ (map_of 2 ++ (x ++ y)) = parts ∙ ap (λ (l : List ℕ). pre ++ (map_of 2 ++ l)) (sym (append_assoc (text_of name_rc) (unsigned 0) y)) in
    let one : s ≡ p ++ (x ++ y) = next_part pre (map_of 2) (x ++ y) all in
    let two : s ≡ (p ++ x) ++ y = next_part p x y one in
    map_start Kind.Reply s pre (x ++ y) 2 all eight (lit< tt)
    ∙ step_number Kind.Reply s p name_rc y nothing Key.Rc 0 1 one key_rc (lit< tt) (lit< tt) refl refl
    ∙ step_number Kind.Reply s (p ++ x) name_off [] _ Key.Off n 0 (last_part (p ++ x) y two) key_reply_off (lit< tt) fits refl refl
    ∙ walk_over Kind.Reply s ((p ++ x) ++ y) _ two

-- where the data of an upload with this many keys stands
abbrev pub data_at : List ℕ → ℕ → List ℕ → ℕ
data_at pre n x = length ((pre ++ map_of n) ++ text_of name_data) + length (head_of 2 (length x))

-- the data's field
abbrev pub with_data : ℕ → ℕ → Fields
with_data start n = stored Key.Data (Value.Bytes (run_is start n)) nothing

-- an upload past offset 0
module _ (s pre x : List ℕ) (off : ℕ) (parts : s ≡ pre ++ later_map x off) where
  -- the map's head and its two pairs
  later_all : s ≡ pre ++ (map_of 2 ++ ((text_of name_data ++ bytes_of x) ++ (text_of name_off ++ unsigned off)))
  later_all = parts ∙ ap (λ (l : List ℕ). pre ++ l) (later_parts x off)

  -- the head goes to what stands before the pairs
  later_one : s ≡ (pre ++ map_of 2) ++ ((text_of name_data ++ bytes_of x) ++ (text_of name_off ++ unsigned off))
  later_one = next_part pre (map_of 2) ((text_of name_data ++ bytes_of x) ++ (text_of name_off ++ unsigned off)) later_all

  -- it is read as the data and the offset
  pub later_read : length pre ≡ 8 → length x < 2 ^ 64 → off < 2 ^ 64 → map_from_def Kind.Upload s 8
      ≡ Some (stored Key.Off (Unsigned off) (with_data (data_at pre 2 x) (length x)))
  unfolding stored index_of type_for_def
  later_read eight fits small =
      let p : List ℕ = pre ++ map_of 2 in
      let d : List ℕ = text_of name_data ++ bytes_of x in
      let y : List ℕ = text_of name_off ++ unsigned off in
      let two : s ≡ (p ++ d) ++ y = next_part p d y later_one in
      map_start Kind.Upload s pre (d ++ y) 2 later_all eight (lit< tt)
      ∙ step_bytes Kind.Upload s p name_data x y nothing Key.Data 1 later_one key_data (lit< tt) fits refl refl
      ∙ step_number Kind.Upload s (p ++ d) name_off [] _ Key.Off off 0 (last_part (p ++ d) y two) key_off (lit< tt) small refl refl
      ∙ walk_over Kind.Upload s ((p ++ d) ++ y) _ two

  -- the data stands where the field says
  pub later_there : take (length x) (drop (data_at pre 2 x) s) ≡ x
  later_there = string_there s (pre ++ map_of 2) (text_of name_data) (head_of 2 (length x)) x (text_of name_off ++ unsigned off) later_one

-- the fields of the pairs that every upload at offset 0 has
abbrev pub pairs_fields : ℕ → ℕ → ℕ → Fields
pairs_fields start n size = stored Key.Off (Unsigned 0) (stored Key.Len (Unsigned size) (with_data start n))

-- those pairs, before what follows them
module _ (s p x : List ℕ) (size : ℕ) (post : List ℕ) (parts : s ≡ p ++ (first_pairs x size ++ post)) where
  -- the pairs one by one
  pairs_all : s ≡ p ++ ((text_of name_data ++ bytes_of x) ++ ((text_of name_len ++ unsigned size) ++ ((text_of name_off ++ unsigned 0) ++ post)))
  pairs_all =
      parts
      ∙ ap (λ (l : List ℕ). p ++ l) (regroup (text_of name_data ++ bytes_of x) (text_of name_len ++ unsigned size) (text_of name_off ++ unsigned 0) post)
    where
      regroup : (a b c d : List ℕ) → (a ++ (b ++ c)) ++ d ≡ a ++ (b ++ (c ++ d))
      regroup a b c d = simp append_assoc

  -- the walk goes on over all three
  pub pairs_read : length x < 2 ^ 64 → size < 2 ^ 64 → (count : ℕ)
      → walked Kind.Upload s (suc (suc (suc count))) (length p) nothing
      ≡ walked Kind.Upload s count (length (p ++ first_pairs x size)) (pairs_fields (length (p ++ text_of name_data) + length (head_of 2 (length x)))
      (length x) size)
  unfolding stored index_of type_for_def
  pairs_read fits small count =
      let d : List ℕ = text_of name_data ++ bytes_of x in
      let l : List ℕ = text_of name_len ++ unsigned size in
      let o : List ℕ = text_of name_off ++ unsigned 0 in
      let two : s ≡ (p ++ d) ++ (l ++ (o ++ post)) = next_part p d (l ++ (o ++ post)) pairs_all in
      let three : s ≡ ((p ++ d) ++ l) ++ (o ++ post) = next_part (p ++ d) l (o ++ post) two in
      let end : ((p ++ d) ++ l) ++ o ≡ p ++ first_pairs x size = append_assoc (p ++ d) l o ∙ append_assoc p d (l ++ o) in
      step_bytes Kind.Upload s p name_data x (l ++ (o ++ post)) nothing Key.Data (suc (suc count)) pairs_all key_data (lit< tt) fits refl refl
      ∙ step_number Kind.Upload s (p ++ d) name_len (o ++ post) _ Key.Len size (suc count) two key_len (lit< tt) small refl refl
      ∙ step_number Kind.Upload s ((p ++ d) ++ l) name_off post _ Key.Off 0 count three key_off (lit< tt) (lit< tt) refl refl
      ∙ ap (λ (y : List ℕ). walked Kind.Upload s count (length y) (pairs_fields (length (p ++ text_of name_data) + length (head_of 2 (length x)))
      (length x) size)) end

  -- the data stands where its field says
  pub pairs_there : take (length x) (drop (length (p ++ text_of name_data) + length (head_of 2 (length x))) s) ≡ x
  pairs_there =
      string_there s p (text_of name_data) (head_of 2 (length x)) x ((text_of name_len ++ unsigned size) ++ ((text_of name_off ++ unsigned 0) ++ post)) pairs_all

-- an upload at offset 0 without a tag
module _ (s pre x : List ℕ) (size : ℕ) (tag : List ℕ) (none : length tag ≡ 0) (parts : s ≡ pre ++ first_map x size tag) where
  -- the map's head and its pairs
  untagged_all : s ≡ pre ++ (map_of 3 ++ first_pairs x size)
  untagged_all = parts ∙ ap (λ (l : List ℕ). pre ++ l) (first_untagged x size tag none)

  -- the head goes to what stands before the pairs, and nothing stands after them
  untagged_one : s ≡ (pre ++ map_of 3) ++ (first_pairs x size ++ [])
  untagged_one = last_part (pre ++ map_of 3) (first_pairs x size) (next_part pre (map_of 3) (first_pairs x size) untagged_all)

  -- it is read as the data, the length and the offset 0
  pub untagged_read : length pre ≡ 8 → length x < 2 ^ 64 → size < 2 ^ 64 → map_from_def Kind.Upload s 8 ≡ Some (pairs_fields (data_at pre 3 x) (length x) size)
  untagged_read eight fits small =
      map_start Kind.Upload s pre (first_pairs x size) 3 untagged_all eight (lit< tt)
      ∙ pairs_read s (pre ++ map_of 3) x size [] untagged_one fits small 0
      ∙ walk_over Kind.Upload s ((pre ++ map_of 3) ++ first_pairs x size) _ (next_part pre (map_of 3) (first_pairs x size) untagged_all)

  -- the data stands where the field says
  pub untagged_there : take (length x) (drop (data_at pre 3 x) s) ≡ x
  untagged_there = pairs_there s (pre ++ map_of 3) x size [] untagged_one

-- where the tag of an upload at offset 0 stands
abbrev pub tag_place : List ℕ → List ℕ → ℕ → List ℕ → ℕ
tag_place pre x size tag = length (((pre ++ map_of 4) ++ first_pairs x size) ++ text_of name_sha) + length (head_of 2 (length tag))

-- an upload at offset 0 with a tag
module _ (s pre x : List ℕ) (size : ℕ) (tag : List ℕ) (full : length tag ≡ 0 → ⊥) (parts : s ≡ pre ++ first_map x size tag) where
  -- the map's head, its pairs and the tag
  tagged_all : s ≡ pre ++ (map_of 4 ++ (first_pairs x size ++ (text_of name_sha ++ bytes_of tag)))
  tagged_all = parts ∙ ap (λ (l : List ℕ). pre ++ l) (first_tagged x size tag full)

  -- the head goes to what stands before the pairs
  tagged_one : s ≡ (pre ++ map_of 4) ++ (first_pairs x size ++ (text_of name_sha ++ bytes_of tag))
  tagged_one = next_part pre (map_of 4) (first_pairs x size ++ (text_of name_sha ++ bytes_of tag)) tagged_all

  -- the pairs go to what stands before the tag
  tagged_two : s ≡ ((pre ++ map_of 4) ++ first_pairs x size) ++ (text_of name_sha ++ bytes_of tag)
  tagged_two = next_part (pre ++ map_of 4) (first_pairs x size) (text_of name_sha ++ bytes_of tag) tagged_one

  -- nothing stands after the tag
  tagged_last : s ≡ ((pre ++ map_of 4) ++ first_pairs x size) ++ ((text_of name_sha ++ bytes_of tag) ++ [])
  tagged_last = last_part ((pre ++ map_of 4) ++ first_pairs x size) (text_of name_sha ++ bytes_of tag) tagged_two

  -- it is read as the data, the length, the offset 0 and the tag
  pub tagged_read : length pre ≡ 8 → length x < 2 ^ 64 → size < 2 ^ 64 → length tag < 2 ^ 64
      → map_from_def Kind.Upload s 8
      ≡ Some (stored Key.Sha (Value.Bytes (run_is (tag_place pre x size tag) (length tag))) (pairs_fields (data_at pre 4 x) (length x) size))
  unfolding stored index_of type_for_def
  tagged_read eight fits small short =
      let p : List ℕ = (pre ++ map_of 4) ++ first_pairs x size in
      map_start Kind.Upload s pre (first_pairs x size ++ (text_of name_sha ++ bytes_of tag)) 4 tagged_all eight (lit< tt)
      ∙ pairs_read s (pre ++ map_of 4) x size (text_of name_sha ++ bytes_of tag) tagged_one fits small 1
      ∙ step_bytes Kind.Upload s p name_sha tag [] _ Key.Sha 0 tagged_last key_sha (lit< tt) short refl refl
      ∙ walk_over Kind.Upload s (p ++ (text_of name_sha ++ bytes_of tag)) _ tagged_two

  -- the data stands where the field says
  pub tagged_there : take (length x) (drop (data_at pre 4 x) s) ≡ x
  tagged_there = pairs_there s (pre ++ map_of 4) x size (text_of name_sha ++ bytes_of tag) tagged_one

  -- so does the tag
  pub tag_there : take (length tag) (drop (tag_place pre x size tag) s) ≡ tag
  tag_there = string_there s ((pre ++ map_of 4) ++ first_pairs x size) (text_of name_sha) (head_of 2 (length tag)) tag [] tagged_last
