-- What a run of full groups from the start of a text is: no group, one group more, the first at fault, and the whole text with its last
-- group.
-- Assumes nothing.
use mathlib.Core.Path.{◌≡◌, refl, sym, ap, ◌∙◌}
use Prim.Native.Nat.{ℕ, suc, ◌+◌, ◌*◌, ◌%◌, ◌≤◌, ◌<◌}
use native.Mathlib.Numerals.{add-one, add-two, add-three, add-four}
use native.Mathlib.Omega.{arith}
use native.Mathlib.Nat.{add-zero}
use mathlib.Core.Bool.{true, false}
use mathlib.Core.List.{List, [], ◌∷◌, ◌++◌, append_assoc, append-nil}
use mathlib.Core.Option.{Option, none, some}
use lib.ListN.{length, get_or, drop, length-append, length-drop, drop_of_length-le}
use lib.Seq.{drop-cons}
use borrow.Author.Tests.{eq-eqb, ne_eqb}
use Rattle.laws.specs.Bytes.{pasted}
use Rattle.laws.specs.Choice.{pick}
use Rattle.laws.proofs.Choice.{pick_yes, pick_no}
use Rattle.laws.proofs.Lists.{pasted_none, part_pasted, rest_all}
use Rattle.std.specs.Prelude.{None, Some}
use Rattle.std.specs.Prelude as answer
use Rattle.std.proofs.lemmas.List.{get_or-drop}
use Rattle.strict_base64.specs.Base64.{final, ahead, decode}
use Rattle.decoder.specs.Inner.{Decodes, length_in, bytes_in, kept, stored, full_at, three_at, final_at, Group, Passed, Last}
use Rattle.strict_base64.proofs.Laws.{three_length, decode_more, decode_groups, final_length}
use Rattle.strict_base64.proofs.Pasted.{from_on, part_now, pasted_next}
use Rattle.decoder.proofs.Kept.{kept_more}

-- four elements from a place on, and the rest
four_more : (t : List ℕ) (i : ℕ) → i + 4 ≤ length t → drop i t ≡ get_or t i 0 ∷ get_or t (i + 1) 0 ∷ get_or t (i + 2) 0 ∷ get_or t (i + 3) 0 ∷ drop (i + 4) t
four_more t i h =
    rw (add-one, add-two, add-three, add-four)
    (drop-cons t i 0 (omega arith)
    ∙ ap (λ (l : List ℕ). get_or t i 0 ∷ l) (drop-cons t (suc i) 0 (omega arith)
    ∙ ap (λ (l : List ℕ). get_or t (suc i) 0 ∷ l) (drop-cons t (suc (suc i)) 0 (omega arith)
    ∙ ap (λ (l : List ℕ). get_or t (suc (suc i)) 0 ∷ l) (drop-cons t (suc (suc (suc i))) 0 (omega arith)))))

-- the last four elements
four_last : (t : List ℕ) (i : ℕ) → length t ≡ i + 4 → drop i t ≡ get_or t i 0 ∷ get_or t (i + 1) 0 ∷ get_or t (i + 2) 0 ∷ get_or t (i + 3) 0 ∷ []
four_last t i e =
    four_more t i (omega arith)
    ∙ ap (λ (l : List ℕ). get_or t i 0 ∷ get_or t (i + 1) 0 ∷ get_or t (i + 2) 0 ∷ get_or t (i + 3) 0 ∷ l) (drop_of_length-le t {i = i + 4} (omega arith))

-- nothing before a text is the text
ahead_none : (o : Option (List ℕ)) → ahead [] o ≡ o
unfolding ahead
ahead_none none = refl
ahead_none (some x) = refl

-- bytes before bytes before a text
ahead_twice : (x y : List ℕ) (o : Option (List ℕ)) → ahead x (ahead y o) ≡ ahead (x ++ y) o
unfolding ahead
ahead_twice x y none = refl
ahead_twice x y (some z) = ap some (sym (append_assoc x y z))

-- no group has passed
pub passed_none : (t : List ℕ) → Passed t 0 []
passed_none t = record { size = refl; keeps = refl; verdict = sym (ahead_none (decode t)) }

-- a text of which some groups have passed, and which has more than one group left
module _ (t x : List ℕ) (g : ℕ) (p : Passed t g x) (h : 4 * g + 4 < length t) where
  -- some text follows the group
  after : 0 < length (drop (4 * g + 4) t)
  after = rw length-drop (omega arith)

  -- what the text left keeps and decodes to, by its first group
  keeps_left : kept (drop (4 * g) t) ≡ pick (full_at t (4 * g)) (three_at t (4 * g) ++ kept (drop (4 * g + 4) t)) []
  keeps_left = ap kept (four_more t (4 * g) (omega arith)) ∙ kept_more _ _ _ _ (drop (4 * g + 4) t) after

  decodes_left : decode (drop (4 * g) t) ≡ pick (full_at t (4 * g)) (ahead (three_at t (4 * g)) (decode (drop (4 * g + 4) t))) none
  decodes_left = ap decode (four_more t (4 * g) (omega arith)) ∙ decode_more _ _ _ _ (drop (4 * g + 4) t) after

  -- the group is full: it has passed too
  passed_next : full_at t (4 * g) ≡ true → Passed t (g + 1) (x ++ three_at t (4 * g))
  passed_next f =
      let n : 4 * (g + 1) ≡ 4 * g + 4 = omega arith in
      let u = drop (4 * g + 4) t in
      let y = three_at t (4 * g) in
      record {
        size = rw (length-append x y, three_length) (omega (arith, p.size));
        keeps = rw n (p.keeps ∙ rw (keeps_left, f, pick_yes) (sym (append_assoc x y (kept u))));
        verdict = rw n (p.verdict ∙ rw (decodes_left, f, pick_yes) (ahead_twice x y (decode u)));
      }

  -- the group is at fault: nothing more is kept, and nothing decoded
  passed_stop : full_at t (4 * g) ≡ false → (kept t ≡ x) × (decode t ≡ none)
  unfolding ahead
  passed_stop f = (p.keeps ∙ rw (keeps_left, f, pick_no) (append-nil x), p.verdict ∙ rw (decodes_left, f, pick_no) refl)

-- a text of which all groups but the last have passed
module _ (t x : List ℕ) (g : ℕ) (p : Passed t g x) (h : length t ≡ 4 * g + 4) where
  -- what it keeps and decodes to, by its last group
  passed_last : (kept t ≡ x ++ bytes_in (final_at t (4 * g))) × (decode t ≡ ahead x (final_at t (4 * g)))
  unfolding kept decode
  passed_last =
      let e = four_last t (4 * g) h in
      (p.keeps ∙ ap (λ (l : List ℕ). x ++ kept l) e, p.verdict ∙ ap (λ (l : List ℕ). ahead x (decode l)) e)

-- a text in groups of four stores what it keeps
stored_kept : (t : List ℕ) → length t % 4 ≡ 0 → stored t ≡ kept t
unfolding stored
stored_kept t h = rw (eq-eqb (length t % 4) 0 h) (pick_yes (kept t) [])

-- the four characters from i on, read where they start
full_there : (t : List ℕ) (i : ℕ) → full_at (from_on i t) 0 ≡ full_at t i
full_there t i = rw rest_all (simp (get_or-drop, add-zero))

-- their bytes
three_there : (t : List ℕ) (i : ℕ) → three_at (from_on i t) 0 ≡ three_at t i
three_there t i = rw rest_all (simp (get_or-drop, add-zero))

-- the last group of a text, read where it starts
final_there : (t : List ℕ) (i : ℕ) → final_at (from_on i t) 0 ≡ final_at t i
final_there t i = rw rest_all (simp (get_or-drop, add-zero))

-- a turn of the loop over groups: the bytes so far, then one group more, which starts where its characters and its bytes do
module _ (t x : List ℕ) (g : ℕ) (m b e : List ℕ) (ht : 4 * g + 4 < length t) (hm : 3 * g ≤ length m)
    (p : Passed t g x) (eb : b ≡ pasted m 0 x) where
  -- the group is full
  pub groups_next : Group (from_on (4 * g) t) (from_on (3 * g) b) true e → (y : List ℕ) × Passed t (g + 1) y × (part_now (3 * g) b e ≡ pasted m 0 y)
  groups_next one =
      let f : full_at t (4 * g) ≡ true = sym (full_there t (4 * g)) ∙ sym one.verdict in (
        x ++ three_at t (4 * g),
        passed_next t x g p ht f,
        part_pasted b (3 * g) _ e one.bytes
            ∙ rw (eb, full_there t (4 * g), f, pick_yes, three_there t (4 * g)) (pasted_next m x (three_at t (4 * g)) (3 * g) p.size hm),
      )

  -- the group is at fault
  pub groups_stop : Group (from_on (4 * g) t) (from_on (3 * g) b) false e → length t % 4 ≡ 0 → Decodes t m None (part_now (3 * g) b e)
  unfolding length_in
  groups_stop one four =
      let f : full_at t (4 * g) ≡ false = sym (full_there t (4 * g)) ∙ sym one.verdict in
      let stop = passed_stop t x g p ht f in
      record {
        verdict = rw stop.1 refl;
        bytes =
            part_pasted b (3 * g) _ e one.bytes
            ∙ rw (full_there t (4 * g), f, pick_no, stored_kept t four, stop.0) (pasted_none b (3 * g) ∙ eb);
      }

-- a text that is not in groups of four stores nothing
stored_none : (t : List ℕ) → (length t % 4 ≡ 0 → ⊥) → stored t ≡ []
unfolding stored
stored_none t h = rw (ne_eqb (length t % 4) 0 h) (pick_no (kept t) [])

-- a text that is not in groups of four
pub decodes_uneven : (t d : List ℕ) → (length t % 4 ≡ 0 → ⊥) → Decodes t d None d
unfolding length_in
decodes_uneven t d h = record { verdict = rw (by-case (decode t) refl) refl; bytes = rw (stored_none t h) (sym (pasted_none d 0)) }
  where
    by-case : (o : Option (List ℕ)) → decode t ≡ o → o ≡ none
    by-case none e = refl
    by-case (some x) e = absurd (h (decode_groups t x e))

-- a text of no character
pub decodes_empty : (t d : List ℕ) → length t ≡ 0 → Decodes t d None d
unfolding length_in decode kept stored pick
decodes_empty [] d h = record { verdict = refl; bytes = sym (pasted_none d 0) }
decodes_empty (a ∷ t) d h = absurd (omega arith)

-- bytes before a last group are as many as both together
length_whole : (x : List ℕ) (o : Option (List ℕ)) (n k : ℕ) → length x ≡ n → Some k ≡ length_in o → Some (n + k) ≡ length_in (ahead x o)
unfolding length_in ahead
length_whole x none n k h e = absurd cc
length_whole x (some y) n k h e = let z : k ≡ length y = cc in ap Some (rw (length-append x y, h, z) refl)

-- bytes before a last group that is at fault are of a text that is not well formed
length_none : (x : List ℕ) (o : Option (List ℕ)) → None ≡ length_in o → None ≡ length_in (ahead x o)
unfolding length_in ahead
length_none x none e = refl
length_none x (some y) e = absurd cc

-- a last group has three bytes at most
pub last_most : (a b c d : ℕ) (m : List ℕ) (k : ℕ) (e : List ℕ) → Last (final a b c d) m (Some k) e → k ≤ 3
unfolding length_in
last_most a b c d m k e l = by-case (final a b c d) refl l.count
  where
    by-case : (x : Option (List ℕ)) → final a b c d ≡ x → Some k ≡ length_in x → k ≤ 3
    by-case none f w = absurd cc
    by-case (some y) f w = let z : k ≡ length y = cc in omega (arith, final_length a b c d y f)

-- a text whose groups before the last are full
module _ (t d b e x : List ℕ) (g : ℕ) (r : answer.Option ℕ) (h : length t ≡ 4 * g + 4) (room : 3 * g + 3 ≤ length d)
    (p : Passed t g x) (eb : b ≡ pasted d 0 x) (last : Last (final_at (from_on (4 * g) t) 0) (from_on (3 * g) b) r e) where
  -- what they and the last group make
  parts : (kept t ≡ x ++ bytes_in (final_at t (4 * g))) × (decode t ≡ ahead x (final_at t (4 * g)))
  parts = passed_last t x g p h

  -- every byte of the lent buffer
  bytes_whole : part_now (3 * g) b e ≡ pasted d 0 (stored t)
  bytes_whole =
      part_pasted b (3 * g) _ e last.bytes
      ∙ rw (stored_kept t (omega arith), parts.0, eb, final_there t (4 * g))
      (pasted_next d x (bytes_in (final_at t (4 * g))) (3 * g) p.size (omega arith))

  -- the last group is at fault
  pub decodes_bad : r ≡ None → Decodes t d None (part_now (3 * g) b e)
  decodes_bad z =
      record {
        verdict = rw parts.1 (length_none x (final_at t (4 * g)) (sym z ∙ last.count ∙ ap length_in (final_there t (4 * g))));
        bytes = bytes_whole;
      }

  -- the text is well formed
  pub decodes_good : (k : ℕ) → r ≡ Some k → Decodes t d (Some (3 * g + k)) (part_now (3 * g) b e)
  decodes_good k z =
      record {
        verdict = rw parts.1 (length_whole x (final_at t (4 * g)) (3 * g) k p.size (sym z ∙ last.count ∙ ap length_in (final_there t (4 * g))));
        bytes = bytes_whole;
      }
