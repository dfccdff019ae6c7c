-- Areas and their entries at each way of their tests, what the entries still to come add to what was found, and that a hash lies in its region.
-- Assumes nothing.
use Prim.{Unit}
use mathlib.Core.Path.{◌≡◌, refl, sym, ap, ◌∙◌}
use mathlib.Core.Bool.{true, false, not, true≢false, false≢true}
use mathlib.Core.List.{List, [], ◌∷◌}
use Rattle.std.specs.Prelude.{Option, Some, None, is_some}
use Prim.Native.Nat.{ℕ, zero, suc, ◌+◌, ◌-◌, ◌≤◌, ◌<◌}
use native.Mathlib.Omega.{arith}
use lib.Dec.{ltb, eqb}
use lib.ListN.{length}
use borrow.Author.Tests.{lt-ltb, le-ltb, ltb-false, eq-eqb, ne_eqb, eqb-true}
use Rattle.laws.proofs.Choice.{pick_yes, pick_no, pick_case}
use Rattle.images.specs.declared.Area.{Area}
use Rattle.images.specs.Image.{
  le16_at,
  le32_at,
  header_ok,
  area_after_def,
  area_in_def,
  Entry,
  entry_at,
  followed,
  entries_from,
  entries,
  hashes,
  only_hash,
  hash_of,
  image_with,
  image_of,
  image_in_def,
}
use Rattle.images.specs.Inner.{ImageWithin}

-- an area's entries stand in order within the region
abbrev pub AreaWithin : List ℕ → Option Area → Type 0
AreaWithin s None = Unit {0}
AreaWithin s (Some a) = (a.start ≤ a.stop) × (a.stop ≤ length s)

-- so do those of every area
pub area_within : (s : List ℕ) → AreaWithin s (area_in_def s)
unfolding area_in_def area_after_def
area_within s =
    let within : Option Area → Type 0 = AreaWithin s in
    pick_case within (not (header_ok s)) _ _ (λ a. tt)
    (λ a. pick_case within (ltb (le16_at s 8) 32) _ _ (λ b. tt) (λ b. after (le16_at s 8 + le32_at s 12)))
  where
    after : (end : ℕ) → AreaWithin s (area_after_def s end)
    after end =
        let within : Option Area → Type 0 = AreaWithin s in
        pick_case within (ltb (length s) (end + 4)) _ _ (λ a. tt)
        (λ a. pick_case within (not (eqb (le16_at s end) 0x6907)) _ _ (λ b. tt)
        (λ b. pick_case within (ltb (le16_at s (end + 2)) 4) _ _ (λ c. tt)
        (λ c. pick_case within (ltb (length s) (end + le16_at s (end + 2))) _ _ (λ d. tt)
        (λ d.
        let four : 4 ≤ le16_at s (end + 2) = ltb-false _ _ c in
        (omega (arith, four), ltb-false _ _ d)))))

module _ (s : List ℕ) (stop : ℕ) where
  -- at the stop there are no entries
  pub entries_end : (n at : ℕ) → at ≡ stop → entries_from s stop n at ≡ Some []
  unfolding entries_from
  entries_end zero at e = simp (eq-eqb _ _ e, pick_yes)
  entries_end (suc n) at e = simp (eq-eqb _ _ e, pick_yes)

  -- less than an entry's head is left
  pub entries_cut : (n at : ℕ) → at < stop → stop - at < 4 → entries_from s stop n at ≡ None
  unfolding entries_from
  entries_cut zero at h k = simp (ne_eqb at stop (omega arith), pick_no)
  entries_cut (suc n) at h k = simp (ne_eqb at stop (omega arith), lt-ltb _ _ k, pick_no, pick_yes)

  -- an entry runs past the stop
  pub entries_long : (n at : ℕ) → at < stop → 4 ≤ stop - at → stop - (at + 4) < (entry_at s at).size → entries_from s stop n at ≡ None
  unfolding entries_from
  entries_long zero at h k l = simp (ne_eqb at stop (omega arith), pick_no)
  entries_long (suc n) at h k l = simp (ne_eqb at stop (omega arith), le-ltb _ _ k, lt-ltb _ _ l, pick_no, pick_yes)

  -- one entry more
  pub entries_next : (n at : ℕ) → at < stop → 4 ≤ stop - at → (entry_at s at).size ≤ stop - (at + 4)
      → entries_from s stop (suc n) at ≡ followed (entry_at s at) (entries_from s stop n (at + 4 + (entry_at s at).size))
  unfolding entries_from
  entries_next n at h k l = simp (ne_eqb at stop (omega arith), le-ltb _ _ k, le-ltb _ _ l, pick_no)

-- what is found in the end, where one hash or none was found and these SHA-256 entries are still to come
unfoldable pub coming : Option ℕ → List Entry → Option ℕ
coming None hs = only_hash hs
coming (Some hash) [] = Some hash
coming (Some hash) (e ∷ es) = None

-- what is found in the end, where these entries are still to come, if they are well formed
unfoldable pub settled : Option ℕ → Option (List Entry) → Option ℕ
settled f None = None
settled f (Some es) = coming f (hashes es)

-- from nothing on it is the hash of the entries
pub settled_all : (x : Option (List Entry)) → settled None x ≡ hash_of x
unfolding settled coming hash_of
settled_all None = refl
settled_all (Some es) = refl

-- in the end it is what was found
pub settled_end : (f : Option ℕ) → settled f (Some []) ≡ f
unfolding settled coming hashes only_hash
settled_end None = refl
settled_end (Some hash) = refl

-- and nothing where the rest is not well formed
pub settled_none : (f : Option ℕ) → settled f None ≡ None
unfolding settled
settled_none f = refl

-- an entry of another type settles nothing
pub settled_other : (f : Option ℕ) (e : Entry) (rest : Option (List Entry)) → (e.kind ≡ 0x10 → ⊥) → settled f (followed e rest) ≡ settled f rest
unfolding settled followed hashes
settled_other f e None h = refl
settled_other f e (Some es) h = simp (ne_eqb e.kind 0x10 h, pick_no)

-- the first SHA-256 entry, of 32 bytes, is found
pub settled_first : (f : Option ℕ) (e : Entry) (rest : Option (List Entry)) → is_some f ≡ false → e.kind ≡ 0x10 → e.size ≡ 32
    → settled f (followed e rest) ≡ settled (Some e.place) rest
unfolding settled followed hashes coming only_hash
settled_first (Some hash) e rest n h k = absurd (true≢false n)
settled_first None e None n h k = refl
settled_first None e (Some es) n h k = simp (eq-eqb e.kind 0x10 h, pick_yes) (alone (hashes es))
  where
    alone : (hs : List Entry) → coming None (e ∷ hs) ≡ coming (Some e.place) hs
    alone [] = simp (eq-eqb e.size 32 k, pick_yes)
    alone (x ∷ hs) = refl

-- a SHA-256 entry of another length
pub settled_size : (f : Option ℕ) (e : Entry) (rest : Option (List Entry)) → e.kind ≡ 0x10 → (e.size ≡ 32 → ⊥) → settled f (followed e rest) ≡ None
unfolding settled followed hashes coming only_hash
settled_size f e None h k = refl
settled_size f e (Some es) h k = simp (eq-eqb e.kind 0x10 h, pick_yes) (never f (hashes es))
  where
    never : (f : Option ℕ) (hs : List Entry) → coming f (e ∷ hs) ≡ None
    never None [] = simp (ne_eqb e.size 32 k, pick_no)
    never None (x ∷ hs) = refl
    never (Some hash) hs = refl

-- a second SHA-256 entry
pub settled_second : (f : Option ℕ) (e : Entry) (rest : Option (List Entry)) → is_some f ≡ true → e.kind ≡ 0x10 → settled f (followed e rest) ≡ None
unfolding settled followed hashes coming
settled_second None e rest s h = absurd (false≢true s)
settled_second (Some hash) e None s h = refl
settled_second (Some hash) e (Some es) s h = simp (eq-eqb e.kind 0x10 h, pick_yes)

-- how far the search has come at a place
pub record Came (s : List ℕ) (start stop at : ℕ) (f : Option ℕ) : Type 0 where
  pub left : ℕ
  pub enough : stop - at ≤ left
  pub same : hash_of (entries s start stop) ≡ settled f (entries_from s stop left at)

-- it has begun
pub came_none : (s : List ℕ) (start stop : ℕ) → Came s start stop start None
came_none s start stop = record { left = stop - start; enough = omega arith; same = sym (settled_all (entries s start stop)) }

-- one entry more, which leaves this found
pub came_more : (s : List ℕ) (start stop at : ℕ) (f g : Option ℕ) → Came s start stop at f → at < stop → 4 ≤ stop - at
    → (entry_at s at).size ≤ stop - (at + 4)
    → ((rest : Option (List Entry)) → settled f (followed (entry_at s at) rest) ≡ settled g rest)
    → Came s start stop (at + 4 + (entry_at s at).size) g
came_more s start stop at f g c h k l step =
    let one : c.left ≡ suc (c.left - 1) = omega (arith, c.enough) in
    record {
      left = c.left - 1;
      enough = omega (arith, c.enough);
      same =
          c.same
          ∙ ap (λ (n : ℕ). settled f (entries_from s stop n at)) one
          ∙ ap (settled f) (entries_next s stop (c.left - 1) at h k l)
          ∙ step (entries_from s stop (c.left - 1) (at + 4 + (entry_at s at).size));
    }

-- one entry more, which leaves nothing to be found
pub came_over : (s : List ℕ) (start stop at : ℕ) (f : Option ℕ) → Came s start stop at f → at < stop → 4 ≤ stop - at
    → (entry_at s at).size ≤ stop - (at + 4)
    → ((rest : Option (List Entry)) → settled f (followed (entry_at s at) rest) ≡ None)
    → None ≡ hash_of (entries s start stop)
came_over s start stop at f c h k l step =
    let one : c.left ≡ suc (c.left - 1) = omega (arith, c.enough) in
    sym (
    c.same
    ∙ ap (λ (n : ℕ). settled f (entries_from s stop n at)) one
    ∙ ap (settled f) (entries_next s stop (c.left - 1) at h k l)
    ∙ step (entries_from s stop (c.left - 1) (at + 4 + (entry_at s at).size))
    )

-- the entries are not well formed
pub came_bad : (s : List ℕ) (start stop at : ℕ) (f : Option ℕ) (c : Came s start stop at f) → entries_from s stop c.left at ≡ None
    → None ≡ hash_of (entries s start stop)
came_bad s start stop at f c e = sym (c.same ∙ ap (settled f) e ∙ settled_none f)

-- it has come to the stop
pub came_end : (s : List ℕ) (start stop at : ℕ) (f : Option ℕ) → Came s start stop at f → at ≡ stop → f ≡ hash_of (entries s start stop)
came_end s start stop at f c e = sym (c.same ∙ ap (settled f) (entries_end s stop c.left at e) ∙ settled_end f)

-- entries that end by a stop
abbrev Ends : ℕ → List Entry → Type 0
Ends stop [] = Unit {0}
Ends stop (e ∷ es) = (e.place + e.size ≤ stop) × Ends stop es

-- so do those that are well formed up to it
abbrev EndsAll : ℕ → Option (List Entry) → Type 0
EndsAll stop None = Unit {0}
EndsAll stop (Some es) = Ends stop es

followed_ends : (stop : ℕ) (e : Entry) (x : Option (List Entry)) → e.place + e.size ≤ stop → EndsAll stop x → EndsAll stop (followed e x)
unfolding followed
followed_ends stop e None h x = tt
followed_ends stop e (Some es) h x = (h, x)

entries_ends : (s : List ℕ) (stop n at : ℕ) → at ≤ stop → EndsAll stop (entries_from s stop n at)
unfolding entries_from
entries_ends s stop zero at h = pick_case (EndsAll stop) (eqb at stop) _ _ (λ e. tt) (λ e. tt)
entries_ends s stop (suc n) at h = by_tests (entries_ends s stop n (at + 4 + (entry_at s at).size))
  where
    by_tests : (at + 4 + (entry_at s at).size ≤ stop → EndsAll stop (entries_from s stop n (at + 4 + (entry_at s at).size)))
        → EndsAll stop (entries_from s stop (suc n) at)
    by_tests rest =
        pick_case (EndsAll stop) (eqb at stop) _ _ (λ e. tt)
        (λ e. pick_case (EndsAll stop) (ltb (stop - at) 4) _ _ (λ f. tt)
        (λ f. pick_case (EndsAll stop) (ltb (stop - (at + 4)) (entry_at s at).size) _ _ (λ g. tt)
        (λ g.
        let four : 4 ≤ stop - at = ltb-false _ _ f in
        let room : (entry_at s at).size ≤ stop - (at + 4) = ltb-false _ _ g in
        followed_ends stop (entry_at s at) _ (omega (arith, four, room)) (rest (omega (arith, four, room))))))

-- so do the SHA-256 entries among them
hashes_ends : (stop : ℕ) (es : List Entry) → Ends stop es → Ends stop (hashes es)
unfolding hashes
hashes_ends stop [] h = tt
hashes_ends stop (e ∷ es) h = pick_case (Ends stop) (eqb e.kind 0x10) _ _ (λ t. (h.0, hashes_ends stop es h.1)) (λ t. hashes_ends stop es h.1)

-- a place of 32 bytes, where there is one, ends by a stop
abbrev HashEnds : ℕ → Option ℕ → Type 0
HashEnds stop None = Unit {0}
HashEnds stop (Some hash) = hash + 32 ≤ stop

only_ends : (stop : ℕ) (es : List Entry) → Ends stop es → HashEnds stop (only_hash es)
unfolding only_hash
only_ends stop [] h = tt
only_ends stop (e ∷ []) h =
    pick_case (HashEnds stop) (eqb e.size 32) _ _
    (λ t.
    let size : e.size ≡ 32 = eqb-true _ _ t in
    omega (arith, size, h.0))
    (λ t. tt)
only_ends stop (e ∷ f ∷ es) h = tt

hash_ends : (stop : ℕ) (x : Option (List Entry)) → EndsAll stop x → HashEnds stop (hash_of x)
unfolding hash_of
hash_ends stop None h = tt
hash_ends stop (Some es) h = only_ends stop (hashes es) (hashes_ends stop es h)

-- an image's hash lies in its region
pub image_within_lem : (s : List ℕ) → ImageWithin s (image_in_def s)
unfolding image_of image_with
image_within_lem s = by-area (area_in_def s) (area_within s)
  where
    by-hash : (stop : ℕ) (x : Option ℕ) → stop ≤ length s → HashEnds stop x → ImageWithin s (image_with s x)
    by-hash stop None h k = tt
    by-hash stop (Some hash) h k = omega (arith, h, k)

    by-area : (a : Option Area) → AreaWithin s a → ImageWithin s (image_of s a)
    by-area None h = tt
    by-area (Some a) h =
        let all = entries s a.start a.stop in
        by-hash a.stop (hash_of all) h.1 (hash_ends a.stop all (entries_ends s a.stop (a.stop - a.start) a.start h.0))
