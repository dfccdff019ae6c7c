-- The demand on the memory, for any history of acts: the memory is always the first one with a slot's worth of bytes in the slot's place,
-- and while a session is open these are the data written since its start and then 255s.
-- Assumes nothing.
use mathlib.Core.Path.{◌≡◌, refl, sym, ap, ap₂, subst, ◌∙◌}
use mathlib.Core.Bool.{true, false, false≢true}
use mathlib.Core.List.{List, [], ◌∷◌, ◌++◌, append_assoc, append-nil}
use Prim.Native.Nat.{ℕ, zero, suc, ◌+◌, ◌-◌, ◌≤◌, min, max}
use native.Mathlib.Decide.{dec_le}
use borrow.Author.Tests.{ltb-false}
use native.Mathlib.Nat.{add-zero}
use native.Mathlib.Omega.{arith}
use lib.ListN.{
  length,
  take,
  drop,
  replicate,
  length-append,
  length-drop,
  length-replicate,
  take-append-drop,
  replicate-append-replicate,
  drop_of_length-le,
}
use lib.Seq.{take_at, drop_at, take-take, take-add, drop-drop, length-take-le, take-append-add, take-append-le, drop-append-add, drop-append-le}
use Rattle.laws.specs.Bytes.{pasted}
use Rattle.laws.proofs.Lists.{pasted_is, pasted_start, pasted_length, pasted_take, pasted_drop}
use Rattle.session.specs.declared.Slot.{Slot}
use Rattle.session.specs.Session.{region_ok, overlapping, session_ok, State, closed}
use Rattle.slot.specs.Act.{Act, keep, append, start, erase, end, blank, done}
use Rattle.slot.specs.History.{Fit, History, begun, went, written, slot_in, Held, Demand, CutFrom, Sending, starts, goes_on, Unbroken, SameMemory}
use Rattle.session.proofs.Laws.{region_bounds, layout_bounds, session_bounds, session_is, session_closed}

-- equal bytes without the first of them
drop_replicate : (k n v : ℕ) → k ≤ n → drop k (replicate n v) ≡ replicate (n - k) v
drop_replicate k n v h =
    let e : k + (n - k) ≡ n = omega arith in
    ap (λ (i : ℕ). drop k (replicate i v)) (sym e)
    ∙ ap (λ (l : List ℕ). drop k l) (sym (replicate-append-replicate k (n - k) v))
    ∙ drop_at (replicate k v) (replicate (n - k) v) k (length-replicate k v)

-- writing within a part of a list that was written itself
pasted_within : (f : List ℕ) (a : ℕ) (t : List ℕ) (k : ℕ) (x : List ℕ) → a + length t ≤ length f → k + length x ≤ length t
    → pasted (pasted f a t) (a + k) x ≡ pasted f a (pasted t k x)
pasted_within f a t k x room h =
    let p = take a f in
    let q = drop (a + length t) f in
    let front : length p ≡ a = length-take-le a f (omega arith) in
    let same : length (pasted t k x) ≡ length t = pasted_length t k x h in
    ap₂ (λ (l : List ℕ) (i : ℕ). pasted l i x) (pasted_is f a t) (ap (λ (i : ℕ). i + k) (sym front))
    ∙ inside p t q k x h
    ∙ ap (λ (i : ℕ). p ++ (pasted t k x ++ drop (a + i) f)) (sym same)
    ∙ sym (pasted_is f a (pasted t k x))
  where
    inside : (p t q : List ℕ) (k : ℕ) (x : List ℕ) → k + length x ≤ length t
        → pasted (p ++ (t ++ q)) (length p + k) x ≡ p ++ (pasted t k x ++ q)
    inside p t q k x h =
        let e : length p + k + length x ≡ length p + (k + length x) = omega arith in
        rw (
          pasted_is (p ++ (t ++ q)) (length p + k) x,
          pasted_is t k x,
          e,
          take-append-add p (t ++ q) k,
          drop-append-add p (t ++ q) (k + length x),
          take-append-le k t q (omega arith),
          drop-append-le (k + length x) t q h,
        )
        (simp append_assoc)

-- writing at the start of such a part
pasted_at_start : (f : List ℕ) (a : ℕ) (t x : List ℕ) → a + length t ≤ length f → length x ≤ length t
    → pasted (pasted f a t) a x ≡ pasted f a (x ++ drop (length x) t)
pasted_at_start f a t x room h =
    ap (λ (i : ℕ). pasted (pasted f a t) i x) (sym (add-zero a))
    ∙ pasted_within f a t 0 x room (omega arith)
    ∙ ap (λ (l : List ℕ). pasted f a l) (pasted_start t x)

-- writing over the whole of such a part
pasted_over : (f : List ℕ) (a : ℕ) (t x : List ℕ) → a + length t ≤ length f → length x ≡ length t → pasted (pasted f a t) a x ≡ pasted f a x
pasted_over f a t x room h =
    pasted_at_start f a t x room (omega arith)
    ∙ ap (λ (l : List ℕ). pasted f a (x ++ l)) (drop_of_length-le t {i = length x} (omega arith))
    ∙ ap (λ (l : List ℕ). pasted f a l) (append-nil x)

-- a memory that is as another outside the slot is that other with its own slot's bytes in the slot's place
placed : (slot : Slot) (f m : List ℕ) → slot.start + slot.size ≤ length f → length m ≡ length f
    → take slot.start m ≡ take slot.start f
    → drop (slot.start + slot.size) m ≡ drop (slot.start + slot.size) f
    → (length (slot_in slot m) ≡ slot.size) × (m ≡ pasted f slot.start (slot_in slot m))
placed slot f m room size below beyond =
    let a = slot.start in
    let s = slot.size in
    let t = slot_in slot m in
    let n : length t ≡ s = length-take-le s (drop a m) (simp length-drop (omega arith)) in (
      n,
      sym (take-append-drop a m)
          ∙ ap (λ (l : List ℕ). take a m ++ l) (sym (take-append-drop s (drop a m)))
          ∙ ap₂ (λ (p q : List ℕ). p ++ (t ++ q)) below (drop-drop s a m ∙ beyond ∙ ap (λ (i : ℕ). drop (a + i) f) (sym n))
          ∙ sym (pasted_is f a t),
    )

-- the demand of a state whose memory is the first one with these bytes in the slot's place
held_by : (slot : Slot) (first : State) (acts : List Act) (st : State) (t : List ℕ) → slot.start + slot.size ≤ length first.memory
    → length t ≡ slot.size
    → st.memory ≡ pasted first.memory slot.start t
    → session_ok slot st.session ≡ true
    → (st.session.running ≡ true → take st.session.place t ≡ written acts)
    → (st.session.running ≡ true → drop st.session.place t ≡ replicate (slot.size - st.session.place) 255)
    → Held slot first acts st
held_by slot first acts st t room n e possible joined after =
    let a = slot.start in
    let s = slot.size in
    let f = first.memory in
    let front : length (take a f) ≡ a = length-take-le a f (omega arith) in
    let apart : st.memory ≡ take a f ++ (t ++ drop (a + s) f) =
    e ∙ pasted_is f a t ∙ ap (λ (i : ℕ). take a f ++ (t ++ drop (a + i) f)) n in
    let both : length (take a f ++ t) ≡ a + s = rw length-append (omega arith) in
    let whole : slot_in slot st.memory ≡ t =
    ap (λ (l : List ℕ). take s (drop a l)) apart
    ∙ ap (λ (l : List ℕ). take s l) (drop_at (take a f) (t ++ drop (a + s) f) a front)
    ∙ take_at t (drop (a + s) f) s n in
    record {
      below = ap (λ (l : List ℕ). take a l) apart ∙ take_at (take a f) (t ++ drop (a + s) f) a front;
      beyond =
          ap (λ (l : List ℕ). drop (a + s) l) (apart ∙ sym (append_assoc (take a f) t (drop (a + s) f)))
          ∙ drop_at (take a f ++ t) (drop (a + s) f) (a + s) both;
      size = ap length e ∙ pasted_length f a t (omega arith);
      possible = possible;
      joined = λ r. ap (λ (l : List ℕ). take st.session.place l) whole ∙ joined r;
      blank_after = λ r. ap (λ (l : List ℕ). drop st.session.place l) whole ∙ after r;
    }

-- what is demanded only of an open session holds of a closed one
never : {A : Type 0} → false ≡ true → A
never e = absurd (false≢true e)

-- a closed first state is as demanded
pub begun_held : (slot : Slot) (first : State) → first.session.running ≡ false → Held slot first [] first
begun_held slot first e =
    record {
      below = refl;
      beyond = refl;
      size = refl;
      possible = session_closed slot first.session e;
      joined = λ r. never (sym e ∙ r);
      blank_after = λ r. never (sym e ∙ r);
    }

-- a blank slot is the first memory with 255s in the slot's place
blanked : (slot : Slot) (f m : List ℕ) (t : List ℕ) → slot.start + slot.size ≤ length f → length t ≡ slot.size
    → m ≡ pasted f slot.start t
    → blank slot m ≡ pasted f slot.start (replicate slot.size 255)
unfolding blank
blanked slot f m t room n e =
    let full : List ℕ = replicate slot.size 255 in
    ap (λ (l : List ℕ). pasted l slot.start full) e
    ∙ pasted_over f slot.start t full (omega arith) (length-replicate slot.size 255 ∙ sym n)

-- 255s with x in their first places are as many as before
begun_with : (n : ℕ) (x : List ℕ) → length x ≤ n → length (x ++ drop (length x) (replicate n 255)) ≡ n
begun_with n x h = rw (length-append, length-drop, length-replicate) (omega arith)

-- 255s that follow a place still do so after data was put there
still_blank : (s : ℕ) (t : List ℕ) (n : ℕ) (x : List ℕ) → length t ≡ s → n + length x ≤ length t
    → drop n t ≡ replicate (s - n) 255
    → drop (n + length x) (pasted t n x) ≡ replicate (s - (n + length x)) 255
still_blank s t n x full room e =
    let less : s - n - length x ≡ s - (n + length x) = omega arith in
    (rw add-zero at (pasted_drop t n x 0 room))
    ∙ sym (drop-drop (length x) n t)
    ∙ ap (λ (l : List ℕ). drop (length x) l) e
    ∙ drop_replicate (length x) (s - n) 255 (omega arith)
    ∙ ap (λ (i : ℕ). replicate i 255) less

-- one act more: what was demanded before it holds after it
pub step_held : (slot : Slot) (first : State) (acts : List Act) (st : State) (a : Act) → region_ok slot (length first.memory) ≡ true
    → Held slot first acts st
    → Fit slot st.session a
    → Held slot first (a ∷ acts) (done slot a st)
unfolding Fit written done blank
step_held slot first acts st keep region h fit =
    record { below = h.below; beyond = h.beyond; size = h.size; possible = h.possible; joined = h.joined; blank_after = h.blank_after }
step_held slot first acts st (append off x) region h fit =
    let r = region_bounds slot (length first.memory) region in
    let b = session_bounds slot st.session h.possible fit.0 in
    let p = placed slot first.memory st.memory r.inside h.size h.below h.beyond in
    let n = st.session.place in
    let t = slot_in slot st.memory in
    let room : n + length x ≤ length t = omega arith in
    held_by slot first (append off x ∷ acts) (done slot (append off x) st) (pasted t n x) r.inside
    (pasted_length t n x room ∙ p.0)
    (ap (λ (m : List ℕ). pasted m (slot.start + n) x) p.1 ∙ pasted_within first.memory slot.start t n x (omega arith) room)
    (session_is slot (done slot (append off x) st).session b.some b.within (omega arith) (omega arith))
    (λ _. pasted_take t n x room ∙ ap (λ (l : List ℕ). l ++ x) (h.joined fit.0))
    (λ _. still_blank slot.size t n x p.0 room (h.blank_after fit.0))
step_held slot first acts st (start l tagged tag x) region h fit =
    let r = region_bounds slot (length first.memory) region in
    let f = first.memory in
    let p = placed slot f st.memory r.inside h.size h.below h.beyond in
    let full : List ℕ = replicate slot.size 255 in
    let n : length full ≡ slot.size = length-replicate slot.size 255 in
    held_by slot first (start l tagged tag x ∷ acts) (done slot (start l tagged tag x) st) (x ++ drop (length x) full) r.inside
    (begun_with slot.size x (omega arith))
    (ap (λ (m : List ℕ). pasted m slot.start x) (blanked slot f st.memory (slot_in slot st.memory) r.inside p.0 p.1)
    ∙ pasted_at_start f slot.start full x (omega arith) (omega arith))
    (session_is slot (done slot (start l tagged tag x) st).session (omega arith) fit.2 fit.0 fit.1)
    (λ _. take_at x (drop (length x) full) (length x) refl)
    (λ _. drop_at x (drop (length x) full) (length x) refl ∙ drop_replicate (length x) slot.size 255 (omega arith))
step_held slot first acts st erase region h fit =
    let r = region_bounds slot (length first.memory) region in
    let p = placed slot first.memory st.memory r.inside h.size h.below h.beyond in
    held_by slot first (erase ∷ acts) (done slot erase st) (replicate slot.size 255) r.inside
    (length-replicate slot.size 255)
    (blanked slot first.memory st.memory (slot_in slot st.memory) r.inside p.0 p.1)
    (session_closed slot closed refl)
    never
    never
step_held slot first acts st end region h fit =
    record { below = h.below; beyond = h.beyond; size = h.size; possible = session_closed slot closed refl; joined = never; blank_after = never }

-- the demand on the upload slot, in any history: by its acts, one at a time
held_always : (slot : Slot) (first : State) (acts : List Act) (st : State) → region_ok slot (length first.memory) ≡ true
    → first.session.running ≡ false
    → History slot first acts st
    → Held slot first acts st
held_always slot first acts st region e history = all history
  where
    all : {acts : List Act} {st : State} → History slot first acts st → Held slot first acts st
    all begun = begun_held slot first e
    all (went {acts} {st} before a fit) = step_held slot first acts st a region (all before) fit

-- a part of a list that ends early is a part of the list's front
part_take : (k a n : ℕ) (l : List ℕ) → a + n ≤ k → take n (drop a l) ≡ take n (drop a (take k l))
part_take k zero n l h = sym (take-take n k l (omega arith))
part_take zero (suc a) n l h = absurd (omega arith)
part_take (suc k) (suc a) n [] h = refl
part_take (suc k) (suc a) n (x ∷ l) h = part_take k a n l (omega arith)

-- a region that has no byte of the slot is the same in two memories that are the same outside the slot
outside_same : (region slot : Slot) (f m : List ℕ) → 1 ≤ slot.size → overlapping region slot ≡ false
    → take slot.start m ≡ take slot.start f
    → drop (slot.start + slot.size) m ≡ drop (slot.start + slot.size) f
    → slot_in region m ≡ slot_in region f
unfolding overlapping
outside_same region slot f m some e below beyond =
    let apart : min (region.start + region.size) (slot.start + slot.size) ≤ max region.start slot.start = ltb-false _ _ e in
    elim (dec_le (region.start + region.size) slot.start) [
      | yes h ↦ early m h ∙ ap (λ (l : List ℕ). take region.size (drop region.start l)) below ∙ sym (early f h)
      | no h ↦ elim (dec_le (slot.start + slot.size) region.start) [
        | yes k ↦ late m k ∙ ap (λ (l : List ℕ). take region.size (drop (region.start - (slot.start + slot.size)) l)) beyond ∙ sym (late f k)
        | no k ↦
            let none : region.size ≡ 0 = omega (arith, apart) in
            ap (λ (n : ℕ). take n (drop region.start m)) none ∙ sym (ap (λ (n : ℕ). take n (drop region.start f)) none)
      ]
    ]
  where
    early : (l : List ℕ) → region.start + region.size ≤ slot.start → slot_in region l ≡ take region.size (drop region.start (take slot.start l))
    early l h = part_take slot.start region.start region.size l h

    late : (l : List ℕ) → slot.start + slot.size ≤ region.start
        → slot_in region l ≡ take region.size (drop (region.start - (slot.start + slot.size)) (drop (slot.start + slot.size) l))
    late l h =
        let e : slot.start + slot.size + (region.start - (slot.start + slot.size)) ≡ region.start = omega arith in
        ap (λ (n : ℕ). take region.size (drop n l)) (sym e)
        ∙ ap (λ (q : List ℕ). take region.size q) (sym (drop-drop (region.start - (slot.start + slot.size)) (slot.start + slot.size) l))

-- the demand, in any history
pub demand : Demand
demand layout first acts st ok e history =
    let r = layout_bounds layout (length first.memory) ok in
    let h = held_always layout.slot1 first acts st r.upload e history in
    record {
      held = h;
      only_read =
          outside_same layout.slot0 layout.slot1 first.memory st.memory
          (region_bounds layout.slot1 (length first.memory) r.upload).some r.apart h.below h.beyond;
    }

-- an open session's place is the count of the bytes written since its start
written_length : (slot : Slot) (first : State) (acts : List Act) (st : State) → region_ok slot (length first.memory) ≡ true
    → Held slot first acts st
    → st.session.running ≡ true
    → length (written acts) ≡ st.session.place
written_length slot first acts st region h running =
    let r = region_bounds slot (length first.memory) region in
    let b = session_bounds slot st.session h.possible running in
    let p = placed slot first.memory st.memory r.inside h.size h.below h.beyond in
    ap length (sym (h.joined running)) ∙ length-take-le st.session.place (slot_in slot st.memory) (omega arith)

-- the data written since the start is the image's first bytes
abbrev Prefix : List ℕ → List Act → Type 0
Prefix image acts = written acts ≡ take (length (written acts)) image

-- one act more: a chunk that was cut from the image at the offset that it names, which is the session's place, goes on where the others end
cut_step : (slot : Slot) (first : State) (acts : List Act) (st : State) (a : Act) (image : List ℕ) → region_ok slot (length first.memory) ≡ true
    → Held slot first acts st
    → Fit slot st.session a
    → (CutFrom image acts → Prefix image acts)
    → CutFrom image (a ∷ acts)
    → Prefix image (a ∷ acts)
unfolding Fit CutFrom written
cut_step slot first acts st keep image region h fit so cut = so cut
cut_step slot first acts st (append off x) image region h fit so cut =
    let w = written acts in
    let at : off ≡ length w = fit.1 ∙ sym (written_length slot first acts st region h fit.0) in
    ap₂ (λ (a b : List ℕ). a ++ b) (so cut.1) (cut.0 ∙ ap (λ (n : ℕ). take (length x) (drop n image)) at)
    ∙ sym (take-add (length w) (length x) image)
    ∙ ap (λ (n : ℕ). take n image) (sym (length-append w x))
cut_step slot first acts st (start l tagged tag x) image region h fit so cut = cut
cut_step slot first acts st erase image region h fit so cut = refl
cut_step slot first acts st end image region h fit so cut = refl

-- in any history, chunks that were cut from one image are, joined, its first bytes
cut_joined : (slot : Slot) (first : State) (image : List ℕ) → region_ok slot (length first.memory) ≡ true → first.session.running ≡ false
    → {acts : List Act} {st : State} → History slot first acts st
    → CutFrom image acts
    → Prefix image acts
unfolding written
cut_joined slot first image region e begun cut = refl
cut_joined slot first image region e (went {acts} {st} before a fit) cut =
    let held = held_always slot first acts st region e before in
    cut_step slot first acts st a image region held fit (λ before-cut. cut_joined slot first image region e before before-cut) cut

-- chunks that were cut from one image are, joined, as many of its first bytes as the session's place says
cut_prefix : (slot : Slot) (first : State) (acts : List Act) (st : State) (image : List ℕ) → region_ok slot (length first.memory) ≡ true
    → first.session.running ≡ false
    → History slot first acts st
    → st.session.running ≡ true
    → CutFrom image acts
    → (written acts ≡ take st.session.place image) × (length (take st.session.place image) ≡ st.session.place)
cut_prefix slot first acts st image region e history running cut =
    let h = held_always slot first acts st region e history in
    let w : length (written acts) ≡ st.session.place = written_length slot first acts st region h running in
    let y : written acts ≡ take st.session.place image =
    cut_joined slot first image region e history cut ∙ ap (λ (i : ℕ). take i image) w in (y, ap length (sym y) ∙ w)

-- the memory is then a blank slot with those bytes at its start
cut_memory : (slot : Slot) (first : State) (acts : List Act) (st : State) (image : List ℕ) → region_ok slot (length first.memory) ≡ true
    → first.session.running ≡ false
    → History slot first acts st
    → st.session.running ≡ true
    → CutFrom image acts
    → st.memory ≡ pasted (blank slot first.memory) slot.start (take st.session.place image)
unfolding blank
cut_memory slot first acts st image region e history running cut =
    let h = held_always slot first acts st region e history in
    let r = region_bounds slot (length first.memory) region in
    let b = session_bounds slot st.session h.possible running in
    let p = placed slot first.memory st.memory r.inside h.size h.below h.beyond in
    let f = first.memory in
    let t = slot_in slot st.memory in
    let n = st.session.place in
    let full : List ℕ = replicate slot.size 255 in
    let all : length full ≡ slot.size = length-replicate slot.size 255 in
    let c = cut_prefix slot first acts st image region e history running cut in
    let k : length (take n image) ≡ n = c.1 in
    let after : drop n t ≡ drop (length (take n image)) full =
    h.blank_after running ∙ sym (drop_replicate n slot.size 255 (omega arith)) ∙ ap (λ (i : ℕ). drop i full) (sym k) in
    p.1
    ∙ ap (λ (l : List ℕ). pasted f slot.start l) (sym (take-append-drop n t) ∙ ap₂ (λ (u v : List ℕ). u ++ v) (h.joined running ∙ c.0) after)
    ∙ sym (pasted_at_start f slot.start full (take n image) (omega arith) (omega arith))

-- two histories of chunks of one image leave the same memory wherever they stand open at the same place
pub same_memory : SameMemory
same_memory slot image first first' acts acts' st st' region e e' alike history history' running running' level cut cut' =
    let region' : region_ok slot (length first'.memory) ≡ true = subst (λ (m : List ℕ). region_ok slot (length m) ≡ true) alike region in
    cut_memory slot first acts st image region e history running cut
    ∙ ap₂ (λ (m : List ℕ) (n : ℕ). pasted (blank slot m) slot.start (take n image)) alike level
    ∙ sym (cut_memory slot first' acts' st' image region' e' history' running' cut')

-- an unbroken sending is cut from its image
sending_cut : (image : List ℕ) {acts : List Act} → Sending image acts → CutFrom image acts
unfolding CutFrom
sending_cut image (starts l tagged tag x cut) = cut
sending_cut image (goes_on before off x cut) = (cut, sending_cut image before)

-- and leaves its session open
sending_open : (slot : Slot) (first : State) (image : List ℕ) {acts : List Act} {left : State} → Sending image acts → History slot first acts left
    → left.session.running ≡ true
unfolding done Fit
sending_open slot first image (starts l tagged tag x cut) (went history a fit) = refl
sending_open slot first image (goes_on before off x cut) (went history a fit) = fit.0

-- the demand's last sentence: the image's first n bytes sent at once, by one start, are such a sending
pub as_unbroken : Unbroken
unfolding done Fit
as_unbroken slot first acts st image region e history running cut =
    let h = held_always slot first acts st region e history in
    let b = session_bounds slot st.session h.possible running in
    let n = st.session.place in
    let x : List ℕ = take n image in
    let k : length x ≡ n = (cut_prefix slot first acts st image region e history running cut).1 in
    let all : Act = start st.session.length st.session.tagged st.tag x in
    record {
      acts = all ∷ [];
      left = done slot all first;
      sending = starts st.session.length st.session.tagged st.tag x (ap (λ (i : ℕ). take i image) (sym k));
      history = went begun all (omega (arith, k, b.begun), omega (arith, k, b.placed), b.within);
      place = k;
      memory = cut_memory slot first acts st image region e history running cut;
      every = λ acts' left' sending history' level.
          same_memory slot image first first acts acts' st left' region e e refl history history' running
          (sending_open slot first image sending history') (sym level) cut (sending_cut image sending);
    }
