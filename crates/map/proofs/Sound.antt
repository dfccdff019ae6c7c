-- Every string among the fields of a map that was read lies within the bytes that it was read from.
-- Assumes nothing.
use Prim.{Unit}
use Rattle.std.proofs.Common.{◌≡◌, ℕ, zero, suc, ◌+◌, ◌-◌, ◌<◌, List, length, take, drop}
use Rattle.std.specs.Prelude.{Option, Some, None, not}
use lib.Dec.{ltb, eqb}
use borrow.Author.Tests.{eqb-true, not-false}
use Rattle.laws.specs.Parts.{Within}
use Rattle.laws.proofs.Choice.{pick_case}
use Rattle.cbor.specs.declared.Value.{Value}
use Rattle.cbor.specs.declared.Head.{Head}
use Rattle.cbor.specs.declared.Item.{Item}
use Rattle.cbor.specs.Read.{head_at_def, item_at}
use Rattle.cbor.specs.Inner.{Inside, ItemWithin}
use Rattle.cbor.proofs.Laws.{item_within}
use Rattle.fields.specs.declared.Kind.{Kind}
use Rattle.fields.specs.declared.Key.{Key}
use Rattle.fields.specs.declared.Fields.{Fields}
use Rattle.fields.specs.Keys.{key_of, typed}
use Rattle.fields.specs.Fields.{index_of, nothing, there, run_in_def}
use Rattle.fields.proofs.Types.{types_apart}
use Rattle.fields.proofs.Sound.{Sound, nothing_sound, stored_sound, run_sound}
use Rattle.map.specs.Walk.{
  Found,
  entered,
  valued,
  keyed,
  pair_at,
  and_then,
  pairs,
  map_after,
  map_at_def,
  ending_at,
  map_from_def,
}

-- of what reading comes to
unfoldable FoundSound : List ℕ → Found → Type 0
FoundSound s None = Unit {0}
FoundSound s (Some r) = Sound s r.1

-- a pair
entered_sound : (s : List ℕ) (f : Fields) (k : Key) (v : Value) (next : ℕ) → Inside s v → Sound s f → FoundSound s (entered k v next f)
unfolding entered FoundSound
entered_sound s f k v next within o =
    pick_case (FoundSound s) (there k f) _ _ (λ g. tt)
    (λ g. pick_case (FoundSound s) (not (typed k v)) _ _ (λ t. tt)
    (λ t. stored_sound s f k v (types_apart _ _ (eqb-true _ _ (not-false _ t))) within o))

valued_sound : (s : List ℕ) (f : Fields) (key : Option Key) (at : ℕ) (i : Option Item) → ItemWithin s at i → Sound s f → FoundSound s (valued key f i)
unfolding valued FoundSound
valued_sound s f key at None w o = tt
valued_sound s f None at (Some i) w o = o
valued_sound s f (Some k) at (Some i) w o = entered_sound s f k i.value i.next w.2 o

keyed_sound : (kind : Kind) (s : List ℕ) (f : Fields) (h : Option Head) → Sound s f → FoundSound s (keyed kind s f h)
unfolding keyed FoundSound
keyed_sound kind s f None o = tt
keyed_sound kind s f (Some h) o =
    pick_case (FoundSound s) (not (eqb h.major 3)) _ _ (λ a. tt)
    (λ a. pick_case (FoundSound s) (ltb (length s - h.next) h.argument) _ _ (λ b. tt)
    (λ b. valued_sound s f (key_of kind (take h.argument (drop h.next s))) (h.next + h.argument) (item_at s (h.next + h.argument))
    (item_within s (h.next + h.argument)) o))

-- pairs in a row
then_sound : (s : List ℕ) (w : Found) (go : ℕ → Fields → Found) → FoundSound s w → ((at : ℕ) (f : Fields) → Sound s f → FoundSound s (go at f))
    → FoundSound s (and_then w go)
unfolding and_then FoundSound
then_sound s None go o each = tt
then_sound s (Some r) go o each = each r.0 r.1 o

pairs_sound : (kind : Kind) (s : List ℕ) (n at : ℕ) (f : Fields) → Sound s f → FoundSound s (pairs kind s n at f)
unfolding pairs FoundSound
pairs_sound kind s zero at f o = o
pairs_sound kind s (suc n) at f o =
    then_sound s (pair_at kind s at f) (λ at' f'. pairs kind s n at' f') (keyed_sound kind s f (head_at_def s at) o)
    (λ at' f' o'. pairs_sound kind s n at' f' o')

-- a map
after_sound : (kind : Kind) (s : List ℕ) (f : Fields) (h : Option Head) → Sound s f → FoundSound s (map_after kind s f h)
unfolding map_after FoundSound
after_sound kind s f None o = tt
after_sound kind s f (Some h) o = pick_case (FoundSound s) (eqb h.major 5) _ _ (λ a. pairs_sound kind s h.argument h.next f o) (λ a. tt)

-- of a packet's map
unfoldable MapSound : List ℕ → Option Fields → Type 0
MapSound s None = Unit {0}
MapSound s (Some f) = Sound s f

ending_sound : (s : List ℕ) (end : ℕ) (w : Found) → FoundSound s w → MapSound s (ending_at end w)
unfolding ending_at FoundSound MapSound
ending_sound s end None o = tt
ending_sound s end (Some r) o = pick_case (MapSound s) (eqb r.0 end) _ _ (λ h. o) (λ h. tt)

map_sound : (kind : Kind) (s : List ℕ) (from : ℕ) → MapSound s (map_from_def kind s from)
unfolding map_from_def map_at_def MapSound
map_sound kind s from =
    pick_case (MapSound s) (eqb (length s) from) _ _ (λ h. nothing_sound s)
    (λ h. ending_sound s (length s) (map_at_def kind s from nothing) (after_sound kind s nothing (head_at_def s from) (nothing_sound s)))

-- the string under a key of a map that was read, which holds one, lies within its bytes
pub map_run : (kind : Kind) (s : List ℕ) (from : ℕ) (f : Fields) → map_from_def kind s from ≡ Some f → (k : Key) → index_of k < 3 → Within s (run_in_def f k)
unfolding MapSound
map_run kind s from f e k h = run_sound s f k h (rw e at (map_sound kind s from))
