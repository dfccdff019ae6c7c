-- A packet's map: "empty, meaning an empty map, or one definite-length CBOR map with text keys and nothing after it". Places count from the
-- packet's first byte.
-- Assumes nothing.
use Rattle.std.specs.Prelude.{ℕ, zero, suc, ◌+◌, ◌-◌, not, List, ltb, eqb, length, take, drop, Option, Some, None}
use Rattle.laws.specs.Choice.{pick}
use Rattle.cbor.specs.declared.Value.{Value}
use Rattle.cbor.specs.declared.Head.{Head}
use Rattle.cbor.specs.declared.Item.{Item}
use Rattle.cbor.specs.Read.{head_at_def, item_at}
use Rattle.fields.specs.declared.Kind.{Kind}
use Rattle.fields.specs.declared.Key.{Key}
use Rattle.fields.specs.declared.Fields.{Fields}
use Rattle.fields.specs.Keys.{key_of, typed}
use Rattle.fields.specs.Fields.{nothing, there, stored}

-- what reading comes to: none where this is malformed, or a place reached with the fields so far
abbrev pub Found : Type 0
Found = Option (ℕ × Fields)

-- a pair of a known key before place `next` is entered: known keys "occur at most once, with the type listed"
unfoldable pub entered : Key → Value → ℕ → Fields → Found
entered k v next f =
    pick (there k f) None
    (pick (not (typed k v)) None
    (Some (next, stored k v f)))

-- a pair by its key, if that is known, and its value: "other keys are skipped"
unfoldable pub valued : Option Key → Fields → Option Item → Found
valued key f None = None
valued None f (Some i) = Some (i.next, f)
valued (Some k) f (Some i) = entered k i.value i.next f

-- a pair by the head of its key, which is a text
unfoldable pub keyed : Kind → List ℕ → Fields → Option Head → Found
keyed kind s f None = None
keyed kind s f (Some h) =
    pick (not (eqb h.major 3)) None
    (pick (ltb (length s - h.next) h.argument) None
    (valued (key_of kind (take h.argument (drop h.next s))) f (item_at s (h.next + h.argument))))

-- the pair at a place
abbrev pub pair_at : Kind → List ℕ → ℕ → Fields → Found
pair_at kind s at f = keyed kind s f (head_at_def s at)

-- what follows, where all is well formed so far
unfoldable pub and_then : Found → (ℕ → Fields → Found) → Found
and_then None go = None
and_then (Some r) go = go r.0 r.1

-- n pairs from a place on
unfoldable pub pairs : Kind → List ℕ → ℕ → ℕ → Fields → Found
pairs kind s zero at f = Some (at, f)
pairs kind s (suc n) at f = and_then (pair_at kind s at f) (λ at' f'. pairs kind s n at' f')

-- the map that a head begins
unfoldable pub map_after : Kind → List ℕ → Fields → Option Head → Found
map_after kind s f None = None
map_after kind s f (Some h) = pick (eqb h.major 5) (pairs kind s h.argument h.next f) None

-- the map at a place, whatever follows it
unfoldable pub map_at_def : Kind → List ℕ → ℕ → Fields → Found
map_at_def kind s at f = map_after kind s f (head_at_def s at)

-- "and nothing after it"
unfoldable pub ending_at : ℕ → Found → Option Fields
ending_at end None = None
ending_at end (Some r) = pick (eqb r.0 end) (Some r.1) None

-- the fields of the map of a packet whose payload begins at a place: none there means the empty map; no fields where it is malformed
unfoldable pub map_from_def : Kind → List ℕ → ℕ → Option Fields
map_from_def kind s from = pick (eqb (length s) from) (Some nothing) (ending_at (length s) (map_at_def kind s from nothing))
