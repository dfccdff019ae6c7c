-- The reply to an echo is no longer than its request: the text of a request stands behind its header, its map's head, its key and a head of
-- its own, and the reply has the shortest of each.
-- Assumes nothing.
use Prim.{Unit}
use mathlib.Core.Path.{◌≡◌, refl, ap, subst, ◌∙◌}
use mathlib.Core.Bool.{not}
use mathlib.Core.List.{List}
use Prim.Native.Nat.{ℕ, zero, suc, ◌+◌, ◌-◌, ◌≤◌}
use native.Mathlib.Omega.{arith}
use lib.Dec.{ltb, eqb}
use lib.ListN.{length, take, drop, length-set, length-take, length-drop}
use borrow.Author.Tests.{eqb-true, not-false}
use Rattle.std.specs.Prelude.{Option, Some, None, Result, Ok, Err}
use Rattle.laws.specs.declared.Run.{Run}
use Rattle.laws.specs.Bytes.{Bytes, same}
use Rattle.laws.proofs.Choice.{pick_case}
use Rattle.laws.proofs.Lists.{same_true}
use Rattle.reason.specs.declared.Reason.{Reason}
use Rattle.cbor.specs.declared.Value.{Value}
use Rattle.cbor.specs.declared.Value.TheVariants.{Unsigned, Negative, Text, Flag, Null}
use Rattle.cbor.specs.declared.Head.{Head}
use Rattle.cbor.specs.declared.Item.{Item}
use Rattle.cbor.specs.Read.{head_at_def, item_at}
use Rattle.cbor.specs.Write.{head_len_def}
use Rattle.cbor.specs.Inner.{HeadWithin, ItemWithin, StringLeast, ItemLeast}
use Rattle.cbor.proofs.Laws.{head_long, head_within, item_within}
use Rattle.cbor.proofs.Least.{item_least}
use Rattle.fields.specs.declared.Kind.{Kind}
use Rattle.fields.specs.declared.Key.{Key}
use Rattle.fields.specs.declared.Fields.{Fields}
use Rattle.fields.specs.declared.ValueType.{ValueType}
use Rattle.fields.specs.Keys.{name_d, key_of, type_of, type_for_def, type_number, typed}
use Rattle.fields.specs.Fields.{index_of, nothing, there, under, first_of, second_of, stored, as_run, number_in_def, run_in_def}
use Rattle.fields.proofs.Places.{stored_here}
use Rattle.map.specs.Walk.{Found, entered, valued, keyed, pair_at, and_then, pairs, map_after, map_at_def, ending_at, map_from_def}
use Rattle.requests.specs.declared.Command.{Command}
use Rattle.requests.specs.declared.Request.{Request}
use Rattle.smp.specs.Packet.{header_in_def}
use Rattle.requests.specs.Request.{command_of_def, mapped, echo_with, erase_with, upload_with, request_of_def, EchoNoLonger}
use Rattle.requests.proofs.Sound.{is_request_lem, echo_inside}
use Rattle.smp.proofs.Writing.{text_map}

-- a string that may be there starts behind eleven bytes and its shortest head
abbrev Behind : Option Run → Type 0
Behind None = Unit {0}
Behind (Some r) = 11 + head_len_def r.len ≤ r.start

-- so does the text among the fields
record Late (f : Fields) : Type 0 where
  size : length f.values ≡ 9
  behind : Behind (as_run (under Key.Text f))

-- of what reading comes to; the place reached is behind the header and the map's head
unfoldable FoundLate : Found → Type 0
FoundLate None = Unit {0}
FoundLate (Some r) = (9 ≤ r.0) × Late r.1

-- nothing has been read
nothing_late : Late nothing
unfolding index_of as_run
nothing_late = record { size = refl; behind = tt }

-- a text that starts further on
further : (v : Value) (at : ℕ) → type_number (type_of v) ≡ type_number ValueType.Text → StringLeast at v → 11 ≤ at → Behind (as_run (Some v))
unfolding type_of type_number first_of second_of as_run
further (Unsigned n) at e h k = absurd (omega arith)
further (Negative n) at e h k = absurd (omega arith)
further (Value.Bytes r) at e h k = absurd (omega arith)
further (Text r) at e h k = omega arith
further (Flag x) at e h k = absurd (omega arith)
further Null at e h k = absurd (omega arith)

-- storing leaves as many values
stored_size : (k : Key) (v : Value) (f : Fields) → length (stored k v f).values ≡ length f.values
unfolding stored
stored_size k v f = simp length-set

-- a text is stored
stored_late : (f : Fields) (v : Value) (at : ℕ) → type_number (type_of v) ≡ type_number ValueType.Text → StringLeast at v → 11 ≤ at → Late f
    → Late (stored Key.Text v f)
stored_late f v at e h k o =
    record { size = stored_size Key.Text v f ∙ o.size; behind = rw (stored_here Key.Text v f o.size) (further v at e h k) }

-- a pair whose key is the text's
text_late : (f : Fields) (at : ℕ) (i : Option Item) (s : List ℕ) → 11 ≤ at → ItemWithin s at i → ItemLeast at i → Late f
    → FoundLate (valued (Some Key.Text) f i)
unfolding valued entered FoundLate type_for_def
text_late f at None s k w h o = tt
text_late f at (Some i) s k w h o =
    pick_case FoundLate (there Key.Text f) _ _ (λ a. tt)
    (λ a. pick_case FoundLate (not (typed Key.Text i.value)) _ _ (λ b. tt)
    (λ b. (omega (arith, w.0), stored_late f i.value at (eqb-true _ _ (not-false _ b)) h k o)))

-- a pair whose key is another is skipped
other_late : (f : Fields) (at : ℕ) (i : Option Item) (s : List ℕ) → 9 ≤ at → ItemWithin s at i → Late f → FoundLate (valued None f i)
unfolding valued FoundLate
other_late f at None s k w o = tt
other_late f at (Some i) s k w o = (omega (arith, w.0), o)

-- a pair of an echo's map by the head of its key
keyed_late : (s : List ℕ) (f : Fields) (at : ℕ) (h : Option Head) → Bytes s → 9 ≤ at → HeadWithin s at h → Late f → FoundLate (keyed Kind.Echo s f h)
unfolding keyed key_of FoundLate
keyed_late s f at None b k w o = tt
keyed_late s f at (Some h) b k w o =
    let n : ℕ = h.argument in
    let next : ℕ = h.next in
    pick_case FoundLate (not (eqb h.major 3)) _ _ (λ a. tt)
    (λ a. pick_case FoundLate (ltb (length s - next) n) _ _ (λ i. tt)
    (λ i. pick_case (λ (key : Option Key). FoundLate (valued key f (item_at s (next + n)))) (same (take n (drop next s)) name_d) (Some Key.Text) None
    (λ e. text_late f (next + n) (item_at s (next + n)) s (omega (arith, w.0, named n next (same_true _ _ e))) (item_within s (next + n))
    (item_least s (next + n) b) o)
    (λ e. other_late f (next + n) (item_at s (next + n)) s (omega (arith, w.0)) (item_within s (next + n)) o)))
  where
    named : (n next : ℕ) → take n (drop next s) ≡ name_d → 1 ≤ n
    named n next e = omega (arith, simp (length-take, length-drop) at (ap length e))

-- a pair of an echo's map
pair_late : (s : List ℕ) (f : Fields) (at : ℕ) → Bytes s → 9 ≤ at → Late f → FoundLate (pair_at Kind.Echo s at f)
pair_late s f at b k o = keyed_late s f at (head_at_def s at) b k (head_within s at) o

-- what follows a pair
then_late : (w : Found) (go : ℕ → Fields → Found) → FoundLate w → ((at : ℕ) (f : Fields) → 9 ≤ at → Late f → FoundLate (go at f))
    → FoundLate (and_then w go)
unfolding and_then FoundLate
then_late None go o each = tt
then_late (Some r) go o each = each r.0 r.1 o.0 o.1

-- pairs in a row
pairs_late : (s : List ℕ) (n at : ℕ) (f : Fields) → Bytes s → 9 ≤ at → Late f → FoundLate (pairs Kind.Echo s n at f)
unfolding pairs FoundLate
pairs_late s zero at f b k o = (k, o)
pairs_late s (suc n) at f b k o =
    then_late (pair_at Kind.Echo s at f) (λ at' f'. pairs Kind.Echo s n at' f') (pair_late s f at b k o) (λ at' f' k' o'. pairs_late s n at' f' b k' o')

-- the map of an echo
after_late : (s : List ℕ) (f : Fields) (h : Option Head) → Bytes s → HeadWithin s 8 h → Late f → FoundLate (map_after Kind.Echo s f h)
unfolding map_after FoundLate
after_late s f None b w o = tt
after_late s f (Some h) b w o =
    pick_case FoundLate (eqb h.major 5) _ _ (λ a. pairs_late s h.argument h.next f b (omega (arith, w.0)) o) (λ a. tt)

-- of a packet's map
unfoldable MapLate : Option Fields → Type 0
MapLate None = Unit {0}
MapLate (Some f) = Late f

-- at its end
ending_late : (end : ℕ) (w : Found) → FoundLate w → MapLate (ending_at end w)
unfolding ending_at FoundLate MapLate
ending_late end None o = tt
ending_late end (Some r) o = pick_case MapLate (eqb r.0 end) _ _ (λ h. o.1) (λ h. tt)

-- the fields of an echo's map
map_late : (s : List ℕ) → Bytes s → MapLate (map_from_def Kind.Echo s 8)
unfolding map_from_def map_at_def MapLate
map_late s b =
    pick_case MapLate (eqb (length s) 8) _ _ (λ h. nothing_late)
    (λ h. ending_late (length s) (map_at_def Kind.Echo s 8 nothing) (after_late s nothing (head_at_def s 8) b (head_within s 8) nothing_late))

-- the text of an echo starts behind eleven bytes and its shortest head; of other requests nothing is said
RequestLate : Result Request Reason → Type 0
RequestLate (Err why) = Unit {0}
RequestLate (Ok (Request.Echo text)) = 11 + head_len_def text.len ≤ text.start
RequestLate (Ok Request.Reset) = Unit {0}
RequestLate (Ok Request.Images) = Unit {0}
RequestLate (Ok (Request.Upload u)) = Unit {0}
RequestLate (Ok Request.Erase) = Unit {0}

-- of an echo by what was read for its text
text_behind : (x : Option Run) → Behind x → RequestLate (echo_with x)
unfolding RequestLate echo_with
text_behind None h = tt
text_behind (Some r) h = h

-- of an echo by its fields
echo_late : (f : Fields) → Late f → RequestLate (echo_with (run_in_def f Key.Text))
unfolding run_in_def
echo_late f o = text_behind (run_in_def f Key.Text) o.behind

-- of a request by its map
mapped_late : (ask : Fields → Result Request Reason) (o : Option Fields) → ((f : Fields) → o ≡ Some f → RequestLate (ask f)) → RequestLate (mapped ask o)
unfolding RequestLate mapped
mapped_late ask None each = tt
mapped_late ask (Some f) each = each f refl

-- of an upload by its offset and data
upload_late : (f : Fields) (n : Option ℕ) (x : Option Run) → RequestLate (upload_with f n x)
unfolding RequestLate upload_with
upload_late f None x = tt
upload_late f (Some off) None = tt
upload_late f (Some off) (Some chunk) = tt

-- of an erase by its slot
erase_late : (n : Option ℕ) → RequestLate (erase_with n)
unfolding RequestLate erase_with
erase_late None = tt
erase_late (Some n) = pick_case RequestLate (eqb n 1) _ _ (λ h. tt) (λ h. tt)

-- of a request of any command
request_late : (k : Option Command) (s : List ℕ) → Bytes s → RequestLate (request_of_def k s)
unfolding RequestLate request_of_def MapLate
request_late (Some Command.Echo) s b = mapped_late _ (map_from_def Kind.Echo s 8) (λ f e. echo_late f (subst MapLate e (map_late s b)))
request_late (Some Command.Reset) s b = mapped_late _ (map_from_def Kind.Bare s 8) (λ f e. tt)
request_late (Some Command.Images) s b = mapped_late _ (map_from_def Kind.Bare s 8) (λ f e. tt)
request_late (Some Command.Upload) s b =
    mapped_late _ (map_from_def Kind.Upload s 8) (λ f e. upload_late f (number_in_def f Key.Off) (run_in_def f Key.Data))
request_late (Some Command.Erase) s b = mapped_late _ (map_from_def Kind.Erase s 8) (λ f e. erase_late (number_in_def f Key.Slot))
request_late None s b = tt

-- the reply to an echo is no longer than its request
pub echo_no_longer : EchoNoLonger
unfolding RequestLate
echo_no_longer s text b e =
    let late : 11 + head_len_def text.len ≤ text.start =
    subst RequestLate (is_request_lem s (Ok (Request.Echo text)) e).1 (request_late (command_of_def (header_in_def s)) s b) in
    let inside = echo_inside s text e in
    omega (arith, text_map s text inside, head_long 0 text.len)
