-- What holds of every packet that is a request: its length and op, and that what it names lies inside it.
-- Assumes nothing.
use Prim.{Unit}
use mathlib.Core.Path.{◌≡◌, refl, subst}
use mathlib.Core.Bool.{true, not, false≢true}
use mathlib.Core.List.{List}
use Prim.Native.Nat.{ℕ, ◌+◌, ◌≤◌}
use native.Mathlib.Decide.{dec_le}
use native.Mathlib.Omega.{arith}
use lib.Dec.{leb, eqb, lit<}
use lib.ListN.{length, drop}
use borrow.Author.Tests.{leb-true, ne_eqb}
use Rattle.std.specs.Prelude.{Option, Some, None, Result, Ok, Err}
use Rattle.laws.specs.Choice.{both}
use Rattle.laws.specs.Bytes.{of_be16}
use Rattle.laws.proofs.Choice.{pick_case, pick_keep, both_yes, both_true}
use Rattle.laws.specs.declared.Run.{Run}
use Rattle.laws.specs.Parts.{Within}
use Rattle.reason.specs.declared.Reason.{Reason}
use Rattle.fields.specs.declared.Kind.{Kind}
use Rattle.fields.specs.declared.Key.{Key}
use Rattle.fields.specs.declared.Fields.{Fields}
use Rattle.fields.specs.Fields.{index_of, number_in_def, run_in_def}
use Rattle.map.specs.Walk.{map_from_def}
use Rattle.map.proofs.Sound.{map_run}
use Rattle.rules.specs.declared.Upload.{Upload}
use Rattle.requests.specs.declared.Command.{Command}
use Rattle.requests.specs.declared.Request.{Request}
use Rattle.smp.specs.Packet.{header_in_def, sized}
use Rattle.requests.specs.Request.{command_of_def, mapped, echo_with, erase_with, upload_with, request_of_def, is_request_def, read_request_def}

-- an op that passed the request's test is 0 or 2
op_most : (n : ℕ) → not (both (not (eqb n 0)) (not (eqb n 2))) ≡ true → n ≤ 2
op_most n e =
    elim (dec_le n 2) [
      | yes h ↦ h
      | no h ↦
          let z : n ≡ 0 → ⊥ = λ p. omega arith in
          let t : n ≡ 2 → ⊥ = λ p. omega arith in
          absurd (false≢true (simp (ne_eqb n 0 z, ne_eqb n 2 t, both_yes) at e))
    ]

-- a reading that is a request passed the test, and is the request of its command
pub is_request_lem : (s : List ℕ) (r : Result Request Reason) → read_request_def s ≡ Some r
    → (is_request_def s ≡ true) × (request_of_def (command_of_def (header_in_def s)) s ≡ r)
unfolding read_request_def
is_request_lem s r e =
    let k = pick_keep (is_request_def s) (Some (request_of_def (command_of_def (header_in_def s)) s)) None (Some r) other e in
    (k.0, same k.1)
  where
    other : ◌≡◌ {A = Option (Result Request Reason)} None (Some r) → ⊥
    other e = cc

    same : {a : Result Request Reason} → Some a ≡ Some r → a ≡ r
    same e = cc

-- a request has the length of a packet and a small op
pub request_sized : (s : List ℕ) (r : Result Request Reason) → read_request_def s ≡ Some r
    → (8 ≤ length s) × (length s ≤ 65533) × ((header_in_def s).op ≤ 2)
unfolding is_request_def sized
request_sized s r e =
    let t = both_true (sized s) _ (is_request_lem s r e).0 in
    let a = both_true (leb 8 (length s)) _ t.0 in
    let b = both_true (eqb (length s) (8 + of_be16 (drop 2 s))) _ a.1 in
    (leb-true 8 (length s) a.0, leb-true (length s) 65533 b.1, op_most (header_in_def s).op t.1)

-- what a request names lies inside s: of an echo the text, of an upload data and tag
RequestInside : List ℕ → Result Request Reason → Type 0
RequestInside s (Err why) = Unit {0}
RequestInside s (Ok (Request.Echo text)) = Within s (Some text)
RequestInside s (Ok Request.Reset) = Unit {0}
RequestInside s (Ok Request.Images) = Unit {0}
RequestInside s (Ok (Request.Upload u)) = Within s (Some u.data) × Within s u.sha
RequestInside s (Ok Request.Erase) = Unit {0}

-- of a request by its map
mapped_inside : (s : List ℕ) (ask : Fields → Result Request Reason) (o : Option Fields) → ((f : Fields) → o ≡ Some f → RequestInside s (ask f))
    → RequestInside s (mapped ask o)
unfolding RequestInside mapped
mapped_inside s ask None each = tt
mapped_inside s ask (Some f) each = each f refl

-- of an echo by its text
echo_with_lem : (s : List ℕ) (x : Option Run) → Within s x → RequestInside s (echo_with x)
unfolding RequestInside echo_with
echo_with_lem s None o = tt
echo_with_lem s (Some r) o = o

-- of an erase by its slot, which names nothing
erase_with_lem : (s : List ℕ) (n : Option ℕ) → RequestInside s (erase_with n)
unfolding RequestInside erase_with
erase_with_lem s None = tt
erase_with_lem s (Some n) = pick_case (RequestInside s) (eqb n 1) _ _ (λ h. tt) (λ h. tt)

-- of an upload by its offset, data and tag
upload_with_lem : (s : List ℕ) (f : Fields) (n : Option ℕ) (x : Option Run) → Within s x → Within s (run_in_def f Key.Sha)
    → RequestInside s (upload_with f n x)
unfolding RequestInside upload_with
upload_with_lem s f None x o t = tt
upload_with_lem s f (Some off) None o t = tt
upload_with_lem s f (Some off) (Some chunk) o t = (o, t)

-- of a request of any command
request_of_inside : (k : Option Command) (s : List ℕ) → RequestInside s (request_of_def k s)
unfolding RequestInside request_of_def index_of
request_of_inside (Some Command.Echo) s =
    mapped_inside s _ (map_from_def Kind.Echo s 8) (λ f e. echo_with_lem s (run_in_def f Key.Text) (map_run Kind.Echo s 8 f e Key.Text (lit< tt)))
request_of_inside (Some Command.Reset) s = mapped_inside s _ (map_from_def Kind.Bare s 8) (λ f e. tt)
request_of_inside (Some Command.Images) s = mapped_inside s _ (map_from_def Kind.Bare s 8) (λ f e. tt)
request_of_inside (Some Command.Upload) s =
    mapped_inside s _ (map_from_def Kind.Upload s 8)
    (λ f e. upload_with_lem s f (number_in_def f Key.Off) (run_in_def f Key.Data) (map_run Kind.Upload s 8 f e Key.Data (lit< tt))
    (map_run Kind.Upload s 8 f e Key.Sha (lit< tt)))
request_of_inside (Some Command.Erase) s = mapped_inside s _ (map_from_def Kind.Erase s 8) (λ f e. erase_with_lem s (number_in_def f Key.Slot))
request_of_inside None s = tt

-- of every packet that is a request
request_inside : (s : List ℕ) (r : Result Request Reason) → read_request_def s ≡ Some r → RequestInside s r
request_inside s r e =
    subst (λ (x : Result Request Reason). RequestInside s x) (is_request_lem s r e).1 (request_of_inside (command_of_def (header_in_def s)) s)

-- the data and the tag of an upload lie inside the packet
pub upload_inside : (s : List ℕ) (u : Upload) → read_request_def s ≡ Some (Ok (Request.Upload u)) → Within s (Some u.data) × Within s u.sha
unfolding RequestInside
upload_inside s u e = request_inside s (Ok (Request.Upload u)) e

-- the text of an echo lies inside the packet
pub echo_inside : (s : List ℕ) (text : Run) → read_request_def s ≡ Some (Ok (Request.Echo text)) → text.start + text.len ≤ length s
unfolding RequestInside
echo_inside s text e = request_inside s (Ok (Request.Echo text)) e
