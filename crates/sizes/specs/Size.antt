-- How long each request is, which of them are written, and the most data that an upload request can carry: all by lengths alone.
-- Assumes nothing.
use Rattle.std.specs.Prelude.{ℕ, ◌+◌, ◌-◌, min, ◌≡◌, List, ltb, leb, eqb, length}
use Rattle.laws.specs.Choice.{pick, both}
use Rattle.cbor.specs.Write.{head_len_def}
use Rattle.host.specs.Write.{Told, packet, refused, sendable, write_echo_def, write_reset_def, write_erase_def}
use Rattle.uploads.specs.Upload.{odd_length, write_upload_def}

-- what is said of a packet of this many bytes: it is written, or refused 12
abbrev pub told_of : ℕ → ℕ → Told
told_of total room = pick (sendable total room) (packet total) (refused 12)

-- an echo of a text of n bytes: the header, the map's head, the key "d" and the text
unfoldable pub echo_size : ℕ → ℕ
echo_size n = 11 + head_len_def n + n

-- a reset or an erase: the header and the map's head
abbrev pub empty_size : ℕ
empty_size = 9

-- an upload past offset 0 without its data and the data's head
unfoldable pub later_over : ℕ → ℕ
later_over off = 18 + head_len_def off

-- an upload at offset 0 without them, where a tag takes 38 bytes
unfoldable pub first_over_def : ℕ → ℕ → ℕ
first_over_def size tagLen = 23 + head_len_def size + pick (eqb tagLen 0) 0 38

-- an upload of n bytes of data
unfoldable pub upload_size : ℕ → ℕ → ℕ → ℕ → ℕ
upload_size n off size tagLen = pick (eqb off 0) (first_over_def size tagLen) (later_over off) + head_len_def n + n

-- the most data that has room, with its head, in so many bytes
unfoldable pub most_in_def : ℕ → ℕ
most_in_def left = pick (leb left 24) (left - 1) (pick (leb left 257) (left - 2) (left - 3))

-- the most data of a packet that takes so many bytes without it, for an output of `room` bytes
abbrev pub most_past_def : ℕ → ℕ → ℕ
most_past_def room over = most_in_def (min room 65533 - over)

-- the most data of an upload at offset 0: none where its length or its tag can't be sent, and never more than the length
unfoldable pub most_first_def : ℕ → ℕ → ℕ → ℕ
most_first_def room size tagLen =
    pick (eqb size 0) 0
    (pick (ltb 4294967295 size) 0
    (pick (odd_length tagLen) 0
    (min (most_past_def room (first_over_def size tagLen)) size)))

-- the most data that an upload request can carry, for an output of `room` bytes: 0 where it can carry none
unfoldable pub most_data_def : ℕ → ℕ → ℕ → ℕ → ℕ
most_data_def room off size tagLen =
    pick (ltb 4294967295 off) 0
    (pick (eqb off 0) (most_first_def room size tagLen)
    (most_past_def room (later_over off)))

-- what the echo's writer says, for every input
abbrev pub EchoSaid : Type 0
EchoSaid = (sequence : ℕ) (text out : List ℕ) → (write_echo_def sequence text out).says ≡ told_of (echo_size (length text)) (length out)

-- what the reset's writer says
abbrev pub ResetSaid : Type 0
ResetSaid = (sequence : ℕ) (out : List ℕ) → (write_reset_def sequence out).says ≡ told_of empty_size (length out)

-- what the erase's writer says
abbrev pub EraseSaid : Type 0
EraseSaid = (sequence : ℕ) (out : List ℕ) → (write_erase_def sequence out).says ≡ told_of empty_size (length out)

-- what the upload's writer says: an upload is written just where it has data, and no more of it than the most
abbrev pub UploadSaid : Type 0
UploadSaid =
    (sequence : ℕ) (x : List ℕ) (off size : ℕ) (tag out : List ℕ) → (write_upload_def sequence x off size tag out).says
    ≡ pick (both (leb 1 (length x)) (leb (length x) (most_data_def (length out) off size (length tag))))
    (packet (upload_size (length x) off size (length tag))) (refused 12)
