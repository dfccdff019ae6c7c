-- The rc of each reason, by the sentences that name it. Numbers of source document 000: 2 for no memory, 3 for an invalid argument, 6 for a bad state, 7
-- for a message too long, 8 for what is not supported.
-- Assumes nothing.
use Rattle.std.specs.Prelude.{ℕ}
use Rattle.reason.specs.declared.Reason.{Reason}
use Rattle.reason.specs.declared.Reason.TheVariants.{
  UnknownCommand,
  MalformedMap,
  NoText,
  OtherSlot,
  NoOffset,
  NoData,
  OffsetTooLarge,
  LengthTooLarge,
  EmptyData,
  BeyondLength,
  OtherImage,
  NoLength,
  ZeroLength,
  AboveSlot,
  TagSize,
  DataTooLong,
  OtherLength,
  Upgrade,
  ReplyTooLong,
}

-- the one table of rcs other than 0
abbrev pub rc_of_def : Reason → ℕ
-- "Any other op, group and command together: rc 8."
rc_of_def UnknownCommand = 8
-- "In all four, a malformed map gets rc 3, as do a missing "d" and a "slot" other than 1."
rc_of_def MalformedMap = 3
rc_of_def NoText = 3
rc_of_def OtherSlot = 3
-- check 1: ""off" or "data" missing, "off" or "len" above 4,294,967,295, data of zero bytes: rc 3"
rc_of_def NoOffset = 3
rc_of_def NoData = 3
rc_of_def OffsetTooLarge = 3
rc_of_def LengthTooLarge = 3
rc_of_def EmptyData = 3
-- check 2: ""off" plus data beyond L: rc 3"
rc_of_def BeyondLength = 3
-- check 3: ""image" present and not 0, "len" missing, 0 or above S, "sha" not of 32 bytes, data longer than "len", or same tag as the open
-- session's but another length: rc 3. Then "upgrade" true: rc 8"; but "A length above the slot becomes rc 2, and a matching tag with another length
-- becomes rc 6"
rc_of_def OtherImage = 3
rc_of_def NoLength = 3
rc_of_def ZeroLength = 3
rc_of_def AboveSlot = 2
rc_of_def TagSize = 3
rc_of_def DataTooLong = 3
rc_of_def OtherLength = 6
rc_of_def Upgrade = 8
-- "An echo reply longer than its buffer becomes rc 7."
rc_of_def ReplyTooLong = 7
