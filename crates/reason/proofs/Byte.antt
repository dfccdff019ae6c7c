-- Every rc is a byte.
-- Assumes nothing.
use Prim.Native.Nat.{◌<◌}
use lib.Dec.{lit<}
use Rattle.reason.specs.declared.Reason.{Reason}
use Rattle.reason.specs.declared.Reason.TheVariants.{
  UnknownCommand,
  MalformedMap,
  NoText,
  OtherSlot,
  NoOffset,
  NoData,
  OffsetTooLarge,
  LengthTooLarge,
  EmptyData,
  BeyondLength,
  OtherImage,
  NoLength,
  ZeroLength,
  AboveSlot,
  TagSize,
  DataTooLong,
  OtherLength,
  Upgrade,
  ReplyTooLong,
}
use Rattle.reason.specs.Rc.{rc_of_def}

pub rc_byte : (r : Reason) → rc_of_def r < 256
rc_byte UnknownCommand = lit< tt
rc_byte MalformedMap = lit< tt
rc_byte NoText = lit< tt
rc_byte OtherSlot = lit< tt
rc_byte NoOffset = lit< tt
rc_byte NoData = lit< tt
rc_byte OffsetTooLarge = lit< tt
rc_byte LengthTooLarge = lit< tt
rc_byte EmptyData = lit< tt
rc_byte BeyondLength = lit< tt
rc_byte OtherImage = lit< tt
rc_byte NoLength = lit< tt
rc_byte ZeroLength = lit< tt
rc_byte AboveSlot = lit< tt
rc_byte TagSize = lit< tt
rc_byte DataTooLong = lit< tt
rc_byte OtherLength = lit< tt
rc_byte Upgrade = lit< tt
rc_byte ReplyTooLong = lit< tt
