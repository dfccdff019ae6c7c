-- A rig's numbers and bytes, and that it is lent the same ones afterwards.
-- Assumes nothing.
use Rattle.std.specs.Prelude.{◌≡◌}
use Rattle.feed.specs.declared.Rig.{Rig}
use Rattle.feed.specs.Feed.{Bench}

-- the numbers and bytes that a rig is lent
abbrev pub bench_in : Rig → Bench
bench_in r = record {
  memory = r.memory.now;
  session = r.session.now;
  tag = r.tag.now;
  reader = r.reader.now;
  packet = r.packet.now;
  reply = r.reply.now;
}

-- a rig is lent the same numbers and bytes as before, whatever they are now
pub record SameRig (before after : Rig) : Type 0 where
  pub same_memory : after.memory.ghost_name ≡ before.memory.ghost_name
  pub same_session : after.session.ghost_name ≡ before.session.ghost_name
  pub same_tag : after.tag.ghost_name ≡ before.tag.ghost_name
  pub same_reader : after.reader.ghost_name ≡ before.reader.ghost_name
  pub same_packet : after.packet.ghost_name ≡ before.packet.ghost_name
  pub same_reply : after.reply.ghost_name ≡ before.reply.ghost_name
