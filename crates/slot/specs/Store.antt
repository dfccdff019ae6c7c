-- A store's state, and what an act leaves in it.
-- Assumes nothing.
use Rattle.std.specs.Prelude.{◌≡◌}
use Rattle.session.specs.Session.{State, state_of}
use Rattle.slot.specs.declared.Store.{Store}
use Rattle.slot.specs.Act.{Act, done}

-- the memory, session and tag of a store
abbrev pub state_in : Store → State
state_in s = state_of s.memory.now s.tag.now s.session

-- an act was done in a store: the state is the one after it, in the same slot, and the same memory and tag are lent
pub record Did (before after : Store) (a : Act) : Type 0 where
  pub same_slot : after.slot ≡ before.slot
  pub same_memory : after.memory.ghost_name ≡ before.memory.ghost_name
  pub same_tag : after.tag.ghost_name ≡ before.tag.ghost_name
  pub state : state_in after ≡ done before.slot a (state_in before)
