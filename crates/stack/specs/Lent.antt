-- A machine's slices before and after a call.
use Rattle.std.specs.Prelude.{◌≡◌}
use Rattle.stack.specs.declared.machine.Machine.{Machine}
use Rattle.stack.specs.Stores.{Stores, stores}

-- What its four stores hold.
abbrev pub contents : Machine → Stores
contents machine = stores machine.rows.now machine.names.now machine.ids.now machine.nodes.now

-- After a call the same slices are lent as before it, whatever was written into them.
pub record SameLoans (old new : Machine) : Type 0 where
  pub sheet : new.sheet ≡ old.sheet
  pub program : new.program ≡ old.program
  pub rows : new.rows.ghost_name ≡ old.rows.ghost_name
  pub names : new.names.ghost_name ≡ old.names.ghost_name
  pub ids : new.ids.ghost_name ≡ old.ids.ghost_name
  pub nodes : new.nodes.ghost_name ≡ old.nodes.ghost_name
