-- Items that are read one by one, where the first that can't be read is a fault that tells its number.
use Rattle.std.specs.Prelude.{ℕ, ◌+◌, List, length, slice_get, Option, is_none, ok_or, option_and_then, Result}
use Rattle.std.specs.Option.{option_map_or}
use Rattle.plain_laws.specs.Plain.{collect_below, find_below}
use Rattle.commands.specs.declared.usage.UsageFault.{UsageFault}

-- what the reading gives of item i, if there is one
abbrev pub read_at : {X Y : Type 0} → (X → Option Y) → List X → ℕ → Option Y
read_at read items i = option_and_then read (slice_get items i)

-- the number, from 1, of the first item that can't be read; 0 where each can
abbrev pub first_unread : {X Y : Type 0} → (X → Option Y) → List X → ℕ
first_unread read items = option_map_or (λ i. i + 1) (find_below (length items) (λ i. is_none (read_at read items i))) 0

-- what the reading gives of the items, in order, or the fault that tells the first that can't be read by its number
abbrev pub read_each : {X Y : Type 0} → (X → Option Y) → (ℕ → UsageFault) → List X → Result (List Y) UsageFault
read_each read fault items = ok_or (collect_below (length items) (read_at read items)) (fault (first_unread read items))
