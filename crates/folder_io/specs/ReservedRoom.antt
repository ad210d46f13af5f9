-- What stands in reserved room.
use Rattle.std.specs.Prelude.{ℕ, List}
use Rattle.folder_io.specs.declared.room.Room.{Room}

-- the bytes in it
abbrev pub room_bytes : Room → List ℕ
room_bytes room = room.bytes.items

-- how many bytes it takes in all
abbrev pub room_size : Room → ℕ
room_size room = room.size
