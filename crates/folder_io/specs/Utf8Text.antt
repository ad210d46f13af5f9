-- Bytes that are judged one by one, whether they are UTF-8, with none of them held.
use Rattle.std.specs.Prelude.{ℕ, ◌-◌, nat_lt, if◌then◌else◌, List, [], ◌∷◌, Bool, true, false}
use Rattle.std.specs.Int.{is_in_range}
use Rattle.std.specs.Str.{continuation_len}
use Rattle.std.specs.Str.Lossy.{second_byte_min, second_byte_max}
use Rattle.folder_io.specs.declared.utf8.Utf8State.{Utf8State}
use Rattle.folder_io.specs.declared.utf8.Utf8State.TheVariants.{Whole, Due, Wrong}

-- behind the first byte of a character: how many bytes are due, and between which two the next one lies, as the table of
-- well-formed UTF-8 byte sequences has it (Unicode, table 3-7); no character begins with any other byte
abbrev pub after_first : ℕ → Utf8State
after_first byte = if nat_lt byte 128 then Whole
    else (if is_in_range 0xC2 0xF4 byte then Due (continuation_len byte) (second_byte_min byte) (second_byte_max byte) else Wrong)

-- behind one of so many bytes that were due: each but the second byte of a character lies in one range
abbrev pub after_due : ℕ → Utf8State
after_due count = if nat_lt count 2 then Whole else Due (count - 1) 0x80 0xBF

-- behind one byte more
abbrev pub utf8_step : Utf8State → ℕ → Utf8State
utf8_step Whole byte = after_first byte
utf8_step (Due count low high) byte = if is_in_range low high byte then after_due count else Wrong
utf8_step Wrong byte = Wrong

-- behind these bytes
abbrev pub utf8_after : Utf8State → List ℕ → Utf8State
utf8_after state [] = state
utf8_after state (byte ∷ bytes) = utf8_after (utf8_step state byte) bytes

-- whether a text may end here
abbrev pub is_between : Utf8State → Bool
is_between Whole = true
is_between (Due count low high) = false
is_between Wrong = false
