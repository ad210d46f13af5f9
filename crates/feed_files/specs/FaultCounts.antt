-- The counts of what failed outside, which never fall, before and after a call.
use Rattle.std.specs.Prelude.{◌≡◌, ℕ, ◌<◌, ◌^◌, ◌-◌, ◌⊎◌}

-- the count rose in the call: it is greater than before, or it stands at its last value, past which it can't rise
abbrev pub Rose : ℕ → ℕ → Type 0
Rose before now = (before < now) ⊎ (now ≡ 2 ^ 64 - 1)

-- the count is as before
abbrev pub Stayed : ℕ → ℕ → Type 0
Stayed before now = now ≡ before
