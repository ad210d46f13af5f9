-- What comes from outside at its edges: the limit of a file's bytes, and counts of what failed.
use Rattle.std.proofs.Common.{◌≡◌, refl, ℕ, ◌-◌, inl, inr, List, Option, arith}
use Rattle.std.specs.Prelude.{◌^◌}
use Rattle.feed_files.specs.declared.names.FileName.{FileName}
use Rattle.feed_files.specs.Names.{file_text}
use Rattle.feed_files.specs.HeldFiles.{held, held_within}
use Rattle.feed_files.specs.FaultCounts.{Rose, Stayed}

-- a file of 256 MiB is read, and one of a byte more is too large
bytes_at_most : (folder : List ℕ → Option (List ℕ)) (name : FileName) → held folder name ≡ held_within 268435456 (folder (file_text name))
unfolding held
bytes_at_most folder name = refl

-- the greatest number of 64 bits
last_count : 2 ^ 64 - 1 ≡ 18446744073709551615
last_count = refl

-- from 3 to 4 a count rose
one_more_rose : Rose 3 4
one_more_rose = inl (omega arith)

-- from 3 to 3 it did not, and less is no rise
as_many_not_risen : Rose 3 3 → ⊥
as_many_not_risen (inl less) = omega (arith, less)
as_many_not_risen (inr last) = omega (arith, last)

fewer_not_risen : Rose 4 3 → ⊥
fewer_not_risen (inl less) = omega (arith, less)
fewer_not_risen (inr last) = omega (arith, last)

-- at the last value, past which it can't rise, it counts as risen
last_rose : Rose 18446744073709551615 18446744073709551615
last_rose = inr refl

-- a count that stayed is equal
as_many_stayed : Stayed 3 3
as_many_stayed = refl

one_more_not_stayed : Stayed 3 4 → ⊥
one_more_not_stayed same = omega (arith, same)
