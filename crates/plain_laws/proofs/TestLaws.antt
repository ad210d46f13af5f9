-- Tests that are made of tests.
use Rattle.std.proofs.Common.{◌≡◌, refl, sym, Bool, true, false, cond}
use Rattle.std.specs.Prelude.{◌&&◌, ◌||◌}

-- both pass or neither
pub same_test : (a b : Bool) → (a ≡ true → b ≡ true) → (b ≡ true → a ≡ true) → a ≡ b
same_test true b there back = sym (there refl)
same_test false true there back = back refl
same_test false false there back = refl

-- what must hold where a test fails
pub holds_else : (test other : Bool) → test ≡ false → cond test true other ≡ true → other ≡ true
holds_else true other fails h = absurd (cc)
holds_else false other fails h = h

-- of two tests that don't hold together the first holds
pub rest_fails : (a b : Bool) → (a && b) ≡ false → a ≡ true → b ≡ false
rest_fails true b e is = e
rest_fails false b e is = absurd (cc)

pub or_false : (a b : Bool) → (a || b) ≡ false → (a ≡ false) × (b ≡ false)
or_false true b e = absurd (cc)
or_false false b e = (refl, e)
