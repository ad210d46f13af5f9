-- The fields of a record by their places.
use Rattle.std.proofs.Common.{◌≡◌, ℕ, List, [], ◌∷◌, zero, suc, get_or, None, Some, refl}
use Rattle.std.specs.Prelude.{map}
use Rattle.csv.specs.Records.{field_at}
use Rattle.csv.specs.Writing.{read_back}
use Rattle.feed_faults.specs.Records.{cut}

cut_at : (fs : List (List ℕ)) (i : ℕ) (f : List ℕ) → field_at fs i ≡ Some f → cut f ≡ get_or (map cut fs) i []
unfolding field_at
cut_at [] i f e = absurd (cc)
cut_at (x ∷ fs) zero f e = cc
cut_at (x ∷ fs) (suc i) f e = cut_at fs i f e

past : (fs : List (List ℕ)) (i : ℕ) → field_at fs i ≡ None → get_or (map cut fs) i [] ≡ []
unfolding field_at
past [] i e = refl
past (x ∷ fs) zero e = absurd (cc)
past (x ∷ fs) (suc i) e = past fs i e

-- a field that is there
pub field_there : (fs : List (List ℕ)) (i : ℕ) (f : List ℕ) → field_at fs i ≡ Some f → cut f ≡ get_or (map cut (read_back fs)) i []
unfolding field_at
field_there [] i f e = absurd (cc)
field_there (x ∷ fs) i f e = cut_at (x ∷ fs) i f e

-- one that isn't
pub field_past : (fs : List (List ℕ)) (i : ℕ) → field_at fs i ≡ None → get_or (map cut (read_back fs)) i [] ≡ []
unfolding cut
field_past [] zero e = refl
field_past [] (suc i) e = refl
field_past (x ∷ fs) i e = past (x ∷ fs) i e
