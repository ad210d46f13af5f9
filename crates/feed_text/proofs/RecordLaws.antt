-- The records that a reader gives one by one are those of the whole text.
use Rattle.std.proofs.Common.{◌≡◌, ℕ, ◌+◌, ◌<◌, ◌≤◌, ◌⊎◌, inl, inr, ◌++◌, List, [], ◌∷◌, Bool, true, false, zero, suc, length, Option, None, Some, refl, ap, arith}
use Rattle.std.specs.Prelude.{if◌then◌else◌, map}
use Rattle.csv.specs.Machine.{Read, next_record, step, is_end, fields_after, field_after, ends_at_end}
use Rattle.csv.specs.Writing.{read_back}
use Rattle.csv.specs.declared.parser.Action.{Action}
use Rattle.csv.specs.declared.parser.Action.TheVariants as act
use Rattle.csv.specs.Reading.{records_from, Reached, records}
use Rattle.csv.specs.declared.parser.Config.{Config}
use Rattle.csv.specs.declared.parser.State.{State}
use Rattle.csv.specs.declared.parser.State.TheVariants as st

chosen : {A : Type 0} (b : Bool) (x y : Option A) (p : A) → (if b then x else y) ≡ Some p → (x ≡ Some p) ⊎ (y ≡ Some p)
chosen true x y p e = inl e
chosen false x y p e = inr e

-- a record takes a byte of the text, or ends it
abbrev Shrinks : List ℕ → Read → Type 0
Shrinks xs p = (length p.2 < length xs) ⊎ ((xs ≡ []) × (p.1 ≡ st.StartRecord) × (p.2 ≡ []))

weaker : (c : ℕ) (rest : List ℕ) (p : Read) → Shrinks rest p → length p.2 < length (c ∷ rest)
weaker c rest p (inl h) = omega (arith, h)
weaker c rest p (inr h) = let e = ap length h.2 in omega (arith, e)

next_shrinks : (cfg : Config) (s : State) (f : List (List ℕ)) (g : List ℕ) (xs : List ℕ) (p : Read) → next_record cfg s f g xs ≡ Some p → Shrinks xs p
unfolding next_record
next_shrinks cfg s f g [] p e =
    elim (chosen (ends_at_end s) (Some (f ++ (g ∷ []), st.StartRecord, [])) None p e) as (λ _. Shrinks [] p) [
      | inl h ↦ inr (refl, (cc), (cc))
      | inr h ↦ absurd (cc)
    ]
next_shrinks cfg s f g (c ∷ rest) p e =
    elim (chosen (is_end (step cfg s c).1) (Some (fields_after (step cfg s c).1 f g, (step cfg s c).0, rest))
    (next_record cfg (step cfg s c).0 (fields_after (step cfg s c).1 f g) (field_after (step cfg s c).1 c g) rest) p e) as (λ _. Shrinks (c ∷ rest) p) [
      | inl h ↦ let same : rest ≡ p.2 = cc in inl (rw (← same) (omega arith))
      | inr h ↦ inl (weaker c rest p (next_shrinks cfg (step cfg s c).0 (fields_after (step cfg s c).1 f g) (field_after (step cfg s c).1 c g) rest p h))
    ]

-- nothing more is read at the end of a text
nothing_more : (cfg : Config) (s s2 : State) (xs ys : List ℕ) (rows : List (List (List ℕ))) → Reached cfg s xs rows s2 ys → s ≡ st.StartRecord → xs ≡ [] → rows ≡ []
unfolding Reached next_record
nothing_more cfg s s2 xs ys [] h a b = refl
nothing_more cfg s s2 xs ys (r ∷ rs) h a b = let gone = rw (a, b) at h.1 in absurd (cc)

rows_bound : (cfg : Config) (s s2 : State) (xs ys : List ℕ) (rows : List (List (List ℕ))) → Reached cfg s xs rows s2 ys → length rows ≤ length xs + 1
unfolding Reached
rows_bound cfg s s2 xs ys [] h = omega arith
rows_bound cfg s s2 xs ys (r ∷ rs) h =
    elim (next_shrinks cfg s [] [] xs h.0 h.1) as (λ _. length (r ∷ rs) ≤ length xs + 1) [
      | inl lt ↦ let later = rows_bound cfg h.0.1 s2 h.0.2 ys rs h.3 in omega (arith, lt, later)
      | inr e ↦ let none = nothing_more cfg h.0.1 s2 h.0.2 ys rs h.3 e.1 e.2 in rw none (omega arith)
    ]

from_reached : (cfg : Config) (n : ℕ) (s s2 : State) (xs ys : List ℕ) (rows : List (List (List ℕ)))
    → Reached cfg s xs rows s2 ys → next_record cfg s2 [] [] ys ≡ None → length rows ≤ n → rows ≡ records_from cfg n s xs
unfolding Reached records_from
from_reached cfg zero s s2 xs ys [] h e le = refl
from_reached cfg (suc n) s s2 xs ys [] h e le = rw (h.0, h.1, e) refl
from_reached cfg zero s s2 xs ys (r ∷ rs) h e le = absurd (omega (arith, le))
from_reached cfg (suc n) s s2 xs ys (r ∷ rs) h e le =
    let later = from_reached cfg n h.0.1 s2 h.0.2 ys rs h.3 e (omega (arith, le)) in
    rw (h.1, h.2, ← later) refl

-- what was reached where no record is left is all the records
pub all_records : (cfg : Config) (s2 : State) (xs ys : List ℕ) (rows : List (List (List ℕ)))
    → Reached cfg st.StartRecord xs rows s2 ys → next_record cfg s2 [] [] ys ≡ None → rows ≡ records cfg xs
all_records cfg s2 xs ys rows h e = from_reached cfg (length xs + 1) st.StartRecord s2 xs ys rows h e (rows_bound cfg st.StartRecord s2 xs ys rows h)

fewer : (cfg : Config) (n : ℕ) (s s2 : State) (xs ys : List ℕ) (rows : List (List (List ℕ)))
    → Reached cfg s xs rows s2 ys → length rows ≤ n → length rows ≤ length (records_from cfg n s xs)
unfolding Reached records_from
fewer cfg n s s2 xs ys [] h le = omega arith
fewer cfg zero s s2 xs ys (r ∷ rs) h le = absurd (omega (arith, le))
fewer cfg (suc n) s s2 xs ys (r ∷ rs) h le =
    let later = fewer cfg n h.0.1 s2 h.0.2 ys rs h.3 (omega (arith, le)) in
    rw h.1 (omega (arith, later))

-- the records that were reached are no more than all
pub some_records : (cfg : Config) (s2 : State) (xs ys : List ℕ) (rows : List (List (List ℕ)))
    → Reached cfg st.StartRecord xs rows s2 ys → length rows ≤ length (records cfg xs)
some_records cfg s2 xs ys rows h = fewer cfg (length xs + 1) st.StartRecord s2 xs ys rows h (rows_bound cfg st.StartRecord s2 xs ys rows h)

-- a record has a field
kept_back : (f : List (List ℕ)) (g : List ℕ) → read_back (f ++ (g ∷ [])) ≡ f ++ (g ∷ [])
kept_back [] g = refl
kept_back (x ∷ f) g = refl

next_kept : (cfg : Config) (s : State) (f : List (List ℕ)) (g : List ℕ) (xs : List ℕ) (p : Read) → next_record cfg s f g xs ≡ Some p → read_back p.0 ≡ p.0
unfolding next_record
next_kept cfg s f g [] p e =
    elim (chosen (ends_at_end s) (Some (f ++ (g ∷ []), st.StartRecord, [])) None p e) as (λ _. read_back p.0 ≡ p.0) [
      | inl h ↦ let same : f ++ (g ∷ []) ≡ p.0 = cc in rw (← same) (kept_back f g)
      | inr h ↦ absurd (cc)
    ]
next_kept cfg s f g (c ∷ rest) p e = each (step cfg s c).1 e (λ f2 g2 e2. next_kept cfg (step cfg s c).0 f2 g2 rest p e2)
  where
    each : (a : Action) → (if is_end a then Some (fields_after a f g, (step cfg s c).0, rest) else next_record cfg (step cfg s c).0 (fields_after a f g) (field_after a c g) rest) ≡ Some p
        → ((f2 : List (List ℕ)) (g2 : List ℕ) → next_record cfg (step cfg s c).0 f2 g2 rest ≡ Some p → read_back p.0 ≡ p.0) → read_back p.0 ≡ p.0
    each act.EndRecord e later = let same : f ++ (g ∷ []) ≡ p.0 = cc in rw (← same) (kept_back f g)
    each act.Copy e later = later f (g ++ c ∷ []) e
    each act.Skip e later = later f g e
    each act.EndField e later = later (f ++ (g ∷ [])) [] e

pub rows_kept : (cfg : Config) (s s2 : State) (xs ys : List ℕ) (rows : List (List (List ℕ))) → Reached cfg s xs rows s2 ys → map read_back rows ≡ rows
unfolding Reached
rows_kept cfg s s2 xs ys [] h = refl
rows_kept cfg s s2 xs ys (r ∷ rs) h =
    let one : read_back r ≡ r = rw h.2 (next_kept cfg s [] [] xs h.0 h.1) in
    rw (one, rows_kept cfg h.0.1 s2 h.0.2 ys rs h.3) refl
