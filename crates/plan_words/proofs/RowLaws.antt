-- What `clap` keeps of the values that are used.
use Rattle.std.proofs.Common.{◌≡◌, ℕ, zero, suc, Bool, true, false, List, [], ◌∷◌, ◌++◌, Some, None, Option, refl, sym, ap, ◌∙◌, append-nil}
use Rattle.std.specs.Prelude.{bytes_eq, is_some, unwrap_or, slice_get, ◌||◌}
use Rattle.std.specs.Option.{option_or, option_to_list}
use Rattle.plain_laws.specs.Plain.{any_below, joined_below, first_below}
use Rattle.plain_laws.proofs.Laws.{one_where, bytes_eq-true, eq-bytes_eq}
use Rattle.clap.specs.Walk.{Row, Text, all_of, first_of, with_values}
use Rattle.clap.specs.declared.builder.value_parser.Reading.TheVariants as reading
use Rattle.clap.specs.declared.parser.matches.ValueSource.TheVariants.{CommandLine}

-- the values of an id
abbrev pub values_in : Text → List Row → List Text
values_in id rows = unwrap_or (all_of id rows) []

-- a value that is used
abbrev pub with_one : Text → Text → List Row → List Row
with_one id value rows = with_values id reading.AsWritten CommandLine (value ∷ []) rows

-- a value that is used comes last among those of its id
pub values_in-with_one : (id o value : Text) (rows : List Row)
    → values_in o (with_one id value rows) ≡ values_in o rows ++ one_where (bytes_eq id o) value
values_in-with_one id o value [] = step (bytes_eq id o) refl
  where
    step : (here : Bool) → bytes_eq id o ≡ here
        → values_in o (with_one id value []) ≡ values_in o [] ++ one_where (bytes_eq id o) value
    step true e = rw e refl
    step false e = rw e refl
values_in-with_one id o value (r ∷ rs) =
    step (values_in-with_one id o value rs) (bytes_eq r.id id) refl (bytes_eq r.id o) refl
  where
    same : bytes_eq r.id id ≡ true → bytes_eq id o ≡ bytes_eq r.id o
    same e = ap (λ (t : Text). bytes_eq t o) (sym (bytes_eq-true r.id id e))

    other : bytes_eq r.id id ≡ false → bytes_eq r.id o ≡ true → bytes_eq id o ≡ false
    other e f = differs (bytes_eq id o) refl
      where
        differs : (is : Bool) → bytes_eq id o ≡ is → bytes_eq id o ≡ false
        differs false g = g
        differs true g =
            absurd (let here = eq-bytes_eq r.id id (bytes_eq-true r.id o f ∙ sym (bytes_eq-true id o g)) in
            let bad : true ≡ false = sym here ∙ e in cc)

    step : values_in o (with_one id value rs) ≡ values_in o rs ++ one_where (bytes_eq id o) value → (here : Bool)
        → bytes_eq r.id id ≡ here → (is : Bool) → bytes_eq r.id o ≡ is
        → values_in o (with_one id value (r ∷ rs)) ≡ values_in o (r ∷ rs) ++ one_where (bytes_eq id o) value
    step rest true e true f = rw (e, f, same e ∙ f) refl
    step rest true e false f = rw (e, f, same e ∙ f) (sym (append-nil (values_in o rs)))
    step rest false e true f = rw (e, f, other e f) (sym (append-nil r.values))
    step rest false e false f = rw (e, f) rest

-- the first value of an id is the first of them all
pub first_of-values_in : (id : Text) (rows : List Row) → first_of id rows ≡ slice_get (values_in id rows) 0
first_of-values_in id [] = refl
first_of-values_in id (r ∷ rs) = step (first_of-values_in id rs) (bytes_eq r.id id) refl
  where
    step : first_of id rs ≡ slice_get (values_in id rs) 0 → (here : Bool) → bytes_eq r.id id ≡ here
        → first_of id (r ∷ rs) ≡ slice_get (values_in id (r ∷ rs)) 0
    step rest true e = rw e refl
    step rest false e = rw e rest

-- the first of what f gives at the numbers below n
pub first-joined_below : {X : Type 0} (n : ℕ) (f : ℕ → Option X)
    → slice_get (joined_below n (λ i. option_to_list (f i))) 0 ≡ first_below n f
first-joined_below zero f = refl
first-joined_below {X} (suc n) f = step (joined_below n (λ i. option_to_list (f i))) (first-joined_below n f) (f n)
  where
    step : (before : List X) → slice_get before 0 ≡ first_below n f → (next : Option X)
        → slice_get (before ++ option_to_list next) 0 ≡ option_or (first_below n f) next
    step [] e None = rw (sym e) refl
    step [] e (Some x) = rw (sym e) refl
    step (y ∷ ys) e next = rw (sym e) refl

-- there is a first of the values where the test passes some number below n
pub some-joined_below : {X : Type 0} (n : ℕ) (test : ℕ → Bool) (x : X)
    → is_some (slice_get (joined_below n (λ i. one_where (test i) x)) 0) ≡ any_below n test
some-joined_below zero test x = refl
some-joined_below {X} (suc n) test x =
    step (joined_below n (λ i. one_where (test i) x)) (some-joined_below n test x) (test n)
  where
    step : (before : List X) → is_some (slice_get before 0) ≡ any_below n test → (next : Bool)
        → is_some (slice_get (before ++ one_where next x) 0) ≡ (any_below n test || next)
    step [] e true = rw (sym e) refl
    step [] e false = rw (sym e) refl
    step (y ∷ ys) e next = rw (sym e) refl
