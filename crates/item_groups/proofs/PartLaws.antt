-- A list in parts that lie one after another.
use Rattle.std.proofs.Common.{◌≡◌, ℕ, ◌+◌, ◌-◌, ◌<◌, ◌≤◌, ◌++◌, List, [], ◌∷◌, zero, suc, length, take, drop, get_or, Some, refl, ap, sym, ◌∙◌, length-append, length-drop, arith}
use Rattle.std.specs.Prelude.{slice_get, slice_range}
use Rattle.std.proofs.Math.Seq.{drop-append_seam, take-length}
use Rattle.std.proofs.lemmas.List.{take_all, take-append-le, drop-append-le}
use Rattle.std.proofs.lemmas.Option.{slice_get-get_or}
use Rattle.item_groups.specs.Parts.{parts, Rise, start_of}
use Rattle.plain_laws.specs.Plain.{joined_below}

pub rise_le : (s : ℕ) (ends : List ℕ) (n : ℕ) → Rise s ends n → s ≤ n
rise_le s [] n h = omega (arith, h)
rise_le s (e ∷ es) n h = let later = rise_le e es n h.1 in omega (arith, h.0, later)

-- one more place, past the last
pub rise_push : (s : ℕ) (ends : List ℕ) (n m : ℕ) → Rise s ends n → n ≤ m → Rise s (ends ++ m ∷ []) m
rise_push s [] n m h le = (omega (arith, h), refl)
rise_push s (e ∷ es) n m h le = (h.0, rise_push e es n m h.1 le)

-- there are as many parts as places
pub length_parts : {A : Type 0} (s : ℕ) (ends : List ℕ) (xs : List A) → length (parts s ends xs) ≡ length ends
length_parts s [] xs = refl
length_parts s (e ∷ es) xs = ap suc (length_parts e es xs)

-- the items behind the last place make one more part
pub parts_push : {A : Type 0} (s : ℕ) (ends : List ℕ) (xs ys : List A) (m : ℕ) → Rise s ends (length xs) → m ≡ length xs + length ys
    → parts s (ends ++ m ∷ []) (xs ++ ys) ≡ parts s ends xs ++ ys ∷ []
parts_push s [] xs ys m h e =
    let rest : m - length xs ≡ length ys = omega (arith, e) in
    rw (h, drop-append_seam xs ys, rest, take-length ys) refl
parts_push s (x ∷ es) xs ys m h e =
    let later = rise_le x es (length xs) h.1 in
    let low : s ≤ length xs = omega (arith, h.0, later) in
    let room : x - s ≤ length (drop s xs) = rw (length-drop s xs) (omega (arith, h.0, later)) in
    rw (drop-append-le s xs ys low, take-append-le (x - s) (drop s xs) ys room, parts_push x es xs ys m h.1 e) refl

-- where a part starts
start_before : (s : ℕ) (ends : List ℕ) (i : ℕ) → i < length ends → start_of s ends (suc i) ≡ get_or ends i 0
start_before s [] i lt = absurd (omega arith)
start_before s (e ∷ []) zero lt = refl
start_before s (e ∷ f ∷ es) zero lt = refl
start_before s (e ∷ es) (suc i) lt = start_before e es i (omega arith)

pub start_zero : (s : ℕ) (ends : List ℕ) → start_of s ends 0 ≡ s
start_zero s [] = refl
start_zero s (e ∷ es) = refl

pub start_after : (s : ℕ) (ends : List ℕ) (i : ℕ) → 0 < i → i < length ends → start_of s ends i ≡ get_or ends (i - 1) 0
start_after s ends zero h lt = absurd (omega arith)
start_after s ends (suc i) h lt = start_before s ends i (omega arith) ∙ (let e : suc i - 1 ≡ i = omega arith in rw e refl)

-- a part starts before it ends, and ends within the items
pub rise_at : (s : ℕ) (ends : List ℕ) (n i : ℕ) → Rise s ends n → i < length ends → (start_of s ends i ≤ get_or ends i 0) × (get_or ends i 0 ≤ n)
rise_at s [] n i h lt = absurd (omega arith)
rise_at s (e ∷ es) n zero h lt = (h.0, rise_le e es n h.1)
rise_at s (e ∷ es) n (suc i) h lt = rise_at e es n i h.1 (omega arith)

-- a part is what stands from its start to its end
pub part_at : {A : Type 0} (s : ℕ) (ends : List ℕ) (xs : List A) (i : ℕ) (d : List A) → i < length ends
    → get_or (parts s ends xs) i d ≡ slice_range xs (start_of s ends i) (get_or ends i 0)
part_at s [] xs i d lt = absurd (omega arith)
part_at s (e ∷ es) xs zero d lt = refl
part_at s (e ∷ es) xs (suc i) d lt = part_at e es xs i d (omega arith)

pub slice_get-parts : {A : Type 0} (ends : List ℕ) (xs : List A) (i : ℕ) → i < length ends → slice_get (parts 0 ends xs) i ≡ Some (slice_range xs (start_of 0 ends i) (get_or ends i 0))
slice_get-parts ends xs i lt =
    let long = length_parts 0 ends xs in
    slice_get-get_or (parts 0 ends xs) i [] (omega arith) ∙ ap Some (part_at 0 ends xs i [] lt)

-- what stands up to a place, and from there up to a later one
take_on : {A : Type 0} (s e : ℕ) (xs : List A) → s ≤ e → take s xs ++ slice_range xs s e ≡ take e xs
take_on zero e xs le = let all : e - 0 ≡ e = omega arith in ap (λ n. take n xs) all
take_on (suc s) zero xs le = absurd (omega arith)
take_on {A} (suc s) (suc e) [] le = take_none (suc e - suc s)
  where
    take_none : (n : ℕ) → take {A = A} n [] ≡ []
    take_none zero = refl
    take_none (suc n) = refl
take_on (suc s) (suc e) (x ∷ xs) le = let less : suc e - suc s ≡ e - s = omega arith in rw less (ap (λ ys. x ∷ ys) (take_on s e xs (omega arith)))

-- the first parts are what stands before the next
joined-first : {A : Type 0} (ends : List ℕ) (xs : List A) (n : ℕ) → Rise 0 ends (length xs) → n ≤ length ends
    → joined_below n (λ i. get_or (parts 0 ends xs) i []) ≡ take (start_of 0 ends n) xs
joined-first ends xs zero rise le = rw (start_zero 0 ends) refl
joined-first ends xs (suc n) rise le =
    let order = rise_at 0 ends (length xs) n rise (omega arith) in
    rw (joined-first ends xs n rise (omega arith), part_at 0 ends xs n [] (omega arith), start_before 0 ends n (omega arith)) (take_on (start_of 0 ends n) (get_or ends n 0) xs order.0)

start_past : (s : ℕ) (ends : List ℕ) (n : ℕ) → Rise s ends n → start_of s ends (length ends) ≡ n
start_past s [] n rise = rise
start_past s (e ∷ ends) n rise = start_past e ends n rise.1

-- all parts are what they are made of
pub joined-parts : {A : Type 0} (ends : List ℕ) (xs : List A) → Rise 0 ends (length xs) → xs ≡ joined_below (length (parts 0 ends xs)) (λ i. get_or (parts 0 ends xs) i [])
joined-parts ends xs rise =
    sym (rw (length_parts 0 ends xs) (joined-first ends xs (length ends) rise (omega arith) ∙ ap (λ n. take n xs) (start_past 0 ends (length xs) rise) ∙ take_all (length xs) xs (omega arith)))

-- what a part that is appended leaves
pub pushed_part : {A : Type 0} (ends longer : List ℕ) (xs ys more : List A) (end : ℕ) → Rise 0 ends (length xs) → longer ≡ ends ++ end ∷ [] → more ≡ xs ++ ys → end ≡ length xs + length ys
    → Rise 0 longer (length more) × (parts 0 longer more ≡ parts 0 ends xs ++ ys ∷ [])
pushed_part ends longer xs ys more end rise is_longer is_more at =
    let size : end ≡ length (xs ++ ys) = at ∙ sym (length-append xs ys) in
    rw (is_longer, is_more) (rw (← size) (rise_push 0 ends (length xs) end rise (omega arith)), parts_push 0 ends xs ys end rise at)
