-- Rows of the file whose trips stand together, one row more, and all of them.
use Rattle.std.proofs.Common.{◌≡◌, refl, sym, ◌∙◌, ap, subst, ℕ, ◌+◌, ◌-◌, ◌<◌, ◌≤◌, inl, ⊎_elim, Bool, true, false, List, length, get_or, Option, None, Some, slice_set, get_or-set_other, get_or-set_same, arith, nat_lt, replicate}
use Rattle.std.proofs.lemmas.List.{length-set, length-replicate, get_or-replicate, get_or_past}
use Rattle.std.specs.Bool.{OnFalse, OnTrue}
use Rattle.std.proofs.lemmas.Bool.{cases_eq, cases_lt, ltb-true, ltb-false}
use Rattle.stop_order.specs.declared.times.TripTime.{TripTime}
use Rattle.transit_base.specs.declared.numbers.TripId.{TripId}
use Rattle.stop_order.specs.Numbered.{numbered_at}
use Rattle.stop_order.specs.Order.{trip_at, AreOrdered, continues_trip}
use Rattle.stop_order.specs.Order.{StandTogether, AreMarked, AreScattered}
use Rattle.stop_order.proofs.OrderLaws.{on_hit, on_told}

-- the row at a place of the file
abbrev pub in_file : ℕ → ℕ
in_file place = place

-- the order of the file is one by trips
pub file_order : (times : List TripTime) → StandTogether times (length times) → AreOrdered times in_file
file_order times stand =
    record {
      own = λ place lt. lt;
      placed = λ row lt. (row, lt, refl);
      together = λ i k j low high lt same. stand.together i k j low high lt same;
      in_order = λ i j less lt same. inl (stand.rising i j less lt same);
    }

-- the row before is of this row's trip
pub before_is : (times : List TripTime) (row : ℕ) → continues_trip times in_file row ≡ true → (0 < row) × (trip_at times (row - 1) ≡ trip_at times row)
before_is times row on = let told = on_told times in_file row on in (told.0, told.2)

-- a row that goes on with its trip
pub marked_on : (times : List TripTime) (row : ℕ) (begun : List Bool) → AreMarked times row begun → continues_trip times in_file row ≡ true → (numbered_at times (row - 1)).sequence < (numbered_at times row).sequence → AreMarked times (row + 1) begun
marked_on times row begun are on more =
    let before = before_is times row on in
    let some = before.0 in
    let here = before.1 in
    record {
      stand = record {
        together = λ i k j low high lt same. ⊎_elim
            (λ (last : j ≡ row). ⊎_elim
            (λ (own : k ≡ row). ap (trip_at times) (own ∙ sym last))
            (λ (apart : k ≡ row → ⊥).
            let same' : trip_at times i ≡ trip_at times (row - 1) = same ∙ ap (trip_at times) last ∙ sym here in
            are.stand.together i k (row - 1) low (omega arith) (omega arith) same' ∙ here ∙ ap (trip_at times) (sym last))
            (cases_eq k row))
            (λ (other : j ≡ row → ⊥). are.stand.together i k j low high (omega arith) same)
            (cases_eq j row);
        rising = λ i j less lt same. ⊎_elim
            (λ (last : j ≡ row).
            let same' : trip_at times i ≡ trip_at times (row - 1) = same ∙ ap (trip_at times) last ∙ sym here in
            let up : (numbered_at times i).sequence ≤ (numbered_at times (row - 1)).sequence = ⊎_elim
            (λ (is : i ≡ row - 1). rw is (omega arith))
            (λ (apart : i ≡ row - 1 → ⊥).
            let up' = are.stand.rising i (row - 1) (omega arith) (omega arith) same' in
            omega (arith, up'))
            (cases_eq i (row - 1)) in
            let least : (numbered_at times i).sequence < (numbered_at times row).sequence = omega (arith, up, more) in
            rw last least)
            (λ (other : j ≡ row → ⊥). are.stand.rising i j less (omega arith) same)
            (cases_eq j row);
      };
      marked = λ r trip lt is. ⊎_elim
          (λ (last : r ≡ row). are.marked (row - 1) trip (omega arith) (here ∙ ap (trip_at times) (sym last) ∙ is))
          (λ (other : r ≡ row → ⊥). are.marked r trip (omega arith) is)
          (cases_eq r row);
      many = are.many;
      met = λ trip begins. let at = are.met trip begins in let lt = at.1 in (at.0, omega arith, at.2);
    }

-- a row that begins a trip which isn't marked
pub marked_anew : (times : List TripTime) (row : ℕ) (trip : TripId) (begun : List Bool) → AreMarked times row begun → trip_at times row ≡ Some trip → trip.0 < length begun → get_or begun trip.0 false ≡ false → AreMarked times (row + 1) (slice_set begun trip.0 true)
marked_anew times row trip begun are here inside unmarked =
    record {
      stand = record {
        together = λ i k j low high lt same. ⊎_elim
            (λ (last : j ≡ row). ⊎_elim
            (λ (own : k ≡ row). ap (trip_at times) (own ∙ sym last))
            (λ (apart : k ≡ row → ⊥). absurd (new i (omega arith) (same ∙ ap (trip_at times) last)))
            (cases_eq k row))
            (λ (other : j ≡ row → ⊥). are.stand.together i k j low high (omega arith) same)
            (cases_eq j row);
        rising = λ i j less lt same. ⊎_elim
            (λ (last : j ≡ row). absurd (new i (omega arith) (same ∙ ap (trip_at times) last)))
            (λ (other : j ≡ row → ⊥). are.stand.rising i j less (omega arith) same)
            (cases_eq j row);
      };
      marked = λ r other lt is. ⊎_elim
          (λ (own : other.0 ≡ trip.0). rw (own, get_or-set_same) refl)
          (λ (apart : other.0 ≡ trip.0 → ⊥). rw get_or-set_other (are.marked r other (before r other lt is apart) is))
          (cases_eq other.0 trip.0);
      many = length-set begun trip.0 true ∙ are.many;
      met = λ other begins. ⊎_elim
          (λ (own : other.0 ≡ trip.0). (row, omega arith, here ∙ ap (λ n. Some (trip_of n)) (sym own)))
          (λ (apart : other.0 ≡ trip.0 → ⊥).
          let old : get_or begun other.0 false ≡ true = rw get_or-set_other at begins in
          let at = are.met other old in
          let lt = at.1 in
          (at.0, omega arith, at.2))
          (cases_eq other.0 trip.0);
    }
  where
    trip_of : ℕ → TripId
    trip_of n = record { 0 = n }

    -- no row before has the trip
    new : (i : ℕ) → i < row → trip_at times i ≡ trip_at times row → ⊥
    new i lt same =
        let told = are.marked i trip lt (same ∙ here) in
        let no : true ≡ false = sym told ∙ unmarked in
        absurd (cc)

    before : (r : ℕ) (other : TripId) → r < row + 1 → trip_at times r ≡ Some other → (other.0 ≡ trip.0 → ⊥) → r < row
    before r other lt is apart = ⊎_elim
        (λ (last : r ≡ row).
        let both : Some other ≡ Some trip = sym is ∙ ap (trip_at times) last ∙ here in
        absurd (apart (ap number both)))
        (λ (apart' : r ≡ row → ⊥). omega arith)
        (cases_eq r row)
      where
        number : Option TripId → ℕ
        number None = 0
        number (Some t) = t.0

-- before the first row
pub none_marked : (times : List TripTime) (begun : List Bool) → begun ≡ replicate (length times) false → AreMarked times 0 begun
none_marked times begun is =
    record {
      stand = record {
        together = λ i k j low high lt same. absurd (omega (arith, lt));
        rising = λ i j less lt same. absurd (omega (arith, lt));
      };
      many = ap length is ∙ length-replicate (length times) false;
      marked = λ r trip lt e. absurd (omega (arith, lt));
      met = λ trip begins. let unmarked = ap (λ marks. get_or marks trip.0 false) is ∙ blank (length times) trip.0 in absurd (cc);
    }
  where
    blank : (n i : ℕ) → get_or (replicate n false) i false ≡ false
    blank n i = ⊎_elim
        (λ (inside : i < n). get_or-replicate n i false false inside)
        (λ (past : n ≤ i). get_or_past (replicate n false) i false (rw length-replicate past))
        (cases_lt i n)

-- a row of the trip of the row before, whose sequence isn't greater
pub scattered_on : (times : List TripTime) (row : ℕ) → row < length times → continues_trip times in_file row ≡ true → (numbered_at times row).sequence ≤ (numbered_at times (row - 1)).sequence → AreScattered times
scattered_on times row within on most =
    record {
      refutes = λ stand few.
          let before = before_is times row on in
          let some = before.0 in
          let less = stand.rising (row - 1) row (omega (arith, some)) within before.1 in
          omega (arith, less, most);
    }

-- a row whose trip isn't there
pub scattered_none : (times : List TripTime) (row : ℕ) → row < length times → trip_at times row ≡ None → AreScattered times
scattered_none times row within none =
    record { refutes = λ stand few. let is = (few row within).1 in absurd (cc) }

-- a trip past the marks
pub scattered_past : (times : List TripTime) (row : ℕ) (trip : TripId) (begun : List Bool) → row < length times → AreMarked times row begun → trip_at times row ≡ Some trip → length begun ≤ trip.0 → AreScattered times
scattered_past times row trip begun within are here past =
    record {
      refutes = λ stand few.
          let told = few row within in
          let same : Some told.0 ≡ Some trip = sym told.1 ∙ here in
          let below : trip.0 < length times = subst (λ (o : Option TripId). number o < length times) same told.2 in
          let many = are.many in
          omega (arith, below, many, past);
    }
  where
    number : Option TripId → ℕ
    number None = 0
    number (Some t) = t.0

-- a trip that comes back
pub scattered_again : (times : List TripTime) (row : ℕ) (trip : TripId) (begun : List Bool) → row < length times → AreMarked times row begun → continues_trip times in_file row ≡ false → trip_at times row ≡ Some trip → get_or begun trip.0 false ≡ true → AreScattered times
scattered_again times row trip begun within are off here again =
    record {
      refutes = λ stand few.
          let at = are.met trip again in
          let lt = at.1 in
          let same = stand.together at.0 (row - 1) row (omega (arith, lt)) (omega arith) within (at.2 ∙ sym here) in
          let on = on_hit times in_file (row - 1) row (omega (arith, lt)) within same in
          absurd (cc);
    }

-- a row that goes on with its trip, where its sequence is tested
pub marked_if_more : (times : List TripTime) (row : ℕ) (begun : List Bool) (more : Bool) → AreMarked times row begun → continues_trip times in_file row ≡ true → more ≡ nat_lt (numbered_at times (row - 1)).sequence (numbered_at times row).sequence → OnTrue more (AreMarked times (row + 1) begun)
marked_if_more times row begun true are on is = marked_on times row begun are on (ltb-true _ _ (sym is))
marked_if_more times row begun false are on is = tt

pub scattered_if_not : (times : List TripTime) (row : ℕ) (more : Bool) → row < length times → continues_trip times in_file row ≡ true → more ≡ nat_lt (numbered_at times (row - 1)).sequence (numbered_at times row).sequence → OnFalse more (AreScattered times)
scattered_if_not times row true within on is = tt
scattered_if_not times row false within on is = scattered_on times row within on (ltb-false _ _ (sym is))
