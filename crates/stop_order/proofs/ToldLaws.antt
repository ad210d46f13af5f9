-- What is told of the places before one, and of one more.
use Rattle.std.proofs.Common.{◌≡◌, sym, ◌∙◌, ap, ℕ, zero, suc, ◌+◌, ◌<◌, ◌≤◌, ◌≢◌, inl, inr, ⊎_elim, List, [], ◌∷◌, ◌++◌, length, get_or, take, replicate, slice_set, get_or-set_same, get_or-set_other, Option, None, add-one, refl, arith}
use Rattle.std.specs.Prelude.{if◌then◌else◌}
use Rattle.std.specs.Option.{option_or}
use Rattle.std.proofs.lemmas.Bool.{cases_eq, cases_lt}
use Rattle.std.proofs.lemmas.List.{take_all, length-set, length-replicate, get_or-replicate, get_or_past}
use Rattle.stop_order.specs.declared.times.TripTime.{TripTime}
use Rattle.stop_order.specs.declared.times.OrderFaults.{OrderFaults}
use Rattle.stop_order.specs.Numbered.{numbered_at, last_time, no_faults, AreAllOrNone}
use Rattle.stop_order.specs.Order.{continues_trip, time_before, place_faults, AreTold}

-- nothing is told before the first place
pub none_told : (times : List TripTime) (row : ℕ → ℕ) (faults : List OrderFaults) → faults ≡ [] → AreTold times row 0 None faults
unfolding time_before continues_trip
none_told times row faults none =
    record {
      time = refl;
      count = inr (ap length none);
      told = λ place lt. absurd (omega (arith, lt));
      untold = λ r apart. ap (λ list. get_or list r no_faults) none;
    }

-- the time before the next place
time_later : (times : List TripTime) (row : ℕ → ℕ) (place : ℕ) (next : Option ℕ) → next ≡ option_or (last_time (numbered_at times (row place))) (time_before times row place) → (if continues_trip times row (place + 1) then next else None) ≡ time_before times row (place + 1)
unfolding time_before
time_later times row place next is = rw (is, add-one) refl

-- a place more, whose row no place before has, where the list changes at this row alone
pub told_more : (times : List TripTime) (row : ℕ → ℕ) (place : ℕ) (before next : Option ℕ) (faults list : List OrderFaults) → AreTold times row place before faults → ((k : ℕ) → k < place → row k ≡ row place → ⊥) → next ≡ option_or (last_time (numbered_at times (row place))) (time_before times row place) → AreAllOrNone (length times) list → get_or list (row place) no_faults ≡ place_faults times row place → ((r : ℕ) → r ≢ row place → get_or list r no_faults ≡ get_or faults r no_faults) → AreTold times row (place + 1) next list
told_more times row place before next faults list are apart is count here others =
    record {
      time = time_later times row place next is;
      count = count;
      told = λ k lt. ⊎_elim
          (λ (own : k ≡ place). rw own here)
          (λ (other : k ≡ place → ⊥). let less : k < place = omega arith in others (row k) (apart k less) ∙ are.told k less)
          (cases_eq k place);
      untold = λ r none. others r (λ own. none place (omega arith) (sym own)) ∙ are.untold r (λ k lt own. none k (omega (arith, lt)) own);
    }

-- a place at which nothing is wrong
pub told_none : (times : List TripTime) (row : ℕ → ℕ) (place : ℕ) (before next : Option ℕ) (faults : List OrderFaults) → AreTold times row place before faults → ((k : ℕ) → k < place → row k ≡ row place → ⊥) → next ≡ option_or (last_time (numbered_at times (row place))) (time_before times row place) → place_faults times row place ≡ no_faults → AreTold times row (place + 1) next faults
told_none times row place before next faults are apart is none =
    told_more times row place before next faults faults are apart is are.count (are.untold (row place) apart ∙ sym none) (λ r other. refl)

-- no faults behind a list say nothing
fill_up : (more : ℕ) (faults : List OrderFaults) (r : ℕ) → get_or (faults ++ replicate more no_faults) r no_faults ≡ get_or faults r no_faults
fill_up more [] r = ⊎_elim
    (λ (lt : r < more). get_or-replicate more r no_faults no_faults lt)
    (λ (past : more ≤ r). get_or_past (replicate more no_faults) r no_faults (rw length-replicate past))
    (cases_lt r more)
fill_up more (x ∷ xs) zero = refl
fill_up more (x ∷ xs) (suc r) = fill_up more xs r

-- a place at which something is wrong
pub told_some : (times : List TripTime) (row : ℕ → ℕ) (place : ℕ) (before next : Option ℕ) (faults list : List OrderFaults) (more : ℕ) → AreTold times row place before faults → ((k : ℕ) → k < place → row k ≡ row place → ⊥) → next ≡ option_or (last_time (numbered_at times (row place))) (time_before times row place) → list ≡ take (length times) faults ++ replicate more no_faults → length list ≡ length times → row place < length times → AreTold times row (place + 1) next (slice_set list (row place) (place_faults times row place))
told_some times row place before next faults list more are apart is made many within =
    told_more times row place before next faults (slice_set list (row place) (place_faults times row place)) are apart is
    (inl (length-set list (row place) (place_faults times row place) ∙ many))
    (get_or-set_same list (row place) (place_faults times row place) no_faults (omega (arith, within, many)))
    (λ r other. get_or-set_other list (row place) r (place_faults times row place) no_faults other ∙ ap (λ l. get_or l r no_faults) (made ∙ ap (λ l. l ++ replicate more no_faults) (take_all (length times) faults short)) ∙ fill_up more faults r)
  where
    short : length faults ≤ length times
    short = ⊎_elim (λ (all : length faults ≡ length times). omega arith) (λ (none : length faults ≡ 0). omega arith) are.count
