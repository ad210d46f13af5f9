-- The state decides: a fare state of legs selects the same transfer rows for the change to any next leg as the whole list of legs
-- does, and the state after that leg follows from it.
use Rattle.std.proofs.Common.{◌≡◌, refl, sym, ap, subst, ℕ, zero, suc, ◌+◌, ◌≤◌, Bool, true, false, not, ◌&&◌, ◌||◌, List, [], ◌∷◌, arith}
use Rattle.std.specs.Prelude.{◌==◌, if◌then◌else◌, nat_le, min, max, map, fold, Option, Some, None, pos, slice_get}
use Rattle.std.specs.Option.{is_some, unwrap_or}
use Rattle.std.specs.List.{list_any, list_all}
use Rattle.std.proofs.lemmas.Bool.{eqb-true}
use Rattle.std.proofs.lemmas.Bool.Decides.{nat_tests}
use Rattle.std.proofs.lemmas.Option.{same_Some, none-some}
use Rattle.transit_base.specs.declared.numbers.LegGroupId.{LegGroupId}
use Rattle.transit_base.specs.declared.moments.Moment.{Moment}
use Rattle.feed_rows.specs.declared.fares.TransferFacts.{TransferFacts}
use Rattle.feed_rows.specs.declared.rows.Limit.{Limit}
use Rattle.feed_rows.specs.declared.rows.TransferRuleRow.{TransferRuleRow}
use Rattle.feed_rows.specs.declared.states.FareState.{FareState}
use Rattle.feed_rows.specs.FeedRows.{FeedRows}
use Rattle.feed_rows.specs.TransferRules.{FareLeg, AskedChange, asked_change, group_matches, limit_holds, is_candidate, suffices, count_le, is_least_count, is_selected}
use Rattle.feed_rows.specs.FareStates.{is_within, count_within, greatest_count, counts_from_departure, counts_from_arrival, is_clock_read, state_of_run}
use Rattle.feed_rows.specs.FareSteps.{Run, change_to, asked_after}
use Rattle.plain_laws.specs.Plain.{empty_or, filled_and, when}
use Rattle.plain_laws.proofs.Laws.{list_any-place}

-- the state that tells of this run
abbrev pub told : FeedRows → Run → Bool → FareState
told feed run is_first = state_of_run feed run.first.group run.changes run.first is_first

-- ---- counts

-- the greatest of numbers is at least each of them
greatest_above : {X : Type 0} (f : X → ℕ) (xs : List X) (a : ℕ) → a ≤ fold max a (map f xs)
greatest_above f [] a = omega arith
greatest_above f (x ∷ xs) a =
    let more = greatest_above f xs (max a (f x)) in
    omega (arith, more)

greatest_bounds : {X : Type 0} (f : X → ℕ) (xs : List X) (a i : ℕ) (x : X) → slice_get xs i ≡ Some x → f x ≤ fold max a (map f xs)
greatest_bounds f [] a i x is = absurd (none-some x is)
greatest_bounds f (y ∷ ys) a zero x is =
    let more = greatest_above f ys (max a (f y)) in
    let same : f y ≡ f x = ap f (same_Some y x is) in
    omega (arith, more, same)
greatest_bounds f (y ∷ ys) a (suc i) x is = greatest_bounds f ys (max a (f y)) i x is

-- a row within the group counts no further than the greatest count
row_bounds : (feed : FeedRows) (group : LegGroupId) (i : ℕ) (row : TransferRuleRow) (n : ℕ) → slice_get feed.transfer_rules i ≡ Some row →
    is_within feed group row ≡ true → row.count ≡ Some n → n ≤ greatest_count feed group
unfolding greatest_count
row_bounds feed group i row n is within count =
    let here = greatest_bounds (count_within feed group) feed.transfer_rules 0 i row is in
    let same : count_within feed group row ≡ n = rw (within, count) refl in
    omega (arith, here, same)

-- so a capped number of changes is within the row's count as the number itself is
capped_suffices : (c g n : ℕ) → n ≤ g → nat_le (min c (g + 1) + 1) n ≡ nat_le (c + 1) n
capped_suffices c g n le = grind (arith, nat_tests, le)

-- one more change, capped before or after
pub capped_again : (c g : ℕ) → min (min c (g + 1) + 1) (g + 1) ≡ min (c + 1) (g + 1)
capped_again c g = omega arith

-- ---- rows

-- tests that agree on the items of a list agree on the list
any_same_on : {X : Type 0} (p q : X → Bool) (xs : List X) → ((i : ℕ) (x : X) → slice_get xs i ≡ Some x → p x ≡ q x) →
    list_any p xs ≡ list_any q xs
any_same_on p q [] same = refl
any_same_on p q (x ∷ xs) same =
    both (p x) (q x) _ _ (same 0 x refl) (any_same_on p q xs (λ i y is. same (suc i) y is))
  where
    both : (a b c d : Bool) → a ≡ b → c ≡ d → (a || c) ≡ (b || d)
    both a b c d e f = rw (e, f) refl

all_same_on : {X : Type 0} (p q : X → Bool) (xs : List X) → ((i : ℕ) (x : X) → slice_get xs i ≡ Some x → p x ≡ q x) →
    list_all p xs ≡ list_all q xs
all_same_on p q [] same = refl
all_same_on p q (x ∷ xs) same =
    both (p x) (q x) _ _ (same 0 x refl) (all_same_on p q xs (λ i y is. same (suc i) y is))
  where
    both : (a b c d : Bool) → a ≡ b → c ≡ d → (a && c) ≡ (b && d)
    both a b c d e f = rw (e, f) refl

-- the same rows of the feed suffice for both changes
pub record SameRows (feed : FeedRows) (a b : AskedChange) : Type 0 where
  pub same : (i : ℕ) (row : TransferRuleRow) → slice_get feed.transfer_rules i ≡ Some row → suffices feed a row ≡ suffices feed b row

module _ (feed : FeedRows) (a b : AskedChange) (rows : SameRows feed a b) where
  least_same : (count : Option ℕ) → is_least_count feed a count ≡ is_least_count feed b count
  unfolding is_least_count
  least_same count =
      all_same_on (λ row. not (suffices feed a row) || count_le count row.count) (λ row. not (suffices feed b row) || count_le count row.count)
      feed.transfer_rules (λ i row is. ap (λ (s : Bool). not s || count_le count row.count) (rows.same i row is))

  -- so the same are selected
  pub selected_same : (i : ℕ) (row : TransferRuleRow) → slice_get feed.transfer_rules i ≡ Some row →
      is_selected feed a row ≡ is_selected feed b row
  selected_same i row is = rw (rows.same i row is, least_same row.count) refl

  -- and one is arranged where the other is
  pub arranged_same : list_any (is_selected feed a) feed.transfer_rules ≡ list_any (is_selected feed b) feed.transfer_rules
  arranged_same = any_same_on (is_selected feed a) (is_selected feed b) feed.transfer_rules selected_same

-- ---- a change from a run, and from the state that tells of it

module _ (feed : FeedRows) (g h : LegGroupId) (first next : FareLeg) (changes : ℕ) where
  -- the change by the whole list
  abbrev real : TransferFacts
  real =
      record {
        from = g;
        to = h;
        count = (if g.0 == h.0 then changes + 1 else 1);
        first_departure = first.departure;
        first_arrival = first.arrival;
        next_departure = next.departure;
        next_arrival = next.arrival;
      }

  -- the clocks that the state keeps
  abbrev departure : Option Moment
  departure = when (is_clock_read feed counts_from_departure g) first.departure

  abbrev arrival : Option Moment
  arrival = when (is_clock_read feed counts_from_arrival g) first.arrival

  -- the change as far as the state tells
  abbrev known : TransferFacts
  known =
      record real {
        count = (if g.0 == h.0 then min changes (greatest_count feed g + 1) + 1 else 1);
        first_departure = unwrap_or departure (record { 0 = pos 0 });
        first_arrival = unwrap_or arrival (record { 0 = pos 0 });
      }

  abbrev holds : Limit → Bool
  holds limit = (if counts_from_departure limit.kind then is_some departure else is_some arrival) && limit_holds known limit

  abbrev asked : AskedChange
  asked = record { from = g; to = h; count = known.count; holds = holds }

  -- a limit of a row from the group reads a clock that the state keeps
  limit_same : (i : ℕ) (row : TransferRuleRow) (limit : Limit) → slice_get feed.transfer_rules i ≡ Some row →
      group_matches feed (λ r. r.from) row.from g ≡ true → row.limit ≡ Some limit → holds limit ≡ limit_holds real limit
  unfolding limit_holds is_clock_read
  limit_same i row limit at from has = by (counts_from_departure limit.kind) refl
    where
      reads : (counts : ℕ → Bool) → counts limit.kind ≡ true → is_clock_read feed counts g ≡ true
      reads counts is =
          list_any-place (λ r. group_matches feed (λ s. s.from) r.from g && filled_and r.limit (λ l. counts l.kind)) feed.transfer_rules i row at
          (rw (from, has, is) refl)

      by : (b : Bool) → counts_from_departure limit.kind ≡ b → holds limit ≡ limit_holds real limit
      by true is = let kept = reads counts_from_departure is in rw (is, kept) refl
      by false is = let kept = reads counts_from_arrival (rw is refl) in rw (is, kept) refl

  limits_same : (i : ℕ) (row : TransferRuleRow) → slice_get feed.transfer_rules i ≡ Some row →
      group_matches feed (λ r. r.from) row.from g ≡ true → empty_or row.limit holds ≡ empty_or row.limit (limit_holds real)
  limits_same i row at from = by row.limit refl
    where
      by : (o : Option Limit) → row.limit ≡ o → empty_or o holds ≡ empty_or o (limit_holds real)
      by None is = refl
      by (Some limit) is = limit_same i row limit at from is

  -- a count of a row within the group doesn't tell numbers past the greatest apart
  counts_same : (i : ℕ) (row : TransferRuleRow) → slice_get feed.transfer_rules i ≡ Some row →
      group_matches feed (λ r. r.from) row.from g ≡ true → group_matches feed (λ r. r.to) row.to h ≡ true →
      empty_or row.count (nat_le known.count) ≡ empty_or row.count (nat_le real.count)
  counts_same i row at from to = by (g.0 == h.0) refl row.count refl
    where
      same_group_id : (g.0 == h.0) ≡ true → h ≡ g
      same_group_id e = ap (λ (n : ℕ). record { 0 = n }) (sym (eqb-true g.0 h.0 e))

      by : (b : Bool) → (g.0 == h.0) ≡ b → (o : Option ℕ) → row.count ≡ o →
          empty_or o (nat_le (if b then min changes (greatest_count feed g + 1) + 1 else 1)) ≡ empty_or o (nat_le (if b then changes + 1 else 1))
      by b e None is = refl
      by false e (Some n) is = refl
      by true e (Some n) is =
          let to' : group_matches feed (λ r. r.to) row.to g ≡ true = subst (λ (k : LegGroupId). group_matches feed (λ r. r.to) row.to k ≡ true) (same_group_id e) to in
          capped_suffices changes (greatest_count feed g) n (row_bounds feed g i row n at (rw (from, to') refl) is)

  pub same_rows : SameRows feed asked (asked_change real)
  unfolding suffices is_candidate
  same_rows = record { same = λ i row at. by i row at (group_matches feed (λ r. r.from) row.from g) (group_matches feed (λ r. r.to) row.to h) refl refl }
    where
      both : (a b c c' d d' : Bool) → (a ≡ true → b ≡ true → (c ≡ c') × (d ≡ d')) → ((a && b && c) && d) ≡ ((a && b && c') && d')
      both true true c c' d d' same = let e = same refl refl in rw (e.0, e.1) refl
      both true false c c' d d' same = refl
      both false b c c' d d' same = refl

      by : (i : ℕ) (row : TransferRuleRow) → slice_get feed.transfer_rules i ≡ Some row → (a b : Bool) →
          group_matches feed (λ r. r.from) row.from g ≡ a → group_matches feed (λ r. r.to) row.to h ≡ b →
          suffices feed asked row ≡ suffices feed (asked_change real) row
      by i row at a b from to =
          both (group_matches feed (λ r. r.from) row.from g) (group_matches feed (λ r. r.to) row.to h) _ _ _ _
          (λ f t. (limits_same i row at f, counts_same i row at f t))

-- ---- the change to the next leg

-- what a state asks of rows is what the run does
pub record Agree (feed : FeedRows) (a : Option AskedChange) (b : Option TransferFacts) : Type 0 where
  pub some : is_some a ≡ is_some b
  pub rows : (asked : AskedChange) (change : TransferFacts) → a ≡ Some asked → b ≡ Some change → SameRows feed asked (asked_change change)

pub agree : (feed : FeedRows) (run : Run) (next : FareLeg) (is_first : Bool) →
    Agree feed (asked_after (told feed run is_first) next) (change_to run next)
agree feed run next is_first = by run.first.group next.group
  where
    leg_by : Option LegGroupId → FareLeg → FareLeg
    leg_by group leg = record leg { group = group }

    by : (og oh : Option LegGroupId) →
        Agree feed (asked_after (state_of_run feed og run.changes run.first is_first) (record next { group = oh }))
        (change_to (record { first = record run.first { group = og }; changes = run.changes }) (record next { group = oh }))
    by None oh = record { some = refl; rows = λ asked change none. absurd (none-some asked none) }
    by (Some g) None = record { some = refl; rows = λ asked change none. absurd (none-some asked none) }
    by (Some g) (Some h) = record {
      some = refl;
      rows = λ a c is is'.
          subst (λ (x : AskedChange). SameRows feed x (asked_change c)) (same_Some _ a is)
          (subst (λ (y : TransferFacts). SameRows feed (asked feed g h run.first next run.changes) (asked_change y)) (same_Some _ c is')
          (same_rows feed g h run.first next run.changes));
    }
