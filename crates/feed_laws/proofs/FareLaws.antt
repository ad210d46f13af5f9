-- The steps along legs gives each run and each change, and these look at no leg after them.
use Rattle.std.proofs.Common.{◌≡◌, refl, sym, ◌∙◌, ap, subst, ℕ, zero, suc, ◌+◌, ◌<◌, ◌≤◌, ◌⊎◌, inl, inr, Bool, true, false, arith, cond}
use Rattle.std.specs.Prelude.{Option, Some, None}
use Rattle.std.proofs.lemmas.Bool.{cases_lt, eqb-true}
use Rattle.transit_base.specs.declared.numbers.LegGroupId.{LegGroupId}
use Rattle.feed_rows.specs.FeedRows.{FeedRows}
use Rattle.plain_laws.specs.Plain.{filled_and}
use Rattle.feed_rows.specs.TransferRules.{FareLeg, same_group, goes_on, run_start, change_at, IsRun}
use Rattle.feed_rows.specs.FareSteps.{Run, change_to}
use Rattle.feed_rows.specs.FareStands.{fresh_run, extends, next_run, IsRunAt}
use Rattle.feed_laws.proofs.TransferLaws.{run_start-on, run_start-off, run_start-zero, run_start-run, run-off}

-- ---- the group of a run

-- groups that are the same are equal
pub same_group-equal : (a b : Option LegGroupId) → same_group a b ≡ true → a ≡ b
same_group-equal None b same = absurd (cc)
same_group-equal (Some g) None same = absurd (cc)
same_group-equal (Some g) (Some h) same = ap (λ n. Some (record { 0 = n })) (eqb-true g.0 h.0 same)

-- a leg with this group
record HasGroup (leg : ℕ → Option FareLeg) (i : ℕ) (group : Option LegGroupId) : Type 0 where
  pub value : FareLeg
  pub is : leg i ≡ Some value
  pub of_group : value.group ≡ group

-- a leg of the same group as the one before
group_on : (leg : ℕ → Option FareLeg) (i j : ℕ) (group : Option LegGroupId) →
    filled_and (leg i) (λ a. filled_and (leg j) (λ b. same_group a.group b.group)) ≡ true → HasGroup leg i group →
    HasGroup leg j group
group_on leg i j group same h =
    let is = h.is in
    by (leg j) refl (rw is at same)
  where
    by : (o : Option FareLeg) → leg j ≡ o → filled_and o (λ b. same_group h.value.group b.group) ≡ true →
        HasGroup leg j group
    by None is same = absurd (cc)
    by (Some b) is same = record {
      value = b;
      is = is;
      of_group = sym (same_group-equal h.value.group b.group same)
          ∙ h.of_group;
    }

-- each leg of a run has the group of its first
group_of_run : (feed : FeedRows) (leg : ℕ → Option FareLeg) (b i : ℕ) (group : Option LegGroupId) →
    IsRun feed leg b i → HasGroup leg b group → HasGroup leg i group
group_of_run feed leg b zero group run first = let begun = run.begun in let e : b ≡ 0 = omega arith in subst
    (λ n. HasGroup leg n group) e first
group_of_run feed leg b (suc i) group run first =
    by (λ le. group_of_run feed leg b i group (run-off feed leg b i run le) first) (cases_lt i b)
  where
    by : (b ≤ i → HasGroup leg i group) → (i < b) ⊎ (b ≤ i) → HasGroup leg (suc i) group
    by before (inl gt) = let begun = run.begun in let e : b ≡ suc i = omega arith in subst
        (λ n. HasGroup leg n group) e first
    by before (inr le) =
        let e : i + 1 ≡ suc i = omega arith in
        subst (λ n. HasGroup leg n group) e (group_on leg i (i + 1) group (run.one_group i le (omega arith))
        (before le))

-- so the last leg has the group of the run
last_of_run : (feed : FeedRows) (leg : ℕ → Option FareLeg) (i : ℕ) (run : Run) → IsRunAt feed leg i run →
    HasGroup leg i run.first.group
last_of_run feed leg i run at =
    group_of_run feed leg (run_start feed leg i) i run.first.group (run_start-run feed leg i)
    (record { value = run.first; is = at.first; of_group = refl })

-- ---- the course

-- the change after leg i is the change from its run to the next leg
pub change_of_run : (feed : FeedRows) (leg : ℕ → Option FareLeg) (i : ℕ) (run : Run) (next : FareLeg) →
    IsRunAt feed leg i run → leg (i + 1) ≡ Some next → change_at feed leg i ≡ change_to run next
unfolding change_at
change_of_run feed leg i run next at is_next =
    let last = last_of_run feed leg i run at in
    let last_is = last.is in
    let group = last.of_group in
    rw (at.first, last_is, is_next, at.changes, group) refl

-- the next leg goes on with the run as it goes on by number
pub extends_of_run : (feed : FeedRows) (leg : ℕ → Option FareLeg) (i : ℕ) (run : Run) (next : FareLeg) →
    IsRunAt feed leg i run → leg (i + 1) ≡ Some next → goes_on feed leg (run_start feed leg i) i ≡ extends feed run next
unfolding goes_on extends
extends_of_run feed leg i run next at is_next =
    let last = last_of_run feed leg i run at in
    let last_is = last.is in
    let group = last.of_group in
    rw (at.first, last_is, is_next, at.changes, group) refl

-- the run of the first leg
pub run_of_first : (feed : FeedRows) (leg : ℕ → Option FareLeg) (first : FareLeg) → leg 0 ≡ Some first →
    IsRunAt feed leg 0 (fresh_run first)
run_of_first feed leg first is =
    let start = run_start-zero feed leg in
    record {
      first = ap leg start ∙ is;
      changes = omega arith;
    }

-- the next leg goes on with the run, or starts one
next_by : (feed : FeedRows) (leg : ℕ → Option FareLeg) (i : ℕ) (run : Run) (next : FareLeg) (b : Bool) →
    extends feed run next ≡ b → IsRunAt feed leg i run → leg (i + 1) ≡ Some next →
    IsRunAt feed leg (suc i) (cond b (record { first = run.first; changes = run.changes + 1 }) (fresh_run next))
next_by feed leg i run next true e at is_next =
    let start = run_start-on feed leg i (extends_of_run feed leg i run next at is_next ∙ e) in
    let begun = (run_start-run feed leg i).begun in
    let changes = at.changes in
    record {
      first = ap leg start ∙ at.first;
      changes = omega arith;
    }
next_by feed leg i run next false e at is_next =
    let start = run_start-off feed leg i (extends_of_run feed leg i run next at is_next ∙ e) in
    record {
      first = ap leg start ∙ is_next;
      changes = omega arith;
    }

-- the run of leg i + 1 is the next run
pub run_of_next : (feed : FeedRows) (leg : ℕ → Option FareLeg) (i : ℕ) (run : Run) (next : FareLeg) →
    IsRunAt feed leg i run → leg (i + 1) ≡ Some next → IsRunAt feed leg (suc i) (next_run feed run next)
unfolding next_run
run_of_next feed leg i run next at is_next = next_by feed leg i run next (extends feed run next) refl at is_next

-- ---- what looks at no later leg

-- a leg goes on with a run as the legs up to it say
pub goes_on-prefix : (feed : FeedRows) (leg leg' : ℕ → Option FareLeg) (b i : ℕ) → b ≤ i →
    ((j : ℕ) → j ≤ i + 1 → leg j ≡ leg' j) → goes_on feed leg b i ≡ goes_on feed leg' b i
unfolding goes_on
goes_on-prefix feed leg leg' b i le same =
    let at_start = same b (omega arith) in
    let at_last = same i (omega arith) in
    let at_next = same (i + 1) (omega arith) in
    rw (at_start, at_last, at_next) refl

-- the start of a run looks at no leg after it
pub run_start-prefix : (feed : FeedRows) (leg leg' : ℕ → Option FareLeg) (i : ℕ) →
    ((j : ℕ) → j ≤ i → leg j ≡ leg' j) → run_start feed leg i ≡ run_start feed leg' i
unfolding run_start
run_start-prefix feed leg leg' zero same = refl
run_start-prefix feed leg leg' (suc i) same =
    let before = run_start-prefix feed leg leg' i (λ j h. same j (omega arith)) in
    let begun = (run_start-run feed leg' i).begun in
    let goes = goes_on-prefix feed leg leg' (run_start feed leg' i) i begun (λ j h. same j (omega arith)) in
    rw (before, goes) refl

-- a change looks at no leg after the one to which it leads
pub change_at-prefix : (feed : FeedRows) (leg leg' : ℕ → Option FareLeg) (i : ℕ) →
    ((j : ℕ) → j ≤ i + 1 → leg j ≡ leg' j) → change_at feed leg i ≡ change_at feed leg' i
unfolding change_at
change_at-prefix feed leg leg' i same =
    let before = run_start-prefix feed leg leg' i (λ j h. same j (omega arith)) in
    let begun = (run_start-run feed leg' i).begun in
    let at_start = same (run_start feed leg' i) (omega arith) in
    let at_last = same i (omega arith) in
    let at_next = same (i + 1) (omega arith) in
    rw (before, at_start, at_last, at_next) refl

-- the run of a leg looks at no leg after it
pub IsRunAt-prefix : (feed : FeedRows) (leg leg' : ℕ → Option FareLeg) (i : ℕ) (run : Run) →
    ((j : ℕ) → j ≤ i → leg j ≡ leg' j) → IsRunAt feed leg i run → IsRunAt feed leg' i run
IsRunAt-prefix feed leg leg' i run same at =
    let start = run_start-prefix feed leg leg' i same in
    let begun = (run_start-run feed leg i).begun in
    let changes = at.changes in
    record {
      first = sym (ap leg' start) ∙ sym (same (run_start feed leg i) begun) ∙ at.first;
      changes = omega arith;
    }
