-- The run of a leg: it starts with the least leg from which on all legs have one group and all changes are arranged.
use Rattle.std.proofs.Common.{◌≡◌, refl, sym, ◌∙◌, subst, ℕ, zero, suc, ◌+◌, ◌<◌, ◌≤◌, ◌⊎◌, inl, inr, Bool, true, false, ◌&&◌, arith}
use Rattle.std.specs.Prelude.{Option}
use Rattle.std.proofs.lemmas.Bool.{cases_lt, and_parts, and_from}
use Rattle.feed_rows.specs.FeedRows.{FeedRows}
use Rattle.feed_rows.specs.TransferRules.{FareLeg, change_at, goes_on, is_arranged_at, is_same_group_at, run_start, IsRun}

-- a run goes on exactly where the next leg has the same group and the change to it is arranged
pub goes_on-arranged : (feed : FeedRows) (leg : ℕ → Option FareLeg) (i : ℕ) → goes_on feed leg (run_start feed leg i) i ≡ (is_same_group_at leg i && is_arranged_at feed leg i)
unfolding goes_on change_at
goes_on-arranged feed leg i = refl

pub run_start-on : (feed : FeedRows) (leg : ℕ → Option FareLeg) (i : ℕ) → goes_on feed leg (run_start feed leg i) i ≡ true → run_start feed leg (suc i) ≡ run_start feed leg i
unfolding run_start
run_start-on feed leg i on = rw on refl

pub run_start-off : (feed : FeedRows) (leg : ℕ → Option FareLeg) (i : ℕ) → goes_on feed leg (run_start feed leg i) i ≡ false → run_start feed leg (suc i) ≡ i + 1
unfolding run_start
run_start-off feed leg i off = rw off refl

pub run_start-zero : (feed : FeedRows) (leg : ℕ → Option FareLeg) → run_start feed leg 0 ≡ 0
unfolding run_start
run_start-zero feed leg = refl

-- one more leg
run-on : (feed : FeedRows) (leg : ℕ → Option FareLeg) (b i : ℕ) → IsRun feed leg b i → is_same_group_at leg i ≡ true → is_arranged_at feed leg i ≡ true → IsRun feed leg b (suc i)
run-on feed leg b i run same arranged =
    let begun = run.begun in
    record {
      begun = omega arith;
      one_group = λ k from to. step (λ n. is_same_group_at leg n ≡ true) k (run.one_group k from) same (cases_lt k i) to;
      arranged = λ k from to. step (λ n. is_arranged_at feed leg n ≡ true) k (run.arranged k from) arranged (cases_lt k i) to;
    }
  where
    step : (P : ℕ → Type 0) (k : ℕ) → (k < i → P k) → P i → (k < i) ⊎ (i ≤ k) → k < suc i → P k
    step P k below here (inl lt) to = below lt
    step P k below here (inr ge) to = let e : i ≡ k = omega arith in subst P e here

run-fresh : (feed : FeedRows) (leg : ℕ → Option FareLeg) (i : ℕ) → IsRun feed leg i i
run-fresh feed leg i =
    record {
      begun = omega arith;
      one_group = λ k from to. absurd (omega arith);
      arranged = λ k from to. absurd (omega arith);
    }

-- the legs from the start of a leg's run on are a run
pub run_start-run : (feed : FeedRows) (leg : ℕ → Option FareLeg) (i : ℕ) → IsRun feed leg (run_start feed leg i) i
run_start-run feed leg zero = let e = run_start-zero feed leg in rw e (run-fresh feed leg 0)
run_start-run feed leg (suc i) = step (run_start-run feed leg i) (goes_on feed leg (run_start feed leg i) i) refl
  where
    step : IsRun feed leg (run_start feed leg i) i → (b : Bool) → goes_on feed leg (run_start feed leg i) i ≡ b → IsRun feed leg (run_start feed leg (suc i)) (suc i)
    step before true on =
        let both : (is_same_group_at leg i && is_arranged_at feed leg i) ≡ true = sym (goes_on-arranged feed leg i) ∙ on in
        rw (run_start-on feed leg i on) (run-on feed leg _ i before (and_parts _ _ both).0 (and_parts _ _ both).1)
    step before false off = let e : i + 1 ≡ suc i = omega arith in rw (run_start-off feed leg i off, e) (run-fresh feed leg (suc i))

-- the same legs without the last
pub run-off : (feed : FeedRows) (leg : ℕ → Option FareLeg) (b i : ℕ) → IsRun feed leg b (suc i) → b ≤ i → IsRun feed leg b i
run-off feed leg b i run le =
    record {
      begun = le;
      one_group = λ k from to. run.one_group k from (omega arith);
      arranged = λ k from to. run.arranged k from (omega arith);
    }

-- and no run of the leg starts earlier
pub run_start-least : (feed : FeedRows) (leg : ℕ → Option FareLeg) (i b : ℕ) → IsRun feed leg b i → run_start feed leg i ≤ b
run_start-least feed leg zero b run = let e = run_start-zero feed leg in omega arith
run_start-least feed leg (suc i) b run =
    step (λ le. run_start-least feed leg i b (run-off feed leg b i run le)) (goes_on feed leg (run_start feed leg i) i) refl (cases_lt i b)
  where
    step : (b ≤ i → run_start feed leg i ≤ b) → (g : Bool) → goes_on feed leg (run_start feed leg i) i ≡ g → (i < b) ⊎ (b ≤ i) → run_start feed leg (suc i) ≤ b
    step before true on (inl gt) =
        let e = run_start-on feed leg i on in
        let begun = (run_start-run feed leg i).begun in
        omega arith
    step before true on (inr le) =
        let e = run_start-on feed leg i on in
        let least = before le in
        omega arith
    step before false off (inl gt) = let e = run_start-off feed leg i off in omega arith
    step before false off (inr le) =
        let both = and_from _ _ (run.one_group i le (omega arith)) (run.arranged i le (omega arith)) in
        let on : true ≡ false = sym both ∙ sym (goes_on-arranged feed leg i) ∙ off in
        cc
