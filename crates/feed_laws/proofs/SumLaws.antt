-- What one more leg does to the sum.
use Rattle.std.proofs.Common.{◌≡◌, refl, sym, ◌∙◌, ap, ℕ, zero, suc, ◌+◌, ◌<◌, ◌≤◌, Bool, true, false, not, ◌&&◌, ◌||◌, [], ◌∷◌, ◌++◌, length, arith, cond}
use Rattle.std.specs.Prelude.{Option, Some, None, is_none, if◌then◌else◌, ℤ, pos, ◌+ℤ◌, ◌-ℤ◌, slice_get}
use Rattle.std.proofs.lemmas.Int.{ints}
use Rattle.std.proofs.lemmas.List.{length_push}
use Rattle.std.proofs.lemmas.Option.{slice_get_past}
use Rattle.feed_rows.specs.declared.fares.ChangeChoice.{ChangeChoice}
use Rattle.feed_rows.specs.declared.fares.LegChoice.{LegChoice}
use Rattle.feed_rows.specs.declared.fares.Choice.{Choice}
use Rattle.feed_rows.specs.FeedRows.{FeedRows}
use Rattle.plain_laws.specs.Plain.{sum_below}
use Rattle.feed_rows.specs.FareSums.{transfer_kind, starts_chain, is_charged, amount_of, leg_amount, leg_charge, change_charge, fare_sum}
use Rattle.feed_rows.specs.FareStates.{held_at}
use Rattle.feed_rows.specs.FareSteps.{frees_next, frees_first, next_held, next_paid, place_kind, place_charge}
use Rattle.plain_laws.proofs.Laws.{sum_below-same, slice_get-old_item, slice_get-new_item}

-- what leg i costs, where `kind` gives the type of each change and `amount` the amount of each leg
abbrev pub cost : (ℕ → Option ℕ) → (ℕ → ℤ) → ℕ → ℤ
cost kind amount i = if is_charged kind i then amount i else pos 0

-- the sum of n + 1 legs and the n changes between them
abbrev pub total : (ℕ → Option ℕ) → (ℕ → ℤ) → (ℕ → ℤ) → ℕ → ℤ
total kind amount change n = sum_below (suc n) (cost kind amount) +ℤ sum_below n change

-- what the leg after a change of this type adds
abbrev added : Option ℕ → ℤ → ℤ
added kind amount = if frees_next kind then pos 0 else amount

-- what a change of this type takes back of what is held
abbrev taken_back : Option ℕ → ℤ → ℤ
taken_back kind held = if frees_first kind then held else pos 0

-- the sum after one more leg, with what the change before it costs
abbrev pub next_total : ℤ → ℤ → Option ℕ → ℤ → ℤ → ℤ
next_total sum held kind amount change = sum +ℤ (added kind amount +ℤ change) -ℤ taken_back kind held

-- the one says of n + 1 legs, and the n changes between them, what the other says of these and one leg more
pub record IsOneMore (kind : ℕ → Option ℕ) (amount change : ℕ → ℤ) (kind' : ℕ → Option ℕ) (amount' change' : ℕ → ℤ) (n : ℕ) : Type 0 where
  pub kinds : (i : ℕ) → i < n → kind i ≡ kind' i
  pub amounts : (i : ℕ) → i ≤ n → amount i ≡ amount' i
  pub changes : (i : ℕ) → i < n → change i ≡ change' i
  pub ends : kind n ≡ None
  pub ends_later : kind' (suc n) ≡ None

-- what a leg costs is seen in the changes at its two ends
pub cost-same : (kind kind' : ℕ → Option ℕ) (amount amount' : ℕ → ℤ) (n : ℕ) → ((i : ℕ) → i < n → kind i ≡ kind' i) → ((i : ℕ) → i < n → amount i ≡ amount' i) →
    (i : ℕ) → i < n → cost kind amount i ≡ cost kind' amount' i
unfolding is_charged starts_chain
cost-same kind kind' amount amount' n same cheap zero h = rw (same 0 h, cheap 0 h) refl
cost-same kind kind' amount amount' n same cheap (suc i) h =
    let before = same i (omega arith) in
    let after = same (suc i) h in
    let here = cheap (suc i) h in
    rw (before, after, here) refl

-- a leg costs less by what a change after it takes back
cost_with : (entered starts frees : Bool) (a : ℤ) → (starts ≡ true → entered ≡ false) →
    cond (not (entered || (starts && false))) a (pos 0) ≡ cond (not (entered || (starts && frees))) a (pos 0) +ℤ cond frees (cond starts a (pos 0)) (pos 0)
cost_with true true frees a apart = absurd (let bad = apart refl in cc)
cost_with true false true a apart = refl
cost_with true false false a apart = refl
cost_with false true true a apart = omega (arith, ints)
cost_with false true false a apart = omega (arith, ints)
cost_with false false true a apart = omega (arith, ints)
cost_with false false false a apart = omega (arith, ints)

-- the leg that was last costs less by what the change after it takes back
cost_of_last : (kind : ℕ → Option ℕ) (amount change : ℕ → ℤ) (kind' : ℕ → Option ℕ) (amount' change' : ℕ → ℤ) (n : ℕ) →
    IsOneMore kind amount change kind' amount' change' n →
    cost kind amount n ≡ cost kind' amount' n +ℤ taken_back (kind' n) (held_at kind amount n)
unfolding is_charged starts_chain
cost_of_last kind amount change kind' amount' change' zero more =
    let here = more.amounts 0 (omega arith) in
    let ends = more.ends in
    rw (here, ends) (cost_with false true (frees_first (kind' 0)) (amount' 0) (λ _. refl))
cost_of_last kind amount change kind' amount' change' (suc n) more =
    let here = more.amounts (suc n) (omega arith) in
    let before = more.kinds n (omega arith) in
    let ends = more.ends in
    rw (here, before, ends) (cost_with (frees_next (kind' n)) (is_none (kind' n)) (frees_first (kind' (suc n))) (amount' (suc n)) (apart (kind' n)))
  where
    apart : (o : Option ℕ) → is_none o ≡ true → frees_next o ≡ false
    apart None e = refl
    apart (Some k) e = absurd (cc)

-- the new leg costs what it adds
cost_of_new : (kind' : ℕ → Option ℕ) (amount' : ℕ → ℤ) (n : ℕ) → kind' (suc n) ≡ None → cost kind' amount' (suc n) ≡ added (kind' n) (amount' (suc n))
unfolding is_charged starts_chain
cost_of_new kind' amount' n ends = rw ends (by (frees_next (kind' n)) (is_none (kind' n)))
  where
    by : (free starts : Bool) → cond (not (free || (starts && false))) (amount' (suc n)) (pos 0) ≡ cond free (pos 0) (amount' (suc n))
    by true starts = refl
    by false true = refl
    by false false = refl

-- the sums of the legs and of the changes, each with one more
sum_with : (s c last last' new change held : ℤ) → last ≡ last' +ℤ held →
    ((s +ℤ last') +ℤ new) +ℤ (c +ℤ change) ≡ ((s +ℤ last) +ℤ c) +ℤ (new +ℤ change) -ℤ held
sum_with s c last last' new change held e = omega (arith, ints)

-- the sum after one more leg, by the type of the change before it
pub total-more : (kind : ℕ → Option ℕ) (amount change : ℕ → ℤ) (kind' : ℕ → Option ℕ) (amount' change' : ℕ → ℤ) (n : ℕ) →
    IsOneMore kind amount change kind' amount' change' n →
    total kind' amount' change' (suc n) ≡ next_total (total kind amount change n) (held_at kind amount n) (kind' n) (amount' (suc n)) (change' n)
total-more kind amount change kind' amount' change' n more =
    let legs = sum_below-same n (cost kind amount) (cost kind' amount') (cost-same kind kind' amount amount' n more.kinds (λ i h. more.amounts i (omega arith))) in
    let places = sum_below-same n change change' more.changes in
    let new = cost_of_new kind' amount' n more.ends_later in
    let last = cost_of_last kind amount change kind' amount' change' n more in
    rw (legs, places, new)
    (sum_with (sum_below n (cost kind' amount')) (sum_below n change') (cost kind amount n) (cost kind' amount' n)
    (added (kind' n) (amount' (suc n))) (change' n) (taken_back (kind' n) (held_at kind amount n)) last)

-- what is held after one more leg
pub held_at-more : (kind : ℕ → Option ℕ) (amount : ℕ → ℤ) (n : ℕ) → held_at kind amount (suc n) ≡ next_held (kind n) (amount (suc n))
unfolding starts_chain
held_at-more kind amount n = refl

-- one leg and no change
pub total-first : (kind : ℕ → Option ℕ) (amount change : ℕ → ℤ) → kind 0 ≡ None → total kind amount change 0 ≡ amount 0
unfolding is_charged starts_chain
total-first kind amount change ends = rw ends (omega (arith, ints))

-- what is paid and what is held after one more leg are the sum after it
pub next_paid-total : (paid held amount change : ℤ) (kind : Option ℕ) →
    next_paid paid held kind amount change +ℤ next_held kind amount ≡ next_total (paid +ℤ held) held kind amount change
next_paid-total paid held amount change kind = by (is_none kind) (frees_next kind) (frees_first kind) (unfreed kind)
  where
    unfreed : (o : Option ℕ) → is_none o ≡ true → frees_next o ≡ false
    unfreed None e = refl
    unfreed (Some k) e = absurd (cc)

    by : (none next first : Bool) → (none ≡ true → next ≡ false) →
        paid +ℤ cond first (pos 0) held +ℤ change +ℤ cond (none || next) (pos 0) amount +ℤ cond none amount (pos 0)
        ≡ (paid +ℤ held) +ℤ (cond next (pos 0) amount +ℤ change) -ℤ cond first held (pos 0)
    by true true first apart = absurd (let bad = apart refl in cc)
    by true false true apart = omega (arith, ints)
    by true false false apart = omega (arith, ints)
    by false true true apart = omega (arith, ints)
    by false true false apart = omega (arith, ints)
    by false false true apart = omega (arith, ints)
    by false false false apart = omega (arith, ints)

-- the one choice is the other with one more leg, and the place of the change to it
pub record IsPushed (choice : Choice) (place : Option ChangeChoice) (pick : LegChoice) (more : Choice) (n : ℕ) : Type 0 where
  pub legs : length choice.legs ≡ suc n
  pub changes : length choice.changes ≡ n
  pub more_legs : more.legs ≡ choice.legs ++ pick ∷ []
  pub more_changes : more.changes ≡ choice.changes ++ place ∷ []

-- the sum of a choice is the sum of its legs and changes by number
pub fare_sum-total : (feed : FeedRows) (choice : Choice) (n : ℕ) → length choice.legs ≡ suc n → length choice.changes ≡ n →
    fare_sum feed choice ≡ total (transfer_kind feed choice) (leg_amount feed choice) (change_charge feed choice) n
unfolding fare_sum leg_charge
fare_sum-total feed choice n legs changes = rw (legs, changes) refl

-- no change has a type past the places of a choice
pub transfer_kind_past : (feed : FeedRows) (choice : Choice) (n : ℕ) → length choice.changes ≤ n → transfer_kind feed choice n ≡ None
unfolding transfer_kind
transfer_kind_past feed choice n past = rw (slice_get_past choice.changes n past) refl

-- the place of a change gives its type
pub transfer_kind_at : (feed : FeedRows) (choice : Choice) (n : ℕ) (place : Option ChangeChoice) → slice_get choice.changes n ≡ Some place → transfer_kind feed choice n ≡ place_kind feed place
unfolding transfer_kind
transfer_kind_at feed choice n place is = rw is refl

-- the place of a change gives what it adds
pub change_charge_at : (feed : FeedRows) (choice : Choice) (n : ℕ) (place : Option ChangeChoice) → slice_get choice.changes n ≡ Some place → change_charge feed choice n ≡ place_charge feed place
unfolding change_charge
change_charge_at feed choice n place is = rw is refl

-- the choice of a leg gives its amount
pub leg_amount_at : (feed : FeedRows) (choice : Choice) (n : ℕ) (pick : LegChoice) → slice_get choice.legs n ≡ Some pick → leg_amount feed choice n ≡ amount_of feed pick.product
leg_amount_at feed choice n pick is = rw is refl

-- choices with the same place have the same type there
same_kind : (feed : FeedRows) (a b : Choice) (i : ℕ) → slice_get a.changes i ≡ slice_get b.changes i → transfer_kind feed a i ≡ transfer_kind feed b i
unfolding transfer_kind
same_kind feed a b i same = rw same refl

-- choices with the same place add the same there
same_charge : (feed : FeedRows) (a b : Choice) (i : ℕ) → slice_get a.changes i ≡ slice_get b.changes i → change_charge feed a i ≡ change_charge feed b i
unfolding change_charge
same_charge feed a b i same = rw same refl

-- choices with the same pick have the same amount there
same_amount : (feed : FeedRows) (a b : Choice) (i : ℕ) → slice_get a.legs i ≡ slice_get b.legs i → leg_amount feed a i ≡ leg_amount feed b i
same_amount feed a b i same = rw same refl

-- such a choice says of one more leg
pub more_of_pushed : (feed : FeedRows) (choice : Choice) (place : Option ChangeChoice) (pick : LegChoice) (more : Choice) (n : ℕ) → IsPushed choice place pick more n →
    IsOneMore (transfer_kind feed choice) (leg_amount feed choice) (change_charge feed choice) (transfer_kind feed more) (leg_amount feed more) (change_charge feed more) n
more_of_pushed feed choice place pick more n p =
    let legs = p.legs in
    let changes = p.changes in
    let long : length more.changes ≡ n + 1 = ap length p.more_changes ∙ length_push choice.changes place ∙ ap (λ k. k + 1) changes in
    record {
      kinds = λ i lt. same_kind feed choice more i (slice_get-old_item choice.changes more.changes place i p.more_changes (omega arith));
      amounts = λ i le. same_amount feed choice more i (slice_get-old_item choice.legs more.legs pick i p.more_legs (omega arith));
      changes = λ i lt. same_charge feed choice more i (slice_get-old_item choice.changes more.changes place i p.more_changes (omega arith));
      ends = transfer_kind_past feed choice n (omega arith);
      ends_later = transfer_kind_past feed more (suc n) (omega arith);
    }

-- equal parts give equal sums
same_next_total : (t t' held : ℤ) (k k' : Option ℕ) (a a' c c' : ℤ) → t ≡ t' → k ≡ k' → a ≡ a' → c ≡ c' → next_total t held k a c ≡ next_total t' held k' a' c'
same_next_total t t' held k k' a a' c c' e f g h = rw (e, f, g, h) refl

-- the sum of a choice with one more leg
pub fare_sum-push : (feed : FeedRows) (choice : Choice) (place : Option ChangeChoice) (pick : LegChoice) (more : Choice) (n : ℕ) → IsPushed choice place pick more n →
    fare_sum feed more ≡ next_total (fare_sum feed choice) (held_at (transfer_kind feed choice) (leg_amount feed choice) n) (place_kind feed place) (amount_of feed pick.product) (place_charge feed place)
fare_sum-push feed choice place pick more n p =
    let legs : length more.legs ≡ suc (suc n) = ap length p.more_legs ∙ length_push choice.legs pick ∙ ap (λ k. k + 1) p.legs ∙ omega arith in
    let changes : length more.changes ≡ suc n = ap length p.more_changes ∙ length_push choice.changes place ∙ ap (λ k. k + 1) p.changes ∙ omega arith in
    let kind = transfer_kind_at feed more n place (slice_get-new_item choice.changes more.changes place n p.changes p.more_changes) in
    let charge = change_charge_at feed more n place (slice_get-new_item choice.changes more.changes place n p.changes p.more_changes) in
    let amount = leg_amount_at feed more (suc n) pick (slice_get-new_item choice.legs more.legs pick (suc n) p.legs p.more_legs) in
    let old = fare_sum-total feed choice n p.legs p.changes in
    let step = total-more _ _ _ (transfer_kind feed more) (leg_amount feed more) (change_charge feed more) n (more_of_pushed feed choice place pick more n p) in
    fare_sum-total feed more (suc n) legs changes ∙ step ∙ same_next_total _ _ _ _ _ _ _ _ _ (sym old) kind amount charge

-- what is held after one more leg of a choice
pub held_at-push : (feed : FeedRows) (choice : Choice) (place : Option ChangeChoice) (pick : LegChoice) (more : Choice) (n : ℕ) → IsPushed choice place pick more n →
    held_at (transfer_kind feed more) (leg_amount feed more) (suc n) ≡ next_held (place_kind feed place) (amount_of feed pick.product)
held_at-push feed choice place pick more n p =
    let kind = transfer_kind_at feed more n place (slice_get-new_item choice.changes more.changes place n p.changes p.more_changes) in
    let amount = leg_amount_at feed more (suc n) pick (slice_get-new_item choice.legs more.legs pick (suc n) p.legs p.more_legs) in
    held_at-more (transfer_kind feed more) (leg_amount feed more) n
    ∙ ap (λ (k : Option ℕ). next_held k (leg_amount feed more (suc n))) kind
    ∙ ap (λ (a : ℤ). next_held (place_kind feed place) a) amount

-- the sum of a choice for one leg
pub fare_sum-first : (feed : FeedRows) (choice : Choice) (pick : LegChoice) → choice.legs ≡ pick ∷ [] → choice.changes ≡ [] → fare_sum feed choice ≡ amount_of feed pick.product
fare_sum-first feed choice pick legs changes =
    let e : length choice.legs ≡ suc 0 = ap length legs in
    let f : length choice.changes ≡ 0 = ap length changes in
    let is : slice_get choice.legs 0 ≡ Some pick = ap (λ xs. slice_get xs 0) legs in
    fare_sum-total feed choice 0 e f
    ∙ total-first (transfer_kind feed choice) (leg_amount feed choice) (change_charge feed choice) (transfer_kind_past feed choice 0 (omega arith))
    ∙ leg_amount_at feed choice 0 pick is

-- what is held after the first leg of a choice
pub held_at-first : (feed : FeedRows) (choice : Choice) (pick : LegChoice) → choice.legs ≡ pick ∷ [] → held_at (transfer_kind feed choice) (leg_amount feed choice) 0 ≡ amount_of feed pick.product
unfolding starts_chain
held_at-first feed choice pick legs = leg_amount_at feed choice 0 pick (ap (λ xs. slice_get xs 0) legs)
