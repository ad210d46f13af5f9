-- The lines of a choice's tickets tell the choice.
use Rattle.std.proofs.Common.{◌≡◌, refl, sym, ◌∙◌, ap, subst, ℕ, zero, suc, ◌-◌, ◌<◌, Bool, true, false, ◌==◌, ◌&&◌, List, [], ◌∷◌, ◌++◌, length, take, Option, Some, None, arith}
use Rattle.std.specs.Prelude.{slice_get, option_and_then, if◌then◌else◌, ℤ}
use Rattle.std.specs.Option.{option_to_list}
use Rattle.std.proofs.lemmas.Bool.{ne_eqb, and_parts}
use Rattle.std.proofs.lemmas.Bool.Decides.{nat_tests}
use Rattle.std.proofs.lemmas.List.{length-take-le}
use Rattle.std.proofs.lemmas.Option.{none-some, same_Some, cond_some, option_and_then_some, slice_get_within}
use Rattle.std.proofs.Math.Seq.{take-length}
use Rattle.transit_base.specs.declared.numbers.ProductId.{ProductId}
use Rattle.transit_base.specs.declared.numbers.ProductRowId.{ProductRowId}
use Rattle.transit_base.specs.declared.numbers.StopId.{StopId}
use Rattle.feed_rows.specs.FeedRows.{FeedRows}
use Rattle.feed_rows.specs.EntryText.{leg_line, change_line, leg_lines, fare_lines}
use Rattle.feed_rows.specs.FareChoices.{fare_leg, is_open, is_leg_choice, is_transfer_choice, is_change_choice, is_change_product, is_leg_paid, is_change_paid, is_fare_choice}
use Rattle.feed_rows.specs.FareSums.{transfer_kind, is_charged, fare_sum}
use Rattle.feed_rows.specs.JourneyEntries.{rides_price}
use Rattle.feed_rows.specs.Legs.{legs_of}
use Rattle.feed_rows.specs.SoundFeed.{IsSoundFeed}
use Rattle.feed_rows.specs.TransferRules.{change_at, is_selected_transfer}
use Rattle.feed_rows.specs.declared.journeys.Buyer.{Buyer}
use Rattle.feed_rows.specs.declared.fares.ChangeChoice.{ChangeChoice}
use Rattle.feed_rows.specs.declared.fares.Choice.{Choice}
use Rattle.feed_rows.specs.declared.fares.LegChoice.{LegChoice}
use Rattle.feed_rows.specs.declared.fares.TransferFacts.{TransferFacts}
use Rattle.feed_rows.specs.declared.journeys.LegFacts.{LegFacts}
use Rattle.feed_rows.specs.declared.journeys.Ride.{Ride}
use Rattle.feed_rows.specs.declared.rows.ProductRow.{ProductRow}
use Rattle.feed_rows.specs.declared.rows.TransferRuleRow.{TransferRuleRow}
use Rattle.plain_laws.specs.Plain.{joined_below, lines_given}
use Rattle.plain_laws.proofs.Laws.{all_below-at, filled_and-true}
use Rattle.ticket_read.specs.Drafts.{with_leg}
use Rattle.ticket_read.specs.declared.drafts.Draft.{Draft}
use Rattle.ticket_read.specs.declared.drafts.Item.TheVariants as item
use Rattle.ticket_read.proofs.ItemLaws.{leg_tells, change_tells}
use Rattle.ticket_read.proofs.ReadingLaws.{Reads, reads_none, reads_line, reads_both, reads_joined}
use Rattle.ticket_read.proofs.WayLaws.{way_at}

-- the rows of a leg are rows of the feed
record IsLegOf (feed : FeedRows) (choice : Choice) (i : ℕ) : Type 0 where
  pick : LegChoice
  got : slice_get choice.legs i ≡ Some pick
  rule : pick.rule.0 < length feed.leg_rules
  row : ProductRow
  product : slice_get feed.products pick.product.0 ≡ Some row

-- a product row that a change names is one of the feed
abbrev HasProduct : FeedRows → ChangeChoice → Type 0
HasProduct feed pick = (id : ProductRowId) → pick.product ≡ Some id → (row : ProductRow) × (slice_get feed.products id.0 ≡ Some row)

-- the rows of a change are rows of the feed
record IsChangeOf (feed : FeedRows) (choice : Choice) (i : ℕ) : Type 0 where
  place : Option ChangeChoice
  got : slice_get choice.changes i ≡ Some place
  rule : (pick : ChangeChoice) → place ≡ Some pick → (row : TransferRuleRow) × (slice_get feed.transfer_rules pick.rule.0 ≡ Some row)
  product : (pick : ChangeChoice) → place ≡ Some pick → HasProduct feed pick

-- the rows of a choice are rows of the feed, with a place for each change between two legs
pub record IsChoiceOf (feed : FeedRows) (choice : Choice) : Type 0 where
  many : length choice.changes ≡ length choice.legs - 1
  legs : (i : ℕ) → i < length choice.legs → IsLegOf feed choice i
  changes : (i : ℕ) → i < length choice.changes → IsChangeOf feed choice i

told : (a b : ℕ) → (a == b) ≡ true → a ≡ b
told a b e = grind (arith, nat_tests)

leg_of : (feed : FeedRows) (legs : List LegFacts) (choice : Choice) (buyer : Buyer) (i : ℕ) → is_leg_paid feed legs choice buyer i ≡ true → IsLegOf feed choice i
unfolding is_leg_paid is_leg_choice
leg_of feed legs choice buyer i e =
    let leg = filled_and-true (slice_get legs i) _ e in
    let pick = filled_and-true (slice_get choice.legs i) (is_leg_choice feed buyer leg.value) leg.passes in
    let rule = filled_and-true (slice_get feed.leg_rules pick.value.rule.0) _ pick.passes in
    let product = filled_and-true (slice_get feed.products pick.value.product.0) _ (and_parts _ _ rule.passes).1 in
    record {
      pick = pick.value;
      got = pick.is;
      rule = slice_get_within feed.leg_rules pick.value.rule.0 rule.value rule.is;
      row = product.value;
      product = product.is;
    }

change_of : (feed : FeedRows) (legs : List LegFacts) (choice : Choice) (buyer : Buyer) (i : ℕ) → is_change_paid feed legs choice buyer i ≡ true → IsChangeOf feed choice i
unfolding is_change_paid is_transfer_choice
change_of feed legs choice buyer i e =
    let place = filled_and-true (slice_get choice.changes i) (is_change_choice feed buyer change) e in
    record {
      place = place.value;
      got = place.is;
      rule = λ pick is. let r = rule_of pick (subst (λ (p : Option ChangeChoice). is_change_choice feed buyer change p ≡ true) is place.passes) in (r.0, r.1);
      product = λ pick is. let r = rule_of pick (subst (λ (p : Option ChangeChoice). is_change_choice feed buyer change p ≡ true) is place.passes) in product_of pick r.0 r.2;
    }
  where
    change : Option TransferFacts
    change = change_at feed (fare_leg feed legs choice.legs) i

    rule_of : (pick : ChangeChoice) → is_change_choice feed buyer change (Some pick) ≡ true
        → (row : TransferRuleRow) × (slice_get feed.transfer_rules pick.rule.0 ≡ Some row) × (is_change_product feed buyer row.product pick.product ≡ true)
    rule_of pick h =
        let asked = filled_and-true change (λ (c : TransferFacts). is_transfer_choice feed buyer c pick) h in
        let rule = filled_and-true (slice_get feed.transfer_rules pick.rule.0)
        (λ (r : TransferRuleRow). is_selected_transfer feed asked.value r && is_change_product feed buyer r.product pick.product) asked.passes in
        (rule.value, rule.is, (and_parts (is_selected_transfer feed asked.value rule.value) (is_change_product feed buyer rule.value.product pick.product) rule.passes).1)

    product_of : (pick : ChangeChoice) (row : TransferRuleRow) → is_change_product feed buyer row.product pick.product ≡ true → HasProduct feed pick
    product_of pick row h id is = by row.product refl
      where
        by : (product : Option ProductId) → row.product ≡ product → (r : ProductRow) × (slice_get feed.products id.0 ≡ Some r)
        by None none = absurd (let no : false ≡ true = rw (none, is) at h in cc)
        by (Some product) some =
            let found = filled_and-true (slice_get feed.products id.0) (is_open product buyer) (rw (some, is) at h) in (found.value, found.is)

-- a choice that pays is such a choice
pub choice_of : (feed : FeedRows) (rides : List Ride) (choice : Choice) (buyer : Buyer) (price : ℤ) → rides_price feed rides choice buyer ≡ Some price → IsChoiceOf feed choice
unfolding is_fare_choice
choice_of feed rides choice buyer price e = option_and_then_some _ (legs_of feed rides) price e (λ legs _ paid.
    let all = (cond_some (is_fare_choice feed legs choice buyer) (fare_sum feed choice) price paid).0 in
    let a = and_parts _ _ all in
    let b = and_parts _ _ a.0 in
    let c = and_parts _ _ b.0 in
    let legs_many = told (length choice.legs) (length legs) c.0 in
    let changes_many = told (length choice.changes) (length legs - 1) c.1 in
    record {
      many = omega (arith, legs_many, changes_many);
      legs = λ i lt. leg_of feed legs choice buyer i (all_below-at (length legs) (is_leg_paid feed legs choice buyer) b.1 i (omega (arith, legs_many, lt)));
      changes = λ i lt. change_of feed legs choice buyer i (all_below-at (length legs - 1) (is_change_paid feed legs choice buyer) a.1 i (omega (arith, changes_many, lt)));
    })

-- ---- the lines

-- the change that is arranged after so many legs, if one is
abbrev pub place_after : Choice → ℕ → Option ChangeChoice
place_after choice zero = None
place_after choice (suc i) = option_and_then (λ place. place) (slice_get choice.changes i)

module _ (first last : Option StopId) (rides : List Ride) where
  -- what is told after so many legs, and the change behind them
  abbrev fares_at : List LegChoice → List (Option ChangeChoice) → Option ChangeChoice → Draft
  fares_at legs changes after = record { first = first; last = last; rides = rides; legs = legs; changes = changes; after = after }

  abbrev pub fares_after : Choice → ℕ → Draft
  fares_after choice k = fares_at (take k choice.legs) (take (k - 1) choice.changes) (place_after choice k)

  -- a leg more
  leg_added : (choice : Choice) (i : ℕ) (pick : LegChoice) → length choice.changes ≡ length choice.legs - 1 → slice_get choice.legs i ≡ Some pick
      → with_leg (fares_after choice i) pick ≡ fares_at (take (suc i) choice.legs) (take i choice.changes) None
  leg_added choice i pick many got = by i got
    where
      take_one : {X : Type 0} (xs : List X) (i : ℕ) (x : X) → slice_get xs i ≡ Some x → take i xs ++ x ∷ [] ≡ take (suc i) xs
      take_one [] i x got = absurd (none-some x got)
      take_one (y ∷ ys) zero x got = ap (λ z. z ∷ []) (sym (same_Some y x got))
      take_one (y ∷ ys) (suc i) x got = ap (λ zs. y ∷ zs) (take_one ys i x got)

      some_place : (k : ℕ) → k < length choice.changes → (place : Option ChangeChoice) × (slice_get choice.changes k ≡ Some place)
      some_place k lt = within choice.changes k lt
        where
          within : (xs : List (Option ChangeChoice)) (k : ℕ) → k < length xs → (place : Option ChangeChoice) × (slice_get xs k ≡ Some place)
          within [] k lt = absurd (omega arith)
          within (x ∷ xs) zero lt = (x, refl)
          within (x ∷ xs) (suc k) lt = within xs k (omega arith)

      by : (i : ℕ) → slice_get choice.legs i ≡ Some pick → with_leg (fares_after choice i) pick ≡ fares_at (take (suc i) choice.legs) (take i choice.changes) None
      by zero got = ap (λ (ls : List LegChoice). fares_at ls [] None) (take_one choice.legs 0 pick got)
      by (suc k) got =
          let within = slice_get_within choice.legs (suc k) pick got in
          let long = length-take-le (suc k) choice.legs (omega arith) in
          let some : (length (take (suc k) choice.legs) == 0) ≡ false = ne_eqb (length (take (suc k) choice.legs)) 0 (λ e. omega (arith, long, e)) in
          let place = some_place k (omega (arith, many, within)) in
          let is = place.1 in
          let before : suc k - 1 ≡ k = omega arith in
          let changes : take (suc k - 1) choice.changes ++ place_after choice (suc k) ∷ [] ≡ take (suc k) choice.changes =
          rw (before, is) (take_one choice.changes k place.0 is) in
          ap (λ (b : Bool). fares_at (take (suc k) choice.legs ++ pick ∷ []) (if b then take (suc k - 1) choice.changes else take (suc k - 1) choice.changes ++ place_after choice (suc k) ∷ []) None) some
          ∙ ap (λ (cs : List (Option ChangeChoice)). fares_at (take (suc k) choice.legs ++ pick ∷ []) cs None) changes
          ∙ ap (λ (ls : List LegChoice). fares_at ls (take (suc k) choice.changes) None) (take_one choice.legs (suc k) pick got)

  -- the lines of a leg and of the change after it
  leg_reads : (feed : FeedRows) (choice : Choice) (i : ℕ) → IsSoundFeed feed → IsChoiceOf feed choice → i < length choice.legs
      → Reads feed (leg_lines feed choice i) (fares_after choice i) (fares_after choice (suc i))
  unfolding leg_lines
  leg_reads feed choice i sound of lt =
      reads_both feed _ _ (fares_after choice i) between (fares_after choice (suc i)) leg (change (slice_get choice.changes i) refl)
    where
      is_leg : IsLegOf feed choice i
      is_leg = of.legs i lt

      charged : Bool
      charged = is_charged (transfer_kind feed choice) i

      between : Draft
      between = fares_at (take (suc i) choice.legs) (take i choice.changes) None

      leg : Reads feed (lines_given (slice_get choice.legs i) (λ pick. option_to_list (leg_line feed i charged pick))) (fares_after choice i) between
      leg =
          let got = is_leg.got in
          let read = reads_line feed (leg_line feed i charged is_leg.pick) (item.Leg is_leg.pick) (fares_after choice i) between
          (leg_tells feed i charged is_leg.pick is_leg.row sound is_leg.rule is_leg.product)
          (ap (λ (d : Draft). Some d) (leg_added choice i is_leg.pick of.many got)) in
          rw got read

      before : suc i - 1 ≡ i
      before = omega arith

      end : (o : Option (Option ChangeChoice)) → slice_get choice.changes i ≡ o
          → fares_at (take (suc i) choice.legs) (take i choice.changes) (option_and_then (λ place. place) o) ≡ fares_after choice (suc i)
      end o is = rw (before, is) refl

      change : (o : Option (Option ChangeChoice)) → slice_get choice.changes i ≡ o
          → Reads feed (lines_given (slice_get choice.changes i) (λ place. lines_given place (λ pick. option_to_list (change_line feed i pick)))) between (fares_after choice (suc i))
      change None is =
          subst (λ (o : Option (Option ChangeChoice)). Reads feed (lines_given o (λ place. lines_given place (λ pick. option_to_list (change_line feed i pick)))) between (fares_after choice (suc i))) (sym is)
          (subst (Reads feed [] between) (end None is) (reads_none feed between))
      change (Some None) is =
          subst (λ (o : Option (Option ChangeChoice)). Reads feed (lines_given o (λ place. lines_given place (λ pick. option_to_list (change_line feed i pick)))) between (fares_after choice (suc i))) (sym is)
          (subst (Reads feed [] between) (end (Some None) is) (reads_none feed between))
      change (Some (Some pick)) is =
          let known = of.changes i (slice_get_within choice.changes i (Some pick) is) in
          let place : known.place ≡ Some pick = same_Some known.place (Some pick) (sym known.got ∙ is) in
          let rule = known.rule pick place in
          subst (λ (o : Option (Option ChangeChoice)). Reads feed (lines_given o (λ place. lines_given place (λ pick. option_to_list (change_line feed i pick)))) between (fares_after choice (suc i))) (sym is)
          (reads_line feed (change_line feed i pick) (item.Change pick) between (fares_after choice (suc i))
          (change_tells feed i pick rule.0 sound rule.1 (known.product pick place)) (ap (λ (d : Draft). Some d) (end (Some (Some pick)) is)))

  -- what is told after all legs
  abbrev pub with_fares : Choice → Draft
  with_fares choice = fares_at choice.legs choice.changes (place_after choice (length choice.legs))

  -- the lines of a choice
  pub fares_read : (feed : FeedRows) (choice : Choice) → IsSoundFeed feed → IsChoiceOf feed choice
      → Reads feed (fare_lines feed choice) (way_at first last rides) (with_fares choice)
  unfolding fare_lines
  fares_read feed choice sound of =
      subst (Reads feed (joined_below (length choice.legs) (leg_lines feed choice)) (way_at first last rides)) all
      (reads_joined feed (length choice.legs) (leg_lines feed choice) (fares_after choice) (λ i lt. leg_reads feed choice i sound of lt))
    where
      all : fares_after choice (length choice.legs) ≡ with_fares choice
      all =
          ap (λ (ls : List LegChoice). fares_at ls (take (length choice.legs - 1) choice.changes) (place_after choice (length choice.legs))) (take-length choice.legs)
          ∙ ap (λ (cs : List (Option ChangeChoice)). fares_at choice.legs cs (place_after choice (length choice.legs)))
          (ap (λ n. take n choice.changes) (sym of.many) ∙ take-length choice.changes)
