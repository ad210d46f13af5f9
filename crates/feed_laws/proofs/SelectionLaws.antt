-- Which rows of fare_transfer_rules.txt are selected: where some row's count suffices, one of least count does, so a change is
-- arranged exactly where some row suffices.
use Rattle.std.proofs.Common.{◌≡◌, refl, ℕ, true, ◌||◌, arith}
use Rattle.std.specs.Prelude.{Option, Some, None}
use Rattle.std.specs.List.{list_any}
use Rattle.std.proofs.lemmas.Bool.{and_parts}
use Rattle.std.proofs.lemmas.Bool.Decides.{nat_tests}
use Rattle.feed_rows.specs.declared.fares.TransferFacts.{TransferFacts}
use Rattle.feed_rows.specs.FeedRows.{FeedRows}
use Rattle.plain_laws.proofs.Laws.{least_of_some, any_of_any, same_test}
use Rattle.feed_rows.specs.TransferRules.{AskedChange, asked_change, suffices, count_le, is_least_count, is_selected, is_selected_transfer, is_arranged}

-- ---- counts are ordered, an empty one last

pub count_le-trans : (a b c : Option ℕ) → count_le a b ≡ true → count_le b c ≡ true → count_le a c ≡ true
count_le-trans a b None ab bc = refl
count_le-trans (Some a) (Some b) (Some c) ab bc = grind (arith, nat_tests)
count_le-trans None (Some b) (Some c) ab bc = absurd (cc)
count_le-trans a None (Some c) ab bc = absurd (cc)

pub count_le-either : (a b : Option ℕ) → (count_le a b || count_le b a) ≡ true
count_le-either a None = refl
count_le-either None (Some b) = refl
count_le-either (Some a) (Some b) = grind (arith, nat_tests)

-- ---- transfer rules

-- some row is selected exactly where some row suffices
pub is_selected-some : (feed : FeedRows) (change : AskedChange) →
    list_any (is_selected feed change) feed.transfer_rules ≡ list_any (suffices feed change) feed.transfer_rules
unfolding is_least_count
is_selected-some feed change = same_test _ _
    (any_of_any (is_selected feed change) (suffices feed change) feed.transfer_rules
    (λ row h. (and_parts (suffices feed change row) _ h).0))
    (λ some.
    let l = least_of_some (suffices feed change)
    (λ row. row.count) count_le count_le-trans count_le-either feed.transfer_rules some in
    let passes = l.passes in
    l.is_item (is_selected feed change) (rw passes l.least))

-- a change is arranged exactly where some row suffices for it
pub is_arranged-suffices : (feed : FeedRows) (change : TransferFacts) →
    is_arranged feed change ≡ list_any (suffices feed (asked_change change)) feed.transfer_rules
unfolding is_arranged is_selected_transfer
is_arranged-suffices feed change = is_selected-some feed (asked_change change)
