-- The least count, with one row more.
use Rattle.std.proofs.Common.{◌≡◌, sym, ◌∙◌, ap, ℕ, ◌+◌, ◌<◌, take, get_or, Bool, ◌&&◌, ◌||◌, List, length, Option}
use Rattle.std.specs.Prelude.{is_some}
use Rattle.std.proofs.lemmas.List.Folds.{list_all_more, list_any_more}
use Rattle.transit_base.specs.declared.numbers.XferId.{XferId}
use Rattle.fare_transfer_rules.specs.declared.groups.ClassedRow.{ClassedRow}
use Rattle.fare_transfer_rules.specs.Counts.{IsLeastCount, is_within}

-- among one row more
pub least_more : {not_above : Option ℕ → XferId → Bool} {suits : XferId → Bool} (among : List ClassedRow) (i : ℕ) (d : ClassedRow)
    (least new : Option (Option ℕ)) → i < length among → IsLeastCount not_above suits (take i among) least →
    ((count : Option ℕ) → is_within new count ≡ (is_within least count && not_above count (get_or among i d).row)) →
    is_some new ≡ (is_some least || suits (get_or among i d).row) → IsLeastCount not_above suits (take (i + 1) among) new
least_more {not_above} {suits} among i d least new lt before within some =
    record {
      within = λ count.
          within count ∙ ap (λ b. b && not_above count (get_or among i d).row) (before.within count)
          ∙ sym (list_all_more (λ (r : ClassedRow). not_above count r.row) among i d lt);
      some =
          some ∙ ap (λ b. b || suits (get_or among i d).row) before.some
          ∙ sym (list_any_more (λ (r : ClassedRow). suits r.row) among i d lt);
    }
