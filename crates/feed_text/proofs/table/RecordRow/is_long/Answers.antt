use Rattle.std.proofs.Common.{◌∙◌, ℕ, [], refl, get_or, rules, tests}
use Rattle.std.proofs.lemmas.Iterator.{YieldsList-from_range}
use Rattle.std.proofs.lemmas.Iterator.Search.{any_from_yields_List}
use Rattle.feed_faults.specs.Records.{is_filled, is_long}
use Rattle.feed_text.specs.Reader.{last_record}
use Rattle.feed_text.proofs.RangeLaws.{any_from}
use Rattle.feed_text.proofs.table.RecordRow.is_long.Goals as goal

pub returns : goal.returns
unfolding is_long
returns g c =
    let fields = last_record c.self.inside.records.now in
    any_from_yields_List (λ (k : ℕ). is_filled (get_or fields k [])) _ _ c.any.result c.any.ensures.ran (YieldsList-from_range _ _ _ refl refl) (λ x b q k. search (rules, tests))
    ∙ any_from (λ (k : ℕ). is_filled (get_or fields k [])) c.columns.result c.len.result
    ∙ rw (← c.self.view_is, c.columns.ensures, c.len.ensures) refl
