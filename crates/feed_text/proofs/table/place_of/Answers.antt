use Rattle.std.proofs.Common.{◌≡◌, ℕ, [], true, false, bytes_eq, get_or, rules, tests}
use Rattle.std.proofs.lemmas.Iterator.{first_from_Range}
use Rattle.std.proofs.lemmas.Option.{unwrap_or-slice_get}
use Rattle.feed_files.specs.Names.{column_text}
use Rattle.feed_text.proofs.RangeLaws.{found_below}
use Rattle.feed_text.proofs.table.place_of.Goals as goal

pub returns : goal.returns
returns c =
    let test = λ (k : ℕ). bytes_eq (get_or c.args.fields.now k []) (column_text c.args.name) in
    found_below test c.args.columns c.find.result
    (first_from_Range _ _ _ c.find.result (λ k. true ≡ test k) (λ k. false ≡ test k) c.find.ensures.ran (λ x q k. search (rules, tests, unwrap_or-slice_get)) (λ x q k. search (rules, tests, unwrap_or-slice_get)))
