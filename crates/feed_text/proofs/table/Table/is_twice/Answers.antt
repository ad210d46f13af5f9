use Rattle.std.proofs.Common.{◌∙◌, ℕ, ◌<◌, ◌+◌, [], length, refl, sym, bytes_eq, get_or, arith, rules, tests}
use Rattle.std.proofs.lemmas.Iterator.{YieldsList-from_range}
use Rattle.std.proofs.lemmas.Iterator.Search.{any_from_yields_List}
use Rattle.std.proofs.lemmas.Option.{unwrap_or-slice_get}
use Rattle.feed_files.specs.Names.{column_text}
use Rattle.feed_faults.specs.Records.{header}
use Rattle.feed_text.proofs.AccessLaws.{column_within, twice_at, absent_once}
use Rattle.feed_text.proofs.table.Table.is_twice.Goals as goal

pub returns-in-None : goal.returns-in-None
returns-in-None c = sym (absent_once c.args.self.now c.args.name (sym c.column.ensures ∙ c.in-None.is))

pub overflow_add-first : goal.overflow_add-first
overflow_add-first c =
    let within : c.in-Some.first < length (header c.args.self.now) = column_within c.args.self.now c.args.name c.in-Some.first (sym c.column.ensures ∙ c.in-Some.is) in
    omega (arith, within, c.columns-columns.ensures, c.columns-columns.type_inv)

pub returns-in-Some : goal.returns-in-Some
returns-in-Some c =
    let v = c.self.inside in
    let test = λ (k : ℕ). bytes_eq (get_or v.fields k []) (column_text c.args.name) in
    any_from_yields_List test _ _ c.any.result c.any.ensures.ran (YieldsList-from_range (c.in-Some.first + 1) c.columns-columns.result _ refl refl) (λ x b q k. search (rules, tests, unwrap_or-slice_get))
    ∙ rw (← c.self.view_is) (twice_at v.ends.items v.fields c.self.invariant.0 c.args.name c.in-Some.first c.columns-columns.result (rw (← c.self.view_is) at (sym c.column.ensures ∙ c.in-Some.is)) (rw (← c.self.view_is) at c.columns-columns.ensures))
