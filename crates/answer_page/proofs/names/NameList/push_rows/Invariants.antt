use Rattle.std.proofs.Common.{◌≡◌, ℕ, List, [], ◌∷◌, true}
use Rattle.std.specs.Prelude.{Some}
use Rattle.feed_faults.specs.Records.{FileTable}
use Rattle.feed_text.specs.Reader.{StandsBehind, is_going}
use Rattle.answer_page.specs.Names.{pairs_at}
use Rattle.answer_page.proofs.names.NameList.push_rows.Given as goal

abbrev pub invariant-loop : goal.invariant-loop
invariant-loop l = record {
  going : is_going l.records ≡ true;
  rows : (text : List ℕ) (header : List (List ℕ)) → StandsBehind (λ s. Some s.now) (Some text) (header ∷ []) l.fn.records →
      (rows : FileTable) × StandsBehind (λ s. Some s.now) (Some text) (header ∷ rows) l.records × (l.self ≡ pairs_at l.id l.name rows);
}
