-- How records go on through a text.
use Rattle.std.proofs.Common.{◌≡◌, ℕ, ◌++◌, List, [], ◌∷◌, true, false, Option, None, Some, inl, inr, refl, sym, ap, ◌∙◌, length, ◌≤◌, ◌+◌, arith}
use Rattle.std.specs.Prelude.{Bool, map, option_map, nat_le, IfSome, IsUtf8}
use Rattle.std.proofs.lemmas.Bool.{cases_Bool}
use Rattle.std.proofs.lemmas.Bool.Decides.{nat_tests}
use Rattle.std.proofs.lemmas.Str.{IsUtf8-from_is_utf8, is_utf8-from_IsUtf8}
use Rattle.std.proofs.lemmas.List.Elements.{All-nil, All-push}
use Rattle.std.specs.Str.{is_utf8}
use Rattle.std.proofs.lemmas.List.{map-append, length-map}
use Rattle.std.proofs.lemmas.Simd.{map-map}
use Rattle.std.proofs.lemmas.Option.{none-some}
use Rattle.csv.specs.declared.reader.ReaderBuilder.{ReaderBuilder}
use Rattle.csv.specs.declared.reader.Trim.TheVariants as trim
use Rattle.csv.specs.declared.parser.State.TheVariants as st
use Rattle.csv.specs.Machine.{Read, next_record}
use Rattle.csv.specs.Records.{AllText, fields_of}
use Rattle.csv.specs.declared.reader.Reader.{Reader}
use Rattle.csv.specs.Reading.{default_config, strip_bom, Ready, ReadRecord, ReadsNext, NextIs, TookRecord, pending_of, Reached, source_of, reader_config, reader_trim, reader_state, reader_headers, names_headers, took_first, builder_config, builder_names_headers, builder_trim, with_names_headers, with_flexible}
use Rattle.csv.specs.Writing.{read_back}
use Rattle.csv.proofs.ReadFacts.{rows-more, rows-end}
use Rattle.plain_laws.specs.Plain.{when}
use Rattle.feed_faults.specs.Records.{file_records, FileTable, cut, table_of_bytes, row_count}
use Rattle.feed_text.specs.declared.records.Records.{Records}
use Rattle.feed_text.specs.Reader.{StandsBehind, GoesOn, Explains, IsOfText, IsTableOf, cut_record}
use Rattle.feed_text.specs.declared.records.RecordError.TheVariants.{NotText}
use Rattle.feed_text.proofs.TextLaws.{is_plain, next_is_text, rows_are_text, strip_bom_is_text, text_of_rows, text_of_rows_is_text, records_of_text}
use Rattle.feed_text.proofs.RecordLaws.{all_records, some_records, rows_kept}

module _ {R : Type 0} (rem : R → Option (List ℕ)) where
  -- a new reader, of a builder that names no header
  pub begins : (a : Records R) (start : Option (List ℕ)) (b b1 b2 : ReaderBuilder)
      → builder_config b ≡ default_config → builder_trim b ≡ trim.None → b1 ≡ with_names_headers b false → b2 ≡ with_flexible b1 true
      → reader_config a.reader ≡ builder_config b2 → names_headers a.reader ≡ builder_names_headers b2 → reader_trim a.reader ≡ builder_trim b2
      → reader_headers a.reader ≡ None → reader_state a.reader ≡ st.StartRecord → source_of rem a.reader ≡ option_map strip_bom start
      → StandsBehind rem start [] a
  unfolding Reached
  begins a start b b1 b2 bc bt e1 e2 c n t h s src = record {
    ready = inr (inr (rw (n, e2, e1) refl, h));
    config = rw (c, e2, e1) bc;
    no_trim = rw (t, e2, e1) bt;
    rows = [];
    texts = All-nil AllText;
    is_table = refl;
    told = told start src;
  }
    where
      told : (o : Option (List ℕ)) → source_of rem a.reader ≡ option_map strip_bom o
          → IfSome o (λ text. (rest : List ℕ) × (source_of rem a.reader ≡ Some rest) × Reached default_config st.StartRecord (strip_bom text) [] (reader_state a.reader) rest)
      told None src = tt
      told (Some text) src = (strip_bom text, src, (sym s, refl))

  -- one record more
  pub goes_on : (a b : Records R) (start : Option (List ℕ)) (table : FileTable)
      → StandsBehind rem start table a → ReadRecord rem a.reader b.reader true (fields_of b.row) → took_first b.reader ≡ true → AllText (fields_of b.row)
      → GoesOn rem start table true b
  goes_on a b start table s r first text = record {
    ready = inl first;
    config = r.2 ∙ s.config;
    no_trim = r.3 ∙ s.no_trim;
    rows = s.rows ++ fields_of b.row ∷ [];
    texts = All-push AllText s.rows (fields_of b.row) s.texts text;
    is_table = rw (s.is_table, map-append cut_record s.rows (fields_of b.row ∷ [])) refl;
    told = told start s.told;
  }
    where
      told : (o : Option (List ℕ))
          → IfSome o (λ text. (rest : List ℕ) × (source_of rem a.reader ≡ Some rest) × Reached default_config st.StartRecord (strip_bom text) s.rows (reader_state a.reader) rest)
          → IfSome o (λ text. (rest : List ℕ) × (source_of rem b.reader ≡ Some rest) × Reached default_config st.StartRecord (strip_bom text) (s.rows ++ fields_of b.row ∷ []) (reader_state b.reader) rest)
      told None before = tt
      told (Some text) before =
          let more = rows-more rem a.reader b.reader (fields_of b.row) default_config st.StartRecord (strip_bom text) before.0 s.rows s.config before.1 before.2 r in
          (more.0, more.1, more.2)

  -- the records so far are the first of a text
  pub text_begins : (a : Records R) (start : Option (List ℕ)) (table : FileTable) → StandsBehind rem start table a
      → (text : List ℕ) × IsOfText start text × (length table ≤ length (table_of_bytes text))
  unfolding table_of_bytes
  text_begins a start table s = step start s.told refl
    where
      size : length table ≡ length s.rows
      size = ap length s.is_table ∙ length-map s.rows cut_record

      step : (o : Option (List ℕ))
          → IfSome o (λ text. (rest : List ℕ) × (source_of rem a.reader ≡ Some rest) × Reached default_config st.StartRecord (strip_bom text) s.rows (reader_state a.reader) rest)
          → start ≡ o → (text : List ℕ) × IsOfText start text × (length table ≤ length (map (map cut) (file_records text)))
      step None told e =
          let text = text_of_rows s.rows in
          let same : length (map (map cut) (file_records text)) ≡ length s.rows = length-map (file_records text) (map cut) ∙ ap length (records_of_text s.rows) ∙ length-map s.rows read_back in
          (text, record { told = rw e tt; utf8 = λ none. is_utf8-from_IsUtf8 text (text_of_rows_is_text s.rows s.texts) }, rw (size, same) (omega arith))
      step (Some text) told e =
          let within = some_records default_config (reader_state a.reader) (strip_bom text) told.0 s.rows told.2 in
          (text, record { told = rw e refl; utf8 = λ none. absurd (none-some text (sym none ∙ e)) }, rw (size, length-map (file_records text) (map cut)) within)

  -- no record more
  pub ends : (a b : Records R) (start : Option (List ℕ)) (table : FileTable)
      → StandsBehind rem start table a → ReadRecord rem a.reader b.reader false (fields_of b.row) → GoesOn rem start table false b
  unfolding table_of_bytes
  ends a b start table s r = step start s.told refl
    where
      step : (o : Option (List ℕ))
          → IfSome o (λ text. (rest : List ℕ) × (source_of rem a.reader ≡ Some rest) × Reached default_config st.StartRecord (strip_bom text) s.rows (reader_state a.reader) rest)
          → start ≡ o → IsTableOf start table
      step None told e = record {
        text = text_of_rows s.rows;
        is_of = record { told = rw e tt; utf8 = λ none. is_utf8-from_IsUtf8 (text_of_rows s.rows) (text_of_rows_is_text s.rows s.texts) };
        is_table = s.is_table ∙ sym (map-map (map cut) read_back s.rows) ∙ ap (map (map cut)) (sym (records_of_text s.rows));
      }
      step (Some text) told e =
          let all = all_records default_config (reader_state a.reader) (strip_bom text) told.0 s.rows told.2
          (rows-end rem a.reader b.reader (fields_of b.row) default_config told.0 s.config told.1 r) in
          record {
            text = text;
            is_of = record { told = rw e refl; utf8 = λ none. absurd (none-some text (sym none ∙ e)) };
            is_table = s.is_table ∙ sym (map-map (map cut) read_back s.rows) ∙ ap (map (map cut)) (rows_kept default_config st.StartRecord (reader_state a.reader) (strip_bom text) told.0 s.rows told.2 ∙ all);
          }

  -- what a read answers
  pub tells : (a b : Records R) (found : Bool) → (reader_trim a.reader ≡ trim.None → took_first b.reader ≡ true) → (reader_trim a.reader ≡ trim.None → AllText (fields_of b.row))
      → (reader_trim a.reader ≡ trim.None → Ready a.reader → ReadRecord rem a.reader b.reader found (fields_of b.row))
      → (start : Option (List ℕ)) (table : FileTable) → StandsBehind rem start table a → GoesOn rem start table found b
  tells a b true first text reads start table s = goes_on a b start table s (reads s.no_trim s.ready) (first s.no_trim) (text s.no_trim)
  tells a b false first text reads start table s = ends a b start table s (reads s.no_trim s.ready)

  -- a record that isn't UTF-8 is none of a text that is
  module _ (a : Records R) (b : Reader R) (start : Option (List ℕ)) (table : FileTable) (s : StandsBehind rem start table a) (fields : List (List ℕ)) (took : TookRecord rem a.reader b fields) where
    next_found : (rest ys : List ℕ) → is_plain (reader_state a.reader) ≡ true → IsUtf8 rest → (o : Option Read)
        → next_record default_config (reader_state a.reader) [] [] rest ≡ o → NextIs o true fields b.state ys → AllText fields
    unfolding AllText
    next_found rest ys plain is_text None e is = absurd (cc)
    next_found rest ys plain is_text (Some p) e is = rw is.1 ((next_is_text (reader_state a.reader) [] [] rest p plain tt is_text e).0)

    next_read : (rest : List ℕ) → is_plain (reader_state a.reader) ≡ true → IsUtf8 rest → (o : Option (List ℕ))
        → ReadsNext default_config (reader_state a.reader) (Some rest) o true fields b.state → AllText fields
    next_read rest plain is_text None wrong = absurd wrong
    next_read rest plain is_text (Some ys) reads = next_found rest ys plain is_text (next_record default_config (reader_state a.reader) [] [] rest) refl reads

    next_text : (text rest : List ℕ) → source_of rem a.reader ≡ Some rest → Reached default_config st.StartRecord (strip_bom text) s.rows (reader_state a.reader) rest
        → IsUtf8 text → AllText fields
    next_text text rest src reached is_text =
        let behind = rows_are_text st.StartRecord (reader_state a.reader) (strip_bom text) rest s.rows refl (strip_bom_is_text text is_text) reached in
        next_read rest behind.1 behind.2 (pending_of (rem b.rdr) b) (rw (s.config, src) at took)

    pub not_text : (AllText fields → ⊥) → Explains start NotText
    not_text none = wrong start s.told
      where
        wrong : (o : Option (List ℕ))
            → IfSome o (λ text. (rest : List ℕ) × (source_of rem a.reader ≡ Some rest) × Reached default_config st.StartRecord (strip_bom text) s.rows (reader_state a.reader) rest)
            → IfSome o (λ text. is_utf8 text ≡ false)
        wrong None told = tt
        wrong (Some text) told = elim (cases_Bool (is_utf8 text)) [
          | inl e ↦ absurd (none (next_text text told.0 told.1 told.2 (IsUtf8-from_is_utf8 text e)))
          | inr e ↦ e
        ]

  -- the table so far is no longer than that of the text
  pub goes_within : (a : Records R) (text : List ℕ) (table : FileTable) → StandsBehind rem (Some text) table a → length table ≤ length (table_of_bytes text)
  goes_within a text table s = let begins = text_begins a (Some text) table s in rw begins.1.told at begins.2

-- all of a table that is not too long
pub kept_within : (table file : FileTable) (most : ℕ) → table ≡ file → length table ≤ most + 1
    → Some table ≡ when (nat_le (row_count file) most) file
kept_within table file most e le =
    let rows : nat_le (row_count table) most ≡ true = grind (arith, nat_tests, le) in
    rw (← e, rows) refl

-- a table that is too long
pub too_long : (file : FileTable) (most : ℕ) → most + 2 ≤ length file → None ≡ when (nat_le (row_count file) most) file
too_long file most le =
    let rows : nat_le (row_count file) most ≡ false = grind (arith, nat_tests, le) in
    rw rows refl
