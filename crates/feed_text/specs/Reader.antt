-- How far records were read from a text.
use Rattle.std.specs.Prelude.{◌≡◌, ◌++◌, ◌∷◌, [], ℕ, List, Option, Some, None, IfSome, map, All, Bool, true, false}
use Rattle.std.specs.Str.{is_utf8}
use Rattle.csv.specs.declared.reader.Trim.TheVariants as trim
use Rattle.csv.specs.declared.parser.State.TheVariants as st
use Rattle.csv.specs.Records.{AllText, fields_of}
use Rattle.csv.specs.Writing.{read_back}
use Rattle.csv.specs.Reading.{default_config, strip_bom, Ready, Reached, source_of, reader_config, reader_trim, reader_state}
use Rattle.feed_faults.specs.Records.{FileTable, cut, table_of_bytes}
use Rattle.feed_text.specs.declared.records.Records.{Records}
use Rattle.feed_text.specs.declared.records.RecordError.{RecordError}
use Rattle.feed_text.specs.declared.records.RecordError.TheVariants.{NotText, Stopped}

-- a record without a field counts as one of an empty field, and each field is cut
abbrev pub cut_record : List (List ℕ) → List (List ℕ)
cut_record fields = map cut (read_back fields)

-- the last record that was read
abbrev pub last_record : {R : Type 0} → Records R → List (List ℕ)
last_record records = cut_record (fields_of records.row)

-- one more may come: each read so far gave a record
abbrev pub is_going : {R : Type 0} → Records R → Bool
is_going records = records.going

-- the records that were read make this table. Where the source told its text as the reading began, they are the first ones
-- of that text, and those behind them are still to come
pub record StandsBehind {R : Type 0} (rem : R → Option (List ℕ)) (start : Option (List ℕ)) (table : FileTable) (records : Records R) : Type 0 where
  pub ready : Ready records.reader
  pub config : reader_config records.reader ≡ default_config
  pub no_trim : reader_trim records.reader ≡ trim.None
  pub rows : List (List (List ℕ))
  pub texts : All AllText rows
  pub is_table : table ≡ map cut_record rows
  pub told : IfSome start (λ text. (rest : List ℕ) × (source_of rem records.reader ≡ Some rest) × Reached default_config st.StartRecord (strip_bom text) rows (reader_state records.reader) rest)

-- the records are those of a text, the one that the source told; where it told none, of one that is UTF-8
pub record IsOfText (start : Option (List ℕ)) (text : List ℕ) : Type 0 where
  pub told : IfSome start (λ bytes. text ≡ bytes)
  pub utf8 : start ≡ None → is_utf8 text ≡ true

-- a table is that of a text
pub record IsTableOf (start : Option (List ℕ)) (table : FileTable) : Type 0 where
  pub text : List ℕ
  pub is_of : IsOfText start text
  pub is_table : table ≡ table_of_bytes text

-- where there is one record more, the table has it; where there is none, the table is that of the text
abbrev pub GoesOn : {R : Type 0} → (R → Option (List ℕ)) → Option (List ℕ) → FileTable → Bool → Records R → Type 0
GoesOn rem start table true records = StandsBehind rem start (table ++ last_record records ∷ []) records
GoesOn rem start table false records = IsTableOf start table

-- why there is no record, where the source told this text: it isn't UTF-8, or the reading stopped
abbrev pub Explains : Option (List ℕ) → RecordError → Type 0
Explains start NotText = IfSome start (λ text. is_utf8 text ≡ false)
Explains start Stopped = Unit {0}
