-- Texts of entries of a query.
use Rattle.std.specs.Prelude.{◌≡◌, ℕ, List, All}
use Rattle.feed_rows.specs.declared.journeys.Query.{Query}
use Rattle.feed_rows.specs.declared.fares.Entry.{Entry}
use Rattle.feed_rows.specs.FeedRows.{FeedRows}
use Rattle.feed_rows.specs.JourneyEntries.{IsEntry}
use Rattle.feed_rows.specs.EntryText.{text_of_entries}

-- the entries are entries of the query, and this is their text
pub record IsTextOf (feed : FeedRows) (query : Query) (entries : List Entry) (text : List ℕ) : Type 0 where
  pub right : All (IsEntry feed query) entries
  pub text_is : text_of_entries feed entries ≡ text

-- a text of entries of the query is that of one list alone
abbrev pub HasOneListByText : FeedRows → Query → Type 0
HasOneListByText feed query =
    (entries others : List Entry) → All (IsEntry feed query) entries → All (IsEntry feed query) others
    → text_of_entries feed entries ≡ text_of_entries feed others → entries ≡ others
