-- A text read line by line.
use Rattle.std.specs.Prelude.{ℕ, List, [], ◌∷◌, ◌++◌, Option, Some, None}
use Rattle.feed_rows.specs.declared.journeys.Query.{Query}
use Rattle.feed_rows.specs.declared.fares.Entry.{Entry}
use Rattle.feed_rows.specs.FeedRows.{FeedRows}
use Rattle.plain_laws.specs.Plain.{given, given_last, after}
use Rattle.line_cuts.specs.Cuts.{lines_in, fields_in}
use Rattle.ticket_read.specs.Drafts.{empty_draft, with_item}
use Rattle.ticket_read.specs.Items.{item_of}
use Rattle.ticket_read.specs.Judgement.{entry_of}
use Rattle.ticket_read.specs.declared.drafts.Draft.{Draft}
use Rattle.ticket_read.specs.declared.drafts.Item.{Item}
use Rattle.ticket_read.specs.declared.drafts.Item.TheVariants as item
use Rattle.ticket_read.specs.declared.reader.Reading.{Reading}

-- before any line
abbrev pub start : Reading
start = record { done = []; draft = None }

-- these entries are read, and no line after them
abbrev pub all_done : List Entry → Reading
all_done entries = record { done = entries; draft = None }

-- and lines of one more
abbrev pub with_draft : List Entry → Draft → Reading
with_draft entries draft = record { done = entries; draft = Some draft }

-- the entry whose lines were read last is closed, if there is one
abbrev pub closed_with : FeedRows → Query → List Entry → Option Draft → Option Reading
closed_with feed query entries None = Some (all_done entries)
closed_with feed query entries (Some draft) =
    given_last (entry_of feed query draft) (λ entry. all_done (entries ++ entry ∷ []))

unfoldable pub closed : FeedRows → Query → Reading → Option Reading
closed feed query reading = closed_with feed query reading.done reading.draft

-- the next entry begins
unfoldable pub begun : FeedRows → Query → Reading → Option Reading
begun feed query reading = given_last (closed feed query reading) (λ before. with_draft before.done empty_draft)

-- what a line tells is taken
abbrev pub added : Reading → Item → Option Reading
added reading item = given_last reading.draft (λ draft. with_draft reading.done (with_item draft item))

abbrev pub told : FeedRows → Query → Reading → Item → Option Reading
told feed query reading item.Head = begun feed query reading
told feed query reading (item.Walk from to) = added reading (item.Walk from to)
told feed query reading (item.Ride ride from to) = added reading (item.Ride ride from to)
told feed query reading (item.Leg pick) = added reading (item.Leg pick)
told feed query reading (item.Change pick) = added reading (item.Change pick)

-- a line is read
unfoldable pub read_line : FeedRows → Query → Reading → List ℕ → Option Reading
read_line feed query reading line = given (item_of feed (fields_in line)) (told feed query reading)

-- the entries that the lines of a text tell
unfoldable pub read_entries : FeedRows → Query → List ℕ → Option (List Entry)
read_entries feed query text =
    given (after (read_line feed query) start (lines_in text)) (λ reading.
    given_last (closed feed query reading) (λ last. last.done))
