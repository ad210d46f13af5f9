-- Lines that are read one after another.
use Rattle.std.proofs.Common.{◌≡◌, refl, sym, ◌∙◌, ap, subst, ℕ, zero, suc, ◌<◌, List, [], ◌∷◌, ◌++◌, map, Option, Some, None, arith}
use Rattle.std.specs.Prelude.{option_and_then}
use Rattle.std.specs.Option.{option_to_list}
use Rattle.std.proofs.lemmas.List.{map-append}
use Rattle.std.proofs.lemmas.Option.{none-some, same_Some}
use Rattle.feed_rows.specs.FeedRows.{FeedRows}
use Rattle.feed_rows.specs.declared.fares.Entry.{Entry}
use Rattle.feed_rows.specs.declared.journeys.Query.{Query}
use Rattle.plain_laws.specs.Plain.{joined_below, after}
use Rattle.plain_laws.proofs.Laws.{after-append}
use Rattle.line_cuts.specs.Cuts.{fields_in}
use Rattle.ticket_read.specs.Drafts.{with_item}
use Rattle.ticket_read.specs.Items.{item_of}
use Rattle.ticket_read.specs.Readings.{with_draft, read_line}
use Rattle.ticket_read.specs.declared.drafts.Draft.{Draft}
use Rattle.ticket_read.specs.declared.drafts.Item.{Item}
use Rattle.ticket_read.specs.declared.drafts.Item.TheVariants as item
use Rattle.ticket_read.proofs.CutLaws.{ended, AreUnbroken, unbroken_both}
use Rattle.ticket_read.proofs.ItemLaws.{Tells, TellsLine}

-- what a line that begins no entry adds
abbrev pub taken : Draft → Item → Option Draft
taken draft item.Head = None
taken draft (item.Walk from to) = Some (with_item draft (item.Walk from to))
taken draft (item.Ride ride from to) = Some (with_item draft (item.Ride ride from to))
taken draft (item.Leg pick) = Some (with_item draft (item.Leg pick))
taken draft (item.Change pick) = Some (with_item draft (item.Change pick))

abbrev pub take_line : FeedRows → Draft → List ℕ → Option Draft
take_line feed draft front = option_and_then (taken draft) (item_of feed (fields_in front))

-- these lines lead from the one draft to the other
pub record Reads (feed : FeedRows) (lines : List (List ℕ)) (before end : Draft) : Type 0 where
  pub fronts : List (List ℕ)
  pub are : lines ≡ map ended fronts
  pub unbroken : AreUnbroken fronts
  pub goes : after (take_line feed) before fronts ≡ Some end

pub reads_none : (feed : FeedRows) (draft : Draft) → Reads feed [] draft draft
reads_none feed draft = record { fronts = []; are = refl; unbroken = tt; goes = refl }

pub reads_one : (feed : FeedRows) (text : List ℕ) (told : Item) (before end : Draft) → Tells feed text told → taken before told ≡ Some end → Reads feed (text ∷ []) before end
reads_one feed text told before end line is =
    let tells = line.tells in
    record {
      fronts = line.front ∷ [];
      are = ap (λ (t : List ℕ). t ∷ []) line.is;
      unbroken = (line.unbroken, tt);
      goes = rw (tells, is) refl;
    }

-- a line that is there
pub reads_line : (feed : FeedRows) (text : Option (List ℕ)) (told : Item) (before end : Draft) → TellsLine feed text told → taken before told ≡ Some end
    → Reads feed (option_to_list text) before end
reads_line feed text told before end line is =
    subst (λ (t : Option (List ℕ)). Reads feed (option_to_list t) before end) (sym line.is_there) (reads_one feed line.line_text told before end line.tells is)

pub reads_both : (feed : FeedRows) (lines more : List (List ℕ)) (before between end : Draft) → Reads feed lines before between → Reads feed more between end → Reads feed (lines ++ more) before end
reads_both feed lines more before between end one other =
    let first = one.goes in
    record {
      fronts = one.fronts ++ other.fronts;
      are = ap (λ (ls : List (List ℕ)). ls ++ more) one.are ∙ ap (λ (ls : List (List ℕ)). map ended one.fronts ++ ls) other.are ∙ sym (map-append ended one.fronts other.fronts);
      unbroken = unbroken_both one.fronts other.fronts one.unbroken other.unbroken;
      goes = after-append (take_line feed) before one.fronts other.fronts ∙ rw first other.goes;
    }

-- lines that are joined number by number
pub reads_joined : (feed : FeedRows) (n : ℕ) (lines : ℕ → List (List ℕ)) (draft : ℕ → Draft) → ((i : ℕ) → i < n → Reads feed (lines i) (draft i) (draft (suc i)))
    → Reads feed (joined_below n lines) (draft 0) (draft n)
reads_joined feed zero lines draft each = reads_none feed (draft 0)
reads_joined feed (suc n) lines draft each =
    reads_both feed (joined_below n lines) (lines n) (draft 0) (draft n) (draft (suc n))
    (reads_joined feed n lines draft (λ i lt. each i (omega arith))) (each n (omega arith))

-- a line that begins no entry is read into the draft
line_read : (feed : FeedRows) (query : Query) (done : List Entry) (before end : Draft) (front : List ℕ) → take_line feed before front ≡ Some end
    → read_line feed query (with_draft done before) front ≡ Some (with_draft done end)
unfolding read_line
line_read feed query done before end front e = by (item_of feed (fields_in front)) refl
  where
    by : (o : Option Item) → item_of feed (fields_in front) ≡ o → read_line feed query (with_draft done before) front ≡ Some (with_draft done end)
    by None is = absurd (none-some end (rw is at e))
    by (Some item.Head) is = absurd (none-some end (rw is at e))
    by (Some (item.Walk from to)) is = rw is (ap (λ (d : Draft). Some (with_draft done d)) (same_Some _ end (rw is at e)))
    by (Some (item.Ride ride from to)) is = rw is (ap (λ (d : Draft). Some (with_draft done d)) (same_Some _ end (rw is at e)))
    by (Some (item.Leg pick)) is = rw is (ap (λ (d : Draft). Some (with_draft done d)) (same_Some _ end (rw is at e)))
    by (Some (item.Change pick)) is = rw is (ap (λ (d : Draft). Some (with_draft done d)) (same_Some _ end (rw is at e)))

-- and so are many
pub lines_read : (feed : FeedRows) (query : Query) (done : List Entry) (before end : Draft) (fronts : List (List ℕ)) → after (take_line feed) before fronts ≡ Some end
    → after (read_line feed query) (with_draft done before) fronts ≡ Some (with_draft done end)
lines_read feed query done before end [] e = ap (λ (d : Draft). Some (with_draft done d)) (same_Some before end e)
lines_read feed query done before end (front ∷ fronts) e = by (take_line feed before front) refl (λ between goes. lines_read feed query done between end fronts goes)
  where
    by : (o : Option Draft) → take_line feed before front ≡ o
        → ((between : Draft) → after (take_line feed) between fronts ≡ Some end → after (read_line feed query) (with_draft done between) fronts ≡ Some (with_draft done end))
        → after (read_line feed query) (with_draft done before) (front ∷ fronts) ≡ Some (with_draft done end)
    by None is rest = absurd (none-some end (rw is at e))
    by (Some between) is rest = let first = line_read feed query done before between front is in rw first (rest between (rw is at e))
