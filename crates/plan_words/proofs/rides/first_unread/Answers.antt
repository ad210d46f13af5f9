use Rattle.std.proofs.Common.{sym, ◌<◌, None, Some, length, arith}
use Rattle.std.proofs.lemmas.List.{length-map}
use Rattle.std.specs.Prelude.{is_none}
use Rattle.plain_laws.proofs.Laws.{find_below_found, find_below_next}
use Rattle.commands.specs.NumberedItems.{read_at}
use Rattle.feed_rows.specs.RideWords.{ride_word}
use Rattle.plan_words.specs.Rides.{ride_of, texts_of}
use Rattle.plan_words.proofs.RideLaws.{unread_at}
use Rattle.plan_words.proofs.rides.first_unread.Goals as goal

pub returns-in-None : goal.returns-in-None
returns-in-None c =
    let texts = texts_of c.args.texts.now in
    let inside : c.loop-i.i < length texts = omega
    (arith, c.loop-i-test.true, length-map c.args.texts.now (λ text. text.now)) in
    let here = unread_at ride_of texts c.loop-i.i None inside c.in-None.ensures.value in
    sym (find_below_found (λ i. is_none (read_at ride_word texts i))
    (length texts) c.loop-i.i inside c.loop-i.invariant here)

pub loop-i-preserved : goal.loop-i-preserved
loop-i-preserved c =
    let texts = texts_of c.args.texts.now in
    let inside : c.loop-i.i < length texts = omega
    (arith, c.loop-i-test.true, length-map c.args.texts.now (λ text. text.now)) in
    let here = unread_at ride_of texts c.loop-i.i (Some c.in-Some.field-0) inside c.in-Some.ensures.value in
    find_below_next (λ i. is_none (read_at ride_word texts i)) c.loop-i.i c.loop-i.invariant here
