use Rattle.std.proofs.Common.{◌≡◌, ◌∙◌, ℕ, List, Option, length, None, Some, Bor, sym, subst, arith}
use Rattle.std.proofs.lemmas.List.{length-map}
use Rattle.std.specs.Prelude.{is_none}
use Rattle.plain_laws.specs.Plain.{find_below}
use Rattle.commands.specs.NumberedItems.{read_at}
use Rattle.feed_rows.specs.RideWords.{ride_word}
use Rattle.commands.specs.declared.usage.UsageFault.TheVariants as usage
use Rattle.plan_words.specs.Rides.{texts_of}
use Rattle.plan_words.proofs.RideLaws.{are_read, ride_unread, unread_within}
use Rattle.plan_words.proofs.rides.rides_in.Goals as goal

-- the first text that names no ride
abbrev IsFirst : Option ℕ → List (Bor (List ℕ)) → Type 0
IsFirst place texts = place ≡ find_below (length (texts_of texts)) (λ i. is_none (read_at ride_word (texts_of texts) i))

pub overflow_cast-result : goal.overflow_cast-result
overflow_cast-result c =
    let first = subst (IsFirst (Some c.in-Some.place)) c.as_slice.ensures.value c.in-Some.ensures in
    let within = unread_within (texts_of c.args.texts.items) c.in-Some.place (sym first) in
    omega (arith, c.requires.few, length-map c.args.texts.items (λ text. text.now), within)

pub overflow_add-result : goal.overflow_add-result
overflow_add-result c =
    let first = subst (IsFirst (Some c.in-Some.place)) c.as_slice.ensures.value c.in-Some.ensures in
    let within = unread_within (texts_of c.args.texts.items) c.in-Some.place (sym first) in
    omega (arith, c.requires.few, length-map c.args.texts.items (λ text. text.now), within)

pub returns-in-Some-clause-value : goal.returns-in-Some-clause-value
returns-in-Some-clause-value c =
    let first = subst (IsFirst (Some c.in-Some.place)) c.as_slice.ensures.value c.in-Some.ensures in
    sym (ride_unread (λ x. usage.BadRide x) (texts_of c.args.texts.items) c.in-Some.place (sym first))

pub returns-clause-value : goal.returns-clause-value
returns-clause-value c =
    let first = subst (IsFirst None) c.as_slice.ensures.value c.in-None.ensures in
    let read = are_read (λ x. usage.BadRide x) (texts_of c.args.texts.items) (sym first) in read.all

pub returns-clause-usual : goal.returns-clause-usual
returns-clause-usual c =
    let first = subst (IsFirst None) c.as_slice.ensures.value c.in-None.ensures in
    let read = are_read (λ x. usage.BadRide x) (texts_of c.args.texts.items) (sym first) in
    let many = length-map c.args.texts.items (λ text. text.now) in
    let long = read.long in
    record {
      counted = sym many ∙ sym long;
      some = omega (arith, long, many, c.requires.some);
      few = omega (arith, long, many, c.requires.few);
    }
