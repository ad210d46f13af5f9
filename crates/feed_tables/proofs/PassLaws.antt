-- The first fault of several, item by item and one after another.
use Rattle.std.proofs.Common.{◌≡◌, ◌<◌, ℕ, List, length, get_or, Option, None, ap, ◌∙◌}
use Rattle.std.specs.Option.{option_or}
use Rattle.plain_laws.specs.Plain.{first_below, first_in}
use Rattle.plain_laws.proofs.Laws.{at_item, first_in_found}
use Rattle.feed_files.specs.declared.faults.FeedFault.{FeedFault}
use Rattle.feed_text.specs.declared.errors.TextError.{TextError}
use Rattle.feed_text.specs.declared.errors.TextError.TheVariants as error
use Rattle.feed_text.specs.TextErrors.{IsErrorOf}

-- an error of the first is one of the first of two
pub error_first : (first later : Option FeedFault) (e : TextError) → IsErrorOf first e → IsErrorOf (option_or first later) e
error_first first later (error.Fault found) is = ap (λ o. option_or o later) is
error_first first later error.NoMemory is = tt

-- and so is one of the second, where there is no first
pub error_later : (first later : Option FeedFault) (e : TextError) → first ≡ None → IsErrorOf later e → IsErrorOf (option_or first later) e
error_later first later (error.Fault found) none is = ap (λ o. option_or o later) none ∙ is
error_later first later error.NoMemory none is = tt

-- an error at an item of a list is the first of the list, where there is none before
pub error_at : {Y : Type 0} (ys : List Y) (f : Y → Option FeedFault) (i : ℕ) (d : Y) (e : TextError) → i < length ys → first_below i (at_item ys f) ≡ None → IsErrorOf (f (get_or ys i d)) e → IsErrorOf (first_in ys f) e
error_at ys f i d (error.Fault found) lt none is = first_in_found ys f i d found lt none is
error_at ys f i d error.NoMemory lt none is = tt
