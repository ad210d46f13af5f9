use Rattle.std.proofs.Common.{◌≡◌, sym, ◌∙◌, is_none, true, arith}
use Rattle.plain_laws.proofs.Laws.{none_given}
use Rattle.feed_soundness.proofs.SoundRows.{sound_of_accepted}
use Rattle.feed_soundness.proofs.is_accepted.Goals as goal

pub returns-clause-sound : goal.returns-clause-sound
returns-clause-sound c files first none =
    let found : is_none c.args.fault ≡ true = grind (arith, c.is_none.ensures, none) in
    sound_of_accepted files (sym first ∙ none_given c.args.fault found)
