use Rattle.std.proofs.Common.{◌≡◌, ◌∙◌, ap, subst, sym}
use Rattle.folder_io.specs.KeptFiles.{AreWithin}
use Rattle.feed_maker.specs.MadeFiles.{made_files, with_fares, with_trips}
use Rattle.feed_maker.proofs.HeldLaws.{held_put, within_made}
use Rattle.feed_maker.proofs.files.gen_files.Goals as goal

pub returns-clause-files : goal.returns-clause-files
returns-clause-files c =
    held_put c.args.seed c.args.lines _ _ _ c.empty-files.ensures c.in_ok-put_trips.ensures c.in_ok-put_fares.ensures

pub returns-clause-within : goal.returns-clause-within
unfolding made_files
returns-clause-within c =
    let trips = c.in_ok-put_trips.ensures ∙ ap (with_trips c.args.seed c.args.lines) c.empty-files.ensures in
    let made : c.put_fares.new.files ≡ made_files c.args.seed c.args.lines =
    c.in_ok-put_fares.ensures ∙ ap with_fares trips in
    subst AreWithin (sym made) (within_made c.args.seed c.args.lines c.requires.lines)
