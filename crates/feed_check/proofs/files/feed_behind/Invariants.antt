use Rattle.feed_check.proofs.files.feed_behind.Given as goal

abbrev pub ghosts-related_feed : goal.ghosts-related_feed
ghosts-related_feed a = record { table = a.stop_times.table }
