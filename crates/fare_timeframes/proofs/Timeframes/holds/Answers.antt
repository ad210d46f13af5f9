use Rattle.fare_timeframes.proofs.Timeframes.holds.Goals as goal

pub returns : goal.returns
returns c = λ feed are. c.is_held.ensures feed are (rw c.day.ensures at (c.kept_day.ensures feed are))
