use Rattle.std.proofs.Common.{◌∙◌, sym, ap}
use Rattle.std.proofs.lemmas.List.{length-map, get_or-map}
use Rattle.stop_order.specs.Numbered.{no_time}
use Rattle.feed_relations.specs.JudgedBy.{time_of_call}
use Rattle.feed_relations.proofs.judged.CallTimesStopTimes.time.Goals as goal

pub returns : goal.returns
returns c =
    let calls = c.args.self.now.0.now in
    let call = c.get-call.result in
    ap time_of_call (c.get-call.ensures call) ∙ sym (get_or-map time_of_call calls c.args.row call no_time (rw length-map at c.requires))
