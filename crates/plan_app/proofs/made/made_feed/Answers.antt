use Rattle.std.proofs.Common.{◌≡◌, subst}
use Rattle.std.specs.Prelude.{None, IfOk, IfErr, OnOk}
use Rattle.feed_faults.specs.AcceptedFeed.{feed_of}
use Rattle.feed_faults.specs.FirstFault.{first_fault}
use Rattle.feed_text.specs.TextErrors.{IsErrorOf}
use Rattle.plan_app.proofs.made.made_feed.Goals as goal

pub returns : goal.returns
returns c =
    let are = c.in_ok-files.ensures.files in
    record {
      fault = subst (λ files. IfErr c.check.result (IsErrorOf (first_fault files))) are c.check.ensures.fault;
      sound = subst (λ files. OnOk c.check.result (first_fault files ≡ None)) are c.check.ensures.sound;
      feed = subst (λ files. IfOk c.check.result (λ feed. feed ≡ feed_of files)) are c.check.ensures.feed;
    }
