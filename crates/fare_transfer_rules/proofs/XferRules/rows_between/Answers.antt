use Rattle.fare_transfer_rules.proofs.PairLaws.{rows_between}
use Rattle.fare_transfer_rules.proofs.XferRules.rows_between.Goals as goal

pub returns : goal.returns
returns c = λ feed are. rows_between feed c.args.self.now are c.args.from c.args.to _ (c.pair_rows.ensures feed are)
