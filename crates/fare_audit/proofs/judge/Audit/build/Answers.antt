use Rattle.fare_audit.proofs.judge.Audit.build.Goals as goal

pub invariant_of-result : goal.invariant_of-result
invariant_of-result c =
    record {
      low = c.requires.low;
      high = c.requires.high;
      few = c.requires.few;
      timeframes = c.in-Ok.ensures;
      rules = c.in_ok-rules.ensures;
      products = c.in_ok-products.ensures;
    }
