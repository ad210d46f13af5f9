use Rattle.plain_laws.proofs.lists.AscendingList.items.Goals as goal

pub returns-clause-ascending : goal.returns-clause-ascending
returns-clause-ascending g c = rw (← c.self.view_is) c.self.invariant
