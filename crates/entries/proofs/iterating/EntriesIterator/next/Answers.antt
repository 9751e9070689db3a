use Rattle.std.proofs.Common.{rules}
use Rattle.entries.proofs.laws.Ahead.{left_none, left_stopped, left_first, left_fewer}
use Rattle.entries.proofs.iterating.EntriesIterator.next.Goals as goal

pub returns-in_default-clause-steps : goal.returns-in_default-clause-steps
returns-in_default-clause-steps c = let none = left_none c.args.self.now.rest.now c.in_default.ensures.cases in (none, none)

pub returns-then-n-eq0-clause-steps : goal.returns-then-n-eq0-clause-steps
returns-then-n-eq0-clause-steps c = let none = left_stopped c.in-Some.ensures.cases.0 c.next_len-n.ensures c.then-n-eq0.either in (none, none)

pub returns-clause-steps : goal.returns-clause-steps
returns-clause-steps c =
    left_first c.in-Some.ensures.cases.0 c.next_len-n.ensures c.if-n-eq0.false c.if-after-n.false c.split_at.ensures.front c.split_at.ensures.back

pub returns-clause-goes : goal.returns-clause-goes
returns-clause-goes c =
    let fewer =
    left_fewer c.in-Some.ensures.cases.0 c.next_len-n.ensures c.if-n-eq0.false c.if-after-n.false c.split_at.ensures.front c.split_at.ensures.back in
    search rules
