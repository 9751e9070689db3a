use Rattle.std.proofs.Common.{rules}
use Rattle.parting.proofs.Told.{told_none, told_put}
use Rattle.parting.proofs.tell.Goals as goal

pub returns-then-out-lt-LONGEST : goal.returns-then-out-lt-LONGEST
returns-then-out-lt-LONGEST c =
    let told = told_none c.args.first.now c.args.second.now c.args.out.now c.if-out-lt-LONGEST.true in
    record { value = told.0; out_after = told.1.0; prefix_len = told.1.1.0; upper_bound = told.1.1.1 }

pub returns : goal.returns
returns c =
    let page = c.put_parting.new.page in
    let told = told_put c.args.first.now c.args.second.now c.args.out.now {d' = page.out.now} {end = page.past} c.if-out-lt-LONGEST.false c.put_parting.ensures.fits (search rules) in
    search (rules, told)
