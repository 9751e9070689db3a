use Rattle.std.proofs.Common.{rules, refl}
use Rattle.listing.proofs.Judged.{listed_none, listed_put}
use Rattle.listing.proofs.list.Goals as goal

pub returns-then-out-lt-LONGEST : goal.returns-then-out-lt-LONGEST
returns-then-out-lt-LONGEST c = let none = listed_none c.args.j.now c.args.out.now c.if-out-lt-LONGEST.true in
    record { value = none.0; out_after = none.1.0; prefix_len = none.1.1 }

pub returns : goal.returns
returns c =
    let page = c.put_listing.new.page in
    let put = listed_put c.args.j.now c.args.out.now {d' = page.out.now} {end = page.past} c.if-out-lt-LONGEST.false refl (search rules) in
    search (rules, put)
