use mathlib.Core.Path.{refl}
use Rattle.occ_call.proofs.Answering.{unopened, met_in, refused_in, heard_in}
use Rattle.occ_call.proofs.occ.Goals as goal

pub returns-in_default : goal.returns-in_default
returns-in_default c = unopened c.args.lent.now c.in_default.ensures _ _ _ _ c.answer_with.ensures

pub returns-in-Some-refusal : goal.returns-in-Some-refusal
returns-in-Some-refusal c =
    let due = c.in-Some-refusal.ensures in
    refused_in c.args.lent.now _ c.in-Some.ensures _ _ _ _ due.0 _ c.answer_with-in-Some-refusal.ensures due.1

pub hear-requires : goal.hear-requires
hear-requires c =
    let opens = c.in-Some.ensures in
    (opens.stands, opens.formed, met_in c.args.lent.now _ opens _ _ c.args.reply.now _ refl c.in_default-refusal.ensures)

pub returns : goal.returns
returns c =
    heard_in c.args.lent.now _ c.in-Some.ensures _ _ _ _ refl c.in_default-refusal.ensures _ _ _ (c.hear.ensures.value, (c.hear.ensures.lent_after, c.hear.ensures.reply_after))
