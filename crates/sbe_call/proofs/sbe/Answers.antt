use mathlib.Core.Path.{refl}
use Rattle.sbe_call.proofs.Answering.{unopened, met_in, refused_in, heard_in}
use Rattle.sbe_call.proofs.sbe.Goals as goal

pub returns-in_default : goal.returns-in_default
returns-in_default c = unopened c.args.lent.now c.in_default.ensures _ _ c.args.seeprom.now c.args.served.now _ c.answer_with.ensures

pub returns-in-Some-refusal : goal.returns-in-Some-refusal
returns-in-Some-refusal c =
    let due = c.in-Some-refusal.ensures in
    refused_in c.args.lent.now _ c.in-Some.ensures _ _ c.args.seeprom.now c.args.served.now _ due.0 _ c.answer_with-in-Some-refusal.ensures due.1

pub judge-asked-requires : goal.judge-asked-requires
judge-asked-requires c = (met_in c.args.lent.now _ c.in-Some.ensures c.args.request.now c.args.reply.now c.args.seeprom.now c.args.served.now _ refl c.in_default-refusal.ensures).0

pub hear-requires : goal.hear-requires
hear-requires c =
    let opens = c.in-Some.ensures in
    let long = met_in c.args.lent.now _ opens c.args.request.now c.args.reply.now c.args.seeprom.now c.args.served.now _ refl c.in_default-refusal.ensures in
    (opens.stands, opens.formed, long.0, long.1)

pub returns : goal.returns
returns c =
    heard_in c.args.lent.now _ c.in-Some.ensures _ _ c.args.seeprom.now c.args.served.now _ refl c.in_default-refusal.ensures _ _ _ c.judge-asked.ensures c.judged-found.ensures
    c.by_profile-ruling.ensures _ c.serve.ensures _ _ _ (c.hear.ensures.value, (c.hear.ensures.lent_after, c.hear.ensures.reply_after))
