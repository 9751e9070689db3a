use mathlib.Core.Path.{◌∙◌}
use Rattle.sbe_call.proofs.Answering.{told_in, full_in, done_in}
use borrow.Enum.Refused.{opened}
use Rattle.sbe_call.proofs.hear.Goals as goal

pub bell-bell-requires : goal.bell-bell-requires
bell-bell-requires c = c.requires.2

pub tell-requires : goal.tell-requires
tell-requires c = (c.requires.2, c.requires.3)

pub returns-in_default : goal.returns-in_default
returns-in_default c =
    let a = told_in _ c.args.lent.now c.requires.0 c.args.request.now c.args.reply.now _ _ c.bell-bell.ensures _ _ c.answer_with.ensures (opened c.in_default.in_default-own.keys2) c.tell.ensures in
    record { value = a.0; lent_after = a.1.0; reply_after = a.1.1 }

pub carry-requires : goal.carry-requires
carry-requires c = (c.requires.0.long, c.requires.1)

pub returns-then-is_err : goal.returns-then-is_err
returns-then-is_err c =
    let a = full_in _ c.args.lent.now c.requires.0 c.args.request.now c.args.reply.now _ _ c.bell-bell.ensures _ c.in-Grant.is _ c.no_tables-tables.ensures _ _ _ (c.is_err.ensures.value ∙ c.carry.ensures.value) c.carry.ensures.lent_after c.answer_with-then-is_err.ensures c.if-is_err.true in
    record { value = a.0; lent_after = a.1.0; reply_after = a.1.1 }

pub respond-requires : goal.respond-requires
respond-requires c = (c.requires.3, c.requires.2)

pub returns : goal.returns
returns c =
    let a = done_in _ c.args.lent.now c.requires.0 c.args.request.now c.args.reply.now _ _ c.bell-bell.ensures _ c.in-Grant.is _ c.no_tables-tables.ensures _ _ _ (c.is_err.ensures.value ∙ c.carry.ensures.value) c.carry.ensures.lent_after c.answer_with-2.ensures c.if-is_err.false _ c.respond.ensures in
    record { value = a.0; lent_after = a.1.0; reply_after = a.1.1 }
