-- `poll_reply` meets its contract: the data is the head, or the head and the CAPS block after it.
use Rattle.poll.specs.Poll.{oldest_id}
use Rattle.poll.proofs.Replied.{replied_short, replied_long}
use Rattle.poll.proofs.poll_reply.Goals as goal

pub returns-then-not-shows_caps : goal.returns-then-not-shows_caps
unfolding oldest_id
returns-then-not-shows_caps c = replied_short c.args.r c.args.w _ c.args.seq _ _ c.args.d.now _
    c.shows_caps.ensures
    c.status_byte-status.ensures
    c.if-not-shows_caps.true-raw
    c.poll_head-head.ensures
    c.reply.ensures

pub returns : goal.returns
unfolding oldest_id
returns c = replied_long c.args.r c.args.w _ c.args.seq _ _ c.args.d.now _
    c.shows_caps.ensures
    c.status_byte-status.ensures
    _ _ _
    c.if-not-shows_caps.false-raw
    c.poll_head-head-2.ensures
    c.caps_block-block.ensures
    c.copy.ensures
    c.copy-2.ensures
    c.reply-2.ensures
