-- `poll_head` meets its contract: the literal has the bytes of the log's address and length.
use borrow.Author.Rules.{rules}
use Rattle.poll.proofs.Bytes.{head_bytes}
use Rattle.poll.proofs.poll_head.Goals as goal

pub returns : goal.returns
returns c = head_bytes c.args.status c.args.wanted c.args.state c.args.id c.args.blocks _ (search rules) (search rules) c.log_length-len.ensures
