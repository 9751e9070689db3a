-- `answers::reply_len` meets its contract: the tests are those of the definition. Assumes nothing.
use lib.Seq.{length-take-le}
use mathlib.Core.Path.{sym}
use native.Mathlib.Omega.{arith}
use Rattle.answers.proofs.Saying.{reply_none, reply_cut, reply_whole}
use borrow.Author.Rules.{rules}
use Rattle.answers.proofs.reply_len.Goals as goal

pub returns-then-reply-lt5 : goal.returns-then-reply-lt5
returns-then-reply-lt5 c = record { value = reply_none _ c.if-reply-lt5.true; prefix_len = search rules }

pub returns-then-reply-n : goal.returns-then-reply-n
returns-then-reply-n c = record { value = reply_cut _ _ c.if-reply-lt5.false c.be16.ensures c.if-reply-n.true; prefix_len = search rules }

pub returns : goal.returns
returns c = record { value = reply_whole _ _ c.if-reply-lt5.false c.be16.ensures c.if-reply-n.false; prefix_len = (omega arith, sym (length-take-le _ _ (omega arith))) }
