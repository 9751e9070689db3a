use Rattle.std.proofs.Common.{ℕ, List, take, drop}
use Rattle.playing.proofs.Lines.{told_put, occ_zeros}
use Rattle.playing.proofs.play_occ.Goals as goal

pub returns : goal.returns
returns c =
    occ_zeros c.args.lent.now c.args.sender c.args.command.now c.occ_reply-reply.ensures
    (told_put _ (λ (l : List ℕ). take 1 (drop 2 l)) c.occ-told.ensures.0 c.occ-told.ensures.1.0 c.occ-told.ensures.1.1 c.put_line.ensures.puts c.put_line.ensures.fits)
