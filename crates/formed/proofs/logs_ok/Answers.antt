use Rattle.std.proofs.Common.{◌≡◌, length, rules, sym, ◌∙◌, arith}
use Rattle.formed.proofs.Loops.{logs_rest, logs_bad, logs_more, logs_end}
use Rattle.formed.proofs.logs_ok.Goals as goal

pub returns-then-log-eq0 : goal.returns-then-log-eq0
returns-then-log-eq0 c =
    let four : length c.args.logs ≡ 4 = search rules in
    c.unused.ensures ∙ logs_rest _ _ c.loop-i.low c.loop-i.i 4 four (omega arith) c.if-log-eq0.true ∙ c.loop-i.invariant

pub returns-then-not-log_ok : goal.returns-then-not-log_ok
returns-then-not-log_ok c =
    let four : length c.args.logs ≡ 4 = search rules in
    logs_bad _ _ c.loop-i.low c.loop-i.i (omega arith) c.if-log-eq0.false (sym c.log_ok.ensures ∙ c.if-not-log_ok.true) ∙ c.loop-i.invariant

pub loop-i-preserved : goal.loop-i-preserved
loop-i-preserved c =
    let four : length c.args.logs ≡ 4 = search rules in
    logs_more _ _ c.loop-i.low c.loop-i.i (omega arith) c.if-log-eq0.false (sym c.log_ok.ensures ∙ c.if-not-log_ok.false) ∙ c.loop-i.invariant

pub returns : goal.returns
returns c =
    let four : length c.args.logs ≡ 4 = search rules in
    logs_end _ _ c.loop-i.low c.loop-i.i (omega arith) ∙ c.loop-i.invariant
