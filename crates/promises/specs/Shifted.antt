-- Two worlds whose logs have other ids: from k on, ids are one higher in the second.
use Rattle.std.specs.Prelude.{ℕ, suc, cond, map, ltb}
use Rattle.record.specs.declared.Log.{Log}
use Rattle.record.specs.declared.Record.{Record}
use Rattle.change.specs.With.{with_logs}

unfoldable pub shifted : ℕ → ℕ → ℕ
shifted k i = cond (ltb i k) i (suc i)

unfoldable pub shifted_log : ℕ → Log → Log
shifted_log k x = record { id = shifted k x.id; reason = x.reason }

-- only the ids of the pending logs
unfoldable pub shifted_record : ℕ → Record → Record
shifted_record k r = with_logs r (map (shifted_log k) r.logs)
