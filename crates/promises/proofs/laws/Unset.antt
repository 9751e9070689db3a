-- Document 02, b: a board without a processor throttle point sends DVFS 0xFF with ERROR 95. Each row computes. Assumes nothing.
use Rattle.std.specs.Prelude.{ℕ, refl, List, [], ◌∷◌, ◌++◌, take}
use Rattle.promises.specs.Calls.{undo, redo, said, buffer_of, asks}
use Rattle.session.specs.Road.{Said}
use Rattle.promises.specs.Examples.{Row, All, holds, sent, after, poll, processor}
use Rattle.promises.proofs.laws.ComputedSession.{computed_session}
use Rattle.promises.proofs.laws.ComputedOcc.{computed_occ}
use Rattle.promises.proofs.laws.ComputedSbe.{computed_sbe}

-- processor 0xFF, 95, 5
unfoldable pub unset : List ℕ
unset = 0x04 ∷ 0x21 ∷ 0x00 ∷ 0x07 ∷ 0x13 ∷ 0x10 ∷ 0x01 ∷ 0x00 ∷ 0xFF ∷ 0x5F ∷ 0x05 ∷ 0x01 ∷ 0xB3 ∷ []

unfoldable pub unset_table : List Row
unset_table =
    -- accepted
    record {
      calls = sent unset ∷ [];
      look = λ (x : Said). x.answer ∷ take 8 x.reply;
      seen = 0 ∷ 0x04 ∷ 0x21 ∷ 0x00 ∷ 0x00 ∷ 0x00 ∷ 0x00 ∷ 0x25 ∷ 0xEE ∷ [];
    }
    -- kept, and polled: wanted 03, state 01
    ∷ record {
      calls = sent unset ∷ sent poll ∷ [];
      look = λ (x : Said). x.answer ∷ take 10 x.reply ++ x.session.held.thermal;
      seen = 0 ∷ 0x01 ∷ 0x00 ∷ 0x00 ∷ 0x00 ∷ 0x28 ∷ 0x00 ∷ 0x00 ∷ 0x01 ∷ 0x03 ∷ 0x01 ∷ 0xFF ∷ 0x5F ∷ 0x05 ∷ 0xFF ∷ 0xFF ∷ 0xFF ∷ 0xFF ∷ 0xFF ∷ 0xFF ∷ [];
    }
    -- well formed as an entry's body: processor 85, 95, 5 comes after it, and the next call answers 0
    ∷ record {
      calls = sent unset ∷ sent processor ∷ sent poll ∷ [];
      look = λ (x : Said). x.answer ∷ take 23 x.session.journal;
      seen = 0 ∷ 0x06 ∷ 0x00 ∷ 0xFF ∷ 0xFF ∷ 0xFF ∷ 0xFF ∷ 0xFF ∷ 0xFF ∷ 0xFF ∷ 0xFF ∷ 0xFF ∷ 0x06 ∷ 0x01 ∷ 0xFF ∷ 0x5F ∷ 0x05 ∷ 0xFF ∷ 0xFF ∷ 0xFF ∷ 0xFF ∷ 0xFF ∷ 0xFF ∷ 0x00 ∷ [];
    }
    -- undone and redone
    ∷ record {
      calls = sent unset ∷ sent processor ∷ undo ∷ undo ∷ [];
      look = λ (x : Said). x.answer ∷ x.kind ∷ x.session.held.thermal;
      seen = 0 ∷ 6 ∷ 0xFF ∷ 0xFF ∷ 0xFF ∷ 0xFF ∷ 0xFF ∷ 0xFF ∷ 0xFF ∷ 0xFF ∷ 0xFF ∷ [];
    }
    ∷ record {
      calls = sent unset ∷ undo ∷ redo ∷ [];
      look = λ (x : Said). x.answer ∷ x.kind ∷ x.session.held.thermal;
      seen = 0 ∷ 6 ∷ 0xFF ∷ 0x5F ∷ 0x05 ∷ 0xFF ∷ 0xFF ∷ 0xFF ∷ 0xFF ∷ 0xFF ∷ 0xFF ∷ [];
    }
    ∷ []

pub unset_thresholds : All holds unset_table
unfolding unset_table computed_session computed_occ computed_sbe said asks buffer_of sent after poll processor unset
unset_thresholds = (refl, (refl, (refl, (refl, (refl, tt)))))
